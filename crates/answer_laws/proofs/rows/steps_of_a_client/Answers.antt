use Rattle.answer_laws.proofs.rows.steps_of_a_client.Goals as goal
use Rattle.std.proofs.Common.{refl}
use Rattle.std.specs.Fmt.{digits}
use Rattle.std.specs.Prelude.{[]}

pub returns-clause-in_turn : goal.returns-clause-in_turn
unfolding digits
returns-clause-in_turn c = record { rest = []; whole = refl }

pub returns-clause-tells : goal.returns-clause-tells
unfolding digits
returns-clause-tells c = (refl, refl, refl)
