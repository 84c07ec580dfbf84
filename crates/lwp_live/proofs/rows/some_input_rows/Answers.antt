use Rattle.lwp_live.proofs.rows.some_input_rows.Goals as goal
use Rattle.lwp_live.specs.Input.{heard_lines}
use Rattle.std.proofs.Common.{refl}
use Rattle.std.specs.Fmt.{digits}

pub returns-clause-posts : goal.returns-clause-posts
unfolding heard_lines digits
returns-clause-posts c = refl

pub returns-clause-said : goal.returns-clause-said
unfolding heard_lines digits
returns-clause-said c = refl
