use Rattle.std.proofs.Common.{refl}
use Rattle.std.specs.Fmt.{digits}
use Rattle.worked_rows.proofs.answer_rows.lines_alone.Goals as goal

pub returns-clause-one : goal.returns-clause-one
unfolding digits
returns-clause-one c = refl

pub returns-clause-a : goal.returns-clause-a
returns-clause-a c = refl

pub returns-clause-b : goal.returns-clause-b
returns-clause-b c = refl
