use Rattle.std.proofs.Common.{refl}
use Rattle.std.specs.Fmt.{digits}
use Rattle.state_text.proofs.laws.worked_rows.Goals as goal

pub returns-clause-letter : goal.returns-clause-letter
unfolding digits
returns-clause-letter c = refl

pub returns-clause-lock : goal.returns-clause-lock
unfolding digits
returns-clause-lock c = refl

pub returns-clause-agent : goal.returns-clause-agent
unfolding digits
returns-clause-agent c = refl

pub returns-clause-order : goal.returns-clause-order
unfolding digits
returns-clause-order c = refl

pub returns-clause-cycle : goal.returns-clause-cycle
unfolding digits
returns-clause-cycle c = refl
