use Rattle.std.proofs.lemmas.Bool.{false≢true}
use Rattle.state_text.proofs.cycles.is_missing.Goals as goal

pub returns-in-Some : goal.returns-in-Some
returns-in-Some c = λ e. absurd (false≢true e)

pub returns-in-None : goal.returns-in-None
returns-in-None c = λ e. rw c.tid.view_is at c.in-None.ensures
