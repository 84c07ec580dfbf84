use Rattle.session_laws.proofs.Numbering.{steps_keep_clock}
use Rattle.session_laws.proofs.every_call_of_the_clock.Goals as goal

pub returns : goal.returns
returns c = steps_keep_clock
