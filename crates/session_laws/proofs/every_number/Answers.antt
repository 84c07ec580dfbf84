use Rattle.session_laws.proofs.Numbering.{steps_number_exits}
use Rattle.session_laws.proofs.every_number.Goals as goal

pub returns : goal.returns
returns c = steps_number_exits
