use Rattle.session_laws.proofs.Numbering.{steps_bear_none}
use Rattle.session_laws.proofs.every_birth.Goals as goal

pub returns : goal.returns
returns c = steps_bear_none
