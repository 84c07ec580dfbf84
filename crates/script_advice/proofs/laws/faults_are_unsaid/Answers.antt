use Rattle.script_advice.proofs.UnsaidLaws.{unsaid}
use Rattle.script_advice.proofs.laws.faults_are_unsaid.Goals as goal

pub returns : goal.returns
returns c = unsaid
