use Rattle.script_advice.proofs.ErrorLaws.{errors_told}
use Rattle.script_advice.proofs.laws.errors_are_told.Goals as goal

pub returns : goal.returns
returns c = errors_told
