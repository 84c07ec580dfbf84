use Rattle.script_advice.proofs.ErrorLaws.{first_is}
use Rattle.script_advice.proofs.laws.first_error_is_the_readers.Goals as goal

pub returns : goal.returns
returns c = first_is
