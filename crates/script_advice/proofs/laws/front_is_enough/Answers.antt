use Rattle.script_advice.proofs.ErrorLaws.{known_by_front}
use Rattle.script_advice.proofs.laws.front_is_enough.Goals as goal

pub returns : goal.returns
returns c = known_by_front
