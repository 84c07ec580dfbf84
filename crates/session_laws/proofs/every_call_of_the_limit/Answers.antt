use Rattle.session_laws.proofs.Numbering.{steps_keep_limit}
use Rattle.session_laws.proofs.every_call_of_the_limit.Goals as goal

pub returns : goal.returns
returns c = steps_keep_limit
