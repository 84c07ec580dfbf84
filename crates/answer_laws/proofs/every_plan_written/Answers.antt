use Rattle.answer_laws.proofs.Planning.{plans_are_sessions}
use Rattle.answer_laws.proofs.every_plan_written.Goals as goal

pub returns : goal.returns
returns c = plans_are_sessions
