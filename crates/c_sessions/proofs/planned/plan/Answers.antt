use Rattle.c_sessions.proofs.planned.plan.Goals as goal
use Rattle.script_body.proofs.PostLaws.{is_posted}

pub plan_script-requires-clause-posted : goal.plan_script-requires-clause-posted
plan_script-requires-clause-posted c = is_posted _ c.in-Ok.script c.in-Ok.ensures.spelt
