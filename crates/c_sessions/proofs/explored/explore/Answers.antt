use Rattle.c_sessions.proofs.explored.explore.Goals as goal
use Rattle.script_body.proofs.PostLaws.{is_posted}

pub explore_script-requires-clause-posted : goal.explore_script-requires-clause-posted
explore_script-requires-clause-posted c = is_posted _ c.in-Ok.script c.in-Ok.ensures.spelt
