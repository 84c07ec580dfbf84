use Rattle.c_sessions.proofs.replayed.replay.Goals as goal
use Rattle.script_body.proofs.PostLaws.{is_posted}

pub replay_script-requires-clause-posted : goal.replay_script-requires-clause-posted
replay_script-requires-clause-posted c = is_posted _ c.in-Ok.script c.in-Ok.ensures.spelt
