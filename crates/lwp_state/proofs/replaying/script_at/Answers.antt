use Rattle.script_body.proofs.PostLaws.{is_posted}
use Rattle.lwp_state.proofs.replaying.script_at.Goals as goal

pub returns-in-Ok-clause-posted : goal.returns-in-Ok-clause-posted
returns-in-Ok-clause-posted c = is_posted _ c.in-Ok.script c.in-Ok.ensures.spelt
