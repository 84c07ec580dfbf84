use Rattle.script_body.proofs.PostLaws.{is_posted}
use Rattle.lwp_serve.proofs.replaying.told.told_of.Goals as goal

pub told_by-requires-clause-posted : goal.told_by-requires-clause-posted
told_by-requires-clause-posted c = is_posted _ c.in-Ok.script c.in-Ok.ensures.spelt
