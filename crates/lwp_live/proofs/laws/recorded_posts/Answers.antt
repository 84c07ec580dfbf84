use Rattle.lwp_live.proofs.Recorded.{recorded_posts}
use Rattle.lwp_live.proofs.laws.recorded_posts.Goals as goal

pub returns : goal.returns
returns c = recorded_posts
