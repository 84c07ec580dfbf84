use Rattle.lwp_live.proofs.hall.bring_all.Goals as goal
use Rattle.std.proofs.Common.{◌∙◌}

pub loop-preserved : goal.loop-preserved
loop-preserved g c = c.read_some-count.ensures.same ∙ c.loop.invariant
