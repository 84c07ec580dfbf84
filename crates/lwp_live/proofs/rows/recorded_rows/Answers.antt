use Rattle.lwp_live.proofs.rows.recorded_rows.Goals as goal
use Rattle.lwp_live.specs.Recorded.{recorded}
use Rattle.std.proofs.Common.{refl}
use Rattle.std.specs.Fmt.{digits}

pub returns-clause-posts : goal.returns-clause-posts
unfolding recorded
returns-clause-posts c = refl

pub returns-clause-text : goal.returns-clause-text
unfolding digits
returns-clause-text c = refl
