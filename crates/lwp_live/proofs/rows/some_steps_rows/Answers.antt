use Rattle.lwp_live.proofs.rows.some_steps_rows.Goals as goal
use Rattle.lwp_live.specs.Answers.{told_in}
use Rattle.std.proofs.Common.{refl}
use Rattle.std.specs.Fmt.{digits}

pub returns : goal.returns
unfolding told_in digits
returns c = refl
