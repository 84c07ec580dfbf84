use Rattle.lwp_live.proofs.rows.long_rows.Goals as goal
use Rattle.std.proofs.Common.{refl}
use Rattle.std.specs.Fmt.{digits}

pub returns-clause-most : goal.returns-clause-most
unfolding digits
returns-clause-most c = refl
