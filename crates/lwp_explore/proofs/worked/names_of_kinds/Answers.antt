use Rattle.lwp_explore.proofs.worked.names_of_kinds.Goals as goal
use Rattle.std.specs.Fmt.{digits}
use Rattle.std.proofs.Common.{refl}

pub returns-clause-ended : goal.returns-clause-ended
unfolding digits
returns-clause-ended c = refl

pub returns-clause-well : goal.returns-clause-well
unfolding digits
returns-clause-well c = refl
