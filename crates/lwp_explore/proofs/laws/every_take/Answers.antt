use Rattle.lwp_explore.proofs.Alike.{takes_alike}
use Rattle.lwp_explore.proofs.laws.every_take.Goals as goal

pub returns : goal.returns
returns g c = takes_alike g.row.B.Denot
