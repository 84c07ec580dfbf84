use Rattle.lwp_explore.proofs.Alike.{calls_alike}
use Rattle.lwp_explore.proofs.laws.every_call.Goals as goal

pub returns : goal.returns
returns g c = calls_alike g.row.B.Denot
