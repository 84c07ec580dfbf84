use Rattle.lwp_explore.proofs.Reached.{sessions_have_cores}
use Rattle.lwp_explore.proofs.laws.every_session_core.Goals as goal

pub returns : goal.returns
returns g c = sessions_have_cores g.row.B.Denot
