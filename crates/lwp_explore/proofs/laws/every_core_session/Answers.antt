use Rattle.lwp_explore.proofs.Played.{cores_have_sessions}
use Rattle.lwp_explore.proofs.laws.every_core_session.Goals as goal

pub returns : goal.returns
returns g c = cores_have_sessions g.row.B.Denot
