use Rattle.lwp_explore.proofs.PathTraces.{sessions_have_paths}
use Rattle.lwp_explore.proofs.laws.every_session_path.Goals as goal

pub returns : goal.returns
returns g c = sessions_have_paths g.row.B.Denot
