use Rattle.lwp_explore.proofs.EndingLaws.{sessions_end}
use Rattle.lwp_explore.proofs.laws.every_session_ends.Goals as goal

pub returns : goal.returns
returns g c = sessions_end g.row.B.Denot
