use Rattle.lwp_live.proofs.SameSessions.{recorded_sessions}
use Rattle.lwp_live.proofs.laws.recorded_sessions.Goals as goal

pub returns : goal.returns
returns c = recorded_sessions
