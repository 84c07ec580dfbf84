use Rattle.answer_laws.proofs.rows.apart.Goals as goal
use Rattle.line_server.specs.Sessions.{session_next}
use Rattle.line_server.specs.Stores.{store_next}
use Rattle.std.proofs.Common.{refl}

pub returns : goal.returns
unfolding session_next store_next
returns c = (refl, refl)
