use Rattle.session_laws.proofs.EventLaws.{traps_have_no_hearers}
use Rattle.session_laws.proofs.every_trapped_event.Goals as goal

pub returns : goal.returns
returns g c = traps_have_no_hearers g.row.B.Denot
