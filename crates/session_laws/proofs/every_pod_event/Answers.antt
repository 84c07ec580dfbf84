use Rattle.session_laws.proofs.EventLaws.{pod_events_are_exact}
use Rattle.session_laws.proofs.every_pod_event.Goals as goal

pub returns : goal.returns
returns g c = pod_events_are_exact g.row.B.Denot
