use Rattle.event_gate.proofs.HistoryLaws.{clients_keep_history}
use Rattle.event_gate.proofs.laws.every_client_history.Goals as goal

pub returns : goal.returns
returns c = clients_keep_history
