use Rattle.event_gate.proofs.HistoryLaws.{gates_keep_history}
use Rattle.event_gate.proofs.laws.every_gate_history.Goals as goal

pub returns : goal.returns
returns c = gates_keep_history
