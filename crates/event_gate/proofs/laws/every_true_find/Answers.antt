use Rattle.event_gate.proofs.Late.{finds_are_true}
use Rattle.event_gate.proofs.laws.every_true_find.Goals as goal

pub returns : goal.returns
returns c = finds_are_true
