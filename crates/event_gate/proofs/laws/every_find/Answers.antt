use Rattle.event_gate.proofs.FindLaws.{finds_are_whole}
use Rattle.event_gate.proofs.laws.every_find.Goals as goal

pub returns : goal.returns
returns c = finds_are_whole
