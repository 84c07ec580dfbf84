use Rattle.event_gate.proofs.Steps.{names, starts}
use Rattle.event_gate.proofs.open.name_port.Goals as goal

pub push_as-requires-clause-rule : goal.push_as-requires-clause-rule
push_as-requires-clause-rule g c = λ n. names n _ _ _ c.requires.view

pub pop_as-requires-clause-rule : goal.pop_as-requires-clause-rule
pop_as-requires-clause-rule g c = (starts _ _ _ c.in-Ok.ensures.rule.0, λ items views h at. tt)
