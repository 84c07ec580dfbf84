use Rattle.script_run.proofs.outside.Outside.join_all.Given as goal
use Rattle.event_gate.specs.Inlet.{EachInlet}
use Rattle.script_run.specs.Served.{Hears}
use Rattle.script_run.specs.Ties.{IsSameOutside, IsTied, intakes}
use Rattle.std.proofs.Common.{length}

abbrev pub invariant-loop-client : goal.invariant-loop-client
invariant-loop-client g l = IsTied l.self × IsSameOutside l.fn.self l.self × EachInlet Hears (intakes l.fn.self) (intakes l.self)

abbrev pub decreases-loop-client : goal.decreases-loop-client
decreases-loop-client g l = length l.self.out.items
