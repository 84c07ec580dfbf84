use Rattle.script_run.proofs.opening.open_all.Given as goal
use Rattle.script_run.specs.Opening.{AreOpen}
use Rattle.script_run.specs.Ties.{any_intake}
use Rattle.std.proofs.Common.{map}

abbrev pub invariant-loop-event : goal.invariant-loop-event
invariant-loop-event g l = AreOpen l.fn.events l.fn.rooms l.event (map any_intake l.inlets.items) l.seats.items
