use Rattle.std.proofs.Common.{◌≤◌, map}
use Rattle.pod_runner.specs.Inlets.{AreBelow}
use Rattle.pod_runner.proofs.inlets.place_of.Given as goal

abbrev pub invariant-loop-i : goal.invariant-loop-i
invariant-loop-i g l = (l.from ≤ l.i) × AreBelow (map g.I.Inlet.intake l.inlets) l.from l.i l.event
