use Rattle.std.proofs.Common.{◌<◌, ℕ, map, slice_index_or}
use Rattle.event_gate.specs.Inlet.{Intake, IsInletTold}
use Rattle.pod_runner.proofs.inlets.all_told.Given as goal

abbrev pub invariant-loop-inlet : goal.invariant-loop-inlet
invariant-loop-inlet g l = (k : ℕ) (d : Intake) → k < l.inlet-index → IsInletTold (slice_index_or (map g.I.Inlet.intake l.inlets) k d)
