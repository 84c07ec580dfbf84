use Rattle.std.proofs.Common.{◌-◌, ◌≤◌}
use Rattle.std.specs.Slice.Scan.{HoldsNowhere}
use Rattle.pod_runner.specs.Over.{can_take}
use Rattle.pod_runner.specs.Run.{session_of}
use Rattle.pod_runner.proofs.drive.next_due.Given as goal

abbrev pub invariant-loop-left : goal.invariant-loop-left
invariant-loop-left g l = (l.initial.from ≤ l.from)
    × HoldsNowhere (can_take (session_of g.B.Body.next g.P.Program.bodies l.run).live.pod (g.G.Gate.stock l.gate)) l.initial.from l.from

abbrev pub decreases-loop-left : goal.decreases-loop-left
decreases-loop-left g l = 32 - l.from
