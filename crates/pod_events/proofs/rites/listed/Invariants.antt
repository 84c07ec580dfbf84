use Rattle.pod_events.proofs.rites.listed.Given as goal
use Rattle.std.proofs.Common.{take, ◌≡◌}

abbrev pub invariant-loop-i : goal.invariant-loop-i
invariant-loop-i l = l.ids ≡ take l.i l.reports.items
