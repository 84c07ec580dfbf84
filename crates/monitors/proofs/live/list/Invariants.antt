use Rattle.monitors.proofs.live.list.Given as goal
use Rattle.std.proofs.Common.{take, ◌≡◌}

abbrev pub invariant-loop-mon : goal.invariant-loop-mon
invariant-loop-mon l = l.ids ≡ take l.mon-index l.live
