use Rattle.line_server.proofs.PlaceLemmas.{IsBetween}
use Rattle.line_server.proofs.entries.place_of.Given as goal
use Rattle.std.proofs.Common.{◌-◌}

abbrev pub invariant-loop-low : goal.invariant-loop-low
invariant-loop-low l = IsBetween l.key l.entries l.low l.high

abbrev pub decreases-loop-low : goal.decreases-loop-low
decreases-loop-low l = l.high - l.low
