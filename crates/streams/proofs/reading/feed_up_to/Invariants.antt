use Rattle.std.proofs.Common.{List, length, ℕ, ◌-◌, ◌≡◌, ◌≤◌}
use Rattle.streams.specs.Reading.{ReadSoFar}
use Rattle.streams.proofs.reading.feed_up_to.Given as goal

abbrev pub invariant-loop-total : goal.invariant-loop-total
invariant-loop-total g l = record {
  read : (bytes : List ℕ) × ReadSoFar (g.S.Source.left l.initial.source) (g.S.Source.left l.source) bytes × g.F.Feed.has l.into bytes
      × (l.total ≡ length bytes);
  same : g.S.Source.faults l.source ≡ g.S.Source.faults l.initial.source;
  within : l.total ≤ l.most;
}

abbrev pub decreases-loop-total : goal.decreases-loop-total
decreases-loop-total g l = l.most - l.total
