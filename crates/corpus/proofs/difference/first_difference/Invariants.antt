use Rattle.std.proofs.Common.{◌≡◌, ◌≤◌, ◌+◌, ◌-◌, drop, length, take}
use Rattle.corpus.specs.Lines.{lines}
use Rattle.corpus.proofs.difference.first_difference.Given as goal

abbrev pub invariant-loop-left : goal.invariant-loop-left
invariant-loop-left l = record {
  counted : 1 ≤ l.number;
  before : take (l.number - 1) (lines l.found) ≡ take (l.number - 1) (lines l.wanted);
  found_left : drop (l.number - 1) (lines l.found) ≡ lines l.left;
  wanted_left : drop (l.number - 1) (lines l.wanted) ≡ lines l.other;
  room : l.number + length l.left ≤ length l.found + 1;
}

abbrev pub decreases-loop-left : goal.decreases-loop-left
decreases-loop-left l = length l.left
