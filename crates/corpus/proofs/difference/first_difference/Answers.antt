use Rattle.std.proofs.Common.{rules, arith, ◌≡◌, ◌≤◌, ◌+◌, ◌-◌, [], length, suc, take}
use Rattle.std.proofs.lemmas.List.{length-drop, nil_from_length}
use Rattle.std.proofs.lemmas.Slice.Eq.{bytes_eq-Decides}
use Rattle.corpus.specs.Lines.{line_end}
use Rattle.corpus.proofs.LineLaws.{all_same, first_is, has_byte, one_more_left, one_more_same}
use Rattle.corpus.proofs.difference.first_difference.Goals as goal
use Rattle.corpus.proofs.difference.first_difference.Goals.{then-not-is_empty, else-not-is_empty+then-not-is_empty-2}

pub returns-then-ne-clause-first : goal.returns-then-ne-clause-first
returns-then-ne-clause-first c =
    let k = c.loop-left.invariant in
    record {
      counted = k.counted;
      before = k.before;
      found_line = rw k.found_left (rw (first_is c.loop-left.left.now) c.first_line.ensures.line);
      wanted_line = rw k.wanted_left (rw (first_is c.loop-left.other.now) c.first_line-in-loop-left.ensures.line);
      other_line = grind arith;
    }

-- something was left in one of the two
some_left : (c : goal.Else-ne) → 1 ≤ length c.loop-left.left.now + length c.loop-left.other.now
some_left c = elim c.if-not-is_empty.branch [
  | then-not-is_empty w ↦ grind arith
  | else-not-is_empty+then-not-is_empty-2 w ↦ grind arith
]

-- the two first lines are the same
same_line : (c : goal.Else-ne) → take (line_end c.loop-left.left.now) c.loop-left.left.now ≡ take (line_end c.loop-left.other.now) c.loop-left.other.now
same_line c =
    let same : c.first_line.result.0.now
    ≡ c.first_line-in-loop-left.result.0.now = grind (rules, bytes_eq-Decides c.first_line.result.0.now c.first_line-in-loop-left.result.0.now) in
    rw (c.first_line.ensures.line, c.first_line-in-loop-left.ensures.line) at same

line_taken : (c : goal.Else-ne) → suc (length c.first_line.result.1.now) ≤ length c.loop-left.left.now
line_taken c =
    let left = c.loop-left.left.now in
    rw c.first_line.ensures.rest
    (omega (arith, has_byte left c.loop-left.other.now (some_left c) (same_line c), c.first_line.ensures.within, length-drop (line_end left) left))

pub loop-left-smaller : goal.loop-left-smaller
loop-left-smaller c = line_taken c

pub loop-left-preserved : goal.loop-left-preserved
loop-left-preserved c =
    let k = c.loop-left.invariant in
    let left = c.loop-left.left.now in
    let other = c.loop-left.other.now in
    let next : c.loop-left.number + 1 - 1 ≡ suc (c.loop-left.number - 1) = omega (arith, k.counted) in
    record {
      counted = omega (arith, k.counted);
      before = rw next (one_more_same (c.loop-left.number - 1) _ _ left other k.before k.found_left k.wanted_left (same_line c));
      found_left = rw (next, c.first_line.ensures.rest) (one_more_left (c.loop-left.number - 1) _ left k.found_left);
      wanted_left = rw (next, c.first_line-in-loop-left.ensures.rest) (one_more_left (c.loop-left.number - 1) _ other k.wanted_left);
      room = omega (arith, k.room, line_taken c);
    }

pub returns-clause-same : goal.returns-clause-same
returns-clause-same c =
    let k = c.loop-left.invariant in
    let none : c.loop-left.left.now ≡ [] = nil_from_length c.loop-left.left.now (grind arith) in
    let nor : c.loop-left.other.now ≡ [] = nil_from_length c.loop-left.other.now (grind arith) in
    all_same (c.loop-left.number - 1) c.args.found.now c.args.wanted.now k.before (rw none at k.found_left) (rw nor at k.wanted_left)
