use Rattle.std.proofs.Common.{arith, suc, ◌+◌, ◌∙◌, ◌≡◌}
use Rattle.std.proofs.lemmas.List.{length-set}
use Rattle.lists.proofs.WaitingLaws.KeyLaws.{IsSorted-set, behind_passed, gone_back, set_counts}
use Rattle.lists.proofs.waiting_list.keys.go_back.Goals as goal

pub returns-then-is_ahead-clause-sorted : goal.returns-then-is_ahead-clause-sorted
returns-then-is_ahead-clause-sorted c = IsSorted-set c.loop.keys.items c.loop.at c.args.key (rw c.loop.invariant.rest c.requires.sorted)
    c.loop.invariant.within c.loop.invariant.behind (c.is_ahead.ensures.stays c.if-is_ahead.true)

pub returns-then-is_ahead-clause-counts : goal.returns-then-is_ahead-clause-counts
returns-then-is_ahead-clause-counts c = λ k. rw (← c.loop.invariant.rest) (set_counts c.loop.keys.items c.loop.at c.args.key k c.loop.invariant.within)

pub loop-preserved : goal.loop-preserved
loop-preserved c =
    let ks = c.loop.keys.items in
    let at = c.loop.at in
    let x = c.index.result.now in
    let was = c.loop.invariant in
    let goes = c.is_ahead.ensures.goes c.if-is_ahead.false in
    let next : at + 1 ≡ suc at = omega arith in
    record {
      within = omega (arith, goes.some, length-set ks at x);
      rest = gone_back ks at (at + 1) x next goes.some c.index.ensures ∙ was.rest;
      behind = behind_passed c.args.key ks at (at + 1) x next c.index.ensures goes;
      len = length-set ks at x ∙ was.len;
      capacity = was.capacity;
    }
