use Rattle.std.proofs.Common.{arith, suc, ◌-◌, ◌∙◌, ◌≡◌}
use Rattle.std.proofs.lemmas.List.{length-set}
use Rattle.lists.proofs.WaitingLaws.KeyLaws.{IsSorted-set, ahead_of_passed, gone_forward, set_counts}
use Rattle.lists.proofs.waiting_list.keys.go_forward.Goals as goal

pub returns-then-is_behind-clause-sorted : goal.returns-then-is_behind-clause-sorted
returns-then-is_behind-clause-sorted c = IsSorted-set c.loop.keys.items c.loop.at c.args.key (rw c.loop.invariant.rest c.requires.sorted)
    c.loop.invariant.within (c.is_behind.ensures.stays c.if-is_behind.true) c.loop.invariant.ahead

pub returns-then-is_behind-clause-counts : goal.returns-then-is_behind-clause-counts
returns-then-is_behind-clause-counts c = λ k. rw (← c.loop.invariant.rest) (set_counts c.loop.keys.items c.loop.at c.args.key k c.loop.invariant.within)

pub loop-preserved : goal.loop-preserved
loop-preserved c =
    let ks = c.loop.keys.items in
    let at = c.loop.at in
    let x = c.index.result.now in
    let was = c.loop.invariant in
    let goes = c.is_behind.ensures.goes c.if-is_behind.false in
    let next : suc (at - 1) ≡ at = omega (arith, goes.some) in
    record {
      within = omega (arith, was.within, length-set ks at x);
      rest = gone_forward ks at (at - 1) x next was.within c.index.ensures ∙ was.rest;
      ahead = ahead_of_passed c.args.key ks at (at - 1) x next was.within c.index.ensures goes;
      len = length-set ks at x ∙ was.len;
      capacity = was.capacity;
    }
