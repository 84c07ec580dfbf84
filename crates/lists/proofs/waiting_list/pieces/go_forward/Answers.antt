use Rattle.std.proofs.Common.{arith, get_or, suc, ◌-◌, ◌∙◌, ◌≡◌}
use Rattle.std.proofs.lemmas.List.{length-set}
use Rattle.lists.proofs.WaitingLaws.KeyLaws.{ahead_of_passed, gone_forward, other_default}
use Rattle.lists.proofs.waiting_list.pieces.go_forward.Goals as goal
use Rattle.lists.specs.declared.waiting_list.keys.Key.{Key}

pub returns-then-is_behind-clause-ok : goal.returns-then-is_behind-clause-ok
returns-then-is_behind-clause-ok c = record { ahead = c.loop.invariant.ahead; behind = c.is_behind.ensures.stays c.if-is_behind.true }

pub returns-then-is_behind-clause-walked : goal.returns-then-is_behind-clause-walked
returns-then-is_behind-clause-walked c = record { within = c.loop.invariant.within; rest = c.loop.invariant.rest; len = c.loop.invariant.len }

pub returns-clause-walked : goal.returns-clause-walked
returns-clause-walked c = record { within = c.loop.invariant.within; rest = c.loop.invariant.rest; len = c.loop.invariant.len }

pub loop-preserved : goal.loop-preserved
loop-preserved c =
    let ks = c.loop.keys in
    let at = c.loop.at in
    let none : Key = record { what = 0; prio = 0; arrival = 0 } in
    let x = get_or ks (at - 1) none in
    let was = c.loop.invariant in
    let goes = c.is_behind.ensures.goes c.if-is_behind.false in
    let here : x ≡ get_or ks (at - 1) x = other_default ks (at - 1) none x (omega (arith, was.within)) in
    let next : suc (at - 1) ≡ at = omega (arith, goes.some) in
    record {
      within = omega (arith, was.within, length-set ks at x);
      rest = gone_forward ks at (at - 1) x next was.within here ∙ was.rest;
      ahead = ahead_of_passed c.args.key ks at (at - 1) x next was.within here goes;
      len = length-set ks at x ∙ was.len;
    }
