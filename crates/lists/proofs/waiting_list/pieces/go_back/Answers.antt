use Rattle.std.proofs.Common.{arith, get_or, suc, ◌+◌, ◌∙◌, ◌≡◌}
use Rattle.std.proofs.lemmas.List.{length-set}
use Rattle.lists.proofs.WaitingLaws.KeyLaws.{behind_passed, gone_back, other_default}
use Rattle.lists.proofs.waiting_list.pieces.go_back.Goals as goal
use Rattle.lists.specs.declared.waiting_list.keys.Key.{Key}

pub returns-then-is_ahead-clause-ok : goal.returns-then-is_ahead-clause-ok
returns-then-is_ahead-clause-ok c = record { behind = c.loop.invariant.behind; ahead = c.is_ahead.ensures.stays c.if-is_ahead.true }

pub returns-then-is_ahead-clause-walked : goal.returns-then-is_ahead-clause-walked
returns-then-is_ahead-clause-walked c = record { within = c.loop.invariant.within; rest = c.loop.invariant.rest; len = c.loop.invariant.len }

pub returns-clause-walked : goal.returns-clause-walked
returns-clause-walked c = record { within = c.loop.invariant.within; rest = c.loop.invariant.rest; len = c.loop.invariant.len }

pub loop-preserved : goal.loop-preserved
loop-preserved c =
    let ks = c.loop.keys in
    let at = c.loop.at in
    let none : Key = record { what = 0; prio = 0; arrival = 0 } in
    let x = get_or ks (at + 1) none in
    let was = c.loop.invariant in
    let goes = c.is_ahead.ensures.goes c.if-is_ahead.false in
    let here : x ≡ get_or ks (at + 1) x = other_default ks (at + 1) none x (omega (arith, goes.some)) in
    let next : at + 1 ≡ suc at = omega arith in
    record {
      within = omega (arith, goes.some, length-set ks at x);
      rest = gone_back ks at (at + 1) x next goes.some here ∙ was.rest;
      behind = behind_passed c.args.key ks at (at + 1) x next here goes;
      len = length-set ks at x ∙ was.len;
    }
