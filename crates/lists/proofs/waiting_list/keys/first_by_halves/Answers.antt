use Rattle.std.proofs.Common.{Some, ap, arith, length, refl, rules, sym, ◌<◌, ◌∙◌}
use Rattle.lists.proofs.WaitingLaws.KeyLaws.{first_there, no_first_there}
use Rattle.lists.proofs.waiting_list.keys.first_by_halves.Goals as goal

pub returns-in-Some : goal.returns-in-Some
returns-in-Some c =
    let ks = c.args.keys.now.items in
    let at = c.start_of.result in
    let here = c.in-Some.ensures.lookup in
    let within : at < length ks = omega (arith, c.in-Some.ensures.variant.0 refl, c.args.keys.now.ok.0) in
    ap Some here ∙ sym (first_there c.args.what ks at c.in-Some.key.now c.start_of.ensures within (rw (← here) c.if-key-what.true))

pub returns-in_default : goal.returns-in_default
returns-in_default c =
    let here = c.in-Some.ensures.lookup in
    sym (no_first_there c.args.what c.args.keys.now.items c.start_of.result c.in-Some.key.now c.start_of.ensures c.requires
    (λ within same. c.if-key-what.false (rw (← here) at same)))

pub returns-in_default-2 : goal.returns-in_default-2
returns-in_default-2 c =
    sym (no_first_there c.args.what c.args.keys.now.items c.start_of.result (record { what = 0; prio = 0; arrival = 0 }) c.start_of.ensures
    c.requires (λ within same. search rules))
