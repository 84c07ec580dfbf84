use Rattle.line_server.proofs.PlaceLemmas.{go_down, go_up, is-gap, is-key, is-missing, there}
use Rattle.line_server.proofs.entries.place_of.Goals as goal
use Rattle.std.proofs.Common.{Equal, Err, Greater, Less, Ok, arith, length, rules, sym, ◌+◌, ◌-◌, ◌/◌, ◌<◌, ◌∙◌}

pub loop-low-preserved-in-Less : goal.loop-low-preserved-in-Less
loop-low-preserved-in-Less c =
    let mid = c.loop-low.low + (c.loop-low.high - c.loop-low.low) / 2 in
    let before : mid < c.loop-low.high = grind (arith, c.loop-low-test.true) in
    let order = sym c.order.ensures ∙ c.in-Less.is in
    go_up c.args.key.now c.args.entries.now c.loop-low.low c.loop-low.high mid c.requires c.loop-low.invariant (grind arith) before
    (there c.args.key.now c.args.entries.now mid c.index-entries-mid.result Less (omega (arith, before, c.loop-low.invariant.within))
    c.index-entries-mid.is order)

pub loop-low-preserved : goal.loop-low-preserved
loop-low-preserved c =
    let mid = c.loop-low.low + (c.loop-low.high - c.loop-low.low) / 2 in
    let before : mid < c.loop-low.high = grind (arith, c.loop-low-test.true) in
    let order = sym c.order.ensures ∙ c.in-Greater.is in
    go_down c.args.key.now c.args.entries.now c.loop-low.low c.loop-low.high mid c.requires c.loop-low.invariant (grind arith) before
    (there c.args.key.now c.args.entries.now mid c.index-entries-mid.result Greater (omega (arith, before, c.loop-low.invariant.within))
    c.index-entries-mid.is order)

pub returns-in-Equal-clause-place : goal.returns-in-Equal-clause-place
returns-in-Equal-clause-place c =
    let mid = c.loop-low.low + (c.loop-low.high - c.loop-low.low) / 2 in
    let before : mid < c.loop-low.high = grind (arith, c.loop-low-test.true) in
    let within : mid < length c.args.entries.now = omega (arith, before, c.loop-low.invariant.within) in
    is-key c.args.key.now c.args.entries.now mid within
    (there c.args.key.now c.args.entries.now mid c.index-entries-mid.result Equal within c.index-entries-mid.is (sym c.order.ensures ∙ c.in-Equal.is))

pub returns-in-Equal-clause-missing : goal.returns-in-Equal-clause-missing
returns-in-Equal-clause-missing c =
    is-missing c.args.key.now c.args.entries.now (Ok (c.loop-low.low + (c.loop-low.high - c.loop-low.low) / 2)) c.requires (returns-in-Equal-clause-place c)

pub returns-clause-place : goal.returns-clause-place
returns-clause-place c = is-gap c.args.key.now c.args.entries.now c.loop-low.low c.loop-low.high c.loop-low.invariant (search rules)

pub returns-clause-missing : goal.returns-clause-missing
returns-clause-missing c = is-missing c.args.key.now c.args.entries.now (Err c.loop-low.low) c.requires (returns-clause-place c)
