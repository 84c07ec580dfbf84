use Rattle.std.proofs.Common.{arith, length, sym, ◌<◌}
use Rattle.script_advice.proofs.NearLaws.{next_name, no_name_left}
use Rattle.script_advice.proofs.near_names.first_two_apart.Goals as goal

pub returns-then-two_apart : goal.returns-then-two_apart
returns-then-two_apart c =
    let few : c.loop-place.place < 256 = omega (arith, c.loop-place-test.true, c.min-place-end.ensures) in
    let some : c.loop-place.place < length c.args.names.now = omega (arith, c.loop-place-test.true, c.min-place-end.ensures, c.len.ensures) in
    rw (next_name 256 c.args.names.now c.loop-place.place few some, sym c.bytes-name.ensures.same, sym c.if-two_apart.ensures) at c.loop-place.invariant

pub loop-place-preserved : goal.loop-place-preserved
loop-place-preserved c =
    let few : c.loop-place.place < 256 = omega (arith, c.loop-place-test.true, c.min-place-end.ensures) in
    let some : c.loop-place.place < length c.args.names.now = omega (arith, c.loop-place-test.true, c.min-place-end.ensures, c.len.ensures) in
    rw (next_name 256 c.args.names.now c.loop-place.place few some, sym c.bytes-name.ensures.same, sym c.if-two_apart.ensures) at c.loop-place.invariant

pub returns : goal.returns
returns c =
    rw
    (no_name_left 256 c.args.names.now c.loop-place.place (omega (arith, c.loop-place-test.false, c.min-place-end.ensures, c.len.ensures)))
    at c.loop-place.invariant
