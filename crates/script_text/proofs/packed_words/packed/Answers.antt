use Rattle.std.proofs.Common.{arith, refl, ◌-◌}
use Rattle.script_text.proofs.PackedLemmas.{read_more}
use Rattle.script_text.proofs.packed_words.packed.Goals as goal

pub overflow_mul-number : goal.overflow_mul-number
overflow_mul-number c =
    let before = c.loop-at.invariant in
    let more = read_more c.args.word.now c.loop-at.number c.loop-at.at _ c.loop-at-test.true before.within before.short refl
    (omega (arith, c.if-byte-eq0.false)) (omega (arith, c.type_inv.word (c.loop-at.at - 1))) before.digits before.full in
    omega (arith, more.fits)

pub overflow_add-number : goal.overflow_add-number
overflow_add-number c =
    let before = c.loop-at.invariant in
    let more = read_more c.args.word.now c.loop-at.number c.loop-at.at c.from.result c.loop-at-test.true before.within before.short c.from.ensures
    (omega (arith, c.from.ensures, c.if-byte-eq0.false)) (omega (arith, c.from.ensures, c.type_inv.word (c.loop-at.at - 1))) before.digits before.full in
    omega (arith, more.fits)
