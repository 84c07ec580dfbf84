use Rattle.replay.proofs.AheadLaws.{count-front, count-next, count-past}
use Rattle.std.proofs.Common.{arith, length, true, ◌<◌, ◌∙◌}
use Rattle.std.proofs.lemmas.Bool.{eq-eqb, ne_eqb}
use Rattle.replay.proofs.compared.few_lines.Goals.{then-bytes-i-eq10, else-bytes-i-eq10}
use Rattle.replay.proofs.compared.few_lines.Goals as goal

pub overflow_add-lines : goal.overflow_add-lines
overflow_add-lines c = omega (arith, c.loop-i.invariant, count-front c.args.bytes.now c.loop-i.i, c.loop-i-test.true, c.loop-i.auto.i-end)

pub loop-i-preserved : goal.loop-i-preserved
loop-i-preserved c =
    let low : c.loop-i.i < length c.args.bytes.now = omega (arith, c.loop-i-test.true, c.loop-i.auto.i-end) in
    elim c.if-bytes-i-eq10.branch [
      | then-bytes-i-eq10 w ↦ w.lines-is ∙ count-next c.args.bytes.now c.loop-i.i c.loop-i.lines low c.loop-i.invariant true (eq-eqb _ _ w.if-bytes-i-eq10.true)
      | else-bytes-i-eq10 w ↦ w.lines-is ∙ count-past c.args.bytes.now c.loop-i.i c.loop-i.lines low c.loop-i.invariant (ne_eqb _ _ w.if-bytes-i-eq10.false)
    ]
