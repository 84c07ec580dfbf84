use Rattle.replay.proofs.AheadLaws.{count-front, count-on, count-rest}
use Rattle.replay.specs.Recorded.{line_count}
use Rattle.std.proofs.Common.{ap, arith, drop, take, ◌∙◌}
use Rattle.replay.proofs.compared.line_count.Goals as goal

pub overflow_add-lines : goal.overflow_add-lines
overflow_add-lines c = omega (arith, c.loop-i.invariant.1, count-front c.args.bytes.now c.loop-i.i, c.loop-i.invariant.0, c.from-lines.ensures)

pub loop-i-preserved : goal.loop-i-preserved
loop-i-preserved c = (
  omega (arith, c.loop-i-test.true, c.loop-i.invariant.0),
  count-on c.args.bytes.now c.loop-i.i 240 c.loop-i.lines c.from-lines.result c.loop-i.invariant.1
      (c.from-lines.ensures ∙ c.few_lines.ensures ∙ ap (λ k. line_count (take k (drop c.loop-i.i c.args.bytes.now))) {y = 240} (omega arith)),
)

pub overflow_add-result : goal.overflow_add-result
overflow_add-result c = omega (arith, c.loop-i.invariant.1, count-front c.args.bytes.now c.loop-i.i, c.loop-i.invariant.0, c.from.ensures)

pub returns : goal.returns
returns c = count-rest c.args.bytes.now c.loop-i.i c.loop-i.lines c.from.result c.loop-i.invariant.0 c.loop-i.invariant.1
    (c.from.ensures ∙ c.few_lines-2.ensures)
