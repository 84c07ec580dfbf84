use Rattle.std.proofs.Common.{take}
use Rattle.std.specs.Prelude.{option_copied}
use Rattle.trace_text.proofs.Loops.{step_more, step_over}
use Rattle.trace_text.proofs.lines.add_lines.Goals as goal

pub loop-i-preserved : goal.loop-i-preserved
loop-i-preserved c = (
  rw c.take.ensures.after
      (step_more c.args.names.now (option_copied c.loop-i.left) (take c.loop-i.end c.loop-i.row.items) _ c.args.effects.now c.loop-i.i
      c.loop-i.invariant.0 (take c.in_ok-end.end c.add_line.new.row.items) c.get.result.now
      (rw c.len-i-end.ensures at c.loop-i-test.true) (rw (c.get.ensures, c.take.ensures.value) at c.in_ok-end.ensures.text)),
  c.in_ok-end.ensures.end,
)

pub returns-clause-text : goal.returns-clause-text
returns-clause-text c =
    step_over c.args.names.now (option_copied c.loop-i.left) (take c.loop-i.end c.loop-i.row.items) _ c.args.effects.now c.loop-i.i
    c.loop-i.invariant.0 (rw c.len-i-end.ensures at c.loop-i-test.false)

pub returns-clause-end : goal.returns-clause-end
returns-clause-end c = c.loop-i.invariant.1
