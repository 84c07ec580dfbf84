use Rattle.state_text.specs.Text.{mark_line}
use Rattle.std.proofs.Common.{ap, ◌++◌, ◌∙◌}
use Rattle.trace_text.proofs.Loops.{no_more, one_more}
use Rattle.state_text.proofs.threads.add_marks.Goals as goal

pub loop-i-preserved : goal.loop-i-preserved
loop-i-preserved c =
    one_more mark_line c.loop-i.out.items _ c.args.marks.now c.loop-i.i c.loop-i.invariant c.add_mark.new.out.items c.index-marks-i.result
    c.loop-i-test.true (c.in_ok-add_mark.ensures ∙ ap (λ x. c.loop-i.out.items ++ mark_line x) c.index-marks-i.is)

pub returns : goal.returns
returns c = no_more mark_line c.loop-i.out.items _ c.args.marks.now c.loop-i.i c.loop-i.invariant c.loop-i-test.false
