use Rattle.queue.proofs.Telling.{all_told, one_told}
use Rattle.queue.proofs.report.put_rects.Goals as goal
use Rattle.queue.specs.Report.{rect_line, rect_lines}
use Rattle.std.proofs.Common.{refl}

pub loop-bar-preserved : goal.loop-bar-preserved
loop-bar-preserved c =
    one_told (rect_lines c.args.most) (rect_line c.args.most) (λ n. refl) (λ n x xs. refl) c.loop-bar.out.items _ c.args.bars.now c.loop-bar.bar
    c.loop-bar.invariant c.put_rect.new.out.items _ c.loop-bar-test.true c.in_ok-put_rect.ensures

pub returns : goal.returns
returns c =
    all_told (rect_lines c.args.most) (rect_line c.args.most) (λ n. refl) (λ n x xs. refl) c.loop-bar.out.items _ c.args.bars.now c.loop-bar.bar
    c.loop-bar.invariant c.loop-bar-test.false
