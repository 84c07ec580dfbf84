use Rattle.queue.proofs.Telling.{all_told, one_told}
use Rattle.queue.proofs.report.put_bars.Goals as goal
use Rattle.queue.specs.Report.{bar_line, bar_lines}
use Rattle.std.proofs.Common.{refl}

pub loop-bar-preserved : goal.loop-bar-preserved
loop-bar-preserved c =
    one_told (bar_lines c.args.width) (bar_line c.args.width) (λ n. refl) (λ n x xs. refl) c.loop-bar.out.items _ c.args.bars.now c.loop-bar.bar
    c.loop-bar.invariant c.put_bar.new.out.items _ c.loop-bar-test.true c.in_ok-put_bar.ensures

pub returns : goal.returns
returns c =
    all_told (bar_lines c.args.width) (bar_line c.args.width) (λ n. refl) (λ n x xs. refl) c.loop-bar.out.items _ c.args.bars.now c.loop-bar.bar
    c.loop-bar.invariant c.loop-bar-test.false
