use Rattle.queue.specs.Report.{bar_lines}
use Rattle.std.proofs.Common.{drop, ◌++◌, ◌≡◌}
use Rattle.queue.proofs.report.put_bars.Given as goal

abbrev pub invariant-loop-bar : goal.invariant-loop-bar
invariant-loop-bar l = l.out.items ++ bar_lines l.width l.bar (drop l.bar l.bars) ≡ l.initial.out.items ++ bar_lines l.width 0 l.bars
