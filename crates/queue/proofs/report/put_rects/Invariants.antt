use Rattle.queue.specs.Report.{rect_lines}
use Rattle.std.proofs.Common.{drop, ◌++◌, ◌≡◌}
use Rattle.queue.proofs.report.put_rects.Given as goal

abbrev pub invariant-loop-bar : goal.invariant-loop-bar
invariant-loop-bar l = l.out.items ++ rect_lines l.most l.bar (drop l.bar l.bars) ≡ l.initial.out.items ++ rect_lines l.most 0 l.bars
