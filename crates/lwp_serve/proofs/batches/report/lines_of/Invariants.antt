use Rattle.std.proofs.Common.{drop, map, vec_items, ◌++◌, ◌≡◌}
use Rattle.lwp_serve.specs.Batches.Report.{lines_from}
use Rattle.lwp_serve.proofs.batches.report.lines_of.Given as goal

abbrev pub invariant-loop-number : goal.invariant-loop-number
invariant-loop-number l = l.out.items ++ lines_from l.number (map vec_items (drop l.number l.said)) ≡ lines_from 0 (map vec_items l.said)
