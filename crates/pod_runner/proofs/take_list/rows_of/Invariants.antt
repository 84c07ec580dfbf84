use Rattle.pod_runner.proofs.take_list.rows_of.Given as goal
use Rattle.pod_runner.specs.Takes.{is_of}
use Rattle.std.proofs.Common.{take, ◌≡◌, ◌≤◌}
use Rattle.std.specs.List.{count_by}

abbrev pub invariant-loop-row : goal.invariant-loop-row
invariant-loop-row l = (l.count ≡ count_by (is_of l.client) (take l.row-index l.rows)) × (l.count ≤ l.row-index)
