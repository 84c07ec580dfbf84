use Rattle.std.proofs.Common.{◌≡◌, ◌≤◌, ◌-◌, ◌+◌, drop, vec_len}
use Rattle.pod_runner.specs.Polls.{place_of}
use Rattle.pod_runner.proofs.row_list.scanned.Given as goal

abbrev pub invariant-loop-i : goal.invariant-loop-i
invariant-loop-i g l = (l.i ≤ vec_len l.rows) × (place_of l.tid l.rows.items ≡ l.i + place_of l.tid (drop l.i l.rows.items))

abbrev pub decreases-loop-i : goal.decreases-loop-i
decreases-loop-i g l = vec_len l.rows - l.i
