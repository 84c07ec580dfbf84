use Rattle.std.proofs.Common.{◌≤◌, ◌<◌, ◌-◌, ℕ, length, get_or}
use Rattle.pod_runner.specs.declared.session.Row.{Row}
use Rattle.pod_runner.proofs.row_list.searched.Given as goal

abbrev pub invariant-loop-low : goal.invariant-loop-low
invariant-loop-low g l = (l.low ≤ l.high) × (l.high ≤ length l.rows.items)
    × ((k : ℕ) (d : Row _) → k < l.low → (get_or l.rows.items k d).tid < l.fn.tid)
    × ((k : ℕ) (d : Row _) → l.high ≤ k → k < length l.rows.items → l.fn.tid < (get_or l.rows.items k d).tid)

abbrev pub decreases-loop-low : goal.decreases-loop-low
decreases-loop-low g l = l.high - l.low
