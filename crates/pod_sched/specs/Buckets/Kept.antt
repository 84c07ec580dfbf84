-- How `Buckets` keeps the run queue. No public clause cites this module.
use Rattle.pod_sched.specs.Buckets.Marks.{mark_at}
use Rattle.pod_sched.specs.Buckets.Order.{is_of_prio}
use Rattle.lists.specs.ChainLists.{Lists, items}
use Rattle.std.specs.List.{AllByRecursion, filter}
use Rattle.std.specs.Prelude.{List, cond, is_some, length, slice_get, slice_index_or, ℕ, ◌+◌, ◌<◌, ◌≡◌, ◌≤◌}

-- 1 where the list has an element, and else 0
abbrev pub one_if_filled : List ℕ → ℕ
one_if_filled xs = cond (is_some (slice_get xs 0)) 1 0

-- the list of each priority is of those of the order that are of that priority, and is marked if there are any
pub record IsKept (order ready : Lists) (prios marks : List ℕ) (levels : ℕ) : Type 0 where
  pub some : 1 ≤ levels
  pub most : levels ≤ 256
  pub order_lists : length order.lists ≡ levels
  pub ready_lists : length ready.lists ≡ levels
  pub order_room : levels + length prios ≤ order.limit
  pub ready_room : levels + length prios ≤ ready.limit
  pub words : length marks ≡ 4
  pub low : (i : ℕ) → slice_index_or prios i 0 < levels
  pub are_keys : AllByRecursion (λ k. levels ≤ k) (items order 0)
  pub sorted : (p : ℕ) → p < levels → items ready p ≡ filter (is_of_prio prios levels p) (items order 0)
  pub marked : (p : ℕ) → p < 256 → mark_at marks p ≡ one_if_filled (items ready p)
