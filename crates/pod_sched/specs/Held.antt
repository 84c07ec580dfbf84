-- The invariant of `Turns` over its fields. No public clause cites this module.
use Rattle.pod_sched.specs.Buckets.Order.{Order, prio_of}
use Rattle.lists.specs.ChainLists.{Lists, items}
use Rattle.lwp_types.specs.State.{to_end, without}
use Rattle.pod_sched.specs.Schedule.{IsOrdered, Schedule, is_of}
use Rattle.pod_sched.specs.Slots.{AreSlots, IsReady, row_at}
use Rattle.pod_sched.specs.declared.rows.Known.{Known}
use Rattle.std.specs.List.{AllByRecursion}
use Rattle.std.specs.Prelude.{List, Option, [], if◌then◌else◌, length, map, ℕ, ◌+◌, ◌<◌, ◌≡◌, ◌≤◌}

-- the id of the thread at a slot
abbrev pub tid_at : List Known → ℕ → ℕ
tid_at rows s = (row_at rows s).tid

-- what a contract sees: nobody has a timer
abbrev pub schedule_of : Lists → Order → List Known → ℕ → ℕ → Schedule
schedule_of slots order rows maxpri places = record {
  threads = map (row_at rows) (items slots 0);
  order = map (tid_at rows) order.order;
  timers = [];
  now = 0;
  maxpri = maxpri;
  places = places;
}

-- the number is a slot that has a row, and a key of the run queue
pub record HasRow (rows : List Known) (order : Order) (s : ℕ) : Type 0 where
  pub is_slot : 256 ≤ s
  pub in_rows : s < 256 + length rows
  pub in_keys : s < order.levels + length order.prios

-- there are priorities from 1 to the greatest, and it is one of them
pub record IsPriority (maxpri prio : ℕ) : Type 0 where
  pub least : 1 ≤ prio
  pub most : prio ≤ maxpri

-- list 0 of the slots is of the known threads, and list 1 of the free ones
pub record IsHeld (slots : Lists) (order : Order) (rows : List Known) (slot_of : ℕ → Option ℕ)
    (map_len room width maxpri places : ℕ) : Type 0 where
  pub lists : length slots.lists ≡ 256
  pub slot_room : 256 + places ≤ slots.limit
  pub levels : order.levels ≡ 256
  pub order_room : places ≤ length order.prios
  pub row_room : places ≤ length rows
  pub as_long : map_len ≡ length (items slots 0)
  pub map_room : places ≤ room
  pub some_cells : 1 ≤ width
  pub least : 1 ≤ maxpri
  pub most : maxpri ≤ 255
  pub priorities : AllByRecursion (λ row. IsPriority maxpri row.prio) (map (row_at rows) (items slots 0))
  pub are_slots : AreSlots (row_at rows) (items slots 0) (items slots 1) slot_of places
  pub ready : AllByRecursion (IsReady (row_at rows) (items slots 0) (prio_of order)) order.order
  pub ordered : IsOrdered (map (row_at rows) (items slots 0)) (map (tid_at rows) order.order)

-- ---- changes of one thread's row

-- the row of thread t becomes this one
abbrev pub replace : ℕ → Known → Known → Known
replace t new row = if is_of t row then new else row

abbrev pub out_with : Schedule → ℕ → Known → Schedule
out_with s t new = record s { threads = map (replace t new) s.threads; order = without t s.order }

abbrev pub back_with : Schedule → ℕ → Known → Schedule
back_with s t new = record s { threads = map (replace t new) s.threads; order = to_end t s.order }

-- thread t goes last, with the row that it has
abbrev pub after_requeue : Schedule → ℕ → Schedule
after_requeue s t = record s { order = to_end t s.order }
