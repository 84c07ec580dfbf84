-- What is kept of the locks. No public clause cites this module.
use Rattle.monitors.specs.Kept.{IsKept}
use Rattle.monitors.specs.MonitorTable.{MonitorTable}
use Rattle.monitors.specs.Slots.{IsByMonitor, IsByOwner}
use Rattle.monitors.specs.declared.locks.Locks.{Locks}
use Rattle.std.specs.Prelude.{length, vec_capacity, ◌+◌, ◌≤◌}
use Rattle.lists.specs.ThreadIndex.{width_of}

-- there are places for so many locks, and slots for twice as many
pub record HasPlaces (l : Locks) : Type 0 where
  pub slots_fit : l.room + l.room ≤ vec_capacity l.slots
  pub links_fit : l.room + l.room ≤ vec_capacity l.links
  pub held_cells : l.room ≤ width_of l.held
  pub held_room : width_of l.held ≤ l.held.room
  pub last_cells : l.room + l.room ≤ width_of l.last
  pub last_room : width_of l.last ≤ l.last.room
  pub bound : l.room ≤ 1024

-- the locks are found by their monitors and by their owners
pub record IsTied (l : Locks) : Type 0 where
  pub by_monitor : IsByMonitor l.slots.items l.held
  pub by_owner : IsByOwner l.slots.items l.links.items l.last
  pub within : length l.slots.items ≤ l.room + l.room
  pub places : HasPlaces l

-- what is kept of the table, and of the locks
pub record IsSound (s : MonitorTable) (l : Locks) : Type 0 where
  pub kept : IsKept s l.room
  pub tied : IsTied l
