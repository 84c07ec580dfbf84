use Rattle.monitors.proofs.locks.refile.Given as goal
use Rattle.monitors.specs.Slots.{IsByMonitor, IsByOwner}
use Rattle.std.proofs.Common.{take, vec_capacity, ◌≡◌}
use Rattle.lists.specs.ThreadIndex.{width_of}

abbrev pub invariant-loop-slot : goal.invariant-loop-slot
invariant-loop-slot l = record {
  by_monitor : IsByMonitor (take l.slot l.slots) l.held;
  by_owner : IsByOwner (take l.slot l.slots) l.links.items l.last;
  capacity : vec_capacity l.links ≡ vec_capacity l.fn.links;
  held_width : width_of l.held ≡ width_of l.fn.held;
  held_index : l.held.room ≡ l.fn.held.room;
  last_width : width_of l.last ≡ width_of l.fn.last;
  last_index : l.last.room ≡ l.fn.last.room;
}
