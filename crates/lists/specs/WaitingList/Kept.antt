-- The invariant of a `WaitingList`'s fields. No public clause cites this module.
use Rattle.std.specs.Prelude.{List, length, ℕ, ◌≤◌}
use Rattle.lists.specs.ThreadIndex.{Found, width_of}
use Rattle.lists.specs.WaitingList.Entries.{IsIndexed, IsKnown, IsOnce}
use Rattle.lists.specs.declared.waiting_list.keys.Key.{Key}
use Rattle.lists.specs.declared.waiting_list.rows.Entry.{Entry}

-- nobody waits twice, all are found by their keys and their threads, and there is room for as many as there are places
pub record IsKept (es : List Entry) (ranks arrived : List Key) (index : Found)
    (room rank_room arrived_room places : ℕ) : Type 0 where
  pub once : IsOnce es
  pub indexed : IsIndexed es ranks arrived
  pub known : IsKnown es index
  pub fits : length es ≤ places
  pub places_fit : places ≤ room
  pub ranks_fit : places ≤ rank_room
  pub arrived_fit : places ≤ arrived_room
  pub cells : places ≤ width_of index
  pub index_room : width_of index ≤ index.room
