-- Where the locks lie, in the order of their acquisition, and how one is found there. No public clause cites this module.
use Rattle.lwp_types.specs.MonitorRelease.{is_lock, is_owned_by, locks_on}
use Rattle.lwp_types.specs.State.{passes}
use Rattle.lwp_types.specs.declared.rows.Lock.{Lock}
use Rattle.monitors.specs.declared.slots.Link.{Link}
use Rattle.std.specs.List.{count_by}
use Rattle.std.specs.Prelude.{Bool, List, None, Option, Some, false, is_some, length, slice_index_or, suc, true, ℕ, ◌+◌, ◌<◌, ◌≡◌, ◌≤◌}
use Rattle.lists.specs.ThreadIndex.{Found, count_of, place_of}
use Rattle.lists.specs.Living.{living}

-- ---- slots

-- what a slot has: a lock, or nothing once that was given up
abbrev pub slot_at : List (Option Lock) → ℕ → Option Lock
slot_at slots i = slice_index_or slots i None

-- what the slot has, if there is such a slot
abbrev pub lock_in : List (Option Lock) → Option ℕ → Option Lock
lock_in slots None = None
lock_in slots (Some i) = slot_at slots i

-- the lock at this depth
abbrev pub deeper : ℕ → Lock → Lock
deeper depth lock = record lock { depth = depth }

-- the slot has a lock that passes
abbrev pub has_in : (Lock → Bool) → List (Option Lock) → ℕ → Bool
has_in p slots i = passes p (slot_at slots i)

-- no slot from one up to another has such a lock
abbrev pub NoneIn : (Lock → Bool) → List (Option Lock) → ℕ → ℕ → Type 0
NoneIn p slots from to = (j : ℕ) → from ≤ j → j < to → has_in p slots j ≡ false

-- of the slots before an end this is the last that has one, or none has
abbrev pub IsLastIn : (Lock → Bool) → List (Option Lock) → ℕ → Option ℕ → Type 0
IsLastIn p slots end None = NoneIn p slots 0 end
IsLastIn p slots end (Some i) = (has_in p slots i ≡ true) × (i < end) × NoneIn p slots (suc i) end

-- ---- links

-- whose lock the slot was made for, and the slot before it that was made for one of the same thread
abbrev pub link_at : List Link → ℕ → Link
link_at links i = slice_index_or links i (record { owner = 0; below = None })

-- the slot was not its thread's first
abbrev pub goes_on : Link → Bool
goes_on link = is_some link.below

-- from there on, before an end, thread t has no lock but where the way leads to; with no way it has none
abbrev pub LeadsOn : ℕ → List (Option Lock) → List Link → ℕ → Option ℕ → Type 0
LeadsOn t slots links end None = NoneIn (is_owned_by t) slots 0 end
LeadsOn t slots links end (Some b) = (b < end) × ((link_at links b).owner ≡ t) × NoneIn (is_owned_by t) slots (suc b) end

-- a lock lies in a slot that was made for its owner, and each slot leads on to its owner's other locks before it
pub record AreLinked (slots : List (Option Lock)) (links : List Link) : Type 0 where
  pub as_many : length links ≡ length slots
  pub owners : (i t : ℕ) → has_in (is_owned_by t) slots i ≡ true → (link_at links i).owner ≡ t
  pub ways : (i : ℕ) → i < length links
      → LeadsOn (link_at links i).owner slots links i (link_at links i).below

-- ---- how they are found

-- the lock of monitor m lies there, or there is none
abbrev pub IsSlotOf : List (Option Lock) → ℕ → Option ℕ → Type 0
IsSlotOf slots m None = locks_on (living slots) m ≡ 0
IsSlotOf slots m (Some i) = has_in (is_lock m) slots i ≡ true

-- by their monitors
pub record IsByMonitor (slots : List (Option Lock)) (held : Found) : Type 0 where
  pub each : (m : ℕ) → IsSlotOf slots m (place_of held m)
  pub counted : count_of held ≡ length (living slots)

-- by their owners, of each the one that it acquired last; and there are no more of these than slots
pub record IsByOwner (slots : List (Option Lock)) (links : List Link) (last : Found) : Type 0 where
  pub linked : AreLinked slots links
  pub each : (t : ℕ) → IsLastIn (is_owned_by t) slots (length slots) (place_of last t)
  pub few : count_of last + count_by goes_on links ≤ length links
