-- Who waits by name, and the note of it.
use Rattle.death_cleanup.specs.Waits.{waits_for}
use Rattle.death_cleanup.specs.declared.rows.Awaited.{Awaited}
use Rattle.death_cleanup.specs.declared.rows.Awaited.TheVariants as awaited
use Rattle.death_cleanup.specs.declared.rows.Kind.{Kind}
use Rattle.death_cleanup.specs.declared.rows.Kind.TheVariants as kind
use Rattle.death_cleanup.specs.declared.rows.NamedWait.{NamedWait}
use Rattle.lwp_types.specs.State.{passes}
use Rattle.lwp_types.specs.declared.rows.Block.{Block}
use Rattle.lwp_types.specs.declared.rows.Block.TheVariants as block
use Rattle.stale_ids.specs.Register.{value_of}
use Rattle.std.specs.List.{AllByRecursion, list_all, list_any}
use Rattle.std.specs.Prelude.{Bool, IsTrue, List, None, Option, Some, [], count_by, false, length, max, nat_lt, option_map}
use Rattle.std.specs.Prelude.{slice_index_or, true, ℕ, ◌&&◌, ◌*◌, ◌+◌, ◌-◌, ◌<◌, ◌==◌, ◌||◌, ◌∷◌, ◌≡◌, ◌≢◌, ◌≤◌}

-- for what of whom a thread waits by name
abbrev pub block_name : Block → Option (Awaited × ℕ)
block_name block.Not = None
block_name (block.Joining t) = Some (awaited.Death, t)
block_name block.Sending = None
block_name (block.Receiving from) = option_map (λ t. (awaited.Letter, t)) from
block_name (block.Entering m) = None
block_name (block.Waiting c) = None
block_name block.Sleeping = None

abbrev pub kind_name : Kind → Option (Awaited × ℕ)
kind_name (kind.Thread rec) = block_name rec.block
kind_name kind.Agent = None

-- the wait of thread n, if it names somebody
abbrev pub named_wait : ℕ → Option (Awaited × ℕ) → Option NamedWait
named_wait n name = option_map (λ name. record { what = name.0; of = name.1; tid = n }) name

-- a thread, and no agent
abbrev pub is_one : Kind → Bool
is_one (kind.Thread rec) = true
is_one kind.Agent = false

-- how many threads live
abbrev pub threads_in : List (ℕ × Kind) → ℕ
threads_in living = count_by (λ live. is_one live.1) living

-- the note: waits by name, and for how many there is room
pub record NameNote : Type 0 where
  pub waits : List NamedWait
  pub places : ℕ

-- nobody waits by name
abbrev pub no_names : NameNote
no_names = record { waits = []; places = 16 }

-- with room for two waits of each of so many threads, or for as many as before
abbrev pub after_reserve : NameNote → ℕ → NameNote
after_reserve note threads = record note { places = max note.places (2 * threads) }

-- ---- in what order the waits stand

-- who waits for a letter stands before who waits for a death, since those go on first
abbrev pub rank : Awaited → ℕ
rank awaited.Letter = 0
rank awaited.Death = 1

-- the waits for this of x are one run; the runs have rising numbers
abbrev pub run_number : Awaited → ℕ → ℕ
run_number what x = 2 * x + rank what

abbrev pub run_of : NamedWait → ℕ
run_of wait = run_number wait.what wait.of

-- it is the wait of thread n, in this run
abbrev pub is_wait : ℕ → ℕ → NamedWait → Bool
is_wait r n wait = wait.tid == n && run_of wait == r

-- the wait stands before that of thread n in this run
abbrev pub is_before : ℕ → ℕ → NamedWait → Bool
is_before r n wait = nat_lt (run_of wait) r || (run_of wait == r && nat_lt wait.tid n)

-- it is in an earlier run, or in the same one and of an older thread
pub record IsBefore (wait later : NamedWait) : Type 0 where
  pub low : run_of wait ≤ run_of later
  pub tid : run_of wait ≡ run_of later → wait.tid < later.tid

-- each stands before those after it, so that none stands there twice
abbrev pub AreOrdered : List NamedWait → Type 0
AreOrdered [] = Unit {0}
AreOrdered (wait ∷ waits) = AllByRecursion (IsBefore wait) waits × AreOrdered waits

-- ---- who is noted

-- the wait of thread n for this of that one is noted
abbrev pub covers : List NamedWait → ℕ → Option (Awaited × ℕ) → Bool
covers waits n None = true
covers waits n (Some name) = list_any (is_wait (run_number name.0 name.1) n) waits

-- each thread that waits by name is noted; who no longer waits may be noted too
abbrev pub are_all_noted : List NamedWait → List (ℕ × Kind) → Bool
are_all_noted waits living = list_all (λ live. covers waits live.0 (kind_name live.1)) living

-- the note of these: each thread that waits by name is noted, and there is room for two waits of each thread
pub record IsNoteOf (note : NameNote) (living : List (ℕ × Kind)) : Type 0 where
  pub noted : IsTrue (are_all_noted note.waits living)
  pub room : 2 * threads_in living ≤ note.places

-- ---- how the note is gone over

-- thread n waits for this of t
abbrev pub waits_at : Awaited → ℕ → List (ℕ × Kind) → ℕ → Bool
waits_at what t living n = passes (waits_for what t) (value_of n living)

-- the wait goes on
abbrev pub is_on : List (ℕ × Kind) → NamedWait → Bool
is_on living wait = waits_at wait.what wait.of living wait.tid

-- the waits before this place stand before that of thread n in this run, and the others don't
pub record IsGap (r n : ℕ) (waits : List NamedWait) (i : ℕ) : Type 0 where
  pub within : i ≤ length waits
  pub below : (j : ℕ) (d : NamedWait) → j < i → is_before r n (slice_index_or waits j d) ≡ true
  pub above : (j : ℕ) (d : NamedWait) → i ≤ j → j < length waits → is_before r n (slice_index_or waits j d) ≡ false

-- the last of the waits doesn't stand before that of thread n in this run
abbrev pub IsBeforeLast : ℕ → ℕ → List NamedWait → Type 0
IsBeforeLast r n waits = (d : NamedWait) → 1 ≤ length waits
    → is_before r n (slice_index_or waits (length waits - 1) d) ≡ false

-- this wait of the run stands there
pub record HasWaiter (r : ℕ) (wait : NamedWait) (waits : List NamedWait) (i : ℕ) : Type 0 where
  pub within : i < length waits
  pub here : (d : NamedWait) → slice_index_or waits i d ≡ wait
  pub own : run_of wait ≡ r

-- no wait of the run stands there
abbrev pub HasNoWaiter : ℕ → List NamedWait → ℕ → Type 0
HasNoWaiter r waits i = (d : NamedWait) → i < length waits → run_of (slice_index_or waits i d) ≢ r
