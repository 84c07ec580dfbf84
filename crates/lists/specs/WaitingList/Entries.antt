-- Those that wait with their arrivals, and how keys file them. No public clause cites this module.
use Rattle.lwp_types.specs.Choice.{best_by}
use Rattle.std.specs.List.{AllByRecursion, filter, find}
use Rattle.std.specs.Prelude.{Bool, List, None, Option, Some, [], count_by, length, map, slice_index_or, slice_set, suc, ℕ, ◌&&◌, ◌<◌, ◌==◌, ◌∷◌, ◌≡◌, ◌≤◌}
use Rattle.lists.specs.ThreadIndex.{Found, count_of, place_of}
use Rattle.lists.specs.WaitingList.Keys.{IsSorted, is_key}
use Rattle.lists.specs.WaitingList.Line.{is_for}
use Rattle.lists.specs.declared.waiting_list.keys.Key.{Key}
use Rattle.lists.specs.declared.waiting_list.rows.Entry.{Entry}
use Rattle.lists.specs.declared.waiting_list.rows.Waiting.{Waiting}

-- the entry of one that came n-th
abbrev pub entry_of : ℕ → Waiting → Entry
entry_of n w = record { arrival = n; what = w.what; tid = w.tid; prio = w.prio; depth = w.depth; filed = 0 }

-- the entry without its arrival
abbrev pub waiting_of : Entry → Waiting
waiting_of e = record { what = e.what; tid = e.tid; prio = e.prio; depth = e.depth }

-- the key by which it is found as the best for what it waits for
abbrev pub rank_of : Entry → Key
rank_of e = record { what = e.what; prio = e.prio; arrival = e.arrival }

-- the key by which it is found as the first for what it waits for
abbrev pub arrival_key : Entry → Key
arrival_key e = record { what = e.what; prio = 0; arrival = e.arrival }

-- when each came
abbrev pub arrivals : List Entry → List ℕ
arrivals es = map (λ (e : Entry). e.arrival) es

-- each number is greater than those before it
abbrev pub AreRising : List ℕ → Type 0
AreRising [] = Unit {0}
AreRising (n ∷ ns) = AllByRecursion (λ m. n < m) ns × AreRising ns

-- each with its place for its arrival, counted from n
abbrev pub with_arrivals : ℕ → List Entry → List Entry
with_arrivals n [] = []
with_arrivals n (e ∷ es) = record e { arrival = n } ∷ with_arrivals (suc n) es

-- it came n-th
abbrev pub has_arrival : ℕ → Entry → Bool
has_arrival n e = e.arrival == n

-- it is thread t
abbrev pub is_entry_of : ℕ → Entry → Bool
is_entry_of t e = e.tid == t

-- it is thread t, and came n-th
abbrev pub is_arrival_of : ℕ → ℕ → Entry → Bool
is_arrival_of t n e = is_entry_of t e && has_arrival n e

-- it waits for n
abbrev pub is_entry_for : ℕ → Entry → Bool
is_entry_for n e = e.what == n

-- the thread that this one is, or 0
abbrev pub tid_or : Option Entry → ℕ
tid_or None = 0
tid_or (Some e) = e.tid

-- the thread that came n-th
abbrev pub tid_in : List Entry → ℕ → ℕ
tid_in es n = tid_or (find (has_arrival n) es)

-- the entry there came n-th
pub record IsAt (n : ℕ) (es : List Entry) (i : ℕ) : Type 0 where
  pub within : i < length es
  pub here : (d : Entry) → (slice_index_or es i d).arrival ≡ n

-- the entry there is of thread t
pub record IsThreadAt (t : ℕ) (es : List Entry) (i : ℕ) : Type 0 where
  pub within : i < length es
  pub here : (d : Entry) → (slice_index_or es i d).tid ≡ t

-- the entry there is the first of the greatest priority of those that wait for n
pub record IsBestAt (n : ℕ) (es : List Entry) (i : ℕ) : Type 0 where
  pub within : i < length es
  pub best : (d : Entry)
      → best_by (λ (w : Waiting). w.prio) (filter (is_for n) (map waiting_of es))
      ≡ Some (waiting_of (slice_index_or es i d))

-- the entry there came first of those that wait for n
pub record IsFirstAt (n : ℕ) (es : List Entry) (i : ℕ) : Type 0 where
  pub within : i < length es
  pub first : (d : Entry) → find (is_for n) (map waiting_of es) ≡ Some (waiting_of (slice_index_or es i d))

-- the keys are those of all that wait, in order
pub record IsFiled (key : Entry → Key) (es : List Entry) (ks : List Key) : Type 0 where
  pub sorted : IsSorted ks
  pub each : (k : Key) → count_by (is_key k) ks ≡ count_by (λ e. is_key k (key e)) es
  pub len : length ks ≡ length es

-- all wait for the same with the same priority
abbrev pub AreAlike : List Entry → Type 0
AreAlike [] = Unit {0}
AreAlike (e ∷ es) = AllByRecursion (λ f. (f.what ≡ e.what) × (f.prio ≡ e.prio)) es

-- e waits for the same with the same priority as the first entry
abbrev pub IsLike : Entry → List Entry → Type 0
IsLike e es = (d : Entry) → 0 < length es
    → (e.what ≡ (slice_index_or es 0 d).what) × (e.prio ≡ (slice_index_or es 0 d).prio)

-- all are alike where there are no keys, and else they are found by their keys as the best and as the first for what
-- they wait for
abbrev pub IsSortedOut : List Entry → List Key → List Key → Type 0
IsSortedOut es [] arrived = AreAlike es × (arrived ≡ [])
IsSortedOut es (k ∷ ks) arrived = IsFiled rank_of es (k ∷ ks) × IsFiled arrival_key es arrived

-- they stand by rising arrivals, and are sorted out
pub record IsIndexed (es : List Entry) (ranks arrived : List Key) : Type 0 where
  pub rising : AreRising (arrivals es)
  pub sorted : IsSortedOut es ranks arrived

-- the entry there is the best of those that wait for n, and came first of them
pub record IsFrontAt (n : ℕ) (es : List Entry) (i : ℕ) : Type 0 where
  pub best : IsBestAt n es i
  pub first : IsFirstAt n es i

-- the entry there has this priority, and another guess where its rank stands
abbrev pub IsPrioritized : ℕ → ℕ → List Entry → List Entry → Type 0
IsPrioritized i p es es' = (e : Entry) → e ≡ slice_index_or es i e
    → es' ≡ slice_set es i (record e { prio = p; filed = (slice_index_or es' i e).filed })

-- nobody waits twice
abbrev pub IsOnce : List Entry → Type 0
IsOnce es = (t : ℕ) → count_by (is_entry_of t) es ≤ 1

-- thread t came then, or doesn't wait
abbrev pub IsArrivalOf : List Entry → ℕ → Option ℕ → Type 0
IsArrivalOf es t None = count_by (is_entry_of t) es ≡ 0
IsArrivalOf es t (Some n) = 1 ≤ count_by (is_arrival_of t n) es

-- the index has the arrival of each thread that waits, and no others
pub record IsKnown (es : List Entry) (index : Found) : Type 0 where
  pub each : (t : ℕ) → IsArrivalOf es t (place_of index t)
  pub counted : count_of index ≡ length es
