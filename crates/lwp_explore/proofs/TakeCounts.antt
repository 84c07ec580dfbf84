-- How many clients have lines that can be taken, and how many lines are left, client by client.
use Rattle.event_gate.specs.Clients.{of}
use Rattle.lwp_explore.proofs.Reached.{get_event}
use Rattle.lwp_explore.specs.Cores.{World, count_at, next_line, take_if, take_made, takes_from}
use Rattle.lwp_explore.specs.Kinds.{left_from}
use Rattle.lwp_types.specs.CountLaws.{one}
use Rattle.lwp_types.specs.declared.call.Line.{Line}
use Rattle.pod_events.specs.Events.{is_takeable}
use Rattle.session_cores.specs.Core.{Core}
use Rattle.std.proofs.Common.{Bool, List, None, Some, [], ap, append-nil, arith, false, inl, inr, length, length-append, refl, slice_get}
use Rattle.std.proofs.Common.{suc, sym, take, true, zero, ℕ, ◌++◌, ◌+◌, ◌<◌, ◌∙◌, ◌∷◌, ◌≡◌, ◌≤◌}
use Rattle.std.proofs.lemmas.Bool.{cases_lt, false≢true, le-ltb, lt-ltb}
use Rattle.std.proofs.lemmas.List.{append_assoc}
use Rattle.std.specs.List.{list_any}
use Rattle.std.specs.Prelude.{if◌then◌else◌, nat_lt, slice_index, ◌&&◌, ◌-◌, ◌||◌}

pub get_in : {A : Type 0} (xs : List A) (k : ℕ) → k < length xs → (x : A) × (slice_get xs k ≡ Some x)
get_in [] k within = absurd (omega (arith, within))
get_in (x ∷ xs) zero within = (x, refl)
get_in (x ∷ xs) (suc k) within = get_in xs k (omega (arith, within))

get_out : {A : Type 0} (xs : List A) (k : ℕ) → length xs ≤ k → slice_get xs k ≡ None
get_out [] k out = refl
get_out (x ∷ xs) zero out = absurd (omega (arith, out))
get_out (x ∷ xs) (suc k) out = get_out xs k (omega (arith, out))

pub take_whole : {A : Type 0} (xs : List A) (n : ℕ) → length xs ≤ n → take n xs ≡ xs
take_whole [] zero le = refl
take_whole [] (suc n) le = refl
take_whole (x ∷ xs) zero le = absurd (omega (arith, le))
take_whole (x ∷ xs) (suc n) le = ap (λ l. x ∷ l) (take_whole xs n (omega (arith, le)))

pub one_on : (a n : ℕ) → a ≤ n → (a ≡ n → ⊥) → a + 1 ≤ n
one_on a n le other = elim (cases_lt a n) [
  | inl less ↦ omega (arith, less)
  | inr more ↦ absurd (other (omega (arith, le, more)))
]

less_by : (a b : ℕ) → nat_lt 0 (b - a) ≡ nat_lt a b
less_by a b = elim (cases_lt a b) [
  | inl less ↦ lt-ltb 0 (b - a) (omega (arith, less)) ∙ sym (lt-ltb a b less)
  | inr more ↦ le-ltb 0 (b - a) (omega (arith, more)) ∙ sym (le-ltb a b more)
]

module _ {B : Type 0} (world : World B) (core : Core B) where
  -- client c has a line left
  abbrev pub has_more : ℕ → Bool
  has_more c = nat_lt (count_at core.taken c) (length (of c world.posts))

  -- and it can be taken
  abbrev pub may_take : ℕ → ℕ → Bool
  may_take c e = has_more c && is_takeable core.pod e

  -- ---- takes

  take_count : (c e : ℕ) → length (take_if world core c e (next_line world core c)) ≡ one (may_take c e)
  take_count c e = elim (cases_lt (count_at core.taken c) (length (of c world.posts))) [
    | inl less ↦
        let line = get_in (of c world.posts) (count_at core.taken c) less in
        ap (λ o. length (take_if world core c e o)) line.1 ∙ by_may (is_takeable core.pod e) line.0
        ∙ ap (λ b. one (b && is_takeable core.pod e)) (sym (lt-ltb (count_at core.taken c) (length (of c world.posts)) less))
    | inr more ↦
        ap (λ o. length (take_if world core c e o)) (get_out (of c world.posts) (count_at core.taken c) more)
        ∙ ap (λ b. one (b && is_takeable core.pod e)) (sym (le-ltb (count_at core.taken c) (length (of c world.posts)) more))
  ]
    where
      by_may : (b : Bool) (line : Line)
          → length (if b then take_made world core c (record { turn = 0; event = e; line = line }) ∷ [] else []) ≡ one (true && b)
      by_may true line = refl
      by_may false line = refl

  takes_more : (from : ℕ) (events : List ℕ) (k e : ℕ) → slice_get events k ≡ Some e
      → takes_from world core from (take (suc k) events)
      ≡ takes_from world core from (take k events) ++ take_if world core (from + k) e (next_line world core (from + k))
  takes_more from [] k e h = absurd cc
  takes_more from (x ∷ events) zero e h =
      let same : x ≡ e = cc in
      let here : from ≡ from + 0 = omega arith in
      append-nil (take_if world core from x (next_line world core from))
      ∙ (λ i. take_if world core (here i) (same i) (next_line world core (here i)))
  takes_more from (x ∷ events) (suc k) e h =
      let on : (from + 1) + k ≡ from + suc k = omega arith in
      let first = take_if world core from x (next_line world core from) in
      ap (λ l. first ++ l) (takes_more (from + 1) events k e h)
      ∙ sym (append_assoc first (takes_from world core (from + 1) (take k events))
      (take_if world core ((from + 1) + k) e (next_line world core ((from + 1) + k))))
      ∙ ap (λ c. (first ++ takes_from world core (from + 1) (take k events)) ++ take_if world core c e (next_line world core c)) on

  -- one client more
  pub count_more : (k : ℕ) → k < length world.events → length (takes_from world core 0 (take (k + 1) world.events))
      ≡ length (takes_from world core 0 (take k world.events)) + one (may_take k (slice_index world.events k))
  count_more k within =
      let e = slice_index world.events k in
      let first : k + 1 ≡ suc k = omega arith in
      let here : 0 + k ≡ k = omega arith in
      ap (λ n. length (takes_from world core 0 (take n world.events))) first
      ∙ ap length (takes_more 0 world.events k e (get_event world.events k within))
      ∙ length-append (takes_from world core 0 (take k world.events)) (take_if world core (0 + k) e (next_line world core (0 + k)))
      ∙ ap (λ c. length (takes_from world core 0 (take k world.events)) + length (take_if world core c e (next_line world core c))) here
      ∙ ap (λ n. length (takes_from world core 0 (take k world.events)) + n) (take_count k e)

  pub count_all : (k : ℕ) → length world.events ≤ k → takes_from world core 0 (take k world.events) ≡ takes_from world core 0 world.events
  count_all k le = ap (takes_from world core 0) (take_whole world.events k le)

  -- ---- lines left

  left_on : (from : ℕ) (events : List ℕ) (k e : ℕ) → slice_get events k ≡ Some e
      → left_from world core from (take (suc k) events)
      ≡ left_from world core from (take k events) ++ (length (of (from + k) world.posts) - count_at core.taken (from + k)) ∷ []
  left_on from [] k e h = absurd cc
  left_on from (x ∷ events) zero e h =
      let here : from ≡ from + 0 = omega arith in
      ap (λ c. (length (of c world.posts) - count_at core.taken c) ∷ []) here
  left_on from (x ∷ events) (suc k) e h =
      let on : (from + 1) + k ≡ from + suc k = omega arith in
      let first = length (of from world.posts) - count_at core.taken from in
      ap (λ l. first ∷ l) (left_on (from + 1) events k e h)
      ∙ ap (λ c. (first ∷ left_from world core (from + 1) (take k events)) ++ (length (of c world.posts) - count_at core.taken c) ∷ []) on

  pub left_more : (k : ℕ) → k < length world.events → left_from world core 0 (take (k + 1) world.events)
      ≡ left_from world core 0 (take k world.events) ++ (length (of k world.posts) - count_at core.taken k) ∷ []
  left_more k within =
      let first : k + 1 ≡ suc k = omega arith in
      let here : 0 + k ≡ k = omega arith in
      ap (λ n. left_from world core 0 (take n world.events)) first
      ∙ left_on 0 world.events k (slice_index world.events k) (get_event world.events k within)
      ∙ ap (λ c. left_from world core 0 (take k world.events) ++ (length (of c world.posts) - count_at core.taken c) ∷ []) here

  pub left_all : (k : ℕ) → length world.events ≤ k → left_from world core 0 (take k world.events) ≡ left_from world core 0 world.events
  left_all k le = ap (left_from world core 0) (take_whole world.events k le)

  -- ---- some are left

  abbrev any_left : List ℕ → Bool
  any_left ns = list_any (λ n. nat_lt 0 n) ns

  any_push : (ns : List ℕ) (n : ℕ) → any_left (ns ++ n ∷ []) ≡ (any_left ns || nat_lt 0 n)
  any_push [] n = by (nat_lt 0 n)
    where
      by : (b : Bool) → (b || false) ≡ (false || b)
      by true = refl
      by false = refl
  any_push (m ∷ ns) n = by (nat_lt 0 m) (any_push ns n)
    where
      by : (b : Bool) → any_left (ns ++ n ∷ []) ≡ (any_left ns || nat_lt 0 n) → (b || any_left (ns ++ n ∷ [])) ≡ ((b || any_left ns) || nat_lt 0 n)
      by true h = refl
      by false h = h

  or_or : (x y : Bool) → x ≡ false → (x || y) ≡ y
  or_or x y h = ap (λ b. b || y) h

  -- one client more, and none has lines left so far
  pub any_more : (k : ℕ) → k < length world.events → any_left (left_from world core 0 (take k world.events)) ≡ false
      → any_left (left_from world core 0 (take (k + 1) world.events)) ≡ has_more k
  any_more k within none =
      ap any_left (left_more k within)
      ∙ any_push (left_from world core 0 (take k world.events)) (length (of k world.posts) - count_at core.taken k)
      ∙ or_or (any_left (left_from world core 0 (take k world.events))) (nat_lt 0 (length (of k world.posts) - count_at core.taken k)) none
      ∙ less_by (count_at core.taken k) (length (of k world.posts))

  any_first : (from : ℕ) (events : List ℕ) (k : ℕ) → any_left (left_from world core from (take k events)) ≡ true
      → any_left (left_from world core from events) ≡ true
  any_first from [] zero h = h
  any_first from [] (suc k) h = h
  any_first from (x ∷ events) zero h = absurd (false≢true h)
  any_first from (x ∷ events) (suc k) h =
      by (nat_lt 0 (length (of from world.posts) - count_at core.taken from)) h (any_first (from + 1) events k)
    where
      by : (b : Bool) → (b || any_left (left_from world core (from + 1) (take k events))) ≡ true
          → (any_left (left_from world core (from + 1) (take k events)) ≡ true → any_left (left_from world core (from + 1) events) ≡ true)
          → (b || any_left (left_from world core (from + 1) events)) ≡ true
      by true h rest = refl
      by false h rest = rest h

  -- a client has lines left, and those before it have none
  pub any_at : (k : ℕ) → k < length world.events → any_left (left_from world core 0 (take k world.events)) ≡ false → has_more k ≡ true
      → any_left (left_from world core 0 world.events) ≡ true
  any_at k within none more = any_first 0 world.events (k + 1) (any_more k within none ∙ more)
