-- A search to its end tells all that is said of a script's sessions.
use Rattle.lwp_explore.proofs.ListingLaws.{among, other_way}
use Rattle.lwp_explore.proofs.Played.{some_is}
use Rattle.lwp_explore.proofs.QuietLaws.{call_calm, cycle_endless, ended_not_calm, endless_calm, endless_cycle, is_only, last_is, leads, no_turn, nowhere_if}
use Rattle.lwp_explore.proofs.QuietLaws.{row_there, stuck_not_calm}
use Rattle.lwp_explore.specs.Cores.{Step, World, after, calls_at, call_made, first_core, next_line, steps_at, take_if, take_made, takes_at, takes_from}
use Rattle.lwp_explore.specs.Cycles.{AreWithin, IsInCycle}
use Rattle.lwp_explore.specs.Ends.{EndsSay, IsSearched, Searched, counts_text, ends_by, first_of, has_kind, is_kind, kind_line, kinds_in, line_of}
use Rattle.lwp_explore.specs.Explored.{IsExplored}
use Rattle.lwp_explore.specs.FoundText.{IsReached, ends_of, listed_line}
use Rattle.lwp_explore.specs.KindCodes.{code_kind, half_end, kind_code}
use Rattle.lwp_explore.specs.Kinds.{EndsSo, IsEndless, IsOfKind, halt_of, has_left, only_call, only_calls}
use Rattle.lwp_explore.specs.Listing.{first_place, has_number, listed_in, listing, numbers_in}
use Rattle.lwp_explore.specs.Quiet.{is_calm, is_quiet, kind_at, kinds_at, quiet_next, quiet_nexts}
use Rattle.lwp_explore.specs.Searching.{core_kind, core_number, kind_by, script_moves}
use Rattle.lwp_explore.specs.Sessions.{world_of}
use Rattle.lwp_explore.specs.declared.ending.Ending.{Ending}
use Rattle.lwp_explore.specs.declared.kinds.End.{End}
use Rattle.lwp_explore.specs.declared.kinds.End.TheVariants as end
use Rattle.lwp_explore.specs.declared.kinds.Kind.{Kind}
use Rattle.lwp_explore.specs.declared.listing.Listed.{Listed}
use Rattle.lwp_types.specs.declared.call.Line.{Line}
use Rattle.pod_events.specs.Events.{has_turn, is_takeable}
use Rattle.script_body.specs.BodyKeys.{body_numbers}
use Rattle.script_body.specs.declared.thread_body.ThreadBody.{ThreadBody}
use Rattle.script_text.specs.Script.{proc_names}
use Rattle.script_text.specs.declared.script.Script.{Script}
use Rattle.search.proofs.KnownLemmas.{as_many}
use Rattle.search.proofs.Places.{get_within}
use Rattle.search.proofs.Walks.{walk_push}
use Rattle.search.specs.Found.{Has, cores_of, path_of, steps_from}
use Rattle.search.specs.Moves.{Moves, walk}
use Rattle.search.specs.Paths.{IsBefore}
use Rattle.search.specs.declared.found.Found.{Found}
use Rattle.search.specs.declared.found.Row.{Row}
use Rattle.session_cores.specs.Core.{Core}
use Rattle.std.proofs.Common.{Bool, List, None, Option, Some, [], ap, arith, cond, false, get_or, length, map, not, refl, slice_get, subst, suc, sym, take}
use Rattle.std.proofs.Common.{take_all, true, zero, ℕ, ◌++◌, ◌+◌, ◌<◌, ◌∙◌, ◌∷◌, ◌≡◌, ◌||◌, ◌≤◌}
use Rattle.std.proofs.lemmas.Bool.{eq-eqb, false≢true, lt-ltb, ne_eqb}
use Rattle.std.proofs.lemmas.List.{length-append, length-map}
use Rattle.std.proofs.lemmas.List.Elements.{All-from_get_or}
use Rattle.std.proofs.lemmas.List.Folds.{flat_map-map}
use Rattle.std.proofs.lemmas.List.FromFn.{get_or-map-range_with_len, length-map-range_with_len}
use Rattle.std.proofs.lemmas.List.Recursion.{is_position_or_len}
use Rattle.std.proofs.lemmas.List.Sums.{sum_by-cons, sum_by-le, sum_by_more}
use Rattle.std.proofs.lemmas.Option.{get_or_from_slice_get, slice_get-get_or, slice_get-map, slice_get_within}
use Rattle.std.specs.List.{All, count_by, filter, flat_map, list_any, position, position_or_len, range_with_len, sum_by}
use Rattle.std.specs.Option.{option_map_or}
use Rattle.std.specs.Prelude.{IsSome, if◌then◌else◌, min, nat_lt, option_and_then, option_map, slice_index_or, unwrap_or, ◌%◌, ◌&&◌, ◌*◌, ◌-◌, ◌/◌, ◌==◌, ◌^◌}
use Rattle.trace_text.specs.declared.ends.Halt.{Halt}
use Rattle.trace_text.specs.declared.ends.Halt.TheVariants as halt

-- ---- kinds and their numbers

abbrev kind_of : End → Bool → Kind
kind_of e left = record { end = e; left = left }

code_of : (e : End) (left : Bool) → code_kind (kind_code (kind_of e left)) ≡ kind_of e left
code_of (end.Ended s) true =
    let half : (4 + 2 * s + 1) / 2 ≡ suc (suc s) = omega arith in
    let odd : (4 + 2 * s + 1) % 2 ≡ 1 = omega arith in
    ap (λ n. kind_of (half_end n) ((4 + 2 * s + 1) % 2 == 1)) half ∙ ap (kind_of (end.Ended s)) (eq-eqb ((4 + 2 * s + 1) % 2) 1 odd)
code_of (end.Ended s) false =
    let half : (4 + 2 * s) / 2 ≡ suc (suc s) = omega arith in
    ap (λ n. kind_of (half_end n) ((4 + 2 * s) % 2 == 1)) half ∙ ap (kind_of (end.Ended s)) (ne_eqb ((4 + 2 * s) % 2) 1 (λ e. omega (arith, e)))
code_of end.Stuck true = refl
code_of end.Stuck false = refl
code_of end.Endless true = refl
code_of end.Endless false = refl

pub code_back : (k : Kind) → code_kind (kind_code k) ≡ k
code_back k = code_of k.end k.left

abbrev numbers : List (Option Kind) → List (Option ℕ)
numbers ks = map (option_map kind_code) ks

same_test : (k : Kind) (o : Option Kind) → has_number (kind_code k) (option_map kind_code o) ≡ has_kind k o
same_test k None = refl
same_test k (Some other) = other_way (kind_code k) (kind_code other)

first_same : (k : Kind) (ks : List (Option Kind)) → first_place (kind_code k) (numbers ks) ≡ position_or_len (has_kind k) ks
first_same k ks = is_position_or_len (λ l. first_place (kind_code k) (numbers l)) (has_kind k) refl step ks
  where
    by : (b : Bool) (n : ℕ) → (if b then 0 else suc n) ≡ cond b 0 (1 + n)
    by true n = refl
    by false n = omega arith

    step : (o : Option Kind) (os : List (Option Kind)) → first_place (kind_code k) (numbers (o ∷ os))
        ≡ cond (has_kind k o) 0 (1 + first_place (kind_code k) (numbers os))
    step o os = ap (λ b. if b then 0 else suc (first_place (kind_code k) (numbers os))) (same_test k o)
        ∙ by (has_kind k o) (first_place (kind_code k) (numbers os))

count_same : (k : Kind) (ks : List (Option Kind)) → count_by (has_number (kind_code k)) (numbers ks) ≡ count_by (has_kind k) ks
count_same k [] = refl
count_same k (o ∷ os) =
    sum_by-cons (λ p. cond (has_number (kind_code k) p) 1 0) (option_map kind_code o) (numbers os)
    ∙ ap (λ b. cond b 1 0 + count_by (has_number (kind_code k)) (numbers os)) (same_test k o)
    ∙ ap (λ n. cond (has_kind k o) 1 0 + n) (count_same k os)
    ∙ sym (sum_by-cons (λ p. cond (has_kind k p) 1 0) o os)

abbrev lacking : Kind → List ℕ → List ℕ
lacking k l = filter (λ m. not (m == kind_code k)) l

abbrev others : Kind → List Kind → List Kind
others k l = filter (λ other. not (is_kind k other)) l

filtered : (k : Kind) (ks : List Kind) → lacking k (map kind_code ks) ≡ map kind_code (others k ks)
filtered k [] = refl
filtered k (x ∷ xs) =
    ap (λ b. cond (not b) (kind_code x ∷ lacking k (map kind_code xs)) (lacking k (map kind_code xs))) (other_way (kind_code k) (kind_code x))
    ∙ by (is_kind k x) (filtered k xs)
  where
    by : (b : Bool) → lacking k (map kind_code xs) ≡ map kind_code (others k xs)
        → cond (not b) (kind_code x ∷ lacking k (map kind_code xs)) (lacking k (map kind_code xs))
        ≡ map kind_code (cond (not b) (x ∷ others k xs) (others k xs))
    by true h = h
    by false h = ap (λ l. kind_code x ∷ l) h

numbers_same : (ks : List (Option Kind)) → numbers_in (numbers ks) ≡ map kind_code (kinds_in ks)
numbers_same [] = refl
numbers_same (None ∷ ks) = numbers_same ks
numbers_same (Some k ∷ ks) = ap (λ l. kind_code k ∷ lacking k l) (numbers_same ks)
    ∙ ap (λ l. kind_code k ∷ l) (filtered k (kinds_in ks))

-- ---- lists

module _ {X A : Type 0} (f g : X → List A) where
  flat_same : (xs : List X) → ((i : ℕ) (x : X) → slice_get xs i ≡ Some x → f x ≡ g x) → flat_map f xs ≡ flat_map g xs
  flat_same [] h = refl
  flat_same (x ∷ xs) h = ap (λ l. l ++ flat_map f xs) (h 0 x refl) ∙ ap (λ l. g x ++ l) (flat_same xs (λ i y e. h (suc i) y e))

any_at : {X : Type 0} (p : X → Bool) (xs : List X) (i : ℕ) (x : X) → slice_get xs i ≡ Some x → p x ≡ true → list_any p xs ≡ true
any_at p [] i x e h = absurd cc
any_at p (y ∷ ys) zero x e h = ap (λ b. b || list_any p ys) (ap p (some_is e) ∙ h)
any_at p (y ∷ ys) (suc i) x e h = by (p y) (any_at p ys i x e h)
  where
    by : (b : Bool) → list_any p ys ≡ true → b || list_any p ys ≡ true
    by true later = refl
    by false later = later

first_there : (n : ℕ) (os : List (Option ℕ)) → list_any (has_number n) os ≡ true → first_place n os < length os
first_there n [] h = absurd (false≢true h)
first_there n (o ∷ os) h = by (has_number n o) h (first_there n os)
  where
    by : (b : Bool) → b || list_any (has_number n) os ≡ true → (list_any (has_number n) os ≡ true → first_place n os < length os)
        → cond b 0 (suc (first_place n os)) < suc (length os)
    by true h later = omega arith
    by false h later = omega (arith, later h)

module _ {X : Type 0} where
  pub get_range : (f : ℕ → X) (n i : ℕ) → i < n → slice_get (map f (range_with_len 0 n)) i ≡ Some (f i)
  get_range f n i low =
      slice_get-get_or (map f (range_with_len 0 n)) i (f i) (omega (arith, length-map-range_with_len f 0 n, low))
      ∙ ap (λ x. Some x) (get_or-map-range_with_len f 0 n i i (f i) low (omega arith))

  range_same : (f g : ℕ → X) (a n : ℕ) → ((i : ℕ) → a ≤ i → i < a + n → f i ≡ g i) → map f (range_with_len a n) ≡ map g (range_with_len a n)
  range_same f g a zero h = refl
  range_same f g a (suc n) h =
      ap (λ x. x ∷ map f (range_with_len (a + 1) n)) (h a (omega arith) (omega arith))
      ∙ ap (λ l. g a ∷ l) (range_same f g (a + 1) n (λ i le lt. h i (omega (arith, le)) (omega (arith, lt))))

map_twice : {X Y Z : Type 0} (f : Y → Z) (g : X → Y) (xs : List X) → map f (map g xs) ≡ map (λ x. f (g x)) xs
map_twice f g [] = refl
map_twice f g (x ∷ xs) = ap (λ l. f (g x) ∷ l) (map_twice f g xs)

map_back : (os : List (Option ℕ)) (ks : List Kind) → map (λ (l : Listed). code_kind l.number) (map (listed_in os) (map kind_code ks)) ≡ ks
map_back os [] = refl
map_back os (k ∷ ks) = ap (λ x. x ∷ map (λ (l : Listed). code_kind l.number) (map (listed_in os) (map kind_code ks))) (code_back k)
    ∙ ap (λ l. k ∷ l) (map_back os ks)

and_first : (a b : Bool) → a && b ≡ true → a ≡ true
and_first true b h = refl
and_first false b h = absurd (false≢true h)

and_second : (a b : Bool) → a && b ≡ true → b ≡ true
and_second true b h = h
and_second false b h = absurd (false≢true h)

and_no : (a : Bool) → a && false ≡ false
and_no true = refl
and_no false = refl

-- where both are so and not, the second is
but_second : (a b : Bool) → a ≡ true → a && not b ≡ false → b ≡ true
but_second true true e h = refl
but_second true false e h = absurd (false≢true (sym h))
but_second false b e h = absurd (false≢true e)

min_is : (x most : ℕ) → x ≤ most → min x most ≡ x
min_is x most le = omega (arith, le)

-- ---- steps are few

module _ {B : Type 0} (world : World B) (core : Core B) where
  one_take : (c e : ℕ) (o : Option Line) → length (take_if world core c e o) ≤ 1
  one_take c e None = omega arith
  one_take c e (Some line) = by (is_takeable core.pod e)
    where
      by : (b : Bool) → length (if b then take_made world core c (record { turn = 0; event = e; line = line }) ∷ [] else []) ≤ 1
      by true = omega arith
      by false = omega arith

  few_takes : (c : ℕ) (events : List ℕ) → length (takes_from world core c events) ≤ length events
  few_takes c [] = omega arith
  few_takes c (e ∷ events) = omega (
    arith,
    length-append (take_if world core c e (next_line world core c)) (takes_from world core (c + 1) events),
    one_take c e (next_line world core c),
    few_takes (c + 1) events,
  )

  one_call : length (calls_at world core) ≤ 1
  one_call = by (has_turn core.pod.state)
    where
      by : (b : Bool) → length (if b then call_made world core ∷ [] else []) ≤ 1
      by true = omega arith
      by false = omega arith

  few_steps : length world.events ≤ 16 → length (after world core) ≤ 17
  few_steps few = omega (
    arith,
    few,
    length-map (steps_at world core) (λ (s : Step B). s.to),
    length-append (takes_at world core) (calls_at world core),
    few_takes 0 world.events,
    one_call,
  )

-- how many steps lead on from all cores
module _ {C : Type 0} (moves : Moves C) (cores : List C) where
  abbrev many : C → ℕ
  many core = length (moves.after core)

  steps_are : (n : ℕ) → n ≤ length cores → steps_from moves cores n ≡ sum_by many (take n cores)
  steps_are zero low = refl
  steps_are (suc n) low =
      let core = get_within cores n (omega (arith, low)) in
      let on : n + 1 ≡ suc n = omega arith in
      omega (
        arith,
        steps_are n (omega (arith, low)),
        ap (λ o. option_map_or many o 0) core.1,
        sum_by_more many cores n core.0 (omega (arith, low)),
        ap many (get_or_from_slice_get cores n core.0 core.0 core.1),
        ap (λ k. sum_by many (take k cores)) on,
      )

  all_steps : steps_from moves cores (length cores) ≡ sum_by many cores
  all_steps = steps_are (length cores) (omega arith) ∙ ap (sum_by many) (take_all (length cores) cores (omega arith))

-- ---- the search

module _ (script : Script) (sought : Option (List ℕ)) (limit : ℕ) (found : Found) (ex : IsExplored (script_moves script sought) limit found)
    (few_clients : length script.clients ≤ 16) (some : 1 ≤ limit) (few : limit ≤ 1000000) (rounds : List Bool)
    (in_round : (c : ℕ) → slice_index_or rounds c false ≡ true → IsInCycle (quiet_nexts found.rows.items found.lasts.items) c)
    (all_rounds : found.whole ≡ true → (c : ℕ) → IsInCycle (quiet_nexts found.rows.items found.lasts.items) c → slice_index_or rounds c false ≡ true) where
  abbrev world : World ThreadBody
  world = world_of script

  abbrev moves : Moves (Core ThreadBody)
  moves = script_moves script sought

  abbrev rows : List Row
  rows = found.rows.items

  abbrev lasts : List (Option ℕ)
  lasts = found.lasts.items

  abbrev cores : List (Core ThreadBody)
  cores = cores_of moves rows

  abbrev kind_here : ℕ → Option Kind
  kind_here i = if is_quiet rows i && not (slice_index_or rounds i false) then None else option_and_then (core_kind world) (slice_get cores i)

  abbrev kinds : List (Option Kind)
  kinds = map kind_here (range_with_len 0 (length rows))

  abbrev paths : List (List ℕ)
  paths = map (path_of rows) (range_with_len 0 (length rows))

  abbrev pub searched : Searched ThreadBody
  searched = record { cores = cores; paths = paths; kinds = kinds; tried = found.tried; whole = found.whole }

  same_many : length cores ≡ length rows
  same_many = as_many moves rows

  low_of : (at : ℕ) (core : Core ThreadBody) → slice_get cores at ≡ Some core → at < length rows
  low_of at core h = omega (arith, slice_get_within cores at core h, same_many)

  path_at : (at : ℕ) (path : List ℕ) → slice_get paths at ≡ Some path → (at < length rows) × (path_of rows at ≡ path)
  path_at at path h =
      let low : at < length rows = omega (arith, slice_get_within paths at path h, length-map-range_with_len (path_of rows) 0 (length rows)) in
      (low, some_is (sym (get_range (path_of rows) (length rows) at low) ∙ h))

  leads_to : (at : ℕ) (core : Core ThreadBody) → slice_get cores at ≡ Some core → walk (after world) (first_core world) (path_of rows at) ≡ Some core
  leads_to at core h = ex.sound at core h

  tried_is : found.tried ≡ sum_by (λ (core : Core ThreadBody). length (after world core)) cores
  tried_is =
      let all : steps_from moves cores (length rows) ≡ sum_by (λ (core : Core ThreadBody). length (after world core)) cores =
      ap (steps_from moves cores) (sym same_many) ∙ all_steps moves cores in
      let most : sum_by (λ (core : Core ThreadBody). length (after world core)) cores ≤ length cores * 17 =
      sum_by-le (λ (core : Core ThreadBody). length (after world core)) 17 cores
      (All-from_get_or (λ (core : Core ThreadBody). length (after world core) ≤ 17) cores (first_core world)
      (λ i low. few_steps world (get_or cores i (first_core world)) few_clients)) in
      let bound : sum_by (λ (core : Core ThreadBody). length (after world core)) cores ≤ 2 ^ 64 - 1 = omega (arith, most, same_many, ex.few, few, some) in
      ex.tried ∙ ap (λ n. min n (2 ^ 64 - 1)) all ∙ min_is (sum_by (λ (core : Core ThreadBody). length (after world core)) cores) (2 ^ 64 - 1) bound

  -- ---- kinds

  quiet_is : (at : ℕ) (core : Core ThreadBody) → slice_get cores at ≡ Some core → is_quiet rows at ≡ is_calm (core_number world core)
  quiet_is at core h =
      let row = get_within rows at (low_of at core h) in
      ap (λ o. option_map_or (λ (r : Row). is_calm r.kind) o false) row.1 ∙ ap is_calm (ex.kinds at row.0 core row.1 h)

  module _ (at : ℕ) (core : Core ThreadBody) (there : slice_get cores at ≡ Some core) where
    abbrev left : Bool
    left = has_left world core

    endless_there : core_kind world core ≡ Some (kind_of end.Endless left) → is_quiet rows at && not (slice_index_or rounds at false) ≡ false
        → IsEndless world core
    endless_there kind round =
        let quiet : is_quiet rows at ≡ true = quiet_is at core there ∙ ap (λ o. is_calm (option_map kind_code o)) kind ∙ endless_calm left in
        cycle_endless world body_numbers (proc_names script) sought rows lasts ex.kinds ex.lasts at core there
        (in_round at (but_second (is_quiet rows at) (slice_index_or rounds at false) quiet round))

    is_of_kind : (kind : Kind) → core_kind world core ≡ Some kind → is_quiet rows at && not (slice_index_or rounds at false) ≡ false → IsOfKind world core kind
    is_of_kind kind is round = by (halt_of world core) refl (length (takes_at world core) == 0) refl is
      where
        by : (o : Option Halt) → halt_of world core ≡ o → (calm : Bool) → (length (takes_at world core) == 0) ≡ calm
            → kind_by o calm left ≡ Some kind → IsOfKind world core kind
        by (Some (halt.Ended status)) e calm f h = subst (λ k. IsOfKind world core k) (some_is h) (record { ends = e; left = refl })
        by (Some halt.Stuck) e calm f h = subst (λ k. IsOfKind world core k) (some_is h) (record { ends = e; left = refl })
        by (Some halt.Spent) e calm f h = absurd cc
        by None e true f h =
            let kind_is : core_kind world core ≡ Some (kind_of end.Endless left) =
            ap (λ o. kind_by o (length (takes_at world core) == 0) left) e ∙ ap (λ b. kind_by None b left) f in
            subst (λ k. IsOfKind world core k) (some_is h) (record { ends = endless_there kind_is round; left = refl })
        by None e false f h = absurd cc

    -- the other way round
    record Told (kind : Kind) : Type 0 where
      kind_is : core_kind world core ≡ Some kind
      round : is_quiet rows at && not (slice_index_or rounds at false) ≡ false

    not_quiet : is_calm (core_number world core) ≡ false → is_quiet rows at && not (slice_index_or rounds at false) ≡ false
    not_quiet other = ap (λ b. b && not (slice_index_or rounds at false)) (quiet_is at core there ∙ other)

    closed : found.whole ≡ true → (from to : Core ThreadBody) → Has cores from → only_call world from ≡ Some to → Has cores to
    closed whole from to has call = ex.complete whole to (
      path_of rows has.0 ++ (length (after world from) - 1) ∷ [],
      walk_push (after world) (first_core world) from to (path_of rows has.0) (length (after world from) - 1) (leads_to has.0 from has.1)
          (last_is world body_numbers (proc_names script) sought rows lasts ex.kinds from to call),
    )

    called : IsEndless world core → (to : Core ThreadBody) × (only_call world core ≡ Some to)
    called endless = by (only_call world core) refl endless.1
      where
        by : (o : Option (Core ThreadBody)) → only_call world core ≡ o → option_and_then (only_calls world endless.0) o ≡ Some core
            → (to : Core ThreadBody) × (only_call world core ≡ Some to)
        by None e h = absurd cc
        by (Some to) e h = (to, e)

    told_endless : IsEndless world core → found.whole ≡ true → Told (kind_of end.Endless left)
    told_endless endless whole =
        let call = called endless in
        let both : (length (takes_at world core) == 0) && has_turn core.pod.state ≡ true = sym (is_only world core) ∙ call_calm world core call.0 call.1 in
        let none : (length (takes_at world core) == 0) ≡ true = and_first (length (takes_at world core) == 0) (has_turn core.pod.state) both in
        let turn : has_turn core.pod.state ≡ true = and_second (length (takes_at world core) == 0) (has_turn core.pod.state) both in
        let round : slice_index_or rounds at false ≡ true = all_rounds whole at
        (endless_cycle world body_numbers (proc_names script) sought rows lasts ex.kinds ex.lasts (ex.gone ∙ sym same_many) (sym same_many) ex.distinct
        (closed whole) at core there endless) in
        record {
          kind_is =
              ap (λ x. kind_by (if x then Some (halt.Ended core.pod.state.status) else if length (steps_at world core) == 0 then Some halt.Stuck else None)
              (length (takes_at world core) == 0) left) (not_ended turn)
              ∙ ap (λ x. kind_by (if x then Some halt.Stuck else None) (length (takes_at world core) == 0) left) (nowhere_if world core none ∙ ap not turn)
              ∙ ap (λ x. kind_by None x left) none;
          round = ap (λ r. is_quiet rows at && not r) round ∙ and_no (is_quiet rows at);
        }
      where
        not_ended : has_turn core.pod.state ≡ true → core.pod.state.ended ≡ false
        not_ended turn = by core.pod.state.ended refl
          where
            by : (b : Bool) → core.pod.state.ended ≡ b → b ≡ false
            by true e = absurd (false≢true (sym (no_turn world core e) ∙ turn))
            by false e = refl

    told_by : (e : End) → EndsSo world core e → (e ≡ end.Endless → found.whole ≡ true) → Told (kind_of e left)
    told_by (end.Ended status) ends whole =
        let kind_is : core_kind world core ≡ Some (kind_of (end.Ended status) left) = ap (λ o. kind_by o (length (takes_at world core) == 0) left) ends in
        record { kind_is = kind_is; round = not_quiet (ap (λ o. is_calm (option_map kind_code o)) kind_is ∙ ended_not_calm status left) }
    told_by end.Stuck ends whole =
        let kind_is : core_kind world core ≡ Some (kind_of end.Stuck left) = ap (λ o. kind_by o (length (takes_at world core) == 0) left) ends in
        record { kind_is = kind_is; round = not_quiet (ap (λ o. is_calm (option_map kind_code o)) kind_is ∙ stuck_not_calm left) }
    told_by end.Endless ends whole = told_endless ends (whole refl)

    told_so : (kind : Kind) → IsOfKind world core kind → (kind.end ≡ end.Endless → found.whole ≡ true) → kind_here at ≡ Some kind
    told_so kind is whole =
        let told = told_by kind.end is.ends whole in
        let same : kind_of kind.end left ≡ kind = ap (kind_of kind.end) is.left in
        ap (λ b. if b then None else option_and_then (core_kind world) (slice_get cores at)) told.round
        ∙ ap (option_and_then (core_kind world)) there ∙ told.kind_is ∙ ap (λ k. Some k) same

    kind_so : (kind : Kind) → kind_here at ≡ Some kind → IsOfKind world core kind
    kind_so kind h = by (is_quiet rows at && not (slice_index_or rounds at false)) refl h
      where
        by : (b : Bool) → is_quiet rows at && not (slice_index_or rounds at false) ≡ b
            → (if b then None else option_and_then (core_kind world) (slice_get cores at)) ≡ Some kind → IsOfKind world core kind
        by true e h = absurd cc
        by false e h = is_of_kind kind (sym (ap (option_and_then (core_kind world)) there) ∙ h) e

  pub is_searched : IsSearched world limit searched
  is_searched = record {
    paths = length-map-range_with_len (path_of rows) 0 (length rows) ∙ sym same_many;
    kinds = length-map-range_with_len kind_here 0 (length rows) ∙ sym same_many;
    sound = λ at path core hp hc. subst (λ p. walk (after world) (first_core world) p ≡ Some core) (path_at at path hp).1 (leads_to at core hc);
    nearest = λ at path other core hp hw before. let here = path_at at path hp in
        ex.first at other core here.0 hw (subst (λ p. IsBefore other p) (sym here.1) before);
    distinct = ex.distinct;
    all = λ whole path core hw. ex.complete whole core (path, hw);
    few = omega (arith, same_many, ex.few, some);
    full = λ cut. omega (arith, same_many, ex.few, some, ex.full cut);
    more = λ cut. let out = ex.cut cut in (
      path_of rows out.inside.0 ++ out.step ∷ [],
      out.to,
      walk_push (after world) (first_core world) out.from out.to (path_of rows out.inside.0) out.step (leads_to out.inside.0 out.from out.inside.1) out.leads,
      out.outside,
    );
    tried = tried_is;
    are = λ at core kind hc hk. kind_so at core hc kind (some_is (sym (get_range kind_here (length rows) at (low_of at core hc)) ∙ hk));
    told = λ at core kind hc is whole. get_range kind_here (length rows) at (low_of at core hc) ∙ ap (λ k. Some k) (told_so at core hc kind is whole);
  }

  -- ---- as the code has them

  pub numbers_are : kinds_at rows rounds ≡ numbers kinds
  numbers_are = range_same (kind_at rows rounds) (λ i. option_map kind_code (kind_here i)) 0 (length rows) (λ i le low. here i (omega (arith, low)))
      ∙ sym (map_twice (option_map kind_code) kind_here (range_with_len 0 (length rows)))
    where
      here : (i : ℕ) → i < length rows → kind_at rows rounds i ≡ option_map kind_code (kind_here i)
      here i low =
          let row = get_within rows i low in
          let core = get_within cores i (omega (arith, low, same_many)) in
          ap (λ o. if is_quiet rows i && not (slice_index_or rounds i false) then None else option_and_then (λ (r : Row). r.kind) o) row.1
          ∙ by row.0.kind (option_and_then (core_kind world) (slice_get cores i)) (is_quiet rows i && not (slice_index_or rounds i false))
          (ex.kinds i row.0 core.0 row.1 core.1 ∙ sym (ap (λ o. option_map kind_code (option_and_then (core_kind world) o)) core.1))
        where
          by : (k : Option ℕ) (kind : Option Kind) (b : Bool) → k ≡ option_map kind_code kind → (if b then None else k)
              ≡ option_map kind_code (if b then None else kind)
          by k kind true h = refl
          by k kind false h = h

  pub listing_is : listing (kinds_at rows rounds) ≡ map (listed_in (numbers kinds)) (map kind_code (kinds_in kinds))
  listing_is = ap listing numbers_are ∙ ap (map (listed_in (numbers kinds))) (numbers_same kinds)

  module _ (i : ℕ) (kind : Kind) (there : slice_get (kinds_in kinds) i ≡ Some kind) where
    abbrev first : ℕ
    first = first_place (kind_code kind) (numbers kinds)

    some_has : list_any (has_number (kind_code kind)) (numbers kinds) ≡ true
    some_has = sym (among (kind_code kind) (numbers kinds)) ∙ ap (list_any (λ m. m == kind_code kind)) (numbers_same kinds)
        ∙ any_at (λ m. m == kind_code kind) (map kind_code (kinds_in kinds)) i (kind_code kind) at (eq-eqb (kind_code kind) (kind_code kind) refl)
      where
        at : slice_get (map kind_code (kinds_in kinds)) i ≡ Some (kind_code kind)
        at = slice_get-map kind_code (kinds_in kinds) i ∙ ap (option_map kind_code) there

    pub first_low : first < length rows
    first_low = omega (
      arith,
      first_there (kind_code kind) (numbers kinds) some_has,
      length-map kinds (option_map kind_code),
      length-map-range_with_len kind_here 0 (length rows),
    )

    pub first_is : position (has_kind kind) kinds ≡ Some first
    first_is =
        let same : position_or_len (has_kind kind) kinds ≡ first = sym (first_same kind kinds) in
        ap (λ n. cond (nat_lt n (length kinds)) (Some n) None) same
        ∙ ap (λ b. cond b (Some first) None) (lt-ltb first (length kinds) (omega (arith, first_low, length-map-range_with_len kind_here 0 (length rows))))

    pub first_core_there : (core : Core ThreadBody) × (slice_get cores first ≡ Some core)
    first_core_there = get_within cores first (omega (arith, first_low, same_many))

    pub line_is : listed_line world rows (listed_in (numbers kinds) (kind_code kind)) ≡ kind_line world searched kind
    line_is =
        let core = first_core_there in
        let at : first_of searched kind ≡ first = ap (λ o. unwrap_or o 0) first_is in
        let path : unwrap_or (slice_get paths (first_of searched kind)) [] ≡ path_of rows first =
        ap (λ n. unwrap_or (slice_get paths n) []) at ∙ ap (λ o. unwrap_or o []) (get_range (path_of rows) (length rows) first first_low) in
        let there : unwrap_or (slice_get cores (first_of searched kind)) (first_core world) ≡ core.0 =
        ap (λ n. unwrap_or (slice_get cores n) (first_core world)) at ∙ ap (λ o. unwrap_or o (first_core world)) core.1 in
        let led : unwrap_or (walk (after world) (first_core world) (path_of rows first)) (first_core world) ≡ core.0 =
        ap (λ o. unwrap_or o (first_core world)) (leads_to first core.0 core.1) in
        ap (λ k. line_of world k (count_by (has_number (kind_code kind)) (numbers kinds)) (path_of rows first)
        (unwrap_or (walk (after world) (first_core world) (path_of rows first)) (first_core world))) (code_back kind)
        ∙ ap (λ n. line_of world kind n (path_of rows first) (unwrap_or (walk (after world) (first_core world) (path_of rows first)) (first_core world)))
        (count_same kind kinds)
        ∙ ap (line_of world kind (count_by (has_kind kind) kinds) (path_of rows first)) (led ∙ sym there)
        ∙ ap (λ p. line_of world kind (count_by (has_kind kind) kinds) p (unwrap_or (slice_get cores (first_of searched kind)) (first_core world))) (sym path)

  -- the lines of all kinds
  pub lines_are : flat_map (listed_line world rows) (listing (kinds_at rows rounds)) ≡ flat_map (kind_line world searched) (kinds_in kinds)
  lines_are =
      ap (flat_map (listed_line world rows)) listing_is
      ∙ flat_map-map (listed_line world rows) (listed_in (numbers kinds)) (map kind_code (kinds_in kinds))
      ∙ flat_map-map (λ n. listed_line world rows (listed_in (numbers kinds) n)) kind_code (kinds_in kinds)
      ∙ flat_same (λ k. listed_line world rows (listed_in (numbers kinds) (kind_code k))) (kind_line world searched) (kinds_in kinds) line_is

  pub ends_are : ends_of (listing (kinds_at rows rounds)) found.whole ≡ ends_by (kinds_in kinds) found.whole
  ends_are = ap (λ l. ends_by (map (λ (x : Listed). code_kind x.number) l) found.whole) listing_is
      ∙ ap (λ ks. ends_by ks found.whole) (map_back (numbers kinds) (kinds_in kinds))

  -- steps lead to the first core of each
  pub reached : All (IsReached world rows) (listing (kinds_at rows rounds))
  reached = subst (λ l. All (IsReached world rows) l) (sym listing_is)
      (All-from_get_or (IsReached world rows) (map (listed_in (numbers kinds)) (map kind_code (kinds_in kinds))) none here)
    where
      none : Listed
      none = record { number = 0; first = 0; cores = 0 }

      here : (i : ℕ) → i < length (map (listed_in (numbers kinds)) (map kind_code (kinds_in kinds)))
          → IsReached world rows (get_or (map (listed_in (numbers kinds)) (map kind_code (kinds_in kinds))) i none)
      here i low =
          let kind = get_within (kinds_in kinds) i
          (omega (arith, low, length-map (map kind_code (kinds_in kinds)) (listed_in (numbers kinds)), length-map (kinds_in kinds) kind_code)) in
          let at : slice_get (map (listed_in (numbers kinds)) (map kind_code (kinds_in kinds))) i ≡ Some (listed_in (numbers kinds) (kind_code kind.0)) =
          slice_get-map (listed_in (numbers kinds)) (map kind_code (kinds_in kinds)) i
          ∙ ap (option_map (listed_in (numbers kinds))) (slice_get-map kind_code (kinds_in kinds) i ∙ ap (option_map kind_code) kind.1) in
          let core = first_core_there i kind.0 kind.1 in
          subst (IsReached world rows)
          (sym (get_or_from_slice_get (map (listed_in (numbers kinds)) (map kind_code (kinds_in kinds))) i
          (listed_in (numbers kinds) (kind_code kind.0)) none at))
          (first_low i kind.0 kind.1, subst (λ o. IsSome o) (sym (leads_to (first_place (kind_code kind.0) (numbers kinds)) core.0 core.1)) refl)

  -- the pieces are what is said of the ends
  pub ends_say : (n : ℕ) (out0 out1 out2 : List ℕ) (rows_now : List Row) (listed again : List Listed) (e : Ending) → n ≡ length rows → out0 ≡ []
      → out1 ≡ out0 ++ counts_text n found.tried found.whole → rows_now ≡ rows → listed ≡ listing (kinds_at rows rounds)
      → again ≡ listing (kinds_at rows rounds) → out2 ≡ out1 ++ flat_map (listed_line world rows_now) listed → e ≡ ends_of again found.whole
      → EndsSay world limit out2 e
  ends_say n out0 out1 out2 rows_now listed again e hn h0 h1 hr hl ha h2 he = record {
    found = searched;
    right = is_searched;
    said = h2 ∙ (λ i. h1 i ++ flat_map (listed_line world (hr i)) (hl i))
        ∙ (λ i. (h0 i ++ counts_text (hn i) found.tried found.whole) ++ lines_are i)
        ∙ ap (λ m. counts_text m found.tried found.whole ++ flat_map (kind_line world searched) (kinds_in kinds)) (sym same_many);
    ends = he ∙ ap (λ l. ends_of l found.whole) ha ∙ ends_are;
  }

-- calls lead from quiet cores to quiet cores
pub nexts_within : (script : Script) (sought : Option (List ℕ)) (limit : ℕ) (found : Found) → IsExplored (script_moves script sought) limit found
    → AreWithin (quiet_nexts found.rows.items found.lasts.items)
nexts_within script sought limit found ex i j h =
    let led = leads (world_of script) body_numbers (proc_names script) sought found.rows.items found.lasts.items ex.kinds i j h in
    let row = row_there (world_of script) body_numbers (proc_names script) sought found.rows.items found.lasts.items ex.kinds j led.there in
    omega (
      arith,
      slice_get_within found.rows.items j row.0 row.1,
      length-map-range_with_len (quiet_next found.rows.items found.lasts.items) 0 (length found.rows.items),
    )

-- of the same rows and the same kinds
pub reached_now : {B : Type 0} (world : World B) (rows now : List Row) (found listed : List Listed) → now ≡ rows → listed ≡ found
    → All (IsReached world rows) found → All (IsReached world now) listed
reached_now world rows now found listed same is all =
    subst (λ r. All (IsReached world r) listed) (sym same) (subst (λ l. All (IsReached world rows) l) (sym is) all)
