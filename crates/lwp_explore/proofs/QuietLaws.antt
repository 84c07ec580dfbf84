-- The cores that the search finds to be in a cycle of calls are those that are endless.
use Rattle.lwp_explore.proofs.Played.{some_is}
use Rattle.lwp_explore.specs.Cores.{Step, World, after, call_made, calls_at, steps_at, takes_at}
use Rattle.lwp_explore.specs.Cycles.{IsInCycle, jump, leap}
use Rattle.lwp_explore.specs.KindCodes.{kind_code, with_left}
use Rattle.lwp_explore.specs.Kinds.{IsEndless, has_left, only_call, only_calls}
use Rattle.lwp_explore.specs.Quiet.{is_calm, is_quiet, next_if, quiet_next, quiet_nexts}
use Rattle.lwp_explore.specs.Searching.{core_number, kind_by, moves_of}
use Rattle.pod_events.specs.Events.{has_turn}
use Rattle.search.specs.Found.{Has, HasKinds, HasLasts, IsDistinct, IsLast, cores_of, last_step}
use Rattle.search.specs.declared.found.Row.{Row}
use Rattle.session_cores.specs.Core.{Core}
use Rattle.std.proofs.Common.{Bool, List, None, Option, Some, [], ap, arith, false, length, map, not, refl, slice_get, suc, sym, true, zero, ℕ}
use Rattle.std.proofs.Common.{◌++◌, ◌+◌, ◌<◌, ◌∙◌, ◌∷◌, ◌≡◌}
use Rattle.std.proofs.lemmas.Bool.{eqb-true, false≢true, ne_eqb}
use Rattle.std.specs.List.{range_with_len}
use Rattle.std.specs.Option.{option_map_or}
use Rattle.std.specs.Prelude.{if◌then◌else◌, option_and_then, option_map, slice_index_or, ◌&&◌, ◌*◌, ◌-◌, ◌/◌, ◌==◌}
use Rattle.trace_text.specs.declared.ends.Halt.TheVariants as halt

-- ---- which cores are calm

-- the number of no ended pod is that of a calm core
pub ended_not_calm : (status : ℕ) (left : Bool) → (with_left (4 + 2 * status) left / 2 == 1) ≡ false
ended_not_calm status true = ne_eqb ((4 + 2 * status + 1) / 2) 1 (λ e. omega (arith, e))
ended_not_calm status false = ne_eqb ((4 + 2 * status) / 2) 1 (λ e. omega (arith, e))

pub stuck_not_calm : (left : Bool) → (with_left 0 left / 2 == 1) ≡ false
stuck_not_calm true = refl
stuck_not_calm false = refl

pub endless_calm : (left : Bool) → (with_left 2 left / 2 == 1) ≡ true
endless_calm true = refl
endless_calm false = refl

module _ {B : Type 0} (world : World B) where
  -- a call is the only step, by what there is
  calm_by : (core : Core B) (ended nothing turn nowhere left : Bool) → (ended ≡ true → turn ≡ false) → (nothing ≡ true → nowhere ≡ not turn)
      → (nothing ≡ false → nowhere ≡ false)
      → is_calm (option_map kind_code (kind_by (if ended then Some (halt.Ended core.pod.state.status) else if nowhere then Some halt.Stuck else None) nothing left))
      ≡ nothing && turn
  calm_by core true true turn nowhere left ends some none = ended_not_calm core.pod.state.status left ∙ sym (ends refl)
  calm_by core true false turn nowhere left ends some none = ended_not_calm core.pod.state.status left
  calm_by core false true true nowhere left ends some none =
      ap (λ b. is_calm (option_map kind_code (kind_by (if b then Some halt.Stuck else None) true left))) (some refl) ∙ endless_calm left
  calm_by core false true false nowhere left ends some none =
      ap (λ b. is_calm (option_map kind_code (kind_by (if b then Some halt.Stuck else None) true left))) (some refl) ∙ stuck_not_calm left
  calm_by core false false turn nowhere left ends some none =
      ap (λ b. is_calm (option_map kind_code (kind_by (if b then Some halt.Stuck else None) false left))) (none refl)

  pub no_turn : (core : Core B) → core.pod.state.ended ≡ true → has_turn core.pod.state ≡ false
  no_turn core e = rw e refl

  pub empty_is : {A : Type 0} (xs : List A) → (length xs == 0) ≡ true → xs ≡ []
  empty_is [] h = refl
  empty_is (x ∷ xs) h = absurd (omega (arith, eqb-true (length (x ∷ xs)) 0 h))

  pub nowhere_if : (core : Core B) → (length (takes_at world core) == 0) ≡ true → (length (steps_at world core) == 0) ≡ not (has_turn core.pod.state)
  nowhere_if core none = ap (λ (takes : List (Step B)). length (takes ++ calls_at world core) == 0) (empty_is (takes_at world core) none)
      ∙ by (has_turn core.pod.state)
    where
      by : (b : Bool) → (length (if b then call_made world core ∷ [] else []) == 0) ≡ not b
      by true = refl
      by false = refl

  somewhere : (core : Core B) → (length (takes_at world core) == 0) ≡ false → (length (steps_at world core) == 0) ≡ false
  somewhere core some = by (takes_at world core) some
    where
      by : (takes : List (Step B)) → (length takes == 0) ≡ false → (length (takes ++ calls_at world core) == 0) ≡ false
      by [] h = absurd (false≢true (sym h))
      by (t ∷ takes) h = ne_eqb (length (t ∷ (takes ++ calls_at world core))) 0 (λ e. omega (arith, e))

  pub is_only : (core : Core B) → is_calm (core_number world core) ≡ (length (takes_at world core) == 0) && has_turn core.pod.state
  is_only core = calm_by core core.pod.state.ended (length (takes_at world core) == 0) (has_turn core.pod.state) (length (steps_at world core) == 0)
      (has_left world core) (no_turn core) (nowhere_if core) (somewhere core)

  -- from a calm core the only call leads on
  pub calm_call : (core : Core B) → is_calm (core_number world core) ≡ true → only_call world core ≡ Some (call_made world core).to
  calm_call core calm = ap (λ b. if b then Some (call_made world core).to else None) (sym (is_only core) ∙ calm)

  pub call_calm : (core to : Core B) → only_call world core ≡ Some to → is_calm (core_number world core) ≡ true
  call_calm core to h = is_only core ∙ by ((length (takes_at world core) == 0) && has_turn core.pod.state) h
    where
      by : (b : Bool) → (if b then Some (call_made world core).to else None) ≡ Some to → b ≡ true
      by true h = refl
      by false h = absurd cc

module _ {B : Type 0} (world : World B) (numbers : B → List ℕ) (procs : List (List ℕ)) (sought : Option (List ℕ)) (rows : List Row)
    (lasts : List (Option ℕ)) (kinds : HasKinds (moves_of world numbers procs sought) rows) where
  abbrev cores : List (Core B)
  cores = cores_of (moves_of world numbers procs sought) rows

  -- its last step is that call
  pub last_is : (core to : Core B) → only_call world core ≡ Some to → last_step (moves_of world numbers procs sought) core ≡ Some to
  last_is core to h =
      let calm = call_calm world core to h in
      let both = sym (is_only world core) ∙ calm in
      let only : after world core ≡ (call_made world core).to ∷ [] = only_after core both in
      let same : (call_made world core).to ≡ to = some_is (sym (calm_call world core calm) ∙ h) in
      ap (λ (all : List (Core B)). slice_get all (length all - 1)) only ∙ ap (λ c. Some c) same
    where
      only_after : (core : Core B) → ((length (takes_at world core) == 0) && has_turn core.pod.state) ≡ true
          → after world core ≡ (call_made world core).to ∷ []
      only_after core both = by (length (takes_at world core) == 0) refl (has_turn core.pod.state) refl both
        where
          by : (a : Bool) → (length (takes_at world core) == 0) ≡ a → (b : Bool) → has_turn core.pod.state ≡ b → a && b ≡ true
              → after world core ≡ (call_made world core).to ∷ []
          by true ea true eb h =
              ap (λ (takes : List (Step B)). map (λ (s : Step B). s.to) (takes ++ calls_at world core)) (empty_is world (takes_at world core) ea)
              ∙ ap (λ b. map (λ (s : Step B). s.to) (if b then call_made world core ∷ [] else [])) eb
          by true ea false eb h = absurd (false≢true h)
          by false ea b eb h = absurd (false≢true h)

  -- ---- the table

  pub jump_is : (i : ℕ) → jump (quiet_nexts rows lasts) i ≡ quiet_next rows lasts i
  jump_is i = at 0 (length rows) i i (omega arith) (λ h. h)
    where
      beyond : (xs : List Row) (k : ℕ) → (k < length xs → ⊥) → slice_get xs k ≡ None
      beyond [] k h = refl
      beyond (x ∷ xs) zero h = absurd (h (omega arith))
      beyond (x ∷ xs) (suc k) h = beyond xs k (λ low. h (omega (arith, low)))

      at : (a n k j : ℕ) → a + k ≡ j → (j < length rows → k < n) → slice_index_or (map (quiet_next rows lasts) (range_with_len a n)) k None
          ≡ quiet_next rows lasts j
      at a zero k j is low =
          sym (ap (λ o. if option_map_or (λ row. is_calm row.kind) o false then next_if rows (slice_index_or lasts j None) else None)
          (beyond rows j (λ h. omega (arith, low h))))
      at a (suc n) zero j is low = let same : a ≡ j = omega (arith, is) in ap (quiet_next rows lasts) same
      at a (suc n) (suc k) j is low = at (a + 1) n k j (omega (arith, is)) (λ h. omega (arith, low h))

  pub record Leads (i j : ℕ) : Type 0 where
    pub here : is_quiet rows i ≡ true
    pub last : slice_index_or lasts i None ≡ Some j
    pub there : is_quiet rows j ≡ true

  pub leads : (i j : ℕ) → jump (quiet_nexts rows lasts) i ≡ Some j → Leads i j
  leads i j h = by (is_quiet rows i) refl (slice_index_or lasts i None) refl (sym (jump_is i) ∙ h)
    where
      by : (b : Bool) → is_quiet rows i ≡ b → (o : Option ℕ) → slice_index_or lasts i None ≡ o → (if b then next_if rows o else None) ≡ Some j → Leads i j
      by false e o f h = absurd cc
      by true e None f h = absurd cc
      by true e (Some k) f h = by_next (is_quiet rows k) refl h
        where
          by_next : (b : Bool) → is_quiet rows k ≡ b → (if b then Some k else None) ≡ Some j → Leads i j
          by_next true g h = let same : k ≡ j = some_is h in record {
            here = e;
            last = f ∙ ap (λ n. Some n) same;
            there = ap (is_quiet rows) (sym same) ∙ g;
          }
          by_next false g h = absurd cc

  leads_back : (i j : ℕ) → Leads i j → jump (quiet_nexts rows lasts) i ≡ Some j
  leads_back i j l = jump_is i ∙ ap (λ b. if b then next_if rows (slice_index_or lasts i None) else None) l.here
      ∙ ap (next_if rows) l.last ∙ ap (λ b. if b then Some j else None) l.there

  -- a core of a quiet place is calm, and the other way round
  pub row_there : (i : ℕ) → is_quiet rows i ≡ true → (row : Row) × (slice_get rows i ≡ Some row) × (is_calm row.kind ≡ true)
  row_there i h = by (slice_get rows i) refl h
    where
      by : (o : Option Row) → slice_get rows i ≡ o → option_map_or (λ row. is_calm row.kind) o false ≡ true
          → (row : Row) × (slice_get rows i ≡ Some row) × (is_calm row.kind ≡ true)
      by None e h = absurd (false≢true h)
      by (Some row) e h = (row, e, h)

  quiet_calm : (i : ℕ) (core : Core B) → slice_get cores i ≡ Some core → is_quiet rows i ≡ true → is_calm (core_number world core) ≡ true
  quiet_calm i core at quiet = let row = row_there i quiet in ap is_calm (sym (kinds i row.0 core row.1 at)) ∙ row.2

  module _ (are : HasLasts (moves_of world numbers procs sought) cores lasts) where
    last_at : (xs : List (Option ℕ)) (i j : ℕ) → slice_index_or xs i None ≡ Some j → slice_get xs i ≡ Some (Some j)
    last_at [] i j h = absurd cc
    last_at (x ∷ xs) zero j h = ap (λ o. Some o) h
    last_at (x ∷ xs) (suc i) j h = last_at xs i j h

    one_call : (i j : ℕ) (core : Core B) → slice_get cores i ≡ Some core → Leads i j → (to : Core B) × (slice_get cores j ≡ Some to) × (only_call world core ≡ Some to)
    one_call i j core at l =
        let last = are i core (Some j) at (last_at lasts i j l.last) in
        let call = calm_call world core (quiet_calm i core at l.here) in
        let same = some_is (sym (last_is core (call_made world core).to call) ∙ last.1) in
        (last.0, last.2, call ∙ ap (λ c. Some c) same)

    pub calls_along : (n i j : ℕ) (core : Core B) → slice_get cores i ≡ Some core → leap (quiet_nexts rows lasts) n i ≡ Some j
        → (to : Core B) × (slice_get cores j ≡ Some to) × (only_calls world n core ≡ Some to)
    calls_along zero i j core at h = (core, ap (slice_get cores) (sym (some_is h)) ∙ at, refl)
    calls_along (suc n) i j core at h = by (jump (quiet_nexts rows lasts) i) refl h (λ k next led. calls_along n k j next led)
      where
        by : (o : Option ℕ) → jump (quiet_nexts rows lasts) i ≡ o → option_and_then (leap (quiet_nexts rows lasts) n) o ≡ Some j
            → ((k : ℕ) (next : Core B) → slice_get cores k ≡ Some next → leap (quiet_nexts rows lasts) n k ≡ Some j
            → (to : Core B) × (slice_get cores j ≡ Some to) × (only_calls world n next ≡ Some to))
            → (to : Core B) × (slice_get cores j ≡ Some to) × (only_calls world (suc n) core ≡ Some to)
        by None e h rest = absurd cc
        by (Some k) e h rest =
            let call = one_call i k core at (leads i k e) in
            let later = rest k call.0 call.1 h in
            (later.0, later.1, ap (option_and_then (only_calls world n)) call.2 ∙ later.2)

    -- a core in a cycle is endless
    pub cycle_endless : (i : ℕ) (core : Core B) → slice_get cores i ≡ Some core → IsInCycle (quiet_nexts rows lasts) i → IsEndless world core
    cycle_endless i core at cycle =
        let back = calls_along (suc cycle.0) i i core at cycle.1 in
        (cycle.0, back.2 ∙ ap (λ c. Some c) (some_is (sym back.1 ∙ at)))

    -- where all cores are there and were gone from, an endless one is in a cycle
    module _ (kept : length lasts ≡ length cores) (same_rows : length rows ≡ length cores) (distinct : IsDistinct cores)
        (closed : (from to : Core B) → Has cores from → only_call world from ≡ Some to → Has cores to) where
      get_row : (xs : List Row) (ys : List (Core B)) (i : ℕ) (core : Core B) → length xs ≡ length ys → slice_get ys i ≡ Some core → (row : Row) × (slice_get xs i ≡ Some row)
      get_row xs [] i core e h = absurd cc
      get_row [] (y ∷ ys) i core e h = absurd (omega (arith, e))
      get_row (x ∷ xs) (y ∷ ys) zero core e h = (x, refl)
      get_row (x ∷ xs) (y ∷ ys) (suc i) core e h = get_row xs ys i core (omega (arith, e)) h

      get_last : (xs : List (Option ℕ)) (ys : List (Core B)) (i : ℕ) (core : Core B) → length xs ≡ length ys → slice_get ys i ≡ Some core
          → slice_get xs i ≡ Some (slice_index_or xs i None)
      get_last xs [] i core e h = absurd cc
      get_last [] (y ∷ ys) i core e h = absurd (omega (arith, e))
      get_last (x ∷ xs) (y ∷ ys) zero core e h = refl
      get_last (x ∷ xs) (y ∷ ys) (suc i) core e h = get_last xs ys i core (omega (arith, e)) h

      calm_quiet : (i : ℕ) (core : Core B) → slice_get cores i ≡ Some core → is_calm (core_number world core) ≡ true → is_quiet rows i ≡ true
      calm_quiet i core at calm =
          let row = get_row rows cores i core same_rows at in
          ap (λ o. option_map_or (λ r. is_calm r.kind) o false) row.1 ∙ ap is_calm (kinds i row.0 core row.1 at) ∙ calm

      call_leads : (i : ℕ) (core to : Core B) → slice_get cores i ≡ Some core → only_call world core ≡ Some to
          → is_calm (core_number world to) ≡ true → (j : ℕ) × (slice_get cores j ≡ Some to) × (jump (quiet_nexts rows lasts) i ≡ Some j)
      call_leads i core to at call calm =
          by (slice_index_or lasts i None) refl (are i core (slice_index_or lasts i None) at (get_last lasts cores i core kept at))
        where
          by : (o : Option ℕ) → slice_index_or lasts i None ≡ o → IsLast (moves_of world numbers procs sought) cores core o
              → (j : ℕ) × (slice_get cores j ≡ Some to) × (jump (quiet_nexts rows lasts) i ≡ Some j)
          by None e last = absurd (last to (last_is core to call) (closed core to (i, at) call))
          by (Some j) e last =
              let there : slice_get cores j ≡ Some to = last.2 ∙ (sym last.1 ∙ last_is core to call) in (
                j,
                there,
                leads_back i j (record {
                  here = calm_quiet i core at (call_calm world core to call);
                  last = e;
                  there = calm_quiet j to there calm;
                }),
              )

      leaps_along : (n i : ℕ) (core to : Core B) → slice_get cores i ≡ Some core → only_calls world n core ≡ Some to → is_calm (core_number world to) ≡ true
          → (j : ℕ) × (slice_get cores j ≡ Some to) × (leap (quiet_nexts rows lasts) n i ≡ Some j)
      leaps_along zero i core to at h calm = (i, at ∙ h, refl)
      leaps_along (suc n) i core to at h calm = by (only_call world core) refl h (λ next led. calm_after n next to led calm)
          (λ k next at led. leaps_along n k next to at led calm)
        where
          calm_after : (n : ℕ) (next to : Core B) → only_calls world n next ≡ Some to → is_calm (core_number world to) ≡ true
              → is_calm (core_number world next) ≡ true
          calm_after zero next to led calm = ap (λ c. is_calm (core_number world c)) (some_is led) ∙ calm
          calm_after (suc n) next to led calm = by_call (only_call world next) refl led
            where
              by_call : (o : Option (Core B)) → only_call world next ≡ o → option_and_then (only_calls world n) o ≡ Some to
                  → is_calm (core_number world next) ≡ true
              by_call None e led = absurd cc
              by_call (Some c) e led = call_calm world next c e

          by : (o : Option (Core B)) → only_call world core ≡ o → option_and_then (only_calls world n) o ≡ Some to
              → ((next : Core B) → only_calls world n next ≡ Some to → is_calm (core_number world next) ≡ true)
              → ((k : ℕ) (next : Core B) → slice_get cores k ≡ Some next → only_calls world n next ≡ Some to
              → (j : ℕ) × (slice_get cores j ≡ Some to) × (leap (quiet_nexts rows lasts) n k ≡ Some j))
              → (j : ℕ) × (slice_get cores j ≡ Some to) × (leap (quiet_nexts rows lasts) (suc n) i ≡ Some j)
          by None e led calms rest = absurd cc
          by (Some next) e led calms rest =
              let one = call_leads i core next at e (calms next led) in
              let later = rest one.0 next one.1 led in
              (later.0, later.1, ap (option_and_then (leap (quiet_nexts rows lasts) n)) one.2 ∙ later.2)

      pub endless_cycle : (i : ℕ) (core : Core B) → slice_get cores i ≡ Some core → IsEndless world core → IsInCycle (quiet_nexts rows lasts) i
      endless_cycle i core at endless =
          let first = by (only_call world core) refl endless.1 in
          let back = leaps_along (suc endless.0) i core core at endless.1 (call_calm world core first.0 first.1) in
          (endless.0, back.2 ∙ ap (λ j. Some j) (distinct back.0 i core back.1 at))
        where
          by : (o : Option (Core B)) → only_call world core ≡ o → option_and_then (only_calls world endless.0) o ≡ Some core
              → (to : Core B) × (only_call world core ≡ Some to)
          by None e h = absurd cc
          by (Some to) e h = (to, e)
