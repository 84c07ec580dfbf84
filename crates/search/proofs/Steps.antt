-- What is known after a step, after the steps of a core, and at the end.
use Rattle.search.proofs.KnownLemmas.{as_many, grows_more, has_more, known_more, led_is, some_same, tried_one_more, up_to_more}
use Rattle.search.proofs.KnownLemmas.{walks_stay}
use Rattle.search.proofs.PathLemmas.{split_le}
use Rattle.search.proofs.Places.{get_cases, get_within}
use Rattle.search.specs.Found.{HasNoMarkBefore, IsComplete, IsSound, cores_of, led_to, path_of, steps_from}
use Rattle.search.specs.Known.{AreOf, AreSettled, AreStanding, AreTried, Exploring, Grows, HasRowsUpTo, IsMark, IsSettled, IsUpTo, IsKnown}
use Rattle.search.specs.Known.{Keeps, Knows, MayJoin, Settles, Stays, first_mark}
use Rattle.search.specs.Moves.{IsPath, Moves, walk}
use Rattle.search.specs.Seen.{Adds, number_of}
use Rattle.search.specs.declared.found.Place.{Place}
use Rattle.search.specs.declared.found.Row.{Row}
use Rattle.std.proofs.Common.{Bool, List, None, Option, Some, [], ap, arith, cond, false, inl, inr, length, refl, subst, suc, sym, true, true≢false, zero}
use Rattle.std.proofs.Common.{ℕ, ◌++◌, ◌+◌, ◌-◌, ◌<◌, ◌^◌, ◌∙◌, ◌∷◌, ◌≡◌, ◌≤◌}
use Rattle.std.proofs.lemmas.List.{length-append}
use Rattle.std.proofs.lemmas.Option.{slice_get_within}
use Rattle.std.specs.Cmp.Lexicographic.{bytes_decides}
use Rattle.std.specs.Option.{option_map_or}
use Rattle.std.specs.Prelude.{IsSome, MatchOption, is_some, min, option_and_then, slice_get}
use Rattle.std.specs.Str.{bytes_eq}

place_of_one : {X : Type 0} (x : X) (i : ℕ) (y : X) → slice_get (x ∷ []) i ≡ Some y → (i ≡ zero) × (y ≡ x)
place_of_one x zero y e = (refl, cc)
place_of_one x (suc i) y e = absurd cc

by_min : (t n a b x y more : ℕ) → t ≡ min a (2 ^ 64 - 1) → a ≡ b → x ≡ y → n ≡ y → more ≡ min (t + n) (2 ^ 64 - 1) → more ≡ min (b + x) (2 ^ 64 - 1)
by_min t n a b x y more ht hab hx hn hm = omega (arith, ht, hab, hx, hn, hm)

module _ {C : Type 0} (moves : Moves C) where
  pub same_grows : (limit : ℕ) (rows : List Row) → Grows moves limit rows rows
  same_grows limit rows = record { keeps = record { rows = λ _ _ there. there; cores = λ _ _ there. there }; stop = λ _. refl }

  pub grows_trans : (limit : ℕ) (a b c : List Row) → Grows moves limit a b → Grows moves limit b c → Grows moves limit a c
  grows_trans limit a b c first next = record {
    keeps = record {
      rows = λ i r there. next.keeps.rows i r (first.keeps.rows i r there);
      cores = λ i core there. next.keeps.cores i core (first.keeps.cores i core there);
    };
    stop = λ full. (let same = first.stop full in next.stop (subst (λ rs. limit ≤ length rs) (sym same) full) ∙ same);
  }

  -- a step of a copy is a step
  pub moved : (from to copy : C) (made gone : Moves C) (step : ℕ) → made ≡ moves → copy ≡ from → gone ≡ made
      → slice_get (made.after copy) step ≡ Some to
      → (slice_get (moves.after from) step ≡ Some to) × (gone ≡ moves)
  moved from to copy made gone step same there same' leads =
      (subst (λ c. slice_get (moves.after c) step ≡ Some to) there (subst (λ m. slice_get (m.after copy) step ≡ Some to) same leads), same' ∙ same)

  -- ---- one step
  module _ (rows : List Row) (seen : List (List ℕ × ℕ)) (at step : ℕ) (from to : C) (up_to : IsUpTo moves rows seen at step)
      (here : slice_get (cores_of moves rows) at ≡ Some from) (leads : slice_get (moves.after from) step ≡ Some to) where
    later : (number : ℕ) (row : Row) → slice_get rows (suc number) ≡ Some row → (row.parent ≤ at) × (at ≤ row.parent → row.step ≤ step)
    later number row there = let less = up_to.latest number row there in (less.0, (λ back. (let m = less.1 back in omega (arith, m))))

    -- it leads to a core that was found already
    pub step_seen : (number : ℕ) → slice_get (cores_of moves rows) number ≡ Some to → IsUpTo moves rows seen at (step + 1)
    step_seen number has =
        record {
          known = up_to.known;
          latest = λ number row there. (let less = later number row there in (less.0, (λ back. (let m = less.1 back in omega (arith, m)))));
          tried = tried_one_more moves rows at step up_to.tried (λ from' to' there leads'. (
              let from_is : Some from ≡ Some from' = sym here ∙ there in
              let to_is : Some to ≡ Some to' = sym leads ∙ ap (option_and_then (λ c. slice_get (moves.after c) step)) from_is ∙ leads' in
              record { at = number; there = has ∙ to_is; early = λ k row is r. later k row (ap (slice_get rows) (sym is) ∙ r) }));
        }

    -- it leads to a further core, which is added
    module _ (further : number_of seen (moves.key to) ≡ None) (row : Row) (parent_is : row.parent ≡ at) (step_is : row.step ≡ step)
        (kind : row.kind ≡ moves.kind to)
        (rows' : List Row) (seen' : List (List ℕ × ℕ)) (more : rows' ≡ rows ++ row ∷ []) (adds : Adds seen seen' (moves.key to) (length rows)) where
      latest' : HasRowsUpTo rows row.parent row.step
      latest' = subst (λ n. HasRowsUpTo rows n row.step) (sym parent_is) (subst (λ n. HasRowsUpTo rows at n) (sym step_is) up_to.latest)

      tried' : AreTried moves rows row.parent row.step
      tried' = subst (λ n. AreTried moves rows n row.step) (sym parent_is) (subst (λ n. AreTried moves rows at n) (sym step_is) up_to.tried)

      led' : led_to moves (cores_of moves rows) row ≡ Some to
      led' = led_is moves (cores_of moves rows) row to (record {
        from = from;
        parent = ap (slice_get (cores_of moves rows)) parent_is ∙ here;
        leads = ap (slice_get (moves.after from)) step_is ∙ leads;
      })

      pub step_known : IsKnown moves rows' seen'
      step_known = subst (λ rs. IsKnown moves rs seen') (sym more)
          (known_more moves rows seen up_to.known row to seen' latest' tried' led' kind further adds)

      pub step_keeps : Keeps moves rows rows'
      step_keeps = subst (λ rs. Keeps moves rows rs) (sym more)
          (grows_more moves rows seen up_to.known row to seen' latest' tried' led' kind further adds)

      pub step_up_to : IsUpTo moves rows' seen' at (step + 1)
      step_up_to = subst (λ n. IsUpTo moves rows' seen' n (step + 1)) parent_is (subst (λ n. IsUpTo moves rows' seen' row.parent (n + 1)) step_is
          (subst (λ rs. IsUpTo moves rs seen' row.parent (row.step + 1)) (sym more)
          (up_to_more moves rows seen up_to.known row to seen' latest' tried' led' kind further adds)))

      pub step_has : slice_get (cores_of moves rows') (length rows) ≡ Some to
      step_has = ap (λ rs. slice_get (cores_of moves rs) (length rows)) more
          ∙ has_more moves rows seen up_to.known row to seen' latest' tried' led' kind further adds

  -- ---- the first step that is looked for
  module _ (rows : List Row) (at step : ℕ) (from : C) (here : slice_get (cores_of moves rows) at ≡ Some from)
      (within : step < length (moves.after from)) where
    none_more : moves.marks from step ≡ false → HasNoMarkBefore moves (cores_of moves rows) at step
        → HasNoMarkBefore moves (cores_of moves rows) at (step + 1)
    none_more unmarked none i s core comes there inside = elim (split_le at i) [
      | inl k ↦ elim (split_le step s) [
        | inl m ↦ (let n = comes.1 k in let same : i ≡ at = omega (arith, k, comes.0) in let same' : s ≡ step = omega (arith, n, m) in
            let from_is : Some core ≡ Some from = sym there ∙ ap (slice_get (cores_of moves rows)) same ∙ here in
            (λ x. moves.marks (some_same from_is x) (same' x)) ∙ unmarked)
        | inr m ↦ none i s core (comes.0, (λ _. m)) there inside
      ]
      | inr k ↦ none i s core (comes.0, (λ back. absurd (omega (arith, k, back)))) there inside
    ]

    pub mark_more : (mark : Option Place) → IsMark moves rows mark at step
        → IsMark moves rows (first_mark mark (moves.marks from step) at step) at (step + 1)
    mark_more mark known = by (moves.marks from step) refl mark known
      where
        by : (b : Bool) → moves.marks from step ≡ b → (mark : Option Place) → IsMark moves rows mark at step
            → IsMark moves rows (first_mark mark b at step) at (step + 1)
        by true e None none = record { from = from; there = here; within = within; marked = e; before = none }
        by true e (Some place) is = is
        by false e None none = none_more e none
        by false e (Some place) is = is

  module _ (rows rows' : List Row) (keeps : Keeps moves rows rows') where
    -- a core that was there is the same
    same_core : (at : ℕ) (core : C) → at < length rows → slice_get (cores_of moves rows') at ≡ Some core
        → slice_get (cores_of moves rows) at ≡ Some core
    same_core at core inside there =
        let old = get_within (cores_of moves rows) at (omega (arith, inside, as_many moves rows)) in
        old.1 ∙ sym (keeps.cores at old.0 old.1) ∙ there

    none_keeps : (number step : ℕ) → number < length rows → HasNoMarkBefore moves (cores_of moves rows) number step
        → HasNoMarkBefore moves (cores_of moves rows') number step
    none_keeps number step inside none i s core comes there within =
        none i s core comes (same_core i core (omega (arith, inside, comes.0)) there) within

    pub mark_keeps : (mark : Option Place) (number step : ℕ) → number < length rows → IsMark moves rows mark number step
        → IsMark moves rows' mark number step
    mark_keeps None number step inside none = none_keeps number step inside none
    mark_keeps (Some place) number step inside is = record {
      from = is.from;
      there = keeps.cores place.core is.from is.there;
      within = is.within;
      marked = is.marked;
      before = none_keeps place.core place.step (omega (
        arith,
        as_many moves rows,
        slice_get_within (cores_of moves rows) place.core is.from is.there,
      )) is.before;
    }

  -- the steps of one core are tried: so are those before the next one's
  pub mark_next : (rows : List Row) (mark : Option Place) (at count : ℕ) (here : C) → slice_get (cores_of moves rows) at ≡ Some here
      → count ≡ length (moves.after here) → IsMark moves rows mark at count → IsMark moves rows mark (at + 1) zero
  mark_next rows (Some place) at count here there counted is = is
  mark_next rows None at count here there counted none = λ i s core comes there' within. elim (split_le at i) [
    | inl k ↦ elim (split_le (at + 1) i) [
      | inl m ↦ absurd (let n = comes.1 m in omega (arith, n))
      | inr m ↦ (
          let same : i ≡ at = omega (arith, k, m) in
          let from_is : Some core ≡ Some here = sym there' ∙ ap (slice_get (cores_of moves rows)) same ∙ there in
          let within' : s < length (moves.after here) = subst (λ c. s < length (moves.after c)) (some_same from_is) within in
          none i s core (omega (arith, same), (λ _. omega (arith, within', counted))) there' within)
    ]
    | inr k ↦ none i s core (omega (arith, k), (λ back. absurd (omega (arith, k, back)))) there' within
  ]

  -- ---- the steps of one core
  pub all_tried : (rows : List Row) (seen : List (List ℕ × ℕ)) (at step count : ℕ) (here : C) → IsUpTo moves rows seen at step
      → slice_get (cores_of moves rows) at ≡ Some here
      → count ≡ length (moves.after here) → count ≤ step → IsUpTo moves rows seen (at + 1) zero
  all_tried rows seen at step count here up_to there counted all = record {
    known = up_to.known;
    latest = λ number row r. (let less = up_to.latest number row r in (omega (arith, less.0), (λ back. absurd (omega (arith, less.0, back)))));
    tried = λ i s h from to there' leads. (
        let less : i ≤ at = by_less i s h.0 h.1 in
        up_to.tried i s (
          less,
          (λ back. (
              let same : i ≡ at = omega (arith, less, back) in
              let from_is : Some from ≡ Some here = sym there' ∙ ap (slice_get (cores_of moves rows)) same ∙ there in
              let within : s < length (moves.after from) = slice_get_within (moves.after from) s to leads in
              let within' : s < length (moves.after here) = subst (λ c. s < length (moves.after c)) (some_same from_is) within in
              omega (arith, within', counted, all))),
        ) from to there' leads);
  }
    where
      by_less : (i s : ℕ) → i ≤ at + 1 → (at + 1 ≤ i → s < zero) → i ≤ at
      by_less i s h none = elim (split_le i at) [ inl k ↦ k | inr k ↦ absurd (let m = none (omega (arith, k)) in omega (arith, m)) ]

  -- ---- the cores, one after another
  steps_grow : (cores more : List C) → Stays cores more → (n : ℕ) → n ≤ length cores → steps_from moves cores n ≡ steps_from moves more n
  steps_grow cores more stays zero few = refl
  steps_grow cores more stays (suc n) few =
      let core = get_within cores n (omega (arith, few)) in
      let same : slice_get cores n ≡ slice_get more n = core.1 ∙ sym (stays n core.0 core.1) in
      λ i. steps_grow cores more stays n (omega (arith, few)) i + option_map_or (λ core. length (moves.after core)) (same i) 0

  -- where a core's last step leads stays so
  settled_grows : (rows rows' : List Row) (limit : ℕ) (core : C) (last : Option ℕ) → Grows moves limit rows rows'
      → IsSettled moves rows limit core last → IsSettled moves rows' limit core last
  settled_grows rows rows' limit core None grows before = elim (before.full refl) [
    | inl none ↦ record {
      is = λ to leads has. absurd (omega (arith, none, slice_get_within (moves.after core) (length (moves.after core) - 1) to leads));
      full = λ _. inl none;
    }
    | inr full ↦ subst (λ rs. IsSettled moves rs limit core None) (sym (grows.stop full)) before
  ]
  settled_grows rows rows' limit core (Some number) grows before = record {
    is = (before.is.0, before.is.1, grows.keeps.cores number before.is.0 before.is.2);
    full = λ e. absurd cc;
  }

  module _ (now : Moves C) (same : now ≡ moves) (rows rows' : List Row) (seen seen' : List (List ℕ × ℕ)) (at limit : ℕ) (whole whole' : Bool)
      (mark mark' : Option Place) (lasts lasts' : List (Option ℕ)) (tried tried' count : ℕ) (here : C)
      (before : Exploring moves rows seen whole mark lasts limit at tried) (within : at < length rows)
      (there : slice_get (cores_of moves rows) at ≡ Some here)
      (counted : count ≡ length (now.after here)) (tried_is : tried' ≡ min (tried + count) (2 ^ 64 - 1))
      (knows : Knows now rows' seen' whole' mark' limit (at + 1) zero) (grows : Grows now limit rows rows')
      (settles : Settles now rows' limit lasts lasts' here) where
    grows_now : Grows moves limit rows rows'
    grows_now = subst (λ m. Grows m limit rows rows') same grows

    within_more : at < length rows'
    within_more = let row = get_within rows at within in slice_get_within rows' at row.0 (grows_now.keeps.rows at row.0 row.1)

    counted_more : tried' ≡ min (steps_from moves (cores_of moves rows') (at + 1)) (2 ^ 64 - 1)
    counted_more =
        let old : steps_from moves (cores_of moves rows) at ≡ steps_from moves (cores_of moves rows') at =
        steps_grow (cores_of moves rows) (cores_of moves rows') grows_now.keeps.cores at (omega (arith, within, as_many moves rows)) in
        let next : option_map_or (λ core. length (moves.after core)) (slice_get (cores_of moves rows') at) 0 ≡ length (moves.after here) =
        ap (λ o. option_map_or (λ core. length (moves.after core)) o 0) (grows_now.keeps.cores at here there) in
        let count_is : count ≡ length (moves.after here) = counted ∙ ap (λ m. length (m.after here)) same in
        let after : suc at ≡ at + 1 = omega arith in
        subst (λ n. tried' ≡ min (steps_from moves (cores_of moves rows') n) (2 ^ 64 - 1)) after (by_min tried count (steps_from moves
        (cores_of moves rows) at) (steps_from moves (cores_of moves rows') at)
        (option_map_or (λ core. length (moves.after core)) (slice_get (cores_of moves rows') at) 0) (length
        (moves.after here)) tried' before.counted old next count_is tried_is)

    settled_more : AreSettled moves rows' limit lasts'
    settled_more i core last core_at last_at = elim (get_cases lasts settles.last i last (ap (λ l. slice_get l i) (sym settles.lasts) ∙ last_at)) [
      | inl h ↦ (
          let inside : i < at = omega (arith, before.gone, slice_get_within lasts i last h) in
          settled_grows rows rows' limit core last grows_now
          (before.settled i core last (same_core rows rows' grows_now.keeps i core (omega (arith, inside, within)) core_at) h))
      | inr h ↦ (
          let place : i ≡ at = h.0 ∙ before.gone in
          let core_is : Some here ≡ Some core = sym (grows_now.keeps.cores at here there) ∙ ap (slice_get (cores_of moves rows')) (sym place) ∙ core_at in
          let settled : IsSettled moves rows' limit here settles.last = subst (λ m. IsSettled m rows' limit here settles.last) same settles.settled in
          subst (λ c. IsSettled moves rows' limit c last) (some_same core_is) (subst (λ l. IsSettled moves rows' limit here l) (sym h.1) settled))
    ]

    pub exploring_more : Exploring moves rows' seen' whole' mark' lasts' limit (at + 1) tried'
    exploring_more = record {
      knows = subst (λ m. Knows m rows' seen' whole' mark' limit (at + 1) zero) same knows;
      inside = omega (arith, within_more);
      counted = counted_more;
      settled = settled_more;
      gone = ap length settles.lasts ∙ length-append lasts (settles.last ∷ []) ∙ ap (λ n. n + 1) before.gone;
    }

  -- ---- the end
  pub complete_at_end : (rows : List Row) (seen : List (List ℕ × ℕ)) (at : ℕ) → IsUpTo moves rows seen at zero → length rows ≤ at
      → IsComplete moves (cores_of moves rows)
  complete_at_end rows seen at up_to all core reached =
      walks_stay moves (cores_of moves rows)
      (λ i step from to there leads. (
      let less : i < at = omega (arith, all, as_many moves rows, slice_get_within (cores_of moves rows) i from there) in
      let found = up_to.tried i step (omega (arith, less), (λ back. absurd (omega (arith, less, back)))) from to there leads in
      (found.at, found.there)))
      reached.0 moves.first core (zero, up_to.known.begun) reached.1

  -- ---- the machines that wait
  module _ {W : Type 0} (moves_of : W → Moves C) (core_of : W → C) where
    pub standing_grows : (rows more : List Row) (waiting : List (ℕ × W)) → Keeps moves rows more
        → AreStanding moves moves_of core_of rows waiting → AreStanding moves moves_of core_of more waiting
    standing_grows rows more waiting grows before at number w there = let is = before at number w there in (is.0, grows.cores number (core_of w) is.1)

    pub standing_rest : (rows : List Row) (waiting rest : List (ℕ × W)) → AreOf waiting rest → AreStanding moves moves_of core_of rows waiting
        → AreStanding moves moves_of core_of rows rest
    standing_rest rows waiting rest are_of before at number w there = let old = are_of at (number, w) there in before old.0 number w old.1

    pub standing_more : (rows : List Row) (waiting more : List (ℕ × W)) (n : ℕ) (x : W) → MayJoin waiting more (n, x) → moves_of x ≡ moves
        → slice_get (cores_of moves rows) n ≡ Some (core_of x) → AreStanding moves moves_of core_of rows waiting
        → AreStanding moves moves_of core_of rows more
    standing_more rows waiting more n x joins means stands before at number w there = elim joins [
      | inl h ↦ before at number w (ap (λ l. slice_get l at) (sym h) ∙ there)
      | inr h ↦ elim (get_cases waiting (n, x) at (number, w) (ap (λ l. slice_get l at) (sym h) ∙ there)) [
        | inl k ↦ before at number w k
        | inr k ↦ (
            let number_is : number ≡ n = ap (λ p. p.0) k.1 in
            let w_is : w ≡ x = ap (λ p. p.1) k.1 in
            (ap moves_of w_is ∙ means, ap (slice_get (cores_of moves rows)) number_is ∙ stands ∙ ap (λ w. Some (core_of w)) (sym w_is)))
      ]
    ]

  -- ---- the way to a core
  pub may_go : (rows : List Row) (at : ℕ) (path : List ℕ) → IsSound moves rows → at < length rows → path ≡ path_of rows at
      → IsSome (walk moves.after moves.first path)
  may_go rows at path sound within path_is =
      let core = get_within (cores_of moves rows) at (omega (arith, within, as_many moves rows)) in
      ap is_some (ap (walk moves.after moves.first) path_is ∙ sound at core.0 core.1)

  pub comes_there : (rows : List Row) (at : ℕ) (path : List ℕ) (here : C) → IsSound moves rows → at < length rows → path ≡ path_of rows at
      → IsPath moves path here
      → slice_get (cores_of moves rows) at ≡ Some here
  comes_there rows at path here sound within path_is led =
      let core = get_within (cores_of moves rows) at (omega (arith, within, as_many moves rows)) in
      core.1 ∙ sym (ap (walk moves.after moves.first) path_is ∙ sound at core.0 core.1) ∙ led

  -- ---- the first core
  module _ (row : Row) (kind : row.kind ≡ moves.kind moves.first) (seen : List (List ℕ × ℕ)) (adds : Adds [] seen (moves.key moves.first) zero) where
    first_up_to : IsUpTo moves (row ∷ []) seen zero zero
    first_up_to = record {
      known = record {
        begun = refl;
        below = λ at r there. absurd cc;
        in_order = λ i j a b before at_i at_j. absurd cc;
        led = λ at r core there is. absurd cc;
        apart = λ i j core at_i at_j. (let x = place_of_one moves.first i core at_i in let y = place_of_one moves.first j core at_j in x.0 ∙ sym y.0);
        keys = λ key. subst (λ o. MatchOption o
            ((at : ℕ) (core : C) → slice_get (moves.first ∷ []) at ≡ Some core → moves.key core ≡ key → ⊥)
            (λ at. (core : C) × (slice_get (moves.first ∷ []) at ≡ Some core) × (moves.key core ≡ key))) (sym (adds key))
            (by_key key (bytes_eq (moves.key moves.first) key) refl);
        kinds = λ at r core there is. (let x = place_of_one row at r there in let y = place_of_one moves.first at core is in
            ap (λ r. r.kind) x.1 ∙ kind ∙ ap moves.kind (sym y.1));
        tried = λ at r there. absurd cc;
      };
      latest = λ at r there. absurd cc;
      tried = λ i s h. absurd (let m = h.1 (omega arith) in omega (arith, m));
    }
      where
        by_key : (key : List ℕ) (b : Bool) → bytes_eq (moves.key moves.first) key ≡ b → MatchOption (cond b (Some zero) None)
            ((at : ℕ) (core : C) → slice_get (moves.first ∷ []) at ≡ Some core → moves.key core ≡ key → ⊥)
            (λ at. (core : C) × (slice_get (moves.first ∷ []) at ≡ Some core) × (moves.key core ≡ key))
        by_key key true h = (moves.first, refl, (bytes_decides (moves.key moves.first) key).0 h)
        by_key key false h = λ at core there is. (let x = place_of_one moves.first at core there in
            true≢false (sym ((bytes_decides (moves.key moves.first) key).1 (ap moves.key (sym x.1) ∙ is)) ∙ h))

    first_knows : (limit : ℕ) → Knows moves (row ∷ []) seen true None limit zero zero
    first_knows limit = record {
      known = first_up_to.known;
      up_to = λ _. first_up_to;
      cut = λ e. absurd cc;
      few = omega arith;
      marked = λ i s core comes there within. absurd (let m = comes.1 (omega arith) in omega (arith, m));
    }

    pub begins : (rows : List Row) (whole : Bool) (mark : Option Place) (limit : ℕ) → rows ≡ row ∷ [] → whole ≡ true → mark ≡ None
        → Knows moves rows seen whole mark limit zero zero
    begins rows whole mark limit rows_is whole_is mark_is = subst (λ rs. Knows moves rs seen whole mark limit zero zero) (sym rows_is)
        (subst (λ w. Knows moves (row ∷ []) seen w mark limit zero zero) (sym whole_is)
        (subst (λ m. Knows moves (row ∷ []) seen true m limit zero zero) (sym mark_is) (first_knows limit)))
