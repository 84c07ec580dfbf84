-- What the rows of a search say, whether it is at its end or not.
use Rattle.search.proofs.KnownLemmas.{as_many, is_sound}
use Rattle.search.proofs.Parents.{path_step}
use Rattle.search.proofs.PathLemmas.{UpTo, before_left, before_none, before_last, before_short, before_strip, longer, numbers_rise, numbers_up_to}
use Rattle.search.proofs.PathLemmas.{rises, split_le, up_to_before, up_to_left, up_to_trans}
use Rattle.search.proofs.Places.{get_within}
use Rattle.search.specs.Found.{ComesBefore, HasBefore, IsFirst, IsFirstMark, IsInOrder, IsNearestMark, IsShortest, cores_of, path_of}
use Rattle.search.specs.Known.{IsFound, IsKnown}
use Rattle.search.specs.declared.found.Place.{Place}
use Rattle.search.specs.Moves.{IsPath, Moves, walk}
use Rattle.search.specs.Paths.{IsBefore}
use Rattle.search.specs.declared.found.Row.{Row}
use Rattle.std.proofs.Common.{List, None, Option, Some, [], ap, append_assoc, arith, inl, inr, length, refl, subst, suc, sym, true≢false, zero, ℕ, ◌++◌, ◌+◌}
use Rattle.std.proofs.Common.{◌<◌, ◌∙◌, ◌∷◌, ◌≡◌, ◌≤◌}
use Rattle.std.proofs.lemmas.List.{append-nil, length-append}
use Rattle.std.proofs.lemmas.Option.{slice_get_within}
use Rattle.std.specs.Prelude.{option_and_then, slice_get}

module _ {C : Type 0} (moves : Moves C) (rows : List Row) (seen : List (List ℕ × ℕ)) (known : IsKnown moves rows seen) (path : ℕ
    → List ℕ) (none : path zero ≡ [])
    (next : (at : ℕ) (row : Row) → slice_get rows (suc at) ≡ Some row → path (suc at) ≡ path row.parent ++ row.step ∷ []) where
  -- a core at this place, whose path does not come after this one
  record Near (to : C) (way : List ℕ) : Type 0 where
    at : ℕ
    there : slice_get (cores_of moves rows) at ≡ Some to
    early : UpTo (path at) way

  within_rows : (at : ℕ) (core : C) → slice_get (cores_of moves rows) at ≡ Some core → at < length rows
  within_rows at core there = omega (arith, as_many moves rows, slice_get_within (cores_of moves rows) at core there)

  -- the path by the first of two steps does not come after that by the second
  up_to_step : (i j s t : ℕ) → j < length rows → i ≤ j → (j ≤ i → s ≤ t) → UpTo (path i ++ s ∷ []) (path j ++ t ∷ [])
  up_to_step i j s t within less few = elim (split_le j i) [
    | inl k ↦ (let same : i ≡ j = omega (arith, k, less) in elim (split_le t s) [
      | inl m ↦ (let same' : s ≡ t = omega (arith, m, few k) in inl (λ x. path (same x) ++ same' x ∷ []))
      | inr m ↦ inr (subst (λ n. IsBefore (path i ++ s ∷ []) (path n ++ t ∷ [])) same (before_last (path i) s t m))
    ])
    | inr k ↦ inr (before_left (path i) (path j) s t (rises rows known.below known.in_order path none next j i j (omega arith) k within))
  ]

  found_near : (i s : ℕ) (to : C) → i < length rows → IsFound moves rows i s to → Near to (path i ++ s ∷ [])
  found_near i s to within found = by found.at refl
    where
      by : (n : ℕ) → found.at ≡ n → Near to (path i ++ s ∷ [])
      by zero e = record {
        at = zero;
        there = subst (λ k. slice_get (cores_of moves rows) k ≡ Some to) e found.there;
        early = inr (inl (omega (arith, ap length none, longer (path i) s)));
      }
      by (suc n) e =
          let there' : slice_get (cores_of moves rows) (suc n) ≡ Some to = subst (λ k. slice_get (cores_of moves rows) k ≡ Some to) e found.there in
          let row = get_within rows (suc n) (within_rows (suc n) to there') in
          let early = found.early n row.0 e (ap (slice_get rows) e ∙ row.1) in
          record {
            at = suc n;
            there = there';
            early = subst (λ p. UpTo p (path i ++ s ∷ [])) (sym (next n row.0 row.1)) (up_to_step row.0.parent i row.0.step s within early.0 early.1);
          }

  -- a step on the way along a path that comes before that of a row comes before the row's step
  step_before : (m : ℕ) (row : Row) → slice_get rows (suc m) ≡ Some row → (i : ℕ) (way : List ℕ) (s : ℕ) (ss : List ℕ) → i < length rows
      → UpTo (path i) way
      → IsBefore (way ++ s ∷ ss) (path (suc m)) → ComesBefore i s row.parent row.step
  step_before m row there i way s [] within early before =
      let before' : IsBefore (way ++ s ∷ []) (path row.parent ++ row.step ∷ []) = subst (λ p. IsBefore (way ++ s ∷ []) p) (next m row there) before in
      elim (before_strip way (path row.parent) s row.step before') [
        | inl h ↦ (let less = numbers_rise rows known.below known.in_order path none next i row.parent within (up_to_before (path i) way
            (path row.parent) early h) in
            (omega (arith, less), (λ back. absurd (omega (arith, less, back)))))
        | inr h ↦ (
          numbers_up_to rows known.below known.in_order path none next i row.parent within (subst (λ p. UpTo (path i) p) h.0 early),
          (λ _. h.1),
        )
      ]
  step_before m row there i way s (t ∷ ss) within early before =
      let short : length way + suc (suc (length ss)) ≤ length (path row.parent) + 1 = omega (
        arith,
        before_short (way ++ s ∷ t ∷ ss) (path (suc m)) before,
        length-append way (s ∷ t ∷ ss),
        ap length (next m row there),
        longer (path row.parent) row.step,
      ) in
      let less = numbers_rise rows known.below known.in_order path none next i row.parent within (up_to_before (path i) way
      (path row.parent) early (inl (omega (arith, short)))) in
      (omega (arith, less), (λ back. absurd (omega (arith, less, back))))

  walks_near : (m : ℕ) (row : Row) → slice_get rows (suc m) ≡ Some row → (ss way : List ℕ) (i : ℕ) (from to : C)
      → slice_get (cores_of moves rows) i ≡ Some from
      → UpTo (path i) way → IsBefore (way ++ ss) (path (suc m)) → walk moves.after from ss ≡ Some to → Near to (way ++ ss)
  walks_near m row there [] way i from to here early before led = record {
    at = i;
    there = here ∙ led;
    early = subst (λ p. UpTo (path i) p) (sym (append-nil way)) early;
  }
  walks_near m row there (s ∷ ss) way i from to here early before led = by (slice_get (moves.after from) s) refl led
      (λ j c here' early' before' rest. walks_near m row there ss (way ++ s ∷ []) j c to here' early' before' rest)
    where
      by : (o : Option C) → slice_get (moves.after from) s ≡ o → option_and_then (λ c. walk moves.after c ss) o ≡ Some to
          → ((j : ℕ) (c : C) → slice_get (cores_of moves rows) j ≡ Some c → UpTo (path j) (way ++ s ∷ [])
          → IsBefore ((way ++ s ∷ []) ++ ss) (path (suc m))
          → walk moves.after c ss ≡ Some to → Near to ((way ++ s ∷ []) ++ ss))
          → Near to (way ++ s ∷ ss)
      by None e led go = absurd cc
      by (Some c) e led go =
          let within = within_rows i from here in
          let tried = known.tried m row there i s (step_before m row there i way s ss within early before) in
          let near = found_near i s c within (tried from c here e) in
          subst (λ p. Near to p) (append_assoc way (s ∷ []) ss)
          (go near.at c near.there (up_to_trans (path near.at) (path i ++ s ∷ []) (way ++ s ∷ []) near.early (up_to_left (path i) way s early))
          (subst (λ p. IsBefore p (path (suc m))) (sym (append_assoc way (s ∷ []) ss)) before) led)

  first_found : (at : ℕ) (way : List ℕ) (core : C) → at < length rows → IsPath moves way core → IsBefore way (path at)
      → HasBefore at (cores_of moves rows) core
  first_found zero way core within led before = absurd (before_none way (subst (λ p. IsBefore way p) none before))
  first_found (suc m) way core within led before =
      let row = get_within rows (suc m) within in
      let near = walks_near m row.0 row.1 way [] zero moves.first core known.begun (inl none) before led in
      let inside = within_rows near.at core near.there in (
        near.at,
        numbers_rise rows known.below known.in_order path none next near.at (suc m) inside (up_to_before (path near.at) way (path
            (suc m)) near.early before),
        near.there,
      )

module _ {C : Type 0} (moves : Moves C) (rows : List Row) (seen : List (List ℕ × ℕ)) (known : IsKnown moves rows seen) where
  next_of : (at : ℕ) (row : Row) → slice_get rows (suc at) ≡ Some row → path_of rows (suc at) ≡ path_of rows row.parent ++ row.step ∷ []
  next_of at row there = (path_step rows known.below (suc at) row (omega arith) there).0

  pub is_first : IsFirst moves rows
  is_first at way core within led before = first_found moves rows seen known (path_of rows) refl next_of at way core within led before

  pub is_shortest : IsShortest moves rows
  is_shortest at core way there led = elim (split_le (length (path_of rows at)) (length way)) [
    | inl h ↦ h
    | inr h ↦
        let inside : at < length rows = omega (arith, as_many moves rows, slice_get_within (cores_of moves rows) at core there) in
        let other = is_first at way core inside led (inl h) in
        let same : other.0 ≡ at = known.apart other.0 at core other.2 there in
        absurd (omega (arith, same, other.1))
  ]

  pub is_in_order : IsInOrder rows
  is_in_order i j before within = elim (split_le j i) [
    | inl k ↦ (let same : i ≡ j = omega (arith, k, before) in subst (λ n. length (path_of rows i) ≤ length (path_of rows n)) same (omega arith))
    | inr k ↦ before_short (path_of rows i) (path_of rows j) (rises rows known.below known.in_order (path_of rows) refl next_of j i j
        (omega arith) k within)
  ]

  -- an earlier path to a step that is looked for would be to an earlier such step
  pub is_nearest : (place : Place) → IsFirstMark moves (cores_of moves rows) place → IsNearestMark moves rows place
  is_nearest place mark way core step led within marked before =
      let inside : place.core < length rows = omega (arith, as_many moves rows, slice_get_within (cores_of moves rows) place.core mark.from mark.there) in
      let earlier : (at : ℕ) → ComesBefore at step place.core place.step → slice_get (cores_of moves rows) at ≡ Some core → ⊥ =
      λ at comes there. true≢false (sym marked ∙ mark.before at step core comes there within) in
      elim (before_strip way (path_of rows place.core) step place.step before) [
        | inl h ↦ (let has = is_first place.core way core inside led h in
            earlier has.0 (omega (arith, has.1), (λ back. absurd (omega (arith, has.1, back)))) has.2)
        | inr h ↦ earlier place.core (omega arith, (λ _. h.1)) (mark.there
            ∙ sym (is_sound moves rows seen known place.core mark.from mark.there) ∙ ap (walk moves.after moves.first) (sym h.0) ∙ led)
      ]
