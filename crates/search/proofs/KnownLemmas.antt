-- What a search knows, one core further.
use Rattle.search.proofs.Parents.{path_step}
use Rattle.search.proofs.PathLemmas.{split_le}
use Rattle.search.proofs.Places.{get_cases, get_last, get_left, get_within}
use Rattle.search.proofs.Walks.{walk_push}
use Rattle.search.specs.Found.{ComesBefore, Has, HasParentsBelow, IsDistinct, IsSound, cores_of, led_to, path_of, with_row}
use Rattle.search.specs.Known.{AreKeysOf, AreTried, ComesUpTo, Keeps, HasRowsInOrder, HasRowsUpTo, IsFound, IsKnown, IsTried, IsUpTo}
use Rattle.search.specs.Moves.{IsReachable, KeysDiffer, Moves, walk}
use Rattle.search.specs.Seen.{Adds, number_of}
use Rattle.search.specs.declared.found.Row.{Row}
use Rattle.std.proofs.Common.{Bool, List, None, Option, Some, [], ap, arith, cond, false, inl, inr, length, refl, subst, suc, sym, true, true≢false, zero}
use Rattle.std.proofs.Common.{ℕ, ◌++◌, ◌+◌, ◌<◌, ◌∙◌, ◌∷◌, ◌≡◌, ◌≤◌}
use Rattle.std.proofs.lemmas.Grind.{fold-append}
use Rattle.std.proofs.lemmas.List.{length-append}
use Rattle.std.proofs.lemmas.Option.{slice_get_within}
use Rattle.std.specs.Cmp.Lexicographic.{bytes_decides}
use Rattle.std.specs.List.{fold}
use Rattle.std.specs.Prelude.{MatchOption, option_and_then, slice_get, unwrap_or}
use Rattle.std.specs.Str.{bytes_eq}

pub some_same : {X : Type 0} {x y : X} → Some x ≡ Some y → x ≡ y
some_same e = cc

module _ {C : Type 0} (moves : Moves C) where
  -- what a key's number says
  abbrev KeyAt : List C → List ℕ → Option ℕ → Type 0
  KeyAt cores key o = MatchOption o ((at : ℕ) (core : C) → slice_get cores at ≡ Some core → moves.key core ≡ key → ⊥)
      (λ at. (core : C) × (slice_get cores at ≡ Some core) × (moves.key core ≡ key))

  fold_length : (cores : List C) (rows : List Row) → length (fold (with_row moves) cores rows) ≡ length cores + length rows
  fold_length cores [] = omega arith
  fold_length cores (row ∷ rows) = omega (
    arith,
    fold_length (with_row moves cores row) rows,
    length-append cores (unwrap_or
        (led_to moves cores row) moves.first ∷ []),
  )

  pub as_many : (rows : List Row) → length (cores_of moves rows) ≡ length rows
  as_many rows = omega (arith, fold_length [] rows)

  pub cores_push : (rows : List Row) (row : Row) (to : C) → led_to moves (cores_of moves rows) row ≡ Some to
      → cores_of moves (rows ++ row ∷ []) ≡ cores_of moves rows ++ to ∷ []
  cores_push rows row to e = fold-append (with_row moves) [] rows (row ∷ []) ∙ ap (λ o. cores_of moves rows ++ unwrap_or o moves.first ∷ []) e

  -- where a row leads from its parent
  pub record Led (cores : List C) (row : Row) (to : C) : Type 0 where
    pub from : C
    pub parent : slice_get cores row.parent ≡ Some from
    pub leads : slice_get (moves.after from) row.step ≡ Some to

  pub led_from : (cores : List C) (row : Row) (to : C) → led_to moves cores row ≡ Some to → Led cores row to
  led_from cores row to e = by (slice_get cores row.parent) refl e
    where
      by : (o : Option C) → slice_get cores row.parent ≡ o → option_and_then (λ from. slice_get (moves.after from) row.step) o ≡ Some to
          → Led cores row to
      by None h e = absurd cc
      by (Some from) h e = record { from = from; parent = h; leads = e }

  pub led_is : (cores : List C) (row : Row) (to : C) → Led cores row to → led_to moves cores row ≡ Some to
  led_is cores row to led = ap (option_and_then (λ from. slice_get (moves.after from) row.step)) led.parent ∙ led.leads

  pub led_grows : (cores more : List C) (row : Row) (to : C) → led_to moves cores row ≡ Some to → led_to moves (cores ++ more) row ≡ Some to
  led_grows cores more row to e = let led = led_from cores row to e in
      led_is (cores ++ more) row to (record { from = led.from; parent = get_left cores more row.parent led.from led.parent; leads = led.leads })

  -- the steps before one, and that one
  pub tried_one_more : (rows : List Row) (number step : ℕ) → AreTried moves rows number step → IsTried moves rows number step
      → AreTried moves rows number (step + 1)
  tried_one_more rows number step before this i s h = elim (split_le number i) [
    | inl k ↦ elim (split_le step s) [
      | inl m ↦ (let n = h.1 k in let same : i ≡ number = omega (arith, k, h.0) in let same' : s ≡ step = omega (arith, n, m) in
          subst (λ x. IsTried moves rows x s) (sym same) (subst (λ x. IsTried moves rows number x) (sym same') this))
      | inr m ↦ before i s (h.0, (λ _. m))
    ]
    | inr k ↦ before i s (h.0, (λ back. absurd (omega (arith, k, back))))
  ]

  module _ (rows : List Row) (seen : List (List ℕ × ℕ)) (known : IsKnown moves rows seen) where
    -- ---- paths by parents
    path_leads : (n at : ℕ) (core : C) → at ≤ n → slice_get (cores_of moves rows) at ≡ Some core
        → walk moves.after moves.first (path_of rows at) ≡ Some core
    path_leads n zero core few there = sym known.begun ∙ there
    path_leads zero (suc at) core few there = absurd (omega (arith, few))
    path_leads (suc n) (suc at) core few there =
        let within : suc at < length rows = omega (arith, as_many rows, slice_get_within (cores_of moves rows) (suc at) core there) in
        let row = get_within rows (suc at) within in
        let led = led_from (cores_of moves rows) row.0 core (known.led at row.0 core row.1 there) in
        let less : row.0.parent ≤ at = known.below at row.0 row.1 in
        let step = path_step rows known.below (suc at) row.0 (omega arith) row.1 in
        ap (walk moves.after moves.first) step.0
        ∙ walk_push moves.after moves.first led.from core (path_of rows row.0.parent) row.0.step (path_leads n row.0.parent led.from (omega
        (arith, few, less)) led.parent) led.leads

    pub is_sound : IsSound moves rows
    is_sound at core there = path_leads at at core (omega arith) there

    -- ---- a core that was seen, or was not
    module _ (to : C) where
      pub not_seen : number_of seen (moves.key to) ≡ None → Has (cores_of moves rows) to → ⊥
      not_seen h there = subst (λ o. KeyAt (cores_of moves rows) (moves.key to) o) h (known.keys (moves.key to)) there.0 to there.1 refl

      pub was_seen : KeysDiffer moves → IsReachable moves to → (number : ℕ) → number_of seen (moves.key to) ≡ Some number
          → slice_get (cores_of moves rows) number ≡ Some to
      was_seen differ reached number h =
          let place = subst (λ o. KeyAt (cores_of moves rows) (moves.key to) o) h (known.keys (moves.key to)) in
          let same : to ≡ place.0 = differ to place.0 reached (path_of rows number, is_sound number place.0 place.1) (sym place.2) in
          place.1 ∙ ap (λ c. Some c) (sym same)

    -- ---- what was found stays found
    pub found_grows : (more : List Row) (number step : ℕ) (to : C) → Keeps moves rows more → IsFound moves rows number step to
        → IsFound moves more number step to
    found_grows more number step to grows found =
        let row = get_within rows found.at (omega (arith, as_many rows, slice_get_within (cores_of moves rows) found.at to found.there)) in
        record {
          at = found.at;
          there = grows.cores found.at to found.there;
          early = λ k r is h. (let same : r ≡ row.0 = cc (h, grows.rows found.at row.0 row.1) in
              subst (λ r. ComesUpTo r.parent r.step number step) (sym same) (found.early k row.0 is row.1));
        }

    pub tried_grows : (more : List Row) (number step : ℕ) → number < length rows → Keeps moves rows more → IsTried moves rows number step
        → IsTried moves more number step
    tried_grows more number step within grows tried from to there leads =
        let core = get_within (cores_of moves rows) number (omega (arith, within, as_many rows)) in
        let same : Some core.0 ≡ Some from = sym (grows.cores number core.0 core.1) ∙ there in
        found_grows more number step to grows (tried from to (core.1 ∙ same) leads)

    -- ---- one row more
    module _ (row : Row) (to : C) (seen' : List (List ℕ × ℕ)) (latest : HasRowsUpTo rows row.parent row.step)
        (tried : AreTried moves rows row.parent row.step)
        (led : led_to moves (cores_of moves rows) row ≡ Some to) (kind : row.kind ≡ moves.kind to)
        (outside : number_of seen (moves.key to) ≡ None) (adds : Adds seen seen' (moves.key to) (length rows)) where
      parent_within : row.parent < length rows
      parent_within = let from = led_from (cores_of moves rows) row to led in
          omega (arith, as_many rows, slice_get_within (cores_of moves rows) row.parent from.from from.parent)

      parents_below : HasParentsBelow (rows ++ row ∷ [])
      parents_below at r there = elim (get_cases rows row (suc at) r there) [
        | inl h ↦ known.below at r h
        | inr h ↦ (let same : r.parent ≡ row.parent = ap (λ r. r.parent) h.1 in omega (arith, parent_within, same, h.0))
      ]

      order_more : HasRowsInOrder (rows ++ row ∷ [])
      order_more i j a b before at_i at_j = elim (get_cases rows row (suc j) b at_j) [
        | inl k ↦ elim (get_cases rows row (suc i) a at_i) [
          | inl h ↦ known.in_order i j a b before h k
          | inr h ↦ absurd (omega (arith, h.0, before, slice_get_within rows (suc j) b k))
        ]
        | inr k ↦ elim (get_cases rows row (suc i) a at_i) [
          | inl h ↦ subst (λ r. ComesBefore a.parent a.step r.parent r.step) (sym k.1) (latest i a h)
          | inr h ↦ absurd (omega (arith, h.0, k.0, before))
        ]
      ]

      led_more : (at : ℕ) (r : Row) (core : C) → slice_get (rows ++ row ∷ []) (suc at) ≡ Some r
          → slice_get (cores_of moves rows ++ to ∷ []) (suc at) ≡ Some core
          → led_to moves (cores_of moves rows ++ to ∷ []) r ≡ Some core
      led_more at r core there is = elim (get_cases rows row (suc at) r there) [
        | inl h ↦ elim (get_cases (cores_of moves rows) to (suc at) core is) [
          | inl k ↦ led_grows (cores_of moves rows) (to ∷ []) r core (known.led at r core h k)
          | inr k ↦ absurd (omega (arith, as_many rows, k.0, slice_get_within rows (suc at) r h))
        ]
        | inr h ↦ elim (get_cases (cores_of moves rows) to (suc at) core is) [
          | inl k ↦ absurd (omega (arith, as_many rows, h.0, slice_get_within (cores_of moves rows) (suc at) core k))
          | inr k ↦ ap (led_to moves (cores_of moves rows ++ to ∷ [])) h.1 ∙ led_grows (cores_of moves rows) (to ∷ []) row to led
              ∙ ap (λ c. Some c) (sym k.1)
        ]
      ]

      keys_more : AreKeysOf moves (cores_of moves rows ++ to ∷ []) seen'
      keys_more key = subst (λ o. KeyAt (cores_of moves rows ++ to ∷ []) key o) (sym (adds key)) (by (bytes_eq (moves.key to) key) refl)
        where
          by_old : (o : Option ℕ) → bytes_eq (moves.key to) key ≡ false → KeyAt (cores_of moves rows) key o
              → KeyAt (cores_of moves rows ++ to ∷ []) key o
          by_old None h none = λ at core there is. elim (get_cases (cores_of moves rows) to at core there) [
            | inl k ↦ none at core k is
            | inr k ↦ absurd (true≢false (sym ((bytes_decides (moves.key to) key).1 (ap moves.key (sym k.1) ∙ is)) ∙ h))
          ]
          by_old (Some n) h place = (place.0, get_left (cores_of moves rows) (to ∷ []) n place.0 place.1, place.2)

          by : (b : Bool) → bytes_eq (moves.key to) key ≡ b
              → KeyAt (cores_of moves rows ++ to ∷ []) key (cond b (Some (length rows)) (number_of seen key))
          by true h = (
            to,
            ap (slice_get (cores_of moves rows ++ to ∷ [])) (sym (as_many rows)) ∙ get_last (cores_of moves rows) to,
            (bytes_decides (moves.key to) key).0 h,
          )
          by false h = by_old (number_of seen key) h (known.keys key)

      apart_more : IsDistinct (cores_of moves rows ++ to ∷ [])
      apart_more i j core at_i at_j = elim (get_cases (cores_of moves rows) to i core at_i) [
        | inl h ↦ elim (get_cases (cores_of moves rows) to j core at_j) [
          | inl k ↦ known.apart i j core h k
          | inr k ↦ absurd (not_seen to outside (i, h ∙ ap (λ c. Some c) k.1))
        ]
        | inr h ↦ elim (get_cases (cores_of moves rows) to j core at_j) [
          | inl k ↦ absurd (not_seen to outside (j, k ∙ ap (λ c. Some c) h.1))
          | inr k ↦ h.0 ∙ sym k.0
        ]
      ]

      kinds_more : (at : ℕ) (r : Row) (core : C) → slice_get (rows ++ row ∷ []) at ≡ Some r
          → slice_get (cores_of moves rows ++ to ∷ []) at ≡ Some core → r.kind ≡ moves.kind core
      kinds_more at r core there is = elim (get_cases rows row at r there) [
        | inl h ↦ elim (get_cases (cores_of moves rows) to at core is) [
          | inl k ↦ known.kinds at r core h k
          | inr k ↦ absurd (omega (arith, as_many rows, k.0, slice_get_within rows at r h))
        ]
        | inr h ↦ elim (get_cases (cores_of moves rows) to at core is) [
          | inl k ↦ absurd (omega (arith, as_many rows, h.0, slice_get_within (cores_of moves rows) at core k))
          | inr k ↦ ap (λ r. r.kind) h.1 ∙ kind ∙ ap moves.kind (sym k.1)
        ]
      ]

      pub grows_more : Keeps moves rows (rows ++ row ∷ [])
      grows_more = record {
        rows = λ at r there. get_left rows (row ∷ []) at r there;
        cores = λ at core there. ap (λ cs. slice_get cs at) (cores_push rows row to led) ∙ get_left (cores_of moves rows) (to ∷ []) at core there;
      }

      -- the steps before one that is not after the row's were tried before
      pub tried_more : (number step : ℕ) → ComesUpTo number step row.parent row.step → AreTried moves (rows ++ row ∷ []) number step
      tried_more number step early i s h =
          tried_grows (rows ++ row ∷ []) i s (omega (arith, h.0, early.0, parent_within)) grows_more
          (tried i s (
            omega (arith, h.0, early.0),
            (λ back. (let m : number ≤ i = omega (arith, early.0, back) in
                let n : row.parent ≤ number = omega (arith, h.0, back) in omega (arith, h.1 m, early.1 n))),
          ))

      tried_of : (at : ℕ) (r : Row) → slice_get (rows ++ row ∷ []) (suc at) ≡ Some r → AreTried moves (rows ++ row ∷ []) r.parent r.step
      tried_of at r there = elim (get_cases rows row (suc at) r there) [
        | inl h ↦ (let less = latest at r h in tried_more r.parent r.step (less.0, (λ back. (let m = less.1 back in omega (arith, m)))))
        | inr h ↦ subst (λ r. AreTried moves (rows ++ row ∷ []) r.parent r.step) (sym h.1) (tried_more row.parent row.step (
          omega arith,
          (λ _. omega arith),
        ))
      ]

      pub known_more : IsKnown moves (rows ++ row ∷ []) seen'
      known_more =
          let cores = cores_push rows row to led in
          record {
            begun = ap (λ cs. slice_get cs zero) cores ∙ get_left (cores_of moves rows) (to ∷ []) zero moves.first known.begun;
            below = parents_below;
            in_order = order_more;
            led = λ at r core there is. subst (λ cs. led_to moves cs r ≡ Some core) (sym cores) (led_more at r core there (ap (λ cs. slice_get cs
                (suc at)) (sym cores) ∙ is));
            apart = subst (λ cs. IsDistinct cs) (sym cores) apart_more;
            keys = subst (λ cs. AreKeysOf moves cs seen') (sym cores) keys_more;
            kinds = λ at r core there is. kinds_more at r core there (ap (λ cs. slice_get cs at) (sym cores) ∙ is);
            tried = tried_of;
          }

      pub has_more : slice_get (cores_of moves (rows ++ row ∷ [])) (length rows) ≡ Some to
      has_more = ap (λ cs. slice_get cs (length rows)) (cores_push rows row to led)
          ∙ ap (slice_get (cores_of moves rows ++ to ∷ [])) (sym (as_many rows)) ∙ get_last (cores_of moves rows) to

      found_more : IsFound moves (rows ++ row ∷ []) row.parent row.step to
      found_more = record {
        at = length rows;
        there = has_more;
        early = λ k r is h. elim (get_cases rows row (length rows) r h) [
          | inl m ↦ absurd (omega (arith, slice_get_within rows (length rows) r m))
          | inr m ↦ subst (λ r. ComesUpTo r.parent r.step row.parent row.step) (sym m.1) (omega arith, (λ _. omega arith))
        ];
      }

      up_to_rows : HasRowsUpTo (rows ++ row ∷ []) row.parent (row.step + 1)
      up_to_rows at r there = elim (get_cases rows row (suc at) r there) [
        | inl h ↦ (let less = latest at r h in (less.0, (λ back. (let m = less.1 back in omega (arith, m)))))
        | inr h ↦ subst (λ r. ComesBefore r.parent r.step row.parent (row.step + 1)) (sym h.1) (omega arith, (λ _. omega arith))
      ]

      pub up_to_more : IsUpTo moves (rows ++ row ∷ []) seen' row.parent (row.step + 1)
      up_to_more = record {
        known = known_more;
        latest = up_to_rows;
        tried = tried_one_more (rows ++ row ∷ []) row.parent row.step (tried_more row.parent row.step (omega arith, (λ _. omega arith)))
            (λ from' to' there leads. (let led' = led_from (cores_of moves rows) row to led in
            let from_is : Some led'.from ≡ Some from' = sym (grows_more.cores row.parent led'.from led'.parent) ∙ there in
            let to_is : Some to ≡ Some to' = sym led'.leads ∙ ap (option_and_then (λ c. slice_get (moves.after c) row.step)) from_is ∙ leads in
            subst (λ c. IsFound moves (rows ++ row ∷ []) row.parent row.step c) (some_same to_is) found_more));
      }

  -- ---- complete

  -- where each step from one of the cores leads to one of them, so does each walk
  pub walks_stay : (cores : List C) → ((at step : ℕ) (from to : C) → slice_get cores at ≡ Some from → slice_get (moves.after from) step ≡ Some to
      → Has cores to)
      → (path : List ℕ) (from to : C) → Has cores from → walk moves.after from path ≡ Some to → Has cores to
  walks_stay cores closed [] from to there led = (there.0, there.1 ∙ led)
  walks_stay cores closed (s ∷ ss) from to there led = by (slice_get (moves.after from) s) refl led
      (λ c leads rest. walks_stay cores closed ss c to (closed there.0 s from c there.1 leads) rest)
    where
      by : (o : Option C) → slice_get (moves.after from) s ≡ o → option_and_then (λ c. walk moves.after c ss) o ≡ Some to
          → ((c : C) → slice_get (moves.after from) s ≡ Some c → walk moves.after c ss ≡ Some to → Has cores to) → Has cores to
      by None e led rest = absurd cc
      by (Some c) e led rest = rest c e led
