-- No more stand in a list than wait for it.
use Rattle.lwp_types.specs.CountLaws.{count-cons, count-failed, count-filter-le, count_any, length-failed, one, one-le}
use Rattle.lwp_types.specs.State.{ThreadRow, is_number, passes}
use Rattle.lwp_types.specs.declared.rows.Block.{Block}
use Rattle.std.proofs.Common.{Bool, List, None, Option, Some, [], ap, arith, cond, count_by, eqb, false, inl}
use Rattle.std.proofs.Common.{inr, length, not, refl, sym, true, ℕ, ◌&&◌, ◌<◌, ◌∙◌, ◌∷◌, ◌≡◌, ◌≢◌, ◌≤◌}
use Rattle.std.proofs.lemmas.Bool.{and_from, cases_eq, eq-eqb, ne_eqb}
use Rattle.std.proofs.lemmas.List.Sums.{count_by-le-length}
use Rattle.std.specs.List.{filter, find, list_any}

module _ {X : Type 0} (key place : X → ℕ) where
  -- one that stands at no other place than m stands there or nowhere
  elsewhere : (t m : ℕ) (xs : List X) → ((k : ℕ) → k ≢ m → count_by (λ x. eqb (key x) t && eqb (place x) k) xs ≡ 0)
      → count_by (λ x. eqb (key x) t) xs ≡ count_by (λ x. eqb (key x) t && eqb (place x) m) xs
  elsewhere t m [] none = refl
  elsewhere t m (x ∷ xs) none =
      omega (
        arith,
        here (eqb (key x) t) refl,
        count-cons (λ y. eqb (key y) t) x xs,
        count-cons (λ y. eqb (key y) t && eqb (place y) m) x xs,
        elsewhere t m xs (λ k away. omega (arith, none k away, count-cons (λ y. eqb (key y) t && eqb (place y) k) x xs)),
      )
    where
      here : (b : Bool) → eqb (key x) t ≡ b → one b ≡ one (b && eqb (place x) m)
      here false e = refl
      here true e = elim (cases_eq (place x) m) [
        | inl same ↦ rw (eq-eqb (place x) m same) refl
        | inr away
            ↦ absurd (omega (
              arith,
              none (place x) away,
              count-cons (λ y. eqb (key y) t && eqb (place y) (place x)) x xs,
              ap one (and_from _ _ e (eq-eqb (place x) (place x) refl)),
            ))
      ]

  -- those that wait so stand at one place, and nobody else stands anywhere
  pub record Stand (any : Block → Bool) (spot : Block → ℕ) (rows : List ThreadRow) (xs : List X) : Type 0 where
    pub here : (t k : ℕ)
        → count_by (λ x. eqb (key x) t && eqb (place x) k) xs ≤ one (passes (λ row. any row.block && eqb (spot row.block) k) (find (is_number t) rows))

  module _ (any : Block → Bool) (spot : Block → ℕ) where
    pub once : (rows : List ThreadRow) (xs : List X) → Stand any spot rows xs → (t : ℕ)
        → count_by (λ x. eqb (key x) t) xs ≤ one (passes (λ row. any row.block) (find (is_number t) rows))
    once rows xs stand t = by_row (find (is_number t) rows) (λ k. stand.here t k)
      where
        by_any : (b : Bool) (m : ℕ) → ((k : ℕ) → count_by (λ x. eqb (key x) t && eqb (place x) k) xs ≤ one (b && eqb m k))
            → count_by (λ x. eqb (key x) t) xs ≤ one b
        by_any b m h = omega (
          arith,
          elsewhere t m xs (λ k away. omega (arith, h k, ap (λ c. one (b && c)) (ne_eqb m k (λ e. away (sym e))), none b)),
          h m,
          one_and b (eqb m m),
        )
          where
            none : (b : Bool) → one (b && false) ≡ 0
            none true = refl
            none false = refl

            one_and : (a b : Bool) → one (a && b) ≤ one a
            one_and true b = one-le b
            one_and false b = omega arith

        by_row : (o : Option ThreadRow)
            → ((k : ℕ) → count_by (λ x. eqb (key x) t && eqb (place x) k) xs ≤ one (passes (λ row. any row.block && eqb (spot row.block) k) o))
            → count_by (λ x. eqb (key x) t) xs ≤ one (passes (λ row. any row.block) o)
        by_row None h = omega (arith, by_any false 0 h)
        by_row (Some row) h = by_any (any row.block) (spot row.block) h

    -- as many stand in the list as wait so
    pub fits : (rows : List ThreadRow) (xs : List X)
        → ((t : ℕ) → count_by (λ x. eqb (key x) t) xs ≤ one (passes (λ row. any row.block) (find (is_number t) rows)))
        → length xs ≤ count_by (λ (row : ThreadRow). any row.block) rows
    fits [] [] h = omega arith
    fits [] (x ∷ xs) h =
        let here : one (eqb (key x) (key x)) ≡ 1 = ap one (eq-eqb (key x) (key x) refl) in
        absurd (omega (arith, count-cons (λ y. eqb (key y) (key x)) x xs, here, h (key x)))
    fits (row ∷ rows) xs h =
        let own : count_by (λ x. eqb (key x) row.number) xs ≤ one (any row.block) = (rw (eq-eqb row.number row.number refl) at (h row.number)) in
        omega (
          arith,
          own,
          length-failed (λ x. eqb (key x) row.number) xs,
          count-cons (λ (row : ThreadRow). any row.block) row rows,
          fits rows (filter (λ x. not (eqb (key x) row.number)) xs) others,
        )
      where
        fewer : (t : ℕ) → count_by (λ x. eqb (key x) t) (filter (λ x. not (eqb (key x) row.number)) xs) ≤ count_by (λ x. eqb (key x) t) xs
        fewer t = count-filter-le (λ x. eqb (key x) t) (λ x. not (eqb (key x) row.number)) xs

        others : (t : ℕ)
            → count_by (λ x. eqb (key x) t) (filter (λ x. not (eqb (key x) row.number)) xs) ≤ one (passes (λ row. any row.block) (find (is_number t) rows))
        others t = elim (cases_eq t row.number) [
          | inl e
              ↦ let none : count_by (λ x. eqb (key x) t) (filter (λ x. not (eqb (key x) row.number)) xs)
              ≡ 0 = ap (λ n. count_by (λ x. eqb (key x) n) (filter (λ x. not (eqb (key x) row.number)) xs)) e ∙ count-failed (λ x. eqb (key x) row.number) xs in
              omega (arith, none)
          | inr away
              ↦ let other : count_by (λ x. eqb (key x) t) xs
              ≤ one (passes (λ row. any row.block) (find (is_number t) rows)) = (rw (ne_eqb row.number t (λ e. away (sym e))) at (h t)) in
              omega (arith, other, fewer t)
        ]

    -- where a thread doesn't wait so, they are fewer than all
    fewer-waiters : (t : ℕ) (rows : List ThreadRow) (x : ThreadRow) → find (is_number t) rows ≡ Some x → any x.block ≡ false
        → count_by (λ (row : ThreadRow). any row.block) rows < length rows
    fewer-waiters t [] x found no-wait = absurd (cc)
    fewer-waiters t (row ∷ rows) x found no-wait = by_head (eqb row.number t) found (λ later. fewer-waiters t rows x later no-wait)
      where
        by_head : (c : Bool) → cond c (Some row) (find (is_number t) rows) ≡ Some x
            → (find (is_number t) rows ≡ Some x → count_by (λ (row : ThreadRow). any row.block) rows < length rows)
            → count_by (λ (row : ThreadRow). any row.block) (row ∷ rows) < length (row ∷ rows)
        by_head true here rest =
            let same : row ≡ x = cc in
            omega (
              arith,
              count-cons (λ (row : ThreadRow). any row.block) row rows,
              ap (λ (r : ThreadRow). one (any r.block)) same,
              ap one no-wait,
              count_by-le-length (λ (row : ThreadRow). any row.block) rows,
            )
        by_head false later rest = omega (arith, count-cons (λ (row : ThreadRow). any row.block) row rows, one-le (any row.block), rest later)

    module _ (rows : List ThreadRow) (xs : List X) (stand : Stand any spot rows xs) (t : ℕ) (x : ThreadRow)
        (found : find (is_number t) rows ≡ Some x) (free : any x.block ≡ false) where
      -- there is a place more for one that doesn't
      pub a_place : length xs < length rows
      a_place = omega (arith, fits rows xs (once rows xs stand), fewer-waiters t rows x found free)

      -- and that one stands nowhere
      pub nowhere : count_by (λ y. eqb (key y) t) xs ≡ 0
      nowhere = omega (arith, once rows xs stand t, ap (λ o. one (passes (λ row. any row.block) o)) found, ap one free)

-- none is counted, and so there is none
pub none_there : {X : Type 0} (p : X → Bool) (xs : List X) → count_by p xs ≡ 0 → list_any p xs ≡ false
none_there p xs none = by_any (list_any p xs) (λ some. any_free some)
  where
    any_free : list_any p xs ≡ true → ⊥
    any_free some = omega (arith, none, count_any p xs some)

    by_any : (b : Bool) → (b ≡ true → ⊥) → b ≡ false
    by_any true never = absurd (never refl)
    by_any false never = refl
