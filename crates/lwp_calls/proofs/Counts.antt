-- Two lists that have each number as often are as long.
use Rattle.death_cleanup.specs.Ties.{LawfulParts}
use Rattle.death_cleanup.specs.View.{state_of}
use Rattle.death_cleanup.specs.declared.parts.Parts.{Parts}
use Rattle.lwp_calls.proofs.Agree.{known-same}
use Rattle.lwp_types.specs.CountLaws.{count-cons, count-failed, count-filter, count_agree, count_found, count_not_found, length-failed, one}
use Rattle.lwp_types.specs.State.{ThreadRow, is_number, numbers, times_in, without}
use Rattle.pod_laws.proofs.Numbers.{once_rising}
use Rattle.pod_sched.specs.Schedule as sched
use Rattle.pod_sched.specs.declared.rows.Known.{Known}
use Rattle.std.proofs.Common.{Bool, List, None, Option, Some, [], ap, arith, count_by, eqb, false, inl, inr, length}
use Rattle.std.proofs.Common.{map, not, refl, suc, sym, true, zero, ℕ, ◌&&◌, ◌∙◌, ◌∷◌, ◌≡◌, ◌≢◌, ◌≤◌}
use Rattle.std.proofs.lemmas.Bool.{cases_eq, eq-eqb, ne_eqb}
use Rattle.std.specs.List.{find}
use Rattle.std.specs.Prelude.{is_some}

-- without one number, the others are there as often
others : (x n : ℕ) → n ≢ x → (ns : List ℕ) → times_in (without x ns) n ≡ times_in ns n
others x n away ns = count-filter (λ m. eqb m n) (λ m. not (eqb m x)) ns ∙ count_agree (λ m. not (eqb m x) && eqb m n) (λ m. eqb m n) each ns
  where
    each : (m : ℕ) → (not (eqb m x) && eqb m n) ≡ eqb m n
    each m = elim (cases_eq m n) [
      | inl e ↦ rw (e, ne_eqb n x away) refl
      | inr differs ↦ rw (ne_eqb m n differs) (never (not (eqb m x)))
    ]
      where
        never : (b : Bool) → (b && false) ≡ false
        never true = refl
        never false = refl

none-left : (ns : List ℕ) → ((n : ℕ) → times_in ns n ≡ 0) → length ns ≡ 0
none-left [] none = refl
none-left (n ∷ ns) none =
    let here : one (eqb n n) ≡ 1 = rw (eq-eqb n n refl) refl in
    absurd (omega (arith, none n, count-cons (λ m. eqb m n) n ns, here))

as_long_by : (most : ℕ) (xs ys : List ℕ) → length xs ≤ most → ((n : ℕ) → times_in xs n ≡ times_in ys n) → length xs ≡ length ys
as_long_by most [] ys few same = sym (none-left ys (λ n. sym (same n)))
as_long_by zero (x ∷ xs) ys few same = absurd (omega arith)
as_long_by (suc most) (x ∷ xs) ys few same =
    let fewer = as_long_by most (without x (x ∷ xs)) (without x ys) shorter rest in
    omega (arith, fewer, length-failed (λ m. eqb m x) (x ∷ xs), length-failed (λ m. eqb m x) ys, same x)
  where
    here : one (eqb x x) ≡ 1
    here = rw (eq-eqb x x refl) refl

    shorter : length (without x (x ∷ xs)) ≤ most
    shorter = omega (arith, few, length-failed (λ m. eqb m x) (x ∷ xs), count-cons (λ m. eqb m x) x xs, here)

    rest : (n : ℕ) → times_in (without x (x ∷ xs)) n ≡ times_in (without x ys) n
    rest n = elim (cases_eq n x) [
      | inl e
          ↦ ap (times_in (without x (x ∷ xs))) e ∙ count-failed (λ m. eqb m x) (x ∷ xs) ∙ sym (count-failed (λ m. eqb m x) ys)
          ∙ ap (times_in (without x ys)) (sym e)
      | inr away ↦ others x n away (x ∷ xs) ∙ same n ∙ sym (others x n away ys)
    ]

pub as_long : (xs ys : List ℕ) → ((n : ℕ) → times_in xs n ≡ times_in ys n) → length xs ≡ length ys
as_long xs ys same = as_long_by (length xs) xs ys (omega arith) same

-- numbers of rows
module _ {X : Type 0} (key : X → ℕ) where
  pub times-keys : (xs : List X) (n : ℕ) → times_in (map key xs) n ≡ count_by (λ x. eqb (key x) n) xs
  times-keys [] n = refl
  times-keys (x ∷ xs) n = omega (arith, count-cons (λ m. eqb m n) (key x) (map key xs), count-cons (λ y. eqb (key y) n) x xs, times-keys xs n)

  pub length-keys : (xs : List X) → length (map key xs) ≡ length xs
  length-keys [] = refl
  length-keys (x ∷ xs) = omega (arith, length-keys xs)

  -- what is there at most once is counted by whether it is found
  found-counts : (xs : List X) (n : ℕ) → count_by (λ x. eqb (key x) n) xs ≤ 1 → count_by (λ x. eqb (key x) n) xs ≡ one (is_some (find (λ x. eqb (key x) n) xs))
  found-counts xs n once = by_found (find (λ x. eqb (key x) n) xs) refl
    where
      by_found : (o : Option X) → find (λ x. eqb (key x) n) xs ≡ o → count_by (λ x. eqb (key x) n) xs ≡ one (is_some o)
      by_found None e = count_not_found (λ x. eqb (key x) n) xs e
      by_found (Some x) e = omega (arith, once, count_found (λ x. eqb (key x) n) xs x e)

-- the scheduler knows as many threads as there are
pub threads-count : (parts : Parts) → LawfulParts parts → parts.dying ≡ None → ((t : ℕ) → count_by (sched.is_of t) parts.sched.threads ≤ 1)
    → length parts.sched.threads ≡ length (state_of parts).threads
threads-count parts lawful alone once =
    sym (length-keys (λ (k : Known). k.tid) parts.sched.threads)
    ∙ as_long (map (λ (k : Known). k.tid) parts.sched.threads) (numbers (state_of parts).threads) each
    ∙ length-keys (λ (row : ThreadRow). row.number) (state_of parts).threads
  where
    row_once : (n : ℕ) → count_by (is_number n) (state_of parts).threads ≤ 1
    row_once n = omega (
      arith,
      once_rising (numbers (state_of parts).threads) lawful.nine.numbers.0.0 n,
      times-keys (λ (row : ThreadRow). row.number) (state_of parts).threads n,
    )

    each : (n : ℕ) → times_in (map (λ (k : Known). k.tid) parts.sched.threads) n ≡ times_in (numbers (state_of parts).threads) n
    each n = times-keys (λ (k : Known). k.tid) parts.sched.threads n
        ∙ found-counts (λ (k : Known). k.tid) parts.sched.threads n (once n)
        ∙ ap one (known-same parts lawful.step.tied alone n)
        ∙ sym (found-counts (λ (row : ThreadRow). row.number) (state_of parts).threads n (row_once n))
        ∙ sym (times-keys (λ (row : ThreadRow). row.number) (state_of parts).threads n)
