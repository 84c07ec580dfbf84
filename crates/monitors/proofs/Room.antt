-- There are no more held monitors than live ones, and fewer where a live one is free.
use Rattle.lwp_types.specs.CountLaws.{count-cons, count-failed, count-filter-le, length-failed, one, times-without_other}
use Rattle.lwp_types.specs.MonitorRelease.{is_lock, locks_on, without_lock}
use Rattle.lwp_types.specs.State.{times_in, without}
use Rattle.lwp_types.specs.declared.rows.Lock.{Lock}
use Rattle.std.proofs.Common.{List, [], ap, arith, eqb, inl, inr, length, refl, ℕ, ◌<◌, ◌∷◌, ◌≡◌, ◌≤◌, sym}
use Rattle.std.proofs.lemmas.Bool.{cases_eq, eq-eqb, ne_eqb}

pub length-locks-le : (locks : List Lock) (monitors : List ℕ) → ((m : ℕ) → locks_on locks m ≤ 1)
    → ((m : ℕ) → locks_on locks m ≤ times_in monitors m) → length locks ≤ length monitors
length-locks-le [] [] once live = omega arith
length-locks-le (lock ∷ locks) [] once live =
    absurd (omega (arith, live lock.mon, count-cons (is_lock lock.mon) lock locks, ap one (eq-eqb lock.mon lock.mon refl)))
length-locks-le locks (m ∷ ms) once live =
    omega (arith, once m, length-failed (is_lock m) locks, length-locks-le (without_lock m locks) ms (λ k. omega (arith, once k, fewer k)) others)
  where
    fewer : (k : ℕ) → locks_on (without_lock m locks) k ≤ locks_on locks k
    fewer k = count-filter-le (is_lock k) _ locks

    others : (k : ℕ) → locks_on (without_lock m locks) k ≤ times_in ms k
    others k = elim (cases_eq k m) [
      | inl same ↦ omega (arith, ap (λ n. locks_on (without_lock m locks) n) same, count-failed (is_lock m) locks)
      | inr differs ↦ omega (arith, fewer k, live k, count-cons (λ v. eqb v k) m ms, ap one (ne_eqb m k (λ same. differs (sym same))))
    ]

pub length-locks-lt : (locks : List Lock) (monitors : List ℕ) → ((m : ℕ) → locks_on locks m ≤ 1)
    → ((m : ℕ) → locks_on locks m ≤ times_in monitors m) → (m : ℕ) → locks_on locks m ≡ 0 → 1 ≤ times_in monitors m → length locks < length monitors
length-locks-lt locks monitors once live m free here =
    omega (arith, length-failed (λ k. eqb k m) monitors, length-locks-le locks (without m monitors) once others)
  where
    others : (k : ℕ) → locks_on locks k ≤ times_in (without m monitors) k
    others k = elim (cases_eq k m) [
      | inl same ↦ omega (arith, free, ap (λ n. locks_on locks n) same)
      | inr differs ↦ omega (arith, live k, times-without_other m k monitors differs)
    ]
