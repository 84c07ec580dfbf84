-- What is filed stays filed through each change, and what a numbering anew leaves.
use Rattle.lwp_types.specs.CountLaws.{count-push, one}
use Rattle.lwp_types.specs.OnlyLaws.{count_at}
use Rattle.std.proofs.Common.{List, [], ap, arith, count_by, drop, get_or, length, map, refl, set, suc, sym, take, zero, ℕ, ◌++◌, ◌+◌, ◌<◌, ◌∙◌, ◌∷◌, ◌≡◌, ◌≤◌}
use Rattle.std.proofs.lemmas.List.Edits.{length-remove}
use Rattle.std.proofs.lemmas.List.Sums.{sum_by-remove, sum_by-set}
use Rattle.std.proofs.lemmas.List.{length-set, length_push}
use Rattle.std.specs.List.{AllByRecursion, remove}
use Rattle.lists.proofs.WaitingLaws.EntryLaws.{never_falls, no_entry}
use Rattle.lists.proofs.WaitingLaws.KeyLaws.{key_itself}
use Rattle.lists.specs.WaitingList.Entries.{AreRising, IsFiled, IsIndexed, IsSortedOut, arrivals, waiting_of, with_arrivals}
use Rattle.lists.specs.WaitingList.Keys.{IsSorted, is_key}
use Rattle.lists.specs.declared.waiting_list.keys.Key.{Key}
use Rattle.lists.specs.declared.waiting_list.rows.Entry.{Entry}

-- ---- keys

module _ (f : Entry → Key) (es : List Entry) (ks after : List Key) (was : IsFiled f es ks) where
  pub IsFiled-push : (e : Entry) → IsSorted after → ((k : Key) → count_by (is_key k) after ≡ count_by (is_key k) ks + one (is_key k (f e)))
      → length after ≡ length ks + 1 → IsFiled f (es ++ e ∷ []) after
  IsFiled-push e sorted counts len = record {
    sorted = sorted;
    each = λ k. omega (arith, counts k, was.each k, count-push (λ e. is_key k (f e)) es e);
    len = omega (arith, len, was.len, length_push es e);
  }

  module _ (i : ℕ) (e : Entry) (within : i < length es) (here : e ≡ get_or es i e) where
    one_here : (k : Key) → one (is_key k (f (get_or es i e))) ≡ one (is_key k (f e))
    one_here k = ap (λ x. one (is_key k (f x))) (sym here)

    -- its key is there
    pub key_filed : 1 ≤ count_by (is_key (f e)) ks
    key_filed = omega (arith, was.each (f e), count_at (λ x. is_key (f e) (f x)) es i e within (ap (λ x. is_key (f e) (f x)) (sym here) ∙ key_itself (f e)))

    pub IsFiled-remove : IsSorted after → ((k : Key) → count_by (is_key k) after + one (is_key k (f e)) ≡ count_by (is_key k) ks)
        → length after + 1 ≡ length ks → IsFiled f (remove es i) after
    IsFiled-remove sorted counts len = record {
      sorted = sorted;
      each = λ k. omega (arith, counts k, was.each k, sum_by-remove (λ x. one (is_key k (f x))) es i e within, one_here k);
      len = omega (arith, len, was.len, length-remove es i within);
    }

    -- it has another key
    pub IsFiled-set : (e' : Entry) → IsSorted after
        → ((k : Key) → count_by (is_key k) after + one (is_key k (f e)) ≡ count_by (is_key k) ks + one (is_key k (f e')))
        → length after ≡ length ks → IsFiled f (set es i e') after
    IsFiled-set e' sorted counts len = record {
      sorted = sorted;
      each = λ k. omega (arith, counts k, was.each k, sum_by-set (λ x. one (is_key k (f x))) es i e' e within, one_here k);
      len = omega (arith, len, was.len, length-set es i e');
    }

-- it has the same key
pub IsFiled-kept : (f : Entry → Key) (es : List Entry) (ks : List Key) (was : IsFiled f es ks) (i : ℕ) (e e' : Entry) → i < length es
    → e ≡ get_or es i e → f e' ≡ f e → IsFiled f (set es i e') ks
IsFiled-kept f es ks was i e e' within here same = record {
  sorted = was.sorted;
  each = λ k. omega
      (arith, was.each k, sum_by-set (λ x. one (is_key k (f x))) es i e' e within, ap (λ x. one (is_key k (f x))) (sym here), ap (λ x. one (is_key k x)) same);
  len = omega (arith, was.len, length-set es i e');
}

-- ---- arrivals

pub all_from : (P : ℕ → Type 0) (es : List Entry) → ((i : ℕ) → i < length es → P (get_or es i no_entry).arrival) → AllByRecursion P (arrivals es)
all_from P [] each = tt
all_from P (e ∷ es) each = (each 0 (omega arith), all_from P es (λ i lt. each (suc i) (omega (arith, lt))))

all_push : (P : ℕ → Type 0) (es : List Entry) (e : Entry) → AllByRecursion P (arrivals es) → P e.arrival → AllByRecursion P (arrivals (es ++ e ∷ []))
all_push P [] e all here = (here, tt)
all_push P (x ∷ es) e all here = (all.0, all_push P es e all.1 here)

rising_push : (es : List Entry) (e : Entry) → AreRising (arrivals es) → AllByRecursion (λ n. n < e.arrival) (arrivals es) → AreRising (arrivals (es ++ e ∷ []))
rising_push [] e rising later = (tt, tt)
rising_push (x ∷ es) e rising later = (all_push (λ n. x.arrival < n) es e rising.0 later.0, rising_push es e rising.1 later.1)

all_remove : (P : ℕ → Type 0) (es : List Entry) (i : ℕ) → AllByRecursion P (arrivals es) → AllByRecursion P (arrivals (remove es i))
all_remove P [] zero all = tt
all_remove P [] (suc i) all = tt
all_remove P (e ∷ es) zero all = all.1
all_remove P (e ∷ es) (suc i) all = (all.0, all_remove P es i all.1)

rising_remove : (es : List Entry) (i : ℕ) → AreRising (arrivals es) → AreRising (arrivals (remove es i))
rising_remove [] zero rising = tt
rising_remove [] (suc i) rising = tt
rising_remove (e ∷ es) zero rising = rising.1
rising_remove (e ∷ es) (suc i) rising = (all_remove (λ n. e.arrival < n) es i rising.0, rising_remove es i rising.1)

arrivals_set : (es : List Entry) (i : ℕ) (e e' : Entry) → i < length es → e ≡ get_or es i e → e'.arrival ≡ e.arrival → arrivals (set es i e') ≡ arrivals es
arrivals_set [] i e e' within here same = absurd (omega arith)
arrivals_set (x ∷ es) zero e e' within here same = ap (λ n. n ∷ arrivals es) (same ∙ ap (λ (y : Entry). y.arrival) here)
arrivals_set (x ∷ es) (suc i) e e' within here same = ap (λ ns. x.arrival ∷ ns) (arrivals_set es i e e' (omega (arith, within)) here same)

-- the last came last
pub last_is_most : (es : List Entry) (i : ℕ) (e : Entry) → AreRising (arrivals es) → i + 1 ≡ length es → e ≡ get_or es i e
    → AllByRecursion (λ n. n < e.arrival + 1) (arrivals es)
last_is_most es i e rising end here = all_from (λ n. n < e.arrival + 1) es (λ j lt.
    let last : e.arrival ≡ (get_or es i no_entry).arrival = ap (λ (x : Entry). x.arrival) (here ∙ other_default es i e no_entry (omega (arith, end))) in
    omega (arith, last, never_falls es rising j i no_entry (omega (arith, lt, end)) (omega (arith, end))))
  where
    other_default : (es : List Entry) (i : ℕ) (d d' : Entry) → i < length es → get_or es i d ≡ get_or es i d'
    other_default [] i d d' within = absurd (omega arith)
    other_default (e ∷ es) zero d d' within = refl
    other_default (e ∷ es) (suc i) d d' within = other_default es i d d' (omega arith)

-- ---- numbered anew

pub length-numbered : (n : ℕ) (es : List Entry) → length (with_arrivals n es) ≡ length es
length-numbered n [] = refl
length-numbered n (e ∷ es) = ap suc (length-numbered (suc n) es)

pub waits-numbered : (n : ℕ) (es : List Entry) → map waiting_of (with_arrivals n es) ≡ map waiting_of es
waits-numbered n [] = refl
waits-numbered n (e ∷ es) = ap (λ ws. waiting_of e ∷ ws) (waits-numbered (suc n) es)

above-numbered : (k n : ℕ) (es : List Entry) → k < n → AllByRecursion (λ m. k < m) (arrivals (with_arrivals n es))
above-numbered k n [] less = tt
above-numbered k n (e ∷ es) less = (less, above-numbered k (suc n) es (omega (arith, less)))

pub rising-numbered : (n : ℕ) (es : List Entry) → AreRising (arrivals (with_arrivals n es))
rising-numbered n [] = tt
rising-numbered n (e ∷ es) = (above-numbered n (suc n) es (omega arith), rising-numbered (suc n) es)

pub below-numbered : (m n : ℕ) (es : List Entry) → n + length es ≤ m → AllByRecursion (λ k. k < m) (arrivals (with_arrivals n es))
below-numbered m n [] fits = tt
below-numbered m n (e ∷ es) fits = (omega (arith, fits), below-numbered m (suc n) es (omega (arith, fits)))

pub partly_long : (n i : ℕ) (es : List Entry) → i ≤ length es → length (with_arrivals n (take i es) ++ drop i es) ≡ length es
partly_long n zero es fits = refl
partly_long n (suc i) [] fits = absurd (omega (arith, fits))
partly_long n (suc i) (e ∷ es) fits = ap suc (partly_long (suc n) i es (omega (arith, fits)))

pub numbered_more : (n i m next : ℕ) (es : List Entry) (x : Entry) → m ≡ n + i → next ≡ suc i → i < length es
    → x ≡ get_or (with_arrivals n (take i es) ++ drop i es) i x
    → set (with_arrivals n (take i es) ++ drop i es) i (record x { arrival = m }) ≡ with_arrivals n (take next es) ++ drop next es
numbered_more n i m next [] x is then within here = absurd (omega (arith, within))
numbered_more n zero m next (e ∷ es) x is then within here =
    let same : m ≡ n = omega (arith, is) in
    rw (then, same) (ap (λ (y : Entry). record y { arrival = n } ∷ es) here)
numbered_more n (suc i) m next (e ∷ es) x is then within here =
    rw then (ap (λ ys. record e { arrival = n } ∷ ys) (numbered_more (suc n) i m (suc i) es x (omega (arith, is)) refl (omega (arith, within)) here))

pub take_more : (es : List Entry) (i : ℕ) (e : Entry) → i < length es → e ≡ get_or es i e → take (suc i) es ≡ take i es ++ e ∷ []
take_more [] i e within here = absurd (omega (arith, within))
take_more (x ∷ es) zero e within here = ap (λ y. y ∷ []) (sym here)
take_more (x ∷ es) (suc i) e within here = ap (λ ys. x ∷ ys) (take_more es i e (omega (arith, within)) here)

pub IsFiled-more : (f : Entry → Key) (es : List Entry) (i next : ℕ) (e : Entry) (ks after : List Key) → IsFiled f (take i es) ks
    → next ≡ suc i → i < length es → e ≡ get_or es i e → IsSorted after
    → ((k : Key) → count_by (is_key k) after ≡ count_by (is_key k) ks + one (is_key k (f e))) → length after ≡ length ks + 1 → IsFiled f (take next es) after
IsFiled-more f es i next e ks after was
    then within here sorted counts len = rw (then, take_more es i e within here) (IsFiled-push f (take i es) ks after was e sorted counts len)

-- ---- sorted out

module _ (es : List Entry) (ranks arrived : List Key) (was : IsIndexed es ranks arrived) where
  pub IsIndexed-push : (e : Entry) (ranks' arrived' : List Key) → AllByRecursion (λ n. n < e.arrival) (arrivals es)
      → IsSortedOut (es ++ e ∷ []) ranks' arrived' → IsIndexed (es ++ e ∷ []) ranks' arrived'
  IsIndexed-push e ranks' arrived' later sorted = record { rising = rising_push es e was.rising later; sorted = sorted }

  pub IsIndexed-remove : (i : ℕ) (ranks' arrived' : List Key) → IsSortedOut (remove es i) ranks' arrived' → IsIndexed (remove es i) ranks' arrived'
  IsIndexed-remove i ranks' arrived' sorted = record { rising = rising_remove es i was.rising; sorted = sorted }

  pub IsIndexed-set : (i : ℕ) (e e' : Entry) (ranks' arrived' : List Key) → i < length es → e ≡ get_or es i e → e'.arrival ≡ e.arrival
      → IsSortedOut (set es i e') ranks' arrived' → IsIndexed (set es i e') ranks' arrived'
  IsIndexed-set i e e' ranks' arrived' within here same sorted = record { rising = rw (arrivals_set es i e e' within here same) was.rising; sorted = sorted }
