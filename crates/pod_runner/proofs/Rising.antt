-- Rows whose numbers rise, and where the row of a thread is found among them.
use Rattle.std.proofs.Common.{◌≢◌, ◌≡◌, ◌≤◌, ◌<◌, ℕ, zero, suc, ◌+◌, List, [], ◌∷◌, ◌++◌, Bool, true, false}
use Rattle.std.proofs.Common.{cond, length, get_or, set, take, ap, ◌∙◌, refl, sym, subst, inl, inr, arith}
use Rattle.std.specs.List.{AllByRecursion, remove}
use Rattle.std.specs.Prelude.{Some, slice_get, slice_set, ◌⊎◌, ◌==◌}
use Rattle.lwp_types.specs.declared.call.Answer.{Answer}
use Rattle.pod_runner.proofs.RowLemmas.{with_row-place}
use Rattle.std.proofs.lemmas.Bool.{cases_lt, eq-eqb, ne_eqb}
use Rattle.std.proofs.lemmas.List.{get_or_default}
use Rattle.lwp_types.specs.ListLaws.{All-push, All-weaker}
use Rattle.pod_runner.specs.Polls.{AreRising, ComesLast, place_of}
use Rattle.pod_runner.specs.Session.{after_answer, with_row, without_row}
use Rattle.pod_runner.specs.declared.session.Row.{Row}

module _ {X : Type 0} (P : X → Type 0) where
  All-remove : (xs : List X) (i : ℕ) → AllByRecursion P xs → AllByRecursion P (remove xs i)
  All-remove [] zero all = tt
  All-remove [] (suc i) all = tt
  All-remove (x ∷ xs) zero all = all.1
  All-remove (x ∷ xs) (suc i) all = (all.0, All-remove xs i all.1)

  All-set : (xs : List X) (i : ℕ) (y : X) → AllByRecursion P xs → P y → AllByRecursion P (set xs i y)
  All-set [] zero y all here = tt
  All-set [] (suc i) y all here = tt
  All-set (x ∷ xs) zero y all here = (here, all.1)
  All-set (x ∷ xs) (suc i) y all here = (all.0, All-set xs i y all.1 here)

  All-at : (xs : List X) (i : ℕ) (d : X) → i < length xs → AllByRecursion P xs → P (get_or xs i d)
  All-at [] i d within all = absurd (omega arith)
  All-at (x ∷ xs) zero d within all = all.0
  All-at (x ∷ xs) (suc i) d within all = All-at xs i d (omega arith) all.1

module _ {B : Type 0} where
  pub rising_push : (rows : List (Row B)) (x : Row B) → AreRising rows → ComesLast x.tid rows → AreRising (rows ++ x ∷ [])
  rising_push [] x up last = (tt, tt)
  rising_push (r ∷ rs) x up last = (All-push (λ (later : Row B). r.tid < later.tid) rs x up.0 last.0, rising_push rs x up.1 last.1)

  pub rising_remove : (rows : List (Row B)) (i : ℕ) → AreRising rows → AreRising (remove rows i)
  rising_remove [] zero up = tt
  rising_remove [] (suc i) up = tt
  rising_remove (r ∷ rs) zero up = up.1
  rising_remove (r ∷ rs) (suc i) up = (All-remove (λ (later : Row B). r.tid < later.tid) rs i up.0, rising_remove rs i up.1)

  -- a row gives way to one of the same thread
  pub rising_set : (rows : List (Row B)) (i : ℕ) (x : Row B) → AreRising rows → i < length rows → x.tid ≡ (get_or rows i x).tid → AreRising (set rows i x)
  rising_set [] i x up within same = absurd (omega arith)
  rising_set (r ∷ rs) zero x up within same =
      (All-weaker (λ (later : Row B). r.tid < later.tid) (λ (later : Row B). x.tid < later.tid) (λ later lt. omega (arith, lt, same)) rs up.0, up.1)
  rising_set (r ∷ rs) (suc i) x up within same =
      let low : r.tid < x.tid = omega (arith, All-at (λ (later : Row B). r.tid < later.tid) rs i x (omega arith) up.0, same) in
      (All-set (λ (later : Row B). r.tid < later.tid) rs i x up.0 low, rising_set rs i x up.1 (omega arith) same)

  -- of two rows the later has the greater number
  rises : (rows : List (Row B)) (i j : ℕ) (d : Row B) → AreRising rows → i < j → j < length rows → (get_or rows i d).tid < (get_or rows j d).tid
  rises [] i j d up lt within = absurd (omega arith)
  rises (r ∷ rs) zero zero d up lt within = absurd (omega arith)
  rises (r ∷ rs) zero (suc j) d up lt within = All-at (λ (later : Row B). r.tid < later.tid) rs j d (omega arith) up.0
  rises (r ∷ rs) (suc i) zero d up lt within = absurd (omega arith)
  rises (r ∷ rs) (suc i) (suc j) d up lt within = rises rs i j d up.1 (omega arith) (omega arith)

  -- a row's place is its thread's
  pub place_found : (t : ℕ) (rows : List (Row B)) (i : ℕ) (d : Row B) → AreRising rows → i < length rows → (get_or rows i d).tid ≡ t → place_of t rows ≡ i
  place_found t [] i d up within here = absurd (omega arith)
  place_found t (r ∷ rs) zero d up within here = rw (eq-eqb r.tid t here) refl
  place_found t (r ∷ rs) (suc i) d up within here =
      let low = All-at (λ (later : Row B). r.tid < later.tid) rs i d (omega arith) up.0 in
      let apart : r.tid ≢ t = (λ same. omega (arith, low, here, same)) in
      rw (ne_eqb r.tid t apart) (ap suc (place_found t rs i d up.1 (omega arith) here))

  -- a thread without a row
  place_missing : (t : ℕ) (rows : List (Row B)) → ((k : ℕ) (d : Row B) → k < length rows → (get_or rows k d).tid ≢ t) → place_of t rows ≡ length rows
  place_missing t [] none = refl
  place_missing t (r ∷ rs) none = rw (ne_eqb r.tid t (none 0 r (omega arith))) (ap suc (place_missing t rs (λ k d low. none (suc k) d (omega arith))))

  -- all rows up to one of a lesser number
  pub all_before : (t : ℕ) (rows : List (Row B)) (m : ℕ) (seen : Row B) → AreRising rows → m < length rows → seen ≡ get_or rows m seen → seen.tid < t
      → (k : ℕ) (d : Row B) → k < m + 1 → (get_or rows k d).tid < t
  all_before t rows m seen up within there low k d under = by (cases_lt k m)
    where
      at : seen.tid ≡ (get_or rows m d).tid
      at = ap (λ (r : Row B). r.tid) (there ∙ get_or_default rows m seen d within)

      by : (k < m) ⊎ (m ≤ k) → (get_or rows k d).tid < t
      by (inl before) = omega (arith, rises rows k m d up before within, at, low)
      by (inr after) = let same : m ≡ k = omega (arith, after, under) in subst (λ n. (get_or rows n d).tid < t) same (omega (arith, at, low))

  -- all rows from one of a greater number on
  pub all_after : (t : ℕ) (rows : List (Row B)) (m : ℕ) (seen : Row B) → AreRising rows → m < length rows → seen ≡ get_or rows m seen → t < seen.tid
      → (k : ℕ) (d : Row B) → m ≤ k → k < length rows → t < (get_or rows k d).tid
  all_after t rows m seen up within there high k d over low = by (cases_lt m k)
    where
      at : seen.tid ≡ (get_or rows m d).tid
      at = ap (λ (r : Row B). r.tid) (there ∙ get_or_default rows m seen d within)

      by : (m < k) ⊎ (k ≤ m) → t < (get_or rows k d).tid
      by (inl before) = omega (arith, rises rows m k d up before low, at, high)
      by (inr after) = let same : m ≡ k = omega (arith, after, over) in subst (λ n. t < (get_or rows n d).tid) same (omega (arith, at, high))

  -- all rows are before a thread that the last one is before
  pub comes_last : (t : ℕ) (rows : List (Row B)) (n : ℕ) (seen : Row B) → AreRising rows → n + 1 ≡ length rows → seen ≡ get_or rows n seen
      → seen.tid < t → ComesLast t rows
  comes_last t [] n seen up at there low = absurd (omega (arith, at))
  comes_last t (r ∷ []) zero seen up at there low = (subst (λ (x : Row B). x.tid < t) there low, tt)
  comes_last t (r ∷ s ∷ rs) zero seen up at there low = absurd (omega (arith, at))
  comes_last t (r ∷ rs) (suc n) seen up at there low = (
    omega (arith, All-at (λ (later : Row B). r.tid < later.tid) rs n seen (omega (arith, at)) up.0, ap (λ (x : Row B). x.tid) there, low),
    comes_last t rs n seen up.1 (omega (arith, at)) there low,
  )

  -- ---- a row that is there

  row_at : (rows : List (Row B)) (i : ℕ) (d : Row B) → i < length rows → slice_get rows i ≡ Some (get_or rows i d)
  row_at [] i d within = absurd (omega arith)
  row_at (r ∷ rs) zero d within = refl
  row_at (r ∷ rs) (suc i) d within = row_at rs i d (omega arith)

  -- a thread is answered at its place
  pub answered_at : (t : ℕ) (a : Answer) (rows : List (Row B)) (i : ℕ) (seen : Row B) → i ≡ place_of t rows → i < length rows → seen ≡ get_or rows i seen
      → slice_set rows i (record seen { answer = a }) ≡ after_answer t a rows
  answered_at t a rows i seen at within there =
      let here : slice_get rows (place_of t rows) ≡ Some seen = ap (slice_get rows) (sym at) ∙ row_at rows i seen within ∙ ap Some (sym there) in
      ap (λ n. slice_set rows n (record seen { answer = a })) at ∙ sym (with_row-place t (λ row. record row { answer = a }) rows seen here)

  -- ---- a thread without a row changes none

  pub with_row-missing : (t : ℕ) (change : Row B → Row B) (rows : List (Row B)) → length rows ≤ place_of t rows → with_row t change rows ≡ rows
  with_row-missing t change [] past = refl
  with_row-missing t change (r ∷ rs) past = by_head (r.tid == t) (λ h. with_row-missing t change rs h) past
    where
      by_head : (b : Bool) → (length rs ≤ place_of t rs → with_row t change rs ≡ rs) → suc (length rs) ≤ cond b 0 (suc (place_of t rs))
          → cond b (change r ∷ rs) (r ∷ with_row t change rs) ≡ r ∷ rs
      by_head true rest h = absurd (omega (arith, h))
      by_head false rest h = ap (λ l. r ∷ l) (rest (omega (arith, h)))

  pub without_row-missing : (t : ℕ) (rows : List (Row B)) → length rows ≤ place_of t rows → without_row t rows ≡ rows
  without_row-missing t [] past = refl
  without_row-missing t (r ∷ rs) past = by_head (r.tid == t) (λ h. without_row-missing t rs h) past
    where
      by_head : (b : Bool) → (length rs ≤ place_of t rs → without_row t rs ≡ rs) → suc (length rs) ≤ cond b 0 (suc (place_of t rs))
          → cond b rs (r ∷ without_row t rs) ≡ r ∷ rs
      by_head true rest h = absurd (omega (arith, h))
      by_head false rest h = ap (λ l. r ∷ l) (rest (omega (arith, h)))

  -- a row that goes is taken out at its place
  without_row-place : (t : ℕ) (rows : List (Row B)) → place_of t rows < length rows → without_row t rows ≡ remove rows (place_of t rows)
  without_row-place t [] there = refl
  without_row-place t (r ∷ rs) there = by_head (r.tid == t) (λ h. without_row-place t rs h) there
    where
      by_head : (b : Bool) → (place_of t rs < length rs → without_row t rs ≡ remove rs (place_of t rs)) → cond b 0 (suc (place_of t rs)) < suc (length rs)
          → cond b rs (r ∷ without_row t rs) ≡ remove (r ∷ rs) (cond b 0 (suc (place_of t rs)))
      by_head true rest h = refl
      by_head false rest h = ap (λ l. r ∷ l) (rest (omega (arith, h)))

  -- the last row goes, and the others stay where they are
  pub remove_last : (rows : List (Row B)) (i : ℕ) → i + 1 ≡ length rows → remove rows i ≡ take i rows
  remove_last [] i last = absurd (omega (arith, last))
  remove_last (r ∷ []) zero last = refl
  remove_last (r ∷ s ∷ rs) zero last = absurd (omega (arith, last))
  remove_last (r ∷ rs) (suc i) last = ap (λ (xs : List (Row B)). r ∷ xs) (remove_last rs i (omega (arith, last)))

  pub without_row_at : (t : ℕ) (rows : List (Row B)) (i : ℕ) → i ≡ place_of t rows → i < length rows → without_row t rows ≡ remove rows i
  without_row_at t rows i at within = without_row-place t rows (omega (arith, at, within)) ∙ ap (remove rows) (sym at)

  -- where all rows come before the thread or after it, it has none
  pub missing_between : (t : ℕ) (rows : List (Row B)) (low high : ℕ) → high ≤ low → ((k : ℕ) (d : Row B) → k < low → (get_or rows k d).tid < t)
      → ((k : ℕ) (d : Row B) → high ≤ k → k < length rows → t < (get_or rows k d).tid) → length rows ≡ place_of t rows
  missing_between t rows low high met before behind = sym (place_missing t rows (λ k d within same. by k d within same (cases_lt k low)))
    where
      by : (k : ℕ) (d : Row B) → k < length rows → (get_or rows k d).tid ≡ t → (k < low) ⊎ (low ≤ k) → ⊥
      by k d within same (inl under) = omega (arith, before k d under, same)
      by k d within same (inr over) = omega (arith, behind k d (omega (arith, met, over)) within, same)
