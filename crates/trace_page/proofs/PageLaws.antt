-- The lines of a text, one by one.
use Rattle.std.proofs.Common.{Bool, List, None, Some, [], ap, append_assoc, arith, cond, drop, eqb, false, length}
use Rattle.std.proofs.Common.{length-drop, refl, suc, sym, take, true, ℕ, ◌++◌, ◌+◌, ◌<◌, ◌∷◌, ◌≡◌, ◌≤◌, ◌∙◌}
use Rattle.std.specs.Prelude.{is_some}
use Rattle.trace_lines.specs.Entries.{entry_of}
use Rattle.trace_lines.specs.Words.{reach}
use Rattle.trace_page.specs.Page.{after_line, after_lines, bad_from, calls_of, first_bad, group_if_shown, groups, is_whole, line_calls, onto_first, whole_lines}
use Rattle.trace_page.specs.Scene.{Seen}

-- the first line, where there is a newline
pub first_line : (text : List ℕ) → reach 10 text < length text → whole_lines text ≡ take (reach 10 text) text ∷ whole_lines (drop (suc (reach 10 text)) text)
first_line [] lt = absurd (omega arith)
first_line (b ∷ bs) lt = by_head (eqb b 10) lt (λ h. first_line bs h)
  where
    by_head : (v : Bool) → cond v 0 (suc (reach 10 bs)) < suc (length bs)
        → (reach 10 bs < length bs → whole_lines bs ≡ take (reach 10 bs) bs ∷ whole_lines (drop (suc (reach 10 bs)) bs))
        → cond v ([] ∷ whole_lines bs) (onto_first b (whole_lines bs))
        ≡ take (cond v 0 (suc (reach 10 bs))) (b ∷ bs) ∷ whole_lines (drop (suc (cond v 0 (suc (reach 10 bs)))) (b ∷ bs))
    by_head true h later = refl
    by_head false h later = ap (onto_first b) (later (omega (arith, h)))

-- no line, where there is none
pub no_line : (text : List ℕ) → reach 10 text ≡ length text → whole_lines text ≡ []
no_line [] e = refl
no_line (b ∷ bs) e = by_head (eqb b 10) e (λ h. no_line bs h)
  where
    by_head : (v : Bool) → cond v 0 (suc (reach 10 bs)) ≡ suc (length bs) → (reach 10 bs ≡ length bs → whole_lines bs ≡ [])
        → cond v ([] ∷ whole_lines bs) (onto_first b (whole_lines bs)) ≡ []
    by_head true h later = absurd (omega (arith, h))
    by_head false h later = ap (onto_first b) (later (omega (arith, h)))

-- whether a text ends with a newline depends on what follows its first line
pub whole_behind : (text : List ℕ) → reach 10 text < length text → is_whole text ≡ is_whole (drop (suc (reach 10 text)) text)
whole_behind [] lt = absurd (omega arith)
whole_behind (b ∷ []) lt = by_head (eqb b 10) lt
  where
    by_head : (v : Bool) → cond v 0 1 < 1 → v ≡ is_whole (drop (suc (cond v 0 1)) (b ∷ []))
    by_head true h = refl
    by_head false h = absurd (omega (arith, h))
whole_behind (b ∷ c ∷ bs) lt = by_head (eqb b 10) lt (λ h. whole_behind (c ∷ bs) h)
  where
    by_head : (v : Bool) → cond v 0 (suc (reach 10 (c ∷ bs))) < suc (suc (length bs))
        → (reach 10 (c ∷ bs) < suc (length bs) → is_whole (c ∷ bs) ≡ is_whole (drop (suc (reach 10 (c ∷ bs))) (c ∷ bs)))
        → is_whole (c ∷ bs) ≡ is_whole (drop (suc (cond v 0 (suc (reach 10 (c ∷ bs))))) (b ∷ c ∷ bs))
    by_head true h later = refl
    by_head false h later = later (omega (arith, h))

-- a text without a newline isn't whole
pub not_whole : (text : List ℕ) → reach 10 text ≡ length text → 0 < length text → is_whole text ≡ false
not_whole [] e some = absurd (omega arith)
not_whole (b ∷ []) e some = by_head (eqb b 10) e
  where
    by_head : (v : Bool) → ◌≡◌ {A = ℕ} (cond v 0 1) 1 → v ≡ false
    by_head true h = absurd (omega (arith, h))
    by_head false h = refl
not_whole (b ∷ c ∷ bs) e some = by_head (eqb b 10) e (λ h. not_whole (c ∷ bs) h (omega arith))
  where
    by_head : (v : Bool) → cond v 0 (suc (reach 10 (c ∷ bs))) ≡ suc (suc (length bs))
        → (reach 10 (c ∷ bs) ≡ suc (length bs) → is_whole (c ∷ bs) ≡ false) → is_whole (c ∷ bs) ≡ false
    by_head true h later = absurd (omega (arith, h))
    by_head false h later = later (omega (arith, h))

-- ---- the loop over the lines

-- bytes after the last newline are no line
pub unended : (number n : ℕ) (rest text : List ℕ) → reach 10 rest ≡ length rest → 0 < length rest
    → bad_from number (is_whole rest) (whole_lines rest) ≡ first_bad text → number ≡ n → first_bad text ≡ Some n
unended number n rest text e some bad same =
    sym bad ∙ (rw (no_line rest e, not_whole rest e some) refl ∙ ap Some same)

first_at : (rest : List ℕ) (k : ℕ) → k ≡ reach 10 rest → k < length rest → whole_lines rest ≡ take k rest ∷ whole_lines (drop (k + 1) rest)
first_at rest k at lt =
    let next : k + 1 ≡ suc (reach 10 rest) = omega (arith, at) in
    first_line rest (omega (arith, at, lt))
    ∙ sym (ap (λ i. take i rest ∷ whole_lines (drop (k + 1) rest)) at ∙ ap (λ i. take (reach 10 rest) rest ∷ whole_lines (drop i rest)) next)

whole_at : (rest : List ℕ) (k : ℕ) → k ≡ reach 10 rest → k < length rest → is_whole rest ≡ is_whole (drop (k + 1) rest)
whole_at rest k at lt =
    let next : suc (reach 10 rest) ≡ k + 1 = omega (arith, at) in
    whole_behind rest (omega (arith, at, lt)) ∙ ap (λ i. is_whole (drop i rest)) next

module _ (rest left : List ℕ) (k : ℕ) (at : k ≡ reach 10 rest) (lt : k < length rest) (behind : left ≡ drop (k + 1) rest) where
  first : whole_lines rest ≡ take k rest ∷ whole_lines left
  first = first_at rest k at lt ∙ ap (λ l. take k rest ∷ whole_lines l) (sym behind)

  pub told_on : (s next end : Seen) → next ≡ after_line (take k rest) s → after_lines s (whole_lines rest) ≡ end → after_lines next (whole_lines left) ≡ end
  told_on s next end e all = ap (λ x. after_lines x (whole_lines left)) e ∙ (sym (ap (after_lines s) first) ∙ all)

  pub drawn_on : (s next : Seen) (out more end : List ℕ) → next ≡ after_line (take k rest) s
      → more ≡ out ++ group_if_shown (after_line (take k rest) s) (take k rest)
      → out ++ groups s (whole_lines rest) ≡ end → more ++ groups next (whole_lines left) ≡ end
  drawn_on s next out more end e m all =
      let l : List ℕ = take k rest in
      let ls : List (List ℕ) = whole_lines left in
      ap (λ x. more ++ groups x ls) e
      ∙ (ap (λ x. x ++ groups (after_line l s) ls) m
      ∙ (append_assoc out (group_if_shown (after_line l s) l) (groups (after_line l s) ls) ∙ (sym (ap (λ x. out ++ groups s x) first) ∙ all)))

  pub counted_on : (calls more all : ℕ) → more ≡ line_calls (take k rest) → calls + calls_of (whole_lines rest) ≡ all
      → calls + more + calls_of (whole_lines left) ≡ all
  counted_on calls more all e h =
      let split : calls_of (whole_lines rest) ≡ line_calls (take k rest) + calls_of (whole_lines left) = ap calls_of first in
      omega (arith, e, h, split)

  pub room_on : (calls more all : ℕ) → more ≤ 1 → calls + length rest ≤ all → calls + more + length left ≤ all
  room_on calls more all one h = rw behind (omega (arith, length-drop (k + 1) rest, one, h, lt))

  pub bad_on : (number : ℕ) (text : List ℕ) → is_some (entry_of (take k rest)) ≡ true → bad_from number (is_whole rest) (whole_lines rest) ≡ first_bad text
      → bad_from (number + 1) (is_whole left) (whole_lines left) ≡ first_bad text
  bad_on number text good bad =
      let ls : List (List ℕ) = whole_lines left in
      let same : is_whole left ≡ is_whole rest = ap is_whole behind ∙ sym (whole_at rest k at lt) in
      ap (λ w. bad_from (number + 1) w ls) same ∙ (sym (ap (bad_from number (is_whole rest)) first ∙ rw good refl) ∙ bad)

-- where there is no newline, there is no call more
pub all_counted : (calls all : ℕ) (rest : List ℕ) → reach 10 rest ≡ length rest → calls + calls_of (whole_lines rest) ≡ all → calls ≡ all
all_counted calls all rest e h =
    let none : calls_of (whole_lines rest) ≡ 0 = ap calls_of (no_line rest e) in
    omega (arith, h, none)

-- the first line is bad
pub refused : (rest : List ℕ) (k : ℕ) → k ≡ reach 10 rest → k < length rest → (number n : ℕ) (text : List ℕ)
    → bad_from number (is_whole rest) (whole_lines rest) ≡ first_bad text → (n ≡ number) × (entry_of (take k rest) ≡ None) → first_bad text ≡ Some n
refused rest k at lt number n text bad h = sym bad ∙ (rw (first_at rest k at lt, h.1) refl ∙ ap Some (sym h.0))
