-- Lines of a text, byte by byte.
use Rattle.lwp_explore.specs.Lines.{has_line_by}
use Rattle.std.proofs.Common.{List, [], ap, arith, drop, false, get_or, length, refl, slice_range, suc, sym, take, true, zero, ℕ, ◌++◌, ◌+◌, ◌<◌, ◌∙◌, ◌∷◌, ◌≡◌, ◌≤◌}
use Rattle.std.proofs.lemmas.Bool.{ne_eqb}
use Rattle.std.specs.Prelude.{bytes_eq, if◌then◌else◌, ◌-◌, ◌||◌}

drop_is : (xs : List ℕ) (n : ℕ) → n < length xs → drop n xs ≡ get_or xs n 0 ∷ drop (suc n) xs
drop_is [] n low = absurd (omega (arith, low))
drop_is (x ∷ xs) zero low = refl
drop_is (x ∷ xs) (suc n) low = drop_is xs n (omega (arith, low))

take_more : (xs : List ℕ) (n : ℕ) → n < length xs → take (suc n) xs ≡ take n xs ++ get_or xs n 0 ∷ []
take_more [] n low = absurd (omega (arith, low))
take_more (x ∷ xs) zero low = refl
take_more (x ∷ xs) (suc n) low = ap (λ l. x ∷ l) (take_more xs n (omega (arith, low)))

get_drop : (xs : List ℕ) (a n : ℕ) → get_or (drop a xs) n 0 ≡ get_or xs (a + n) 0
get_drop xs zero n = let same : n ≡ 0 + n = omega arith in ap (λ k. get_or xs k 0) same
get_drop [] (suc a) n = refl
get_drop (x ∷ xs) (suc a) n = let same : suc (a + n) ≡ suc a + n = omega arith in get_drop xs a n ∙ ap (λ k. get_or (x ∷ xs) k 0) same

left_of : (xs : List ℕ) (a n : ℕ) → a + n < length xs → n < length (drop a xs)
left_of xs zero n low = omega (arith, low)
left_of [] (suc a) n low = absurd (omega (arith, low))
left_of (x ∷ xs) (suc a) n low = left_of xs a n (omega (arith, low))

module _ (text line : List ℕ) (start place : ℕ) (from : start ≤ place) (low : place < length text) where
  more : slice_range text start (place + 1) ≡ slice_range text start place ++ get_or text place 0 ∷ []
  more = let on : place + 1 - start ≡ suc (place - start) = omega (arith, from) in
      let at : start + (place - start) ≡ place = omega (arith, from) in
      ap (λ n. take n (drop start text)) on ∙ take_more (drop start text) (place - start) (left_of text start (place - start) (omega (arith, at, low)))
      ∙ ap (λ b. slice_range text start place ++ b ∷ []) (get_drop text start (place - start) ∙ ap (λ k. get_or text k 0) at)

  rest : drop place text ≡ get_or text place 0 ∷ drop (place + 1) text
  rest = let on : suc place ≡ place + 1 = omega arith in drop_is text place low ∙ ap (λ n. get_or text place 0 ∷ drop n text) on

  -- a line ends that is another
  pub line_ends : get_or text place 0 ≡ 10 → bytes_eq (slice_range text start place) line ≡ false
      → has_line_by (slice_range text start place) (drop place text) line ≡ has_line_by (slice_range text (place + 1) (place + 1)) (drop (place + 1) text) line
  line_ends is other =
      let held = slice_range text start place in
      let none : 0 ≡ place + 1 - (place + 1) = omega arith in
      ap (λ bs. has_line_by held bs line) (rest ∙ ap (λ b. b ∷ drop (place + 1) text) is)
      ∙ ap (λ t. t || has_line_by [] (drop (place + 1) text) line) other
      ∙ ap (λ n. has_line_by (take n (drop (place + 1) text)) (drop (place + 1) text) line) none

  -- a line goes on
  pub line_goes_on : (get_or text place 0 ≡ 10 → ⊥)
      → has_line_by (slice_range text start place) (drop place text) line ≡ has_line_by (slice_range text start (place + 1)) (drop (place + 1) text) line
  line_goes_on other =
      let held = slice_range text start place in
      let b = get_or text place 0 in
      ap (λ bs. has_line_by held bs line) rest
      ∙ ap (λ t. if t then bytes_eq held line || has_line_by [] (drop (place + 1) text) line else has_line_by (held ++ b ∷ []) (drop (place + 1) text) line)
      (ne_eqb b 10 other)
      ∙ ap (λ h. has_line_by h (drop (place + 1) text) line) (sym more)

  -- it is this one
  pub line_found : get_or text place 0 ≡ 10 → bytes_eq (slice_range text start place) line ≡ true
      → has_line_by (slice_range text start place) (drop place text) line ≡ true
  line_found is same =
      let held = slice_range text start place in
      ap (λ bs. has_line_by held bs line) (rest ∙ ap (λ b. b ∷ drop (place + 1) text) is)
      ∙ ap (λ t. t || has_line_by [] (drop (place + 1) text) line) same
