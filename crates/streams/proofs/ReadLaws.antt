-- What was read of a source.
use Rattle.lwp_types.specs.Streams.{Reads}
use Rattle.std.proofs.Common.{List, None, Option, Some, [], ap, append-nil, append_assoc, arith, drop, length, refl, sym, ℕ, ◌++◌, ◌<◌, ◌∙◌, ◌∷◌, ◌≡◌}
use Rattle.std.proofs.lemmas.List.{take-append-drop}
use Rattle.streams.specs.Reading.{HasRead, ReadSoFar}

empty_list : (xs : List ℕ) → (0 < length xs → 0 < 0) → xs ≡ []
empty_list [] h = refl
empty_list (x ∷ xs) h = let no : 0 < 0 = h (omega arith) in absurd (omega arith)

-- nothing is read before the first read
pub so_far-none : (left : Option (List ℕ)) → ReadSoFar left left []
so_far-none None = refl
so_far-none (Some told) = (told, refl, refl)

-- one more read
pub so_far-more : (left now after : Option (List ℕ)) (bytes got : List ℕ) (n : ℕ) → ReadSoFar left now bytes → Reads now after got n
    → ReadSoFar left after (bytes ++ got)
so_far-more None None after bytes got n h r = r
so_far-more None (Some rest) after bytes got n h r = let no : Some rest ≡ None = h in absurd (cc)
so_far-more (Some told) None after bytes got n h r = let no : None ≡ Some h.0 = h.1 in absurd (cc)
so_far-more (Some told) (Some rest) after bytes got n h r =
    let same : rest ≡ h.0 = (let e : Some rest ≡ Some h.0 = h.1 in cc) in
    let all : got ++ drop n rest ≡ rest = ap (λ xs. xs ++ drop n rest) r.0 ∙ take-append-drop n rest in
    (drop n rest, r.1, h.2 ∙ ap (λ xs. bytes ++ xs) (sym same ∙ sym all) ∙ sym (append_assoc bytes got (drop n rest)))

-- no more is there
pub read_end : (left now after : Option (List ℕ)) (bytes got : List ℕ) (n : ℕ) → ReadSoFar left now bytes → Reads now after got n → n ≡ 0
    → HasRead left after bytes
read_end None None after bytes got n h r none = r
read_end None (Some rest) after bytes got n h r none = let no : Some rest ≡ None = h in absurd (cc)
read_end (Some told) None after bytes got n h r none = let no : None ≡ Some h.0 = h.1 in absurd (cc)
read_end (Some told) (Some rest) after bytes got n h r none =
    let same : rest ≡ h.0 = (let e : Some rest ≡ Some h.0 = h.1 in cc) in
    let over : rest ≡ [] = empty_list rest (λ some. let more : 0 < n = r.3 some in omega arith) in
    let all : told ≡ bytes = h.2 ∙ ap (λ xs. bytes ++ xs) (sym same ∙ over) ∙ append-nil bytes in
    (all, r.1 ∙ ap (λ xs. Some xs) (ap (drop n) over ∙ ap (λ k. drop k []) none))
