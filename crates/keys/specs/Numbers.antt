-- Values as numbers, one after another.
use Rattle.std.specs.Prelude.{Bool, List, None, Option, Some, [], cond, if◌then◌else◌, length, ℕ, ◌+◌, ◌++◌, ◌==◌, ◌∷◌, ◌≡◌}
use Rattle.std.specs.List.{flat_map}

-- the law of a type: numbers that begin with those of one value begin with those of no other, and what follows is told apart too
abbrev pub IsCode : {A : Type 0} → (A → Type 0) → (A → List ℕ) → Type 0
IsCode {A} is_value code = (a b : A) (more others : List ℕ) → is_value a → is_value b → code a ++ more ≡ code b ++ others → (a ≡ b) × (more ≡ others)

-- no condition on a value
abbrev pub Always : {A : Type 0} → A → Type 0
Always x = Unit {0}

-- the numbers of values tell all of them apart
pub record TellsApart {A : Type 0} (code : A → List ℕ) : Type 0 where
  pub apart : IsCode Always code

-- a number as itself
abbrev pub alone : ℕ → List ℕ
alone n = n ∷ []

-- a number that is small, or the greatest of a machine word: that one is 0, and any other one more
abbrev pub turned : ℕ → ℕ
turned n = if n == 18446744073709551615 then 0 else n + 1

-- true is 1
abbrev pub bit : Bool → ℕ
bit b = cond b 1 0

-- how many numbers there are, and each of them: the bytes of a text, say
abbrev pub counted : List ℕ → List ℕ
counted ns = length ns ∷ ns

-- how many values there are, and the numbers of each
abbrev pub list_numbers : {A : Type 0} → (A → List ℕ) → List A → List ℕ
list_numbers code xs = length xs ∷ flat_map code xs

-- whether there is one, and its numbers
abbrev pub option_numbers : {A : Type 0} → (A → List ℕ) → Option A → List ℕ
option_numbers code None = 0 ∷ []
option_numbers code (Some x) = 1 ∷ code x

-- the numbers of both
abbrev pub pair_numbers : {A B : Type 0} → (A → List ℕ) → (B → List ℕ) → A × B → List ℕ
pair_numbers code_a code_b p = code_a p.0 ++ code_b p.1
