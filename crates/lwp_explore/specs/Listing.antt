-- Of some numbers, each where it comes first, and how often it comes.
use Rattle.lwp_explore.specs.declared.listing.Listed.{Listed}
use Rattle.std.specs.List.{count_by, filter}
use Rattle.std.specs.Option.{option_map_or}
use Rattle.std.specs.Prelude.{Bool, List, None, Option, Some, [], false, if◌then◌else◌, map, not, suc, ℕ, ◌==◌, ◌∷◌}

abbrev pub has_number : ℕ → Option ℕ → Bool
has_number n o = option_map_or (λ m. m == n) o false

-- the numbers, each where it comes first
abbrev pub numbers_in : List (Option ℕ) → List ℕ
numbers_in [] = []
numbers_in (None ∷ os) = numbers_in os
numbers_in (Some n ∷ os) = n ∷ filter (λ m. not (m == n)) (numbers_in os)

-- where a number comes first, or the length
abbrev pub first_place : ℕ → List (Option ℕ) → ℕ
first_place n [] = 0
first_place n (o ∷ os) = if has_number n o then 0 else suc (first_place n os)

-- where a number comes first, and how often it comes
abbrev pub listed_in : List (Option ℕ) → ℕ → Listed
listed_in os n = record { number = n; first = first_place n os; cores = count_by (has_number n) os }

-- so of each number
abbrev pub listing : List (Option ℕ) → List Listed
listing os = map (listed_in os) (numbers_in os)
