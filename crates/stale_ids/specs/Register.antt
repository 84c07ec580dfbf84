-- The registry in plain lists, and the one that each call leaves.
use Rattle.std.specs.List.{AllByRecursion, filter, find}
use Rattle.std.specs.Prelude.{Bool, List, Option, [], if◌then◌else◌, map, max, not, option_map, ℕ, ◌++◌, ◌+◌, ◌<◌, ◌==◌, ◌∷◌}

-- all that a registry holds
pub record Register (T : Type 0) : Type 0 where
  -- who lives: each number with its value, the oldest first
  pub live : List (ℕ × T)
  -- how many were born so far, which is the next one's number
  pub births : ℕ
  -- how many may ever be born
  pub limit : ℕ
  -- how many can live at once without asking for memory
  pub places : ℕ

module _ {T : Type 0} where
  -- the pair is that of number n
  abbrev pub is_of : ℕ → ℕ × T → Bool
  is_of n p = p.0 == n

  -- what lives under n
  abbrev pub value_of : ℕ → List (ℕ × T) → Option T
  value_of n live = option_map (λ p. p.1) (find (is_of n) live)

  -- all but n
  abbrev pub without : ℕ → List (ℕ × T) → List (ℕ × T)
  without n live = filter (λ p. not (is_of n p)) live

  -- a pair, with another value where it is that of n
  abbrev pub pair_with_value : ℕ → T → ℕ × T → ℕ × T
  pair_with_value n value p = (p.0, if is_of n p then value else p.1)

  -- the value under n becomes another
  abbrev pub with_value : ℕ → T → List (ℕ × T) → List (ℕ × T)
  with_value n value live = map (pair_with_value n value) live

  abbrev pub numbers : List (ℕ × T) → List ℕ
  numbers live = map (λ p. p.0) live

  -- each was born before those after it
  abbrev pub AreRising : List (ℕ × T) → Type 0
  AreRising [] = Unit {0}
  AreRising (p ∷ live) = AllByRecursion (λ q. p.0 < q.0) live × AreRising live

  -- each number was given by one of so many births
  abbrev pub AreBorn : ℕ → List (ℕ × T) → Type 0
  AreBorn births live = AllByRecursion (λ p. p.0 < births) live

  -- what a new registry holds
  abbrev pub empty_register : ℕ → Register T
  empty_register limit = record { live = []; births = 0; limit = limit; places = 0 }

  -- there are n places at least
  abbrev pub after_reserve : Register T → ℕ → Register T
  after_reserve r n = record r { places = max r.places n }

  -- the value is born
  abbrev pub after_insert : Register T → T → Register T
  after_insert r value = record r { live = r.live ++ (r.births, value) ∷ []; births = r.births + 1 }

  -- what lived under n goes
  abbrev pub after_remove : Register T → ℕ → Register T
  after_remove r n = record r { live = without n r.live }

  -- what lives under n becomes another value
  abbrev pub after_write : Register T → ℕ → T → Register T
  after_write r n value = record r { live = with_value n value r.live }
