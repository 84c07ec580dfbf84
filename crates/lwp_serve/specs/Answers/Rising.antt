-- How agents are kept. No public clause cites this module.
use Rattle.std.specs.List.{AllByRecursion}
use Rattle.std.specs.Prelude.{List, [], ℕ, ◌<◌, ◌∷◌}

-- each number is less than those after it
abbrev pub AreRising : List ℕ → Type 0
AreRising [] = Unit {0}
AreRising (n ∷ ns) = AllByRecursion (λ later. n < later) ns × AreRising ns
