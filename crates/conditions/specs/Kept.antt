-- What `Conds` keeps of its fields. No public clause cites this module.
use Rattle.lwp_types.specs.declared.rows.CondRow.{CondRow}
use Rattle.std.specs.List.{AllByRecursion}
use Rattle.std.specs.Prelude.{List, [], length, slice_index_or, ℕ, ◌<◌, ◌∷◌, ◌≡◌}

-- each number is greater than those before it
abbrev pub AreRising : List CondRow → Type 0
AreRising [] = Unit {0}
AreRising (row ∷ rows) = AllByRecursion (λ later. row.number < later.number) rows × AreRising rows

-- the row of condition c stands there
pub record IsAt (c : ℕ) (rows : List CondRow) (i : ℕ) : Type 0 where
  pub within : i < length rows
  pub here : (d : CondRow) → (slice_index_or rows i d).number ≡ c

-- conditions stand in birth order
pub record IsKept (rows : List CondRow) (births : ℕ) : Type 0 where
  pub rising : AreRising rows
  pub born : AllByRecursion (λ row. row.number < births) rows
