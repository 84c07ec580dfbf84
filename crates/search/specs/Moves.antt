-- What a machine can do, and where that leads.
use Rattle.std.specs.Prelude.{Bool, List, Option, Some, [], option_and_then, slice_get, ℕ, ◌∷◌, ◌≡◌}

-- where a machine begins, where the steps from each core lead, in order, the bytes that encode a core, a core's
-- kind if it has one, and which steps from a core are looked for
pub record Moves (C : Type 0) : Type 0 where
  pub first : C
  pub after : C → List C
  pub key : C → List ℕ
  pub kind : C → Option ℕ
  pub marks : C → ℕ → Bool

-- where the steps of these numbers lead from a core, if there are such steps
abbrev pub walk : {C : Type 0} → (C → List C) → C → List ℕ → Option C
walk after from [] = Some from
walk after from (s ∷ ss) = option_and_then (λ to. walk after to ss) (slice_get (after from) s)

-- these steps lead from the first core to this one
abbrev pub IsPath : {C : Type 0} → Moves C → List ℕ → C → Type 0
IsPath moves path core = walk moves.after moves.first path ≡ Some core

-- some steps do
abbrev pub IsReachable : {C : Type 0} → Moves C → C → Type 0
IsReachable moves core = (path : List ℕ) × IsPath moves path core

-- two cores with the same bytes are one, if steps lead to both
abbrev pub KeysDiffer : {C : Type 0} → Moves C → Type 0
KeysDiffer {C} moves = (a b : C) → IsReachable moves a → IsReachable moves b → moves.key a ≡ moves.key b → a ≡ b
