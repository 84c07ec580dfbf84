-- What a sink that keeps the first bytes is seen as.
use Rattle.std.specs.Prelude.{ℕ, List}

-- how many it keeps, the bytes that it has taken, and how often it failed
pub record Fronting : Type 0 where
  pub room : ℕ
  pub bytes : List ℕ
  pub faults : ℕ
