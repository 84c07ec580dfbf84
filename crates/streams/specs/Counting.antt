-- What a sink that counts is seen as.
use Rattle.std.specs.Prelude.{ℕ, List}

-- the bytes that it has taken, which it doesn't keep, and how often it failed
pub record Counting : Type 0 where
  pub bytes : List ℕ
  pub faults : ℕ
