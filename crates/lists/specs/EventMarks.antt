-- Marks of events as the bits of a word.
use Rattle.std.specs.Int.{bit_at}
use Rattle.std.specs.Prelude.{Bool, ℕ, ◌==◌}

-- the event is marked: its bit is set
abbrev pub is_marked : ℕ → ℕ → Bool
is_marked word e = bit_at word e == 1
