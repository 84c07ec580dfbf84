-- Numbers that look random: each is drawn from a state of 64 bits, which goes on before every draw.
use Rattle.std.specs.Prelude.{ℕ, ◌+◌, ◌*◌, ◌/◌, ◌%◌, ◌^◌}

-- the next state
abbrev pub next : ℕ → ℕ
next x = (x * 6364136223846793005 + 1442695040888963407) % 2 ^ 64

-- what is drawn from the numbers below n, at the state that has just been reached
abbrev pub draw_below : ℕ → ℕ → ℕ
draw_below n x = x / 2 ^ 33 % n
