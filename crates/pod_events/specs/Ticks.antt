-- Ticks that move the clock and nothing else.
use Rattle.lwp_types.specs.State.{State}
use Rattle.std.specs.List.{fold}
use Rattle.std.specs.Prelude.{min, ℕ, ◌+◌}

-- the tick at which the first timer falls due; without one, the greatest u64
abbrev pub next_due : State → ℕ
next_due s = fold (λ n row. min n row.due) 18446744073709551615 s.timers

-- so many ticks are over
abbrev pub after_ticks : ℕ → State → State
after_ticks n s = record s { now = s.now + n }
