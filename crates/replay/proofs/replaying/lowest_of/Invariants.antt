use Rattle.std.proofs.Common.{None, ℕ, ◌<◌, ◌≡◌}
use Rattle.replay.specs.Next.{take_in}
use Rattle.replay.proofs.replaying.lowest_of.Given as goal

abbrev pub invariant-loop-client : goal.invariant-loop-client
invariant-loop-client g l = (k : ℕ) → k < l.client → take_in (g.C.Posted.lines l.lines) l.ticks l.event k ≡ None
