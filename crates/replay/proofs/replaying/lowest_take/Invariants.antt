use Rattle.std.proofs.Common.{None, ℕ, ◌<◌, ◌≡◌}
use Rattle.pod_runner.specs.Run.{session_of}
use Rattle.replay.specs.Next.{take_at}
use Rattle.replay.proofs.replaying.lowest_take.Given as goal

abbrev pub invariant-loop-event : goal.invariant-loop-event
invariant-loop-event g l = (k : ℕ) → k < l.event → take_at (g.C.Posted.lines l.lines) (session_of g.B.Body.next g.P.Program.bodies l.run).live.pod k ≡ None
