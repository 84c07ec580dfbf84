use Rattle.std.proofs.Common.{◌≡◌, ℕ}
use Rattle.pod_runner.specs.RunParts.{live_of}
use Rattle.pod_runner.specs.Virtual.{caught_up, ticks_left}
use Rattle.pod_runner.proofs.parts.RunParts.catch_up.Given as goal

abbrev pub invariant-loop-self : goal.invariant-loop-self
invariant-loop-self g l = (calls : ℕ)
    → caught_up (g.P.Program.bodies l.program) calls (live_of l.initial.self) ≡ caught_up (g.P.Program.bodies l.program) calls (live_of l.self)

abbrev pub decreases-loop-self : goal.decreases-loop-self
decreases-loop-self g l = ticks_left (live_of l.self)
