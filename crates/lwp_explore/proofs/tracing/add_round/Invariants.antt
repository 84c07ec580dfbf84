use Rattle.lwp_explore.proofs.TracingLaws.{Rounding}
use Rattle.std.proofs.Common.{length, ◌-◌}
use Rattle.lwp_explore.proofs.tracing.add_round.Given as goal

abbrev pub invariant-loop-calls : goal.invariant-loop-calls
invariant-loop-calls l = Rounding l.nexts l.start l.calls l.here l.initial.path.items l.path.items

abbrev pub decreases-loop-calls : goal.decreases-loop-calls
decreases-loop-calls l = length l.nexts - l.calls
