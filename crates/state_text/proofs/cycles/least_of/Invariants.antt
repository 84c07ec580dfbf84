use Rattle.snapshots.specs.Copies.{state_in}
use Rattle.state_text.proofs.Covering.{Least}
use Rattle.state_text.specs.Waiting.{next_of}
use Rattle.std.proofs.Common.{length}
use Rattle.state_text.proofs.cycles.least_of.Given as goal

abbrev pub invariant-loop-step : goal.invariant-loop-step
invariant-loop-step l = Least (next_of (state_in l.pod.state)) (length l.pod.state.threads) l.start l.step l.here l.least
