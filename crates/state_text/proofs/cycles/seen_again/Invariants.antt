use Rattle.snapshots.specs.Copies.{state_in}
use Rattle.state_text.proofs.Covering.{Following}
use Rattle.state_text.specs.Waiting.{next_of}
use Rattle.std.proofs.Common.{length}
use Rattle.state_text.proofs.cycles.seen_again.Given as goal

abbrev pub invariant-loop-step : goal.invariant-loop-step
invariant-loop-step l = Following (next_of (state_in l.pod.state)) (length l.pod.state.threads) l.tables.threads l.initial.colours.items
    l.colours.items l.colour l.fn.start l.here
