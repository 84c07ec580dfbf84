use Rattle.snapshots.specs.Copies.{state_in}
use Rattle.state_text.proofs.Covering.{Found}
use Rattle.state_text.specs.Waiting.{next_of}
use Rattle.std.proofs.Common.{length}
use Rattle.state_text.proofs.cycles.least_threads.Given as goal

abbrev pub invariant-loop-i : goal.invariant-loop-i
invariant-loop-i l = Found (next_of (state_in l.pod.state)) (length l.pod.state.threads) l.tables.threads l.i l.colours.items l.found.items
