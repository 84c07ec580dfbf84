use Rattle.snapshots.specs.Copies.{state_in}
use Rattle.state_text.proofs.Telling.{cycles_from}
use Rattle.std.proofs.Common.{drop, ◌++◌, ◌≡◌}
use Rattle.state_text.proofs.cycles.cycles_in.Given as goal

abbrev pub invariant-loop-row : goal.invariant-loop-row
invariant-loop-row l = l.found ++ cycles_from (state_in l.pod.state) (drop l.row-index l.pod.state.threads)
    ≡ cycles_from (state_in l.pod.state) l.pod.state.threads
