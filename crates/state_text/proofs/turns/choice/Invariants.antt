use Rattle.lwp_types.specs.Choice.{better_by, choice}
use Rattle.lwp_types.specs.State.{priority_in}
use Rattle.snapshots.specs.Copies.{state_in}
use Rattle.std.proofs.Common.{drop, ◌≡◌}
use Rattle.std.specs.List.{fold}
use Rattle.state_text.proofs.turns.choice.Given as goal

abbrev pub invariant-loop-i : goal.invariant-loop-i
invariant-loop-i l = fold (better_by (priority_in (state_in l.pod.state))) l.best (drop l.i l.pod.state.order) ≡ choice (state_in l.pod.state)
