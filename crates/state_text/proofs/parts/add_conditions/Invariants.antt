use Rattle.snapshots.specs.Copies.{state_in}
use Rattle.state_text.specs.Text.{condition_lines}
use Rattle.std.proofs.Common.{drop, ◌++◌, ◌≡◌}
use Rattle.std.specs.List.{flat_map}
use Rattle.state_text.proofs.parts.add_conditions.Given as goal

abbrev pub invariant-loop-row : goal.invariant-loop-row
invariant-loop-row l = l.out.items ++ flat_map (condition_lines (state_in l.pod.state)) (drop l.row-index l.pod.state.conditions)
    ≡ l.initial.out.items ++ flat_map (condition_lines (state_in l.pod.state)) l.pod.state.conditions
