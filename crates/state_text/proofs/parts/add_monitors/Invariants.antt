use Rattle.snapshots.specs.Copies.{state_in}
use Rattle.state_text.specs.Text.{monitor_lines}
use Rattle.std.proofs.Common.{drop, ◌++◌, ◌≡◌}
use Rattle.std.specs.List.{flat_map}
use Rattle.state_text.proofs.parts.add_monitors.Given as goal

abbrev pub invariant-loop-i : goal.invariant-loop-i
invariant-loop-i l = l.out.items ++ flat_map (monitor_lines (state_in l.pod.state)) (drop l.i l.pod.state.monitors)
    ≡ l.initial.out.items ++ flat_map (monitor_lines (state_in l.pod.state)) l.pod.state.monitors
