use Rattle.state_text.specs.Text.{cycle_line}
use Rattle.std.proofs.Common.{drop, ◌++◌, ◌≡◌}
use Rattle.std.specs.List.{flat_map}
use Rattle.state_text.proofs.cycles.add_each.Given as goal

abbrev pub invariant-loop-i : goal.invariant-loop-i
invariant-loop-i l = l.out.items ++ flat_map cycle_line (drop l.i l.found) ≡ l.initial.out.items ++ flat_map cycle_line l.found
