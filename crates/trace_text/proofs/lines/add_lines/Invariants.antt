use Rattle.std.proofs.Common.{◌≡◌, ◌≤◌, ◌++◌, drop, length, take}
use Rattle.std.specs.Prelude.{option_copied}
use Rattle.trace_text.specs.Lines.{step_lines}
use Rattle.trace_text.proofs.lines.add_lines.Given as goal

abbrev pub invariant-loop-i : goal.invariant-loop-i
invariant-loop-i l = (take l.end l.row.items ++ step_lines l.names (option_copied l.left) (drop l.i l.effects)
    ≡ take l.at l.initial.row.items ++ step_lines l.names (option_copied l.initial.left) l.effects)
    × (l.end ≤ length l.row.items)
