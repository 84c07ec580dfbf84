use Rattle.state_text.specs.Text.{mark_line}
use Rattle.std.proofs.Common.{drop, ◌++◌, ◌≡◌}
use Rattle.std.specs.List.{flat_map}
use Rattle.state_text.proofs.threads.add_marks.Given as goal

abbrev pub invariant-loop-i : goal.invariant-loop-i
invariant-loop-i l = l.out.items ++ flat_map mark_line (drop l.i l.marks) ≡ l.initial.out.items ++ flat_map mark_line (drop 1 l.marks)
