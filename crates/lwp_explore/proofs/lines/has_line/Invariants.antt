use Rattle.lwp_explore.proofs.lines.has_line.Given as goal
use Rattle.lwp_explore.specs.Lines.{has_line, has_line_by}
use Rattle.std.proofs.Common.{drop, slice_range, ◌≡◌, ◌≤◌}

abbrev pub invariant-loop-place : goal.invariant-loop-place
invariant-loop-place l = (l.start ≤ l.place) × (has_line l.text l.line ≡ has_line_by (slice_range l.text l.start l.place) (drop l.place l.text) l.line)
