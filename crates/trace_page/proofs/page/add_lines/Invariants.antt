use Rattle.std.proofs.Common.{◌≡◌, ◌≤◌, ◌+◌, ◌++◌, length}
use Rattle.trace_page.specs.Page.{after_lines, bad_from, first_bad, groups, is_whole, whole_lines}
use Rattle.trace_page.proofs.page.add_lines.Given as goal

abbrev pub invariant-loop-rest : goal.invariant-loop-rest
invariant-loop-rest l = record {
  told : after_lines l.scene (whole_lines l.rest) ≡ after_lines l.initial.scene (whole_lines l.text);
  drawn : l.out.items ++ groups l.scene (whole_lines l.rest) ≡ l.initial.out.items ++ groups l.initial.scene (whole_lines l.text);
  bad : bad_from l.number (is_whole l.rest) (whole_lines l.rest) ≡ first_bad l.text;
  room : l.number + length l.rest ≤ length l.text + 1;
}

abbrev pub decreases-loop-rest : goal.decreases-loop-rest
decreases-loop-rest l = length l.rest
