use Rattle.std.proofs.Common.{◌≡◌, drop}
use Rattle.script_text.specs.Spelling.{line_cut}
use Rattle.script_advice.proofs.lines.behind_lines.Given as goal

abbrev pub invariant-loop-left : goal.invariant-loop-left
invariant-loop-left l = record {
  lines : drop l.left (line_cut l.rest).0 ≡ drop l.count (line_cut l.text).0;
  tail : (line_cut l.rest).1 ≡ (line_cut l.text).1;
}

abbrev pub decreases-loop-left : goal.decreases-loop-left
decreases-loop-left l = l.left
