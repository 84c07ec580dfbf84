use Rattle.std.proofs.Common.{◌≡◌, ◌++◌, length}
use Rattle.script_text.specs.Spelling.{line_cut}
use Rattle.script_advice.specs.Advice.{named_lines}
use Rattle.script_advice.proofs.checking.add_named_lines.Given as goal

abbrev pub invariant-loop-line : goal.invariant-loop-line
invariant-loop-line l =
    l.out.items ++ named_lines l.name (line_cut l.rest).0
    ≡ l.initial.out.items ++ named_lines l.name (line_cut l.text).0

abbrev pub decreases-loop-line : goal.decreases-loop-line
decreases-loop-line l = length l.rest
