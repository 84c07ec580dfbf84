use Rattle.std.proofs.Common.{◌≡◌, fold, length}
use Rattle.script_text.specs.Spelling.{line_cut}
use Rattle.script_advice.specs.Doubts.{no_sets, sets_on}
use Rattle.script_advice.proofs.sets.Sets.by.Given as goal

abbrev pub invariant-loop-line : goal.invariant-loop-line
invariant-loop-line l = fold sets_on l.sets (line_cut l.rest).0 ≡ fold sets_on (no_sets l.fn.habits) (line_cut l.text).0

abbrev pub decreases-loop-line : goal.decreases-loop-line
decreases-loop-line l = length l.rest
