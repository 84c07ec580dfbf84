use Rattle.std.proofs.Common.{◌≡◌, ◌∷◌, ◌++◌, [], fold, length}
use Rattle.script_text.specs.Spelling.{line_cut}
use Rattle.script_advice.specs.Errors.{declared_after, declared_by}
use Rattle.script_advice.proofs.known.Known.by.Given as goal

abbrev pub invariant-loop-line : goal.invariant-loop-line
invariant-loop-line l = fold declared_after l.known ((line_cut l.rest).0 ++ (line_cut l.rest).1 ∷ []) ≡ declared_by l.text

abbrev pub decreases-loop-line : goal.decreases-loop-line
decreases-loop-line l = length l.rest
