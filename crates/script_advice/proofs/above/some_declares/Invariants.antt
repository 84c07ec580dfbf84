use Rattle.std.proofs.Common.{◌≡◌, take}
use Rattle.std.specs.List.{list_any}
use Rattle.script_text.specs.Spelling.{line_cut}
use Rattle.script_advice.specs.Above.{declares_same}
use Rattle.script_advice.proofs.above.some_declares.Given as goal

abbrev pub invariant-loop-left : goal.invariant-loop-left
invariant-loop-left l =
    list_any (λ line. declares_same l.reason l.phrase line) (take l.left (line_cut l.rest).0)
    ≡ list_any (λ line. declares_same l.reason l.phrase line) (take l.count (line_cut l.text).0)

abbrev pub decreases-loop-left : goal.decreases-loop-left
decreases-loop-left l = l.left
