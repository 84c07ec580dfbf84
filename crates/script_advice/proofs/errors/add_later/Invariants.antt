use Rattle.std.proofs.Common.{◌≡◌, ◌++◌, length, take}
use Rattle.script_text.specs.Spelling.{line_cut}
use Rattle.script_advice.specs.Errors.{later}
use Rattle.script_advice.specs.Texts.{remarks_text}
use Rattle.script_advice.proofs.errors.add_later.Given as goal

abbrev pub invariant-loop-line : goal.invariant-loop-line
invariant-loop-line l =
    l.out.items ++ remarks_text l.format (take l.left (later l.known l.told l.number (line_cut l.rest).0 (line_cut l.rest).1))
    ≡ l.initial.out.items ++ remarks_text l.format (take l.most (later l.known l.initial.told l.first (line_cut l.text).0 (line_cut l.text).1))

abbrev pub decreases-loop-line : goal.decreases-loop-line
decreases-loop-line l = length l.rest
