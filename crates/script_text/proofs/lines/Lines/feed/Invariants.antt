use Rattle.std.proofs.Common.{◌≡◌, ◌++◌, fold, length}
use Rattle.script_text.specs.Pieces.{IsTail}
use Rattle.script_text.specs.Spelling.{line_cut}
use Rattle.script_text.specs.Track.{step}
use Rattle.script_text.proofs.lines.Lines.feed.Given as goal

abbrev pub invariant-loop-line : goal.invariant-loop-line
invariant-loop-line l = IsTail l.initial.self.tail.items
    → IsTail l.self.tail.items
    × (fold step l.self.reader (line_cut (l.self.tail.items ++ l.rest)).0 ≡ fold step l.initial.self.reader (line_cut (l.initial.self.tail.items ++ l.piece)).0)
    × ((line_cut (l.self.tail.items ++ l.rest)).1 ≡ (line_cut (l.initial.self.tail.items ++ l.piece)).1)

abbrev pub decreases-loop-line : goal.decreases-loop-line
decreases-loop-line l = length l.rest
