use Rattle.std.proofs.Common.{◌≡◌, ◌++◌, length}
use Rattle.script_text.specs.Spelling.{line_cut}
use Rattle.script_advice.specs.Doubts.{keeping, no_ahead}
use Rattle.script_advice.specs.Habits.{habits_of, no_habits}
use Rattle.script_advice.proofs.ahead.looked_back.Given as goal

abbrev pub invariant-loop-front : goal.invariant-loop-front
invariant-loop-front l = record {
  kept : l.kept.items ++ keeping l.ahead (line_cut l.rest).0 ≡ keeping no_ahead (line_cut l.text).0;
  habits : habits_of l.habits (line_cut l.rest).0 ≡ habits_of no_habits (line_cut l.text).0;
}

abbrev pub decreases-loop-front : goal.decreases-loop-front
decreases-loop-front l = length l.rest
