use Rattle.script_text.specs.Spelling.{line_cut}
use Rattle.script_advice.specs.Doubts.{keeping, no_ahead}
use Rattle.script_advice.specs.Habits.{habits_of, no_habits}
use Rattle.script_advice.proofs.AheadLaws.{habits_step, kept_step}
use Rattle.script_advice.proofs.ahead.looked_back.Goals as goal

pub loop-front-preserved : goal.loop-front-preserved
loop-front-preserved c = record {
  kept = kept_step c.loop-front.kept.items c.note_line.new.kept.items c.loop-front.ahead c.note_line.new.ahead
      (line_cut c.loop-front.rest.now).0 (line_cut c.in-Some.front.now).0 c.in-Some.line.now (keeping no_ahead (line_cut c.args.text.now).0)
      c.loop-front.invariant.kept c.in-Some.ensures.some c.in_ok-note_line.ensures.ahead c.in_ok-note_line.ensures.kept;
  habits = habits_step c.loop-front.habits c.note_line.new.habits (line_cut c.loop-front.rest.now).0 (line_cut c.in-Some.front.now).0
      c.in-Some.line.now (habits_of no_habits (line_cut c.args.text.now).0) c.loop-front.invariant.habits c.in-Some.ensures.some
      c.in_ok-note_line.ensures.habits;
}
