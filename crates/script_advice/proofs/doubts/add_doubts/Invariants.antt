use Rattle.std.proofs.Common.{◌≡◌, ◌++◌, length, take}
use Rattle.std.specs.Prelude.{◌||◌}
use Rattle.script_text.specs.Spelling.{line_cut}
use Rattle.script_advice.specs.Doubts.{are_some, doubts, doubts_from, keeping, no_ahead}
use Rattle.script_advice.specs.Texts.{remarks_text}
use Rattle.script_advice.proofs.doubts.add_doubts.Given as goal

abbrev pub invariant-loop-line : goal.invariant-loop-line
invariant-loop-line l = record {
  kept : l.kept.items ≡ keeping no_ahead (line_cut l.rest).0;
  told : l.out.items ++ remarks_text l.format (take l.walk.left (doubts_from l.sets l.walk.way l.walk.number (line_cut l.rest).0))
      ≡ l.initial.out.items ++ remarks_text l.format (take 1000 (doubts l.text));
  any : (l.walk.any || are_some (doubts_from l.sets l.walk.way l.walk.number (line_cut l.rest).0)) ≡ are_some (doubts l.text);
}

abbrev pub decreases-loop-line : goal.decreases-loop-line
decreases-loop-line l = length l.rest
