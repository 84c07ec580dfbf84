use Rattle.std.proofs.Common.{◌∙◌, ap}
use Rattle.script_lines.specs.Reading.{phrase_at}
use Rattle.script_text.specs.Spelling.{line_cut}
use Rattle.script_advice.specs.Doubts.{ahead_of, keeping, keeps, no_ahead}
use Rattle.script_advice.proofs.AheadLaws.{lines_are, walk_any, walk_told}
use Rattle.script_advice.proofs.doubts.add_doubts.Goals as goal

pub loop-line-preserved : goal.loop-line-preserved
loop-line-preserved c =
    let lines = (line_cut c.in-Some.after.now).0 in
    let e = lines_are (line_cut c.loop-line.rest.now) c.in-Some.line.now lines (line_cut c.in-Some.after.now).1 c.in-Some.ensures.some in
    let k = c.loop-line.invariant.kept ∙ ap (keeping no_ahead) e in
    let m = c.last_kept-keeps.ensures.last (keeping no_ahead lines) (keeps (ahead_of no_ahead lines) (phrase_at c.in-Some.line.now)) k in
    record {
      kept = c.last_kept-keeps.ensures.rest (keeping no_ahead lines) (keeps (ahead_of no_ahead lines) (phrase_at c.in-Some.line.now)) k;
      told = walk_told c.args.format c.in_ok-sets.sets c.loop-line.walk.way c.in_ok-walk.walk.way c.loop-line.walk.number
          c.in_ok-walk.walk.number c.loop-line.walk.left c.in_ok-walk.walk.left _ c.in-Some.line.now lines _ _ _ _ e m
          c.in_ok-walk.ensures.way c.in_ok-walk.ensures.number c.in_ok-walk.ensures.told c.loop-line.invariant.told;
      any = walk_any c.in_ok-sets.sets c.loop-line.walk.way c.in_ok-walk.walk.way c.loop-line.walk.number c.in_ok-walk.walk.number
          c.loop-line.walk.any c.in_ok-walk.walk.any _ c.in-Some.line.now lines _ _ e m c.in_ok-walk.ensures.way c.in_ok-walk.ensures.number
          c.in_ok-walk.ensures.any c.loop-line.invariant.any;
    }
