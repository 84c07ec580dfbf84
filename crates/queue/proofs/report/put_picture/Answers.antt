use Rattle.queue.proofs.Parts.{on_ok, three_parts}
use Rattle.queue.proofs.report.put_picture.Goals as goal
use Rattle.queue.specs.Report.{highest, rect_lines}
use Rattle.std.proofs.Common.{[], ap, ◌++◌, ◌∙◌, ◌∷◌}
use Rattle.std.specs.Prelude.{codes}

pub returns : goal.returns
returns c =
    let bars = c.args.tally.now.bars in
    on_ok c.put-2.result (three_parts c.args.out.now.items c.put.new.out.items c.put_rects.new.out.items c.put-2.new.out.items
    (codes "<svg xmlns=\"http://www.w3.org/2000/svg\" width=\"640\" height=\"200\">" ++ 10 ∷ []) (rect_lines (highest bars) 0 bars)
    (codes "</svg>" ++ 10 ∷ []) c.in_ok-put.ensures
    (c.in_ok-put_rects.ensures ∙ ap (λ most. c.put.new.out.items ++ rect_lines most 0 bars) c.highest.ensures.value)) c.put-2.ensures
