use Rattle.queue.proofs.Parts.{on_ok, three_parts}
use Rattle.queue.proofs.report.put_bar.Goals as goal
use Rattle.queue.specs.Report.{product}
use Rattle.std.proofs.Common.{[], ap, ◌++◌, ◌∙◌, ◌∷◌}
use Rattle.std.specs.Prelude.{codes, decimal}

pub returns : goal.returns
returns c =
    on_ok c.put.result (three_parts c.args.out.now.items c.put_count.new.out.items c.put_count-2.new.out.items c.put.new.out.items
    (codes "waited from " ++ decimal (product c.args.bar c.args.width)) (codes ": " ++ decimal c.args.n) (10 ∷ [])
    (c.in_ok-put_count.ensures ∙ ap (λ n. c.args.out.now.items ++ (codes "waited from " ++ decimal n)) c.product.ensures)
    c.in_ok-put_count-2.ensures) c.put.ensures
