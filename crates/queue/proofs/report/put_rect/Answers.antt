use Rattle.queue.proofs.Parts.{four_parts, on_ok}
use Rattle.queue.proofs.report.put_rect.Goals as goal
use Rattle.queue.specs.Report.{drawn, product}
use Rattle.std.proofs.Common.{[], ap, ◌++◌, ◌-◌, ◌∙◌, ◌∷◌}
use Rattle.std.specs.Prelude.{codes, decimal}

pub returns : goal.returns
returns c =
    let height = drawn c.args.most c.args.n in
    on_ok c.put.result (four_parts c.args.out.now.items c.put_count.new.out.items c.put_count-2.new.out.items c.put_count-3.new.out.items
    c.put.new.out.items (codes "<rect x=\"" ++ decimal (product c.args.bar 20)) (codes "\" y=\"" ++ decimal (200 - height))
    (codes "\" width=\"16\" height=\"" ++ decimal height) (codes "\"/>" ++ 10 ∷ [])
    (c.in_ok-put_count.ensures ∙ ap (λ n. c.args.out.now.items ++ (codes "<rect x=\"" ++ decimal n)) c.product.ensures)
    (c.in_ok-put_count-2.ensures ∙ ap (λ n. c.put_count.new.out.items ++ (codes "\" y=\"" ++ decimal (200 - n))) c.drawn-height.ensures.value)
    (c.in_ok-put_count-3.ensures
    ∙ ap (λ n. c.put_count-2.new.out.items ++ (codes "\" width=\"16\" height=\"" ++ decimal n)) c.drawn-height.ensures.value)) c.put.ensures
