use Rattle.queue.proofs.Parts.{on_ok, three_parts}
use Rattle.queue.proofs.report.put_use.Goals as goal
use Rattle.queue.specs.Report.{fraction_text, product}
use Rattle.std.proofs.Common.{[], ap, ◌++◌, ◌-◌, ◌∙◌, ◌∷◌}
use Rattle.std.specs.Prelude.{codes}

pub returns : goal.returns
returns c =
    let busy = c.args.tally.now.ends - c.args.tally.now.begins in
    on_ok c.put-2.result (three_parts c.args.out.now.items c.put.new.out.items c.put_fraction.new.out.items c.put-2.new.out.items
    (codes "utilisation ") (fraction_text busy (product c.args.ticks c.args.servers)) (10 ∷ []) c.in_ok-put.ensures
    (c.in_ok-put_fraction.ensures ∙ ap (λ n. c.put.new.out.items ++ fraction_text n c.product.result) c.saturating_sub-busy.ensures
    ∙ ap (λ d. c.put.new.out.items ++ fraction_text busy d) (c.product.ensures ∙ ap (λ n. product c.args.ticks n) c.from.ensures))) c.put-2.ensures
