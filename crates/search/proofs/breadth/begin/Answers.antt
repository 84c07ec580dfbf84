use Rattle.search.proofs.Steps.{begins}
use Rattle.search.specs.Seen.{Adds}
use Rattle.search.specs.declared.found.Row.{Row}
use Rattle.std.proofs.Common.{[], ap, length, subst, ◌++◌, ◌∙◌, ◌∷◌}
use Rattle.search.proofs.breadth.begin.Goals as goal

pub returns-clause-knows : goal.returns-clause-knows
returns-clause-knows g c =
    let moves = g.M.Machine.moves c.args.machine.now in
    let first = c.in_ok-first.first in
    let new = c.add.new.search in
    let added = c.in_ok-add.ensures in
    let row : Row = record { parent = 0; step = 0; kind = (g.M.Machine.moves first).kind (g.M.Machine.core first) } in
    let key = c.in_ok-key.ensures ∙ ap moves.key c.requires.begins in
    let adds = subst (λ s. Adds s new.seen (moves.key moves.first) 0) c.new-3.ensures
    (subst (λ n. Adds c.new-3.result new.seen (moves.key moves.first) n) (ap length c.new.ensures.items)
    (subst (λ k. Adds c.new-3.result new.seen k (length c.new.result.items)) key added.seen)) in
    begins moves row ((λ i. (c.in_ok-first.ensures.same i).kind (c.in_ok-first.ensures.there i)) ∙ ap moves.kind c.requires.begins)
    new.seen adds new.rows.items new.whole new.marked c.args.limits.cores
    (added.rows ∙ ap (λ l. l ++ row ∷ []) c.new.ensures.items) added.whole added.marked
