use Rattle.std.proofs.Common.{ap, ◌∙◌, arith}
use Rattle.event_gate.specs.Shelves.{with_one_more}
use Rattle.event_gate.proofs.ShelfLaws.{parted, put_last}
use Rattle.event_gate.proofs.shelf.Shelf.add.Goals as goal

pub returns-clause-ok : goal.returns-clause-ok
returns-clause-ok g c =
    let items = c.self.inside.items in
    let within = c.self.invariant in
    ap (parted c.self.inside.taken) c.in_ok-push.ensures.items
    ∙ put_last c.self.inside.taken items.items c.args.item (omega (arith, within, items.ok.0)) ∙ ap (λ s. with_one_more s c.args.item) c.self.view_is
