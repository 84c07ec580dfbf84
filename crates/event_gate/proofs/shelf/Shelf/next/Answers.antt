use Rattle.std.proofs.Common.{ap, add-one, ◌∙◌}
use Rattle.event_gate.specs.Shelves.{after_next}
use Rattle.event_gate.proofs.ShelfLaws.{parted, moved_on}
use Rattle.event_gate.proofs.shelf.Shelf.next.Goals as goal

pub returns-clause-after : goal.returns-clause-after
returns-clause-after g c =
    let items = c.self.inside.items.items in
    ap (λ n. parted n items) (add-one c.self.inside.taken) ∙ moved_on c.self.inside.taken items ∙ ap after_next c.self.view_is
