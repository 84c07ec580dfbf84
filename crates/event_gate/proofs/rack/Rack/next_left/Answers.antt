use Rattle.event_gate.proofs.ShelfLaws.{first_of, none_of}
use Rattle.event_gate.proofs.rack.Rack.next_left.Goals as goal

pub returns-clause-none : goal.returns-clause-none
returns-clause-none g c = rw (← c.self.view_is)
    (none_of c.self.inside.marks c.self.inside.shelves.items c.args.from c.first_marked.result c.self.invariant.1 c.first_marked.ensures.none)

pub returns-clause-first : goal.returns-clause-first
returns-clause-first g c = rw (← c.self.view_is) (first_of c.self.inside.marks c.self.inside.shelves.items c.args.from c.first_marked.result
    c.self.invariant.1 c.first_marked.ensures.below c.first_marked.ensures.first)
