use Rattle.agents.proofs.IndexLemmas.{AreOrdered-taken, Puts-taken, stands}
use Rattle.agents.proofs.index.Index.take.Goals as goal
use Rattle.std.proofs.Common.{arith}

pub remove-requires : goal.remove-requires
remove-requires c =
    let at = rw c.deref.ensures.value at c.place_of-place.ensures in
    let stood = stands c.args.key c.args.number c.self.inside.entries.items c.place_of-place.result c.self.invariant at.before at.behind
    (rw (← c.self.view_is) at c.requires) in
    omega (arith, stood.within)

pub invariant_of-self : goal.invariant_of-self
invariant_of-self c = rw c.remove.ensures.items (AreOrdered-taken c.self.inside.entries.items c.place_of-place.result c.self.invariant)

pub returns-clause-puts : goal.returns-clause-puts
returns-clause-puts c =
    let at = rw c.deref.ensures.value at c.place_of-place.ensures in
    rw (c.remove.ensures.items, ← c.self.view_is)
    (Puts-taken c.args.key c.args.number c.self.inside.entries.items c.place_of-place.result c.self.invariant at (rw (← c.self.view_is) at c.requires))
