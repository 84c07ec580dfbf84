use Rattle.agents.proofs.IndexLemmas.{AreOrdered-added, Puts-added}
use Rattle.agents.proofs.index.Index.add.Goals as goal
use Rattle.std.proofs.Common.{arith}

pub invariant_of-self : goal.invariant_of-self
invariant_of-self c =
    let at = rw c.deref.ensures.value at c.end_of-end.ensures in
    let room = rw (← c.self.view_is) at c.requires.room in
    rw (c.insert.ensures.items, c.insert.ensures.succeeds (omega (arith, room)))
    (AreOrdered-added c.args.key c.args.number c.self.inside.entries.items c.end_of-end.result c.self.invariant
    (rw (← c.self.view_is) at c.requires.newest) at.before at.behind)

pub returns-clause-puts : goal.returns-clause-puts
returns-clause-puts c =
    let at = rw c.deref.ensures.value at c.end_of-end.ensures in
    let room = rw (← c.self.view_is) at c.requires.room in
    rw (c.insert.ensures.items, c.insert.ensures.succeeds (omega (arith, room)), ← c.self.view_is)
    (Puts-added c.args.key c.args.number c.self.inside.entries.items c.end_of-end.result at.behind)
