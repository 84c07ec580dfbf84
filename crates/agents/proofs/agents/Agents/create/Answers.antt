use Rattle.agents.proofs.KeptLemmas.{IsKept-created, newest_under}
use Rattle.agents.proofs.agents.Agents.create.Goals as goal
use Rattle.lwp_types.specs.declared.rows.AgentRow.{AgentRow}

pub add-requires-clause-newest : goal.add-requires-clause-newest
add-requires-clause-newest c =
    rw (c.number_of.ensures, c.from.ensures)
    (newest_under (λ (row : AgentRow). row.event) c.self.inside.rows.items _ c.self.invariant.events c.args.a c.args.event
    (rw (← c.self.view_is) at c.requires.newest))

pub add-requires-2-clause-newest : goal.add-requires-2-clause-newest
add-requires-2-clause-newest c =
    rw (c.number_of-2.ensures, c.number_of-3.ensures)
    (newest_under (λ (row : AgentRow). row.owner) c.self.inside.rows.items _ c.self.invariant.owners c.args.a c.args.owner
    (rw (← c.self.view_is) at c.requires.newest))

pub invariant_of-self : goal.invariant_of-self
invariant_of-self c =
    let of_event = rw (c.number_of.ensures, c.from.ensures) at c.add.ensures in
    let of_owner = rw (c.number_of-2.ensures, c.number_of-3.ensures) at c.add-2.ensures in
    rw (c.push_reserved.ensures.items, c.push_reserved.ensures.capacity, c.put.ensures)
    (IsKept-created c.self.invariant c.args.a c.args.event c.args.owner c.add.new.self c.add-2.new.self c.tally-before.result
    (rw (← c.self.view_is) at c.requires.newest) c.requires.most (rw (← c.self.view_is) at c.requires.room)
    of_event.puts of_event.len of_event.room of_owner.puts of_owner.len of_owner.room c.tally-before.ensures)
