use Rattle.agents.proofs.KeptLemmas.{IsKept-destroyed, agent_counted, holding_counted, listed_key, low_event}
use Rattle.agents.proofs.agents.Agents.destroy.Goals as goal
use Rattle.lwp_types.specs.declared.rows.AgentRow.{AgentRow}
use Rattle.std.proofs.Common.{sym}

pub take-requires : goal.take-requires
take-requires c =
    rw (c.number_of.ensures, c.from.ensures)
    (listed_key (λ (row : AgentRow). row.event) c.self.inside.rows.items _ c.self.invariant.events c.args.a c.in-Some.row (sym c.in-Some.ensures.value))

pub take-requires-in-Some : goal.take-requires-in-Some
take-requires-in-Some c =
    rw (c.number_of-in-Some.ensures, c.number_of-in-Some-2.ensures)
    (listed_key (λ (row : AgentRow). row.owner) c.self.inside.rows.items _ c.self.invariant.owners c.args.a c.in-Some.row (sym c.in-Some.ensures.value))

pub tally-before-requires : goal.tally-before-requires
tally-before-requires c = low_event c.self.invariant c.args.a c.in-Some.row (sym c.in-Some.ensures.value)

pub overflow_sub-agents : goal.overflow_sub-agents
overflow_sub-agents c = agent_counted c.self.invariant c.args.a c.in-Some.row (sym c.in-Some.ensures.value) c.tally-before.result c.tally-before.ensures

pub overflow_sub-others_holding : goal.overflow_sub-others_holding
overflow_sub-others_holding c =
    rw c.one_if.ensures (holding_counted c.self.invariant c.args.a c.in-Some.row (sym c.in-Some.ensures.value) c.tally-before.result c.tally-before.ensures)

pub put-requires : goal.put-requires
put-requires c = low_event c.self.invariant c.args.a c.in-Some.row (sym c.in-Some.ensures.value)

pub invariant_of-self : goal.invariant_of-self
invariant_of-self c =
    let of_event = rw (c.number_of.ensures, c.from.ensures) at c.take.ensures in
    let of_owner = rw (c.number_of-in-Some.ensures, c.number_of-in-Some-2.ensures) at c.take-in-Some.ensures in
    rw (c.in-Some.ensures.items, c.in-Some.ensures.capacity, c.put.ensures, c.one_if.ensures)
    (IsKept-destroyed c.self.invariant c.args.a c.in-Some.row (sym c.in-Some.ensures.value) c.tally-before.result c.tally-before.ensures
    c.take.new.self c.take-in-Some.new.self
    of_event.puts of_event.len of_event.room of_owner.puts of_owner.len of_owner.room)
