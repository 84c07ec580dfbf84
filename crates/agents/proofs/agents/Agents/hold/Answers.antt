use Rattle.agents.proofs.KeptLemmas.{IsKept-held, idle_row, low_event}
use Rattle.agents.proofs.agents.Agents.hold.Goals as goal
use Rattle.std.proofs.Common.{sym}

pub tally-before-requires : goal.tally-before-requires
tally-before-requires c = low_event c.self.invariant c.args.a c.in-Some.row (sym c.in-Some.ensures.value)

pub put-requires : goal.put-requires
put-requires c = low_event c.self.invariant c.args.a c.in-Some.row (sym c.in-Some.ensures.value)

pub invariant_of-self : goal.invariant_of-self
invariant_of-self c =
    let found = sym c.in-Some.ensures.value in
    let idle = idle_row c.self.inside.rows.items c.args.a c.in-Some.row found (rw (← c.self.view_is) at c.requires) in
    rw (c.in-Some.ensures.items, c.in-Some.ensures.capacity, c.put.ensures)
    (IsKept-held c.self.invariant c.args.a c.in-Some.row found c.tally-before.result c.tally-before.ensures idle)
