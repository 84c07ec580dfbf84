use Rattle.agents.proofs.KeptLemmas.{IsKept-released, holding_counted, low_event}
use Rattle.agents.proofs.agents.Agents.release.Goals as goal
use Rattle.std.proofs.Common.{sym}

pub tally-before-requires : goal.tally-before-requires
tally-before-requires c = low_event c.self.invariant c.args.a c.in-Some.row (sym c.in-Some.ensures.value)

pub overflow_sub-holding : goal.overflow_sub-holding
overflow_sub-holding c =
    rw c.one_if.ensures (holding_counted c.self.invariant c.args.a c.in-Some.row (sym c.in-Some.ensures.value) c.tally-before.result c.tally-before.ensures)

pub put-requires : goal.put-requires
put-requires c = low_event c.self.invariant c.args.a c.in-Some.row (sym c.in-Some.ensures.value)

pub invariant_of-self : goal.invariant_of-self
invariant_of-self c =
    rw (c.in-Some.ensures.items, c.in-Some.ensures.capacity, c.put.ensures, c.one_if.ensures)
    (IsKept-released c.self.invariant c.args.a c.in-Some.row (sym c.in-Some.ensures.value) c.tally-before.result c.tally-before.ensures)
