use Rattle.std.proofs.Common.{sym, ◌∙◌}
use Rattle.pod_sched.proofs.TimerLaws.KeptLemmas.{IsShelved-emptied, some_filed}
use Rattle.pod_sched.proofs.timers.shelf.Shelf.take.Goals as goal

pub returns-in_err-row-clause-once : goal.returns-in_err-row-clause-once
returns-in_err-row-clause-once c = rw (← c.self.view_is) c.self.invariant.once

pub take-requires : goal.take-requires
take-requires c =
    let is = sym c.leaf_at.ensures ∙ c.in_ok-row.was in
    let within = rw (← c.self.view_is) at c.requires in
    some_filed c.self.inside.leaves.items c.self.inside.dues c.self.inside.index _ c.self.invariant c.args.leaf c.in_ok-row.row within is

pub invariant_of-self : goal.invariant_of-self
invariant_of-self c =
    let is = sym c.leaf_at.ensures ∙ c.in_ok-row.was in
    let within = rw (← c.self.view_is) at c.requires in
    let puts = c.take.ensures in
    rw (c.empty_leaf.ensures.items, c.empty_leaf.ensures.capacity, c.set.ensures)
    (IsShelved-emptied c.self.inside.leaves.items c.self.inside.dues c.self.inside.index _ c.self.invariant c.args.leaf c.in_ok-row.row
    within is c.take.new.self puts.puts puts.count puts.width puts.room)

pub returns-clause-once : goal.returns-clause-once
returns-clause-once c = rw (← c.self.view_is) c.self.invariant.once
