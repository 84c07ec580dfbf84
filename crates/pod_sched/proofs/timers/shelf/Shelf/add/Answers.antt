use Rattle.std.proofs.Common.{arith, length, ◌≡◌}
use Rattle.pod_sched.proofs.TimerLaws.KeptLemmas.{IsShelved-push, few_new, unfiled_new}
use Rattle.pod_sched.proofs.timers.shelf.Shelf.add.Goals as goal

pub put-requires-clause-new : goal.put-requires-clause-new
put-requires-clause-new c =
    let new = rw (← c.self.view_is) at c.requires.new in
    let room = rw (← c.self.view_is) at c.requires.room in
    unfiled_new c.self.inside.leaves.items c.self.inside.dues c.self.inside.index _ c.self.invariant (record { tid = c.args.tid; due = c.args.due }) new room

pub put-requires-clause-room : goal.put-requires-clause-room
put-requires-clause-room c =
    let new = rw (← c.self.view_is) at c.requires.new in
    let room = rw (← c.self.view_is) at c.requires.room in
    few_new c.self.inside.leaves.items c.self.inside.dues c.self.inside.index _ c.self.invariant (record { tid = c.args.tid; due = c.args.due }) new room

pub invariant_of-self : goal.invariant_of-self
invariant_of-self c =
    let new = rw (← c.self.view_is) at c.requires.new in
    let room = rw (← c.self.view_is) at c.requires.room in
    let last : c.len-leaf.result ≡ length c.self.inside.leaves.items = omega arith in
    let puts = c.put.ensures in
    rw (c.push_leaf.ensures.items, c.push_leaf.ensures.capacity, c.set.ensures, last)
    (IsShelved-push c.self.inside.leaves.items c.self.inside.dues c.self.inside.index _ c.self.invariant
    (record { tid = c.args.tid; due = c.args.due }) new room c.put.new.self (rw last at puts.puts) puts.count puts.width puts.room)
