use Rattle.std.proofs.Common.{arith}
use Rattle.lists.proofs.WaitingLaws.KeptLaws.{IsKept-joined, few_known_new, unknown_new}
use Rattle.lists.proofs.waiting_list.line.WaitingList.join.Goals as goal

pub put-requires-clause-new : goal.put-requires-clause-new
put-requires-clause-new c =
    let facts = c.next_arrival-arrival.ensures in
    unknown_new c.self.inside.entries.items _ _ _ _ _ _ _ c.self.invariant c.next_arrival-arrival.new.entries.items
    c.next_arrival-arrival.new.index c.args.next.tid facts.same facts.known (rw (← c.self.view_is) at c.requires.waits_nowhere)

pub put-requires-clause-room : goal.put-requires-clause-room
put-requires-clause-room c =
    let facts = c.next_arrival-arrival.ensures in
    let few = few_known_new c.self.inside.entries.items _ _ _ _ _ _ _ c.self.invariant c.next_arrival-arrival.new.entries.items
    c.next_arrival-arrival.new.index facts.same facts.known (rw (← c.self.view_is) at c.requires.room) in
    omega (arith, few, c.self.invariant.cells, c.self.invariant.index_room, facts.width, facts.index_room)

pub invariant_of-self : goal.invariant_of-self
invariant_of-self c =
    let facts = c.next_arrival-arrival.ensures in
    let was = c.self.invariant in
    rw c.push_back_reserved.ensures.items
    (IsKept-joined c.self.inside.entries.items _ _ _ _ _ _ _ was c.next_arrival-arrival.new.entries.items _ _
    c.next_arrival-arrival.new.index c.next_arrival-arrival.result c.args.next c.entry_of-entry.result _ _ _ _ _ _
    facts.same facts.indexed facts.known facts.later c.entry_of-entry.ensures
    (rw (← c.self.view_is) at c.requires.waits_nowhere) (rw (← c.self.view_is) at c.requires.room)
    c.file_next.ensures.sorted
    c.put.ensures.puts c.put.ensures.count
    (omega (arith, c.push_back_reserved.ensures.capacity, facts.room, was.places_fit))
    (omega (arith, c.file_next.ensures.rank_room, facts.rank_room, was.ranks_fit))
    (omega (arith, c.file_next.ensures.arrived_room, facts.arrived_room, was.arrived_fit))
    (omega (arith, c.put.ensures.width, facts.width, was.cells))
    (omega (arith, c.put.ensures.width, c.put.ensures.room, facts.width, facts.index_room, was.index_room)))
