use Rattle.std.proofs.Common.{ap, arith, length, ◌≡◌, ◌≤◌}
use Rattle.pod_sched.proofs.TimerLaws.KeptLemmas.{IsOnce-closed, IsShelved-filed, closed_fits}
use Rattle.pod_sched.proofs.timers.shelf.Shelf.pack.Goals as goal
use Rattle.std.proofs.lemmas.List.{length-replicate}
use Rattle.pod_sched.specs.Timers.Leaves.{never}

pub file-requires-clause-once : goal.file-requires-clause-once
file-requires-clause-once c = rw c.close_up.ensures.items (IsOnce-closed c.self.inside.leaves.items c.self.inside.dues c.self.inside.index _ c.self.invariant)

pub file-requires-clause-fits : goal.file-requires-clause-fits
file-requires-clause-fits c =
    let fits = closed_fits c.self.inside.leaves.items c.self.inside.dues c.self.inside.index _ c.self.invariant in
    rw (c.close_up.ensures.items, c.clear.ensures, length-replicate (length c.self.inside.dues) never) fits

pub invariant_of-self : goal.invariant_of-self
invariant_of-self c =
    let was = c.self.invariant in
    let kept : length c.file.new.dues
    ≡ length c.self.inside.dues = omega (arith, c.file.ensures.len, ap length c.clear.ensures, length-replicate (length c.self.inside.dues) never) in
    let fits : length c.close_up.new.leaves.items
    ≤ length c.file.new.dues =
    rw c.close_up.ensures.items (omega (arith, kept, closed_fits c.self.inside.leaves.items c.self.inside.dues c.self.inside.index _ c.self.invariant)) in
    IsShelved-filed c.self.inside.leaves.items c.self.inside.dues c.self.inside.index _ was c.close_up.new.leaves.items c.file.new.dues c.file.new.index _
    (rw c.close_up.ensures.items (IsOnce-closed c.self.inside.leaves.items c.self.inside.dues c.self.inside.index _ c.self.invariant))
    c.file.ensures.filed fits
    (omega (arith, c.file.ensures.width, c.clear-2.ensures.width, was.cells, kept))
    (omega (arith, c.file.ensures.room, c.clear-2.ensures.room, was.room, kept))
    (omega (arith, c.close_up.ensures.capacity, was.capacity, kept))
