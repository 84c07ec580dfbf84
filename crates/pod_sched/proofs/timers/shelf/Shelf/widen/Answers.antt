use Rattle.std.proofs.Common.{arith, length, ◌<◌, ◌≤◌}
use Rattle.pod_sched.proofs.TimerLaws.KeptLemmas.{IsShelved-filed}
use Rattle.pod_sched.proofs.timers.shelf.Shelf.widen.Goals as goal

pub file-requires-clause-once : goal.file-requires-clause-once
file-requires-clause-once c = rw c.in_ok-reserve.ensures.items c.self.invariant.once

pub invariant_of-self-2 : goal.invariant_of-self-2
invariant_of-self-2 c =
    let was = c.self.invariant in
    let kept = c.file.ensures.len in
    let more : length c.self.inside.dues < c.args.least = rw (← c.self.view_is) at c.requires.more in
    let wide = c.in_ok-dues.ensures in
    let fits : length c.reserve.new.self.items
    ≤ length c.file.new.dues = rw c.in_ok-reserve.ensures.items (omega (arith, kept, was.fits, more, c.in_ok-dues.ensures.0)) in
    IsShelved-filed c.self.inside.leaves.items c.self.inside.dues c.self.inside.index _ was c.reserve.new.self.items c.file.new.dues c.file.new.index _
    (rw c.in_ok-reserve.ensures.items c.self.invariant.once)
    c.file.ensures.filed fits
    (omega (arith, c.file.ensures.width, c.in_ok-index.ensures.width, c.len.ensures, kept))
    (omega (arith, c.file.ensures.room, c.in_ok-index.ensures.room, c.len.ensures, kept))
    (omega (arith, c.in_ok-reserve.ensures.ok, c.len-2.ensures, c.len-3.ensures, kept))
