use Rattle.std.proofs.Common.{arith, length, ◌<◌}
use Rattle.pod_sched.proofs.TimerLaws.LeavesLemmas.{length-packed, living-packed}
use Rattle.pod_sched.proofs.timers.shelf.Shelf.make_room.Goals as goal
use Rattle.lists.specs.Living.{living}

pub returns-then-len-clause-timers : goal.returns-then-len-clause-timers
returns-then-len-clause-timers c = rw (c.pack.ensures, ← c.self.view_is) (living-packed c.self.inside.leaves.items)

pub returns-then-len-clause-room : goal.returns-then-len-clause-room
returns-then-len-clause-room c =
    let few : length (living c.self.inside.leaves.items) < length c.self.inside.dues = rw (← c.self.view_is) at c.requires in
    rw (c.pack.ensures, ← c.self.view_is) (omega (arith, few, length-packed c.self.inside.leaves.items))
