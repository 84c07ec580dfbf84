use Rattle.monitors.proofs.Lines.{prioritized-line}
use Rattle.monitors.proofs.monitors.Monitors.requeue.Goals as goal
use Rattle.std.proofs.Common.{ap}
use Rattle.lists.specs.Living.{living}

pub returns : goal.returns
returns c =
    let s = c.self.inside in
    rw (← c.self.view_is, c.set_prio.ensures) (ap (λ rs.
    record { monitors = s.live.items; births = s.births; limit = s.limit; locks = living s.locks.slots.items; requests = rs; places = s.requests.places })
    (prioritized-line c.args.tid c.args.prio s.requests.waiting))
