use Rattle.monitors.proofs.Lines.{left-line}
use Rattle.monitors.proofs.monitors.Monitors.forget.Goals as goal
use Rattle.std.proofs.Common.{ap}
use Rattle.lists.specs.Living.{living}

pub returns : goal.returns
returns c =
    let s = c.self.inside in
    rw (← c.self.view_is, c.leave.ensures) (ap (λ rs.
    record { monitors = s.live.items; births = s.births; limit = s.limit; locks = living s.locks.slots.items; requests = rs; places = s.requests.places })
    (left-line c.args.tid s.requests.waiting))
