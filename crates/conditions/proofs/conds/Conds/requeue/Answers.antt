use Rattle.conditions.proofs.Lines.{prioritized-line}
use Rattle.conditions.proofs.conds.Conds.requeue.Goals as goal
use Rattle.std.proofs.Common.{ap}

pub returns : goal.returns
returns c =
    let s = c.self.inside in
    rw (← c.self.view_is, c.set_prio.ensures) (ap (λ us.
    record { conditions = s.rows.items; births = s.births; limit = s.limit; waits = us; places = s.waits.places })
    (prioritized-line c.args.tid c.args.prio s.waits.waiting))
