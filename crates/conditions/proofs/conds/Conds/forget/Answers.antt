use Rattle.conditions.proofs.Lines.{left-line}
use Rattle.conditions.proofs.conds.Conds.forget.Goals as goal
use Rattle.std.proofs.Common.{ap}

pub returns : goal.returns
returns c =
    let s = c.self.inside in
    rw (← c.self.view_is, c.leave.ensures) (ap (λ us.
    record { conditions = s.rows.items; births = s.births; limit = s.limit; waits = us; places = s.waits.places }) (left-line c.args.tid s.waits.waiting))
