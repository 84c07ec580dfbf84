use Rattle.conditions.proofs.conds.Conds.create.Goals as goal
use Rattle.conditions.proofs.RowLaws.{IsKept-created}
use Rattle.std.proofs.Common.{arith, rules, ◌+◌}

pub returns-clause-value : goal.returns-clause-value
returns-clause-value c = search rules

pub returns-clause-ok : goal.returns-clause-ok
returns-clause-ok c = search rules

pub invariant_of-self-2 : goal.invariant_of-self-2
invariant_of-self-2 c = rw c.in_ok-push.ensures.items
    (IsKept-created c.args.mon c.self.inside.rows.items c.self.inside.births (c.self.inside.births + 1) c.self.invariant (omega arith))
