use Rattle.conditions.proofs.RowLaws.{IsKept-without}
use Rattle.conditions.proofs.conds.Conds.destroy.Goals as goal

pub invariant_of-self : goal.invariant_of-self
invariant_of-self c = rw c.take_out.ensures (IsKept-without c.args.cond c.self.inside.rows.items c.self.inside.births c.self.invariant)
