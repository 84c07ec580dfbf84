use Rattle.conditions.proofs.RowLaws.{IsKept-without_of}
use Rattle.conditions.proofs.conds.Conds.destroy_of.Goals as goal

pub invariant_of-self : goal.invariant_of-self
invariant_of-self c = rw c.take_out_of.ensures (IsKept-without_of c.args.mon c.self.inside.rows.items c.self.inside.births c.self.invariant)
