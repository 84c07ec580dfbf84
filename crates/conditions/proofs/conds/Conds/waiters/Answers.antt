use Rattle.conditions.proofs.Lines.{tids-line}
use Rattle.conditions.proofs.conds.Conds.waiters.Goals as goal

pub returns : goal.returns
returns c = rw (← c.self.view_is, ← tids-line c.args.cond c.self.inside.waits.waiting) (rw c.cond.view_is at c.tids.ensures)
