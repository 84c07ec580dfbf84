use Rattle.monitors.proofs.Lines.{tids-line}
use Rattle.monitors.proofs.monitors.Monitors.waiters.Goals as goal

pub returns : goal.returns
returns c = rw (← c.self.view_is, ← tids-line c.args.mon c.self.inside.requests.waiting) (rw c.mon.view_is at c.tids.ensures)
