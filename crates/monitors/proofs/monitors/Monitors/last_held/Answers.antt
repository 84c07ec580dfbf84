use Rattle.monitors.proofs.monitors.Monitors.last_held.Goals as goal

pub returns-clause-held_once : goal.returns-clause-held_once
returns-clause-held_once c = rw (← c.self.view_is) c.self.invariant.kept.held_once
