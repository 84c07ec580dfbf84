use Rattle.death_cleanup.specs.View.{state_of}
use Rattle.lwp_calls.proofs.Agree.{choice-same}
use Rattle.lwp_calls.proofs.Pods.{turn-runs}
use Rattle.lwp_calls.proofs.pod.Pod.current.Goals as goal
use Rattle.std.proofs.Common.{sym, ◌∙◌}

pub returns-clause-value : goal.returns-clause-value
returns-clause-value c =
    rw (← c.self.view_is, c.if-self.false) (c.self.invariant.3 ∙ sym (choice-same c.self.inside.parts c.self.invariant.1.tied c.self.invariant.2))

pub returns-clause-may_run : goal.returns-clause-may_run
returns-clause-may_run c = rw (← c.self.view_is) (turn-runs (state_of c.self.inside.parts) c.self.invariant.0.nine c.self.inside.next
    (c.self.invariant.3 ∙ sym (choice-same c.self.inside.parts c.self.invariant.1.tied c.self.invariant.2)))
