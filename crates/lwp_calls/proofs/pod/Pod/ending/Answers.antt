use Rattle.lwp_calls.proofs.Agree.{choice-same}
use Rattle.lwp_calls.proofs.pod.Pod.ending.Goals as goal
use Rattle.std.proofs.Common.{refl, sym, ◌∙◌}

pub returns-in-Some : goal.returns-in-Some
returns-in-Some c = rw
    (← c.self.view_is, c.if-self.false, choice-same c.self.inside.parts c.self.invariant.1.tied c.self.invariant.2 ∙ sym c.self.invariant.3 ∙ c.in-Some.is) refl

pub returns-in-None : goal.returns-in-None
returns-in-None c = rw
    (← c.self.view_is, c.if-self.false, choice-same c.self.inside.parts c.self.invariant.1.tied c.self.invariant.2 ∙ sym c.self.invariant.3 ∙ c.in-None.is) refl
