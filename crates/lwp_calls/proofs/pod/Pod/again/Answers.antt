use Rattle.lwp_calls.proofs.pod.Pod.again.Goals as goal

pub invariant_of-result : goal.invariant_of-result
invariant_of-result c = rw (c.in_ok-again.ensures) c.self.invariant
