use Rattle.lwp_calls.proofs.pod.Pod.threads.Goals as goal
use Rattle.std.proofs.Common.{arith}

pub returns-clause-most : goal.returns-clause-most
returns-clause-most c = omega (arith, c.thread_count.ensures.value, c.self.invariant.0.nine.numbers.3.0)
