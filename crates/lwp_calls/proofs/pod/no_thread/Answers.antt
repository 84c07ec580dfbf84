use Rattle.lwp_calls.proofs.pod.no_thread.Goals as goal
use Rattle.std.proofs.Common.{refl}

pub returns : goal.returns
returns c = rw (c.new-3.ensures, c.new-4.ensures, c.new-5.ensures, c.new-6.ensures, c.new-7.ensures, c.in_ok-sched.ensures, c.in_ok-named.ensures) refl
