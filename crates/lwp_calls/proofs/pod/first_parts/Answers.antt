use Rattle.lwp_calls.proofs.pod.first_parts.Goals as goal

pub returns : goal.returns
returns c = record { state = c.in_ok-first_thread.ensures.state; step = c.in_ok-first_thread.ensures.step; alone = c.in_ok-first_thread.ensures.alone }
