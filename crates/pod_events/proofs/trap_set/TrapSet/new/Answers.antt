use Rattle.pod_events.proofs.Takes.{none_trapped}
use Rattle.pod_events.proofs.trap_set.TrapSet.new.Goals as goal
use Rattle.std.proofs.Common.{sym, ◌∙◌}

pub invariant_of-result : goal.invariant_of-result
invariant_of-result c = λ e. c.no_marks.ensures e ∙ sym (none_trapped 32 e)
