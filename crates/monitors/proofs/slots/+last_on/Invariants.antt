use Rattle.monitors.proofs.slots.+last_on.Given as goal

abbrev pub decreases-last_on : goal.decreases-last_on
decreases-last_on l = l.end
