use Rattle.death_cleanup.proofs.Firsts.{Reached}
use Rattle.death_cleanup.proofs.named.first_in.Given as goal
use Rattle.std.proofs.Common.{length, vec_capacity, ◌≡◌}

abbrev pub invariant-loop-wait : goal.invariant-loop-wait
invariant-loop-wait l = record { reached : Reached l.fn.what l.fn.tid l.ids.live l.waits.items l.at; capacity : vec_capacity l.waits ≡ vec_capacity l.fn.waits }

abbrev pub decreases-loop-wait : goal.decreases-loop-wait
decreases-loop-wait l = length l.waits.items
