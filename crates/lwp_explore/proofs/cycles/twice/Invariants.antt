use Rattle.std.proofs.Common.{map, option_and_then, take, ◌≡◌}
use Rattle.lwp_explore.specs.Cycles.{jump}
use Rattle.lwp_explore.proofs.cycles.twice.Given as goal

abbrev pub invariant-loop-place : goal.invariant-loop-place
invariant-loop-place l = l.more.items ≡ map (option_and_then (jump l.jumps)) (take l.place l.jumps)
