use Rattle.script_body.proofs.body.frames_again.Given as goal
use Rattle.std.proofs.Common.{length, take, vec_capacity, ◌≡◌}

abbrev pub invariant-loop-frame : goal.invariant-loop-frame
invariant-loop-frame l = (l.copy.items ≡ take l.frame-index l.frames.items) × (vec_capacity l.copy ≡ length l.frames.items)
