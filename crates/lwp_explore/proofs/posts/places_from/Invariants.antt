use Rattle.lwp_explore.proofs.posts.places_from.Given as goal
use Rattle.lwp_explore.specs.Posts.{places_from}
use Rattle.std.proofs.Common.{take, ◌≡◌}

abbrev pub invariant-loop-place : goal.invariant-loop-place
invariant-loop-place l = l.places ≡ places_from l.client 0 (take l.place l.posts)
