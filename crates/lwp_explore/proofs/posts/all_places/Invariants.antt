use Rattle.lwp_explore.proofs.posts.all_places.Given as goal
use Rattle.lwp_explore.specs.Posts.{all_places}
use Rattle.std.proofs.Common.{◌≡◌}

abbrev pub invariant-loop-client : goal.invariant-loop-client
invariant-loop-client l = l.places ≡ all_places l.client l.script.posts
