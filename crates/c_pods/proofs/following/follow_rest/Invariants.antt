use Rattle.std.proofs.Common.{◌≡◌, ◌+◌, ◌≤◌, length}
use Rattle.std.specs.Prelude.{drop}
use Rattle.c_pods.specs.Follow.{follow}
use Rattle.c_pods.proofs.following.follow_rest.Given as goal

-- the first bytes were followed
abbrev pub invariant-loop-i : goal.invariant-loop-i
invariant-loop-i l = (follow l.lines l.rest 0 l.fn.from ≡ follow (drop l.i l.lines) (drop l.i l.rest) l.width l.here)
    × (l.here.at + l.width ≡ l.fn.from.at + l.i) × (l.i ≤ length l.rest)
