use Rattle.std.proofs.Common.{◌≡◌, drop, take}
use Rattle.script_advice.specs.Near.{first_near, two_apart}
use Rattle.script_advice.proofs.near_names.first_two_apart.Given as goal

abbrev pub invariant-loop-place : goal.invariant-loop-place
invariant-loop-place l = first_near (λ v. two_apart v l.word) (drop l.place (take 256 l.names)) ≡ first_near (λ v. two_apart v l.word) (take 256 l.names)
