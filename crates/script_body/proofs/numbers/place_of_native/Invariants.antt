use Rattle.std.proofs.Common.{length, ◌-◌, ◌+◌, ◌≡◌, ◌≤◌, drop, map}
use Rattle.script_text.specs.Script.{place_in}
use Rattle.script_body.proofs.numbers.place_of_native.Given as goal

abbrev pub invariant-loop-place : goal.invariant-loop-place
invariant-loop-place l = record {
  within : l.place ≤ length l.natives;
  before : place_in l.name (map (λ p. p.name) l.natives) ≡ l.place + place_in l.name (map (λ p. p.name) (drop l.place l.natives));
}

abbrev pub decreases-loop-place : goal.decreases-loop-place
decreases-loop-place l = length l.natives - l.place
