use Rattle.lwp_explore.proofs.listing.is_listed.Given as goal
use Rattle.lwp_explore.specs.declared.listing.Listed.{Listed}
use Rattle.std.proofs.Common.{false, take, ◌≡◌}
use Rattle.std.specs.List.{list_any}
use Rattle.std.specs.Prelude.{◌==◌}

abbrev pub invariant-loop-place : goal.invariant-loop-place
invariant-loop-place l = list_any (λ (x : Listed). x.number == l.number) (take l.place l.listed) ≡ false
