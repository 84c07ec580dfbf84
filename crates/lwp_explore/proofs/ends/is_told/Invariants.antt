use Rattle.lwp_explore.specs.KindCodes.{code_kind}
use Rattle.lwp_explore.specs.KindText.{is_bad}
use Rattle.lwp_explore.specs.declared.listing.Listed.{Listed}
use Rattle.std.proofs.Common.{false, take, ◌≡◌}
use Rattle.std.specs.List.{list_any}
use Rattle.lwp_explore.proofs.ends.is_told.Given as goal

abbrev pub invariant-loop-place : goal.invariant-loop-place
invariant-loop-place l = list_any (λ (x : Listed). is_bad (code_kind x.number)) (take l.place l.kinds) ≡ false
