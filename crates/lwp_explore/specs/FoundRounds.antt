-- Rounds of calls, by where each place leads.
use Rattle.lwp_explore.specs.Cycles.{leap}
use Rattle.lwp_explore.specs.declared.kinds.End.{End}
use Rattle.lwp_explore.specs.declared.kinds.End.TheVariants as end
use Rattle.std.specs.Prelude.{List, Option, Some, suc, ℕ, ◌<◌, ◌≡◌}

-- a place leads back to itself over one more than so many, and not over fewer
pub record IsShortRound (nexts : List (Option ℕ)) (place n : ℕ) : Type 0 where
  pub back : leap nexts (suc n) place ≡ Some place
  pub first : (m : ℕ) → m < n → leap nexts (suc m) place ≡ Some place → ⊥

-- so many steps make a round, if an end is endless, or there are none
abbrev pub RoundAfter : List (Option ℕ) → ℕ → End → ℕ → Type 0
RoundAfter nexts place (end.Ended status) more = more ≡ 0
RoundAfter nexts place end.Stuck more = more ≡ 0
RoundAfter nexts place end.Endless more = (n : ℕ) × (more ≡ suc n) × IsShortRound nexts place n
