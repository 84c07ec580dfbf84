-- What a call comes to, of the parts of a pod.
use Rattle.death_cleanup.specs.Comes.{CameTo}
use Rattle.death_cleanup.specs.View.{state_of}
use Rattle.death_cleanup.specs.declared.parts.Parts.{Parts}
use Rattle.lwp_types.specs.Case.{Case}
use Rattle.lwp_types.specs.State.{still}
use Rattle.lwp_types.specs.Step.{own_effects}
use Rattle.lwp_types.specs.declared.call.Answer.{Answer}
use Rattle.lwp_types.specs.declared.call.Effect.{Effect}
use Rattle.std.specs.Prelude.{List, Option, [], ◌++◌, ◌≡◌, ℕ}

-- the parts are in the state of the case, what it does to others was told, and the caller has its answer now, if any
pub record ComesTo (old new : Parts) (before after : List Effect) (made : Case) (answer : Option Answer) : Type 0 where
  pub came : CameTo old new before after (record { after = made.after; effects = made.others })
  pub own : made.own ≡ answer

-- the parts are in the state of the case, and what it does to others was told, and then the caller's answer, if it has
-- one now
abbrev pub Told : Parts → Parts → List Effect → List Effect → ℕ → Case → Type 0
Told old new before after caller made =
    CameTo old new before after (record { after = made.after; effects = made.others ++ own_effects caller made.own })

-- the state is as it was; there may be more places than before
abbrev pub IsAsBefore : Parts → Parts → Type 0
IsAsBefore old new = CameTo old new [] [] (still (state_of old))
