-- What a change of the parts comes to: an outcome of the machine.
use Rattle.death_cleanup.specs.Ties.{InStep}
use Rattle.death_cleanup.specs.View.{state_of}
use Rattle.death_cleanup.specs.declared.parts.Parts.{Parts}
use Rattle.lwp_types.specs.Case.{Case}
use Rattle.lwp_types.specs.Effects.{effect_places}
use Rattle.lwp_types.specs.State.{Outcome}
use Rattle.lwp_types.specs.declared.call.Answer.{Answer}
use Rattle.lwp_types.specs.declared.call.Effect.{Effect}
use Rattle.std.specs.Prelude.{List, Some, length, ◌++◌, ◌+◌, ◌≡◌, ◌≤◌, ℕ}

-- the effects so far leave room for those of this outcome, and for some more
abbrev pub HasRoom : List Effect → Outcome → ℕ → Type 0
HasRoom effects out more = length effects + (length out.effects + more) ≤ effect_places

-- the parts are in the machine's state after this outcome, its effects are told, and their invariant holds; who is
-- dying stays so
pub record CameTo (old new : Parts) (before after : List Effect) (out : Outcome) : Type 0 where
  pub state : state_of new ≡ out.after
  pub effects : after ≡ before ++ out.effects
  pub step : InStep new
  pub dying : new.dying ≡ old.dying

-- what a call comes to that is answered at once
pub record Answers (old new : Parts) (before after : List Effect) (made : Case) (answer : Answer) : Type 0 where
  pub came : CameTo old new before after (record { after = made.after; effects = made.others })
  pub own : made.own ≡ Some answer
