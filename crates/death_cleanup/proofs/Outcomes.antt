-- What a call comes to, from what its parts come to.
use Rattle.death_cleanup.specs.Comes.{Answers, CameTo}
use Rattle.death_cleanup.specs.Ties.{InStep}
use Rattle.death_cleanup.specs.View.{state_of}
use Rattle.death_cleanup.specs.declared.parts.Parts.{Parts}
use Rattle.lwp_types.specs.Case.{Case, answer_case, refusal_case, with_zero}
use Rattle.lwp_types.specs.State.{Outcome, still}
use Rattle.lwp_types.specs.Unblock.{zero_answer}
use Rattle.lwp_types.specs.declared.call.Answer.{Answer}
use Rattle.lwp_types.specs.declared.call.Effect.{Effect}
use Rattle.lwp_types.specs.declared.call.LwpErr.{LwpErr}
use Rattle.lwp_types.specs.declared.call.Answer.TheVariants as answer
use Rattle.std.proofs.Common.{List, ap, refl, sym, ◌++◌, ◌∙◌, ◌≡◌}
use Rattle.std.proofs.lemmas.List.{append-nil}

-- an outcome by another name, and of parts in which as many are dying
pub came_as : (old mid new : Parts) (before after : List Effect) (out is : Outcome) → CameTo mid new before after out
    → mid.dying ≡ old.dying → is ≡ out → CameTo old new before after is
came_as old mid new before after out is came same e = record {
  state = came.state ∙ ap (λ (o : Outcome). o.after) (sym e);
  effects = came.effects ∙ ap (λ (o : Outcome). before ++ o.effects) (sym e);
  step = came.step;
  dying = came.dying ∙ same;
}

-- nothing is told
pub came_quietly : (old new : Parts) (effects : List Effect) (out : Outcome) → InStep new → new.dying ≡ old.dying
    → out ≡ still (state_of new) → CameTo old new effects effects out
came_quietly old new effects out step same e = record {
  state = ap (λ (o : Outcome). o.after) (sym e);
  effects = sym (append-nil effects) ∙ ap (λ (o : Outcome). effects ++ o.effects) (sym e);
  step = step;
  dying = same;
}

-- a call that is refused
pub answers_refused : (parts : Parts) (effects : List Effect) (made : Case) (e : LwpErr) → InStep parts
    → made ≡ refusal_case (state_of parts) e → Answers parts parts effects effects made (answer.Refused e)
answers_refused parts effects made e step is = record {
  came = came_quietly parts parts effects (record { after = made.after; effects = made.others }) step refl
      (ap (λ (c : Case). record { after = c.after; effects = c.others }) is);
  own = ap (λ (c : Case). c.own) is;
}

-- a call that tells others of its outcome, and answers 0
pub answers_zero : (old new : Parts) (before after : List Effect) (out : Outcome) (made : Case) → CameTo old new before after out
    → made ≡ with_zero out → Answers old new before after made zero_answer
answers_zero old new before after out made came is = record {
  came = came_as old old new before after out (record { after = made.after; effects = made.others }) came refl
      (ap (λ (c : Case). record { after = c.after; effects = c.others }) is);
  own = ap (λ (c : Case). c.own) is;
}

-- a call that concerns nobody else
pub answers_quietly : (old new : Parts) (effects : List Effect) (made : Case) (a : Answer) → InStep new → new.dying ≡ old.dying
    → made ≡ answer_case (state_of new) a → Answers old new effects effects made a
answers_quietly old new effects made a step same is = record {
  came = came_quietly old new effects (record { after = made.after; effects = made.others }) step same
      (ap (λ (c : Case). record { after = c.after; effects = c.others }) is);
  own = ap (λ (c : Case). c.own) is;
}
