-- What a call comes to that tells others nothing, by the case that the machine makes of it.
use Rattle.death_cleanup.proofs.Exiting.{few_others}
use Rattle.death_cleanup.specs.Comes.{Answers, CameTo}
use Rattle.death_cleanup.specs.Ties.{InStep, LawfulParts}
use Rattle.death_cleanup.specs.View.{state_of}
use Rattle.death_cleanup.specs.declared.parts.Parts.{Parts}
use Rattle.lwp_calls.specs.Comes.{ComesTo, IsAsBefore, Told}
use Rattle.lwp_types.specs.Case.{Case, answer_by, answer_case}
use Rattle.lwp_types.specs.Exits.{exit_case}
use Rattle.lwp_types.specs.State.{Outcome, State}
use Rattle.lwp_types.specs.Lawful.{NineParts}
use Rattle.lwp_types.specs.Step.{own_effects}
use Rattle.lwp_types.specs.declared.call.Answer.{Answer}
use Rattle.lwp_types.specs.declared.call.Effect.{Effect}
use Rattle.lwp_types.specs.declared.call.Effect.TheVariants as effect
use Rattle.lwp_types.specs.declared.call.ExitCall.{ExitCall}
use Rattle.lwp_types.specs.declared.call.LwpErr.{LwpErr}
use Rattle.std.proofs.Common.{Err, List, None, Ok, Option, Result, Some, [], ap, append_assoc, append-nil, arith}
use Rattle.std.proofs.Common.{length, length-append, subst, sym, ℕ, ◌+◌, ◌++◌, ◌∙◌, ◌∷◌, ◌≡◌, ◌≤◌}
use Rattle.std.proofs.lemmas.Bool.{false≢true}
use Rattle.std.specs.Prelude.{IfOk, IsErr, OnErr, OnOk, ℤ}
use Rattle.std.specs.Result.{IsOkAnd}

module _ {old new : Parts} {made : Case} where
  pub ComesTo-is : {own : Option Answer} → made ≡ record { after = state_of new; others = []; own = own } → InStep new
      → new.dying ≡ old.dying → ComesTo old new [] [] made own
  ComesTo-is is step dying = record {
    came = record { state = sym (ap (λ (m : Case). m.after) is); effects = sym (ap (λ (m : Case). m.others) is); step = step; dying = dying };
    own = ap (λ (m : Case). m.own) is;
  }

  pub Answers-is : {a : Answer} → made ≡ answer_case (state_of new) a → InStep new → new.dying ≡ old.dying → Answers old new [] [] made a
  Answers-is is step dying = record {
    came = record { state = sym (ap (λ (m : Case). m.after) is); effects = sym (ap (λ (m : Case). m.others) is); step = step; dying = dying };
    own = ap (λ (m : Case). m.own) is;
  }

  -- an answer at once is one of two
  pub ComesTo-answers : {before after : List Effect} {a : Answer} → Answers old new before after made a → ComesTo old new before after made (Some a)
  ComesTo-answers answers = record { came = answers.came; own = answers.own }

  -- nothing more was told
  pub ComesTo-quiet : {own : Option Answer} → ComesTo old new [] [] made own → (effects : List Effect) → ComesTo old new effects effects made own
  ComesTo-quiet comes effects = record {
    came = record {
      state = comes.came.state;
      effects = sym (append-nil effects) ∙ ap (λ es. effects ++ es) comes.came.effects;
      step = comes.came.step;
      dying = comes.came.dying;
    };
    own = comes.own;
  }

  pub ComesTo-said : {a : Answer} → Answers old new [] [] made a → (effects : List Effect) → ComesTo old new effects effects made (Some a)
  ComesTo-said answers effects = ComesTo-quiet (ComesTo-answers answers) effects

  -- the caller's answer is told after it
  pub told-behind : {before middle after : List Effect} {own : Option Answer} → ComesTo old new before middle made own → (t : ℕ)
      → after ≡ middle ++ own_effects t own → Told old new before after t made
  told-behind {before} {middle} {after} {own} comes t told = record {
    state = comes.came.state;
    effects = told ∙ ap (λ (es : List Effect). es ++ own_effects t own) comes.came.effects
        ∙ append_assoc before made.others (own_effects t own) ∙ ap (λ (o : Option Answer). before ++ (made.others ++ own_effects t o)) (sym comes.own);
    step = comes.came.step;
    dying = comes.came.dying;
  }

  -- of a caller that is answered or waits, where others were told nothing
  pub told-own : {before after : List Effect} {own : Option Answer} → ComesTo old new [] [] made own → (t : ℕ)
      → after ≡ before ++ own_effects t own → Told old new before after t made
  told-own {before} comes t told = told-behind (ComesTo-quiet comes before) t told

  -- of an answer at once, where others were told nothing
  pub told-alone : {before after : List Effect} {a : Answer} → Answers old new [] [] made a → (t : ℕ)
      → after ≡ before ++ effect.Answered t a ∷ [] → Told old new before after t made
  told-alone {before} answers t told = told-behind (ComesTo-said answers before) t told

-- the caller's answer, where there was memory for it
pub told-if : {T E F : Type 0} (old new : Parts) (before after : List Effect) (made : Case) (done : Result (Result ℤ LwpErr) E) (result : Result T F)
    → IfOk done (λ own. Answers old new [] [] made (answer_by own)) → (t : ℕ)
    → OnOk result (IsOkAnd done (λ own. after ≡ before ++ effect.Answered t (answer_by own) ∷ [])) → OnOk result (Told old new before after t made)
told-if old new before after made (Ok own) (Ok u) answers t told = told-alone answers t told
told-if old new before after made (Err d) (Ok u) answers t told = absurd told
told-if old new before after made (Ok own) (Err e) answers t told = tt
told-if old new before after made (Err d) (Err e) answers t told = tt

-- what is so where a call ran out of memory
pub untold-if : {T E F G : Type 0} (P : Type 0) (done : Result T E) (result : Result F G) → OnErr done P → OnErr result (IsErr done) → OnErr result P
untold-if P (Ok own) (Ok u) before same = tt
untold-if P (Err d) (Ok u) before same = tt
untold-if P (Ok own) (Err e) before same = absurd (false≢true same)
untold-if P (Err d) (Err e) before same = before

-- an answer is one effect more at most
pub told-few : (middle : List Effect) (t : ℕ) (own : Option Answer) → length (middle ++ own_effects t own) ≤ length middle + 1
told-few middle t None = omega (arith, ap length (append-nil middle))
told-few middle t (Some a) = omega (arith, length-append middle (effect.Answered t a ∷ []))

pub told-most : (middle after : List Effect) (t : ℕ) (own : Option Answer) (n : ℕ) → length middle ≤ n → after ≡ middle ++ own_effects t own
    → length after ≤ n + 1
told-most middle after t own n few told = omega (arith, few, ap length told, told-few middle t own)

-- a call that an exit procedure may make tells others one effect at most
pub few-told : {old new : Parts} {before after : List Effect} {a : Answer} (t : ℕ) (call : ExitCall)
    → Answers old new before after (exit_case (state_of old) t call) a → before ≡ [] → length after ≤ 1
few-told {old} {new} {before} {after} {a} t call answers none = omega
    (arith, ap length none, ap length answers.came.effects, length-append before (exit_case (state_of old) t call).others, few_others (state_of old) t call)

-- a call after which nothing has changed but places, and then another
module _ {old mid : Parts} (same : IsAsBefore old mid) where
  pub lawful_after : LawfulParts old → LawfulParts mid
  lawful_after lawful = record {
    nine = subst (λ (s : State). NineParts s mid.dying) (sym same.state) (subst (λ (d : Option ℕ). NineParts (state_of old) d) (sym same.dying) lawful.nine);
    step = same.step;
  }

  pub came_after : {new : Parts} {before after : List Effect} → (f : State → Outcome) → CameTo mid new before after (f (state_of mid))
      → CameTo old new before after (f (state_of old))
  came_after {new} {before} {after} f came =
      let there = subst (λ (s : State). CameTo mid new before after (f s)) same.state came in
      record { state = there.state; effects = there.effects; step = there.step; dying = there.dying ∙ same.dying }
