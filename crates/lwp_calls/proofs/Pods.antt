-- A pod's turns, calls and deliveries.
use Rattle.death_cleanup.specs.View.{state_of}
use Rattle.death_cleanup.specs.declared.parts.Parts.{Parts}
use Rattle.lwp_calls.specs.Pod.{ForgetsTheDead, RunsExitsOnce, call_effects, current_of, is_refusal, refuses}
use Rattle.lwp_types.specs.Agents.{deliver, deliver_to, event_agents, is_armed, is_event_armed}
use Rattle.lwp_types.specs.Choice.{choice, is_eligible_in}
use Rattle.lwp_types.specs.Lawful.{Lawful, NineParts}
use Rattle.lwp_types.specs.State.{Outcome, State, for_each, passes}
use Rattle.lwp_types.specs.Step.{case_of, end_effects, ends, own_effects, step, step_by, step_outcome}
use Rattle.lwp_types.specs.Time.{may_tick, tick}
use Rattle.lwp_types.specs.declared.call.Answer.{Answer}
use Rattle.lwp_types.specs.declared.call.Answer.TheVariants as answer
use Rattle.lwp_types.specs.declared.call.Call.{Call}
use Rattle.lwp_types.specs.declared.call.Effect.{Effect}
use Rattle.lwp_types.specs.declared.call.Effect.TheVariants as effect
use Rattle.pod_laws.proofs.Chosen.{chosen}
use Rattle.pod_laws.proofs.Died.{the_dead_are_forgotten}
use Rattle.pod_laws.proofs.EveryStep.{Lawful-step}
use Rattle.pod_laws.proofs.OnceCalls.{exits_run_once}
use Rattle.pod_laws.proofs.Refusals.{refused_step}
use Rattle.std.proofs.Common.{Bool, List, None, Option, Some, [], ap, append_assoc, arith, cond, eqb, false}
use Rattle.std.proofs.Common.{inl, inr, refl, subst, sym, true, ℕ, ◌&&◌, ◌++◌, ◌<◌, ◌∙◌, ◌∷◌, ◌≡◌, ◌≤◌}
use Rattle.std.proofs.lemmas.Bool.{cases_lt, eq-eqb, ne_eqb}
use Rattle.std.specs.Prelude.{IfNone, IfSome, IsTrue, is_some}
use Rattle.std.specs.Slice.Scan.{HoldsNowhere, IsFirstPlace}

-- whose turn it is may run
pub turn-runs : (s : State) → NineParts s None → (o : Option ℕ) → o ≡ choice s → IfSome o (λ t. IsTrue (is_eligible_in s t))
turn-runs s was None e = tt
turn-runs s was (Some t) e = let run = chosen s was t (sym e) in rw run.known run.eligible

-- the first thread of a pod, alone
pub first-known : {A B : Type 0} (c : Bool) (a : A) (b : B) → is_some (cond c (Some a) None) ≡ (is_some (cond c (Some b) None) && true)
first-known true a b = refl
first-known false a b = refl

pub first-waits : {A B : Type 0} (f : A → Bool) (g : B → Bool) (c : Bool) (a : A) (b : B) → f a ≡ false → g b ≡ false
    → passes f (cond c (Some a) None) ≡ passes g (cond c (Some b) None)
first-waits f g true a b free unblocked = free ∙ sym unblocked
first-waits f g false a b free unblocked = refl

-- a call by the thread that was chosen
pub step-chosen : (s : State) (t : ℕ) (c : Call) → current_of s ≡ Some t → step s c ≡ step_outcome t c (case_of s t c)
unfolding step step_by
step-chosen s t c turn = rw (chosen_of s.ended turn) refl
  where
    chosen_of : (b : Bool) → cond b None (choice s) ≡ Some t → choice s ≡ Some t
    chosen_of true h = absurd (cc)
    chosen_of false h = h

module _ (s : State) (lawful : Lawful s None) (c : Call) (t : ℕ) (turn : current_of s ≡ Some t) where
  chooses : choice s ≡ Some t
  chooses = by_end s.ended turn
    where
      by_end : (b : Bool) → cond b None (choice s) ≡ Some t → choice s ≡ Some t
      by_end true h = absurd (cc)
      by_end false h = h

  goes_on : s.ended ≡ false
  goes_on = by_end s.ended turn
    where
      by_end : (b : Bool) → cond b None (choice s) ≡ Some t → b ≡ false
      by_end true h = absurd (cc)
      by_end false h = refl

  -- a refused call leaves the state
  pub refusal-leaves : IsTrue (is_refusal s c) → (step s c).after ≡ s
  refusal-leaves refused = by_own (case_of s t c).own refl (rw chooses at refused)
    where
      by_own : (o : Option Answer) → (case_of s t c).own ≡ o → passes refuses o ≡ true → (step s c).after ≡ s
      by_own None e h = absurd (cc)
      by_own (Some a) e h = by_answer a e h
        where
          by_answer : (a : Answer) → (case_of s t c).own ≡ Some a → refuses a ≡ true → (step s c).after ≡ s
          by_answer (answer.Refused err) e h = ap (λ (out : Outcome). out.after) (refused_step s t chooses goes_on c err e)
          by_answer (answer.Value n) e h = absurd (cc)
          by_answer (answer.Thread n) e h = absurd (cc)
          by_answer (answer.Monitor n) e h = absurd (cc)
          by_answer (answer.Cond n) e h = absurd (cc)
          by_answer (answer.Letter from text room) e h = absurd (cc)
          by_answer (answer.Reply text) e h = absurd (cc)
          by_answer (answer.Bound func arg) e h = absurd (cc)
          by_answer (answer.Caught depth mark pat) e h = absurd (cc)
          by_answer (answer.Ids kind list) e h = absurd (cc)

  module _ (parts : Parts) (carried : state_of parts ≡ (case_of s t c).after) where
    -- the step's state, from that of the case
    pub stepped : (step s c).after ≡ record (state_of parts) { ended = ends (state_of parts) }
    stepped = ap (λ (out : Outcome). out.after) (step-chosen s t c turn) ∙ ap (λ (now : State). record now { ended = ends now }) (sym carried)

    -- and its effects, after the call itself
    pub told : (before after last : List Effect) → before ≡ []
        → after ≡ before ++ ((case_of s t c).others ++ own_effects t (case_of s t c).own) → last ≡ after ++ end_effects (state_of parts)
        → call_effects (current_of s) c ++ last ≡ (step s c).effects
    told before after last none tells ends =
        ap (λ o. call_effects o c ++ last) turn
        ∙ ap (λ es. effect.Called t c ∷ es)
        (ends ∙ ap (λ es. es ++ end_effects (state_of parts)) (tells ∙ ap (λ es. es ++ ((case_of s t c).others ++ own_effects t (case_of s t c).own)) none))
        ∙ ap (λ es. effect.Called t c ∷ es) (append_assoc (case_of s t c).others (own_effects t (case_of s t c).own) (end_effects (state_of parts)))
        ∙ ap (λ now. effect.Called t c ∷ ((case_of s t c).others ++ (own_effects t (case_of s t c).own ++ end_effects now))) carried
        ∙ sym (ap (λ (out : Outcome). out.effects) (step-chosen s t c turn))

    pub few_status : parts.exit ≤ 99
    few_status = omega (arith, (Lawful-step s lawful c).nine.levels.2, ap (λ (now : State). now.status) stepped)

-- what is told but the call itself

forgets-behind : (now : State) (o : Option ℕ) (c : Call) (es : List Effect) → ForgetsTheDead now (call_effects o c ++ es) → ForgetsTheDead now es
forgets-behind now None c es h = h
forgets-behind now (Some t) c es h = h

runs-behind : (s now : State) (o : Option ℕ) (c : Call) (es : List Effect) → RunsExitsOnce s c now (call_effects o c ++ es) → RunsExitsOnce s c now es
runs-behind s now None c es h = h
runs-behind s now (Some t) c es h = h

module _ (s now : State) (lawful : Lawful s None) (c : Call) (es : List Effect) (after : now ≡ (step s c).after)
    (effects : call_effects (current_of s) c ++ es ≡ (step s c).effects) where
  -- one that died is forgotten
  pub forgets : ForgetsTheDead now es
  forgets = forgets-behind now (current_of s) c es
      (subst (λ (x : State). ForgetsTheDead x (call_effects (current_of s) c ++ es)) (sym after)
      (subst (λ (told : List Effect). ForgetsTheDead (step s c).after told) (sym effects) (the_dead_are_forgotten s lawful c)))

  -- exit procedures ran once
  pub runs : RunsExitsOnce s c now es
  runs = runs-behind s now (current_of s) c es
      (subst (λ (x : State). RunsExitsOnce s c x (call_effects (current_of s) c ++ es)) (sym after)
      (subst (λ (told : List Effect). RunsExitsOnce s c (step s c).after told) (sym effects) (exits_run_once s lawful c)))

-- the clock, and all other events

module _ (s : State) (e : ℕ) (text : List ℕ) where
  pub deliver-clock : eqb e 0 ≡ true → deliver s e text ≡ tick s
  unfolding deliver
  deliver-clock clock = rw clock refl

  pub deliver-agent : eqb e 0 ≡ false → deliver s e text ≡ for_each (deliver_to text) (event_agents s.agents e) s
  unfolding deliver
  deliver-agent other = rw other refl

-- in a pod that goes on, an event can be delivered where the clock can tick, or its agents are armed
module _ (s : State) (goes_on : s.ended ≡ false) where
  agents-armed : (k : ℕ) → 1 ≤ k → is_event_armed s k ≡ is_armed s.agents k
  agents-armed k least = rw (goes_on, ne_eqb k 0 (λ zero. omega (arith, least, zero))) refl

  module _ (from : ℕ) (least : 1 ≤ from) where
    pub nowhere-armed : (o : Option ℕ) → IfNone o (HoldsNowhere (is_armed s.agents) from 32) → IfNone o (HoldsNowhere (is_event_armed s) from 32)
    nowhere-armed None h = λ k low high. agents-armed k (omega (arith, least, low)) ∙ h k low high
    nowhere-armed (Some e) h = h

    pub first-armed : (o : Option ℕ) → IfSome o (λ e. IsFirstPlace (is_armed s.agents) from 32 e) → IfSome o (λ e. IsFirstPlace (is_event_armed s) from 32 e)
    first-armed None h = h
    first-armed (Some e) h = record {
      low = h.low;
      high = h.high;
      before = λ k low under. agents-armed k (omega (arith, least, low)) ∙ h.before k low under;
      hit = λ within. agents-armed e (omega (arith, least, h.low)) ∙ h.hit within;
    }

  -- the clock is looked at first
  pub clock-armed : may_tick s ≡ true → IsFirstPlace (is_event_armed s) 0 32 0
  clock-armed ticks = record { low = omega arith; high = omega arith; before = λ k low under. absurd (omega (arith, under)); hit = λ within. rw goes_on ticks }

  module _ (over : may_tick s ≡ false) where
    unarmed : (k : ℕ) → k < 1 → is_event_armed s k ≡ false
    unarmed k under = rw (goes_on, eq-eqb k 0 (omega (arith, under))) over

    pub nowhere-zero : (o : Option ℕ) → IfNone o (HoldsNowhere (is_event_armed s) 1 32) → IfNone o (HoldsNowhere (is_event_armed s) 0 32)
    nowhere-zero None h = λ k low high. elim (cases_lt k 1) [
      | inl under ↦ unarmed k under
      | inr above ↦ h k (omega (arith, above)) high
    ]
    nowhere-zero (Some e) h = h

    pub first-zero : (o : Option ℕ) → IfSome o (λ e. IsFirstPlace (is_event_armed s) 1 32 e) → IfSome o (λ e. IsFirstPlace (is_event_armed s) 0 32 e)
    first-zero None h = h
    first-zero (Some e) h = record {
      low = omega arith;
      high = h.high;
      before = λ k low under. elim (cases_lt k 1) [
        | inl first ↦ unarmed k first
        | inr above ↦ h.before k (omega (arith, above)) under
      ];
      hit = h.hit;
    }
