-- The session of a plan is the one that its takes and calls play.
use Rattle.answer_laws.specs.Written.{PlansAreSessions}
use Rattle.event_gate.specs.Shelves.{first_left}
use Rattle.lwp_types.specs.declared.call.Line.{Line}
use Rattle.pod_events.specs.Events.{is_takeable}
use Rattle.pod_runner.proofs.Plays.{play-call, play-take, play-zero}
use Rattle.pod_runner.specs.Eager.{Plan, Planned, after_advance, after_offer, after_offer_by, after_take, boundary}
use Rattle.pod_runner.specs.Eager.{has_choice, one_call, plan_over, plan_whole, pod_of, to_the_end}
use Rattle.pod_runner.specs.Over.{events}
use Rattle.pod_runner.specs.Play.{LastBy, play}
use Rattle.pod_runner.specs.Session.{call_step, take_step}
use Rattle.pod_runner.specs.declared.session.Took.{Took}
use Rattle.lwp_serve.specs.Answers.Replies.{event_of, replies_in}
use Rattle.lwp_serve.specs.Plan.Planned.{calls_of, planned_of, takes_of}
use Rattle.std.proofs.Common.{Bool, List, None, Option, Some, [], ap, arith, false, refl, subst, suc, sym, true, zero, ℕ, ◌+◌, ◌∙◌, ◌∷◌, ◌≡◌}
use Rattle.std.proofs.lemmas.List.{reverse-append}
use Rattle.std.specs.List.{fold}
use Rattle.std.specs.Prelude.{reverse}
use Rattle.trace_text.specs.declared.ends.Halt.{Halt}

module _ {B : Type 0} (planned : Planned B) where
  record Kept (plan : Plan B) : Type 0 where
    is : plan.session ≡ play planned.setting plan.takes plan.calls
    last : LastBy (reverse plan.takes) plan.calls

  kept_line : (e : ℕ) (line : Line) (plan : Plan B) → Kept plan → Kept (after_take planned e line plan)
  kept_line e line plan h = record {
    is = ap (take_step planned.setting (record { turn = plan.calls; event = e; line = line })) h.is
        ∙ sym (play-take planned.setting (record { turn = plan.calls; event = e; line = line }) plan.takes plan.calls refl);
    last = subst (λ xs. LastBy xs plan.calls) (sym (reverse-append plan.takes (record { turn = plan.calls; event = e; line = line } ∷ []))) (omega arith);
  }

  kept_offered : (e : ℕ) (plan : Plan B) → Kept plan → Kept (after_offer planned e plan)
  kept_offered e plan h = by_takeable (is_takeable (pod_of plan) e) (first_left plan.left e)
    where
      by_takeable : (b : Bool) (o : Option Line) → Kept (elim b as (λ _. Plan B) [ true ↦ after_offer_by planned e plan o | false ↦ plan ])
      by_takeable true None = h
      by_takeable true (Some line) = kept_line e line plan h
      by_takeable false o = h

  kept_events : (es : List ℕ) (plan : Plan B) → Kept plan → Kept (fold (λ now e. after_offer planned e now) plan es)
  kept_events [] plan h = h
  kept_events (e ∷ es) plan h = kept_events es (after_offer planned e plan) (kept_offered e plan h)

  last_later : (takes : List Took) (n : ℕ) → LastBy takes n → LastBy takes (n + 1)
  last_later [] n h = tt
  last_later (took ∷ takes) n h = omega (arith, h)

  kept_call : (plan : Plan B) → Kept plan → Kept (one_call planned plan)
  kept_call plan h = record {
    is = ap (call_step planned.setting) h.is ∙ sym (play-call planned.setting plan.takes plan.calls h.last);
    last = last_later (reverse plan.takes) plan.calls h.last;
  }

  kept_advanced : (plan : Plan B) → Kept plan → Kept (after_advance planned plan)
  kept_advanced plan h = by_choice (has_choice plan)
    where
      by_choice : (b : Bool) → Kept (elim b as (λ _. Plan B) [ true ↦ one_call planned (boundary planned plan) | false ↦ boundary planned plan ])
      by_choice true = kept_call (boundary planned plan) (kept_events events plan h)
      by_choice false = kept_events events plan h

  kept_end : (n : ℕ) (plan : Plan B) → Kept plan → Kept (to_the_end planned n plan)
  unfolding to_the_end
  kept_end zero plan h = h
  kept_end (suc n) plan h = by_over (plan_over planned plan) (kept_end n (after_advance planned plan) (kept_advanced plan h))
    where
      by_over : (o : Option Halt) → Kept (to_the_end planned n (after_advance planned plan))
          → Kept (elim o as (λ _. Plan B) [ None ↦ to_the_end planned n (after_advance planned plan) | Some halt ↦ plan ])
      by_over None rest = rest
      by_over (Some halt) rest = h

pub plans_are_sessions : PlansAreSessions
unfolding plan_whole takes_of calls_of
plans_are_sessions script turns client = ap (λ session. replies_in (event_of script client) session.steps)
    (kept_end (planned_of script turns) _ _ (record { is = sym (play-zero (planned_of script turns).setting); last = tt })).is
