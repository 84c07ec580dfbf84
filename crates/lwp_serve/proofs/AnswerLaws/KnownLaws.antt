-- What is known of a client, step by step and round by round.
use Rattle.event_gate.specs.Shelves.{first_left}
use Rattle.lwp_types.specs.declared.call.Effect.{Effect}
use Rattle.lwp_types.specs.declared.call.Line.{Line}
use Rattle.pod_events.specs.Events.{is_takeable}
use Rattle.pod_runner.proofs.Rounds.{but_last-extended}
use Rattle.pod_runner.proofs.Turns.{last_effects-step}
use Rattle.pod_runner.specs.Calls.{last_call, call_of_effects}
use Rattle.pod_runner.specs.Eager.{Plan, Planned, after_advance, after_offer, after_offer_by, boundary, has_choice, one_call, plan_over, pod_of, round, took_of}
use Rattle.pod_runner.specs.Over.{events}
use Rattle.pod_runner.specs.Run.{but_last}
use Rattle.pod_runner.specs.Session.{Made, call_step, move, take_move}
use Rattle.pod_runner.specs.declared.session.Took.{Took}
use Rattle.lwp_serve.specs.Answers.Replies.{Known, call_in, known_after_call, known_after_steps, known_after_step, nothing_known, replies_in, texts_told}
use Rattle.std.proofs.Common.{Bool, List, None, Option, Some, [], ap, append-nil, append_assoc, arith, false, refl, sym, true, ℕ, ◌++◌, ◌∙◌, ◌∷◌, ◌≡◌, ◌≢◌}
use Rattle.std.proofs.lemmas.List.Sums.{fold-append}
use Rattle.std.specs.List.{fold}
use Rattle.trace_text.specs.declared.ends.Halt.{Halt}

module _ (event : Option ℕ) where
  -- a step in which a line was taken tells nothing
  take-step : (known : Known) (took : Took) (effects : List Effect) → known_after_step event known (record { take = Some took; effects = effects }) ≡ known
  take-step known took effects = ap (λ replies. record { agents = known.agents; replies = replies }) (append-nil known.replies)

  known-push : (steps : List Made) (step : Made) → known_after_steps event (steps ++ step ∷ []) ≡ known_after_step event (known_after_steps event steps) step
  known-push steps step = fold-append (known_after_step event) nothing_known steps (step ∷ [])

  -- what was told stays, with more after it
  known-grow : (known : Known) (steps : List Made) → (more : List ℕ) × ((fold (known_after_step event) known steps).replies ≡ known.replies ++ more)
  known-grow known [] = ([], sym (append-nil known.replies))
  known-grow known (step ∷ steps) =
      let rest = known-grow (known_after_step event known step) steps in
      let told = texts_told known.agents (call_in step.take step.effects) in
      (told ++ rest.0, rest.1 ∙ append_assoc known.replies told rest.0)

  pub replies-grow : (steps rest whole : List Made) → whole ≡ steps ++ rest → (more : List ℕ) × (replies_in event whole ≡ replies_in event steps ++ more)
  unfolding replies_in
  replies-grow steps rest whole is =
      let found = known-grow (known_after_steps event steps) rest in
      (found.0, ap (λ steps. (known_after_steps event steps).replies) is ∙ ap (λ (known : Known). known.replies) (fold-append (known_after_step event) nothing_known steps rest) ∙ found.1)

  module _ {B : Type 0} (planned : Planned B) where
    abbrev pub known_of : Plan B → Known
    known_of plan = known_after_steps event plan.session.steps

    -- ---- lines that are taken tell nothing

    by_line : (e : ℕ) (plan : Plan B) (o : Option Line) → known_of (after_offer_by planned e plan o) ≡ known_of plan
    by_line e plan None = refl
    by_line e plan (Some line) =
        let took = took_of e line plan in
        let effects = (take_move planned.setting.bodies took plan.session.live).effects in
        known-push plan.session.steps (record { take = Some took; effects = effects }) ∙ take-step (known_of plan) took effects

    by_armed : (e : ℕ) (plan : Plan B) (b : Bool)
        → known_of (elim b as (λ _. Plan B) [ true ↦ after_offer_by planned e plan (first_left plan.left e) | false ↦ plan ]) ≡ known_of plan
    by_armed e plan true = by_line e plan (first_left plan.left e)
    by_armed e plan false = refl

    serves-known : (es : List ℕ) (plan : Plan B) → known_of (fold (λ (now : Plan B) e. after_offer planned e now) plan es) ≡ known_of plan
    serves-known [] plan = refl
    serves-known (e ∷ es) plan = serves-known es (after_offer planned e plan) ∙ by_armed e plan (is_takeable (pod_of plan) e)

    boundary-known : (plan : Plan B) → known_of (boundary planned plan) ≡ known_of plan
    boundary-known plan = serves-known events plan

    -- and make no calls

    line-calls : (e : ℕ) (plan : Plan B) (o : Option Line) → (after_offer_by planned e plan o).calls ≡ plan.calls
    line-calls e plan None = refl
    line-calls e plan (Some line) = refl

    armed-calls : (e : ℕ) (plan : Plan B) (b : Bool)
        → (elim b as (λ _. Plan B) [ true ↦ after_offer_by planned e plan (first_left plan.left e) | false ↦ plan ]).calls ≡ plan.calls
    armed-calls e plan true = line-calls e plan (first_left plan.left e)
    armed-calls e plan false = refl

    serves-calls : (es : List ℕ) (plan : Plan B) → (fold (λ (now : Plan B) e. after_offer planned e now) plan es).calls ≡ plan.calls
    serves-calls [] plan = refl
    serves-calls (e ∷ es) plan = serves-calls es (after_offer planned e plan) ∙ armed-calls e plan (is_takeable (pod_of plan) e)

    boundary-calls : (plan : Plan B) → (boundary planned plan).calls ≡ plan.calls
    boundary-calls plan = serves-calls events plan

    -- ---- a call tells what it is

    call-known : (plan : Plan B) → known_of (one_call planned plan) ≡ known_after_call event (known_of plan) (last_call (one_call planned plan).session.steps)
    call-known plan =
        let effects = (move planned.setting.next planned.setting.bodies plan.session.live).effects in
        known-push plan.session.steps (record { take = None; effects = effects })
        ∙ ap (λ es. known_after_call event (known_of plan) (call_of_effects es)) (sym (last_effects-step plan.session.steps None effects))

    abbrev advanced_by : Plan B → Bool → Plan B
    advanced_by plan b = elim b as (λ _. Plan B) [ true ↦ one_call planned (boundary planned plan) | false ↦ boundary planned plan ]

    pub advanced-called : (plan : Plan B) → (after_advance planned plan).calls ≢ plan.calls
        → known_of (after_advance planned plan) ≡ known_after_call event (known_of plan) (last_call (after_advance planned plan).session.steps)
    advanced-called plan h = by (has_choice plan) h
      where
        by : (b : Bool) → (advanced_by plan b).calls ≢ plan.calls
            → known_of (advanced_by plan b) ≡ known_after_call event (known_of plan) (last_call (advanced_by plan b).session.steps)
        by true h = call-known (boundary planned plan)
            ∙ ap (λ known. known_after_call event known (last_call (one_call planned (boundary planned plan)).session.steps)) (boundary-known plan)
        by false h = absurd (h (boundary-calls plan))

    -- before it, nothing more was known
    pub advanced-before : (plan : Plan B) → (after_advance planned plan).calls ≢ plan.calls
        → known_after_steps event (but_last (after_advance planned plan).session.steps) ≡ known_of plan
    advanced-before plan h = by (has_choice plan) h
      where
        by : (b : Bool) → (advanced_by plan b).calls ≢ plan.calls → known_after_steps event (but_last (advanced_by plan b).session.steps) ≡ known_of plan
        by true h = let before = (boundary planned plan).session in
            ap (known_after_steps event) (but_last-extended (call_step planned.setting before) before None
            (move planned.setting.next planned.setting.bodies before.live) refl)
            ∙ boundary-known plan
        by false h = absurd (h (boundary-calls plan))

    -- a round without a call tells nothing
    pub advanced-still : (plan : Plan B) → (after_advance planned plan).calls ≡ plan.calls → known_of (after_advance planned plan) ≡ known_of plan
    advanced-still plan h = by (has_choice plan) h
      where
        by : (b : Bool) → (advanced_by plan b).calls ≡ plan.calls → known_of (advanced_by plan b) ≡ known_of plan
        by true h = let same = boundary-calls plan in absurd (omega (arith, h, same))
        by false h = boundary-known plan

    pub round-goes-on : (plan : Plan B) → plan_over planned plan ≡ None → round planned plan ≡ after_advance planned plan
    round-goes-on plan is = ap (λ (o : Option Halt). elim o as (λ _. Plan B) [ None ↦ after_advance planned plan | Some halt ↦ plan ]) is

    pub round-ends : (plan : Plan B) (halt : Halt) → plan_over planned plan ≡ Some halt → round planned plan ≡ plan
    round-ends plan halt is = ap (λ (o : Option Halt). elim o as (λ _. Plan B) [ None ↦ after_advance planned plan | Some halt ↦ plan ]) is
