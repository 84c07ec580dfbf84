-- A delivery leaves the threads that may run in the run queue, and ends no pod.
use Rattle.std.proofs.Common.{◌≡◌, ℕ, List, [], ◌∷◌, ◌++◌, Bool, true, false, cond, eqb, None, Some, ◌∙◌, refl}
use Rattle.std.specs.Prelude.{Option, is_some, nat_le, not, ◌&&◌}
use Rattle.std.specs.List.{fold}
use Rattle.event_gate.specs.Shelves.{first_left}
use Rattle.pod_events.specs.Events.{EventState, after_pass_on, after_take_trap, has_turn, is_takeable, is_trapped, take_event}
use Rattle.lwp_types.specs.Agents.{deliver, deliver_to, event_agents, message}
use Rattle.lwp_types.specs.Choice.{best_by, better_by, choice}
use Rattle.lwp_types.specs.Messages.{as_answer, as_received, post, takes_from}
use Rattle.lwp_types.specs.State.{Outcome, State, and_then, for_each, is_suspended_in, passes, priority_in, still, thread_of}
use Rattle.lwp_types.specs.Time.{after_tick, due_threads, tick, time_out}
use Rattle.lwp_types.specs.Unblock.{unblock}
use Rattle.lwp_types.specs.declared.call.Line.{Line}
use Rattle.lwp_types.specs.declared.rows.AgentRow.{AgentRow}
use Rattle.lwp_types.specs.declared.rows.Letter.{Letter}
use Rattle.pod_runner.specs.Eager.{Plan, Planned, after_offer, after_offer_by, after_take, boundary, pod_of}
use Rattle.pod_runner.specs.Over.{events}
use Rattle.pod_runner.specs.Phase.{phase_by, phase_of}
use Rattle.pod_runner.specs.Session.{take_move}
use Rattle.pod_runner.specs.declared.phase.Phase.TheVariants as phase

-- somebody is chosen exactly where somebody is in the run queue
best-some : {A : Type 0} (weight : A → ℕ) (xs : List A) (y : A) → is_some (fold (better_by weight) (Some y) xs) ≡ true
best-some weight [] y = refl
best-some weight (x ∷ xs) y = by_weight (nat_le (weight x) (weight y)) (λ z. best-some weight xs z)
  where
    by_weight : (b : Bool) → ((z : _) → is_some (fold (better_by weight) (Some z) xs) ≡ true)
        → is_some (fold (better_by weight) (cond b (Some y) (Some x)) xs) ≡ true
    by_weight true rest = rest y
    by_weight false rest = rest x

-- the run queue is longer, if it is another
order-kept : (v w : ℕ → ℕ) (order : List ℕ) (t : ℕ) (b : Bool) → is_some (best_by v order) ≡ true → is_some (best_by w (cond b order (order ++ t ∷ []))) ≡ true
order-kept v w [] t b h = absurd (cc)
order-kept v w (x ∷ xs) t true h = best-some w xs x
order-kept v w (x ∷ xs) t false h = best-some w (xs ++ t ∷ []) x

order-same : (v w : ℕ → ℕ) (order : List ℕ) → is_some (best_by v order) ≡ true → is_some (best_by w order) ≡ true
order-same v w [] h = absurd (cc)
order-same v w (x ∷ xs) h = best-some w xs x

-- a pod that goes on goes on, and somebody may run, if somebody might
pub record Kept (s u : State) : Type 0 where
  pub ended : u.ended ≡ s.ended
  pub chosen : is_some (choice s) ≡ true → is_some (choice u) ≡ true

post-kept : (letter : Letter) (s : State) → Kept s (post letter s).after
post-kept letter s = by_taken (passes (λ row. takes_from letter.from row.block) (thread_of s letter.to))
  where
    by_taken : (b : Bool) → Kept s (cond {A = Outcome} b
        (unblock (as_answer letter) letter.to (record s { letters = s.letters ++ as_received letter ∷ [] }))
        (still (record s { letters = s.letters ++ letter ∷ [] }))).after
    by_taken true = record { ended = refl; chosen = order-kept (priority_in s) _ s.order letter.to (is_suspended_in s letter.to) }
    by_taken false = record { ended = refl; chosen = order-same (priority_in s) _ s.order }

kept-then : (s u v : State) → Kept s u → Kept u v → Kept s v
kept-then s u v one two = record { ended = two.ended ∙ one.ended; chosen = λ h. two.chosen (one.chosen h) }

kept-each : {A : Type 0} (change : A → State → Outcome) → ((x : A) (s : State) → Kept s (change x s).after) → (xs : List A) (s : State)
    → Kept s (for_each change xs s).after
unfolding for_each and_then
kept-each change kept [] s = record { ended = refl; chosen = λ h. h }
kept-each change kept (x ∷ xs) s = kept-then s (change x s).after _ (kept x s) (kept-each change kept xs (change x s).after)

time_out-kept : (t : ℕ) (s : State) → Kept s (time_out t s).after
time_out-kept t s = record { ended = refl; chosen = order-kept (priority_in s) _ s.order t (is_suspended_in s t) }

tick-kept : (s : State) → Kept s (tick s).after
unfolding and_then
tick-kept s = kept-then s (after_tick s) _ (record { ended = refl; chosen = λ h. h })
    (kept-each time_out time_out-kept (due_threads (after_tick s)) (after_tick s))

deliver_to-kept : (text : List ℕ) (row : AgentRow) (s : State) → Kept s (deliver_to text row s).after
unfolding and_then
deliver_to-kept text row s = let k = post-kept (message text row) _ in record { ended = k.ended; chosen = λ h. k.chosen h }

pub deliver-kept : (s : State) (e : ℕ) (text : List ℕ) → Kept s (deliver s e text).after
unfolding deliver
deliver-kept s e text = by_clock (eqb e 0)
  where
    by_clock : (b : Bool) → Kept s (cond b (tick s) (for_each (deliver_to text) (event_agents s.agents e) s)).after
    by_clock true = tick-kept s
    by_clock false = kept-each (deliver_to text) (deliver_to-kept text) (event_agents s.agents e) s

pub take-kept : (es : EventState) (e : ℕ) (text : List ℕ) → Kept es.state (take_event es e text).after.state
unfolding take_event
take-kept es e text = by_trapped (is_trapped es.trapped e)
  where
    by_trapped : (b : Bool) → Kept es.state (cond b (after_take_trap es e) (after_pass_on es (deliver es.state e text))).after.state
    by_trapped true = record { ended = refl; chosen = λ h. h }
    by_trapped false = deliver-kept es.state e text

pub phase-kept : (s u : State) (turns calls : ℕ) → Kept s u → phase_of s turns calls ≡ phase.Turn → phase_of u turns calls ≡ phase.Turn
phase-kept s u turns calls k h = by_end s.ended (choice s) u.ended (choice u) k.ended k.chosen h
  where
    by_end : (a : Bool) (o : Option ℕ) (b : Bool) (p : Option ℕ) → b ≡ a → (is_some o ≡ true → is_some p ≡ true)
        → cond a (phase.Ended s.status) (phase_by turns calls o) ≡ phase.Turn → cond b (phase.Ended u.status) (phase_by turns calls p) ≡ phase.Turn
    by_end true o b p e c h = absurd (cc)
    by_end false None b p e c h = absurd (cc)
    by_end false (Some t) true p e c h = absurd (cc)
    by_end false (Some t) false None e c h = let no = c refl in absurd (cc)
    by_end false (Some t) false (Some u) e c h = h

-- in phase Turn somebody may run, and the pod goes on
pub phase-runs : (s : State) (turns calls : ℕ) → phase_of s turns calls ≡ phase.Turn → has_turn s ≡ true
phase-runs s turns calls h = by_end s.ended (choice s) h
  where
    by_end : (a : Bool) (o : Option ℕ) → cond a (phase.Ended s.status) (phase_by turns calls o) ≡ phase.Turn → (not a && is_some o) ≡ true
    by_end true o h = absurd (cc)
    by_end false None h = absurd (cc)
    by_end false (Some t) h = refl

module _ {B : Type 0} (planned : Planned B) where
  taken-turn : (e : ℕ) (line : Line) (plan : Plan B) → phase_of (pod_of plan).state planned.turns plan.calls ≡ phase.Turn
      → phase_of (pod_of (after_take planned e line plan)).state planned.turns (after_take planned e line plan).calls ≡ phase.Turn
  unfolding take_move
  taken-turn e line plan h =
      phase-kept (pod_of plan).state (take_event (pod_of plan) e line.text).after.state planned.turns plan.calls (take-kept (pod_of plan) e line.text) h

  abbrev IsTurn : Plan B → Type 0
  IsTurn plan = phase_of (pod_of plan).state planned.turns plan.calls ≡ phase.Turn

  by_line : (e : ℕ) (plan : Plan B) (o : Option Line) → IsTurn plan → IsTurn (after_offer_by planned e plan o)
  by_line e plan None h = h
  by_line e plan (Some line) h = taken-turn e line plan h

  by_armed : (e : ℕ) (plan : Plan B) (b : Bool) → IsTurn plan
      → IsTurn (elim b as (λ _. Plan B) [ true ↦ after_offer_by planned e plan (first_left plan.left e) | false ↦ plan ])
  by_armed e plan true h = by_line e plan (first_left plan.left e) h
  by_armed e plan false h = h

  serves-turn : (es : List ℕ) (plan : Plan B) → IsTurn plan → IsTurn (fold (λ (now : Plan B) e. after_offer planned e now) plan es)
  serves-turn [] plan h = h
  serves-turn (e ∷ es) plan h = serves-turn es (after_offer planned e plan) (by_armed e plan (is_takeable (pod_of plan) e) h)

  pub boundary-turn : (plan : Plan B) → IsTurn plan → IsTurn (boundary planned plan)
  boundary-turn plan h = serves-turn events plan h
