-- A delivery leaves a thread that waits for a blocked one as it is, but for a tick that makes its timer due.
use Rattle.deadlock_laws.proofs.Cycles.{has_next, is_head, next_goes, round_lasts}
use Rattle.deadlock_laws.proofs.Frames.{Framed, framed_still, framed_then, next_framed, same_lists}
use Rattle.deadlock_laws.proofs.Lasting.{Waiter, blocked_by, waiter_row}
use Rattle.deadlock_laws.proofs.Posting.{each_freed, freed, not_taker, post_framed, taker}
use Rattle.deadlock_laws.proofs.Staying.{blocked_row}
use Rattle.deadlock_laws.specs.Deadlocks.{CyclesLastInDeliveries, TheirWaitersStayInDeliveries, block_in, is_timed_out}
use Rattle.lwp_types.specs.Agents.{deliver, deliver_to, event_agents, is_for, message}
use Rattle.lwp_types.specs.Lawful.{Lawful}
use Rattle.lwp_types.specs.Messages.{takes_from, with_holding}
use Rattle.lwp_types.specs.State.{State, ThreadRow, for_each, is_agent, is_agent_row, is_blocked_in, member, thread_of, and_then}
use Rattle.lwp_types.specs.Time.{after_tick, due_threads, tick, time_out}
use Rattle.lwp_types.specs.declared.rows.AgentRow.{AgentRow}
use Rattle.lwp_types.specs.declared.rows.Block.{Block}
use Rattle.pod_laws.proofs.Elements.{all_filter, differ, false_of}
use Rattle.state_text.specs.Waiting.{next_of}
use Rattle.std.proofs.Common.{Bool, List, None, Some, [], ap, cond, eqb, false, length, not, refl, sym, true, ℕ, ◌&&◌, ◌||◌, ◌∙◌, ◌∷◌, ◌≡◌}
use Rattle.std.proofs.lemmas.Bool.{and_parts, eqb-false}
use Rattle.std.specs.List.{find, list_all, list_any}
use Rattle.std.specs.Prelude.{is_some, option_map}

-- where none passes, all fail
none_passes : {A : Type 0} (p : A → Bool) (xs : List A) → list_any p xs ≡ false → list_all (λ x. not (p x)) xs ≡ true
none_passes p [] none = refl
none_passes p (x ∷ xs) none = by_head (p x) none (none_passes p xs)
  where
    by_head : (b : Bool) → (b || list_any p xs) ≡ false → (list_any p xs ≡ false → list_all (λ x. not (p x)) xs ≡ true)
        → (not b && list_all (λ x. not (p x)) xs) ≡ true
    by_head true none rest = differ none
    by_head false none rest = rest none

-- and so where none is found
none_found : {A : Type 0} (p : A → Bool) (xs : List A) → is_some (find p xs) ≡ false → list_all (λ x. not (p x)) xs ≡ true
none_found p [] none = refl
none_found p (x ∷ xs) none = by_head (p x) none (none_found p xs)
  where
    by_head : (b : Bool) → is_some (cond b (Some x) (find p xs)) ≡ false → (is_some (find p xs) ≡ false → list_all (λ x. not (p x)) xs ≡ true)
        → (not b && list_all (λ x. not (p x)) xs) ≡ true
    by_head true none rest = differ none
    by_head false none rest = rest none

module _ (h v : ℕ) where
  ticked : (s : State) → member h (due_threads (after_tick s)) ≡ false → Framed h v s (tick s).after
  unfolding and_then
  ticked s early = framed_then h v s (after_tick s) _ (same_lists h v s (after_tick s) refl refl refl)
      (each_freed h v time_out (λ u now away. freed h v now _ u away refl (λ e. e) (λ m e. e)) (due_threads (after_tick s))
      (none_passes (λ u. eqb u h) (due_threads (after_tick s)) early) (after_tick s))

  module _ (text : List ℕ) (b : Block) (waits : (n : ℕ) → takes_from n b ≡ true → v ≡ n) where
    -- an agent has a message, and isn't the one that h waits for
    one_delivered : (row : AgentRow) → not (is_agent_row v row) ≡ true → (now : State) → block_in now h ≡ Some b
        → Framed h v now (deliver_to text row now).after
    unfolding and_then
    one_delivered row apart now is =
        let held = record now { agents = with_holding row.number true now.agents } in
        framed_then h v now held _ (same_lists h v now held refl refl refl)
        (post_framed h v (message text row) held
        (not_taker held h row.number b is (λ takes. eqb-false row.number v (false_of _ apart) (sym (waits row.number takes))) row.owner))

    each_delivered : (rows : List AgentRow) → list_all (λ row. not (is_agent_row v row)) rows ≡ true → (now : State) → block_in now h ≡ Some b
        → Framed h v now (for_each (deliver_to text) rows now).after
    unfolding for_each and_then
    each_delivered [] apart now is = framed_still h v now
    each_delivered (row ∷ rows) apart now is =
        let parts = and_parts _ _ apart in
        let one = one_delivered row parts.0 now is in
        framed_then h v now (deliver_to text row now).after _ one (each_delivered rows parts.1 (deliver_to text row now).after (one.block ∙ is))

-- a thread is no agent
pub no_agent : (s : State) → Lawful s None → (v : ℕ) (row : ThreadRow) → thread_of s v ≡ Some row → is_agent s v ≡ false
no_agent s was v row known = by_test (is_agent s v) (ap (λ b. not (b && is_agent s v)) (sym (ap is_some known)) ∙ was.nine.numbers.2 v)
  where
    by_test : (b : Bool) → not (true && b) ≡ true → b ≡ false
    by_test true h = differ (sym h)
    by_test false h = refl

delivery_framed : (s : State) → Lawful s None → (e : ℕ) (text : List ℕ) (h v : ℕ) → Waiter s h v → is_blocked_in s v ≡ true
    → is_timed_out s e h ≡ false → Framed h v s (deliver s e text).after
unfolding deliver
delivery_framed s was e text h v its blocked early = by_clock (eqb e 0) early
  where
    by_clock : (b : Bool) → (b && member h (due_threads (after_tick s))) ≡ false
        → Framed h v s (cond b (tick s) (for_each (deliver_to text) (event_agents s.agents e) s)).after
    by_clock true early = ticked h v s early
    by_clock false early =
        let to = blocked_row s v blocked in
        each_delivered h v text its.row.block (λ n takes. taker s h v n its.row.block its.waits takes) (event_agents s.agents e)
        (all_filter (λ row. not (is_agent_row v row)) (λ row. not (is_agent_row v row)) (is_for e) (λ row here apart. apart) s.agents
        (none_found (is_agent_row v) s.agents (no_agent s was v to.row to.known)))
        s (ap (option_map (λ (r : ThreadRow). r.block)) its.known)

pub their_waiters_stay_in_deliveries : TheirWaitersStayInDeliveries
their_waiters_stay_in_deliveries s was e text h v waits blocked early =
    next_framed h v s (deliver s e text).after (delivery_framed s was e text h v (waiter_row s h v waits) blocked early) waits

pub cycles_last_in_deliveries : CyclesLastInDeliveries
cycles_last_in_deliveries s was e text t us is early =
    let first = has_next (next_of s) t (length s.threads) t us is in
    let second = next_goes (next_of s) t (length s.threads) t us first is first.to first.is in
    let framed = delivery_framed s was e text t first.to (waiter_row s t first.to first.is) (blocked_by s first.to second.to second.is)
    (is_head (next_of s) t (length s.threads) t us is (is_timed_out s e) early) in
    round_lasts (next_of s) t (next_of (deliver s e text).after) first (is_timed_out s e)
    (λ h v w calm waits goes_on. their_waiters_stay_in_deliveries s was e text h v waits (blocked_by s v w goes_on) calm)
    (length s.threads) (length (deliver s e text).after.threads) framed.more t us is early
