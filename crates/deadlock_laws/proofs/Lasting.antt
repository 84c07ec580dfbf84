-- Who waits for a blocked thread still waits for it after each call but those that can break a deadlock; so each cycle lasts.
use Rattle.deadlock_laws.proofs.Cycles.{has_next, next_goes, none_at_all, round_lasts}
use Rattle.deadlock_laws.proofs.Frames.{Framed, next_framed}
use Rattle.deadlock_laws.proofs.Loosening.{broadcast_framed, cond_send_framed, monitor_exit_framed, notify_framed, reply_framed, send_framed, wait_framed}
use Rattle.deadlock_laws.proofs.Staying.{blocked_row, not_the_caller, quiet_case, step_framed}
use Rattle.deadlock_laws.specs.Deadlocks.{CyclesLast, TheirWaitersStay}
use Rattle.deadlock_laws.specs.Freeing.{can_break, can_free}
use Rattle.lwp_types.specs.Lawful.{Lawful, NineParts}
use Rattle.lwp_types.specs.State.{State, ThreadRow, is_blocked_in, is_not_blocked, passes, thread_of}
use Rattle.lwp_types.specs.Step.{case_of, step}
use Rattle.lwp_types.specs.declared.call.Call.{Call}
use Rattle.lwp_types.specs.declared.rows.Block.{Block}
use Rattle.pod_laws.proofs.Chosen.{chosen}
use Rattle.pod_laws.proofs.Elements.{differ}
use Rattle.pod_laws.proofs.Rows.{number_known}
use Rattle.state_text.specs.Waiting.{awaited, awaited_by, next_of}
use Rattle.std.proofs.Common.{Bool, None, Option, Some, ap, false, length, not, refl, sym, true, ℕ, ◌∙◌, ◌≡◌, ◌≢◌}
use Rattle.std.proofs.lemmas.Option.{none-some}
use Rattle.std.specs.Prelude.{option_and_then}
use Rattle.lwp_types.specs.declared.call.Call.TheVariants as call
use Rattle.lwp_types.specs.declared.rows.Block.TheVariants as block

-- one that waits for v, and its row
pub record Waiter (s : State) (h v : ℕ) : Type 0 where
  pub row : ThreadRow
  pub known : thread_of s h ≡ Some row
  pub waits : awaited_by s h row.block ≡ Some v
  pub blocked : is_not_blocked row.block ≡ false

pub waiter_row : (s : State) (h v : ℕ) → next_of s h ≡ Some v → Waiter s h v
waiter_row s h v waits = by_row (thread_of s h) refl waits
  where
    blocked_so : (b : Block) → awaited_by s h b ≡ Some v → is_not_blocked b ≡ false
    blocked_so block.Not e = absurd (none-some v e)
    blocked_so (block.Joining u) e = refl
    blocked_so block.Sending e = refl
    blocked_so (block.Receiving from) e = refl
    blocked_so (block.Entering m) e = refl
    blocked_so (block.Waiting c) e = refl
    blocked_so block.Sleeping e = refl

    by_row : (o : Option ThreadRow) → thread_of s h ≡ o → option_and_then (awaited s) o ≡ Some v → Waiter s h v
    by_row None known e = absurd (none-some v e)
    by_row (Some row) known e =
        let now : awaited_by s h row.block ≡ Some v = ap (λ n. awaited_by s n row.block) (sym (number_known s.threads h row known)) ∙ e in
        record { row = row; known = known; waits = now; blocked = blocked_so row.block now }

-- a thread that waits for another is blocked
pub blocked_by : (s : State) (h v : ℕ) → next_of s h ≡ Some v → is_blocked_in s h ≡ true
blocked_by s h v waits =
    let its = waiter_row s h v waits in
    ap (passes (λ (r : ThreadRow). not (is_not_blocked r.block))) its.known ∙ ap not its.blocked

module _ (s : State) (was : NineParts s None) (t h v : ℕ) (row : ThreadRow) (known : thread_of s h ≡ Some row)
    (waits : awaited_by s h row.block ≡ Some v) (other : h ≢ t) (apart : v ≢ t) where
  -- the last line is for each call that frees nobody
  freeing_case : (c : Call) → can_break c ≡ false → can_free c ≡ true → Framed h v s (case_of s t c).after
  freeing_case (call.Send u room text) calm frees = send_framed s was t h v row known waits other apart u room text
  freeing_case (call.Reply u text) calm frees = reply_framed s was t h v row known waits other apart u text
  freeing_case (call.MonExit m) calm frees = monitor_exit_framed s was t h v row known waits other apart m
  freeing_case (call.Wait c) calm frees = wait_framed s was t h v row known waits other apart c
  freeing_case (call.Notify c) calm frees = notify_framed s was t h v row known waits other apart c
  freeing_case (call.Broadcast c) calm frees = broadcast_framed s was t h v row known waits other apart c
  freeing_case (call.CvSend c u) calm frees = cond_send_framed s was t h v row known waits other apart c u
  freeing_case (call.Destroy u) calm frees = differ calm
  freeing_case call.Return calm frees = differ calm
  freeing_case (call.Raise p) calm frees = differ calm
  freeing_case (call.ExcNotify p) calm frees = differ calm
  freeing_case (call.MonBreak m) calm frees = differ calm
  freeing_case _ calm frees = differ (sym frees)

  pub calm_case : (c : Call) → can_break c ≡ false → Framed h v s (case_of s t c).after
  calm_case c calm = by_free (can_free c) refl
    where
      by_free : (b : Bool) → can_free c ≡ b → Framed h v s (case_of s t c).after
      by_free true e = freeing_case c calm e
      by_free false e = quiet_case s t h v row known other c e

waiter_framed : (s : State) → Lawful s None → (c : Call) → can_break c ≡ false → (h v : ℕ) → next_of s h ≡ Some v → is_blocked_in s v ≡ true
    → Framed h v s (step s c).after
waiter_framed s was c calm h v waits blocked =
    let its = waiter_row s h v waits in
    let to = blocked_row s v blocked in
    step_framed s h v c (λ t chooses.
    let run = chosen s was.nine t chooses in
    calm_case s was.nine t h v its.row its.known its.waits
    (not_the_caller s t h run.row its.row run.known run.eligible its.known its.blocked)
    (not_the_caller s t v run.row to.row run.known run.eligible to.known to.waits) c calm)

pub their_waiters_stay : TheirWaitersStay
their_waiters_stay s was c calm h v waits blocked = next_framed h v s (step s c).after (waiter_framed s was c calm h v waits blocked) waits

pub cycles_last : CyclesLast
cycles_last s was c calm t us is =
    let first = has_next (next_of s) t (length s.threads) t us is in
    let second = next_goes (next_of s) t (length s.threads) t us first is first.to first.is in
    let framed = waiter_framed s was c calm t first.to first.is (blocked_by s first.to second.to second.is) in
    round_lasts (next_of s) t (next_of (step s c).after) first (λ u. false)
    (λ h v w calm_here waits goes_on. their_waiters_stay s was c calm h v waits (blocked_by s v w goes_on))
    (length s.threads) (length (step s c).after.threads) framed.more t us is (none_at_all us)
