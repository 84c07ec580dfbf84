-- Every call but those that can free somebody leaves the blocked as they are.
use Rattle.deadlock_laws.proofs.Frames.{Framed, framed_cond, framed_end, framed_still, framed_unless, letter_received}
use Rattle.deadlock_laws.proofs.Frames.{mapped_lists, other_block, owner_entered, pushed, same_lists, same_threads}
use Rattle.deadlock_laws.specs.Deadlocks.{TheBlockedStay}
use Rattle.deadlock_laws.specs.Freeing.{can_free}
use Rattle.lwp_types.specs.Case.{answer_case, refusal_case, silent_case, value_case}
use Rattle.lwp_types.specs.Choice.{choice, is_eligible}
use Rattle.lwp_types.specs.Exceptions.{handler_of, with_match}
use Rattle.lwp_types.specs.Messages.{next_letter, receive_by}
use Rattle.lwp_types.specs.Monitors.{after_request, enter_case, is_owned_by_other}
use Rattle.lwp_types.specs.State.{State, ThreadRow, is_blocked_in, is_not_blocked, passes, row_with_block, row_with_marks}
use Rattle.lwp_types.specs.State.{row_with_priority, row_with_suspension, still, thread_of}
use Rattle.lwp_types.specs.Step.{case_of, ends, step, step_by, step_if}
use Rattle.lwp_types.specs.Threads.{new_thread}
use Rattle.lwp_types.specs.Unblock.{after_block, after_block_for}
use Rattle.lwp_types.specs.declared.call.Answer.{Answer}
use Rattle.lwp_types.specs.declared.call.Call.{Call}
use Rattle.lwp_types.specs.declared.call.Mode.{Mode}
use Rattle.lwp_types.specs.declared.rows.Block.{Block}
use Rattle.lwp_types.specs.declared.rows.Found.{Found}
use Rattle.lwp_types.specs.declared.rows.Letter.{Letter}
use Rattle.pod_laws.proofs.Chosen.{chosen}
use Rattle.pod_laws.proofs.Elements.{differ}
use Rattle.std.proofs.Common.{Bool, None, Option, Some, ap, eqb, false, not, refl, sym, true, ℕ, ◌∙◌, ◌≡◌, ◌≢◌}
use Rattle.std.proofs.lemmas.Bool.{and_parts}
use Rattle.lwp_types.specs.declared.call.Call.TheVariants as call
use Rattle.lwp_types.specs.declared.call.LwpErr.TheVariants as error
use Rattle.lwp_types.specs.declared.call.Mode.TheVariants as mode
use Rattle.lwp_types.specs.declared.rows.Block.TheVariants as block

-- who may run isn't blocked
pub not_the_caller : (s : State) (t h : ℕ) (x row : ThreadRow) → thread_of s t ≡ Some x → is_eligible x ≡ true → thread_of s h ≡ Some row
    → is_not_blocked row.block ≡ false → h ≢ t
not_the_caller s t h x row known eligible here blocked same =
    let one_row : Some row ≡ Some x = sym here ∙ ap (thread_of s) same ∙ known in
    let its : row ≡ x = cc in
    differ (sym (and_parts (not x.suspended) (is_not_blocked x.block) eligible).1 ∙ ap (λ (r : ThreadRow). is_not_blocked r.block) (sym its) ∙ blocked)

-- a blocked thread and its row
pub record Blocked (s : State) (h : ℕ) : Type 0 where
  pub row : ThreadRow
  pub known : thread_of s h ≡ Some row
  pub waits : is_not_blocked row.block ≡ false

pub blocked_row : (s : State) (h : ℕ) → is_blocked_in s h ≡ true → Blocked s h
blocked_row s h blocked = by_row (thread_of s h) refl blocked
  where
    waiting : (b : Bool) → not b ≡ true → b ≡ false
    waiting true e = absurd (cc)
    waiting false e = refl

    by_row : (o : Option ThreadRow) → thread_of s h ≡ o → passes (λ row. not (is_not_blocked row.block)) o ≡ true → Blocked s h
    by_row None known e = absurd (cc)
    by_row (Some row) known e = record { row = row; known = known; waits = waiting (is_not_blocked row.block) e }

module _ (s : State) (t h v : ℕ) (row : ThreadRow) (known : thread_of s h ≡ Some row) (other : h ≢ t) where
  -- the caller begins to wait
  caller_waits : (b : Block) → Framed h v s (after_block s t b)
  caller_waits b = mapped_lists h v s _ (row_with_block t b) (λ r. refl) (other_block h v t other b) refl refl refl

  caller_waits_for : (b : Block) (ticks : ℕ) → Framed h v s (after_block_for s t b ticks)
  caller_waits_for b ticks = mapped_lists h v s _ (row_with_block t b) (λ r. refl) (other_block h v t other b) refl refl refl

  received : (from : Option ℕ) (how : Mode) (o : Option Letter) → Framed h v s (receive_by s t from how o).after
  received from mode.Poll None = framed_still h v s
  received from mode.Poll (Some letter) = same_threads h v s _ refl (λ e. letter_received letter.from s.letters h ∙ e) (λ m e. e)
  received from mode.Block None = caller_waits (block.Receiving from)
  received from mode.Block (Some letter) = same_threads h v s _ refl (λ e. letter_received letter.from s.letters h ∙ e) (λ m e. e)
  received from (mode.Until ticks) None = framed_cond h v s (eqb ticks 0) (refusal_case s error.Timeout)
      (silent_case (still (after_block_for s t (block.Receiving from) ticks))) (framed_still h v s) (caller_waits_for (block.Receiving from) ticks)
  received from (mode.Until ticks) (Some letter) = same_threads h v s _ refl (λ e. letter_received letter.from s.letters h ∙ e) (λ m e. e)

  entered : (m : ℕ) → Framed h v s (enter_case s t m).after
  entered m = same_threads h v s _ refl (λ e. e) (λ k e. owner_entered t m _ s.locks k v e)

  matched : (on_match : Found → Answer) (o : Option Found) → Framed h v s (with_match s (λ f. answer_case s (on_match f)) o).after
  matched on_match None = framed_still h v s
  matched on_match (Some f) = framed_still h v s

  -- the last line is for each call that is refused by its checks or else leaves threads, letters and locks as they are
  pub quiet_case : (c : Call) → can_free c ≡ false → Framed h v s (case_of s t c).after
  quiet_case (call.Create number prio flags) calm = framed_unless h v s _ _ (λ passed. pushed h v s _ row known (new_thread s.births prio flags) refl refl refl)
  quiet_case (call.Destroy u) calm = differ calm
  quiet_case (call.Ping u) calm = framed_unless h v s _ _ (λ passed. framed_still h v s)
  quiet_case (call.SetPri u p) calm = framed_unless h v s _ _ (λ passed. mapped_lists h v s _ (row_with_priority u p) (λ r. refl) (λ r e. refl) refl refl refl)
  quiet_case (call.Suspend u) calm =
      framed_unless h v s _ _ (λ passed. mapped_lists h v s _ (row_with_suspension u true) (λ r. refl) (λ r e. refl) refl refl refl)
  quiet_case (call.Resume u) calm =
      framed_unless h v s _ _ (λ passed. mapped_lists h v s _ (row_with_suspension u false) (λ r. refl) (λ r e. refl) refl refl refl)
  quiet_case (call.Join u) calm = framed_unless h v s _ _ (λ passed. caller_waits (block.Joining u))
  quiet_case (call.Sleep ticks) calm = framed_cond h v s (eqb ticks 0) (value_case s 0)
      (silent_case (still (after_block_for s t block.Sleeping ticks))) (framed_still h v s) (caller_waits_for block.Sleeping ticks)
  quiet_case call.Me calm = framed_still h v s
  quiet_case call.GetExit calm = framed_still h v s
  quiet_case call.Threads calm = framed_still h v s
  quiet_case (call.Send u room text) calm = differ calm
  quiet_case (call.Recv from how) calm = framed_unless h v s _ _ (λ passed. received from how (next_letter s.letters t from))
  quiet_case (call.Reply u text) calm = differ calm
  quiet_case call.Senders calm = framed_still h v s
  quiet_case call.Receivers calm = framed_still h v s
  quiet_case (call.Enter m) calm =
      framed_unless h v s _ _ (λ passed. framed_cond h v s (is_owned_by_other s.locks t m) (silent_case (still (after_request s t m))) (enter_case s t
      m) (mapped_lists h v s _ (row_with_block t (block.Entering m)) (λ r. refl) (other_block h v t other (block.Entering m)) refl refl refl) (entered m))
  quiet_case (call.CondEnter m) calm = framed_unless h v s _ _ (λ passed. entered m)
  quiet_case (call.MonExit m) calm = differ calm
  quiet_case (call.MonBreak m) calm = differ calm
  quiet_case call.Monitors calm = framed_still h v s
  quiet_case (call.MonWaiters m) calm = framed_unless h v s _ _ (λ passed. framed_still h v s)
  quiet_case (call.Wait c) calm = differ calm
  quiet_case (call.Notify c) calm = differ calm
  quiet_case (call.Broadcast c) calm = differ calm
  quiet_case (call.CvSend c u) calm = differ calm
  quiet_case call.Conds calm = framed_still h v s
  quiet_case (call.CvWaiters c) calm = framed_unless h v s _ _ (λ passed. framed_still h v s)
  quiet_case (call.CallProc number) calm =
      framed_unless h v s _ _ (λ passed. mapped_lists h v s _ (row_with_marks t _) (λ r. refl) (λ r e. refl) refl refl refl)
  quiet_case call.Return calm = differ calm
  quiet_case (call.Handle pat func arg) calm =
      framed_unless h v s _ _ (λ passed. mapped_lists h v s _ (row_with_marks t _) (λ r. refl) (λ r e. refl) refl refl refl)
  quiet_case call.Unhandle calm = framed_unless h v s _ _ (λ passed. mapped_lists h v s _ (row_with_marks t _) (λ r. refl) (λ r e. refl) refl refl refl)
  quiet_case (call.OnExit x) calm = framed_unless h v s _ _ (λ passed. mapped_lists h v s _ (row_with_marks t _) (λ r. refl) (λ r e. refl) refl refl refl)
  quiet_case (call.Raise p) calm = differ calm
  quiet_case (call.ExcNotify p) calm = differ calm
  quiet_case (call.Bound p) calm = framed_unless h v s _ _ (λ passed. matched _ (handler_of s t p))
  quiet_case call.Agents calm = framed_still h v s
  quiet_case (call.Trap e) calm = framed_still h v s
  quiet_case (call.Say text) calm = framed_still h v s
  quiet_case _ calm = framed_unless h v s _ _ (λ passed. same_lists h v s _ refl refl refl)

-- a step keeps what each case of it keeps of the others
pub step_framed : (s : State) (h v : ℕ) (c : Call) → ((t : ℕ) → choice s ≡ Some t → Framed h v s (case_of s t c).after) → Framed h v s (step s c).after
unfolding step step_by
step_framed s h v c each = by_choice (choice s) refl
  where
    by_choice : (o : Option ℕ) → choice s ≡ o → Framed h v s (step_if s c o).after
    by_choice None e = framed_still h v s
    by_choice (Some t) e = framed_end h v s (case_of s t c).after (ends (case_of s t c).after) (each t e)

pub the_blocked_stay : TheBlockedStay
the_blocked_stay s was c calm h blocked =
    let its = blocked_row s h blocked in
    (step_framed s h h c (λ t chooses.
    let run = chosen s was.nine t chooses in
    quiet_case s t h h its.row its.known (not_the_caller s t h run.row its.row run.known run.eligible its.known its.waits) c calm)).block
