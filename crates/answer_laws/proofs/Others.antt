-- What a call of another does to a thread that waits for a letter or a reply at most, and has written neither to the caller nor to
-- whom the call destroys.
use Rattle.answer_laws.proofs.Leaving.{Ready, end_agent_turn, ready_from, turn_death, turn_exited, turn_from, turn_post, turn_release}
use Rattle.answer_laws.proofs.Leaving.{turn_replied, turn_suspension, turn_unwind, unless_turn, waking_turn}
use Rattle.answer_laws.proofs.Sights.{Attends, Away, Turn, Turn.Left, Turn.Woken, answers_append, attends_after, blocked_other, found_other, not_own}
use Rattle.answer_laws.proofs.Sights.{received_own, replied_other, rowed, sight_same, turn_plain, turn_still, turn_then, turn_wake}
use Rattle.answer_laws.specs.Sights.{IsLeft, IsWoken, DeliveriesLeaveIt, IsDelivered, IsSent, OthersLeaveIt}
use Rattle.answer_laws.specs.Sights.{Spares, attends, answers_to, is_attentive, sight, sight_by}
use Rattle.lwp_types.specs.Agents.{deliver, deliver_to, end_agent, event_agents, is_for, message}
use Rattle.lwp_types.specs.Case.{Case, refusal_case, silent_case, value_case, with_zero}
use Rattle.lwp_types.specs.Choice.{choice}
use Rattle.lwp_types.specs.CountLaws.{count-append, count-cons, count-filter-le, one}
use Rattle.lwp_types.specs.Counts.{has_its_marks, requests_by, timers_of}
use Rattle.lwp_types.specs.Death.{death, destroy_case, return_from}
use Rattle.lwp_types.specs.FirstLaws.{finds_best}
use Rattle.lwp_types.specs.First.{IsFirstBest}
use Rattle.lwp_types.specs.Exits.{catch_case, leave_frame, excnotify_case_by}
use Rattle.lwp_types.specs.Lawful.{Lawful, NineParts, is_same_option}
use Rattle.lwp_types.specs.Messages.{as_answer, is_letter_of, is_open, with_reception, next_letter, post, receive_by, takes_from, with_holding}
use Rattle.lwp_types.specs.Monitors.{after_request, enter_case, is_owned_by_other}
use Rattle.lwp_types.specs.Exceptions.{caught_marks, first_frames, frames, handler_in, later_frames, searching, with_match}
use Rattle.lwp_types.specs.MonitorRelease.{grant, last_lock, next_owner, requests_of, without_lock}
use Rattle.lwp_types.specs.State.{Outcome, State, ThreadRow, for_each, is_agent, is_agent_row, is_id, is_number, is_thread, marks_in}
use Rattle.lwp_types.specs.State.{row_with_marks, passes, priority_in, row_with_priority, still, thread_of, with_block, with_marks}
use Rattle.lwp_types.specs.Step.{case_of, end_effects, ends, own_effects, step, step_by, step_if, step_outcome}
use Rattle.lwp_types.specs.Threads.{new_thread}
use Rattle.lwp_types.specs.Time.{after_tick, due_threads, is_due, tick, time_out}
use Rattle.lwp_types.specs.Unblock.{after_block, after_block_for, is_timer_of, zero_answer}
use Rattle.lwp_types.specs.Conditions.{after_wait, wait_of, waits_on}
use Rattle.lwp_types.specs.declared.call.Answer.{Answer}
use Rattle.lwp_types.specs.declared.call.Call.{Call}
use Rattle.lwp_types.specs.declared.call.Flags.{Flags}
use Rattle.lwp_types.specs.declared.call.Func.{Func}
use Rattle.lwp_types.specs.declared.call.Mode.{Mode}
use Rattle.lwp_types.specs.declared.rows.AgentRow.{AgentRow}
use Rattle.lwp_types.specs.declared.rows.Block.{Block}
use Rattle.lwp_types.specs.declared.rows.Found.{Found}
use Rattle.lwp_types.specs.declared.rows.Letter.{Letter}
use Rattle.lwp_types.specs.declared.rows.Lock.{Lock}
use Rattle.lwp_types.specs.declared.rows.Mark.{Mark}
use Rattle.lwp_types.specs.declared.rows.Request.{Request}
use Rattle.lwp_types.specs.declared.rows.TimerRow.{TimerRow}
use Rattle.lwp_types.specs.declared.rows.WaitRow.{WaitRow}
use Rattle.pod_laws.proofs.Chosen.{chosen, living}
use Rattle.pod_laws.proofs.Elements.{all_filter, all_found, find_push_some, true_of}
use Rattle.pod_laws.proofs.LetterMoves.{no_rows}
use Rattle.pod_laws.proofs.LockMoves.{requester}
use Rattle.pod_laws.proofs.MarkLists.{caught_based, caught_fewer, first_based, first_fewer, found_deep, stack_fewer, stack_from}
use Rattle.pod_laws.proofs.MarkMoves.{NineParts-fewer}
use Rattle.pod_laws.proofs.OnceExits.{of_case}
use Rattle.pod_laws.proofs.Rows.{find_rowed, number_known}
use Rattle.pod_laws.proofs.ConditionCalls.{Among, all_among, best_among}
use Rattle.std.proofs.Common.{Bool, List, None, Option, Some, [], ap, append-nil, arith, cond, eqb, false, inl, inr, not}
use Rattle.std.proofs.Common.{refl, subst, sym, true, ℕ, ◌&&◌, ◌++◌, ◌+◌, ◌-◌, ◌||◌, ◌∙◌, ◌∷◌, ◌≡◌, ◌≢◌, ◌≤◌, ◌⊎◌}
use Rattle.std.proofs.lemmas.Bool.{and_from, and_parts, eq-eqb, leb-true, ne_eqb}
use Rattle.std.specs.List.{count_by, filter, find, list_all}
use Rattle.std.specs.Prelude.{map, nat_le, option_map, unwrap_or}
use Rattle.lwp_types.specs.declared.call.Answer.TheVariants as answer
use Rattle.lwp_types.specs.declared.call.Call.TheVariants as call
use Rattle.lwp_types.specs.declared.call.Effect.TheVariants as effect
use Rattle.lwp_types.specs.declared.call.Func.TheVariants as func
use Rattle.lwp_types.specs.declared.call.LwpErr.TheVariants as error
use Rattle.lwp_types.specs.declared.call.Mode.TheVariants as mode
use Rattle.lwp_types.specs.declared.rows.Block.TheVariants as block

-- the call itself, the caller's answer and the end tell another nothing
module _ (u t : ℕ) (other : t ≢ u) where
  rest_quiet : (o : Option Answer) (after : State) → answers_to u (own_effects t o ++ end_effects after) ≡ []
  rest_quiet o after = answers_append u (own_effects t o) (end_effects after) ∙ ap (λ xs. xs ++ answers_to u (end_effects after)) (no_own o)
      ∙ no_end (ends after)
    where
      no_own : (o : Option Answer) → answers_to u (own_effects t o) ≡ []
      no_own None = refl
      no_own (Some a) = rw (ne_eqb t u other) refl

      no_end : (b : Bool) → answers_to u (cond b (effect.Ended after.status ∷ []) []) ≡ []
      no_end true = refl
      no_end false = refl

  pub finished_told : (c : Call) (made : Case) → answers_to u (step_outcome t c made).effects ≡ answers_to u made.others
  finished_told c made = answers_append u made.others (own_effects t made.own ++ end_effects made.after)
      ∙ ap (λ xs. answers_to u made.others ++ xs) (rest_quiet made.own made.after) ∙ append-nil (answers_to u made.others)

module _ (u t : ℕ) (Fits : Option ℕ → Answer → Type 0) (s : State) (nine : NineParts s None) (ready : Ready u Fits t s) (x : ThreadRow)
    (known : thread_of s t ≡ Some x) (other : t ≢ u) where
  abbrev Now : Outcome → Type 0
  Now out = Turn u Fits s out

  abbrev Its : Case → Type 0
  Its made = Now (of_case made)

  was : Attends u Fits s
  was = ready.attends

  still_now : (out : Outcome) → out.after.threads ≡ s.threads → out.after.letters ≡ s.letters → out.effects ≡ [] → Now out
  still_now out threads letters none = turn_plain u Fits s out
      (sight_same u Fits s out.after was.row was.known (ap (find (is_number u)) threads ∙ was.known) (ap (filter (is_letter_of u)) letters)) none

  -- the caller waits
  blocked_now : (out : Outcome) (b : Block) → out.after.threads ≡ with_block t b s.threads → out.after.letters ≡ s.letters → out.effects ≡ [] → Now out
  blocked_now out b threads letters none = turn_plain u Fits s out
      (sight_same u Fits s out.after was.row was.known (ap (find (is_number u)) threads ∙ blocked_other u Fits s was t b other ∙ was.known)
      (ap (filter (is_letter_of u)) letters))
      none

  -- the caller's marks are put
  marked_now : (out : Outcome) (ms : List Mark) → out.after.threads ≡ with_marks t ms s.threads → out.after.letters ≡ s.letters → out.effects ≡ [] → Now out
  marked_now out ms threads letters none = turn_plain u Fits s out
      (sight_same u Fits s out.after was.row was.known
      (ap (find (is_number u)) threads ∙ rowed u Fits (row_with_marks t ms) (λ row. refl) s was.row was.known off) (ap (filter (is_letter_of u)) letters))
      none
    where
      off : row_with_marks t ms was.row ≡ was.row
      off = rw (ne_eqb was.row.number t (λ e. other (sym e ∙ number_known s.threads u was.row was.known))) refl

  -- a priority is put
  priority_now : (v p : ℕ) (out : Outcome) → out.after.threads ≡ map (row_with_priority v p) s.threads → out.after.letters ≡ s.letters
      → out.effects ≡ [] → Now out
  priority_now v p out threads letters none = turn_plain u Fits s out
      ((λ i. sight_by (rows i) (filter (is_letter_of u) (letters i))) ∙ ap (λ o. sight_by o (filter (is_letter_of u) s.letters)) (sym was.known)) none
    where
      rows : find (is_number u) out.after.threads ≡ Some (row_with_priority v p was.row)
      rows = ap (find (is_number u)) threads ∙ find_rowed (row_with_priority v p) (λ row. refl) s.threads u ∙ ap (option_map (row_with_priority v p)) was.known

  cond_now : (b : Bool) (one two : Case) → Its one → Its two → Its (cond b one two)
  cond_now true one two first second = first
  cond_now false one two first second = second

  -- a thread more
  created_now : (prio : ℕ) (flags : Flags) (out : Outcome) → out.after.threads ≡ s.threads ++ new_thread s.births prio flags ∷ []
      → out.after.letters ≡ s.letters → out.effects ≡ [] → Now out
  created_now prio flags out threads letters none = turn_plain u Fits s out
      (sight_same u Fits s out.after was.row was.known
      (ap (find (is_number u)) threads ∙ find_push_some (is_number u) s.threads was.row (new_thread s.births prio flags) was.known)
      (ap (filter (is_letter_of u)) letters))
      none

  -- a letter of the caller
  posted_now : (letter : Letter) → letter.from ≡ t
      → (letter.to ≡ u → (from : Option ℕ) → takes_from letter.from (block.Receiving from) ≡ true → Fits from (as_answer letter))
      → Now (post letter (after_block s t block.Sending))
  posted_now letter from fits =
      turn_from u Fits s now _ same (turn_post u Fits now (ready_from u Fits t s now same ready).attends letter (λ e. other (sym from ∙ e)) fits)
    where
      now : State
      now = after_block s t block.Sending

      same : sight now u ≡ sight s u
      same = sight_same u Fits s now was.row was.known (blocked_other u Fits s was t block.Sending other ∙ was.known) refl

  -- the caller receives
  received_now : (from : Option ℕ) (how : Mode) (o : Option Letter) → next_letter s.letters t from ≡ o → Its (receive_by s t from how o)
  received_now from how (Some letter) e =
      turn_plain u Fits s _ (sight_same u Fits s (record s { letters = with_reception letter.from s.letters }) was.row was.known was.known
      (received_own u Fits letter.from (found_other u Fits t s ready.away (is_open from) letter e) s.letters))
      refl
  received_now from mode.Poll None e = still_now _ refl refl refl
  received_now from mode.Block None e = blocked_now _ (block.Receiving from) refl refl refl
  received_now from (mode.Until ticks) None e =
      cond_now (eqb ticks 0) (refusal_case s error.Timeout) (silent_case (still (after_block_for s t (block.Receiving from) ticks)))
      (still_now _ refl refl refl) (blocked_now _ (block.Receiving from) refl refl refl)

  -- the caller waits on a condition, and leaves its monitor
  waited_now : (c : ℕ) (o : Option Lock) → Now (after_wait t c o s)
  waited_now c None = turn_still u Fits s
  waited_now c (Some lock) = turn_from u Fits s now _ same (granted (next_owner now lock.mon) refl)
    where
      now : State
      now = after_block (record s { waits = s.waits ++ record { cond = c; tid = t; depth = lock.depth } ∷ [] }) t (block.Waiting c)

      same : sight now u ≡ sight s u
      same = sight_same u Fits s now was.row was.known (blocked_other u Fits s was t (block.Waiting c) other ∙ was.known) refl

      asks : (r : Request) → next_owner now lock.mon ≡ Some r → 1 ≤ requests_by s r.tid r.mon
      asks r e =
          let first : IsFirstBest (λ r. priority_in now r.tid) (requests_of s.requests lock.mon) r =
          rw e at (finds_best (λ r. priority_in now r.tid) (requests_of s.requests lock.mon)) in
          omega (
            arith,
            ap (count_by (λ (q : Request). eqb q.tid r.tid && eqb q.mon r.mon)) first.splits,
            count-append (λ (q : Request). eqb q.tid r.tid && eqb q.mon r.mon) first.before (r ∷ first.after),
            count-cons (λ (q : Request). eqb q.tid r.tid && eqb q.mon r.mon) r first.after,
            ap one (and_from _ _ (eq-eqb r.tid r.tid refl) (eq-eqb r.mon r.mon refl)),
            count-filter-le (λ (q : Request). eqb q.tid r.tid && eqb q.mon r.mon) (λ (q : Request). eqb q.mon lock.mon) s.requests,
          )

      granted : (o : Option Request) → next_owner now lock.mon ≡ o → Turn u Fits now (grant o (record now { locks = without_lock lock.mon now.locks }))
      granted None e = turn_plain u Fits now _ refl refl
      granted (Some r) e =
          let who = requester s None nine r (asks r e) in
          turn_wake u Fits now (ready_from u Fits t s now same ready).attends _ zero_answer r.tid
          (not_own u Fits s was r.tid who.row who.known (ap is_attentive who.enters)) refl refl refl

  stack : has_its_marks x.marks ≡ true
  stack = all_found (is_number t) (λ row. is_same_option None row.number || has_its_marks row.marks) s.threads x nine.marks known

  -- frames of the caller go
  leave_now : 2 ≤ frames x.marks → Its (leave_frame s t)
  leave_now more = rw known (turn_unwind u Fits None t other (first_frames (frames x.marks - 1) x.marks)
      (later_frames (frames x.marks - 1) x.marks) s (NineParts-fewer s None nine t x known (first_frames (frames x.marks - 1) x.marks)
      (stack_fewer x.marks (first_frames (frames x.marks - 1) x.marks) (first_fewer (frames x.marks - 1) x.marks)
      (first_based (frames x.marks - 1) x.marks (omega (arith, more)) (stack_from x.marks stack).based) stack)
      (first_fewer (frames x.marks - 1) x.marks))
      ready)

  caught_now : (p : ℕ) (f : Found) → handler_in p x.marks ≡ Some f → Its (catch_case s t p f)
  caught_now p f e = rw known (turn_unwind u Fits None t other (caught_marks f x.marks) (later_frames f.depth x.marks) s
      (NineParts-fewer s None nine t x known (caught_marks f x.marks)
      (stack_fewer x.marks (caught_marks f x.marks) (caught_fewer f x.marks)
      (caught_based f x.marks (found_deep p x.marks f (stack_from x.marks stack).based e) (stack_from x.marks stack).based) stack)
      (caught_fewer f x.marks))
      ready)

  -- the caller looks for a handler
  searched_now : (p : ℕ) (on_match : Found → Case) → ((f : Found) → handler_in p x.marks ≡ Some f → Its (on_match f)) → Its (searching s t p on_match)
  searched_now p on_match fine = unless_turn u Fits s _ _ (λ passed. rw known (by_found (handler_in p x.marks) refl))
    where
      by_found : (o : Option Found) → handler_in p x.marks ≡ o → Its (with_match s on_match o)
      by_found None e = still_now _ refl refl refl
      by_found (Some f) e = fine f e

  notified_now : (p : ℕ) (f : Found) → handler_in p x.marks ≡ Some f → (h : Func) → Its (excnotify_case_by s t p f h)
  notified_now p f e func.Give = still_now _ refl refl refl
  notified_now p f e func.Sum = still_now _ refl refl refl
  notified_now p f e func.Nothing = caught_now p f e

  returned_now : Its (return_from s t)
  returned_now = by_frames (nat_le 2 (frames (marks_in s t))) refl
    where
      by_frames : (b : Bool) → nat_le 2 (frames (marks_in s t)) ≡ b → Its (cond b (leave_frame s t) (silent_case (death t s)))
      by_frames true e = leave_now (leb-true 2 (frames x.marks)
          (ap (λ (o : Option ThreadRow). nat_le 2 (frames (unwrap_or (option_map (λ (row : ThreadRow). row.marks) o) []))) (sym known) ∙ e))
      by_frames false e = turn_death u Fits t other s nine x known ready

  destroyed_now : (v : ℕ) → eqb v u ≡ false → Away u Fits v s → is_id s v ≡ true → Its (destroy_case s t v)
  destroyed_now v spared away lives = by_agent (is_agent s v) lives
    where
      apart : v ≢ u
      apart e = let bad : true ≡ false = sym (eq-eqb v u e) ∙ spared in cc

      by_agent : (b : Bool) → (is_thread s v || b) ≡ true
          → Its (cond b (with_zero (end_agent v s)) (cond (eqb t v) (silent_case (death v s)) (with_zero (death v s))))
      by_agent true h = end_agent_turn u Fits t v s None nine ready apart
      by_agent false h =
          let who = living s v (either (is_thread s v) h) in
          let dies = turn_death u Fits v apart s nine who.row who.known (record { attends = was; away = away }) in
          cond_now (eqb t v) (silent_case (death v s)) (with_zero (death v s)) dies dies
        where
          either : (a : Bool) → (a || false) ≡ true → a ≡ true
          either true e = refl
          either false e = e

  -- one that waits on a condition
  one_among : (c to : ℕ) → Among s c (wait_of s.waits c to)
  one_among c to = record {
    few = λ v.
        omega (arith, (all_among s None nine c).few v, count-filter-le (λ (w : WaitRow). eqb w.tid v) (λ (w : WaitRow). eqb w.tid to) (waits_on s.waits c));
    deep = all_filter _ _ (λ (w : WaitRow). eqb w.tid to) (λ w kept h. h) (waits_on s.waits c) (all_among s None nine c).deep;
  }

  -- every call of the caller: the last line is for each that is refused by its checks or else leaves threads and letters as they are
  case_turn : (c : Call) → Spares s u c
      → ((room : ℕ) (text : List ℕ) → c ≡ call.Send u room text → (from : Option ℕ) → takes_from t (block.Receiving from) ≡ true
      → Fits from (answer.Letter t text room))
      → Its (case_of s t c)
  case_turn (call.Create number prio flags) h fits = unless_turn u Fits s _ _ (λ passed. created_now prio flags _ refl refl refl)
  case_turn (call.Destroy v) h fits = unless_turn u Fits s _ _ (λ passed. destroyed_now v h.0 h.1 (true_of _ passed.0))
  case_turn (call.SetPri v q) h fits = unless_turn u Fits s _ _ (λ passed. priority_now v q _ refl refl refl)
  case_turn (call.Suspend v) h fits = unless_turn u Fits s _ _ (λ passed. turn_suspension u Fits s was v true _ refl refl refl)
  case_turn (call.Resume v) h fits = unless_turn u Fits s _ _ (λ passed. turn_suspension u Fits s was v false _ refl refl refl)
  case_turn (call.Join v) h fits = unless_turn u Fits s _ _ (λ passed. blocked_now _ (block.Joining v) refl refl refl)
  case_turn (call.Sleep ticks) h fits = cond_now (eqb ticks 0) (value_case s 0)
      (silent_case (still (after_block_for s t block.Sleeping ticks))) (still_now _ refl refl refl) (blocked_now _ block.Sleeping refl refl refl)
  case_turn call.Me h fits = still_now _ refl refl refl
  case_turn call.GetExit h fits = still_now _ refl refl refl
  case_turn call.Threads h fits = still_now _ refl refl refl
  case_turn (call.Send v room text) h fits =
      unless_turn u Fits s _ _ (λ passed. posted_now (record { from = t; to = v; text = text; room = room; received = false }) refl
      (λ e from takes. fits room text (ap (λ n. call.Send n room text) e) from takes))
  case_turn (call.Recv from how) h fits = unless_turn u Fits s _ _ (λ passed. received_now from how (next_letter s.letters t from) refl)
  case_turn (call.Reply v text) h fits =
      unless_turn u Fits s _ _ (λ passed. turn_replied u Fits s was v text (replied_other u Fits t s ready.away v passed.1.0))
  case_turn call.Senders h fits = still_now _ refl refl refl
  case_turn call.Receivers h fits = still_now _ refl refl refl
  case_turn (call.Enter m) h fits = unless_turn u Fits s _ _ (λ passed. cond_now (is_owned_by_other s.locks t m)
      (silent_case (still (after_request s t m))) (enter_case s t m) (blocked_now _ (block.Entering m) refl refl refl) (still_now _ refl refl refl))
  case_turn (call.MonExit m) h fits = unless_turn u Fits s _ _ (λ passed. turn_exited u Fits s None nine was m)
  case_turn (call.MonBreak m) h fits = unless_turn u Fits s _ _ (λ passed. turn_release u Fits s None nine was m)
  case_turn call.Monitors h fits = still_now _ refl refl refl
  case_turn (call.Wait c) h fits = unless_turn u Fits s _ _ (λ passed. waited_now c (last_lock s.locks t))
  case_turn (call.Notify c) h fits = waking_turn u Fits s None nine was t c _ _ (best_among s None nine c)
  case_turn (call.Broadcast c) h fits = waking_turn u Fits s None nine was t c _ _ (all_among s None nine c)
  case_turn (call.CvSend c v) h fits = waking_turn u Fits s None nine was t c _ _ (one_among c v)
  case_turn call.Conds h fits = still_now _ refl refl refl
  case_turn (call.CallProc number) h fits = unless_turn u Fits s _ _ (λ passed. marked_now _ _ refl refl refl)
  case_turn call.Return h fits = returned_now
  case_turn (call.Handle pat func arg) h fits = unless_turn u Fits s _ _ (λ passed. marked_now _ _ refl refl refl)
  case_turn call.Unhandle h fits = unless_turn u Fits s _ _ (λ passed. marked_now _ _ refl refl refl)
  case_turn (call.OnExit e) h fits = unless_turn u Fits s _ _ (λ passed. marked_now _ _ refl refl refl)
  case_turn (call.Raise q) h fits = searched_now q _ (λ f e. caught_now q f e)
  case_turn (call.ExcNotify q) h fits = searched_now q _ (λ f e. notified_now q f e f.func)
  case_turn (call.Bound q) h fits = searched_now q _ (λ f e. still_now _ refl refl refl)
  case_turn call.Agents h fits = still_now _ refl refl refl
  case_turn (call.Trap e) h fits = still_now _ refl refl refl
  case_turn (call.Say text) h fits = still_now _ refl refl refl
  case_turn _ h fits = unless_turn u Fits s _ _ (λ passed. still_now _ refl refl refl)

  finished_turn : (c : Call) (made : Case) → Its made → IsLeft u s (step_outcome t c made) ⊎ IsWoken u Fits s (step_outcome t c made)
  finished_turn c made (Left a) = inl (record { same = a.same; quiet = finished_told u t other c made ∙ a.quiet })
  finished_turn c made (Woken a) =
      inr (record { from = a.from; waited = a.waited; goes_on = a.goes_on; heard = a.heard; told = finished_told u t other c made ∙ a.told; right = a.right })

pub attends_of : (u : ℕ) (Fits : Option ℕ → Answer → Type 0) (s : State) → attends s u ≡ true → Attends u Fits s
attends_of u Fits s attentive = by_row (thread_of s u) refl attentive
  where
    by_row : (o : Option ThreadRow) → thread_of s u ≡ o → passes (λ row. is_attentive row.block) o ≡ true → Attends u Fits s
    by_row None e h = absurd (cc)
    by_row (Some row) e h = record { row = row; known = e; attends = h }

-- a step of another, whatever fits
module _ (u t : ℕ) (Fits : Option ℕ → Answer → Type 0) (s : State) (was : Lawful s None) (turn : choice s ≡ Some t) (apart : t ≢ u)
    (ready : Ready u Fits t s) where
  pub step_turn : (c : Call) → Spares s u c
      → ((room : ℕ) (text : List ℕ) → c ≡ call.Send u room text → (from : Option ℕ) → takes_from t (block.Receiving from) ≡ true
      → Fits from (answer.Letter t text room))
      → IsLeft u s (step s c) ⊎ IsWoken u Fits s (step s c)
  unfolding step step_by
  step_turn c spared sent =
      let run = chosen s was.nine t turn in
      subst (λ o. IsLeft u s (step_if s c o) ⊎ IsWoken u Fits s (step_if s c o)) (sym turn)
      (finished_turn u t Fits s was.nine ready run.row run.known apart c (case_of s t c)
      (case_turn u t Fits s was.nine ready run.row run.known apart c spared sent))

pub others_leave_it : OthersLeaveIt
others_leave_it s was t u turn other attentive away c spared =
    step_turn u t (IsSent t u c) s was turn apart (record { attends = attends_of u (IsSent t u c) s attentive; away = away }) c spared
    (λ room text e from takes. record { room = room; text = text; sends = e; letter = refl; named = takes })
  where
    apart : t ≢ u
    apart e = let bad : true ≡ false = sym (eq-eqb t u e) ∙ other in cc

-- ---- deliveries

module _ (u : ℕ) (Fits : Option ℕ → Answer → Type 0) where
  -- changes for each of a list, all of whose elements are others
  turn_all : {A : Type 0} (p : A → Bool) (change : A → State → Outcome)
      → ((x : A) (s : State) → p x ≡ true → Attends u Fits s → Turn u Fits s (change x s)) → (xs : List A) → list_all p xs ≡ true
      → (s : State) → Attends u Fits s → Turn u Fits s (for_each change xs s)
  unfolding for_each
  turn_all p change turn [] all s here = turn_still u Fits s
  turn_all p change turn (x ∷ xs) all s here =
      let parts = and_parts (p x) (list_all p xs) all in
      let one = turn x s parts.0 here in
      turn_then u Fits s (change x s) (for_each change xs) one
      (turn_all p change turn xs parts.1 (change x s).after (attends_after u Fits s (change x s) here one))

  pub none_all : {A : Type 0} (p : A → Bool) (xs : List A) → count_by p xs ≡ 0 → list_all (λ x. not (p x)) xs ≡ true
  none_all p [] none = refl
  none_all p (x ∷ xs) none = by_test (p x) refl (none_all p xs)
    where
      by_test : (b : Bool) → p x ≡ b → (count_by p xs ≡ 0 → list_all (λ x. not (p x)) xs ≡ true) → list_all (λ x. not (p x)) (x ∷ xs) ≡ true
      by_test true e rest = absurd (omega (arith, none, count-cons p x xs, ap one e))
      by_test false e rest = and_from _ _ (ap not e) (rest (omega (arith, none, count-cons p x xs)))

  not_it : (n : ℕ) → not (eqb n u) ≡ true → n ≢ u
  not_it n h e = let bad : false ≡ true = sym (ap not (eq-eqb n u e)) ∙ h in cc

  -- a timer of another falls due
  timed_out_turn : (v : ℕ) (s : State) → not (eqb v u) ≡ true → Attends u Fits s → Turn u Fits s (time_out v s)
  timed_out_turn v s h here = turn_wake u Fits s here (time_out v s) _ v (not_it v h) refl refl refl

  pub tids_all : (rows : List TimerRow) → list_all (λ row. not (is_timer_of u row)) rows ≡ true
      → list_all (λ v. not (eqb v u)) (map (λ (row : TimerRow). row.tid) rows) ≡ true
  tids_all [] all = refl
  tids_all (row ∷ rows) all = let parts = and_parts (not (is_timer_of u row)) (list_all (λ row. not (is_timer_of u row)) rows) all in
      and_from _ _ parts.0 (tids_all rows parts.1)

  tick_turn : (s : State) → timers_of s.timers u ≡ 0 → Attends u Fits s → Turn u Fits s (tick s)
  tick_turn s none here = turn_then u Fits s (record { after = after_tick s; effects = effect.Ticked (s.now + 1) ∷ [] })
      (λ now. for_each time_out (due_threads now) now) (Left (record { same = refl; quiet = refl }))
      (turn_all (λ v. not (eqb v u)) time_out timed_out_turn (due_threads (after_tick s))
      (tids_all _ (all_filter _ _ (is_due (s.now + 1)) (λ row kept h. h) s.timers (none_all (is_timer_of u) s.timers none)))
      (after_tick s) (record { row = here.row; known = here.known; attends = here.attends }))

  -- the message of an agent that isn't u
  delivered_turn : (text : List ℕ)
      → ((agent : ℕ) (from : Option ℕ) → takes_from agent (block.Receiving from) ≡ true → Fits from (answer.Letter agent text 240))
      → (row : AgentRow) (s : State) → not (is_agent_row u row) ≡ true → Attends u Fits s → Turn u Fits s (deliver_to text row s)
  delivered_turn text fits row s h here =
      let holds = record s { agents = with_holding row.number true s.agents } in
      turn_then u Fits s (record { after = holds; effects = effect.Delivered row.number row.event ∷ [] }) (post (message text row))
      (Left (record { same = refl; quiet = refl }))
      (turn_post u Fits holds (record { row = here.row; known = here.known; attends = here.attends }) (message text row)
      (not_it row.number h) (λ e from takes. fits row.number from takes))

  pub deliver_turn : (s : State) → NineParts s None → Attends u Fits s → timers_of s.timers u ≡ 0 → (e : ℕ) (text : List ℕ)
      → ((agent : ℕ) (from : Option ℕ) → takes_from agent (block.Receiving from) ≡ true → Fits from (answer.Letter agent text 240))
      → Turn u Fits s (deliver s e text)
  unfolding deliver
  deliver_turn s nine here none e text fits = by_clock (eqb e 0)
    where
      by_clock : (b : Bool) → Turn u Fits s (cond b (tick s) (for_each (deliver_to text) (event_agents s.agents e) s))
      by_clock true = tick_turn s none here
      by_clock false = turn_all (λ row. not (is_agent_row u row)) (deliver_to text) (delivered_turn text fits) (event_agents s.agents e)
          (all_filter _ _ (is_for e) (λ row kept h. h) s.agents (none_all (is_agent_row u) s.agents (no_rows s None nine u here.row here.known))) s here

-- a delivery to other agents than v: only their letters have to fit
module _ (u v : ℕ) (Fits : Option ℕ → Answer → Type 0) where
  delivered_but : (text : List ℕ)
      → ((agent : ℕ) → agent ≢ v → (from : Option ℕ) → takes_from agent (block.Receiving from) ≡ true → Fits from (answer.Letter agent text 240))
      → (row : AgentRow) (s : State) → (not (is_agent_row u row) && not (is_agent_row v row)) ≡ true → Attends u Fits s → Turn u Fits s (deliver_to text row s)
  delivered_but text fits row s h here =
      let parts = and_parts (not (is_agent_row u row)) (not (is_agent_row v row)) h in
      let holds = record s { agents = with_holding row.number true s.agents } in
      turn_then u Fits s (record { after = holds; effects = effect.Delivered row.number row.event ∷ [] }) (post (message text row))
      (Left (record { same = refl; quiet = refl }))
      (turn_post u Fits holds (record { row = here.row; known = here.known; attends = here.attends }) (message text row)
      (not_it u Fits row.number parts.0) (λ e from takes. fits row.number (not_it v Fits row.number parts.1) from takes))

  both_all : (p q : AgentRow → Bool) (rows : List AgentRow) → list_all p rows ≡ true → list_all q rows ≡ true → list_all (λ row. p row && q row) rows ≡ true
  both_all p q [] x y = refl
  both_all p q (row ∷ rows) x y =
      let one = and_parts (p row) (list_all p rows) x in
      let two = and_parts (q row) (list_all q rows) y in
      and_from _ _ (and_from _ _ one.0 two.0) (both_all p q rows one.1 two.1)

  pub deliver_but : (s : State) → NineParts s None → Attends u Fits s → count_by (is_agent_row v) s.agents ≡ 0 → timers_of s.timers u ≡ 0
      → (e : ℕ) (text : List ℕ)
      → ((agent : ℕ) → agent ≢ v → (from : Option ℕ) → takes_from agent (block.Receiving from) ≡ true → Fits from (answer.Letter agent text 240))
      → Turn u Fits s (deliver s e text)
  unfolding deliver
  deliver_but s nine here apart none e text fits = by_clock (eqb e 0)
    where
      by_clock : (b : Bool) → Turn u Fits s (cond b (tick s) (for_each (deliver_to text) (event_agents s.agents e) s))
      by_clock true = tick_turn u Fits s none here
      by_clock false = turn_all u Fits (λ row. not (is_agent_row u row) && not (is_agent_row v row)) (deliver_to text)
          (delivered_but text fits) (event_agents s.agents e)
          (all_filter _ _ (is_for e) (λ row kept h. h) s.agents (both_all (λ row. not (is_agent_row u row)) (λ row. not (is_agent_row v row)) s.agents
          (none_all u Fits (is_agent_row u) s.agents (no_rows s None nine u here.row here.known)) (none_all u Fits (is_agent_row v) s.agents apart))) s here

pub deliveries_leave_it : DeliveriesLeaveIt
deliveries_leave_it s was u attentive none e text = by_turn (deliver_turn u (IsDelivered text) s was.nine
    (attends_of u (IsDelivered text) s attentive) none e text (λ agent from takes. record { agent = agent; letter = refl; named = takes }))
  where
    by_turn : Turn u (IsDelivered text) s (deliver s e text) → IsLeft u s (deliver s e text) ⊎ IsWoken u (IsDelivered text) s (deliver s e text)
    by_turn (Left a) = inl a
    by_turn (Woken a) = inr a
