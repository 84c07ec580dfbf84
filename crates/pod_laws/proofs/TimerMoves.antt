-- No timer comes but by the call that asks for it.
use Rattle.lwp_types.specs.Agents.{after_agent_end, deliver, deliver_to, end_agent, event_agents, message}
use Rattle.lwp_types.specs.Case.{Case, Check, refusal_case, silent_case, unless, value_case, with_zero}
use Rattle.lwp_types.specs.Choice.{choice, is_eligible, is_eligible_in}
use Rattle.lwp_types.specs.CountLaws.{count-append, count-filter-le, count_found_and, one}
use Rattle.lwp_types.specs.Counts.{is_timed, timers_of}
use Rattle.lwp_types.specs.Death.{answer_joiners, bury, death, destroy_case, end_agents, refuse_receivers, refuse_sender, refuse_senders}
use Rattle.lwp_types.specs.Death.{release_all, run_all_exits, withdraw}
use Rattle.lwp_types.specs.Exits.{catch_case, exit_case, leave_frame, excnotify_case_by, run_exit, unwind}
use Rattle.lwp_types.specs.Lawful.{Lawful}
use Rattle.lwp_types.specs.Messages.{after_reply, as_answer, as_received, next_letter, post, receive_by, receivers_of, takes_from, with_holding, without_letter}
use Rattle.lwp_types.specs.Monitors.{after_exit, after_request, depth_in, enter_case, is_owned_by_other, with_depth}
use Rattle.lwp_types.specs.Exceptions.{caught_marks, exits_of, first_frames, frames, handler_of, later_frames, with_match}
use Rattle.lwp_types.specs.MonitorRelease.{grant, last_lock, next_owner, release, without_lock}
use Rattle.lwp_types.specs.State.{Outcome, State, ThreadRow, and_then, for_each, in_order, is_agent, is_not_blocked, is_number, marks_in, passes}
use Rattle.lwp_types.specs.State.{still, thread_of, with_marks_of}
use Rattle.lwp_types.specs.Step.{case_of, step, step_by, step_if}
use Rattle.lwp_types.specs.Time.{after_tick, due_threads, tick, time_out}
use Rattle.lwp_types.specs.Unblock.{after_block, after_block_for, after_unblock, is_timer_of, nonexist, timer_for, unblock, zero_answer}
use Rattle.lwp_types.specs.Conditions.{after_wait, after_wake, after_wake_all, condition_of}
use Rattle.lwp_types.specs.declared.call.Answer.{Answer}
use Rattle.lwp_types.specs.declared.call.Call.{Call}
use Rattle.lwp_types.specs.declared.call.ExitCall.{ExitCall}
use Rattle.lwp_types.specs.declared.call.Func.{Func}
use Rattle.lwp_types.specs.declared.call.Mode.{Mode}
use Rattle.lwp_types.specs.declared.rows.AgentRow.{AgentRow}
use Rattle.lwp_types.specs.declared.rows.Block.{Block}
use Rattle.lwp_types.specs.declared.rows.CondRow.{CondRow}
use Rattle.lwp_types.specs.declared.rows.Found.{Found}
use Rattle.lwp_types.specs.declared.rows.Letter.{Letter}
use Rattle.lwp_types.specs.declared.rows.Lock.{Lock}
use Rattle.lwp_types.specs.declared.rows.Mark.{Mark}
use Rattle.lwp_types.specs.declared.rows.Request.{Request}
use Rattle.lwp_types.specs.declared.rows.TimerRow.{TimerRow}
use Rattle.lwp_types.specs.declared.rows.WaitRow.{WaitRow}
use Rattle.pod_laws.proofs.Checks.{unless_keeps}
use Rattle.pod_laws.proofs.Rowed.{once_threads}
use Rattle.pod_laws.proofs.Timers.{dropped_own, free_untimed}
use Rattle.pod_laws.specs.Timers.{NoTimerComesUnasked, WaitsEndTimers, ticks_in, ticks_of, timers_of_call, timers_by}
use Rattle.std.proofs.lemmas.Bool.{and_parts}
use Rattle.std.proofs.Common.{ap, arith, eqb, refl}
use Rattle.std.specs.List.{count_by, fold}
use Rattle.std.specs.Prelude.{Bool, List, None, Option, Some, [], cond, false, nat_le, not, true, ℕ, ◌++◌, ◌-◌, ◌∷◌, ◌≡◌, ◌≤◌}
use Rattle.lwp_types.specs.declared.call.Answer.TheVariants as answer
use Rattle.lwp_types.specs.declared.call.Call.TheVariants as call
use Rattle.lwp_types.specs.declared.call.ExitCall.TheVariants as exit
use Rattle.lwp_types.specs.declared.call.Func.TheVariants as func
use Rattle.lwp_types.specs.declared.call.LwpErr.TheVariants as error
use Rattle.lwp_types.specs.declared.call.Mode.TheVariants as mode
use Rattle.lwp_types.specs.declared.rows.Block.TheVariants as block

-- who may run has no timer
running_untimed : (s : State) → Lawful s None → (t : ℕ) → is_eligible_in s t ≡ true → timers_of s.timers t ≡ 0
running_untimed s was t runs = by_row (thread_of s t) refl runs
  where
    none : (row : ThreadRow) → thread_of s t ≡ Some row → is_timed row.block ≡ false → timers_of s.timers t ≡ 0
    none row known free = omega (
      arith,
      was.nine.blocks.4.0 t,
      count_found_and (is_number t) (λ row. is_timed row.block) s.threads row known (once_threads s None was.nine t),
      ap one free,
    )

    by_row : (o : Option ThreadRow) → thread_of s t ≡ o → passes is_eligible o ≡ true → timers_of s.timers t ≡ 0
    by_row None known h = absurd (cc)
    by_row (Some row) known h = none row known (free_untimed row.block (and_parts (not row.suspended) (is_not_blocked row.block) h).1)

pub waits_end_timers : WaitsEndTimers
waits_end_timers s t = record { goes_on = dropped_own t s.timers; dies = dropped_own t s.timers; runs = λ was. running_untimed s was t }

-- the timers after it are among these
record Among (p : TimerRow → Bool) (timers : List TimerRow) (after : State) : Type 0 where
  pub fewer : count_by p after.timers ≤ count_by p timers

module _ (p : TimerRow → Bool) where
  -- no timer comes, but for some that go
  quiet_same : (s after : State) → after.timers ≡ s.timers → Among p s.timers after
  quiet_same s after same = record { fewer = omega (arith, ap (count_by p) same) }

  quiet_still : (s : State) → Among p s.timers s
  quiet_still s = record { fewer = omega arith }

  quiet_then : (timers : List TimerRow) (middle after : State) → Among p timers middle → Among p middle.timers after → Among p timers after
  quiet_then timers middle after one two = record { fewer = omega (arith, one.fewer, two.fewer) }

  -- who goes on loses its timer
  quiet_unblocked : (timers : List TimerRow) (t : ℕ) (s : State) → s.timers ≡ timers → Among p timers (after_unblock s t)
  quiet_unblocked timers t s same = record { fewer = omega (arith, count-filter-le p (λ row. not (is_timer_of t row)) s.timers, ap (count_by p) same) }

  quiet_unblock : (a : Answer) (t : ℕ) (s : State) → Among p s.timers (unblock a t s).after
  quiet_unblock a t s = quiet_unblocked s.timers t s refl

  quiet_grant : (o : Option Request) (s : State) → Among p s.timers (grant o s).after
  quiet_grant None s = quiet_still s
  quiet_grant (Some r) s = quiet_unblocked s.timers r.tid _ refl

  quiet_release : (m : ℕ) (s : State) → Among p s.timers (release m s).after
  quiet_release m s = quiet_grant (next_owner s m) (record s { locks = without_lock m s.locks })

  quiet_exited : (m : ℕ) (s : State) → Among p s.timers (after_exit m s).after
  quiet_exited m s = by_depth (nat_le (depth_in s.locks m) 1)
    where
      by_depth : (b : Bool) → Among p s.timers (cond b (release m s) (still (record s { locks = with_depth m (depth_in s.locks m - 1) s.locks }))).after
      by_depth true = quiet_release m s
      by_depth false = quiet_same s _ refl

  quiet_post : (letter : Letter) (s : State) → Among p s.timers (post letter s).after
  quiet_post letter s = by_test (passes (λ (row : ThreadRow). takes_from letter.from row.block) (thread_of s letter.to))
    where
      by_test : (b : Bool)
          → Among p s.timers (cond b (unblock (as_answer letter) letter.to (record s { letters = s.letters ++ as_received letter ∷ [] }))
          (still (record s { letters = s.letters ++ letter ∷ [] }))).after
      by_test true = quiet_unblocked s.timers letter.to _ refl
      by_test false = quiet_same s _ refl

  quiet_replied : (u : ℕ) (text : List ℕ) (s : State) → Among p s.timers (after_reply u text s).after
  quiet_replied u text s = by_agent (is_agent s u)
    where
      by_agent : (b : Bool)
          → Among p s.timers (cond b (still (record s { letters = without_letter u s.letters; agents = with_holding u false s.agents }))
          (unblock (answer.Reply text) u (record s { letters = without_letter u s.letters }))).after
      by_agent true = quiet_same s _ refl
      by_agent false = quiet_unblocked s.timers u _ refl

  quiet_woken : (m : ℕ) (ws : List WaitRow) (s : State) → Among p s.timers (fold (λ now w. after_wake m w now) s ws)
  quiet_woken m [] s = quiet_still s
  quiet_woken m (w ∷ ws) s = quiet_then s.timers (after_wake m w s) _ (quiet_same s _ refl) (quiet_woken m ws (after_wake m w s))

  quiet_woken_all : (o : Option CondRow) (ws : List WaitRow) (s : State) → Among p s.timers (after_wake_all o ws s)
  quiet_woken_all None ws s = quiet_still s
  quiet_woken_all (Some row) ws s = quiet_woken row.mon ws s

  quiet_waited : (t c : ℕ) (o : Option Lock) (s : State) → Among p s.timers (after_wait t c o s).after
  quiet_waited t c None s = quiet_still s
  quiet_waited t c (Some lock) s =
      quiet_release lock.mon (after_block (record s { waits = s.waits ++ record { cond = c; tid = t; depth = lock.depth } ∷ [] }) t (block.Waiting c))

  quiet_each : {A : Type 0} (change : A → State → Outcome) → ((x : A) (s : State) → Among p s.timers (change x s).after)
      → (xs : List A) (s : State) → Among p s.timers (for_each change xs s).after
  unfolding for_each and_then
  quiet_each change one [] s = quiet_still s
  quiet_each change one (x ∷ xs) s = quiet_then s.timers (change x s).after _ (one x s) (quiet_each change one xs (change x s).after)

  quiet_end_agent : (a : ℕ) (s : State) → Among p s.timers (end_agent a s).after
  unfolding and_then
  quiet_end_agent a s =
      let woke = for_each (unblock nonexist) (receivers_of s a) s in
      quiet_then s.timers woke.after (after_agent_end a woke.after)
      (quiet_each (unblock nonexist) (quiet_unblock nonexist) (receivers_of s a) s) (quiet_same woke.after _ refl)

  unless_quiet : (s : State) (timers : List TimerRow) (checks : List Check) (otherwise : Case) → count_by p s.timers ≤ count_by p timers
      → Among p timers otherwise.after → Among p timers (unless s checks otherwise).after
  unless_quiet s timers checks otherwise more fine = unless_keeps (λ after. Among p timers after) s checks otherwise (record { fewer = more }) (λ passed. fine)

  exit_case_quiet : (s : State) (t : ℕ) (call : ExitCall) → Among p s.timers (exit_case s t call).after
  exit_case_quiet s t (exit.MonExit m) = unless_quiet s s.timers _ _ (omega arith) (quiet_exited m s)
  exit_case_quiet s t (exit.MonBreak m) = unless_quiet s s.timers _ _ (omega arith) (quiet_release m s)
  exit_case_quiet s t (exit.Notify c) = unless_quiet s s.timers _ _ (omega arith) (quiet_woken_all (condition_of s.conditions c) _ s)
  exit_case_quiet s t (exit.Broadcast c) = unless_quiet s s.timers _ _ (omega arith) (quiet_woken_all (condition_of s.conditions c) _ s)
  exit_case_quiet s t (exit.Reply to text) = unless_quiet s s.timers _ _ (omega arith) (quiet_replied to text s)
  exit_case_quiet s t (exit.Resume u) = unless_quiet s s.timers _ _ (omega arith) (quiet_same s _ refl)
  exit_case_quiet s t (exit.SetExit code) = unless_quiet s s.timers _ _ (omega arith) (quiet_same s _ refl)
  exit_case_quiet s t (exit.Note text) = quiet_still s

  quiet_unwind : (t : ℕ) (kept gone : List Mark) (s : State) → Among p s.timers (unwind t kept gone s).after
  quiet_unwind t kept gone s = quiet_each (run_exit t) (λ x s. exit_case_quiet s t x.call) (exits_of gone) (with_marks_of s t kept)

  quiet_withdraw : (t : ℕ) (s : State) → Among p s.timers (withdraw t s).after
  quiet_withdraw t s = record { fewer = count-filter-le p (λ row. not (is_timer_of t row)) s.timers }

  quiet_bury : (t : ℕ) (s : State) → Among p s.timers (bury t s).after
  quiet_bury t s = quiet_same s _ refl

  quiet_first : (change : State → Outcome) (changes : List (State → Outcome)) (s : State) → Among p s.timers (change s).after
      → Among p (change s).after.timers (in_order changes (change s).after).after → Among p s.timers (in_order (change ∷ changes) s).after
  unfolding in_order and_then
  quiet_first change changes s one two = quiet_then s.timers (change s).after _ one two

  quiet_last : (s : State) → Among p s.timers (in_order [] s).after
  unfolding in_order
  quiet_last s = quiet_still s

  quiet_death : (t : ℕ) (s : State) → Among p s.timers (death t s).after
  quiet_death t s =
      quiet_first (withdraw t) _ _ (quiet_withdraw t s)
      (quiet_first (run_all_exits t) _ _ (quiet_unwind t [] (marks_in (withdraw t s).after t) (withdraw t s).after)
      (quiet_first (release_all t) _ _ (quiet_each release quiet_release _ _)
      (quiet_first (end_agents t) _ _ (quiet_each end_agent quiet_end_agent _ _)
      (quiet_first (refuse_senders t) _ _ (quiet_each refuse_sender (λ x s. quiet_unblocked s.timers x _ refl) _ _)
      (quiet_first (refuse_receivers t) _ _ (quiet_each (unblock nonexist) (quiet_unblock nonexist) _ _)
      (quiet_first (answer_joiners t) _ _ (quiet_each (unblock zero_answer) (quiet_unblock zero_answer) _ _)
      (quiet_first (bury t) _ _ (quiet_bury t _) (quiet_last _))))))))

  cond_quiet : (timers : List TimerRow) (b : Bool) (one two : Case) → Among p timers one.after → Among p timers two.after
      → Among p timers (cond b one two).after
  cond_quiet timers true one two first second = first
  cond_quiet timers false one two first second = second

  quiet_match : (s : State) (on_match : Found → Case) (o : Option Found) → ((f : Found) → Among p s.timers (on_match f).after)
      → Among p s.timers (with_match s on_match o).after
  quiet_match s on_match None fine = quiet_still s
  quiet_match s on_match (Some f) fine = fine f

  quiet_caught : (s : State) (t q : ℕ) (f : Found) → Among p s.timers (catch_case s t q f).after
  quiet_caught s t q f = quiet_unwind t (caught_marks f (marks_in s t)) (later_frames f.depth (marks_in s t)) s

  quiet_notified : (s : State) (t q : ℕ) (f : Found) (h : Func) → Among p s.timers (excnotify_case_by s t q f h).after
  quiet_notified s t q f func.Give = quiet_still s
  quiet_notified s t q f func.Sum = quiet_still s
  quiet_notified s t q f func.Nothing = quiet_caught s t q f

  quiet_destroyed : (s : State) (t u : ℕ) → Among p s.timers (destroy_case s t u).after
  quiet_destroyed s t u = cond_quiet s.timers (is_agent s u) (with_zero (end_agent u s)) _ (quiet_end_agent u s)
      (cond_quiet s.timers (eqb t u) (silent_case (death u s)) (with_zero (death u s)) (quiet_death u s) (quiet_death u s))

  -- more timers are among more
  more_timers : (s : State) (more : List TimerRow) → count_by p s.timers ≤ count_by p (s.timers ++ more)
  more_timers s more = omega (arith, count-append p s.timers more)

  -- a wait with a timer
  quiet_timed : (s : State) (t : ℕ) (b : Block) (ticks : ℕ) → Among p (s.timers ++ timer_for s t ticks ∷ []) (after_block_for s t b ticks)
  quiet_timed s t b ticks = record { fewer = omega arith }

  quiet_received : (s : State) (t : ℕ) (from : Option ℕ) (how : Mode) (o : Option Letter)
      → Among p (s.timers ++ timers_by s t (ticks_in how)) (receive_by s t from how o).after
  quiet_received s t from mode.Poll None = record { fewer = more_timers s [] }
  quiet_received s t from mode.Poll (Some letter) = record { fewer = more_timers s [] }
  quiet_received s t from mode.Block None = record { fewer = more_timers s [] }
  quiet_received s t from mode.Block (Some letter) = record { fewer = more_timers s [] }
  quiet_received s t from (mode.Until ticks) None = cond_quiet (s.timers ++ timer_for s t ticks ∷ []) (eqb ticks 0)
      (refusal_case s error.Timeout) (silent_case (still (after_block_for s t (block.Receiving from) ticks)))
      (record { fewer = more_timers s (timer_for s t ticks ∷ []) }) (quiet_timed s t (block.Receiving from) ticks)
  quiet_received s t from (mode.Until ticks) (Some letter) = record { fewer = more_timers s (timer_for s t ticks ∷ []) }

  none_asked : (s after : State) → Among p s.timers after → Among p (s.timers ++ []) after
  none_asked s after quiet = record { fewer = omega (arith, quiet.fewer, more_timers s []) }

  -- of every call: the last line is for each that is refused by its checks or else leaves the timers as they are
  case_quiet : (s : State) (t : ℕ) (c : Call) → Among p (s.timers ++ timers_by s t (ticks_of c)) (case_of s t c).after
  case_quiet s t (call.Destroy u) = none_asked s _ (unless_quiet s s.timers _ _ (omega arith) (quiet_destroyed s t u))
  case_quiet s t (call.Ping u) = none_asked s _ (unless_quiet s s.timers _ _ (omega arith) (quiet_still s))
  case_quiet s t (call.Sleep ticks) =
      cond_quiet (s.timers ++ timer_for s t ticks ∷ []) (eqb ticks 0) (value_case s 0) (silent_case (still (after_block_for s t block.Sleeping ticks)))
      (record { fewer = more_timers s (timer_for s t ticks ∷ []) }) (quiet_timed s t block.Sleeping ticks)
  case_quiet s t call.Me = none_asked s _ (quiet_still s)
  case_quiet s t call.GetExit = none_asked s _ (quiet_still s)
  case_quiet s t call.Threads = none_asked s _ (quiet_still s)
  case_quiet s t (call.Send u room text) = none_asked s _ (unless_quiet s s.timers _ _ (omega arith)
      (quiet_post (record { from = t; to = u; text = text; room = room; received = false }) (after_block s t block.Sending)))
  case_quiet s t (call.Recv from how) = unless_quiet s (s.timers ++ timers_by s t (ticks_in how)) _ _
      (more_timers s (timers_by s t (ticks_in how))) (quiet_received s t from how (next_letter s.letters t from))
  case_quiet s t (call.Reply u text) = none_asked s _ (unless_quiet s s.timers _ _ (omega arith) (quiet_replied u text s))
  case_quiet s t call.Senders = none_asked s _ (quiet_still s)
  case_quiet s t call.Receivers = none_asked s _ (quiet_still s)
  case_quiet s t (call.Enter m) = none_asked s _ (unless_quiet s s.timers _ _ (omega arith) (cond_quiet s.timers
      (is_owned_by_other s.locks t m) (silent_case (still (after_request s t m))) (enter_case s t m) (quiet_same s _ refl) (quiet_same s _ refl)))
  case_quiet s t (call.MonExit m) = none_asked s _ (unless_quiet s s.timers _ _ (omega arith) (quiet_exited m s))
  case_quiet s t (call.MonBreak m) = none_asked s _ (unless_quiet s s.timers _ _ (omega arith) (quiet_release m s))
  case_quiet s t call.Monitors = none_asked s _ (quiet_still s)
  case_quiet s t (call.MonWaiters m) = none_asked s _ (unless_quiet s s.timers _ _ (omega arith) (quiet_still s))
  case_quiet s t (call.Wait c) = none_asked s _ (unless_quiet s s.timers _ _ (omega arith) (quiet_waited t c (last_lock s.locks t) s))
  case_quiet s t (call.Notify c) = none_asked s _ (unless_quiet s s.timers _ _ (omega arith) (quiet_woken_all (condition_of s.conditions c) _ s))
  case_quiet s t (call.Broadcast c) = none_asked s _ (unless_quiet s s.timers _ _ (omega arith) (quiet_woken_all (condition_of s.conditions c) _ s))
  case_quiet s t (call.CvSend c u) = none_asked s _ (unless_quiet s s.timers _ _ (omega arith) (quiet_woken_all (condition_of s.conditions c) _ s))
  case_quiet s t call.Conds = none_asked s _ (quiet_still s)
  case_quiet s t (call.CvWaiters c) = none_asked s _ (unless_quiet s s.timers _ _ (omega arith) (quiet_still s))
  case_quiet s t call.Return =
      none_asked s _ (cond_quiet s.timers (nat_le 2 (frames (marks_in s t))) (leave_frame s t) (silent_case (death t s))
      (quiet_unwind t (first_frames (frames (marks_in s t) - 1) (marks_in s t)) (later_frames (frames (marks_in s t) - 1) (marks_in s t)) s) (quiet_death t s))
  case_quiet s t (call.Raise q) =
      none_asked s _ (unless_quiet s s.timers _ _ (omega arith) (quiet_match s (catch_case s t q) (handler_of s t q) (λ f. quiet_caught s t q f)))
  case_quiet s t (call.ExcNotify q) = none_asked s _ (unless_quiet s s.timers _ _ (omega arith)
      (quiet_match s (λ f. excnotify_case_by s t q f f.func) (handler_of s t q) (λ f. quiet_notified s t q f f.func)))
  case_quiet s t (call.Bound q) = none_asked s _ (unless_quiet s s.timers _ _ (omega arith) (quiet_match s _ (handler_of s t q) (λ f. quiet_still s)))
  case_quiet s t call.Agents = none_asked s _ (quiet_still s)
  case_quiet s t (call.Trap e) = none_asked s _ (quiet_still s)
  case_quiet s t (call.Say text) = none_asked s _ (quiet_still s)
  case_quiet s t _ = none_asked s _ (unless_quiet s s.timers _ _ (omega arith) (quiet_same s _ refl))

  step_among : (s : State) (c : Call) → Among p (s.timers ++ timers_of_call s (choice s) c) (step s c).after
  unfolding step step_by
  step_among s c = by_choice (choice s)
    where
      by_choice : (o : Option ℕ) → Among p (s.timers ++ timers_of_call s o c) (step_if s c o).after
      by_choice None = none_asked s _ (quiet_still s)
      by_choice (Some t) = quiet_then (s.timers ++ timers_by s t (ticks_of c)) (case_of s t c).after _ (case_quiet s t c)
          (quiet_same (case_of s t c).after _ refl)

  quiet_tick : (s : State) → Among p s.timers (tick s).after
  unfolding and_then
  quiet_tick s = quiet_each time_out (λ t now. quiet_unblocked now.timers t now refl) (due_threads (after_tick s)) (after_tick s)

  deliver_quiet : (s : State) (e : ℕ) (text : List ℕ) → Among p s.timers (deliver s e text).after
  unfolding deliver and_then
  deliver_quiet s e text = by_clock (eqb e 0)
    where
      by_agent : (row : AgentRow) (now : State) → Among p now.timers (deliver_to text row now).after
      by_agent row now = quiet_post (message text row) (record now { agents = with_holding row.number true now.agents })

      by_clock : (b : Bool) → Among p s.timers (cond b (tick s) (for_each (deliver_to text) (event_agents s.agents e) s)).after
      by_clock true = quiet_tick s
      by_clock false = quiet_each (deliver_to text) by_agent (event_agents s.agents e) s

pub no_timer_comes_unasked : NoTimerComesUnasked
no_timer_comes_unasked s p = record { called = λ c. (step_among p s c).fewer; delivered = λ e text. (deliver_quiet p s e text).fewer }
