-- What gives the next exit procedure its number: an OnExit that isn't refused, and nothing else. What makes the clock tick: a line of its
-- event, and nothing else. Which calls give a number to a thread or an agent: Create and Agent, and no other.
use Rattle.lwp_types.specs.Agents.{deliver, deliver_to, end_agent, event_agents, message}
use Rattle.lwp_types.specs.Case.{Case, Check, refusal_case, silent_case, unless, value_case, with_zero}
use Rattle.lwp_types.specs.Choice.{choice}
use Rattle.lwp_types.specs.Conditions.{after_wait, after_wake, after_wake_all, condition_of}
use Rattle.lwp_types.specs.Death.{answer_joiners, bury, death, destroy_case, end_agents, refuse_receivers}
use Rattle.lwp_types.specs.Death.{refuse_sender, refuse_senders, release_all, run_all_exits, withdraw}
use Rattle.lwp_types.specs.Exceptions.{caught_marks, exits_of, first_frames, frames, handler_of, later_frames, on_exit, with_match}
use Rattle.lwp_types.specs.Exits.{catch_case, exit_case, leave_frame, excnotify_case_by, run_exit, unwind}
use Rattle.lwp_types.specs.Messages.{after_reply, as_answer, as_received, next_letter, post, receive_by, receivers_of, takes_from, with_holding, without_letter}
use Rattle.lwp_types.specs.MonitorRelease.{grant, last_lock, next_owner, release, without_lock}
use Rattle.lwp_types.specs.Monitors.{after_exit, after_request, depth_in, enter_case, is_owned_by_other, with_depth}
use Rattle.lwp_types.specs.State.{Outcome, State, ThreadRow, and_then, for_each, in_order, is_agent, marks_in}
use Rattle.lwp_types.specs.State.{opening, passes, still, thread_of, with_marks, with_marks_of}
use Rattle.lwp_types.specs.Step.{case_of, step, step_by, step_if}
use Rattle.lwp_types.specs.Time.{after_tick, due_threads, tick, time_out}
use Rattle.lwp_types.specs.Unblock.{after_block, after_block_for, nonexist, unblock, zero_answer}
use Rattle.lwp_types.specs.declared.call.Call.{Call}
use Rattle.lwp_types.specs.declared.call.ExitCall.{ExitCall}
use Rattle.lwp_types.specs.declared.call.Func.{Func}
use Rattle.lwp_types.specs.declared.call.Mode.{Mode}
use Rattle.lwp_types.specs.declared.rows.CondRow.{CondRow}
use Rattle.lwp_types.specs.declared.rows.Found.{Found}
use Rattle.lwp_types.specs.declared.rows.Letter.{Letter}
use Rattle.lwp_types.specs.declared.rows.Lock.{Lock}
use Rattle.lwp_types.specs.declared.rows.Mark.{Mark}
use Rattle.lwp_types.specs.declared.rows.Request.{Request}
use Rattle.lwp_types.specs.declared.rows.WaitRow.{WaitRow}
use Rattle.pod_events.proofs.Carried.{call_keeps, take_keeps}
use Rattle.pod_events.specs.Events.{EventState, quiet_events, rites_event}
use Rattle.pod_events.specs.Moves.{EventMove, ToCall, ToTake, after_moves, event_move}
use Rattle.pod_laws.proofs.Checks.{Passed, unless_keeps}
use Rattle.pod_laws.specs.Once.{sets_of_call, sets_of_step}
use Rattle.pod_runner.proofs.Moving.{sessions_are_moves}
use Rattle.session_laws.specs.Numbers.{DeliveriesBearNone, DeliveriesKeepProcs, DeliveriesNumberNone, DeliveriesTick, BirthsAreLimited, StepsBearNone}
use Rattle.session_laws.specs.Numbers.{StepsKeepProcs, StepsKeepTheLimit, StepsKeepTheClock, StepsNumberExits, any_exit, bears}
use Rattle.std.proofs.Common.{Bool, List, None, Option, Some, [], ap, arith, cond, eqb, false, length}
use Rattle.std.proofs.Common.{refl, sym, true, ℕ, ◌++◌, ◌+◌, ◌-◌, ◌∙◌, ◌∷◌, ◌≡◌, ◌<◌, ◌≤◌, ◌||◌}
use Rattle.std.proofs.lemmas.Bool.{leb-false}
use Rattle.std.specs.List.{fold}
use Rattle.std.specs.Prelude.{nat_le}
use Rattle.lwp_types.specs.declared.call.Answer.TheVariants as answer
use Rattle.lwp_types.specs.declared.call.Call.TheVariants as call
use Rattle.lwp_types.specs.declared.call.ExitCall.TheVariants as exit
use Rattle.lwp_types.specs.declared.call.Func.TheVariants as func
use Rattle.lwp_types.specs.declared.call.LwpErr.TheVariants as error
use Rattle.lwp_types.specs.declared.call.Mode.TheVariants as mode
use Rattle.lwp_types.specs.declared.rows.Block.TheVariants as block
use Rattle.lwp_types.specs.declared.rows.Mark.TheVariants as mark

-- the number of the next exit procedure, how often the clock has ticked, how many threads and agents were born, how many
-- procedures there are, and how many may be born
abbrev pub counters : State → ℕ × ℕ × ℕ × ℕ × ℕ
counters s = (s.next_registration, s.now, s.births, s.procs, s.limit)

-- no number was given between these two states, and the clock didn't tick
abbrev pub NoneGiven : State → State → Type 0
NoneGiven s after = counters after ≡ counters s

-- ---- the changes that calls are made of

none_granted : (o : Option Request) (s : State) → NoneGiven s (grant o s).after
none_granted None s = refl
none_granted (Some r) s = refl

none_released : (m : ℕ) (s : State) → NoneGiven s (release m s).after
none_released m s = none_granted (next_owner s m) (record s { locks = without_lock m s.locks })

none_exited : (m : ℕ) (s : State) → NoneGiven s (after_exit m s).after
none_exited m s = by_depth (nat_le (depth_in s.locks m) 1)
  where
    by_depth : (b : Bool) → NoneGiven s (cond b (release m s) (still (record s { locks = with_depth m (depth_in s.locks m - 1) s.locks }))).after
    by_depth true = none_released m s
    by_depth false = refl

none_posted : (letter : Letter) (s : State) → NoneGiven s (post letter s).after
none_posted letter s = by_test (passes (λ (row : ThreadRow). takes_from letter.from row.block) (thread_of s letter.to))
  where
    by_test : (b : Bool)
        → NoneGiven s (cond b (unblock (as_answer letter) letter.to (record s { letters = s.letters ++ as_received letter ∷ [] }))
        (still (record s { letters = s.letters ++ letter ∷ [] }))).after
    by_test true = refl
    by_test false = refl

none_replied : (u : ℕ) (text : List ℕ) (s : State) → NoneGiven s (after_reply u text s).after
none_replied u text s = by_agent (is_agent s u)
  where
    by_agent : (b : Bool)
        → NoneGiven s (cond b (still (record s { letters = without_letter u s.letters; agents = with_holding u false s.agents }))
        (unblock (answer.Reply text) u (record s { letters = without_letter u s.letters }))).after
    by_agent true = refl
    by_agent false = refl

none_woken : (m : ℕ) (ws : List WaitRow) (s : State) → NoneGiven s (fold (λ now w. after_wake m w now) s ws)
none_woken m [] s = refl
none_woken m (w ∷ ws) s = none_woken m ws (after_wake m w s)

none_woken_all : (o : Option CondRow) (ws : List WaitRow) (s : State) → NoneGiven s (after_wake_all o ws s)
none_woken_all None ws s = refl
none_woken_all (Some row) ws s = none_woken row.mon ws s

none_waited : (t c : ℕ) (o : Option Lock) (s : State) → NoneGiven s (after_wait t c o s).after
none_waited t c None s = refl
none_waited t c (Some lock) s =
    none_released lock.mon (after_block (record s { waits = s.waits ++ record { cond = c; tid = t; depth = lock.depth } ∷ [] }) t (block.Waiting c))

none_each : {A : Type 0} (change : A → State → Outcome) → ((x : A) (s : State) → NoneGiven s (change x s).after) → (xs : List A) (s : State)
    → NoneGiven s (for_each change xs s).after
unfolding for_each and_then
none_each change one [] s = refl
none_each change one (x ∷ xs) s = none_each change one xs (change x s).after ∙ one x s

none_ended : (a : ℕ) (s : State) → NoneGiven s (end_agent a s).after
unfolding and_then
none_ended a s = none_each (unblock nonexist) (λ t s. refl) (receivers_of s a) s

none_unless : (s : State) (checks : List Check) (otherwise : Case) → NoneGiven s otherwise.after → NoneGiven s (unless s checks otherwise).after
none_unless s checks otherwise fine = unless_keeps (NoneGiven s) s checks otherwise refl (λ passed. fine)

none_run : (s : State) (t : ℕ) (x : ExitCall) → NoneGiven s (exit_case s t x).after
none_run s t (exit.MonExit m) = none_unless s _ _ (none_exited m s)
none_run s t (exit.MonBreak m) = none_unless s _ _ (none_released m s)
none_run s t (exit.Notify c) = none_unless s _ _ (none_woken_all (condition_of s.conditions c) _ s)
none_run s t (exit.Broadcast c) = none_unless s _ _ (none_woken_all (condition_of s.conditions c) _ s)
none_run s t (exit.Reply to text) = none_unless s _ _ (none_replied to text s)
none_run s t (exit.Resume u) = none_unless s _ _ refl
none_run s t (exit.SetExit code) = none_unless s _ _ refl
none_run s t (exit.Note text) = refl

none_unwound : (t : ℕ) (kept gone : List Mark) (s : State) → NoneGiven s (unwind t kept gone s).after
none_unwound t kept gone s = none_each (run_exit t) (λ x s. none_run s t x.call) (exits_of gone) (with_marks_of s t kept)

-- ---- a death

none_first : (change : State → Outcome) (changes : List (State → Outcome)) (s : State) → NoneGiven s (change s).after
    → NoneGiven (change s).after (in_order changes (change s).after).after → NoneGiven s (in_order (change ∷ changes) s).after
unfolding in_order and_then
none_first change changes s one two = two ∙ one

none_last : (s : State) → NoneGiven s (in_order [] s).after
unfolding in_order
none_last s = refl

none_died : (t : ℕ) (s : State) → NoneGiven s (death t s).after
none_died t s =
    none_first (withdraw t) _ _ refl
    (none_first (run_all_exits t) _ _ (none_unwound t [] (marks_in (withdraw t s).after t) (withdraw t s).after)
    (none_first (release_all t) _ _ (none_each release none_released _ _)
    (none_first (end_agents t) _ _ (none_each end_agent none_ended _ _)
    (none_first (refuse_senders t) _ _ (none_each refuse_sender (λ x s. refl) _ _)
    (none_first (refuse_receivers t) _ _ (none_each (unblock nonexist) (λ x s. refl) _ _)
    (none_first (answer_joiners t) _ _ (none_each (unblock zero_answer) (λ x s. refl) _ _)
    (none_first (bury t) _ _ refl (none_last _))))))))

-- ---- calls

none_cond : (s : State) (b : Bool) (one two : Case) → NoneGiven s one.after → NoneGiven s two.after → NoneGiven s (cond b one two).after
none_cond s true one two first second = first
none_cond s false one two first second = second

none_received : (s : State) (t : ℕ) (from : Option ℕ) (how : Mode) (o : Option Letter) → NoneGiven s (receive_by s t from how o).after
none_received s t from mode.Poll None = refl
none_received s t from mode.Poll (Some letter) = refl
none_received s t from mode.Block None = refl
none_received s t from mode.Block (Some letter) = refl
none_received s t from (mode.Until ticks) None =
    none_cond s (eqb ticks 0) (refusal_case s error.Timeout) (silent_case (still (after_block_for s t (block.Receiving from) ticks))) refl refl
none_received s t from (mode.Until ticks) (Some letter) = refl

none_matched : (s : State) (on_match : Found → Case) (o : Option Found) → ((f : Found) → NoneGiven s (on_match f).after)
    → NoneGiven s (with_match s on_match o).after
none_matched s on_match None fine = refl
none_matched s on_match (Some f) fine = fine f

none_caught : (s : State) (t p : ℕ) (f : Found) → NoneGiven s (catch_case s t p f).after
none_caught s t p f = none_unwound t (caught_marks f (marks_in s t)) (later_frames f.depth (marks_in s t)) s

none_notified : (s : State) (t p : ℕ) (f : Found) (h : Func) → NoneGiven s (excnotify_case_by s t p f h).after
none_notified s t p f func.Give = refl
none_notified s t p f func.Sum = refl
none_notified s t p f func.Nothing = none_caught s t p f

none_destroyed : (s : State) (t u : ℕ) → NoneGiven s (destroy_case s t u).after
none_destroyed s t u = none_cond s (is_agent s u) (with_zero (end_agent u s)) _ (none_ended u s)
    (none_cond s (eqb t u) (silent_case (death u s)) (with_zero (death u s)) (none_died u s) (none_died u s))

-- the one call that gives a number, unless it is refused
exit_numbered : (s : State) (t : ℕ) (x : ExitCall) → (on_exit s t x).after.next_registration ≡ s.next_registration + sets_of_call any_exit s t (call.OnExit x)
unfolding unless
exit_numbered s t x = by_tests (nat_le 256 (length (marks_in s t))) (nat_le 4294967295 s.next_registration)
  where
    by_tests : (a b : Bool)
        → (cond a (refusal_case s error.NoRoom) (cond b (refusal_case s error.NoRoom) (value_case
        (record s { threads = with_marks t (marks_in s t ++ mark.Exit s.next_registration x ∷ []) s.threads; next_registration = s.next_registration + 1 })
        s.next_registration))).after.next_registration
        ≡ s.next_registration + cond (a || b) 0 1
    by_tests true b = omega arith
    by_tests false true = omega arith
    by_tests false false = refl

-- as many numbers were given as this call of t sets, and the clock didn't tick
record Numbers (s : State) (t : ℕ) (c : Call) (made : Case) : Type 0 where
  next : made.after.next_registration ≡ s.next_registration + sets_of_call any_exit s t c
  still : made.after.now ≡ s.now
  procs : made.after.procs ≡ s.procs
  born : bears c ≡ false → made.after.births ≡ s.births
  limit : made.after.limit ≡ s.limit
  few : s.births ≤ s.limit → made.after.births ≤ s.limit

-- a call that sets none
plain : (s : State) (t : ℕ) (c : Call) (made : Case) → sets_of_call any_exit s t c ≡ 0 → NoneGiven s made.after → Numbers s t c made
plain s t c made never none = record {
  next = omega (arith, never, ap (λ (k : ℕ × ℕ × ℕ × ℕ × ℕ). k.0) none);
  still = ap (λ (k : ℕ × ℕ × ℕ × ℕ × ℕ). k.1) none;
  procs = ap (λ (k : ℕ × ℕ × ℕ × ℕ × ℕ). k.3) none;
  born = λ is. ap (λ (k : ℕ × ℕ × ℕ × ℕ × ℕ). k.2) none;
  limit = ap (λ (k : ℕ × ℕ × ℕ × ℕ × ℕ). k.4) none;
  few = λ was. let e = ap (λ (k : ℕ × ℕ × ℕ × ℕ × ℕ). k.2) none in omega (arith, was, e);
}

-- one that may bear a thread or an agent
-- a limit that isn't reached
not_le : (a b : ℕ) → nat_le a b ≡ false → b < a
not_le a b e = leb-false a b e

bearing : (s : State) (t : ℕ) (c : Call) (checks : List Check) (otherwise : Case) → sets_of_call any_exit s t c ≡ 0 → bears c ≡ true
    → otherwise.after.next_registration ≡ s.next_registration → otherwise.after.now ≡ s.now → otherwise.after.procs ≡ s.procs
    → otherwise.after.limit ≡ s.limit → otherwise.after.births ≡ s.births + 1 → (Passed checks → nat_le s.limit s.births ≡ false)
    → Numbers s t c (unless s checks otherwise)
bearing s t c checks otherwise never is number clock count most one_more below = record {
  next = omega (arith, never, unless_keeps (λ (after : State). after.next_registration ≡ s.next_registration) s checks otherwise refl (λ passed. number));
  still = unless_keeps (λ (after : State). after.now ≡ s.now) s checks otherwise refl (λ passed. clock);
  procs = unless_keeps (λ (after : State). after.procs ≡ s.procs) s checks otherwise refl (λ passed. count);
  limit = unless_keeps (λ (after : State). after.limit ≡ s.limit) s checks otherwise refl (λ passed. most);
  few = λ was. unless_keeps (λ (after : State). after.births ≤ s.limit) s checks otherwise was
      (λ passed. let lt = not_le s.limit s.births (below passed) in omega (arith, lt, one_more));
  born = λ off. let bad : true ≡ false = sym is ∙ off in absurd (cc);
}

-- of every call: the last line is for each that is refused by its checks or else leaves these counts as they are
case_numbers : (s : State) (t : ℕ) (c : Call) → Numbers s t c (case_of s t c)
case_numbers s t (call.Create number prio flags) = bearing s t _ _ _ refl refl refl refl refl refl refl (λ p. p.1.1.1.0)
case_numbers s t (call.Destroy u) = plain s t _ _ refl (none_unless s _ _ (none_destroyed s t u))
case_numbers s t (call.Sleep ticks) =
    plain s t _ _ refl (none_cond s (eqb ticks 0) (value_case s 0) (silent_case (still (after_block_for s t block.Sleeping ticks))) refl refl)
case_numbers s t call.Me = plain s t _ _ refl refl
case_numbers s t call.GetExit = plain s t _ _ refl refl
case_numbers s t call.Threads = plain s t _ _ refl refl
case_numbers s t (call.Send u room text) = plain s t _ _ refl
    (none_unless s _ _ (none_posted (record { from = t; to = u; text = text; room = room; received = false }) (after_block s t block.Sending)))
case_numbers s t (call.Recv from how) = plain s t _ _ refl (none_unless s _ _ (none_received s t from how (next_letter s.letters t from)))
case_numbers s t (call.Reply u text) = plain s t _ _ refl (none_unless s _ _ (none_replied u text s))
case_numbers s t call.Senders = plain s t _ _ refl refl
case_numbers s t call.Receivers = plain s t _ _ refl refl
case_numbers s t (call.Enter m) = plain s t _ _ refl
    (none_unless s _ _ (none_cond s (is_owned_by_other s.locks t m) (silent_case (still (after_request s t m))) (enter_case s t m) refl refl))
case_numbers s t (call.MonExit m) = plain s t _ _ refl (none_unless s _ _ (none_exited m s))
case_numbers s t (call.MonBreak m) = plain s t _ _ refl (none_unless s _ _ (none_released m s))
case_numbers s t call.Monitors = plain s t _ _ refl refl
case_numbers s t (call.Wait c) = plain s t _ _ refl (none_unless s _ _ (none_waited t c (last_lock s.locks t) s))
case_numbers s t (call.Notify c) = plain s t _ _ refl (none_unless s _ _ (none_woken_all (condition_of s.conditions c) _ s))
case_numbers s t (call.Broadcast c) = plain s t _ _ refl (none_unless s _ _ (none_woken_all (condition_of s.conditions c) _ s))
case_numbers s t (call.CvSend c u) = plain s t _ _ refl (none_unless s _ _ (none_woken_all (condition_of s.conditions c) _ s))
case_numbers s t call.Conds = plain s t _ _ refl refl
case_numbers s t call.Return =
    plain s t _ _ refl (none_cond s (nat_le 2 (frames (marks_in s t))) (leave_frame s t) (silent_case (death t s))
    (none_unwound t (first_frames (frames (marks_in s t) - 1) (marks_in s t)) (later_frames (frames (marks_in s t) - 1) (marks_in s t)) s) (none_died t s))
case_numbers s t (call.OnExit x) = record {
  next = exit_numbered s t x;
  still = unless_keeps (λ (after : State). after.now ≡ s.now) s _ _ refl (λ passed. refl);
  procs = unless_keeps (λ (after : State). after.procs ≡ s.procs) s _ _ refl (λ passed. refl);
  born = λ is. unless_keeps (λ (after : State). after.births ≡ s.births) s _ _ refl (λ passed. refl);
  limit = unless_keeps (λ (after : State). after.limit ≡ s.limit) s _ _ refl (λ passed. refl);
  few = λ was. unless_keeps (λ (after : State). after.births ≤ s.limit) s _ _ was (λ passed. was);
}
case_numbers s t (call.Raise q) = plain s t _ _ refl (none_unless s _ _ (none_matched s (catch_case s t q) (handler_of s t q) (λ f. none_caught s t q f)))
case_numbers s t (call.ExcNotify q) =
    plain s t _ _ refl (none_unless s _ _ (none_matched s (λ f. excnotify_case_by s t q f f.func) (handler_of s t q) (λ f. none_notified s t q f f.func)))
case_numbers s t (call.Bound q) = plain s t _ _ refl (none_unless s _ _ (none_matched s _ (handler_of s t q) (λ f. refl)))
case_numbers s t (call.Agent e) = bearing s t _ _ _ refl refl refl refl refl refl refl (λ p. p.1.1.0)
case_numbers s t call.Agents = plain s t _ _ refl refl
case_numbers s t (call.Trap e) = plain s t _ _ refl refl
case_numbers s t (call.Say text) = plain s t _ _ refl refl
case_numbers s t _ = plain s t _ _ refl (none_unless s _ _ refl)

pub steps_number_exits : StepsNumberExits
unfolding step step_by
steps_number_exits s c = by_choice (choice s)
  where
    by_choice : (o : Option ℕ) → (step_if s c o).after.next_registration ≡ s.next_registration + sets_of_step any_exit s o c
    by_choice None = omega arith
    by_choice (Some t) = (case_numbers s t c).next

-- a call makes no tick
pub steps_keep_clock : StepsKeepTheClock
unfolding step step_by
steps_keep_clock s c = by_choice (choice s)
  where
    by_choice : (o : Option ℕ) → (step_if s c o).after.now ≡ s.now
    by_choice None = refl
    by_choice (Some t) = (case_numbers s t c).still

-- nor does it change how many procedures there are
pub steps_keep_procs : StepsKeepProcs
unfolding step step_by
steps_keep_procs s c = by_choice (choice s)
  where
    by_choice : (o : Option ℕ) → (step_if s c o).after.procs ≡ s.procs
    by_choice None = refl
    by_choice (Some t) = (case_numbers s t c).procs

-- and but for Create and Agent none bears a thread or an agent
pub steps_bear_none : StepsBearNone
unfolding step step_by
steps_bear_none s c is = by_choice (choice s)
  where
    by_choice : (o : Option ℕ) → (step_if s c o).after.births ≡ s.births
    by_choice None = refl
    by_choice (Some t) = (case_numbers s t c).born is

-- what a delivery leaves as it was: it makes a tick, or nothing else than others
delivered_so : (s : State) (e : ℕ) (text : List ℕ)
    → counters (deliver s e text).after ≡ (s.next_registration, cond (eqb e 0) (s.now + 1) s.now, s.births, s.procs, s.limit)
unfolding deliver and_then
delivered_so s e text = by_clock (eqb e 0)
  where
    by_clock : (b : Bool)
        → counters (cond b (tick s) (for_each (deliver_to text) (event_agents s.agents e) s)).after
        ≡ (s.next_registration, cond b (s.now + 1) s.now, s.births, s.procs, s.limit)
    by_clock true = none_each time_out (λ u now. refl) (due_threads (after_tick s)) (after_tick s)
    by_clock false = none_each (deliver_to text)
        (λ row now. none_posted (message text row) (record now { agents = with_holding row.number true now.agents })) (event_agents s.agents e) s

pub deliveries_number_none : DeliveriesNumberNone
deliveries_number_none s e text = ap (λ (k : ℕ × ℕ × ℕ × ℕ × ℕ). k.0) (delivered_so s e text)

pub deliveries_tick : DeliveriesTick
deliveries_tick s e text = ap (λ (k : ℕ × ℕ × ℕ × ℕ × ℕ). k.1) (delivered_so s e text)

pub deliveries_bear_none : DeliveriesBearNone
deliveries_bear_none s e text = ap (λ (k : ℕ × ℕ × ℕ × ℕ × ℕ). k.2) (delivered_so s e text)

pub deliveries_keep_procs : DeliveriesKeepProcs
deliveries_keep_procs s e text = ap (λ (k : ℕ × ℕ × ℕ × ℕ × ℕ). k.3) (delivered_so s e text)

-- no call bears more than the limit allows
pub steps_keep_limit : StepsKeepTheLimit
unfolding step step_by
steps_keep_limit s c was = by_choice (choice s)
  where
    by_choice : (o : Option ℕ) → ((step_if s c o).after.births ≤ s.limit) × ((step_if s c o).after.limit ≡ s.limit)
    by_choice None = (was, refl)
    by_choice (Some t) = ((case_numbers s t c).few was, (case_numbers s t c).limit)

-- ---- births in a session

-- no more were born than may be, of so many in all
abbrev AreFew : ℕ → State → Type 0
AreFew most s = (s.births ≤ s.limit) × (s.limit ≡ most)

few_step : (most : ℕ) (s : State) (c : Call) → AreFew most s → AreFew most (step s c).after
few_step most s c was = let k = steps_keep_limit s c was.0 in ((let a = k.0 in let b = k.1 in omega (arith, a, b)), k.1 ∙ was.1)

few_delivery : (most : ℕ) (s : State) (e : ℕ) (text : List ℕ) → AreFew most s → AreFew most (deliver s e text).after
few_delivery most s e text was =
    let born = deliveries_bear_none s e text in
    let same = ap (λ (k : ℕ × ℕ × ℕ × ℕ × ℕ). k.4) (delivered_so s e text) in
    ((let a = was.0 in omega (arith, a, born, same)), same ∙ was.1)

few_move : (most : ℕ) (es : EventState) (m : EventMove) → AreFew most es.state → AreFew most (event_move es m).after.state
few_move most es (ToCall c) was = call_keeps (AreFew most) (λ s arms text few. few_delivery most s rites_event text few) es c
    (λ t chosen free. few_step most es.state c was) (λ t chosen d own. few_step most es.state d was) was
few_move most es (ToTake e text) was = take_keeps (AreFew most) es e text (λ free. few_delivery most es.state e text was) was

few_moves : (most : ℕ) (moves : List EventMove) (es : EventState) → AreFew most es.state → AreFew most (after_moves moves es).state
few_moves most [] es was = was
few_moves most (m ∷ moves) es was = few_moves most moves (event_move es m).after (few_move most es m was)

pub births_are_limited : (B : Type 0) → BirthsAreLimited B
births_are_limited B setting some_may takes n h =
    let moved = sessions_are_moves B setting takes n h in
    let few = few_moves setting.params.births moved.moves (quiet_events (opening setting.params)) (some_may, refl) in
    let at_end = ap (λ (es : EventState). es.state.births) moved.pod_is in
    let a = few.0 in
    let b = few.1 in
    omega (arith, a, b, at_end)
