-- What the machine tells others than the caller names no thread; and the caller is answered with somebody born, if with anybody.
use Rattle.lwp_types.specs.Agents.{after_agent_end, agents_of, deliver, deliver_to, end_agent, event_agents, message}
use Rattle.lwp_types.specs.Case.{Case, Check, refusal_case, silent_case, unless, value_case, with_zero}
use Rattle.lwp_types.specs.Choice.{choice}
use Rattle.lwp_types.specs.Conditions.{after_wait}
use Rattle.lwp_types.specs.Death.{answer_joiners, bury, death, destroy, end_agents, refuse_receivers, refuse_sender}
use Rattle.lwp_types.specs.Death.{refuse_senders, release_all, return_from, run_all_exits, withdraw}
use Rattle.lwp_types.specs.Exceptions.{caught_marks, exits_of, first_frames, frames, handler_of, later_frames, with_match}
use Rattle.lwp_types.specs.Exits.{catch_case, exit_case, leave_frame, excnotify_case_by, run_exit, unwind}
use Rattle.lwp_types.specs.Messages.{after_reply, as_answer, as_received, next_letter, post, receive_by, receivers_of}
use Rattle.lwp_types.specs.Messages.{senders_to, takes_from, with_holding, without_letter}
use Rattle.lwp_types.specs.MonitorRelease.{grant, last_lock, next_owner, release, without_lock}
use Rattle.lwp_types.specs.Monitors.{after_exit, after_request, depth_in, enter_case, is_owned_by_other, with_depth}
use Rattle.lwp_types.specs.State.{Outcome, State, ThreadRow, and_then, for_each, in_order, is_agent, marks_in, passes, still, thread_of, with_marks_of}
use Rattle.lwp_types.specs.Step.{case_of, end_effects, ends, own_effects, step, step_by, step_if, step_outcome}
use Rattle.lwp_types.specs.Time.{after_tick, due_threads, is_asleep_in, tick, time_out}
use Rattle.lwp_types.specs.Unblock.{after_block, after_block_for, nonexist, timeout_answer, unblock, zero_answer}
use Rattle.lwp_types.specs.declared.call.Answer.{Answer}
use Rattle.lwp_types.specs.declared.call.Call.{Call}
use Rattle.lwp_types.specs.declared.call.Effect.{Effect}
use Rattle.lwp_types.specs.declared.call.ExitCall.{ExitCall}
use Rattle.lwp_types.specs.declared.call.Func.{Func}
use Rattle.lwp_types.specs.declared.call.Mode.{Mode}
use Rattle.lwp_types.specs.declared.rows.AgentRow.{AgentRow}
use Rattle.lwp_types.specs.declared.rows.ExitMark.{ExitMark}
use Rattle.lwp_types.specs.declared.rows.Found.{Found}
use Rattle.lwp_types.specs.declared.rows.Letter.{Letter}
use Rattle.lwp_types.specs.declared.rows.Lock.{Lock}
use Rattle.lwp_types.specs.declared.rows.Mark.{Mark}
use Rattle.lwp_types.specs.declared.rows.Request.{Request}
use Rattle.pod_runner.specs.Session.{thread_in}
use Rattle.std.proofs.Common.{Bool, List, None, Option, Some, [], arith, cond, eqb, false, refl, subst, sym, true, ℕ, ◌++◌, ◌+◌, ◌-◌, ◌<◌, ◌∷◌, ◌≡◌}
use Rattle.std.specs.Prelude.{nat_le}
use Rattle.lwp_types.specs.declared.call.Answer.TheVariants as answer
use Rattle.lwp_types.specs.declared.call.Call.TheVariants as call
use Rattle.lwp_types.specs.declared.call.Effect.TheVariants as effect
use Rattle.lwp_types.specs.declared.call.ExitCall.TheVariants as exit
use Rattle.lwp_types.specs.declared.call.Func.TheVariants as func
use Rattle.lwp_types.specs.declared.call.LwpErr.TheVariants as error
use Rattle.lwp_types.specs.declared.call.Mode.TheVariants as mode
use Rattle.lwp_types.specs.declared.rows.Block.TheVariants as block

-- the thread, if there is one, is below n
abbrev pub Below : ℕ → Option ℕ → Type 0
Below n None = Unit {0}
Below n (Some t) = t < n

-- a thread that an answer names is below n
abbrev pub NamedIn : ℕ → Effect → Type 0
NamedIn n (effect.Answered t a) = Below n (thread_in a)
NamedIn n _ = Unit {0}

abbrev pub AllNamed : ℕ → List Effect → Type 0
AllNamed n [] = Unit {0}
AllNamed n (e ∷ es) = NamedIn n e × AllNamed n es

pub named_append : (n : ℕ) (xs ys : List Effect) → AllNamed n xs → AllNamed n ys → AllNamed n (xs ++ ys)
named_append n [] ys one two = two
named_append n (x ∷ xs) ys one two = (one.0, named_append n xs ys one.1 two)

module _ (n : ℕ) where
  named_then : (first : Outcome) (more : State → Outcome) → AllNamed n first.effects → AllNamed n (more first.after).effects
      → AllNamed n (and_then first more).effects
  unfolding and_then
  named_then first more one two = named_append n first.effects (more first.after).effects one two

  named_each : {A : Type 0} (change : A → State → Outcome) → ((x : A) (s : State) → AllNamed n (change x s).effects)
      → (xs : List A) (s : State) → AllNamed n (for_each change xs s).effects
  unfolding for_each
  named_each change named [] s = tt
  named_each change named (x ∷ xs) s = named_then (change x s) (for_each change xs) (named x s) (named_each change named xs (change x s).after)

  -- ---- single changes

  named_grant : (o : Option Request) (s : State) → AllNamed n (grant o s).effects
  named_grant None s = tt
  named_grant (Some r) s = (tt, tt)

  named_release : (m : ℕ) (s : State) → AllNamed n (release m s).effects
  named_release m s = named_grant (next_owner s m) (record s { locks = without_lock m s.locks })

  named_exited : (m : ℕ) (s : State) → AllNamed n (after_exit m s).effects
  named_exited m s = by_depth (nat_le (depth_in s.locks m) 1)
    where
      by_depth : (b : Bool) → AllNamed n (cond b (release m s) (still (record s { locks = with_depth m (depth_in s.locks m - 1) s.locks }))).effects
      by_depth true = named_release m s
      by_depth false = tt

  named_post : (letter : Letter) (s : State) → AllNamed n (post letter s).effects
  named_post letter s = by_test (passes (λ (row : ThreadRow). takes_from letter.from row.block) (thread_of s letter.to))
    where
      by_test : (b : Bool)
          → AllNamed n (cond b (unblock (as_answer letter) letter.to (record s { letters = s.letters ++ as_received letter ∷ [] }))
          (still (record s { letters = s.letters ++ letter ∷ [] }))).effects
      by_test true = (tt, tt)
      by_test false = tt

  named_replied : (u : ℕ) (text : List ℕ) (s : State) → AllNamed n (after_reply u text s).effects
  named_replied u text s = by_agent (is_agent s u)
    where
      by_agent : (b : Bool)
          → AllNamed n (cond b (still (record s { letters = without_letter u s.letters; agents = with_holding u false s.agents }))
          (unblock (answer.Reply text) u (record s { letters = without_letter u s.letters }))).effects
      by_agent true = tt
      by_agent false = (tt, tt)

  named_waited : (t c : ℕ) (o : Option Lock) (s : State) → AllNamed n (after_wait t c o s).effects
  named_waited t c None s = tt
  named_waited t c (Some lock) s =
      named_release lock.mon (after_block (record s { waits = s.waits ++ record { cond = c; tid = t; depth = lock.depth } ∷ [] }) t (block.Waiting c))

  named_end_agent : (a : ℕ) (s : State) → AllNamed n (end_agent a s).effects
  named_end_agent a s = named_then (for_each (unblock nonexist) (receivers_of s a) s) (λ now. still (after_agent_end a now))
      (named_each (unblock nonexist) (λ t s. (tt, tt)) (receivers_of s a) s) tt

  -- a case, by its checks
  named_unless : (s : State) (checks : List Check) (otherwise : Case) → AllNamed n otherwise.others → AllNamed n (unless s checks otherwise).others
  unfolding unless
  named_unless s [] otherwise fine = fine
  named_unless s (check ∷ checks) otherwise fine = by_test check.0 (named_unless s checks otherwise fine)
    where
      by_test : (b : Bool) → AllNamed n (unless s checks otherwise).others → AllNamed n (cond b (refusal_case s check.1) (unless s checks otherwise)).others
      by_test true rest = tt
      by_test false rest = rest

  -- ---- exit procedures

  named_exit_case : (s : State) (t : ℕ) (call : ExitCall) → AllNamed n (exit_case s t call).others
  named_exit_case s t (exit.MonExit m) = named_unless s _ _ (named_exited m s)
  named_exit_case s t (exit.MonBreak m) = named_unless s _ _ (named_release m s)
  named_exit_case s t (exit.Notify c) = named_unless s _ _ tt
  named_exit_case s t (exit.Broadcast c) = named_unless s _ _ tt
  named_exit_case s t (exit.Reply to text) = named_unless s _ _ (named_replied to text s)
  named_exit_case s t (exit.Resume u) = named_unless s _ _ tt
  named_exit_case s t (exit.SetExit code) = named_unless s _ _ tt
  named_exit_case s t (exit.Note text) = tt

  named_run : (t : ℕ) (x : ExitMark) (s : State) → AllNamed n (run_exit t x s).effects
  named_run t x s = named_append n (exit_case s t x.call).others _ (named_exit_case s t x.call) (tt, tt)

  named_unwind : (t : ℕ) (kept gone : List Mark) (s : State) → AllNamed n (unwind t kept gone s).effects
  named_unwind t kept gone s = named_each (run_exit t) (named_run t) (exits_of gone) (with_marks_of s t kept)

  -- ---- deliveries

  named_deliver_to : (text : List ℕ) (row : AgentRow) (s : State) → AllNamed n (deliver_to text row s).effects
  named_deliver_to text row s =
      named_then (record { after = record s { agents = with_holding row.number true s.agents }; effects = effect.Delivered row.number row.event ∷ [] })
      (post (message text row)) (tt, tt) (named_post (message text row) (record s { agents = with_holding row.number true s.agents }))

  named_time_out : (t : ℕ) (s : State) → AllNamed n (time_out t s).effects
  named_time_out t s = by_sleep (is_asleep_in s t)
    where
      by_sleep : (b : Bool) → AllNamed n (unblock (cond b zero_answer timeout_answer) t s).effects
      by_sleep true = (tt, tt)
      by_sleep false = (tt, tt)

  named_tick : (s : State) → AllNamed n (tick s).effects
  named_tick s = named_then (record { after = after_tick s; effects = effect.Ticked (s.now + 1) ∷ [] })
      (λ now. for_each time_out (due_threads now) now) (tt, tt) (named_each time_out named_time_out (due_threads (after_tick s)) (after_tick s))

  pub named_deliver : (s : State) (e : ℕ) (text : List ℕ) → AllNamed n (deliver s e text).effects
  unfolding deliver
  named_deliver s e text = by_clock (eqb e 0)
    where
      by_clock : (b : Bool) → AllNamed n (cond b (tick s) (for_each (deliver_to text) (event_agents s.agents e) s)).effects
      by_clock true = named_tick s
      by_clock false = named_each (deliver_to text) (named_deliver_to text) (event_agents s.agents e) s

  -- ---- deaths

  named_first : (change : State → Outcome) (changes : List (State → Outcome)) → ((s : State) → AllNamed n (change s).effects)
      → ((s : State) → AllNamed n (in_order changes s).effects) → (s : State) → AllNamed n (in_order (change ∷ changes) s).effects
  unfolding in_order
  named_first change changes one rest s = named_then (change s) (in_order changes) (one s) (rest (change s).after)

  named_last : (t : ℕ) (s : State) → AllNamed n (in_order (bury t ∷ []) s).effects
  unfolding in_order and_then
  named_last t s = (tt, tt)

  named_exits : (t : ℕ) (s : State) → AllNamed n (run_all_exits t s).effects
  named_exits t s = named_unwind t [] (marks_in s t) s

  named_releases : (t : ℕ) (s : State) → AllNamed n (release_all t s).effects
  named_releases t s = named_each release named_release _ s

  named_agents : (t : ℕ) (s : State) → AllNamed n (end_agents t s).effects
  named_agents t s = named_each end_agent named_end_agent (agents_of s.agents t) s

  named_senders : (t : ℕ) (s : State) → AllNamed n (refuse_senders t s).effects
  named_senders t s = named_each refuse_sender (λ x s. (tt, tt)) (senders_to s.letters t) s

  named_receivers : (t : ℕ) (s : State) → AllNamed n (refuse_receivers t s).effects
  named_receivers t s = named_each (unblock nonexist) (λ x s. (tt, tt)) _ s

  named_joiners : (t : ℕ) (s : State) → AllNamed n (answer_joiners t s).effects
  named_joiners t s = named_each (unblock zero_answer) (λ x s. (tt, tt)) _ s

  named_death : (t : ℕ) (s : State) → AllNamed n (death t s).effects
  named_death t =
      named_first (withdraw t) _ (λ s. tt)
      (named_first (run_all_exits t) _ (named_exits t)
      (named_first (release_all t) _ (named_releases t)
      (named_first (end_agents t) _ (named_agents t)
      (named_first (refuse_senders t) _ (named_senders t)
      (named_first (refuse_receivers t) _ (named_receivers t)
      (named_first (answer_joiners t) _ (named_joiners t)
      (named_last t)))))))

-- ---- cases

-- who is named by the caller's own answer
abbrev pub own_named : Option Answer → Option ℕ
own_named None = None
own_named (Some a) = thread_in a

-- the others are told nobody's name, and the caller none but of somebody born
record Names (n : ℕ) (made : Case) : Type 0 where
  others : (m : ℕ) → AllNamed m made.others
  own : Below n (own_named made.own)

names_still : (n : ℕ) (made : Case) → ((m : ℕ) → AllNamed m made.others) → own_named made.own ≡ None → Names n made
names_still n made others none = record { others = others; own = subst (Below n) (sym none) tt }

-- with its own births after it
abbrev CaseNames : Case → Type 0
CaseNames made = Names made.after.births made

plainly : (made : Case) → ((m : ℕ) → AllNamed m made.others) → own_named made.own ≡ None → CaseNames made
plainly made others none = names_still made.after.births made others none

checked : (s : State) (checks : List Check) (otherwise : Case) → CaseNames otherwise → CaseNames (unless s checks otherwise)
unfolding unless
checked s [] otherwise fine = fine
checked s (check ∷ checks) otherwise fine = by_test check.0 (checked s checks otherwise fine)
  where
    by_test : (b : Bool) → CaseNames (unless s checks otherwise) → CaseNames (cond b (refusal_case s check.1) (unless s checks otherwise))
    by_test true rest = plainly (refusal_case s check.1) (λ m. tt) refl
    by_test false rest = rest

quiet : {made : Case} → ((m : ℕ) → AllNamed m made.others) → own_named made.own ≡ None → CaseNames made
quiet {made = made} others none = plainly made others none

either_case : (b : Bool) (one two : Case) → CaseNames one → CaseNames two → CaseNames (cond b one two)
either_case true one two first second = first
either_case false one two first second = second

received_names : (s : State) (t : ℕ) (from : Option ℕ) (how : Mode) (o : Option Letter) → CaseNames (receive_by s t from how o)
received_names s t from mode.Poll None = quiet (λ m. tt) refl
received_names s t from mode.Poll (Some letter) = quiet (λ m. tt) refl
received_names s t from mode.Block None = quiet (λ m. tt) refl
received_names s t from mode.Block (Some letter) = quiet (λ m. tt) refl
received_names s t from (mode.Until ticks) None = either_case (eqb ticks 0) (refusal_case s error.Timeout)
    (silent_case (still (after_block_for s t (block.Receiving from) ticks))) (quiet (λ m. tt) refl) (quiet (λ m. tt) refl)
received_names s t from (mode.Until ticks) (Some letter) = quiet (λ m. tt) refl

match_names : (s : State) (on_match : Found → Case) (o : Option Found) → ((f : Found) → CaseNames (on_match f)) → CaseNames (with_match s on_match o)
match_names s on_match None named = quiet (λ m. tt) refl
match_names s on_match (Some f) named = named f

caught_names : (s : State) (t p : ℕ) (f : Found) → CaseNames (catch_case s t p f)
caught_names s t p f = quiet (λ m. named_unwind m t (caught_marks f (marks_in s t)) (later_frames f.depth (marks_in s t)) s) refl

notified_names : (s : State) (t p : ℕ) (f : Found) (h : Func) → CaseNames (excnotify_case_by s t p f h)
notified_names s t p f func.Give = quiet (λ m. tt) refl
notified_names s t p f func.Sum = quiet (λ m. tt) refl
notified_names s t p f func.Nothing = caught_names s t p f

destroy_names : (s : State) (t u : ℕ) → CaseNames (destroy s t u)
destroy_names s t u = checked s _ _ (by_agent (is_agent s u))
  where
    by_self : (b : Bool) → CaseNames (cond b (silent_case (death u s)) (with_zero (death u s)))
    by_self true = quiet (λ m. named_death m u s) refl
    by_self false = quiet (λ m. named_death m u s) refl

    by_agent : (b : Bool) → CaseNames (cond b (with_zero (end_agent u s)) (cond (eqb t u) (silent_case (death u s)) (with_zero (death u s))))
    by_agent true = quiet (λ m. named_end_agent m u s) refl
    by_agent false = by_self (eqb t u)

return_names : (s : State) (t : ℕ) → CaseNames (return_from s t)
return_names s t = by_frames (nat_le 2 (frames (marks_in s t)))
  where
    by_frames : (b : Bool) → CaseNames (cond b (leave_frame s t) (silent_case (death t s)))
    by_frames true =
        quiet (λ m. named_unwind m t (first_frames (frames (marks_in s t) - 1) (marks_in s t)) (later_frames (frames (marks_in s t) - 1) (marks_in s t)) s) refl
    by_frames false = quiet (λ m. named_death m t s) refl

-- of every call: the last line is for each that is refused by its checks or else names nobody
case_names : (s : State) (t : ℕ) → t < s.births → (c : Call) → CaseNames (case_of s t c)
case_names s t born (call.Create number prio flags) = checked s _ _ (record { others = λ m. tt; own = omega arith })
case_names s t born (call.Destroy u) = destroy_names s t u
case_names s t born (call.Sleep ticks) =
    either_case (eqb ticks 0) (value_case s 0) (silent_case (still (after_block_for s t block.Sleeping ticks))) (quiet (λ m. tt) refl) (quiet (λ m. tt) refl)
case_names s t born call.Me = record { others = λ m. tt; own = born }
case_names s t born call.GetExit = quiet (λ m. tt) refl
case_names s t born call.Threads = quiet (λ m. tt) refl
case_names s t born (call.Send u room text) =
    checked s _ _ (quiet (λ m. named_post m (record { from = t; to = u; text = text; room = room; received = false }) (after_block s t block.Sending)) refl)
case_names s t born (call.Recv from how) = checked s _ _ (received_names s t from how (next_letter s.letters t from))
case_names s t born (call.Reply u text) = checked s _ _ (quiet (λ m. named_replied m u text s) refl)
case_names s t born call.Senders = quiet (λ m. tt) refl
case_names s t born call.Receivers = quiet (λ m. tt) refl
case_names s t born (call.Enter m) = checked s _ _
    (either_case (is_owned_by_other s.locks t m) (silent_case (still (after_request s t m))) (enter_case s t m) (quiet (λ m. tt) refl) (quiet (λ m. tt) refl))
case_names s t born (call.MonExit m) = checked s _ _ (quiet (λ n. named_exited n m s) refl)
case_names s t born (call.MonBreak m) = checked s _ _ (quiet (λ n. named_release n m s) refl)
case_names s t born call.Monitors = quiet (λ m. tt) refl
case_names s t born (call.Wait c) = checked s _ _ (quiet (λ m. named_waited m t c (last_lock s.locks t) s) refl)
case_names s t born call.Conds = quiet (λ m. tt) refl
case_names s t born call.Return = return_names s t
case_names s t born (call.Raise p) = checked s _ _ (match_names s (catch_case s t p) (handler_of s t p) (caught_names s t p))
case_names s t born (call.ExcNotify p) =
    checked s _ _ (match_names s (λ f. excnotify_case_by s t p f f.func) (handler_of s t p) (λ f. notified_names s t p f f.func))
case_names s t born (call.Bound p) = checked s _ _ (match_names s _ (handler_of s t p) (λ f. quiet (λ m. tt) refl))
case_names s t born (call.Agent e) = checked s _ _ (record { others = λ m. tt; own = omega arith })
case_names s t born call.Agents = quiet (λ m. tt) refl
case_names s t born (call.Trap e) = quiet (λ m. tt) refl
case_names s t born (call.Say text) = quiet (λ m. tt) refl
case_names s t born _ = checked s _ _ (quiet (λ m. tt) refl)

-- ---- a step

finished_named : (n t : ℕ) (c : Call) (made : Case) → Names n made → AllNamed n (step_outcome t c made).effects
finished_named n t c made h =
    (tt, named_append n made.others (own_effects t made.own ++ end_effects made.after) (h.others n) (named_append n (own_effects t made.own) (end_effects made.after) (by_own made.own h.own) (by_end (ends made.after))))
  where
    by_own : (o : Option Answer) → Below n (own_named o) → AllNamed n (own_effects t o)
    by_own None below = tt
    by_own (Some a) below = (below, tt)

    by_end : (b : Bool) → AllNamed n (cond b (effect.Ended made.after.status ∷ []) [])
    by_end true = (tt, tt)
    by_end false = tt

pub step_named : (s : State) → ((t : ℕ) → choice s ≡ Some t → t < s.births) → (c : Call) → AllNamed (step s c).after.births (step s c).effects
unfolding step step_by
step_named s born c = by_choice (choice s) refl
  where
    by_choice : (o : Option ℕ) → choice s ≡ o → AllNamed (step_if s c o).after.births (step_if s c o).effects
    by_choice None e = tt
    by_choice (Some t) e = finished_named (case_of s t c).after.births t c (case_of s t c) (case_names s t (born t e) c)
