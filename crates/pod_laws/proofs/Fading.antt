-- A number is given once: one that is gone stays gone, whatever is called or delivered.
use Rattle.lwp_types.specs.Agents.{after_agent_birth, after_agent_end, deliver, deliver_to, end_agent, event_agents, message, new_agent}
use Rattle.lwp_types.specs.Case.{Case, Check, refusal_case, silent_case, unless, value_case, with_zero}
use Rattle.lwp_types.specs.Choice.{choice}
use Rattle.lwp_types.specs.Death.{answer_joiners, bury, death, destroy_case, end_agents, refuse_receivers, refuse_sender, refuse_senders}
use Rattle.lwp_types.specs.Death.{release_all, run_all_exits, withdraw}
use Rattle.lwp_types.specs.Exits.{catch_case, exit_case, leave_frame, excnotify_case_by, run_exit, unwind}
use Rattle.lwp_types.specs.Messages.{after_reply, as_answer, as_received, agent_with_holding, next_letter, post, receive_by, receivers_of}
use Rattle.lwp_types.specs.Messages.{takes_from, with_holding, without_letter}
use Rattle.lwp_types.specs.Monitors.{after_exit, after_request, depth_in, enter_case, is_owned_by_other, with_depth}
use Rattle.lwp_types.specs.Exceptions.{caught_marks, exits_of, first_frames, frames, handler_of, later_frames, with_match}
use Rattle.lwp_types.specs.MonitorRelease.{grant, last_lock, next_owner, release, without_lock}
use Rattle.lwp_types.specs.State.{Outcome, State, ThreadRow, agent_of, and_then, row_with_block, for_each, in_order, is_agent, is_agent_row}
use Rattle.lwp_types.specs.State.{is_number, is_thread, marks_in, row_with_marks, passes, row_with_priority, still, row_with_suspension, thread_of}
use Rattle.lwp_types.specs.State.{with_block, with_marks, with_marks_of, with_suspension}
use Rattle.lwp_types.specs.Step.{case_of, step, step_by, step_if}
use Rattle.lwp_types.specs.Threads.{after_create, new_thread}
use Rattle.lwp_types.specs.Time.{after_tick, due_threads, tick, time_out}
use Rattle.lwp_types.specs.Unblock.{after_block, after_block_for, nonexist, unblock, zero_answer}
use Rattle.lwp_types.specs.Conditions.{after_wait, after_wake, after_wake_all, condition_of}
use Rattle.lwp_types.specs.declared.call.Answer.{Answer}
use Rattle.lwp_types.specs.declared.call.Call.{Call}
use Rattle.lwp_types.specs.declared.call.ExitCall.{ExitCall}
use Rattle.lwp_types.specs.declared.call.Flags.{Flags}
use Rattle.lwp_types.specs.declared.call.Func.{Func}
use Rattle.lwp_types.specs.declared.call.Mode.{Mode}
use Rattle.lwp_types.specs.declared.rows.AgentRow.{AgentRow}
use Rattle.lwp_types.specs.declared.rows.Block.{Block}
use Rattle.lwp_types.specs.declared.rows.CondRow.{CondRow}
use Rattle.lwp_types.specs.declared.rows.Found.{Found}
use Rattle.lwp_types.specs.declared.rows.Letter.{Letter}
use Rattle.lwp_types.specs.declared.rows.Lock.{Lock}
use Rattle.lwp_types.specs.declared.rows.Mark.{Mark}
use Rattle.lwp_types.specs.declared.rows.Request.{Request}
use Rattle.lwp_types.specs.declared.rows.WaitRow.{WaitRow}
use Rattle.pod_laws.proofs.Checks.{unless_keeps}
use Rattle.pod_laws.proofs.Elements.{find_map, find_push_other, is_some_map}
use Rattle.pod_laws.specs.Forgotten.{IsGone, Move.ToCall, Move.ToDeliver, TheGoneStayGone}
use Rattle.pod_laws.proofs.Rows.{KeepsNumber, live_rowed}
use Rattle.std.proofs.Common.{ap, arith, eqb, refl, ◌∙◌}
use Rattle.std.proofs.lemmas.Bool.{ne_eqb, or_from, or_parts}
use Rattle.std.specs.List.{filter, find, fold}
use Rattle.std.specs.Prelude.{Bool, List, None, Option, Some, [], cond, false, is_some, map, nat_le, not, true, ℕ, ◌++◌, ◌-◌, ◌<◌, ◌==◌, ◌∷◌, ◌≡◌, ◌≤◌}
use Rattle.lwp_types.specs.declared.call.Answer.TheVariants as answer
use Rattle.lwp_types.specs.declared.call.Call.TheVariants as call
use Rattle.lwp_types.specs.declared.call.ExitCall.TheVariants as exit
use Rattle.lwp_types.specs.declared.call.Func.TheVariants as func
use Rattle.lwp_types.specs.declared.call.LwpErr.TheVariants as error
use Rattle.lwp_types.specs.declared.call.Mode.TheVariants as mode
use Rattle.lwp_types.specs.declared.rows.Block.TheVariants as block

-- what happens between two states gives the number n to nobody, if it was given before
pub record Fades (n : ℕ) (s after : State) : Type 0 where
  pub births : s.births ≤ after.births
  pub threads : n < s.births → is_thread s n ≡ false → is_thread after n ≡ false
  pub agents : n < s.births → is_agent s n ≡ false → is_agent after n ≡ false

module _ (n : ℕ) where
  pub fades_still : (s : State) → Fades n s s
  fades_still s = record { births = omega arith; threads = λ given gone. gone; agents = λ given gone. gone }

  pub fades_then : (s middle after : State) → Fades n s middle → Fades n middle after → Fades n s after
  fades_then s middle after one two = record {
    births = omega (arith, one.births, two.births);
    threads = λ given gone. two.threads (omega (arith, given, one.births)) (one.threads given gone);
    agents = λ given gone. two.agents (omega (arith, given, one.births)) (one.agents given gone);
  }

  -- neither threads nor agents come
  fades_of : (s after : State) → after.births ≡ s.births → (is_thread s n ≡ false → is_thread after n ≡ false)
      → (is_agent s n ≡ false → is_agent after n ≡ false) → Fades n s after
  fades_of s after same threads agents = record { births = omega (arith, same); threads = λ given. threads; agents = λ given. agents }

  -- the rows of threads change, and keep their numbers
  rows_fade : (s after : State) (g : ThreadRow → ThreadRow) → KeepsNumber g → after.births ≡ s.births → after.threads ≡ map g s.threads
      → after.agents ≡ s.agents → Fades n s after
  rows_fade s after g keeps same rows agents = fades_of s after same
      (λ gone. ap (λ rs. is_some (find (is_number n) rs)) rows ∙ live_rowed g keeps s.threads n ∙ gone)
      (λ gone. ap (λ rs. is_some (agent_of rs n)) agents ∙ gone)

  fades_block : (s after : State) (t : ℕ) (b : Block) → after.births ≡ s.births → after.threads ≡ with_block t b s.threads
      → after.agents ≡ s.agents → Fades n s after
  fades_block s after t b same rows agents = rows_fade s after (row_with_block t b) (λ row. refl) same rows agents

  fades_suspension : (s after : State) (t : ℕ) (b : Bool) → after.births ≡ s.births → after.threads ≡ with_suspension t b s.threads
      → after.agents ≡ s.agents → Fades n s after
  fades_suspension s after t b same rows agents = rows_fade s after (row_with_suspension t b) (λ row. refl) same rows agents

  fades_marks : (s after : State) (t : ℕ) (ms : List Mark) → after.births ≡ s.births → after.threads ≡ with_marks t ms s.threads
      → after.agents ≡ s.agents → Fades n s after
  fades_marks s after t ms same rows agents = rows_fade s after (row_with_marks t ms) (λ row. refl) same rows agents

  -- one that isn't in a list isn't in a part of it
  filter_none : {X : Type 0} (p keep : X → Bool) (xs : List X) → is_some (find p xs) ≡ false → is_some (find p (filter keep xs)) ≡ false
  filter_none p keep [] none = refl
  filter_none p keep (x ∷ xs) none = by_test (p x) refl none (filter_none p keep xs)
    where
      by_keep : (b k : Bool) → p x ≡ b → b ≡ false → (is_some (find p xs) ≡ false → is_some (find p (filter keep xs)) ≡ false)
          → is_some (find p xs) ≡ false → is_some (find p (cond k (x ∷ filter keep xs) (filter keep xs))) ≡ false
      by_keep b true e off rest none = rw (e ∙ off) (rest none)
      by_keep b false e off rest none = rest none

      by_test : (b : Bool) → p x ≡ b → is_some (cond b (Some x) (find p xs)) ≡ false
          → (is_some (find p xs) ≡ false → is_some (find p (filter keep xs)) ≡ false) → is_some (find p (filter keep (x ∷ xs))) ≡ false
      by_test true e none rest = absurd (cc)
      by_test false e none rest = by_keep false (keep x) e refl rest none

  -- nor is another that is put at its end
  push_none : {X : Type 0} (p : X → Bool) (xs : List X) (x : X) → p x ≡ false → is_some (find p xs) ≡ false → is_some (find p (xs ++ x ∷ [])) ≡ false
  push_none p xs x other none = ap is_some (find_push_other p xs x other) ∙ none

  fades_unblock : (a : Answer) (t : ℕ) (s : State) → Fades n s (unblock a t s).after
  fades_unblock a t s = fades_block s _ t block.Not refl refl refl

  fades_grant : (o : Option Request) (s : State) → Fades n s (grant o s).after
  fades_grant None s = fades_still s
  fades_grant (Some r) s = fades_block s _ r.tid block.Not refl refl refl

  -- a state with other lists, but the same threads, agents and births
  fades_like : (s like after : State) → like.births ≡ s.births → like.threads ≡ s.threads → like.agents ≡ s.agents → Fades n like after → Fades n s after
  fades_like s like after births threads agents fades = record {
    births = omega (arith, births, fades.births);
    threads = λ given gone. fades.threads (omega (arith, given, births)) (ap (λ rs. is_some (find (is_number n) rs)) threads ∙ gone);
    agents = λ given gone. fades.agents (omega (arith, given, births)) (ap (λ rs. is_some (agent_of rs n)) agents ∙ gone);
  }

  fades_release : (m : ℕ) (s : State) → Fades n s (release m s).after
  fades_release m s = fades_like s (record s { locks = without_lock m s.locks }) _ refl refl refl
      (fades_grant (next_owner s m) (record s { locks = without_lock m s.locks }))

  fades_plain : (s after : State) → after.births ≡ s.births → after.threads ≡ s.threads → after.agents ≡ s.agents → Fades n s after
  fades_plain s after births threads agents =
      fades_of s after births (λ gone. ap (λ rs. is_some (find (is_number n) rs)) threads ∙ gone) (λ gone. ap (λ rs. is_some (agent_of rs n)) agents ∙ gone)

  fades_exited : (m : ℕ) (s : State) → Fades n s (after_exit m s).after
  fades_exited m s = by_depth (nat_le (depth_in s.locks m) 1)
    where
      by_depth : (b : Bool) → Fades n s (cond b (release m s) (still (record s { locks = with_depth m (depth_in s.locks m - 1) s.locks }))).after
      by_depth true = fades_release m s
      by_depth false = fades_plain s _ refl refl refl

  fades_post : (letter : Letter) (s : State) → Fades n s (post letter s).after
  fades_post letter s = by_test (passes (λ (row : ThreadRow). takes_from letter.from row.block) (thread_of s letter.to))
    where
      by_test : (b : Bool)
          → Fades n s (cond b (unblock (as_answer letter) letter.to (record s { letters = s.letters ++ as_received letter ∷ [] }))
          (still (record s { letters = s.letters ++ letter ∷ [] }))).after
      by_test true = fades_block s _ letter.to block.Not refl refl refl
      by_test false = fades_plain s _ refl refl refl

  -- an agent holds a message, or no longer
  fades_holding : (s after : State) (a : ℕ) (b : Bool) → after.births ≡ s.births → after.threads ≡ s.threads
      → after.agents ≡ with_holding a b s.agents → Fades n s after
  fades_holding s after a b births threads agents = fades_of s after births
      (λ gone. ap (λ rs. is_some (find (is_number n) rs)) threads ∙ gone)
      (λ gone. ap (λ rs. is_some (find (is_agent_row n) rs)) agents
      ∙ ap is_some (find_map (is_agent_row n) (is_agent_row n) (agent_with_holding a b) (λ row. refl) s.agents)
      ∙ is_some_map (agent_with_holding a b) (find (is_agent_row n) s.agents) ∙ gone)

  fades_replied : (u : ℕ) (text : List ℕ) (s : State) → Fades n s (after_reply u text s).after
  fades_replied u text s = by_agent (is_agent s u)
    where
      by_agent : (b : Bool)
          → Fades n s (cond b (still (record s { letters = without_letter u s.letters; agents = with_holding u false s.agents }))
          (unblock (answer.Reply text) u (record s { letters = without_letter u s.letters }))).after
      by_agent true = fades_holding s _ u false refl refl refl
      by_agent false = fades_block s _ u block.Not refl refl refl

  fades_woken : (m : ℕ) (ws : List WaitRow) (s : State) → Fades n s (fold (λ now w. after_wake m w now) s ws)
  fades_woken m [] s = fades_still s
  fades_woken m (w ∷ ws) s = fades_then s (after_wake m w s) _ (fades_block s _ w.tid (block.Entering m) refl refl refl) (fades_woken m ws (after_wake m w s))

  fades_woken_all : (o : Option CondRow) (ws : List WaitRow) (s : State) → Fades n s (after_wake_all o ws s)
  fades_woken_all None ws s = fades_still s
  fades_woken_all (Some row) ws s = fades_woken row.mon ws s

  fades_waited : (t c : ℕ) (o : Option Lock) (s : State) → Fades n s (after_wait t c o s).after
  fades_waited t c None s = fades_still s
  fades_waited t c (Some lock) s =
      let waits = after_block (record s { waits = s.waits ++ record { cond = c; tid = t; depth = lock.depth } ∷ [] }) t (block.Waiting c) in
      fades_then s waits _ (fades_block s waits t (block.Waiting c) refl refl refl) (fades_release lock.mon waits)

  fades_each : {A : Type 0} (change : A → State → Outcome) → ((x : A) (s : State) → Fades n s (change x s).after)
      → (xs : List A) (s : State) → Fades n s (for_each change xs s).after
  unfolding for_each and_then
  fades_each change one [] s = fades_still s
  fades_each change one (x ∷ xs) s = fades_then s (change x s).after _ (one x s) (fades_each change one xs (change x s).after)

  fades_gone : (a : ℕ) (s : State) → Fades n s (after_agent_end a s)
  fades_gone a s = fades_of s (after_agent_end a s) refl (λ gone. gone) (λ gone. filter_none (is_agent_row n) (λ row. not (is_agent_row a row)) s.agents gone)

  fades_end_agent : (a : ℕ) (s : State) → Fades n s (end_agent a s).after
  unfolding and_then
  fades_end_agent a s =
      let woke = for_each (unblock nonexist) (receivers_of s a) s in
      fades_then s woke.after (after_agent_end a woke.after) (fades_each (unblock nonexist) (fades_unblock nonexist) (receivers_of s a) s)
      (fades_gone a woke.after)

  unless_fades : (s : State) (checks : List Check) (otherwise : Case) → Fades n s otherwise.after → Fades n s (unless s checks otherwise).after
  unless_fades s checks otherwise fine = unless_keeps (λ after. Fades n s after) s checks otherwise (fades_still s) (λ passed. fine)

  exit_case_fades : (s : State) (t : ℕ) (call : ExitCall) → Fades n s (exit_case s t call).after
  exit_case_fades s t (exit.MonExit m) = unless_fades s _ _ (fades_exited m s)
  exit_case_fades s t (exit.MonBreak m) = unless_fades s _ _ (fades_release m s)
  exit_case_fades s t (exit.Notify c) = unless_fades s _ _ (fades_woken_all (condition_of s.conditions c) _ s)
  exit_case_fades s t (exit.Broadcast c) = unless_fades s _ _ (fades_woken_all (condition_of s.conditions c) _ s)
  exit_case_fades s t (exit.Reply to text) = unless_fades s _ _ (fades_replied to text s)
  exit_case_fades s t (exit.Resume u) = unless_fades s _ _ (fades_suspension s _ u false refl refl refl)
  exit_case_fades s t (exit.SetExit code) = unless_fades s _ _ (fades_plain s _ refl refl refl)
  exit_case_fades s t (exit.Note text) = fades_still s

  fades_unwind : (t : ℕ) (kept gone : List Mark) (s : State) → Fades n s (unwind t kept gone s).after
  fades_unwind t kept gone s = fades_then s (with_marks_of s t kept) _ (fades_marks s _ t kept refl refl refl)
      (fades_each (run_exit t) (λ x s. exit_case_fades s t x.call) (exits_of gone) (with_marks_of s t kept))

  fades_withdraw : (t : ℕ) (s : State) → Fades n s (withdraw t s).after
  fades_withdraw t s =
      let rests = record s { threads = with_block t block.Not s.threads } in
      fades_then s rests _ (fades_block s rests t block.Not refl refl refl) (fades_suspension rests _ t false refl refl refl)

  fades_bury : (t : ℕ) (s : State) → Fades n s (bury t s).after
  fades_bury t s = fades_of s (bury t s).after refl (λ gone. filter_none (is_number n) (λ row. not (row.number == t)) s.threads gone) (λ gone. gone)

  fades_first : (change : State → Outcome) (changes : List (State → Outcome)) (s : State) → Fades n s (change s).after
      → Fades n (change s).after (in_order changes (change s).after).after → Fades n s (in_order (change ∷ changes) s).after
  unfolding in_order and_then
  fades_first change changes s one two = fades_then s (change s).after _ one two

  fades_last : (s : State) → Fades n s (in_order [] s).after
  unfolding in_order
  fades_last s = fades_still s

  fades_death : (t : ℕ) (s : State) → Fades n s (death t s).after
  fades_death t s =
      fades_first (withdraw t) _ _ (fades_withdraw t s)
      (fades_first (run_all_exits t) _ _ (fades_unwind t [] (marks_in (withdraw t s).after t) (withdraw t s).after)
      (fades_first (release_all t) _ _ (fades_each release fades_release _ _)
      (fades_first (end_agents t) _ _ (fades_each end_agent fades_end_agent _ _)
      (fades_first (refuse_senders t) _ _ (fades_each refuse_sender (λ x s. fades_block s _ x block.Not refl refl refl) _ _)
      (fades_first (refuse_receivers t) _ _ (fades_each (unblock nonexist) (fades_unblock nonexist) _ _)
      (fades_first (answer_joiners t) _ _ (fades_each (unblock zero_answer) (fades_unblock zero_answer) _ _)
      (fades_first (bury t) _ _ (fades_bury t _) (fades_last _))))))))

  cond_fades : (s : State) (b : Bool) (one two : Case) → Fades n s one.after → Fades n s two.after → Fades n s (cond b one two).after
  cond_fades s true one two first second = first
  cond_fades s false one two first second = second

  -- who is born has a number of its own
  fades_created : (s : State) (prio : ℕ) (flags : Flags) → Fades n s (after_create s prio flags)
  fades_created s prio flags = record {
    births = omega arith;
    threads = λ given gone. push_none (is_number n) s.threads (new_thread s.births prio flags) (ne_eqb s.births n (λ e. omega (arith, e, given))) gone;
    agents = λ given gone. gone;
  }

  fades_agent_born : (s : State) (t e : ℕ) → Fades n s (after_agent_birth s t e)
  fades_agent_born s t e = record {
    births = omega arith;
    threads = λ given gone. gone;
    agents = λ given gone. push_none (is_agent_row n) s.agents (new_agent s.births e t) (ne_eqb s.births n (λ e. omega (arith, e, given))) gone;
  }

  fades_received : (s : State) (t : ℕ) (from : Option ℕ) (how : Mode) (o : Option Letter) → Fades n s (receive_by s t from how o).after
  fades_received s t from mode.Poll None = fades_still s
  fades_received s t from mode.Poll (Some letter) = fades_plain s _ refl refl refl
  fades_received s t from mode.Block None = fades_block s _ t (block.Receiving from) refl refl refl
  fades_received s t from mode.Block (Some letter) = fades_plain s _ refl refl refl
  fades_received s t from (mode.Until ticks) None = cond_fades s (eqb ticks 0) (refusal_case s error.Timeout)
      (silent_case (still (after_block_for s t (block.Receiving from) ticks))) (fades_still s) (fades_block s _ t (block.Receiving from) refl refl refl)
  fades_received s t from (mode.Until ticks) (Some letter) = fades_plain s _ refl refl refl

  fades_match : (s : State) (on_match : Found → Case) (o : Option Found) → ((f : Found) → Fades n s (on_match f).after)
      → Fades n s (with_match s on_match o).after
  fades_match s on_match None fine = fades_still s
  fades_match s on_match (Some f) fine = fine f

  fades_caught : (s : State) (t p : ℕ) (f : Found) → Fades n s (catch_case s t p f).after
  fades_caught s t p f = fades_unwind t (caught_marks f (marks_in s t)) (later_frames f.depth (marks_in s t)) s

  fades_notified : (s : State) (t p : ℕ) (f : Found) (h : Func) → Fades n s (excnotify_case_by s t p f h).after
  fades_notified s t p f func.Give = fades_still s
  fades_notified s t p f func.Sum = fades_still s
  fades_notified s t p f func.Nothing = fades_caught s t p f

  fades_destroyed : (s : State) (t u : ℕ) → Fades n s (destroy_case s t u).after
  fades_destroyed s t u = cond_fades s (is_agent s u) (with_zero (end_agent u s)) _ (fades_end_agent u s)
      (cond_fades s (eqb t u) (silent_case (death u s)) (with_zero (death u s)) (fades_death u s) (fades_death u s))

  -- of every call: the last line is for each that is refused by its checks or else leaves threads, agents and births as they are
  case_fades : (s : State) (t : ℕ) (c : Call) → Fades n s (case_of s t c).after
  case_fades s t (call.Create number prio flags) = unless_fades s _ _ (fades_created s prio flags)
  case_fades s t (call.Destroy u) = unless_fades s _ _ (fades_destroyed s t u)
  case_fades s t (call.Ping u) = unless_fades s _ _ (fades_still s)
  case_fades s t (call.SetPri u q) = unless_fades s _ _ (rows_fade s _ (row_with_priority u q) (λ row. refl) refl refl refl)
  case_fades s t (call.Suspend u) = unless_fades s _ _ (fades_suspension s _ u true refl refl refl)
  case_fades s t (call.Resume u) = unless_fades s _ _ (fades_suspension s _ u false refl refl refl)
  case_fades s t (call.Join u) = unless_fades s _ _ (fades_block s _ t (block.Joining u) refl refl refl)
  case_fades s t (call.Sleep ticks) = cond_fades s (eqb ticks 0) (value_case s 0)
      (silent_case (still (after_block_for s t block.Sleeping ticks))) (fades_still s) (fades_block s _ t block.Sleeping refl refl refl)
  case_fades s t call.Me = fades_still s
  case_fades s t call.GetExit = fades_still s
  case_fades s t call.Threads = fades_still s
  case_fades s t (call.Send u room text) = unless_fades s _ _ (fades_then s (after_block s t block.Sending) _ (fades_block s _ t
      block.Sending refl refl refl) (fades_post (record { from = t; to = u; text = text; room = room; received = false }) (after_block s t block.Sending)))
  case_fades s t (call.Recv from how) = unless_fades s _ _ (fades_received s t from how (next_letter s.letters t from))
  case_fades s t (call.Reply u text) = unless_fades s _ _ (fades_replied u text s)
  case_fades s t call.Senders = fades_still s
  case_fades s t call.Receivers = fades_still s
  case_fades s t (call.Enter m) = unless_fades s _ _ (cond_fades s (is_owned_by_other s.locks t m)
      (silent_case (still (after_request s t m))) (enter_case s t m) (fades_block s _ t (block.Entering m) refl refl refl) (fades_plain s _ refl refl refl))
  case_fades s t (call.MonExit m) = unless_fades s _ _ (fades_exited m s)
  case_fades s t (call.MonBreak m) = unless_fades s _ _ (fades_release m s)
  case_fades s t call.Monitors = fades_still s
  case_fades s t (call.MonWaiters m) = unless_fades s _ _ (fades_still s)
  case_fades s t (call.Wait c) = unless_fades s _ _ (fades_waited t c (last_lock s.locks t) s)
  case_fades s t (call.Notify c) = unless_fades s _ _ (fades_woken_all (condition_of s.conditions c) _ s)
  case_fades s t (call.Broadcast c) = unless_fades s _ _ (fades_woken_all (condition_of s.conditions c) _ s)
  case_fades s t (call.CvSend c u) = unless_fades s _ _ (fades_woken_all (condition_of s.conditions c) _ s)
  case_fades s t call.Conds = fades_still s
  case_fades s t (call.CvWaiters c) = unless_fades s _ _ (fades_still s)
  case_fades s t (call.CallProc number) = unless_fades s _ _ (fades_marks s _ t _ refl refl refl)
  case_fades s t call.Return = cond_fades s (nat_le 2 (frames (marks_in s t))) (leave_frame s t) (silent_case (death t s))
      (fades_unwind t (first_frames (frames (marks_in s t) - 1) (marks_in s t)) (later_frames (frames (marks_in s t) - 1) (marks_in s t)) s) (fades_death t s)
  case_fades s t (call.Handle pat func arg) = unless_fades s _ _ (fades_marks s _ t _ refl refl refl)
  case_fades s t call.Unhandle = unless_fades s _ _ (fades_marks s _ t _ refl refl refl)
  case_fades s t (call.OnExit e) = unless_fades s _ _ (fades_marks s _ t _ refl refl refl)
  case_fades s t (call.Raise q) = unless_fades s _ _ (fades_match s (catch_case s t q) (handler_of s t q) (λ f. fades_caught s t q f))
  case_fades s t (call.ExcNotify q) =
      unless_fades s _ _ (fades_match s (λ f. excnotify_case_by s t q f f.func) (handler_of s t q) (λ f. fades_notified s t q f f.func))
  case_fades s t (call.Bound q) = unless_fades s _ _ (fades_match s _ (handler_of s t q) (λ f. fades_still s))
  case_fades s t (call.Agent e) = unless_fades s _ _ (fades_agent_born s t e)
  case_fades s t call.Agents = fades_still s
  case_fades s t (call.Trap e) = fades_still s
  case_fades s t (call.Say text) = fades_still s
  case_fades s t _ = unless_fades s _ _ (fades_plain s _ refl refl refl)

  pub step_fades : (s : State) (c : Call) → Fades n s (step s c).after
  unfolding step step_by
  step_fades s c = by_choice (choice s)
    where
      by_choice : (o : Option ℕ) → Fades n s (step_if s c o).after
      by_choice None = fades_still s
      by_choice (Some t) = fades_then s (case_of s t c).after _ (case_fades s t c) (fades_plain (case_of s t c).after _ refl refl refl)

  fades_tick : (s : State) → Fades n s (tick s).after
  unfolding and_then
  fades_tick s = fades_then s (after_tick s) _ (fades_plain s _ refl refl refl)
      (fades_each time_out (λ t s. fades_block s _ t block.Not refl refl refl) (due_threads (after_tick s)) (after_tick s))

  fades_delivered : (text : List ℕ) (row : AgentRow) (s : State) → Fades n s (deliver_to text row s).after
  unfolding and_then
  fades_delivered text row s =
      let holds = record s { agents = with_holding row.number true s.agents } in
      fades_then s holds _ (fades_holding s holds row.number true refl refl refl) (fades_post (message text row) holds)

  pub deliver_fades : (s : State) (e : ℕ) (text : List ℕ) → Fades n s (deliver s e text).after
  unfolding deliver
  deliver_fades s e text = by_clock (eqb e 0)
    where
      by_clock : (b : Bool) → Fades n s (cond b (tick s) (for_each (deliver_to text) (event_agents s.agents e) s)).after
      by_clock true = fades_tick s
      by_clock false = fades_each (deliver_to text) (fades_delivered text) (event_agents s.agents e) s

  -- one that is gone
  pub gone_stays : (s after : State) → Fades n s after → IsGone s n → IsGone after n
  gone_stays s after fades gone =
      let nobody = or_parts (is_thread s n) (is_agent s n) gone.dead in
      record {
        born = omega (arith, gone.born, fades.births);
        dead = or_from (is_thread after n) (is_agent after n) (fades.threads gone.born nobody.0) (fades.agents gone.born nobody.1);
      }

pub the_gone_stay_gone : TheGoneStayGone
the_gone_stay_gone s n gone [] = gone
the_gone_stay_gone s n gone (ToCall c ∷ moves) = the_gone_stay_gone (step s c).after n (gone_stays n s _ (step_fades n s c) gone) moves
the_gone_stay_gone s n gone (ToDeliver e text ∷ moves) = the_gone_stay_gone (deliver s e text).after n (gone_stays n s _ (deliver_fades n s e text) gone) moves
