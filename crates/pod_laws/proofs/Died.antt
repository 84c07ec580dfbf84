-- A thread that died in a step is forgotten after it.
use Rattle.lwp_types.specs.Agents.{end_agent}
use Rattle.lwp_types.specs.Case.{Case, Check, refusal_case, silent_case, unless, value_case, with_zero}
use Rattle.lwp_types.specs.Choice.{choice}
use Rattle.lwp_types.specs.CountLaws.{count-append, count-cons, count-push, one}
use Rattle.lwp_types.specs.Death.{answer_joiners, bury, death, destroy, end_agents, refuse_receivers, refuse_sender, refuse_senders, release_all}
use Rattle.lwp_types.specs.Death.{return_from, run_all_exits, withdraw}
use Rattle.lwp_types.specs.Exits.{catch_case, leave_frame, excnotify_case_by}
use Rattle.lwp_types.specs.Lawful.{Lawful, NineParts}
use Rattle.lwp_types.specs.Messages.{next_letter, receive_by, without_letter}
use Rattle.lwp_types.specs.Monitors.{after_request, enter_case, is_owned_by_other}
use Rattle.lwp_types.specs.Exceptions.{caught_marks, first_frames, frames, handler_of, later_frames, with_match}
use Rattle.lwp_types.specs.MonitorRelease.{last_lock, release}
use Rattle.lwp_types.specs.State.{Outcome, State, ThreadRow, all_below, and_then, is_number, numbers, in_order, is_agent, is_id, is_thread, marks_in}
use Rattle.lwp_types.specs.State.{still, thread_of}
use Rattle.lwp_types.specs.Step.{case_of, end_effects, ends, own_effects, step, step_by, step_if, step_outcome}
use Rattle.lwp_types.specs.Unblock.{after_block, after_block_for, nonexist, unblock, zero_answer}
use Rattle.lwp_types.specs.declared.call.Answer.{Answer}
use Rattle.lwp_types.specs.declared.call.Call.{Call}
use Rattle.lwp_types.specs.declared.call.Func.{Func}
use Rattle.lwp_types.specs.declared.call.Mode.{Mode}
use Rattle.lwp_types.specs.declared.rows.Found.{Found}
use Rattle.lwp_types.specs.declared.rows.Letter.{Letter}
use Rattle.lwp_types.specs.declared.call.Call.TheVariants as call
use Rattle.lwp_types.specs.declared.call.Effect.TheVariants as effect
use Rattle.lwp_types.specs.declared.call.Func.TheVariants as func
use Rattle.lwp_types.specs.declared.call.LwpErr.TheVariants as error
use Rattle.lwp_types.specs.declared.call.Mode.TheVariants as mode
use Rattle.lwp_types.specs.declared.rows.Block.TheVariants as block
use Rattle.pod_laws.proofs.Checks.{Passed}
use Rattle.pod_laws.proofs.Chosen.{chosen, living}
use Rattle.pod_laws.proofs.DeathStates.{dead}
use Rattle.pod_laws.proofs.Deathless.{Deathless, deathless_each, deathless_end_agent, deathless_exited, deathless_nil, deathless_post}
use Rattle.pod_laws.proofs.Deathless.{deathless_release, deathless_replied, deathless_unblock, deathless_unwind, deathless_waited, unless_deathless}
use Rattle.pod_laws.proofs.Elements.{true_of}
use Rattle.pod_laws.proofs.Fading.{step_fades}
use Rattle.pod_laws.proofs.EveryStep.{Lawful-step}
use Rattle.pod_laws.proofs.Gone.{unnamed}
use Rattle.pod_laws.specs.Forgotten.{TheDeadAreForgotten, is_died}
use Rattle.std.proofs.Common.{Bool, List, None, Option, Some, [], ap, arith, cond, count_by, eqb, false, inl, inr, refl, sym, true, ℕ, ◌++◌, ◌-◌}
use Rattle.std.proofs.Common.{◌∙◌, ◌∷◌, ◌<◌, ◌≡◌, ◌≤◌, ◌||◌}
use Rattle.std.proofs.lemmas.Bool.{and_parts, cases_eq, eqb-true, ltb-true, ne_eqb}
use Rattle.std.specs.List.{find}
use Rattle.std.specs.Prelude.{is_some, nat_le, nat_lt}

module _ (n : ℕ) where
  -- changes of a list, the first of which tells of no death
  order_first : (change : State → Outcome) (changes : List (State → Outcome)) (s : State) (m : ℕ) → Deathless n (change s).effects
      → count_by (is_died n) (in_order changes (change s).after).effects ≡ m → count_by (is_died n) (in_order (change ∷ changes) s).effects ≡ m
  unfolding in_order and_then
  order_first change changes s m first rest =
      omega (arith, first.none, rest, count-append (is_died n) (change s).effects (in_order changes (change s).after).effects)

  order_last : (t : ℕ) (s : State) → count_by (is_died n) (in_order (bury t ∷ []) s).effects ≡ one (eqb t n)
  unfolding in_order and_then
  order_last t s = omega (arith, count-push (is_died n) [] (effect.Died t))

  -- a death tells of itself alone, and once
  pub death_died : (t : ℕ) (s : State) → count_by (is_died n) (death t s).effects ≡ one (eqb t n)
  death_died t s =
      order_first (withdraw t) _ _ _ (deathless_nil n)
      (order_first (run_all_exits t) _ _ _ (deathless_unwind n t [] (marks_in (withdraw t s).after t) (withdraw t s).after)
      (order_first (release_all t) _ _ _ (deathless_each n release (deathless_release n) _ _)
      (order_first (end_agents t) _ _ _ (deathless_each n end_agent (deathless_end_agent n) _ _)
      (order_first (refuse_senders t) _ _ _
      (deathless_each n refuse_sender (λ x s. deathless_unblock n nonexist x (record s { letters = without_letter x s.letters })) _ _)
      (order_first (refuse_receivers t) _ _ _ (deathless_each n (unblock nonexist) (deathless_unblock n nonexist) _ _)
      (order_first (answer_joiners t) _ _ _ (deathless_each n (unblock zero_answer) (deathless_unblock n zero_answer) _ _)
      (order_last t _)))))))

  -- a thread that dies in a case isn't there after it; it was a thread, and its death is all that the case does to
  -- others
  pub record Buries (s : State) (made : Case) : Type 0 where
    pub gone : 1 ≤ count_by (is_died n) made.others → is_id made.after n ≡ false
    pub lived : 1 ≤ count_by (is_died n) made.others → is_thread s n ≡ true
    pub tells : 1 ≤ count_by (is_died n) made.others → made.others ≡ (death n s).effects

  absent : {s : State} {made : Case} → Deathless n made.others → Buries s made
  absent none = record {
    gone = λ some. absurd (omega (arith, some, none.none));
    lived = λ some. absurd (omega (arith, some, none.none));
    tells = λ some. absurd (omega (arith, some, none.none));
  }

  cond_deathless : (b : Bool) (one two : Case) → Deathless n one.others → Deathless n two.others → Deathless n (cond b one two).others
  cond_deathless true one two first second = first
  cond_deathless false one two first second = second

  received_deathless : (s : State) (t : ℕ) (from : Option ℕ) (how : Mode) (o : Option Letter) → Deathless n (receive_by s t from how o).others
  received_deathless s t from mode.Poll None = deathless_nil n
  received_deathless s t from mode.Poll (Some letter) = deathless_nil n
  received_deathless s t from mode.Block None = deathless_nil n
  received_deathless s t from mode.Block (Some letter) = deathless_nil n
  received_deathless s t from (mode.Until ticks) None = cond_deathless (eqb ticks 0) (refusal_case s error.Timeout)
      (silent_case (still (after_block_for s t (block.Receiving from) ticks))) (deathless_nil n) (deathless_nil n)
  received_deathless s t from (mode.Until ticks) (Some letter) = deathless_nil n

  match_deathless : (s : State) (on_match : Found → Case) (o : Option Found) → ((f : Found) → Deathless n (on_match f).others)
      → Deathless n (with_match s on_match o).others
  match_deathless s on_match None none = deathless_nil n
  match_deathless s on_match (Some f) none = none f

  notified_deathless : (s : State) (t p : ℕ) (f : Found) (h : Func) → Deathless n (excnotify_case_by s t p f h).others
  notified_deathless s t p f func.Give = deathless_nil n
  notified_deathless s t p f func.Sum = deathless_nil n
  notified_deathless s t p f func.Nothing = deathless_unwind n t (caught_marks f (marks_in s t)) (later_frames f.depth (marks_in s t)) s

  -- the one that dies in a death is the one that was to die
  died_is : (t : ℕ) (s : State) → 1 ≤ count_by (is_died n) (death t s).effects → t ≡ n
  died_is t s some = elim (cases_eq t n) [
    | inl e ↦ e
    | inr away ↦ absurd (omega (arith, some, death_died t s, ap one (ne_eqb t n away)))
  ]

  death_buries : (s : State) → NineParts s None → (t : ℕ) (x : ThreadRow) → thread_of s t ≡ Some x → (own : Option Answer)
      → Buries s (record { after = (death t s).after; others = (death t s).effects; own = own })
  death_buries s was t x known own = record {
    gone = λ some. ap (is_id (death t s).after) (sym (died_is t s some)) ∙ dead s was t x known;
    lived = λ some. ap (is_thread s) (sym (died_is t s some)) ∙ ap is_some known;
    tells = λ some. ap (λ v. (death v s).effects) (died_is t s some);
  }

  return_died : (s : State) → NineParts s None → (t : ℕ) (x : ThreadRow) → thread_of s t ≡ Some x → Buries s (return_from s t)
  return_died s was t x known = by_frames (nat_le 2 (frames (marks_in s t)))
    where
      by_frames : (b : Bool) → Buries s (cond b (leave_frame s t) (silent_case (death t s)))
      by_frames true = absent (deathless_unwind n t (first_frames (frames (marks_in s t) - 1) (marks_in s t))
          (later_frames (frames (marks_in s t) - 1) (marks_in s t)) s)
      by_frames false = death_buries s was t x known None

  unless_buries : (s : State) (checks : List Check) (otherwise : Case) → (Passed checks → Buries s otherwise) → Buries s (unless s checks otherwise)
  unfolding unless
  unless_buries s [] otherwise fine = fine tt
  unless_buries s (check ∷ checks) otherwise fine = by_test check.0 refl (λ here. unless_buries s checks otherwise (λ rest. fine (here, rest)))
    where
      by_test : (b : Bool) → check.0 ≡ b → (check.0 ≡ false → Buries s (unless s checks otherwise))
          → Buries s (cond b (refusal_case s check.1) (unless s checks otherwise))
      by_test true e rest = absent (deathless_nil n)
      by_test false e rest = rest e

  destroy_died : (s : State) → NineParts s None → (t u : ℕ) → Buries s (destroy s t u)
  destroy_died s was t u = unless_buries s _ _ (λ passed. by_agent (is_agent s u) (true_of _ passed.0))
    where
      by_agent : (b : Bool) → (is_thread s u || b) ≡ true
          → Buries s (cond b (with_zero (end_agent u s)) (cond (eqb t u) (silent_case (death u s)) (with_zero (death u s))))
      by_agent true h = absent (deathless_end_agent n u s)
      by_agent false h =
          let who = living s u (either (is_thread s u) h) in
          by_self (eqb t u) (death_buries s was u who.row who.known)
        where
          either : (a : Bool) → (a || false) ≡ true → a ≡ true
          either true e = refl
          either false e = e

          by_self : (b : Bool)
              → ((own : Option Answer) → Buries s (record { after = (death u s).after; others = (death u s).effects; own = own }))
              → Buries s (cond b (silent_case (death u s)) (with_zero (death u s)))
          by_self true buries = buries _
          by_self false buries = buries _

  -- of every call: the last line is for each that is refused by its checks or else tells others nothing
  pub case_died : (s : State) → NineParts s None → (t : ℕ) (x : ThreadRow) → thread_of s t ≡ Some x → (c : Call) → Buries s (case_of s t c)
  case_died s was t x known (call.Destroy u) = destroy_died s was t u
  case_died s was t x known (call.Sleep ticks) = absent
      (cond_deathless (eqb ticks 0) (value_case s 0) (silent_case (still (after_block_for s t block.Sleeping ticks))) (deathless_nil n) (deathless_nil n))
  case_died s was t x known call.Me = absent (deathless_nil n)
  case_died s was t x known call.GetExit = absent (deathless_nil n)
  case_died s was t x known call.Threads = absent (deathless_nil n)
  case_died s was t x known (call.Send u room text) = absent
      (unless_deathless n s _ _ (deathless_post n (record { from = t; to = u; text = text; room = room; received = false }) (after_block s t block.Sending)))
  case_died s was t x known (call.Recv from how) = absent (unless_deathless n s _ _ (received_deathless s t from how (next_letter s.letters t from)))
  case_died s was t x known (call.Reply u text) = absent (unless_deathless n s _ _ (deathless_replied n u text s))
  case_died s was t x known call.Senders = absent (deathless_nil n)
  case_died s was t x known call.Receivers = absent (deathless_nil n)
  case_died s was t x known (call.Enter m) = absent (unless_deathless n s _ _
      (cond_deathless (is_owned_by_other s.locks t m) (silent_case (still (after_request s t m))) (enter_case s t m) (deathless_nil n) (deathless_nil n)))
  case_died s was t x known (call.MonExit m) = absent (unless_deathless n s _ _ (deathless_exited n m s))
  case_died s was t x known (call.MonBreak m) = absent (unless_deathless n s _ _ (deathless_release n m s))
  case_died s was t x known call.Monitors = absent (deathless_nil n)
  case_died s was t x known (call.Wait c) = absent (unless_deathless n s _ _ (deathless_waited n t c (last_lock s.locks t) s))
  case_died s was t x known call.Conds = absent (deathless_nil n)
  case_died s was t x known call.Return = return_died s was t x known
  case_died s was t x known (call.Raise q) = absent (unless_deathless n s _ _ (match_deathless s (catch_case s t q) (handler_of s t q)
      (λ f. deathless_unwind n t (caught_marks f (marks_in s t)) (later_frames f.depth (marks_in s t)) s)))
  case_died s was t x known (call.ExcNotify q) =
      absent (unless_deathless n s _ _ (match_deathless s (λ f. excnotify_case_by s t q f f.func) (handler_of s t q) (λ f. notified_deathless s t q f f.func)))
  case_died s was t x known (call.Bound q) = absent (unless_deathless n s _ _ (match_deathless s _ (handler_of s t q) (λ f. deathless_nil n)))
  case_died s was t x known call.Agents = absent (deathless_nil n)
  case_died s was t x known (call.Trap e) = absent (deathless_nil n)
  case_died s was t x known (call.Say text) = absent (deathless_nil n)
  case_died s was t x known _ = absent (unless_deathless n s _ _ (deathless_nil n))

  -- neither the call nor its answer nor the end tells of a death
  pub finished_died : (t : ℕ) (c : Call) (made : Case) → count_by (is_died n) (step_outcome t c made).effects ≡ count_by (is_died n) made.others
  finished_died t c made = omega (
    arith,
    count-cons (is_died n) (effect.Called t c) (made.others ++ (own_effects t made.own ++ end_effects made.after)),
    count-append (is_died n) made.others (own_effects t made.own ++ end_effects made.after),
    count-append (is_died n) (own_effects t made.own) (end_effects made.after),
    no_own made.own,
    no_end (ends made.after),
  )
    where
      no_own : (o : Option Answer) → count_by (is_died n) (own_effects t o) ≡ 0
      no_own None = refl
      no_own (Some a) = refl

      no_end : (b : Bool) → count_by (is_died n) (cond b (effect.Ended made.after.status ∷ []) []) ≡ 0
      no_end true = refl
      no_end false = refl

  step_died : (s : State) → Lawful s None → (c : Call) → 1 ≤ count_by (is_died n) (step s c).effects → is_id (step s c).after n ≡ false
  unfolding step step_by
  step_died s was c = by_choice (choice s) refl
    where
      by_choice : (o : Option ℕ) → choice s ≡ o → 1 ≤ count_by (is_died n) (step_if s c o).effects → is_id (step_if s c o).after n ≡ false
      by_choice None e some = absurd (omega arith)
      by_choice (Some t) e some =
          let run = chosen s was.nine t e in
          (case_died s was.nine t run.row run.known c).gone (omega (arith, some, finished_died t c (case_of s t c)))

-- a thread that is found was born
thread_born : (most n : ℕ) (rows : List ThreadRow) → all_below most (numbers rows) ≡ true → is_some (find (is_number n) rows) ≡ true → n < most
thread_born most n [] below lives = absurd (cc)
thread_born most n (row ∷ rows) below lives =
    let parts = and_parts (nat_lt row.number most) (all_below most (numbers rows)) below in
    by_test (is_number n row) refl lives (ltb-true row.number most parts.0) (thread_born most n rows parts.1)
  where
    by_test : (b : Bool) → is_number n row ≡ b → is_some (cond b (Some row) (find (is_number n) rows)) ≡ true → row.number < most
        → (is_some (find (is_number n) rows) ≡ true → n < most) → n < most
    by_test true e lives here rest = omega (arith, eqb-true row.number n e, here)
    by_test false e lives here rest = rest lives

-- one that died in a step had a number
step_born : (s : State) → Lawful s None → (c : Call) (n : ℕ) → 1 ≤ count_by (is_died n) (step s c).effects → n < (step s c).after.births
unfolding step step_by
step_born s was c n some = omega (arith, was_born (choice s) refl some, (step_fades n s c).births)
  where
    was_born : (o : Option ℕ) → choice s ≡ o → 1 ≤ count_by (is_died n) (step_if s c o).effects → n < s.births
    was_born None e some = absurd (omega (arith, some))
    was_born (Some t) e some =
        let run = chosen s was.nine t e in
        thread_born s.births n s.threads was.nine.numbers.1.0
        ((case_died n s was.nine t run.row run.known c).lived (omega (arith, some, finished_died n t c (case_of s t c))))

pub the_dead_are_forgotten : TheDeadAreForgotten
the_dead_are_forgotten s was c n some =
    let dead = step_died n s was c some in
    record {
      gone = record { born = step_born s was c n some; dead = dead };
      unnamed = unnamed (step s c).after (Lawful-step s was c).nine n dead;
    }
