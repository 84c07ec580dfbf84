-- Every thread has its body: so the thread that is chosen speaks.
use Rattle.lwp_types.specs.Agents.{deliver, is_event_armed, make_agent}
use Rattle.lwp_types.specs.Case.{Case, Check, refusal_case, unless}
use Rattle.lwp_types.specs.Choice.{choice}
use Rattle.lwp_types.specs.CountLaws.{count-cons, one}
use Rattle.lwp_types.specs.Lawful.{Lawful}
use Rattle.lwp_types.specs.Names.{names_for_poll}
use Rattle.lwp_types.specs.Poll.{Polled}
use Rattle.lwp_types.specs.State.{State, all_below, is_agent, is_number, is_thread, numbers, opening_thread, passes, ThreadRow}
use Rattle.lwp_types.specs.Step.{end_effects, step, step_by, step_if, step_outcome}
use Rattle.lwp_types.specs.Threads.{after_create, create}
use Rattle.lwp_types.specs.Unblock.{zero_answer}
use Rattle.lwp_types.specs.declared.call.Call.{Call}
use Rattle.lwp_types.specs.declared.call.Effect.{Effect}
use Rattle.lwp_types.specs.declared.call.Flags.{Flags}
use Rattle.lwp_types.specs.declared.call.LwpErr.{LwpErr}
use Rattle.pod_events.specs.Events.{EventState, after_pass_on, after_take_trap, is_takeable, is_trapped, rites_event, take_event}
use Rattle.pod_events.specs.Rites.{after_first_report, as_rites, report_text, reports_after, after_rites}
use Rattle.pod_events.specs.Step.{event_step, event_step_by, event_step_if}
use Rattle.pod_events.specs.Traps.{after_call, after_call_as, after_machine_step, after_trap, after_trap_and_call, agent_event_of}
use Rattle.pod_events.specs.Traps.{but_call, is_catch, is_given, notice, after_refusal, trap_of, trap_refusal}
use Rattle.pod_laws.proofs.Chosen.{chosen}
use Rattle.pod_laws.proofs.Fading.{Fades, deliver_fades, fades_still, fades_then, step_fades}
use Rattle.pod_laws.proofs.Opening.{Lawful-opening}
use Rattle.pod_laws.specs.Forgotten.{IsGone, is_died}
use Rattle.pod_runner.proofs.Plays.{IsDefined-zero, play-zero}
use Rattle.pod_runner.specs.Session as Sessions
use Rattle.pod_runner.specs.Session.{Live, Session, Setting, after_answer as answered_row, after_poll, after_settle, after_settle_by, move, move_by}
use Rattle.pod_runner.specs.Session.{move_row, proc_of, row_of, rows_of_new, rows_born, take_move, thread_in, with_row, without_row}
use Rattle.pod_runner.specs.declared.session.Row.{Row}
use Rattle.pod_runner.specs.declared.session.Took.{Took}
use Rattle.replay.proofs.Clock.{live-call, live-take}
use Rattle.replay.proofs.Moves.{IsAt-moved, reached}
use Rattle.replay.proofs.StepLines.{FirstSpoken, event-first}
use Rattle.replay.specs.Asked.{Asked}
use Rattle.replay.specs.Walk.{DueAll, IsAt, IsPeopled, Moment, Move, Speaks, after_move, after_moves, first_moment, session_of, took_at}
use Rattle.session_laws.proofs.Numbering.{deliveries_bear_none, deliveries_keep_procs, steps_bear_none, steps_keep_procs}
use Rattle.session_laws.proofs.Pods.{call_moved, take_moved}
use Rattle.session_laws.specs.Numbers.{bears}
use Rattle.std.proofs.Common.{Bool, List, None, Some, [], ap, append_assoc, arith, cond, count_by, false, length}
use Rattle.std.proofs.Common.{refl, slice_get, subst, suc, sym, true, zero, ℕ, ◌++◌, ◌<◌, ◌∙◌, ◌∷◌, ◌≡◌, ◌≤◌}
use Rattle.std.specs.List.{find}
use Rattle.std.specs.Prelude.{IsTrue, Option, is_some, map, nat_le, nat_lt, not, ◌&&◌, ◌==◌, ◌||◌}
use Rattle.std.proofs.lemmas.Bool.{eq-eqb, eqb-true, leb-false, leb-true, ltb-true}
use Rattle.lwp_types.specs.declared.call.Answer.TheVariants as answer
use Rattle.lwp_types.specs.declared.call.Call.TheVariants as call
use Rattle.lwp_types.specs.declared.call.Effect.TheVariants as effect
use Rattle.lwp_types.specs.declared.call.LwpErr.TheVariants as error

-- ---- who is born

-- a live thread was born: its number is below the count
below-found : (n u : ℕ) (rows : List ThreadRow) → IsTrue (all_below n (numbers rows)) → is_some (find (is_number u) rows) ≡ true → u < n
below-found n u [] below h = absurd (cc)
below-found n u (row ∷ rows) below h = by_test (is_number u row) refl h (both (nat_lt row.number n) (all_below n (numbers rows)) below) (below-found n u rows)
  where
    both : (p q : Bool) → (p && q) ≡ true → (p ≡ true) × (q ≡ true)
    both true q h = (refl, h)
    both false q h = absurd (cc)

    by_test : (b : Bool) → is_number u row ≡ b → is_some (cond b (Some row) (find (is_number u) rows)) ≡ true
        → (nat_lt row.number n ≡ true) × (all_below n (numbers rows) ≡ true)
        → (IsTrue (all_below n (numbers rows)) → is_some (find (is_number u) rows) ≡ true → u < n) → u < n
    by_test true is h low rest = omega (arith, eqb-true row.number u is, ltb-true row.number n low.0)
    by_test false is h low rest = rest low.1 h

born-below : (s : State) → Lawful s None → (u : ℕ) → is_thread s u ≡ true → u < s.births
born-below s was u lives = below-found s.births u s.threads was.nine.numbers.1.0 lives

-- the thread was born by this call of t, as its effects tell, and begins in a procedure that there is
pub record Bears (s : State) (t : ℕ) (c : Call) (u : ℕ) (effects : List Effect) : Type 0 where
  pub number : ℕ
  pub is : proc_of c ≡ Some number
  pub low : number < s.procs
  pub before : List Effect
  pub rest : List Effect
  pub told : effects ≡ before ++ effect.Answered t (answer.Thread u) ∷ rest

abbrev Passes : List Check → Type 0
Passes [] = Unit {0}
Passes (check ∷ checks) = (check.0 ≡ false) × Passes checks

unless_case : (P : Case → Type 0) (s : State) (checks : List Check) (otherwise : Case) → ((e : LwpErr) → P (refusal_case s e))
    → (Passes checks → P otherwise) → P (unless s checks otherwise)
unfolding unless
unless_case P s [] otherwise refuses fine = fine tt
unless_case P s (check ∷ checks) otherwise refuses fine = by_test check.0 refl (λ here. unless_case P s checks otherwise refuses (λ rest. fine (here, rest)))
  where
    by_test : (b : Bool) → check.0 ≡ b → (check.0 ≡ false → P (unless s checks otherwise)) → P (cond b (refusal_case s check.1) (unless s checks otherwise))
    by_test true e rest = refuses check.1
    by_test false e rest = rest e

-- a thread that is there after a step of t, and wasn't born before it
step-bears : (s : State) (t : ℕ) (c : Call) (u : ℕ) → choice s ≡ Some t → is_thread s u ≡ false → s.births ≤ u → u < (step s c).after.births
    → is_thread (step s c).after u ≡ true → Bears s t c u (step s c).effects
unfolding step step_by
step-bears s t c u turn absent high low lives = by_kind c (bears c) refl low lives
  where
    by_create : (number prio : ℕ) (flags : Flags) → u < (create s number prio flags).after.births
        → Bears s t (call.Create number prio flags) u (step_outcome t (call.Create number prio flags) (create s number prio flags)).effects
    by_create number prio flags = unless_case
        (λ (made : Case). u < made.after.births → Bears s t (call.Create number prio flags) u (step_outcome t (call.Create number prio flags) made).effects)
        s _ _
        (λ e low. absurd (omega (arith, high, low)))
        (λ passed low. record {
          number = number;
          is = refl;
          low = leb-false s.procs number passed.0;
          before = effect.Called t (call.Create number prio flags) ∷ [];
          rest = end_effects (after_create s prio flags);
          told =
              ap (λ n. effect.Called t (call.Create number prio flags) ∷ effect.Answered t (answer.Thread n) ∷ end_effects (after_create s prio flags)) (omega
              (arith, high, low));
        })

    by_agent : (e : ℕ) → is_thread (make_agent s t e).after u ≡ true → ⊥
    by_agent e = unless_case (λ (made : Case). is_thread made.after u ≡ true → ⊥) s _ _
        (λ why lives. let bad : true ≡ false = sym lives ∙ absent in cc bad) (λ passed lives. let bad : true ≡ false = sym lives ∙ absent in cc bad)

    by_kind : (c : Call) (b : Bool) → bears c ≡ b → u < (step_if s c (choice s)).after.births
        → is_thread (step_if s c (choice s)).after u ≡ true → Bears s t c u (step_if s c (choice s)).effects
    by_kind c false is low lives = absurd (omega (arith, high, low, steps_bear_none s c is))
    by_kind (call.Create number prio flags) true is low lives =
        subst (λ o. Bears s t (call.Create number prio flags) u (step_if s (call.Create number prio flags) o).effects) (sym turn)
        (by_create number prio flags (subst (λ o. u < (step_if s (call.Create number prio flags) o).after.births) turn low))
    by_kind (call.Agent e) true is low lives = absurd (by_agent e (subst (λ o. is_thread (step_if s (call.Agent e) o).after u ≡ true) turn lives))
    by_kind c true is low lives = absurd (cc)

-- so it is of a call before its report
abbrev BearsIf : State → ℕ → Call → ℕ → State → List Effect → Type 0
BearsIf s t c u after effects = u < after.births → is_thread after u ≡ true → Bears s t c u effects

module _ (s : State) (t : ℕ) (u : ℕ) (turn : choice s ≡ Some t) (absent : is_thread s u ≡ false) (high : s.births ≤ u) where
  same-bears : (c : Call) (es : List Effect) → BearsIf s t c u s es
  same-bears c es low lives = absurd (omega (arith, high, low))

  made-bears : (trapped : List Bool) (c : Call) → BearsIf s t c u (after_call s trapped t c).state (after_call s trapped t c).effects
  made-bears trapped c = by_trap (trap_of c)
    where
      by_refusal : (e : ℕ) (o : Option LwpErr) → BearsIf s t c u (after_trap s trapped t c e o).state (after_trap s trapped t c e o).effects
      by_refusal e None = same-bears c (after_trap s trapped t c e None).effects
      by_refusal e (Some why) = same-bears c (after_trap s trapped t c e (Some why)).effects

      by_agent : (b : Bool)
          → BearsIf s t c u (cond b (after_refusal s trapped t c error.InUse) (after_machine_step trapped (step s c))).state
          (cond b (after_refusal s trapped t c error.InUse) (after_machine_step trapped (step s c))).effects
      by_agent true = same-bears c (after_refusal s trapped t c error.InUse).effects
      by_agent false = λ low lives. step-bears s t c u turn absent high low lives

      by_trap : (o : Option ℕ) → BearsIf s t c u (after_call_as s trapped t c o).state (after_call_as s trapped t c o).effects
      by_trap None = by_agent (passes (is_trapped trapped) (agent_event_of c))
      by_trap (Some e) = by_refusal e (trap_refusal s trapped e)

  -- a step that bears none
  unborn : (c d : Call) (es : List Effect) → bears d ≡ false → BearsIf s t c u (step s d).after es
  unborn c d es is low lives = absurd (omega (arith, high, low, steps_bear_none s d is))

  behind : (c : Call) (after : State) (es : List Effect) (e : ℕ) → BearsIf s t c u after es → BearsIf s t c u after (effect.Trapped t e ∷ es)
  behind c after es e h low lives = let w = h low lives in record {
    number = w.number;
    is = w.is;
    low = w.low;
    before = effect.Trapped t e ∷ w.before;
    rest = w.rest;
    told = ap (λ l. effect.Trapped t e ∷ l) w.told;
  }

  called-bears : (trapped : List Bool) (c : Call) (pending : Option ℕ)
      → BearsIf s t c u (after_trap_and_call s trapped t c pending).state (after_trap_and_call s trapped t c pending).effects
  called-bears trapped c None = made-bears trapped c
  called-bears trapped c (Some e) = by_given (passes is_given (notice s t e)) (passes is_catch (notice s t e))
    where
      by_given : (b d : Bool) → BearsIf s t c u
          (cond b (after_call s trapped t c) (cond d (after_machine_step trapped (but_call (step s (call.ExcNotify e))))
          (after_machine_step trapped (but_call (step s (call.Destroy t)))))).state
          (effect.Trapped t e
          ∷ (cond b (after_call s trapped t c) (cond d (after_machine_step trapped (but_call (step s (call.ExcNotify e))))
          (after_machine_step trapped (but_call (step s (call.Destroy t)))))).effects)
      by_given true d = behind c (after_call s trapped t c).state (after_call s trapped t c).effects e (made-bears trapped c)
      by_given false true = unborn c (call.ExcNotify e) _ refl
      by_given false false = unborn c (call.Destroy t) _ refl

  -- and with the report after it
  said-bears : (c : Call) (after : State) (es : List Effect) (reports : List ℕ) → BearsIf s t c u after es
      → BearsIf s t c u (after_rites after es reports).state (after_rites after es reports).effects
  said-bears c after es reports h = by_armed (is_event_armed after rites_event) reports
    where
      lived : (b : Bool) (text : List ℕ) → is_thread after u ≡ b → u < (deliver after rites_event text).after.births
          → is_thread (deliver after rites_event text).after u ≡ true → is_thread after u ≡ true
      lived true text e low lives = e
      lived false text e low lives =
          let off = (deliver_fades u after rites_event text).threads (omega (arith, low, deliveries_bear_none after rites_event text)) e in
          let bad : true ≡ false = sym lives ∙ off in absurd (cc)

      by_armed : (b : Bool) (rs : List ℕ)
          → BearsIf s t c u (cond b (after_first_report after es rs) (record { state = after; reports = rs; effects = es })).state
          (cond b (after_first_report after es rs) (record { state = after; reports = rs; effects = es })).effects
      by_armed true [] = h
      by_armed true (dead ∷ later) = λ low lives.
          let text = report_text dead in
          let told = map (as_rites dead) (deliver after rites_event text).effects in
          let w = h (omega (arith, low, deliveries_bear_none after rites_event text)) (lived (is_thread after u) text refl low lives) in
          record {
            number = w.number;
            is = w.is;
            low = w.low;
            before = w.before;
            rest = w.rest ++ told;
            told = ap (λ l. l ++ told) w.told ∙ append_assoc w.before (effect.Answered t (answer.Thread u) ∷ w.rest) told;
          }
      by_armed false rs = h

pub event-bears : (es : EventState) (t : ℕ) (c : Call) (u : ℕ) → choice es.state ≡ Some t → is_thread es.state u ≡ false
    → es.state.births ≤ u → BearsIf es.state t c u (event_step es c).after.state (event_step es c).effects
unfolding event_step event_step_by
event-bears es t c u turn absent high = by_choice (choice es.state) turn
  where
    by_choice : (o : Option ℕ) → o ≡ Some t → BearsIf es.state t c u (event_step_if es c o).after.state (event_step_if es c o).effects
    by_choice None e = absurd (cc)
    by_choice (Some v) e =
        let same : v ≡ t = cc in
        subst (λ w. BearsIf es.state t c u (event_step_if es c (Some w)).after.state (event_step_if es c (Some w)).effects) (sym same)
        (let out = after_trap_and_call es.state es.trapped t c es.pending in
        said-bears es.state t u turn absent high c out.state out.effects (reports_after es.state out.state es.reports out.effects)
        (called-bears es.state t u turn absent high es.trapped c es.pending))

-- ---- a thread that was born and isn't there stays away, and the number of procedures stays

record Keeps (u : ℕ) (s after : State) : Type 0 where
  fades : Fades u s after
  procs : after.procs ≡ s.procs

keeps_still : (u : ℕ) (s : State) → Keeps u s s
keeps_still u s = record { fades = fades_still u s; procs = refl }

keeps_step : (u : ℕ) (s : State) (c : Call) → Keeps u s (step s c).after
keeps_step u s c = record { fades = step_fades u s c; procs = steps_keep_procs s c }

keeps_deliver : (u : ℕ) (s : State) (e : ℕ) (text : List ℕ) → Keeps u s (deliver s e text).after
keeps_deliver u s e text = record { fades = deliver_fades u s e text; procs = deliveries_keep_procs s e text }

keeps_then : (u : ℕ) (s middle after : State) → Keeps u s middle → Keeps u middle after → Keeps u s after
keeps_then u s middle after one two = record { fades = fades_then u s middle after one.fades two.fades; procs = two.procs ∙ one.procs }

keeps_made : (u : ℕ) (s : State) (trapped : List Bool) (t : ℕ) (c : Call) → Keeps u s (after_call s trapped t c).state
keeps_made u s trapped t c = by_trap (trap_of c)
  where
    by_refusal : (e : ℕ) (o : Option LwpErr) → Keeps u s (after_trap s trapped t c e o).state
    by_refusal e None = keeps_still u s
    by_refusal e (Some why) = keeps_still u s

    by_agent : (b : Bool) → Keeps u s (cond b (after_refusal s trapped t c error.InUse) (after_machine_step trapped (step s c))).state
    by_agent true = keeps_still u s
    by_agent false = keeps_step u s c

    by_trap : (o : Option ℕ) → Keeps u s (after_call_as s trapped t c o).state
    by_trap None = by_agent (passes (is_trapped trapped) (agent_event_of c))
    by_trap (Some e) = by_refusal e (trap_refusal s trapped e)

keeps_called : (u : ℕ) (s : State) (trapped : List Bool) (t : ℕ) (c : Call) (pending : Option ℕ) → Keeps u s (after_trap_and_call s trapped t c pending).state
keeps_called u s trapped t c None = keeps_made u s trapped t c
keeps_called u s trapped t c (Some e) = by_given (passes is_given (notice s t e)) (passes is_catch (notice s t e))
  where
    by_given : (b d : Bool)
        → Keeps u s (cond b (after_call s trapped t c)
        (cond d (after_machine_step trapped (but_call (step s (call.ExcNotify e)))) (after_machine_step trapped (but_call (step s (call.Destroy t)))))).state
    by_given true d = keeps_made u s trapped t c
    by_given false true = keeps_step u s (call.ExcNotify e)
    by_given false false = keeps_step u s (call.Destroy t)

keeps_said : (u : ℕ) (s : State) (es : List Effect) (reports : List ℕ) → Keeps u s (after_rites s es reports).state
keeps_said u s es reports = by_armed (is_event_armed s rites_event) reports
  where
    by_armed : (b : Bool) (rs : List ℕ) → Keeps u s (cond b (after_first_report s es rs) (record { state = s; reports = rs; effects = es })).state
    by_armed true [] = keeps_still u s
    by_armed true (dead ∷ later) = keeps_deliver u s rites_event (report_text dead)
    by_armed false rs = keeps_still u s

keeps_call : (u : ℕ) (es : EventState) (c : Call) → Keeps u es.state (event_step es c).after.state
unfolding event_step event_step_by
keeps_call u es c = by_choice (choice es.state)
  where
    by_choice : (o : Option ℕ) → Keeps u es.state (event_step_if es c o).after.state
    by_choice None = keeps_still u es.state
    by_choice (Some t) =
        let out = after_trap_and_call es.state es.trapped t c es.pending in
        keeps_then u es.state out.state _ (keeps_called u es.state es.trapped t c es.pending)
        (keeps_said u out.state out.effects (reports_after es.state out.state es.reports out.effects))

-- in a take nobody is born
take_known : (u : ℕ) (es : EventState) (e : ℕ) (text : List ℕ)
    → ((take_event es e text).after.state.procs ≡ es.state.procs)
    × (u < (take_event es e text).after.state.births → is_thread es.state u ≡ false → is_thread (take_event es e text).after.state u ≡ false)
unfolding take_event
take_known u es e text = by_trapped (is_trapped es.trapped e)
  where
    by_trapped : (b : Bool) → ((cond b (after_take_trap es e) (after_pass_on es (deliver es.state e text))).after.state.procs ≡ es.state.procs)
        × (u < (cond b (after_take_trap es e) (after_pass_on es (deliver es.state e text))).after.state.births
        → is_thread es.state u ≡ false → is_thread (cond b (after_take_trap es e) (after_pass_on es (deliver es.state e text))).after.state u ≡ false)
    by_trapped true = (refl, λ low absent. absent)
    by_trapped false = (
      deliveries_keep_procs es.state e text,
      λ low absent. (deliver_fades u es.state e text).threads (omega (arith, low, deliveries_bear_none es.state e text)) absent,
    )

-- ---- rows

module _ {B : Type 0} where
  row_changed : (u t : ℕ) (change : Row B → Row B) (rows : List (Row B)) → ((row : Row B) → (change row).tid ≡ row.tid)
      → is_some (row_of u (with_row t change rows)) ≡ is_some (row_of u rows)
  row_changed u t change [] keeps = refl
  row_changed u t change (row ∷ rows) keeps = by_test (row.tid == t) (row_changed u t change rows keeps)
    where
      head : (b : Bool) → is_some (cond b (Some (change row)) (row_of u rows)) ≡ is_some (cond b (Some row) (row_of u rows))
      head true = refl
      head false = refl

      tail : (b : Bool) → is_some (row_of u (with_row t change rows)) ≡ is_some (row_of u rows)
          → is_some (cond b (Some row) (row_of u (with_row t change rows))) ≡ is_some (cond b (Some row) (row_of u rows))
      tail true rest = refl
      tail false rest = rest

      by_test : (b : Bool) → is_some (row_of u (with_row t change rows)) ≡ is_some (row_of u rows)
          → is_some (row_of u (cond b (change row ∷ rows) (row ∷ with_row t change rows))) ≡ is_some (row_of u (row ∷ rows))
      by_test true rest = ap (λ n. is_some (cond (n == u) (Some (change row)) (row_of u rows))) (keeps row) ∙ head (row.tid == u)
      by_test false rest = tail (row.tid == u) rest

  row_stays : (u t : ℕ) (rows : List (Row B)) → (t == u) ≡ false → is_some (row_of u rows) ≡ true → is_some (row_of u (without_row t rows)) ≡ true
  row_stays u t [] other h = h
  row_stays u t (row ∷ rows) other h = by_test (row.tid == t) refl h (row_stays u t rows other)
    where
      gone_one : row.tid ≡ t → is_some (cond (row.tid == u) (Some row) (row_of u rows)) ≡ true → is_some (row_of u rows) ≡ true
      gone_one same h = subst (λ b. is_some (cond b (Some row) (row_of u rows)) ≡ true) (ap (λ n. n == u) same ∙ other) h

      tail : (b : Bool) → (is_some (row_of u rows) ≡ true → is_some (row_of u (without_row t rows)) ≡ true)
          → is_some (cond b (Some row) (row_of u rows)) ≡ true → is_some (cond b (Some row) (row_of u (without_row t rows))) ≡ true
      tail true rest h = refl
      tail false rest h = rest h

      by_test : (b : Bool) → (row.tid == t) ≡ b → is_some (row_of u (row ∷ rows)) ≡ true
          → (is_some (row_of u rows) ≡ true → is_some (row_of u (without_row t rows)) ≡ true)
          → is_some (row_of u (cond b rows (row ∷ without_row t rows))) ≡ true
      by_test true is h rest = gone_one (eqb-true row.tid t is) h
      by_test false is h rest = tail (row.tid == u) rest h

  row_before : (u : ℕ) (rows more : List (Row B)) → is_some (row_of u rows) ≡ true → is_some (row_of u (rows ++ more)) ≡ true
  row_before u [] more h = absurd (cc)
  row_before u (row ∷ rows) more h = by_test (row.tid == u) h (row_before u rows more)
    where
      by_test : (b : Bool) → is_some (cond b (Some row) (row_of u rows)) ≡ true
          → (is_some (row_of u rows) ≡ true → is_some (row_of u (rows ++ more)) ≡ true) → is_some (cond b (Some row) (row_of u (rows ++ more))) ≡ true
      by_test true h rest = refl
      by_test false h rest = rest h

  row_last : (u : ℕ) (rows : List (Row B)) (row : Row B) → row.tid ≡ u → is_some (row_of u (rows ++ row ∷ [])) ≡ true
  row_last u [] row same = ap (λ b. is_some (cond b (Some row) None)) (eq-eqb row.tid u same)
  row_last u (r ∷ rows) row same = by_test (r.tid == u) (row_last u rows row same)
    where
      by_test : (b : Bool) → is_some (row_of u (rows ++ row ∷ [])) ≡ true → is_some (cond b (Some r) (row_of u (rows ++ row ∷ []))) ≡ true
      by_test true rest = refl
      by_test false rest = rest

  row_settled : (bodies : List B) (born : Option ℕ) (es : List Effect) (rows : List (Row B)) (u : ℕ) → count_by (is_died u) es ≡ 0
      → is_some (row_of u rows) ≡ true → is_some (row_of u (after_settle bodies born es rows)) ≡ true
  row_settled bodies born [] rows u none h = h
  row_settled bodies born (e ∷ es) rows u none h = row_settled bodies born es (after_settle_by bodies born e rows) u
      (omega (arith, none, count-cons (is_died u) e es)) (by_effect e (omega (arith, none, count-cons (is_died u) e es)))
    where
      other : (b : Bool) → one b ≡ 0 → b ≡ false
      other true h = absurd (omega (arith, h))
      other false h = refl

      by_effect : (e : Effect) → one (is_died u e) ≡ 0 → is_some (row_of u (after_settle_by bodies born e rows)) ≡ true
      by_effect (effect.Answered t a) quiet = row_before u (answered_row t a rows) (rows_born bodies born (thread_in a))
          (row_changed u t (λ (row : Row B). record row { answer = a }) rows (λ row. refl) ∙ h)
      by_effect (effect.Died t) quiet = row_stays u t rows (other (t == u) quiet) h
      by_effect (effect.Called t c) quiet = h
      by_effect (effect.Exited t reg c a) quiet = h
      by_effect (effect.Delivered a f) quiet = h
      by_effect (effect.Ticked now) quiet = h
      by_effect (effect.Ended status) quiet = h
      by_effect (effect.Trapped t f) quiet = h
      by_effect (effect.Rites a d) quiet = h

  row_born : (bodies : List B) (number : ℕ) (body : B) (t u : ℕ) (before rest : List Effect) (rows : List (Row B))
      → slice_get bodies number ≡ Some body → count_by (is_died u) (before ++ effect.Answered t (answer.Thread u) ∷ rest) ≡ 0
      → is_some (row_of u (after_settle bodies (Some number) (before ++ effect.Answered t (answer.Thread u) ∷ rest) rows)) ≡ true
  row_born bodies number body t u [] rest rows is none =
      row_settled bodies (Some number) rest (answered_row t (answer.Thread u) rows ++ rows_of_new u number (slice_get bodies number)) u
      (omega (arith, none, count-cons (is_died u) (effect.Answered t (answer.Thread u)) rest))
      (subst (λ o. is_some (row_of u (answered_row t (answer.Thread u) rows ++ rows_of_new u number o)) ≡ true) (sym is)
      (row_last u (answered_row t (answer.Thread u) rows) _ refl))
  row_born bodies number body t u (e ∷ before) rest rows is none =
      row_born bodies number body t u before rest (after_settle_by bodies (Some number) e rows) is
      (omega (arith, none, count-cons (is_died u) e (before ++ effect.Answered t (answer.Thread u) ∷ rest)))

  there : (xs : List B) (i : ℕ) → i < length xs → (x : B) × (slice_get xs i ≡ Some x)
  there [] i low = absurd (omega (arith, low))
  there (x ∷ xs) zero low = (x, refl)
  there (x ∷ xs) (suc i) low = there xs i (omega (arith, low))

-- ---- sessions

-- the pod's state is lawful, it has as many procedures as there are bodies, and each thread has its row
pub record Peopled {B : Type 0} (bodies : List B) (live : Live B) : Type 0 where
  pub lawful : Lawful live.pod.state None
  pub procs : live.pod.state.procs ≡ length bodies
  pub rows : (u : ℕ) → is_thread live.pod.state u ≡ true → is_some (row_of u live.rows) ≡ true

-- who is there after a step hasn't died in it
undying : (s : State) (es : List Effect) (u : ℕ) → is_thread s u ≡ true → (1 ≤ count_by (is_died u) es → IsGone s u) → count_by (is_died u) es ≡ 0
undying s es u lives gone = by_count (count_by (is_died u) es) refl
  where
    apart : (a b : Bool) → a ≡ true → (a || b) ≡ false → ⊥
    apart true b e h = cc h
    apart false b e h = cc e

    by_count : (n : ℕ) → count_by (is_died u) es ≡ n → count_by (is_died u) es ≡ 0
    by_count zero e = e
    by_count (suc n) e = absurd (apart (is_thread s u) (is_agent s u) lives (gone (omega (arith, e))).dead)

module _ {B : Type 0} (setting : Setting B) where
  abbrev bodies : List B
  bodies = setting.bodies

  peopled_called : (live : Live B) (t : ℕ) (reply : Polled B) → choice live.pod.state ≡ Some t → Peopled bodies live
      → Peopled bodies (Sessions.call_move bodies live t reply).live
  unfolding Sessions.call_move
  peopled_called live t reply turn was =
      let c = reply.0 in
      let after = (event_step live.pod c).after.state in
      let es = (event_step live.pod c).effects in
      let moves = call_moved live.pod was.lawful c in
      record {
        lawful = moves.lawful;
        procs = (keeps_call 0 live.pod c).procs ∙ was.procs;
        rows = λ u lives.
            let quiet = undying after es u lives (moves.does.gone u) in
            by_before u lives quiet (born-below after moves.lawful u lives) (is_thread live.pod.state u) refl;
      }
    where
      by_before : (u : ℕ) → is_thread (event_step live.pod reply.0).after.state u ≡ true
          → count_by (is_died u) (event_step live.pod reply.0).effects ≡ 0 → u < (event_step live.pod reply.0).after.state.births
          → (b : Bool) → is_thread live.pod.state u ≡ b
          → is_some (row_of u (after_settle bodies (proc_of reply.0) (event_step live.pod reply.0).effects (after_poll t reply.1 reply.0 live.rows))) ≡ true
      by_before u lives quiet low true e =
          row_settled bodies (proc_of reply.0) (event_step live.pod reply.0).effects (after_poll t reply.1 reply.0 live.rows) u quiet
          (row_changed u t (λ (row : Row B). record row { body = reply.1; called = true; call = reply.0 }) live.rows (λ row. refl) ∙ was.rows u e)
      by_before u lives quiet low false e = by_age (nat_le live.pod.state.births u) refl
        where
          by_age : (b : Bool) → nat_le live.pod.state.births u ≡ b
              → is_some (row_of u (after_settle bodies (proc_of reply.0) (event_step live.pod reply.0).effects (after_poll t reply.1 reply.0 live.rows))) ≡ true
          by_age false age =
              let off = (keeps_call u live.pod reply.0).fades.threads (leb-false live.pod.state.births u age) e in
              absurd (let bad : true ≡ false = sym lives ∙ off in cc)
          by_age true age =
              let w = event-bears live.pod t reply.0 u turn e (leb_true live.pod.state.births u age) low lives in
              let body = there bodies w.number (omega (arith, w.low, was.procs)) in
              subst (λ o. is_some (row_of u (after_settle bodies o (event_step live.pod reply.0).effects (after_poll t reply.1 reply.0 live.rows))) ≡ true) (sym
              w.is)
              (subst (λ l. is_some (row_of u (after_settle bodies (Some w.number) l (after_poll t reply.1 reply.0 live.rows))) ≡ true) (sym w.told)
              (row_born bodies w.number body.0 t u w.before w.rest (after_poll t reply.1 reply.0 live.rows) body.1
              (subst (λ l. count_by (is_died u) l ≡ 0) w.told quiet)))
            where
              leb_true : (m n : ℕ) → nat_le m n ≡ true → m ≤ n
              leb_true m n h = leb-true m n h

  peopled_move : (live : Live B) → Peopled bodies live → Peopled bodies (move setting.next bodies live).live
  unfolding move
  peopled_move live was = by_choice (choice live.pod.state) refl
    where
      by_row : (t : ℕ) (o : Option (Row B)) → choice live.pod.state ≡ Some t → Peopled bodies (move_row setting.next bodies live t o).live
      by_row t None turn = was
      by_row t (Some row) turn = peopled_called live t (setting.next row.body (names_for_poll t live.names) row.answer) turn was

      by_choice : (o : Option ℕ) → choice live.pod.state ≡ o → Peopled bodies (move_by setting.next bodies live o).live
      by_choice None turn = was
      by_choice (Some t) turn = by_row t (row_of t live.rows) turn

  peopled_taken : (took : Took) (live : Live B) → IsTrue (is_takeable live.pod took.event) → Peopled bodies live
      → Peopled bodies (take_move bodies took live).live
  unfolding take_move
  peopled_taken took live may was =
      let out = take_event live.pod took.event took.line.text in
      let moves = take_moved live.pod was.lawful took.event took.line.text may in
      record {
        lawful = moves.lawful;
        procs = (take_known 0 live.pod took.event took.line.text).0 ∙ was.procs;
        rows = λ u lives.
            row_settled bodies None out.effects live.rows u (undying out.after.state out.effects u lives (moves.does.gone u))
            (was.rows u (lived u lives (born-below out.after.state moves.lawful u lives) (is_thread live.pod.state u) refl));
      }
    where
      lived : (u : ℕ) → is_thread (take_event live.pod took.event took.line.text).after.state u ≡ true
          → u < (take_event live.pod took.event took.line.text).after.state.births → (b : Bool) → is_thread live.pod.state u ≡ b
          → is_thread live.pod.state u ≡ true
      lived u lives low true e = e
      lived u lives low false e = absurd (let bad : true ≡ false = sym lives ∙ (take_known u live.pod took.event took.line.text).1 low e in cc)

  peopled_moves : (ms : List Move) (p : Moment) → IsAt setting p → DueAll setting p ms → Peopled bodies (session_of setting p).live
      → Peopled bodies (session_of setting (after_moves p ms)).live
  peopled_moves [] p made due was = was
  peopled_moves (None ∷ ms) p made due was = peopled_moves ms (after_move p None) (IsAt-moved setting p None made due.0) due.1
      (subst (λ (l : Live B). Peopled bodies l) (sym (live-call setting p made)) (peopled_move (session_of setting p).live was))
  peopled_moves (Some t ∷ ms) p made due was = peopled_moves ms (after_move p (Some t)) (IsAt-moved setting p (Some t) made due.0) due.1
      (subst (λ (l : Live B). Peopled bodies l) (sym (live-take setting p t made)) (peopled_taken (took_at p t) (session_of setting p).live due.0 was))

  module _ (fit : IsPeopled setting) where
    peopled_opened : Peopled bodies (Sessions.opening_session setting).live
    peopled_opened =
        let first = there bodies 0 (omega (arith, fit.bodies, fit.first)) in
        record {
          lawful = Lawful-opening setting.params fit.least fit.most;
          procs = sym fit.bodies;
          rows = λ u lives. subst (λ o. is_some (row_of u (rows_of_new 0 0 o)) ≡ true) (sym first.1) (alone u first.0 (0 == u) lives);
        }
      where
        first_row : B → Row B
        first_row body = record { tid = 0; proc = 0; body = body; answer = zero_answer; called = false; call = call.Return }

        alone : (u : ℕ) (body : B) (b : Bool) → is_some (cond b (Some (opening_thread setting.params.maxpri)) None) ≡ true
            → is_some (cond b (Some (first_row body)) None) ≡ true
        alone u body true lives = refl
        alone u body false lives = absurd (cc)

    pub peopled : (p : Moment) → IsAt setting p → Peopled bodies (session_of setting p).live
    peopled p after_call =
        let way = reached setting p after_call in
        subst (λ q. Peopled bodies (session_of setting q).live) way.comes
        (peopled_moves way.moves first_moment (IsDefined-zero setting) way.due
        (subst (λ (s : Session B). Peopled bodies s.live) (sym (play-zero setting)) peopled_opened))

-- the thread that is chosen has a body, and speaks
pub speaks : {B : Type 0} (asked : Asked B) → IsPeopled asked.setting → Speaks asked
unfolding move Sessions.call_move
speaks {B} asked fit p made due =
    let w = by_choice (choice live.pod.state) refl (second (not live.pod.state.ended) (is_some (choice live.pod.state)) due) in
    (w.first, w.rest, w.are, w.spoken)
  where
    live : Live B
    live = (session_of asked.setting p).live

    second : (a b : Bool) → (a && b) ≡ true → b ≡ true
    second true b h = h
    second false b h = absurd (cc)

    spoken_in : (t : ℕ) (reply : Polled B) → choice live.pod.state ≡ Some t → FirstSpoken (Sessions.call_move asked.setting.bodies live t reply).effects
    spoken_in t reply turn = event-first live.pod reply.0 t turn

    by_row : (t : ℕ) (o : Option (Row B)) → choice live.pod.state ≡ Some t → is_some o ≡ true
        → FirstSpoken (move_row asked.setting.next asked.setting.bodies live t o).effects
    by_row t None turn some = absurd (cc)
    by_row t (Some row) turn some =
        spoken_in t (asked.setting.next row.body (names_for_poll t live.names) row.answer) turn

    by_choice : (o : Option ℕ) → choice live.pod.state ≡ o → is_some o ≡ true → FirstSpoken (move_by asked.setting.next asked.setting.bodies live o).effects
    by_choice None turn some = absurd (cc)
    by_choice (Some t) turn some =
        let all = peopled asked.setting fit p made in
        let run = chosen live.pod.state all.lawful.nine t turn in
        by_row t (row_of t live.rows) turn (all.rows t (ap is_some run.known))
