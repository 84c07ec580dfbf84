-- Which threads the names of a script's threads mean, from the opening on.
use Rattle.answer_laws.proofs.Fadings.{event_fades, take_fades}
use Rattle.answer_laws.proofs.Openings.{sessions_are_reached}
use Rattle.answer_laws.proofs.Phases.{born_below}
use Rattle.answer_laws.proofs.PodSteps.{births_said}
use Rattle.answer_laws.proofs.Servings.{chosen_lives, moved_lawful}
use Rattle.answer_laws.proofs.Unnamed.{AllNamed, Below, NamedIn, named_append, named_deliver, step_named}
use Rattle.answer_laws.specs.Known.{KnowsItsNames, NamesAreOfTheBorn, NullNamesAreKnown, SessionsSendToTheBorn, script_setting}
use Rattle.answer_laws.specs.Served.{CanGoOn, IsReached, after_move, after_moves}
use Rattle.lwp_types.specs.Agents.{deliver, is_event_armed}
use Rattle.lwp_types.specs.Choice.{choice}
use Rattle.lwp_types.specs.Lawful.{Lawful}
use Rattle.lwp_types.specs.Names.{Names, id_at, null_id, names_for_poll}
use Rattle.lwp_types.specs.Poll.{Polled}
use Rattle.lwp_types.specs.State.{State, passes}
use Rattle.lwp_types.specs.Step.{step}
use Rattle.lwp_types.specs.declared.call.Answer.{Answer}
use Rattle.lwp_types.specs.declared.call.Call.{Call}
use Rattle.lwp_types.specs.declared.call.Effect.{Effect}
use Rattle.lwp_types.specs.declared.call.LwpErr.{LwpErr}
use Rattle.line_server.specs.Commands.{Command, command_of}
use Rattle.line_server.specs.Sessions.{SessionBody, session_at, session_by, session_next, session_turn_after_agent, session_turn_after_letter}
use Rattle.line_server.specs.Sessions.{session_receives, session_returns, session_sends, session_turn_after_reply}
use Rattle.line_server.specs.Stores.{store_next}
use Rattle.line_server.specs.Tables.{is_quit}
use Rattle.line_server.specs.Turns.{is_replied, stops}
use Rattle.line_server.specs.declared.session.SessionPlace.{SessionPlace}
use Rattle.line_server.specs.declared.session.SessionPlace.TheVariants as at
use Rattle.lwp_types.specs.declared.call.PodParams.{PodParams}
use Rattle.pod_events.specs.Events.{EventState, after_pass_on, after_take_trap, is_trapped, rites_event, take_event}
use Rattle.pod_events.specs.Rites.{after_first_report, as_rites, report_text, reports_after, after_rites}
use Rattle.pod_events.specs.Step.{event_step, event_step_by, event_step_if}
use Rattle.pod_events.specs.Traps.{after_call as traps_made, after_call_as, after_machine_step, after_trap, after_trap_and_call as traps_called}
use Rattle.pod_events.specs.Traps.{agent_event_of, but_call, is_catch, is_given, notice, after_refusal, trap_of, trap_refusal}
use Rattle.pod_laws.proofs.Opening.{Lawful-opening}
use Rattle.pod_runner.specs.Play.{play}
use Rattle.pod_runner.specs.Session.{Live, Session, Setting, after_answer as rows_answered, after_poll, after_settle, after_settle_by, call_move, move, move_by}
use Rattle.pod_runner.specs.Session.{move_row, opening_session, proc_of, row_of, rows_of_new, rows_born, take_move, thread_in, with_row, without_row}
use Rattle.pod_runner.specs.declared.session.Row.{Row}
use Rattle.pod_runner.specs.declared.session.Took.{Took}
use Rattle.script_body.specs.Naming.{after_name, after_name_by, with_condition_name_by, with_monitor_name_by, with_thread_name_by}
use Rattle.script_body.specs.ScriptBody.{ScriptBody, after_take as body_taken, poll_of_answer, script_next}
use Rattle.script_body.specs.Bodies.{body_next}
use Rattle.script_body.specs.declared.thread_body.ThreadBody.{ThreadBody}
use Rattle.script_body.specs.declared.thread_body.ThreadBody.TheVariants.{Scripted, Serving, Storing}
use Rattle.script_text.specs.declared.script.Stmt.{Stmt}
use Rattle.std.proofs.Common.{Bool, List, None, Option, Some, [], arith, cond, drop, eqb, false, inl, inr}
use Rattle.std.proofs.Common.{refl, subst, suc, sym, true, zero, ℕ, ◌++◌, ◌<◌, ◌∷◌, ◌≡◌, ◌≤◌, ◌⊎◌}
use Rattle.std.specs.Prelude.{codes, map, replicate, slice_get, slice_set}
use Rattle.lwp_types.specs.declared.call.Answer.TheVariants as answer
use Rattle.lwp_types.specs.declared.call.Call.TheVariants as call
use Rattle.lwp_types.specs.declared.call.Effect.TheVariants as effect
use Rattle.lwp_types.specs.declared.call.LwpErr.TheVariants as error
use Rattle.script_text.specs.declared.script.Stmt.TheVariants as stmt

-- ---- a step of a pod with its own events

below_later : (n m : ℕ) → n ≤ m → (o : Option ℕ) → Below n o → Below m o
below_later n m more None below = tt
below_later n m more (Some t) below = omega (arith, below, more)

named_drop : (n : ℕ) (es : List Effect) → AllNamed n es → AllNamed n (drop 1 es)
named_drop n [] all = tt
named_drop n (e ∷ es) all = all.1

named_rites : (n dead : ℕ) (es : List Effect) → AllNamed n es → AllNamed n (map (as_rites dead) es)
named_rites n dead [] all = tt
named_rites n dead (e ∷ es) all = (by_effect e all.0, named_rites n dead es all.1)
  where
    by_effect : (e : Effect) → NamedIn n e → NamedIn n (as_rites dead e)
    by_effect (effect.Delivered agent event) below = tt
    by_effect (effect.Answered t a) below = below
    by_effect (effect.Called t c) below = tt
    by_effect (effect.Exited t reg c a) below = tt
    by_effect (effect.Died t) below = tt
    by_effect (effect.Ticked now) below = tt
    by_effect (effect.Ended status) below = tt
    by_effect (effect.Trapped t e) below = tt
    by_effect (effect.Rites agent other) below = tt

module _ (st : State) (was : Lawful st None) where
  born_now : (t : ℕ) → choice st ≡ Some t → t < st.births
  born_now t turn = born_below st was t (chosen_lives st was t turn)

  named_made : (trapped : List Bool) (t : ℕ) (c : Call) → AllNamed (traps_made st trapped t c).state.births (traps_made st trapped t c).effects
  named_made trapped t c = by_trap (trap_of c)
    where
      by_refusal : (e : ℕ) (o : Option LwpErr) → AllNamed (after_trap st trapped t c e o).state.births (after_trap st trapped t c e o).effects
      by_refusal e None = (tt, (tt, tt))
      by_refusal e (Some why) = (tt, (tt, tt))

      by_agent : (b : Bool)
          → AllNamed (cond b (after_refusal st trapped t c error.InUse) (after_machine_step trapped (step st c))).state.births
          (cond b (after_refusal st trapped t c error.InUse) (after_machine_step trapped (step st c))).effects
      by_agent true = (tt, (tt, tt))
      by_agent false = step_named st born_now c

      by_trap : (o : Option ℕ) → AllNamed (after_call_as st trapped t c o).state.births (after_call_as st trapped t c o).effects
      by_trap None = by_agent (passes (is_trapped trapped) (agent_event_of c))
      by_trap (Some e) = by_refusal e (trap_refusal st trapped e)

  named_called : (trapped : List Bool) (t : ℕ) (c : Call) (pending : Option ℕ)
      → AllNamed (traps_called st trapped t c pending).state.births (traps_called st trapped t c pending).effects
  named_called trapped t c None = named_made trapped t c
  named_called trapped t c (Some e) = by_given (passes is_given (notice st t e)) (passes is_catch (notice st t e))
    where
      by_given : (b d : Bool)
          → AllNamed (cond b (traps_made st trapped t c) (cond d (after_machine_step trapped (but_call (step st (call.ExcNotify e))))
          (after_machine_step trapped (but_call (step st (call.Destroy t)))))).state.births
          (effect.Trapped t e
          ∷ (cond b (traps_made st trapped t c) (cond d (after_machine_step trapped (but_call (step st (call.ExcNotify e))))
          (after_machine_step trapped (but_call (step st (call.Destroy t)))))).effects)
      by_given true d = (tt, named_made trapped t c)
      by_given false true = (
        tt,
        named_drop (step st (call.ExcNotify e)).after.births (step st (call.ExcNotify e)).effects (step_named st born_now (call.ExcNotify e)),
      )
      by_given false false = (
        tt,
        named_drop (step st (call.Destroy t)).after.births (step st (call.Destroy t)).effects (step_named st born_now (call.Destroy t)),
      )

named_said : (n : ℕ) (after : State) (es : List Effect) (reports : List ℕ) → AllNamed n es → AllNamed n (after_rites after es reports).effects
named_said n after es reports all = by_armed (is_event_armed after rites_event) reports
  where
    by_armed : (b : Bool) (rs : List ℕ) → AllNamed n (cond b (after_first_report after es rs) (record { state = after; reports = rs; effects = es })).effects
    by_armed true [] = all
    by_armed false rs = all
    by_armed true (dead ∷ later) = named_append n es (map (as_rites dead) (deliver after rites_event (report_text dead)).effects) all
        (named_rites n dead (deliver after rites_event (report_text dead)).effects (named_deliver n after rites_event (report_text dead)))

event_named : (es : EventState) → Lawful es.state None → (c : Call) → AllNamed (event_step es c).after.state.births (event_step es c).effects
unfolding event_step event_step_by
event_named es was c = by_choice (choice es.state)
  where
    by_choice : (o : Option ℕ) → AllNamed (event_step_if es c o).after.state.births (event_step_if es c o).effects
    by_choice None = tt
    by_choice (Some t) =
        let out = traps_called es.state es.trapped t c es.pending in
        let reports = reports_after es.state out.state es.reports out.effects in
        subst (λ n. AllNamed n (after_rites out.state out.effects reports).effects) (sym (births_said out.state out.effects reports))
        (named_said out.state.births out.state out.effects reports (named_called es.state was es.trapped t c es.pending))

take_named : (n : ℕ) (es : EventState) (e : ℕ) (text : List ℕ) → AllNamed n (take_event es e text).effects
unfolding take_event
take_named n es e text = by_trapped (is_trapped es.trapped e)
  where
    by_trapped : (b : Bool) → AllNamed n (cond b (after_take_trap es e) (after_pass_on es (deliver es.state e text))).effects
    by_trapped true = (tt, tt)
    by_trapped false = named_deliver n es.state e text

-- ---- rows

module _ {B : Type 0} (n : ℕ) where
  -- each is polled with an answer that names somebody born, if anybody
  abbrev pub RowsNamed : List (Row B) → Type 0
  RowsNamed [] = Unit {0}
  RowsNamed (row ∷ rows) = Below n (thread_in row.answer) × RowsNamed rows

  rows_append : (xs ys : List (Row B)) → RowsNamed xs → RowsNamed ys → RowsNamed (xs ++ ys)
  rows_append [] ys one two = two
  rows_append (x ∷ xs) ys one two = (one.0, rows_append xs ys one.1 two)

  rows_with : (t : ℕ) (change : Row B → Row B) → ((row : Row B) → Below n (thread_in row.answer) → Below n (thread_in (change row).answer))
      → (rows : List (Row B)) → RowsNamed rows → RowsNamed (with_row t change rows)
  rows_with t change keeps [] all = tt
  rows_with t change keeps (row ∷ rows) all = by_test (eqb row.tid t) (rows_with t change keeps rows all.1)
    where
      by_test : (b : Bool) → RowsNamed (with_row t change rows) → RowsNamed (cond b (change row ∷ rows) (row ∷ with_row t change rows))
      by_test true rest = (keeps row all.0, all.1)
      by_test false rest = (all.0, rest)

  rows_without : (t : ℕ) (rows : List (Row B)) → RowsNamed rows → RowsNamed (without_row t rows)
  rows_without t [] all = tt
  rows_without t (row ∷ rows) all = by_test (eqb row.tid t) (rows_without t rows all.1)
    where
      by_test : (b : Bool) → RowsNamed (without_row t rows) → RowsNamed (cond b rows (row ∷ without_row t rows))
      by_test true rest = all.1
      by_test false rest = (all.0, rest)

  rows_opened : (t number : ℕ) (o : Option B) → RowsNamed (rows_of_new t number o)
  rows_opened t number None = tt
  rows_opened t number (Some body) = (tt, tt)

  rows_come : (bodies : List B) (born t : Option ℕ) → RowsNamed (rows_born bodies born t)
  rows_come bodies (Some number) (Some t) = rows_opened t number (slice_get bodies number)
  rows_come bodies None t = tt
  rows_come bodies (Some number) None = tt

  rows_settled : (bodies : List B) (born : Option ℕ) (es : List Effect) (rows : List (Row B)) → AllNamed n es → RowsNamed rows
      → RowsNamed (after_settle bodies born es rows)
  rows_settled bodies born [] rows names all = all
  rows_settled bodies born (e ∷ es) rows names all = rows_settled bodies born es (after_settle_by bodies born e rows) names.1 (by_effect e names.0)
    where
      by_effect : (e : Effect) → NamedIn n e → RowsNamed (after_settle_by bodies born e rows)
      by_effect (effect.Answered t a) below = rows_append (rows_answered t a rows) (rows_born bodies born (thread_in a))
          (rows_with t (λ row. record row { answer = a }) (λ row old. below) rows all) (rows_come bodies born (thread_in a))
      by_effect (effect.Died t) below = rows_without t rows all
      by_effect (effect.Called t c) below = all
      by_effect (effect.Exited t reg c a) below = all
      by_effect (effect.Delivered agent event) below = all
      by_effect (effect.Ticked now) below = all
      by_effect (effect.Ended status) below = all
      by_effect (effect.Trapped t e) below = all
      by_effect (effect.Rites agent dead) below = all

  -- the answer that a thread is polled with
  row_named : (t : ℕ) (rows : List (Row B)) → RowsNamed rows → (row : Row B) → row_of t rows ≡ Some row → Below n (thread_in row.answer)
  row_named t [] all row found = absurd (cc)
  row_named t (r ∷ rs) all row found = by_test (eqb r.tid t) found (row_named t rs all.1 row)
    where
      by_test : (b : Bool) → cond b (Some r) (row_of t rs) ≡ Some row → (row_of t rs ≡ Some row → Below n (thread_in row.answer))
          → Below n (thread_in row.answer)
      by_test true found rest = subst (λ (x : Row B). Below n (thread_in x.answer)) (let is : r ≡ row = cc found in is) all.0
      by_test false found rest = rest found

rows_later : {B : Type 0} (n m : ℕ) → n ≤ m → (rows : List (Row B)) → RowsNamed n rows → RowsNamed m rows
rows_later n m more [] all = tt
rows_later n m more (row ∷ rows) all = (below_later n m more (thread_in row.answer) all.0, rows_later n m more rows all.1)

-- ---- names

abbrev pub Known : ℕ → ℕ → Type 0
Known n x = (x ≡ null_id) ⊎ (x < n)

abbrev pub AllKnown : ℕ → Names → Type 0
AllKnown n names = (place : ℕ) → Known n (id_at names.threads place)

known_later : (n m x : ℕ) → n ≤ m → Known n x → Known m x
known_later n m x more (inl null) = inl null
known_later n m x more (inr below) = inr (omega (arith, below, more))

known_set : (n t : ℕ) → t < n → (xs : List ℕ) → ((place : ℕ) → Known n (id_at xs place)) → (i place : ℕ) → Known n (id_at (slice_set xs i t) place)
known_set n t below [] all i place = all place
known_set n t below (x ∷ xs) all zero zero = inr below
known_set n t below (x ∷ xs) all zero (suc place) = all (suc place)
known_set n t below (x ∷ xs) all (suc i) zero = all zero
known_set n t below (x ∷ xs) all (suc i) (suc place) = known_set n t below xs (λ p. all (suc p)) i place

module _ (n : ℕ) where
  thread_kept : (name : ℕ) (a : Answer) (names : Names) → Below n (thread_in a) → AllKnown n names → AllKnown n (with_thread_name_by name a names)
  thread_kept name (answer.Thread t) names below all = known_set n t below names.threads all name
  thread_kept name _ names below all = all

  stmt_kept : (a : Answer) (s : Stmt) (names : Names) → Below n (thread_in a) → AllKnown n names → AllKnown n (after_name_by a s names)
  stmt_kept a (stmt.Create name number prio flags) names below all = thread_kept name a names below all
  stmt_kept a (stmt.Agent name event) names below all = thread_kept name a names below all
  stmt_kept a (stmt.MonCreate name) names below all = monitor_kept a
    where
      monitor_kept : (a : Answer) → AllKnown n (with_monitor_name_by name a names)
      monitor_kept (answer.Monitor m) = all
      monitor_kept _ = all
  stmt_kept a (stmt.CvCreate name mon) names below all = condition_kept a
    where
      condition_kept : (a : Answer) → AllKnown n (with_condition_name_by name a names)
      condition_kept (answer.Cond c) = all
      condition_kept _ = all
  stmt_kept a _ names below all = all

  last_kept : (a : Answer) (last : Option Stmt) (names : Names) → Below n (thread_in a) → AllKnown n names → AllKnown n (after_name a last names)
  last_kept a None names below all = all
  last_kept a (Some s) names below all = stmt_kept a s names below all

  taken_kept : (body : ScriptBody) (names : Names) (a : Answer) (now : Option ScriptBody) → Below n (thread_in a) → AllKnown n names
      → AllKnown n (poll_of_answer body names a now).2
  taken_kept body names a None below all = all
  taken_kept body names a (Some now) below all = last_kept a body.last names below all

  -- a thread of a script sets a name to whom it is answered with alone
  body_kept : (body : ThreadBody) (names : Names) (a : Answer) → Below n (thread_in a) → AllKnown n names → AllKnown n (body_next body names a).2
  unfolding script_next session_next store_next
  body_kept (Scripted body) names a below all = taken_kept body names a (body_taken body a) below all
  body_kept (Serving body) names a below all = all
  body_kept (Storing body) names a below all = all

-- ---- sessions

pub record Tells (live : Live ThreadBody) : Type 0 where
  pub rows : RowsNamed live.pod.state.births live.rows
  pub names : AllKnown live.pod.state.births live.names

module _ (setting : Setting ThreadBody) (scripts : setting.next ≡ body_next) where
  tells_called : (live : Live ThreadBody) → Lawful live.pod.state None → (t : ℕ) (reply : Polled ThreadBody)
      → live.pod.state.births ≤ (event_step live.pod reply.0).after.state.births → RowsNamed live.pod.state.births live.rows
      → AllKnown live.pod.state.births reply.2
      → Tells (call_move setting.bodies live t reply).live
  unfolding call_move
  tells_called live was t reply more rows names = record {
    rows = rows_settled _ setting.bodies (proc_of reply.0) (event_step live.pod reply.0).effects (after_poll t reply.1 reply.0 live.rows)
        (event_named live.pod was reply.0)
        (rows_with _ t (λ row. record row { body = reply.1; called = true; call = reply.0 }) (λ row below. below) live.rows
        (rows_later live.pod.state.births _ more live.rows rows));
    names = λ place. known_later live.pod.state.births _ (id_at reply.2.threads place) more (names place);
  }

  tells_row : (live : Live ThreadBody) → Lawful live.pod.state None → Tells live → (t : ℕ) (o : Option (Row ThreadBody))
      → row_of t live.rows ≡ o → Tells (move_row body_next setting.bodies live t o).live
  tells_row live was h t None found = h
  tells_row live was h t (Some row) found =
      let reply = body_next row.body (names_for_poll t live.names) row.answer in
      tells_called live was t reply (event_fades 0 live.pod reply.0).births h.rows (body_kept live.pod.state.births row.body
      (names_for_poll t live.names) row.answer (row_named live.pod.state.births t live.rows h.rows row found) h.names)

  tells_call : (live : Live ThreadBody) → Lawful live.pod.state None → Tells live → Tells (move body_next setting.bodies live).live
  unfolding move
  tells_call live was h = by_choice (choice live.pod.state)
    where
      by_choice : (o : Option ℕ) → Tells (move_by body_next setting.bodies live o).live
      by_choice None = h
      by_choice (Some t) = tells_row live was h t (row_of t live.rows) refl

  tells_take : (live : Live ThreadBody) (took : Took) → Tells live → Tells (take_move setting.bodies took live).live
  unfolding take_move
  tells_take live took h =
      let more = (take_fades 0 live.pod took.event took.line.text).births in
      record {
        rows = rows_settled _ setting.bodies None (take_event live.pod took.event took.line.text).effects live.rows
            (take_named _ live.pod took.event took.line.text) (rows_later live.pod.state.births _ more live.rows h.rows);
        names = λ place. known_later live.pod.state.births _ (id_at live.names.threads place) more (h.names place);
      }

  pub tells_moved : (session : Session ThreadBody) (m : Option Took) → Lawful session.live.pod.state None → Tells session.live
      → Tells (after_move setting session m).live
  tells_moved session None was h = subst (λ next. Tells (move next setting.bodies session.live).live) (sym scripts) (tells_call session.live was h)
  tells_moved session (Some took) was h = tells_take session.live took h

  tells_gone : (moves : List (Option Took)) (session : Session ThreadBody) → CanGoOn setting moves session
      → Lawful session.live.pod.state None → Tells session.live → Tells (after_moves setting moves session).live
  tells_gone [] session can was h = h
  tells_gone (m ∷ ms) session can was h =
      tells_gone ms (after_move setting session m) can.1 (moved_lawful setting session m can.0 was) (tells_moved session m was h)

-- it holds at an opening whose names are known
pub tells_opening : (bodies : List ThreadBody) (params : PodParams) (names : Names)
    → KnowsItsNames (opening_session (script_setting bodies params names)) → Tells (opening_session (script_setting bodies params names)).live
tells_opening bodies params names known = record {
  rows = rows_opened (opening_session (script_setting bodies params names)).live.pod.state.births 0 0 (slice_get bodies 0);
  names = known;
}

pub names_are_of_the_born : NamesAreOfTheBorn
names_are_of_the_born bodies params names least most known takes n defined =
    subst (λ (x : Session ThreadBody). KnowsItsNames x) (sym r.is)
    (tells_gone setting refl r.moves (opening_session setting) r.can (Lawful-opening params least most) (tells_opening bodies params names known)).names
  where
    setting : Setting ThreadBody
    setting = script_setting bodies params names

    r : IsReached setting (play setting takes n)
    r = sessions_are_reached ThreadBody setting takes n defined

null_at : (n i : ℕ) → id_at (replicate n null_id) i ≡ null_id
null_at zero i = refl
null_at (suc n) zero = refl
null_at (suc n) (suc i) = null_at n i

pub null_names_are_known : NullNamesAreKnown
null_names_are_known bodies params threads monitors conditions place = inl (null_at threads place)

-- ---- sends

module _ (n : ℕ) (body : SessionBody) (names : Names) (known : AllKnown n names) where
  abbrev pub SendsKnown : Call → Type 0
  SendsKnown c = (to room : ℕ) (text : List ℕ) → c ≡ call.Send to room text → Known n to

  sends_commands : (text : List ℕ) (o : Option Command) → SendsKnown (session_sends body names text o).0
  sends_commands text None to room words e = absurd (cc)
  sends_commands text (Some c) to room words e = subst (Known n) (let is : id_at names.threads body.store ≡ to = cc e in is) (known body.store)

  sends_reads : (text : List ℕ) (b : Bool)
      → SendsKnown (cond b (call.Reply body.agent (codes "bye"), session_at body at.Bye) (session_sends body names text (command_of text))).0
  sends_reads text true = λ to room words e. absurd (cc)
  sends_reads text false = sends_commands text (command_of text)

  sends_received : (x : Answer) → SendsKnown (session_turn_after_letter body names x).0
  sends_received (answer.Letter from text room) = sends_reads text (is_quit text)
  sends_received (answer.Refused why) = λ to room text e. absurd (cc)
  sends_received _ = λ to room text e. absurd (cc)

  sends_opened : (x : Answer) → SendsKnown (session_turn_after_agent body x).0
  sends_opened (answer.Thread a) to room text e = absurd (cc)
  sends_opened (answer.Refused why) to room text e = absurd (cc)
  sends_opened _ to room text e = absurd (cc)

  sends_told : (x : Answer) → SendsKnown (session_turn_after_reply body x).0
  sends_told (answer.Reply words) to room text e = absurd (cc)
  sends_told (answer.Refused why) to room text e = absurd (cc)
  sends_told _ to room text e = absurd (cc)

  sends_after : (b : Bool) → SendsKnown (cond b (session_receives body) (stops body)).0
  sends_after true to room text e = absurd (cc)
  sends_after false to room text e = absurd (cc)

  sends_returns : (b : Bool) → SendsKnown (cond b (session_returns body) (stops body)).0
  sends_returns true to room text e = absurd (cc)
  sends_returns false to room text e = absurd (cc)

  sends_by : (x : Answer) (p : SessionPlace) → SendsKnown (session_by body names x p).0
  sends_by x at.Start = λ to room text e. absurd (cc)
  sends_by x at.Agent = sends_opened x
  sends_by x at.Recv = sends_received x
  sends_by x at.Send = sends_told x
  sends_by x at.Reply = sends_after (is_replied x)
  sends_by x at.Bye = sends_returns (is_replied x)
  sends_by x at.End = λ to room text e. absurd (cc)

  pub sends_next : (x : Answer) → SendsKnown (session_next body names x).0
  unfolding session_next
  sends_next x = sends_by x body.place

pub sessions_send_to_the_born : SessionsSendToTheBorn
sessions_send_to_the_born bodies params names least most known takes n defined s body heard row =
    let session = play (script_setting bodies params names) takes n in
    sends_next session.live.pod.state.births body (names_for_poll s session.live.names)
    (names_are_of_the_born bodies params names least most known takes n defined) heard
