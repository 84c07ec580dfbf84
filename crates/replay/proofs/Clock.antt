-- The clock in a session: it ticks by lines of event 0 alone, and that event is never trapped.
use Rattle.lwp_types.specs.Agents.{deliver, is_event_armed}
use Rattle.lwp_types.specs.Choice.{choice}
use Rattle.lwp_types.specs.Names.{names_for_poll}
use Rattle.lwp_types.specs.State.{State, passes}
use Rattle.lwp_types.specs.Step.{step}
use Rattle.lwp_types.specs.Time.{may_tick}
use Rattle.lwp_types.specs.declared.call.Call.{Call}
use Rattle.lwp_types.specs.declared.call.Effect.{Effect}
use Rattle.lwp_types.specs.declared.call.Line.{Line}
use Rattle.lwp_types.specs.declared.call.LwpErr.{LwpErr}
use Rattle.pod_events.specs.Events.{EventState, after_pass_on, after_take_trap, has_agent, is_takeable, is_trapped, may_trap, rites_event, take_event}
use Rattle.pod_events.specs.Rites.{after_first_report, report_text, reports_after, after_rites}
use Rattle.pod_events.specs.Step.{event_step, event_step_by, event_step_if}
use Rattle.pod_events.specs.Traps.{after_call, after_call_as, after_machine_step, after_trap, after_trap_and_call, agent_event_of}
use Rattle.pod_events.specs.Traps.{but_call, is_catch, is_given, notice, after_refusal, trap_of, trap_refusal}
use Rattle.pod_runner.proofs.Plays.{IsDefined-zero, LastBy-of, play-call, play-take, play-zero}
use Rattle.pod_runner.specs.Session as Sessions
use Rattle.pod_runner.specs.Session.{Live, Session, Setting, move, move_by, move_row, row_of, take_move}
use Rattle.pod_runner.specs.declared.session.Row.{Row}
use Rattle.replay.proofs.Moves.{IsAt-moved, reached}
use Rattle.replay.specs.Walk.{Due, DueAll, IsAt, Moment, Move, after_move, after_moves, first_moment, session_of, ticks_after, took_at}
use Rattle.session_laws.proofs.Numbering.{deliveries_tick, steps_keep_clock}
use Rattle.std.proofs.Common.{Bool, List, None, Some, [], ap, cond, false, refl, subst, suc, sym, true, zero, ℕ, ◌+◌, ◌<◌, ◌∙◌, ◌∷◌, ◌≡◌}
use Rattle.std.specs.Prelude.{IsTrue, Option, nat_lt, not, slice_set, ◌&&◌, ◌==◌, ◌||◌}
use Rattle.std.proofs.lemmas.Bool.{ltb-true, eqb-true}
use Rattle.lwp_types.specs.declared.call.Call.TheVariants as call
use Rattle.lwp_types.specs.declared.call.LwpErr.TheVariants as error

-- ---- a call

-- it makes no tick, and leaves the clock's event untrapped
pub record Calm (s : State) (trapped : List Bool) (now : State) (after : List Bool) : Type 0 where
  pub clock : now.now ≡ s.now
  pub free : is_trapped trapped 0 ≡ false → is_trapped after 0 ≡ false

calm_still : (s : State) (trapped : List Bool) → Calm s trapped s trapped
calm_still s trapped = record { clock = refl; free = λ h. h }

calm_step : (s : State) (trapped : List Bool) (c : Call) → Calm s trapped (step s c).after trapped
calm_step s trapped c = record { clock = steps_keep_clock s c; free = λ h. h }

-- a flag is set that isn't the first
set_later : (flags : List Bool) (e : ℕ) → (e == 0) ≡ false → is_trapped flags 0 ≡ false → is_trapped (slice_set flags e true) 0 ≡ false
set_later flags zero other h = absurd (cc)
set_later [] (suc e) other h = refl
set_later (f ∷ flags) (suc e) other h = h

calm_trap : (s : State) (trapped : List Bool) (t e : ℕ) (c : Call)
    → Calm s trapped (after_trap s trapped t c e (trap_refusal s trapped e)).state (after_trap s trapped t c e (trap_refusal s trapped e)).trapped
calm_trap s trapped t e c = by_first (e == 0) refl
  where
    by_rest : (o : Option LwpErr) → (e == 0) ≡ false → Calm s trapped (after_trap s trapped t c e o).state (after_trap s trapped t c e o).trapped
    by_rest None other = record { clock = refl; free = set_later trapped e other }
    by_rest (Some why) other = calm_still s trapped

    by_refused : (o : Option LwpErr) (why : LwpErr) → o ≡ Some why → Calm s trapped (after_trap s trapped t c e o).state (after_trap s trapped t c e o).trapped
    by_refused None why is = absurd (cc)
    by_refused (Some w) why is = calm_still s trapped

    by_first : (b : Bool) → (e == 0) ≡ b
        → Calm s trapped (after_trap s trapped t c e (trap_refusal s trapped e)).state (after_trap s trapped t c e (trap_refusal s trapped e)).trapped
    by_first true is = by_refused (trap_refusal s trapped e) error.InvalidArg
        (ap (λ b. cond (b || nat_lt 31 e) (Some error.InvalidArg) (cond (is_trapped trapped e || has_agent s e) (Some error.InUse) None)) is)
    by_first false is = by_rest (trap_refusal s trapped e) is

calm_made : (s : State) (trapped : List Bool) (t : ℕ) (c : Call) → Calm s trapped (after_call s trapped t c).state (after_call s trapped t c).trapped
calm_made s trapped t c = by_trap (trap_of c)
  where
    by_agent : (b : Bool)
        → Calm s trapped (cond b (after_refusal s trapped t c error.InUse) (after_machine_step trapped (step s c))).state
        (cond b (after_refusal s trapped t c error.InUse) (after_machine_step trapped (step s c))).trapped
    by_agent true = calm_still s trapped
    by_agent false = calm_step s trapped c

    by_trap : (o : Option ℕ) → Calm s trapped (after_call_as s trapped t c o).state (after_call_as s trapped t c o).trapped
    by_trap None = by_agent (passes (is_trapped trapped) (agent_event_of c))
    by_trap (Some e) = calm_trap s trapped t e c

calm_called : (s : State) (trapped : List Bool) (t : ℕ) (c : Call) (pending : Option ℕ)
    → Calm s trapped (after_trap_and_call s trapped t c pending).state (after_trap_and_call s trapped t c pending).trapped
calm_called s trapped t c None = calm_made s trapped t c
calm_called s trapped t c (Some e) = by_given (passes is_given (notice s t e)) (passes is_catch (notice s t e))
  where
    by_given : (b d : Bool) → Calm s trapped
        (cond b (after_call s trapped t c) (cond d (after_machine_step trapped (but_call (step s (call.ExcNotify e))))
        (after_machine_step trapped (but_call (step s (call.Destroy t)))))).state
        (cond b (after_call s trapped t c) (cond d (after_machine_step trapped (but_call (step s (call.ExcNotify e))))
        (after_machine_step trapped (but_call (step s (call.Destroy t)))))).trapped
    by_given true d = calm_made s trapped t c
    by_given false true = calm_step s trapped (call.ExcNotify e)
    by_given false false = calm_step s trapped (call.Destroy t)

said_clock : (s : State) (es : List Effect) (reports : List ℕ) → (after_rites s es reports).state.now ≡ s.now
said_clock s es reports = by_armed (is_event_armed s rites_event) reports
  where
    by_armed : (b : Bool) (rs : List ℕ) → (cond b (after_first_report s es rs) (record { state = s; reports = rs; effects = es })).state.now ≡ s.now
    by_armed true [] = refl
    by_armed true (dead ∷ later) = deliveries_tick s rites_event (report_text dead)
    by_armed false rs = refl

pub calm_call : (es : EventState) (c : Call) → Calm es.state es.trapped (event_step es c).after.state (event_step es c).after.trapped
unfolding event_step event_step_by
calm_call es c = by_choice (choice es.state)
  where
    by_choice : (o : Option ℕ) → Calm es.state es.trapped (event_step_if es c o).after.state (event_step_if es c o).after.trapped
    by_choice None = calm_still es.state es.trapped
    by_choice (Some t) =
        let out = after_trap_and_call es.state es.trapped t c es.pending in
        let calm = calm_called es.state es.trapped t c es.pending in
        record { clock = said_clock out.state out.effects (reports_after es.state out.state es.reports out.effects) ∙ calm.clock; free = calm.free }

-- ---- a take

pub take_free : (es : EventState) (e : ℕ) (text : List ℕ) → is_trapped es.trapped 0 ≡ false → is_trapped (take_event es e text).after.trapped 0 ≡ false
unfolding take_event
take_free es e text free = by_trapped (is_trapped es.trapped e)
  where
    by_trapped : (b : Bool) → is_trapped (cond b (after_take_trap es e) (after_pass_on es (deliver es.state e text))).after.trapped 0 ≡ false
    by_trapped true = free
    by_trapped false = free

and-second : (p q : Bool) → (p && q) ≡ true → q ≡ true
and-second true q h = h
and-second false q h = absurd (cc)

-- the clock may tick, where its line can be taken
pub takeable-small : (es : EventState) → is_trapped es.trapped 0 ≡ false → IsTrue (is_takeable es 0) → es.state.now < 4294967295
takeable-small es free may =
    let plain = subst (λ b. cond b (may_trap es) (nat_lt 0 rites_event && is_event_armed es.state 0) ≡ true) free may in
    ltb-true es.state.now 4294967295 (and-second (not es.state.ended) (may_tick es.state) plain)

pub take_clock : (es : EventState) (e : ℕ) (text : List ℕ) → is_trapped es.trapped 0 ≡ false → IsTrue (is_takeable es e)
    → (take_event es e text).after.state.now ≡ ticks_after e es.state.now
unfolding take_event
take_clock es e text free may = by_trapped (is_trapped es.trapped e) refl may
  where
    small : (e == 0) ≡ true → nat_lt es.state.now 4294967295 ≡ true
    small is =
        let same : e ≡ 0 = eqb-true e 0 is in
        let here : IsTrue (is_takeable es 0) = subst (λ k. IsTrue (is_takeable es k)) same may in
        let plain = subst (λ b. cond b (may_trap es) (nat_lt 0 rites_event && is_event_armed es.state 0) ≡ true) free here in
        and-second (not es.state.ended) (may_tick es.state) plain

    after_is : (b : Bool) → (e == 0) ≡ b → cond b (es.state.now + 1) es.state.now ≡ cond (b && nat_lt es.state.now 4294967295) (es.state.now + 1) es.state.now
    after_is true is = ap (λ c. cond c (es.state.now + 1) es.state.now) (sym (small is))
    after_is false is = refl

    not_clock : (b : Bool) → (e == 0) ≡ b → is_trapped es.trapped e ≡ true
        → es.state.now ≡ cond (b && nat_lt es.state.now 4294967295) (es.state.now + 1) es.state.now
    not_clock true is traps = let same : e ≡ 0 = eqb-true e 0 is in absurd (let bad : true ≡ false = sym traps ∙ ap (is_trapped es.trapped) same ∙ free in cc)
    not_clock false is traps = refl

    by_trapped : (b : Bool) → is_trapped es.trapped e ≡ b → IsTrue (is_takeable es e)
        → (cond b (after_take_trap es e) (after_pass_on es (deliver es.state e text))).after.state.now ≡ ticks_after e es.state.now
    by_trapped true is may = not_clock (e == 0) refl is
    by_trapped false is may = deliveries_tick es.state e text ∙ after_is (e == 0) refl

-- ---- over a session

module _ {B : Type 0} (setting : Setting B) where
  -- what each call of a pod keeps, each call step keeps
  pod_by : (Holds : EventState → Type 0) → ((es : EventState) (c : Call) → Holds es → Holds (event_step es c).after) → (live : Live B)
      → Holds live.pod → Holds (move setting.next setting.bodies live).live.pod
  unfolding move Sessions.call_move
  pod_by Holds keeps live h = by_choice (choice live.pod.state)
    where
      by_row : (t : ℕ) (o : Option (Row B)) → Holds (move_row setting.next setting.bodies live t o).live.pod
      by_row t None = h
      by_row t (Some row) = keeps live.pod (setting.next row.body (names_for_poll t live.names) row.answer).0 h

      by_choice : (o : Option ℕ) → Holds (move_by setting.next setting.bodies live o).live.pod
      by_choice None = h
      by_choice (Some t) = by_row t (row_of t live.rows)

  pub live-call : (p : Moment) → IsAt setting p
      → (session_of setting (after_move p None)).live ≡ (move setting.next setting.bodies (session_of setting p).live).live
  live-call p made = ap (λ (s : Session B). s.live) (play-call setting p.takes p.calls (LastBy-of setting p.takes p.calls made))

  pub live-take : (p : Moment) (t : ℕ × Line) → IsAt setting p
      → (session_of setting (after_move p (Some t))).live ≡ (take_move setting.bodies (took_at p t) (session_of setting p).live).live
  live-take p t made = ap (λ (s : Session B). s.live) (play-take setting (took_at p t) p.takes p.calls refl)

  pub call-clock : (p : Moment) → IsAt setting p → (session_of setting (after_move p None)).live.pod.state.now ≡ (session_of setting p).live.pod.state.now
  call-clock p made =
      ap (λ (l : Live B). l.pod.state.now) (live-call p made)
      ∙ pod_by (λ es. es.state.now ≡ (session_of setting p).live.pod.state.now) (λ es c h. (calm_call es c).clock ∙ h) (session_of setting p).live refl

  free_moves : (ms : List Move) (p : Moment) → IsAt setting p → DueAll setting p ms
      → is_trapped (session_of setting p).live.pod.trapped 0 ≡ false → is_trapped (session_of setting (after_moves p ms)).live.pod.trapped 0 ≡ false
  unfolding take_move
  free_moves [] p made due free = free
  free_moves (None ∷ ms) p made due free = free_moves ms (after_move p None) (IsAt-moved setting p None made due.0) due.1
      (ap (λ (l : Live B). is_trapped l.pod.trapped 0) (live-call p made)
      ∙ pod_by (λ es. is_trapped es.trapped 0 ≡ false) (λ es c h. (calm_call es c).free h) (session_of setting p).live free)
  free_moves (Some t ∷ ms) p made due free = free_moves ms (after_move p (Some t)) (IsAt-moved setting p (Some t) made due.0) due.1
      (ap (λ (l : Live B). is_trapped l.pod.trapped 0) (live-take p t made) ∙ take_free (session_of setting p).live.pod t.0 t.1.text free)

  -- event 0 isn't trapped
  pub clock-free : (p : Moment) → IsAt setting p → is_trapped (session_of setting p).live.pod.trapped 0 ≡ false
  clock-free p made =
      let way = reached setting p made in
      ap (λ q. is_trapped (session_of setting q).live.pod.trapped 0) (sym way.comes)
      ∙ free_moves way.moves first_moment (IsDefined-zero setting) way.due (ap (λ (s : Session B). is_trapped s.live.pod.trapped 0) (play-zero setting))

  pub take-clock : (p : Moment) (t : ℕ × Line) → IsAt setting p → Due setting p (Some t)
      → (session_of setting (after_move p (Some t))).live.pod.state.now ≡ ticks_after t.0 (session_of setting p).live.pod.state.now
  unfolding take_move
  take-clock p t made due =
      ap (λ (l : Live B). l.pod.state.now) (live-take p t made)
      ∙ take_clock (session_of setting p).live.pod t.0 t.1.text (clock-free p made) due
