-- A session of a client whose store isn't born: as long as it sends nothing, it stands without one; and then it meets it.
use Rattle.answer_laws.proofs.Events.{living_is_left, takes_leave_it}
use Rattle.answer_laws.proofs.Fadings.{event_fades, take_fades}
use Rattle.answer_laws.proofs.OwnSteps.{done_by, event_is, others_reply_nothing}
use Rattle.answer_laws.proofs.Phases.{HasRow, Phase, Phase.Ending, Phase.Lost, Phase.Over, Phase.Starting, Phase.Talking}
use Rattle.answer_laws.proofs.Phases.{TellsAt, phase_other, phase_own, phase_row, resting}
use Rattle.answer_laws.proofs.AnswerLists.{Texts}
use Rattle.answer_laws.proofs.PodSteps.{living_calls_are_events, takes_are_events}
use Rattle.answer_laws.proofs.Servings.{S_of, alive_then, chosen_lives, gone_fades, gone_grows, got_in, got_push}
use Rattle.answer_laws.proofs.Servings.{moved_lawful, rests_untimed, said_in, said_push, short_before}
use Rattle.answer_laws.proofs.TalkLaws.{Inv.Goes, Phase.Idle}
use Rattle.answer_laws.proofs.TalkSteps.{attends_seen, unsome}
use Rattle.answer_laws.proofs.ThreadRows.{polled_other, polled_own, settled_with, RowWith, row_with}
use Rattle.answer_laws.specs.Births.{is_send_of}
use Rattle.answer_laws.specs.Clients.{texts_delivered, names_only, replies_of_step, sends_nothing}
use Rattle.answer_laws.specs.Events.{machine_of}
use Rattle.answer_laws.specs.Lengths.{is_short}
use Rattle.answer_laws.specs.Served.{CanGoOn, LineServer, after_move, after_moves, is_move_due, steps_of, IsPolledWith, polled_with}
use Rattle.answer_laws.specs.Sights.{IsLeft, IsWoken, Sight, sight}
use Rattle.answer_laws.specs.Stands.{AgentIs.Unmade, Becomes, HeardAs, Leaves, block_of, mail_letters, texts_in}
use Rattle.answer_laws.specs.Talks.{Mail.Nothing, Stand.Hears}
use Rattle.line_server.specs.Sessions.{SessionBody, session_next, session_opening}
use Rattle.line_server.specs.Stores.{StoreBody, store_opening}
use Rattle.line_server.specs.declared.session.SessionPlace.TheVariants as at
use Rattle.lwp_types.specs.Agents.{deliver, is_event_armed}
use Rattle.lwp_types.specs.Choice.{choice}
use Rattle.lwp_types.specs.Lawful.{Lawful}
use Rattle.lwp_types.specs.Messages.{is_to}
use Rattle.lwp_types.specs.Names.{null_id, names_for_poll}
use Rattle.lwp_types.specs.Poll.{Polled}
use Rattle.lwp_types.specs.State.{Outcome, State, is_thread, passes}
use Rattle.lwp_types.specs.Step.{step, step_by, step_if}
use Rattle.lwp_types.specs.Unblock.{zero_answer}
use Rattle.lwp_types.specs.declared.call.Answer.{Answer}
use Rattle.lwp_types.specs.declared.call.Call.{Call}
use Rattle.lwp_types.specs.declared.call.Effect.{Effect}
use Rattle.lwp_types.specs.declared.call.LwpErr.{LwpErr}
use Rattle.pod_events.specs.Events.{EventState, is_takeable, is_trapped, rites_event, take_event}
use Rattle.pod_events.specs.Rites.{after_first_report, as_rites, report_text, reports_after, after_rites}
use Rattle.pod_events.specs.Step.{event_step}
use Rattle.pod_events.specs.Traps.{after_call as traps_made, after_call_as, after_machine_step, after_trap, after_trap_and_call as traps_called}
use Rattle.pod_events.specs.Traps.{agent_event_of, after_refusal, trap_of, trap_refusal}
use Rattle.pod_laws.proofs.Elements.{differ}
use Rattle.pod_runner.specs.Session.{Live, Made, Session, Setting, after_poll, after_settle, call_move, move, move_by, move_row, proc_of, row_of, take_move}
use Rattle.pod_runner.specs.declared.session.Row.{Row}
use Rattle.pod_runner.specs.declared.session.Took.{Took}
use Rattle.session_laws.proofs.Pods.{call_moved, take_moved}
use Rattle.std.proofs.Common.{Bool, List, None, Option, Some, [], ap, append-nil, arith, cond, count_by, eqb, false, inl, inr}
use Rattle.std.proofs.Common.{not, refl, subst, sym, true, ℕ, ◌&&◌, ◌++◌, ◌<◌, ◌∙◌, ◌∷◌, ◌≡◌, ◌≤◌, ◌||◌, ◌⊎◌, drop}
use Rattle.std.proofs.lemmas.Bool.{eq-eqb, eqb-true, ne_eqb}
use Rattle.std.specs.List.{list_all, list_any}
use Rattle.std.specs.Prelude.{map, option_map}
use Rattle.lwp_types.specs.declared.call.Answer.TheVariants as answer
use Rattle.lwp_types.specs.declared.call.Call.TheVariants as call
use Rattle.lwp_types.specs.declared.call.Effect.TheVariants as effect
use Rattle.lwp_types.specs.declared.call.LwpErr.TheVariants as error
use Rattle.lwp_types.specs.declared.rows.Block.TheVariants as block
use Rattle.lwp_types.specs.declared.rows.Mark.TheVariants as mark

-- ---- a step tells whether its call is a letter

-- a call is no letter, or one to somebody
pub data Sent (c : Call) : Type 0 where
  IsNone : sends_nothing c ≡ true → Sent c
  IsSend : (to room : ℕ) (text : List ℕ) → c ≡ call.Send to room text → Sent c

pub sent_of : (c : Call) → Sent c
sent_of (call.Send v room text) = IsSend v room text refl
sent_of _ = IsNone refl

module _ (s : ℕ) where
  any_before : (xs ys : List Effect) → list_any (is_send_of s) xs ≡ true → list_any (is_send_of s) (xs ++ ys) ≡ true
  any_before [] ys any = absurd (cc)
  any_before (x ∷ xs) ys any = by_test (is_send_of s x) any (any_before xs ys)
    where
      by_test : (b : Bool) → (b || list_any (is_send_of s) xs) ≡ true
          → (list_any (is_send_of s) xs ≡ true → list_any (is_send_of s) (xs ++ ys) ≡ true) → (b || list_any (is_send_of s) (xs ++ ys)) ≡ true
      by_test true any rest = refl
      by_test false any rest = rest any

  abbrev Heads : List Effect → Type 0
  Heads es = list_any (is_send_of s) es ≡ true

  module _ (es : EventState) (turn : choice es.state ≡ Some s) (c : Call) (sends : sends_nothing c ≡ false) where
    heads_called : (fs : List Effect) → Heads (effect.Called s c ∷ fs)
    heads_called fs = by_tests (eqb s s) (sends_nothing c) (eq-eqb s s refl) sends
      where
        by_tests : (b d : Bool) → b ≡ true → d ≡ false → ((b && not d) || list_any (is_send_of s) fs) ≡ true
        by_tests true false e f = refl
        by_tests true true e f = absurd (cc)
        by_tests false d e f = absurd (cc)

    heads_step : Heads (step es.state c).effects
    unfolding step step_by
    heads_step = subst (λ o. Heads (step_if es.state c o).effects) (sym turn) (heads_called (drop 1 (step_by es.state s c).effects))

    heads_made : Heads (traps_made es.state es.trapped s c).effects
    heads_made = by_trap (trap_of c)
      where
        by_refusal : (e : ℕ) (o : Option LwpErr) → Heads (after_trap es.state es.trapped s c e o).effects
        by_refusal e None = heads_called (effect.Answered s zero_answer ∷ [])
        by_refusal e (Some why) = heads_called (effect.Answered s (answer.Refused why) ∷ [])

        by_agent : (b : Bool) → Heads (cond b (after_refusal es.state es.trapped s c error.InUse) (after_machine_step es.trapped (step es.state c))).effects
        by_agent true = heads_called (effect.Answered s (answer.Refused error.InUse) ∷ [])
        by_agent false = heads_step

        by_trap : (o : Option ℕ) → Heads (after_call_as es.state es.trapped s c o).effects
        by_trap None = by_agent (passes (is_trapped es.trapped) (agent_event_of c))
        by_trap (Some e) = by_refusal e (trap_refusal es.state es.trapped e)

    heads_said : (after : State) (fs : List Effect) (reports : List ℕ) → Heads fs → Heads (after_rites after fs reports).effects
    heads_said after fs reports heads = by_armed (is_event_armed after rites_event) reports
      where
        by_armed : (b : Bool) (rs : List ℕ) → Heads (cond b (after_first_report after fs rs) (record { state = after; reports = rs; effects = fs })).effects
        by_armed true [] = heads
        by_armed false rs = heads
        by_armed true (dead ∷ later) = any_before fs (map (as_rites dead) (deliver after rites_event (report_text dead)).effects) heads

    -- where no trap is raised before it, the letter is among the effects
    letter_is_told : es.pending ≡ None → Heads (event_step es c).effects
    letter_is_told free =
        let out = traps_made es.state es.trapped s c in
        ap (λ (o : Outcome). list_any (is_send_of s) o.effects) (event_is es s c turn ∙ ap (λ p. done_by es (traps_called es.state es.trapped s c p)) free)
        ∙ heads_said out.state out.effects (reports_after es.state out.state es.reports out.effects) heads_made

-- ---- it sends nothing

module _ {B : Type 0} (setting : Setting B) (server : LineServer setting.next) (s : ℕ) where
  -- if it calls, the call is no letter
  abbrev pub IsQuiet : Live B → Type 0
  IsQuiet live = choice live.pod.state ≡ Some s → live.pod.pending ≡ None → (b : SessionBody) (z : Answer) → IsPolledWith s live.rows (server.serving b) z
      → sends_nothing (session_next b (names_for_poll s live.names) z).0 ≡ true

  -- so it is of the calls among these moves
  abbrev pub Quiet : List (Option Took) → Session B → Type 0
  Quiet [] session = Unit {0}
  Quiet (m ∷ ms) session = (m ≡ None → IsQuiet session.live) × Quiet ms (after_move setting session m)

  pub quiet_behind : (one two : List (Option Took)) (session : Session B) → Quiet (one ++ two) session → Quiet two (after_moves setting one session)
  quiet_behind [] two session quiet = quiet
  quiet_behind (m ∷ ms) two session quiet = quiet_behind ms two (after_move setting session m) quiet.1

  -- the effects of its call
  pub own_effects : (live : Live B) → choice live.pod.state ≡ Some s → (b : SessionBody) (z : Answer) → IsPolledWith s live.rows (server.serving b) z
      → (move setting.next setting.bodies live).effects ≡ (event_step live.pod (session_next b (names_for_poll s live.names) z).0).effects
  unfolding move call_move
  own_effects live turn b z row = ap (λ o. (move_by setting.next setting.bodies live o).effects) turn
      ∙ ap (λ o. (move_row setting.next setting.bodies live s o).effects) (found row).found
      ∙ ap (λ (p : B × Answer). (call_move setting.bodies live s (setting.next p.0 (names_for_poll s live.names) p.1)).effects) (found row).pair
      ∙ ap (λ (r : Polled B). (call_move setting.bodies live s r).effects) (server.serves b (names_for_poll s live.names) z)
    where
      found : IsPolledWith s live.rows (server.serving b) z → RowWith s (server.serving b) z (row_of s live.rows)
      found h = row_with s (server.serving b) z (row_of s live.rows) h

  pub is_quiet_by : (live : Live B) → list_any (is_send_of s) (move setting.next setting.bodies live).effects ≡ false → IsQuiet live
  is_quiet_by live none turn free b z row = by_test (sends_nothing c) refl
    where
      c : Call
      c = (session_next b (names_for_poll s live.names) z).0

      by_test : (d : Bool) → sends_nothing c ≡ d → d ≡ true
      by_test true e = refl
      by_test false e = differ (sym (letter_is_told s live.pod turn c e free) ∙ ap (list_any (is_send_of s)) (sym (own_effects live turn b z row)) ∙ none)

-- ---- without a store

-- a session at its beginning, with no store
pub alone_at : (s event place a : ℕ) (st : State) → Lawful st None → sight st s ≡ resting → st.births ≤ a
    → TellsAt s s a st (session_opening event place) zero_answer store_opening zero_answer [] []
alone_at s event place a st was seen low = record {
  talk = record {
    session = session_opening event place;
    client = Hears zero_answer;
    store = store_opening;
    keeper = Hears zero_answer;
    mail = Nothing;
    agent_lives = true;
    lines = [];
    told = [];
  };
  waiting = [];
  stands = record {
    client = seen;
    keeper = λ apart. differ (sym (eq-eqb s s refl) ∙ apart);
    posted = refl;
    placed = refl;
    reads = refl;
    untimed = rests_untimed st was s seen;
    untimed_keeper = λ apart. differ (sym (eq-eqb s s refl) ∙ apart);
    alone = λ same. record { mail = refl; keeper = refl };
    agent = Unmade low refl refl refl;
  };
  inv = Goes (Idle [] (record { replied = refl; kept = refl; clean = refl }) refl refl refl) refl;
  session = refl;
  store = refl;
  heard = refl;
  heard_keeper = λ apart. differ (sym (eq-eqb s s refl) ∙ apart);
  texts = refl;
  told = refl;
}

-- a call that sends nothing sends well
sends_none : (s : ℕ) (c : Call) (b : Bool) → b ≡ true → sends_nothing c ≡ true → cond b (sends_nothing c) (names_only s c) ≡ true
sends_none s c true e none = none
sends_none s c false e none = absurd (cc)

module _ {B : Type 0} (setting : Setting B) (server : LineServer setting.next) (s k : ℕ) (s_k : eqb s k ≡ false) where
  -- no store was polled
  abbrev pub Unpolled : StoreBody → Answer → Type 0
  Unpolled body heard = body ≡ store_opening

  abbrev pub Lone : Session B → Type 0
  Lone session = Phase s s session.live.pod.state (S_of setting server s k s_k session.live.rows) Unpolled
      (got_in setting server s k s_k session.steps) (said_in setting server s k s_k session.steps)

  lone_push : (steps : List Made) (made : Made) (live : Live B)
      → Phase s s live.pod.state (S_of setting server s k s_k live.rows) Unpolled
      (λ b. got_in setting server s k s_k steps b ++ texts_in b (option_map (λ (took : Took). took.line.text) made.take) made.effects)
      (λ b. said_in setting server s k s_k steps b ++ replies_of_step s b made.effects)
      → Lone (record { live = live; steps = steps ++ made ∷ [] })
  lone_push steps made live phase =
      subst (λ g. Phase s s live.pod.state (S_of setting server s k s_k live.rows) Unpolled g (said_in setting server s k s_k (steps ++ made ∷ []))) (λ i b.
      got_push setting server s k s_k steps made b i)
      (subst
      (λ g. Phase s s live.pod.state (S_of setting server s k s_k live.rows) Unpolled
      (λ b. got_in setting server s k s_k steps b ++ texts_in b (option_map (λ (took : Took). took.line.text) made.take) made.effects) g)
      (λ i b. said_push setting server s k s_k steps made b i) phase)

  lone_idle : (live : Live B) (steps : List Made) → Lone (record { live = live; steps = steps })
      → Lone (record { live = live; steps = steps ++ record { take = None; effects = [] } ∷ [] })
  lone_idle live steps phase = lone_push steps (record { take = None; effects = [] }) live
      (subst (λ g. Phase s s live.pod.state (S_of setting server s k s_k live.rows) Unpolled g (λ b. said_in setting server s k s_k steps b ++ [])) (λ i b.
      sym (append-nil (got_in setting server s k s_k steps b)) i)
      (subst (λ g. Phase s s live.pod.state (S_of setting server s k s_k live.rows) Unpolled (got_in setting server s k s_k steps) g)
      (λ i b. sym (append-nil (said_in setting server s k s_k steps b)) i) phase))

  module _ (live : Live B) (steps : List Made) (was : Lawful live.pod.state None) (lone : Lone (record { live = live; steps = steps })) where
    never_woken : {Fits : Option ℕ → Answer → Type 0} {out : Outcome} → sight live.pod.state s ≡ resting
        → IsLeft s live.pod.state out ⊎ IsWoken s Fits live.pod.state out → IsLeft s live.pod.state out
    never_woken {Fits} {out} seen (inl left) = left
    never_woken {Fits} {out} seen (inr woken) =
        absurd (let bad : Some block.Not ≡ Some (block.Receiving woken.from) = ap (λ (v : Sight). v.waits) (sym seen) ∙ woken.waited in cc)

    -- ---- a call of another

    module _ (t : ℕ) (turn : choice live.pod.state ≡ Some t) (t_s : eqb t s ≡ false) (reply : Polled B) where
      abbrev out : Outcome
      out = machine_of (event_step live.pod reply.0)

      abbrev rows2 : List (Row B)
      rows2 = after_settle setting.bodies (proc_of reply.0) (event_step live.pod reply.0).effects (after_poll t reply.1 reply.0 live.rows)

      other_call : Phase s s out.after (S_of setting server s k s_k rows2) Unpolled
          (λ b. got_in setting server s k s_k steps b ++ texts_in b None out.effects)
          (λ b. said_in setting server s k s_k steps b ++ replies_of_step s b out.effects)
      other_call = phase_other s s live.pod.state was (S_of setting server s k s_k live.rows) (S_of setting server s k s_k rows2) Unpolled
          Unpolled (got_in setting server s k s_k steps) (said_in setting server s k s_k steps) (λ b. texts_in b None out.effects) out
          (λ n. event_fades n live.pod reply.0)
          (λ b. (others_reply_nothing s b live.pod).0 t turn t_s reply.0) (λ b z. b)
          (λ lives b z row. settled_with s setting.bodies (proc_of reply.0) out.effects (after_poll t reply.1 reply.0 live.rows)
          (server.serving b) z (polled_other s t t_s reply.1 reply.0 live.rows ∙ row)
          (alive_then live.pod.state out.after out.effects (call_moved live.pod was reply.0) s lives))
          (λ b z is. is) goes
          (λ seen lives. never_woken seen
          (living_is_left live.pod was t s turn t_s (attends_seen live.pod.state s block.Not (ap (λ (v : Sight). v.waits) seen) refl)
          (rests_untimed live.pod.state was s seen) (λ v. ap (λ (x : Sight). count_by (is_to v) x.letters) seen) reply.0 lives))
          lone
        where
          goes : (a : ℕ) (sb : SessionBody) (sz : Answer) (kb : StoreBody) (kz : Answer) → Unpolled kb kz
              → (x : TellsAt s s a live.pod.state sb sz kb kz (got_in setting server s k s_k steps a) (said_in setting server s k s_k steps a))
              → eqb null_id a ≡ false → (x.talk.agent_lives ≡ true) ⊎ (sb.place ≡ at.Agent) → (sb.place ≡ at.Start → out.after.births ≤ a)
              → is_thread out.after s ≡ true
              → Becomes s s a x.talk x.talk.session kb x.waiting (texts_in a None out.effects) [] out ⊎ Leaves s x.talk out
          goes a sb sz kb kz row x away ok low lives =
              subst (λ body. Becomes s s a x.talk x.talk.session body x.waiting (texts_in a None out.effects) [] out ⊎ Leaves s x.talk out) x.store
              (living_calls_are_events s s a live.pod was x.talk x.waiting x.stands t turn t_s t_s reply.0 lives lives
              (λ start. low (sym (ap (λ (b : SessionBody). b.place) x.session) ∙ start)))

    -- ---- its own call

    module _ (turn : choice live.pod.state ≡ Some s) (row : Row B) (found : row_of s live.rows ≡ Some row) where
      its : HasRow (S_of setting server s k s_k live.rows)
      its = phase_row s s live.pod.state (S_of setting server s k s_k live.rows) Unpolled (got_in setting server s k s_k steps)
          (said_in setting server s k s_k steps) lone (chosen_lives live.pod.state was s turn)

      abbrev next_s : Polled SessionBody
      next_s = session_next its.body (names_for_poll s live.names) its.answer

      reply_s : setting.next row.body (names_for_poll s live.names) row.answer ≡ (next_s.0, server.serving next_s.1, next_s.2)
      reply_s = let same = unsome (ap (option_map polled_with) (sym found) ∙ its.row) in
          (λ i. setting.next (same i).0 (names_for_poll s live.names) (same i).1) ∙ server.serves its.body (names_for_poll s live.names) its.answer

      abbrev out_s : Outcome
      out_s = machine_of (event_step live.pod next_s.0)

      abbrev rows_s : List (Row B)
      rows_s = after_settle setting.bodies (proc_of next_s.0) (event_step live.pod next_s.0).effects (after_poll s (server.serving next_s.1) next_s.0 live.rows)

      same_row : (b : SessionBody) (z : Answer) → S_of setting server s k s_k live.rows b z → (b ≡ its.body) × (z ≡ its.answer)
      same_row b z is = let same = unsome (sym is ∙ its.row) in
          (server.one_session b its.body (ap (λ (p : B × Answer). p.0) same), ap (λ (p : B × Answer). p.1) same)

      own_call : IsQuiet setting server s live → ((b : ℕ) → list_all is_short (got_in setting server s k s_k steps b) ≡ true)
          → eqb null_id live.pod.state.births ≡ false
          → Phase s s out_s.after (S_of setting server s k s_k rows_s) Unpolled
          (λ b. got_in setting server s k s_k steps b ++ texts_in b None out_s.effects)
          (λ b. said_in setting server s k s_k steps b ++ replies_of_step s b out_s.effects)
      own_call quiet short low =
          phase_own s s live.pod was turn (S_of setting server s k s_k live.rows) (S_of setting server s k s_k rows_s) Unpolled Unpolled
          (got_in setting server s k s_k steps) (said_in setting server s k s_k steps) its.body its.answer (names_for_poll s live.names) same_row
          (λ lives. settled_with s setting.bodies (proc_of next_s.0) out_s.effects
          (after_poll s (server.serving next_s.1) next_s.0 live.rows) (server.serving next_s.1) its.answer
          (polled_own s (server.serving next_s.1) next_s.0 live.rows (server.serving its.body) its.answer its.row)
          (alive_then live.pod.state out_s.after out_s.effects (call_moved live.pod was next_s.0) s lives))
          (λ b z is. is) short (λ free. sends_none s next_s.0 (eqb s s) (eq-eqb s s refl) (quiet turn free its.body its.answer its.row)) low lone

    -- ---- a call of any thread

    module _ (quiet : IsQuiet setting server s live) (short : (b : ℕ) → list_all is_short (got_in setting server s k s_k steps b) ≡ true)
        (low : eqb null_id live.pod.state.births ≡ false) where
      abbrev Behind : Live B → List Effect → Type 0
      Behind after fs = Lone (record { live = after; steps = steps ++ record { take = None; effects = fs } ∷ [] })

      abbrev Calls : ℕ → Polled B → Type 0
      Calls t r = Behind (call_move setting.bodies live t r).live (call_move setting.bodies live t r).effects

      own_behind : (turn : choice live.pod.state ≡ Some s) (row : Row B) (found : row_of s live.rows ≡ Some row)
          → Calls s ((next_s turn row found).0, server.serving (next_s turn row found).1, (next_s turn row found).2)
      unfolding call_move
      own_behind turn row found = lone_push steps (record { take = None; effects = (out_s turn row found).effects })
          (call_move setting.bodies live s ((next_s turn row found).0, server.serving (next_s turn row found).1, (next_s turn row found).2)).live
          (own_call turn row found quiet short low)

      other_behind : (t : ℕ) (turn : choice live.pod.state ≡ Some t) → eqb t s ≡ false → (reply : Polled B) → Calls t reply
      unfolding call_move
      other_behind t turn t_s reply = lone_push steps (record { take = None; effects = (out t turn t_s reply).effects })
          (call_move setting.bodies live t reply).live (other_call t turn t_s reply)

      as_own : (r q : Polled B) → r ≡ q → Calls s q → Calls s r
      as_own r q e = subst (Calls s) (sym e)

      called_behind : (t : ℕ) → choice live.pod.state ≡ Some t → (row : Row B) → row_of t live.rows ≡ Some row → (d : Bool) → eqb t s ≡ d
          → Calls t (setting.next row.body (names_for_poll t live.names) row.answer)
      called_behind t turn row found false is = other_behind t turn is (setting.next row.body (names_for_poll t live.names) row.answer)
      called_behind t turn row found true is =
          let same = eqb-true t s is in
          let turn_s = turn ∙ ap Some same in
          let found_s = ap (λ n. row_of n live.rows) (sym same) ∙ found in
          subst (λ n. Calls n (setting.next row.body (names_for_poll n live.names) row.answer)) (sym same)
          (as_own (setting.next row.body (names_for_poll s live.names) row.answer)
          ((next_s turn_s row found_s).0, server.serving (next_s turn_s row found_s).1, (next_s turn_s row found_s).2)
          (reply_s turn_s row found_s) (own_behind turn_s row found_s))

      row_behind : (t : ℕ) → choice live.pod.state ≡ Some t → (o : Option (Row B)) → row_of t live.rows ≡ o
          → Behind (move_row setting.next setting.bodies live t o).live (move_row setting.next setting.bodies live t o).effects
      row_behind t turn None found = lone_idle live steps lone
      row_behind t turn (Some row) found = called_behind t turn row found (eqb t s) refl

      call_behind : Behind (move setting.next setting.bodies live).live (move setting.next setting.bodies live).effects
      unfolding move
      call_behind = by_choice (choice live.pod.state) refl
        where
          by_choice : (o : Option ℕ) → choice live.pod.state ≡ o
              → Behind (move_by setting.next setting.bodies live o).live (move_by setting.next setting.bodies live o).effects
          by_choice None e = lone_idle live steps lone
          by_choice (Some t) e = row_behind t e (row_of t live.rows) refl

    -- ---- a take

    module _ (took : Took) (may : is_takeable live.pod took.event ≡ true) where
      abbrev out_t : Outcome
      out_t = machine_of (take_event live.pod took.event took.line.text)

      abbrev rows_t : List (Row B)
      rows_t = after_settle setting.bodies None (take_event live.pod took.event took.line.text).effects live.rows

      take_phase : Phase s s out_t.after (S_of setting server s k s_k rows_t) Unpolled
          (λ b. got_in setting server s k s_k steps b ++ texts_in b (Some took.line.text) out_t.effects)
          (λ b. said_in setting server s k s_k steps b ++ replies_of_step s b out_t.effects)
      take_phase = phase_other s s live.pod.state was (S_of setting server s k s_k live.rows) (S_of setting server s k s_k rows_t) Unpolled
          Unpolled (got_in setting server s k s_k steps) (said_in setting server s k s_k steps)
          (λ b. texts_in b (Some took.line.text) out_t.effects) out_t (λ n. take_fades n live.pod took.event took.line.text)
          (λ b. (others_reply_nothing s b live.pod).1 took.event took.line.text) (λ b z. b)
          (λ lives b z row. settled_with s setting.bodies None out_t.effects live.rows (server.serving b) z row
          (alive_then live.pod.state out_t.after out_t.effects (take_moved live.pod was took.event took.line.text may) s lives))
          (λ b z is. is) goes
          (λ seen lives. never_woken seen (takes_leave_it live.pod was s (attends_seen live.pod.state s block.Not
          (ap (λ (v : Sight). v.waits) seen) refl) (rests_untimed live.pod.state was s seen) took.event took.line.text))
          lone
        where
          goes : (a : ℕ) (sb : SessionBody) (sz : Answer) (kb : StoreBody) (kz : Answer) → Unpolled kb kz
              → (x : TellsAt s s a live.pod.state sb sz kb kz (got_in setting server s k s_k steps a) (said_in setting server s k s_k steps a))
              → eqb null_id a ≡ false → (x.talk.agent_lives ≡ true) ⊎ (sb.place ≡ at.Agent) → (sb.place ≡ at.Start → out_t.after.births ≤ a)
              → is_thread out_t.after s ≡ true
              → Becomes s s a x.talk x.talk.session kb x.waiting (texts_in a (Some took.line.text) out_t.effects) [] out_t ⊎ Leaves s x.talk out_t
          goes a sb sz kb kz row x away ok low lives =
              inl (subst (λ body. Becomes s s a x.talk x.talk.session body x.waiting (texts_in a (Some took.line.text) out_t.effects) [] out_t) x.store
              (takes_are_events s s a live.pod was x.talk x.waiting x.stands away took.event took.line.text may))

      take_behind : Lone (record {
        live = (take_move setting.bodies took live).live;
        steps = steps ++ record { take = Some took; effects = (take_move setting.bodies took live).effects } ∷ [];
      })
      unfolding take_move
      take_behind = lone_push steps (record { take = Some took; effects = out_t.effects }) (take_move setting.bodies took live).live take_phase

  -- ---- moves

  lone_moved : (session : Session B) (m : Option Took) → Lawful session.live.pod.state None → is_move_due session m ≡ true
      → (m ≡ None → IsQuiet setting server s session.live) → Lone session
      → ((b : ℕ) → list_all is_short (got_in setting server s k s_k session.steps b) ≡ true) → eqb null_id session.live.pod.state.births ≡ false
      → Lone (after_move setting session m)
  lone_moved session None was due quiet lone short low = call_behind session.live session.steps was lone (quiet refl) short low
  lone_moved session (Some took) was due quiet lone short low = take_behind session.live session.steps was lone took due

  pub lone_moves : (moves : List (Option Took)) (session : Session B) → Lawful session.live.pod.state None → CanGoOn setting moves session
      → Quiet setting server s moves session → Lone session
      → ((a : ℕ) → list_all is_short (texts_delivered a (steps_of (after_moves setting moves session).steps)) ≡ true)
      → (after_moves setting moves session).live.pod.state.births < null_id → Lone (after_moves setting moves session)
  lone_moves [] session was can quiet lone short few = lone
  lone_moves (m ∷ ms) session was can quiet lone short few =
      let next = after_move setting session m in
      let low = ne_eqb null_id session.live.pod.state.births (λ e. omega (arith, few, e, (gone_fades setting k (m ∷ ms) session).births)) in
      lone_moves ms next (moved_lawful setting session m can.0 was) can.1 quiet.1
      (lone_moved session m was can.0 quiet.0 lone
      (λ a.
      short_before setting server s k s_k a session.steps (after_moves setting (m ∷ ms) session).steps (gone_grows setting (m ∷ ms) session) (short a))
      low)
      short few

-- ---- it meets its store

-- a store that begins, for a session that stood without one
abbrev pub met_at : (s k a : ℕ) (st : State) → Lawful st None → sight st k ≡ resting
    → (sb : SessionBody) (sz : Answer) (kb : StoreBody) (kz : Answer) (got said : Texts) → kb ≡ store_opening
    → TellsAt s s a st sb sz kb kz got said → TellsAt s k a st sb sz store_opening zero_answer got said
met_at s k a st was seen sb sz kb kz got said is t = record {
  talk = t.talk;
  waiting = t.waiting;
  stands = record {
    client = t.stands.client
        ∙ ap (λ letters. record { waits = Some (block_of (Some a) t.talk.client); marks = mark.Frame ∷ []; letters = letters })
        (ap (mail_letters s s) (t.stands.alone (eq-eqb s s refl)).mail ∙ sym (ap (mail_letters s k) (t.stands.alone (eq-eqb s s refl)).mail));
    keeper = λ apart. seen
        ∙ sym (ap (λ c. record { waits = Some (block_of None c); marks = mark.Frame ∷ []; letters = [] }) (t.stands.alone (eq-eqb s s refl)).keeper);
    posted = t.stands.posted;
    placed = t.stands.placed;
    reads = t.stands.reads;
    untimed = t.stands.untimed;
    untimed_keeper = λ apart. rests_untimed st was k seen;
    alone = λ same. t.stands.alone (eq-eqb s s refl);
    agent = t.stands.agent;
  };
  inv = t.inv;
  session = t.session;
  store = t.store ∙ is;
  heard = t.heard;
  heard_keeper = λ apart. subst (λ c. HeardAs c zero_answer) (sym (t.stands.alone (eq-eqb s s refl)).keeper) refl;
  texts = t.texts;
  told = t.told;
}

pub phase_met : (s k : ℕ) (st : State) → Lawful st None → sight st k ≡ resting
    → (S : SessionBody → Answer → Type 0) (K K2 : StoreBody → Answer → Type 0) → ((b : StoreBody) (z : Answer) → K b z → b ≡ store_opening)
    → K2 store_opening zero_answer → (got said : ℕ → Texts) → Phase s s st S K got said → Phase s k st S K2 got said
phase_met s k st was seen S K K2 unpolled opens got said (Starting lives sb sz kb kz row row_k tells place nothing) =
    Starting lives sb sz store_opening zero_answer row opens
    (λ a low away. met_at s k a st was seen sb sz kb kz (got a) (said a) (unpolled kb kz row_k) (tells a low away)) place nothing
phase_met s k st was seen S K K2 unpolled opens got said (Talking a sb sz kb kz row row_k t away started lives others) = Talking a sb sz
    store_opening zero_answer row opens (met_at s k a st was seen sb sz kb kz (got a) (said a) (unpolled kb kz row_k) t) away started lives others
phase_met s k st was seen S K K2 unpolled opens got said (Ending sb sz row returns rests firsts) = Ending sb sz row returns rests firsts
phase_met s k st was seen S K K2 unpolled opens got said (Lost lives a sb sz row its late gone firsts) = Lost lives a sb sz row its late gone firsts
phase_met s k st was seen S K K2 unpolled opens got said (Over below off firsts) = Over below off firsts
