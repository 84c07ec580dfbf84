-- A session of a pod with a store and a client's session among its threads, from where the two begin.
use Rattle.answer_laws.proofs.AnswerLists.{Texts}
use Rattle.answer_laws.proofs.Dying.{gone_thread}
use Rattle.answer_laws.proofs.Events.{living_is_left, takes_leave_it}
use Rattle.answer_laws.proofs.Fadings.{event_fades, take_fades}
use Rattle.answer_laws.proofs.OwnSteps.{done_by, event_is, others_reply_nothing, pods_stores_calls_are_events}
use Rattle.answer_laws.proofs.Phases.{HasRow, IsHearing, Phase, TellsAt, lines_short, born_below, phase_other, phase_own, phase_row, reader_hears, resting}
use Rattle.answer_laws.proofs.PodSteps.{living_calls_are_events, takes_are_events}
use Rattle.answer_laws.proofs.TalkShort.{store_short}
use Rattle.answer_laws.proofs.TalkSteps.{attends_seen, unsome}
use Rattle.answer_laws.proofs.StoreSteps.{sends_at}
use Rattle.answer_laws.proofs.ThreadRows.{polled_other, polled_own, settled_with}
use Rattle.answer_laws.specs.Clients.{Step, all_sends_to, texts_delivered, names_only, replies_of_step, replies_accepted, sends_nothing, sends_only, text_to}
use Rattle.answer_laws.specs.Events.{machine_of}
use Rattle.answer_laws.specs.Lengths.{is_short}
use Rattle.answer_laws.specs.Served.{CanGoOn, LineServer, after_move, after_moves, is_move_due, step_of, steps_of, IsPolledWith, polled_with}
use Rattle.answer_laws.specs.Sights.{IsLeft, IsWoken, Sight, answers_to, sight}
use Rattle.answer_laws.specs.Stands.{Becomes, HeardAs, Leaves, Stands, is_posted, is_short_to, last_heard, texts_in}
use Rattle.answer_laws.specs.Talks.{Mail.Received, Talk}
use Rattle.line_server.specs.Sessions.{SessionBody, session_next}
use Rattle.line_server.specs.Stores.{StoreBody, store_next}
use Rattle.line_server.specs.declared.session.SessionPlace.TheVariants as at
use Rattle.lwp_types.specs.Choice.{choice}
use Rattle.lwp_types.specs.CountLaws.{count_found_and, one}
use Rattle.lwp_types.specs.Counts.{is_timed, timers_of}
use Rattle.lwp_types.specs.Agents.{deliver, is_event_armed}
use Rattle.lwp_types.specs.Lawful.{Lawful}
use Rattle.lwp_types.specs.Messages.{is_to}
use Rattle.lwp_types.specs.Unblock.{zero_answer}
use Rattle.lwp_types.specs.Names.{Names, null_id, names_for_poll}
use Rattle.lwp_types.specs.Poll.{Polled}
use Rattle.lwp_types.specs.State.{Outcome, State, ThreadRow, is_number, is_thread, passes, thread_of}
use Rattle.lwp_types.specs.Step.{step, step_by, step_if}
use Rattle.lwp_types.specs.declared.call.Answer.{Answer}
use Rattle.lwp_types.specs.declared.call.Call.{Call}
use Rattle.lwp_types.specs.declared.call.Effect.{Effect}
use Rattle.lwp_types.specs.declared.call.LwpErr.{LwpErr}
use Rattle.pod_events.specs.Events.{EventState, is_takeable, is_trapped, rites_event, take_event}
use Rattle.pod_events.specs.Rites.{after_first_report, as_rites, report_text, reports_after, after_rites}
use Rattle.pod_events.specs.Step.{event_step}
use Rattle.pod_events.specs.Traps.{after_call, after_call_as, after_machine_step, after_trap, after_trap_and_call as traps_called}
use Rattle.pod_events.specs.Traps.{agent_event_of, after_refusal, trap_of, trap_refusal}
use Rattle.pod_laws.proofs.Chosen.{chosen}
use Rattle.pod_laws.proofs.Rowed.{once_threads}
use Rattle.pod_laws.proofs.Elements.{differ}
use Rattle.pod_laws.proofs.Fading.{Fades, fades_still, fades_then}
use Rattle.pod_laws.specs.Forgotten.{is_died}
use Rattle.pod_runner.specs.Session.{Live, Made, Session, Setting, call_move, move, move_by, move_row, proc_of, after_poll, row_of, after_settle, take_move}
use Rattle.pod_runner.specs.declared.session.Row.{Row}
use Rattle.pod_runner.specs.declared.session.Took.{Took}
use Rattle.session_laws.proofs.Pods.{Moved, call_moved, take_moved}
use Rattle.std.proofs.Common.{Bool, List, None, Option, Some, [], ap, append-nil, append_assoc, arith, cond, count_by, eqb, false, inl}
use Rattle.std.proofs.Common.{inr, not, refl, subst, suc, sym, true, zero, ℕ, ◌&&◌, ◌++◌, ◌<◌, ◌||◌, ◌∙◌, ◌∷◌, ◌≡◌, ◌≤◌, ◌⊎◌, drop}
use Rattle.std.proofs.lemmas.Bool.{and_parts, eq-eqb, eqb-true, ne_eqb}
use Rattle.std.proofs.lemmas.Grind.{flat_map-append}
use Rattle.std.proofs.lemmas.List.{map-append}
use Rattle.std.proofs.lemmas.List.Folds.{list_all-append}
use Rattle.std.specs.List.{flat_map, list_all}
use Rattle.std.specs.Prelude.{is_some, map, option_map}
use Rattle.lwp_types.specs.declared.call.Answer.TheVariants as answer
use Rattle.lwp_types.specs.declared.call.Effect.TheVariants as effect
use Rattle.lwp_types.specs.declared.call.LwpErr.TheVariants as error
use Rattle.lwp_types.specs.declared.rows.Block.TheVariants as block

-- ---- one step of a pod

-- a thread that is there after it hasn't died in it
pub alive_then : (s after : State) (es : List Effect) → Moved s after es → (u : ℕ) → is_thread after u ≡ true → count_by (is_died u) es ≡ 0
alive_then s after es moved u lives = by_count (count_by (is_died u) es) refl
  where
    by_count : (n : ℕ) → count_by (is_died u) es ≡ n → n ≡ 0
    by_count zero e = refl
    by_count (suc n) e = differ (sym lives ∙ gone_thread after u (moved.does.gone u (omega (arith, e))))

-- who rests has no timer
pub rests_untimed : (st : State) → Lawful st None → (u : ℕ) → sight st u ≡ resting → timers_of st.timers u ≡ 0
rests_untimed st was u seen = by_row (thread_of st u) refl (ap (λ (v : Sight). v.waits) seen)
  where
    by_row : (o : Option ThreadRow) → thread_of st u ≡ o → option_map (λ (row : ThreadRow). row.block) o ≡ Some block.Not → timers_of st.timers u ≡ 0
    by_row None e w = absurd (cc)
    by_row (Some row) e w = omega (
      arith,
      was.nine.blocks.4.0 u,
      count_found_and (is_number u) (λ row. is_timed row.block) st.threads row e (once_threads st None was.nine u),
      ap (λ b. one (is_timed b)) (unsome w),
    )

module _ (s k : ℕ) (es : EventState) (turn : choice es.state ≡ Some s) (c : Call) where
  abbrev Heads : List Effect → Type 0
  Heads fs = list_all (sends_only s k) fs ≡ true → names_only k c ≡ true

  head_called : (fs : List Effect) → Heads (effect.Called s c ∷ fs)
  head_called fs all = by_self (eqb s s) (eq-eqb s s refl) (and_parts (not (eqb s s) || names_only k c) (list_all (sends_only s k) fs) all).0
    where
      by_self : (b : Bool) → b ≡ true → (not b || names_only k c) ≡ true → names_only k c ≡ true
      by_self true e h = h
      by_self false e h = absurd (cc)

  head_step : Heads (step es.state c).effects
  unfolding step step_by
  head_step = subst (λ o. Heads (step_if es.state c o).effects) (sym turn) (head_called (drop 1 (step_by es.state s c).effects))

  head_made : (trapped : List Bool) → Heads (after_call es.state trapped s c).effects
  head_made trapped = by_trap (trap_of c)
    where
      by_refusal : (e : ℕ) (o : Option LwpErr) → Heads (after_trap es.state trapped s c e o).effects
      by_refusal e None = head_called (effect.Answered s zero_answer ∷ [])
      by_refusal e (Some why) = head_called (effect.Answered s (answer.Refused why) ∷ [])

      by_agent : (b : Bool) → Heads (cond b (after_refusal es.state trapped s c error.InUse) (after_machine_step trapped (step es.state c))).effects
      by_agent true = head_called (effect.Answered s (answer.Refused error.InUse) ∷ [])
      by_agent false = head_step

      by_trap : (o : Option ℕ) → Heads (after_call_as es.state trapped s c o).effects
      by_trap None = by_agent (passes (is_trapped trapped) (agent_event_of c))
      by_trap (Some e) = by_refusal e (trap_refusal es.state trapped e)

  head_said : (after : State) (fs : List Effect) (reports : List ℕ) → Heads fs → Heads (after_rites after fs reports).effects
  head_said after fs reports heads = by_armed (is_event_armed after rites_event) reports
    where
      by_armed : (b : Bool) (rs : List ℕ) → Heads (cond b (after_first_report after fs rs) (record { state = after; reports = rs; effects = fs })).effects
      by_armed true [] = heads
      by_armed false rs = heads
      by_armed true (dead ∷ later) = λ all. heads
          (and_parts (list_all (sends_only s k) fs) (list_all (sends_only s k) (map (as_rites dead) (deliver after rites_event (report_text dead)).effects))
          (sym (list_all-append (sends_only s k) fs (map (as_rites dead) (deliver after rites_event (report_text dead)).effects)) ∙ all)).0

  -- where no trap is raised before it, the call of s is told of
  pub sends_named : es.pending ≡ None → list_all (sends_only s k) (event_step es c).effects ≡ true → names_only k c ≡ true
  sends_named free all =
      let out = after_call es.state es.trapped s c in
      let whole = event_is es s c turn ∙ ap (λ p. done_by es (traps_called es.state es.trapped s c p)) free in
      head_said out.state out.effects (reports_after es.state out.state es.reports out.effects) (head_made es.trapped)
      (ap (λ (o : Outcome). list_all (sends_only s k) o.effects) (sym whole) ∙ all)

-- where there is a store, it may send to that
sends_so : (s k : ℕ) (c : Call) (b : Bool) → b ≡ false → names_only k c ≡ true → cond b (sends_nothing c) (names_only k c) ≡ true
sends_so s k c true e only = absurd (cc)
sends_so s k c false e only = only

pub chosen_lives : (st : State) → Lawful st None → (t : ℕ) → choice st ≡ Some t → is_thread st t ≡ true
chosen_lives st was t turn = let run = chosen st was.nine t turn in ap is_some run.known

-- the last step sends to nobody but k
pub sends_last : (s k : ℕ) (steps : List Made) (m : Made) → all_sends_to s k (steps_of (steps ++ m ∷ [])) ≡ true → list_all (sends_only s k) m.effects ≡ true
sends_last s k steps m all =
    (and_parts (list_all (sends_only s k) m.effects) true (and_parts (all_sends_to s k (steps_of steps)) (list_all (sends_only s k) m.effects && true)
    (sym (list_all-append (λ (step : Step). list_all (sends_only s k) step.effects) (steps_of steps) (step_of m ∷ []))
    ∙ ap (all_sends_to s k) (sym (map-append step_of steps (m ∷ []))) ∙ all)).1).0

-- what one step more delivers
pub got_more : (steps : List Made) (m : Made) (a : ℕ)
    → texts_delivered a (steps_of steps) ++ texts_in a (option_map (λ (took : Took). took.line.text) m.take) m.effects
    ≡ texts_delivered a (steps_of (steps ++ m ∷ []))
got_more steps m a = sym (ap (texts_delivered a) (map-append step_of steps (m ∷ []))
    ∙ flat_map-append (λ (step : Step). flat_map (text_to a step.text) step.effects) (steps_of steps) (step_of m ∷ [])
    ∙ ap (λ xs. texts_delivered a (steps_of steps) ++ xs) (append-nil (texts_in a (option_map (λ (took : Took). took.line.text) m.take) m.effects)))

-- ---- a session of a pod

module _ {B : Type 0} (setting : Setting B) (server : LineServer setting.next) (s k : ℕ) (s_k : eqb s k ≡ false) where
  abbrev pub S_of : List (Row B) → SessionBody → Answer → Type 0
  S_of rows b z = IsPolledWith s rows (server.serving b) z

  abbrev pub K_of : List (Row B) → StoreBody → Answer → Type 0
  K_of rows b z = IsPolledWith k rows (server.storing b) z

  abbrev pub got_in : List Made → ℕ → Texts
  got_in steps a = texts_delivered a (steps_of steps)

  abbrev pub said_in : List Made → ℕ → Texts
  said_in steps a = replies_accepted s a (steps_of steps)

  abbrev pub Stood : Session B → Type 0
  Stood session = Phase s k session.live.pod.state (S_of session.live.rows) (K_of session.live.rows) (got_in session.steps) (said_in session.steps)

  pub got_push : (steps : List Made) (made : Made) (a : ℕ)
      → got_in steps a ++ texts_in a (option_map (λ (took : Took). took.line.text) made.take) made.effects ≡ got_in (steps ++ made ∷ []) a
  got_push steps made a = got_more steps made a

  pub said_push : (steps : List Made) (made : Made) (a : ℕ) → said_in steps a ++ replies_of_step s a made.effects ≡ said_in (steps ++ made ∷ []) a
  said_push steps made a = sym (ap (replies_accepted s a) (map-append step_of steps (made ∷ []))
      ∙ flat_map-append (λ (step : Step). replies_of_step s a step.effects) (steps_of steps) (step_of made ∷ [])
      ∙ ap (λ xs. said_in steps a ++ xs) (append-nil (replies_of_step s a made.effects)))

  -- a phase after one more step
  stood_push : (steps : List Made) (made : Made) (live : Live B)
      → Phase s k live.pod.state (S_of live.rows) (K_of live.rows)
      (λ b. got_in steps b ++ texts_in b (option_map (λ (took : Took). took.line.text) made.take) made.effects)
      (λ b. said_in steps b ++ replies_of_step s b made.effects)
      → Stood (record { live = live; steps = steps ++ made ∷ [] })
  stood_push steps made live phase =
      subst (λ g. Phase s k live.pod.state (S_of live.rows) (K_of live.rows) g (said_in (steps ++ made ∷ []))) (λ i b. got_push steps made b i)
      (subst
      (λ g. Phase s k live.pod.state (S_of live.rows) (K_of live.rows)
      (λ b. got_in steps b ++ texts_in b (option_map (λ (took : Took). took.line.text) made.take) made.effects) g)
      (λ i b. said_push steps made b i) phase)

  -- nothing happens
  stood_idle : (live : Live B) (steps : List Made) → Stood (record { live = live; steps = steps })
      → Stood (record { live = live; steps = steps ++ record { take = None; effects = [] } ∷ [] })
  stood_idle live steps phase = stood_push steps (record { take = None; effects = [] }) live
      (subst (λ g. Phase s k live.pod.state (S_of live.rows) (K_of live.rows) g (λ b. said_in steps b ++ [])) (λ i b. sym (append-nil (got_in steps b)) i)
      (subst (λ g. Phase s k live.pod.state (S_of live.rows) (K_of live.rows) (got_in steps) g) (λ i b. sym (append-nil (said_in steps b)) i) phase))

  module _ (live : Live B) (steps : List Made) (was : Lawful live.pod.state None) (stood : Stood (record { live = live; steps = steps }))
      (lives_k : is_thread live.pod.state k ≡ true) where
    never_woken : {Fits : Option ℕ → Answer → Type 0} {out : Outcome} → sight live.pod.state s ≡ resting
        → IsLeft s live.pod.state out ⊎ IsWoken s Fits live.pod.state out → IsLeft s live.pod.state out
    never_woken {Fits} {out} seen (inl left) = left
    never_woken {Fits} {out} seen (inr woken) =
        absurd (let bad : Some block.Not ≡ Some (block.Receiving woken.from) = ap (λ (v : Sight). v.waits) (sym seen) ∙ woken.waited in cc)

    -- ---- a call of another

    module _ (t : ℕ) (turn : choice live.pod.state ≡ Some t) (t_s : eqb t s ≡ false) (reply : Polled B) where
      c : Call
      c = reply.0

      abbrev out : Outcome
      out = machine_of (event_step live.pod reply.0)

      abbrev rows2 : List (Row B)
      rows2 = after_settle setting.bodies (proc_of reply.0) (event_step live.pod reply.0).effects (after_poll t reply.1 reply.0 live.rows)

      moved : Moved live.pod.state (event_step live.pod reply.0).after.state (event_step live.pod reply.0).effects
      moved = call_moved live.pod was reply.0

      s_on : is_thread out.after s ≡ true → (b : SessionBody) (z : Answer) → S_of live.rows b z → S_of rows2 b (last_heard z (answers_to s out.effects))
      s_on lives b z row = settled_with s setting.bodies (proc_of reply.0) out.effects (after_poll t reply.1 reply.0 live.rows)
          (server.serving b) z (polled_other s t t_s reply.1 reply.0 live.rows ∙ row) (alive_then live.pod.state out.after out.effects moved s lives)

      left_so : sight live.pod.state s ≡ resting → is_thread out.after s ≡ true → IsLeft s live.pod.state out
      left_so seen lives = never_woken seen
          (living_is_left live.pod was t s turn t_s (attends_seen live.pod.state s block.Not (ap (λ (v : Sight). v.waits) seen) refl)
          (rests_untimed live.pod.state was s seen) (λ v. ap (λ (x : Sight). count_by (is_to v) x.letters) seen) reply.0 lives)

      -- any but the store
      other_call : eqb t k ≡ false → is_thread out.after k ≡ true
          → Phase s k out.after (S_of rows2) (K_of rows2) (λ b. got_in steps b ++ texts_in b None out.effects)
          (λ b. said_in steps b ++ replies_of_step s b out.effects)
      other_call t_k lives = phase_other s k live.pod.state was (S_of live.rows) (S_of rows2) (K_of live.rows) (K_of rows2) (got_in steps)
          (said_in steps) (λ b. texts_in b None out.effects) out (λ n. event_fades n live.pod reply.0)
          (λ b. (others_reply_nothing s b live.pod).0 t turn t_s reply.0) (λ b z. b) s_on
          (λ b z row. settled_with k setting.bodies (proc_of reply.0) out.effects (after_poll t reply.1 reply.0 live.rows)
          (server.storing b) z (polled_other k t t_k reply.1 reply.0 live.rows ∙ row) (alive_then live.pod.state out.after out.effects moved k lives))
          goes left_so stood
        where
          goes : (a : ℕ) (sb : SessionBody) (sz : Answer) (kb : StoreBody) (kz : Answer) → K_of live.rows kb kz
              → (x : TellsAt s k a live.pod.state sb sz kb kz (got_in steps a) (said_in steps a)) → eqb null_id a ≡ false
              → (x.talk.agent_lives ≡ true) ⊎ (sb.place ≡ at.Agent) → (sb.place ≡ at.Start → out.after.births ≤ a) → is_thread out.after s ≡ true
              → Becomes s k a x.talk x.talk.session kb x.waiting (texts_in a None out.effects) [] out ⊎ Leaves s x.talk out
          goes a sb sz kb kz row x away ok low lives_s =
              subst (λ body. Becomes s k a x.talk x.talk.session body x.waiting (texts_in a None out.effects) [] out ⊎ Leaves s x.talk out) x.store
              (living_calls_are_events s k a live.pod was x.talk x.waiting x.stands t turn t_s t_k reply.0 lives_s lives
              (λ start. low (sym (ap (λ (b : SessionBody). b.place) x.session) ∙ start)))

    -- the store's call
    module _ (turn : choice live.pod.state ≡ Some k) (names : Names) (row : Row B) (found : row_of k live.rows ≡ Some row) where
      k_s : eqb k s ≡ false
      k_s = ne_eqb k s (λ e. let bad : true ≡ false = sym (eq-eqb s k (sym e)) ∙ s_k in cc)

      abbrev reply_k : Polled B
      reply_k = setting.next row.body names row.answer

      -- where it is a store, it does what that does
      reply_is : (b : StoreBody) (z : Answer) → K_of live.rows b z
          → reply_k ≡ ((store_next b names z).0, server.storing (store_next b names z).1, (store_next b names z).2)
      reply_is b z is = let same = unsome (ap (option_map polled_with) (sym found) ∙ is) in
          (λ i. setting.next (same i).0 names (same i).1) ∙ server.stores b names z

      abbrev out_k : Outcome
      out_k = machine_of (event_step live.pod reply_k.0)

      abbrev rows_k : List (Row B)
      rows_k = after_settle setting.bodies (proc_of reply_k.0) (event_step live.pod reply_k.0).effects (after_poll k reply_k.1 reply_k.0 live.rows)

      store_call : ((b : ℕ) → list_all is_short (got_in steps b) ≡ true) → is_thread out_k.after k ≡ true
          → Phase s k out_k.after (S_of rows_k) (K_of rows_k) (λ b. got_in steps b ++ texts_in b None out_k.effects)
          (λ b. said_in steps b ++ replies_of_step s b out_k.effects)
      store_call short lives = phase_other s k live.pod.state was (S_of live.rows) (S_of rows_k) (K_of live.rows) (K_of rows_k)
          (got_in steps) (said_in steps) (λ b. texts_in b None out_k.effects) out_k (λ n. event_fades n live.pod reply_k.0)
          (λ b. (others_reply_nothing s b live.pod).0 k turn k_s reply_k.0) (λ b z. (store_next b names z).1) (s_on k turn k_s reply_k)
          (λ b z is. settled_with k setting.bodies (proc_of reply_k.0) out_k.effects (after_poll k reply_k.1 reply_k.0 live.rows)
          (server.storing (store_next b names z).1) z
          (polled_own k reply_k.1 reply_k.0 live.rows (server.storing b) z is ∙ ap (λ (r : Polled B). Some (r.1, z)) (reply_is b z is))
          (alive_then live.pod.state out_k.after out_k.effects (call_moved live.pod was reply_k.0) k lives))
          goes (left_so k turn k_s reply_k) stood
        where
          never_mail : (a : ℕ) (x : Talk) (waiting : Texts) → Stands s k a live.pod.state x waiting → x.session.place ≡ at.Agent
              → (sent : List ℕ) → x.mail ≡ Received sent → ⊥
          never_mail a x waiting h place sent mail =
              let sends = sends_at x.client sent x.session.place (subst (λ m. is_posted x.client m ≡ true) mail h.posted) h.placed in
              absurd (let bad : at.Agent ≡ at.Send = sym place ∙ sends in cc)

          goes : (a : ℕ) (sb : SessionBody) (sz : Answer) (kb : StoreBody) (kz : Answer) → K_of live.rows kb kz
              → (x : TellsAt s k a live.pod.state sb sz kb kz (got_in steps a) (said_in steps a)) → eqb null_id a ≡ false
              → (x.talk.agent_lives ≡ true) ⊎ (sb.place ≡ at.Agent) → (sb.place ≡ at.Start → out_k.after.births ≤ a) → is_thread out_k.after s ≡ true
              → Becomes s k a x.talk x.talk.session (store_next kb names kz).1 x.waiting (texts_in a None out_k.effects) [] out_k ⊎ Leaves s x.talk out_k
          goes a sb sz kb kz is x away ok low lives_s = inl (subst (λ c. is_thread (event_step live.pod c).after.state k ≡ true
              → (sb.place ≡ at.Start → (event_step live.pod c).after.state.births ≤ a)
              → Becomes s k a x.talk x.talk.session (store_next kb names kz).1 x.waiting (texts_in a None (event_step live.pod c).effects)
              [] (machine_of (event_step live.pod c)))
              (sym (ap (λ (r : Polled B). r.0) (reply_is kb kz is)))
              (subst (λ z. Comes kb z) heard_is (subst (λ b. Comes b hearing.answer) x.store now)) lives low)
            where
              hearing : IsHearing x.talk.keeper
              hearing = reader_hears live.pod.state was k turn x.talk.keeper (ap (λ (v : Sight). v.waits) (x.stands.keeper s_k)) x.stands.reads

              heard_is : hearing.answer ≡ kz
              heard_is = sym (subst (λ c. HeardAs c kz) hearing.is (x.heard_keeper s_k))

              Comes : StoreBody → Answer → Type 0
              Comes b z = is_thread (event_step live.pod (store_next b names z).0).after.state k ≡ true
                  → (sb.place ≡ at.Start → (event_step live.pod (store_next b names z).0).after.state.births ≤ a)
                  → Becomes s k a x.talk x.talk.session (store_next b names z).1 x.waiting
                  (texts_in a None (event_step live.pod (store_next b names z).0).effects) [] (machine_of (event_step live.pod (store_next b names z).0))

              short_now : (x.talk.agent_lives ≡ true) ⊎ (sb.place ≡ at.Agent) → (sent : List ℕ) → x.talk.mail ≡ Received sent
                  → is_short_to s (store_next x.talk.store names hearing.answer).0 ≡ true
              short_now (inl agent) sent mail = store_short s x.talk x.inv agent
                  (lines_short s k a live.pod.state sb sz kb kz (got_in steps a) (said_in steps a) x (short a)) hearing.answer hearing.is names sent mail
              short_now (inr place) sent mail = absurd (never_mail a x.talk x.waiting x.stands (ap (λ (b : SessionBody). b.place) x.session ∙ place) sent mail)

              now : Comes x.talk.store hearing.answer
              now lives low = pods_stores_calls_are_events s k a live.pod was x.talk x.waiting x.stands s_k turn hearing.answer hearing.is
                  names lives (short_now ok) (λ start. low (sym (ap (λ (b : SessionBody). b.place) x.session) ∙ start))

    -- the session's call
    module _ (turn : choice live.pod.state ≡ Some s) (names : Names) (row : Row B) (found : row_of s live.rows ≡ Some row) where
      its : HasRow (S_of live.rows)
      its = phase_row s k live.pod.state (S_of live.rows) (K_of live.rows) (got_in steps) (said_in steps) stood (chosen_lives live.pod.state was s turn)

      abbrev next_s : Polled SessionBody
      next_s = session_next its.body names its.answer

      reply_s : setting.next row.body names row.answer ≡ (next_s.0, server.serving next_s.1, next_s.2)
      reply_s = let same = unsome (ap (option_map polled_with) (sym found) ∙ its.row) in
          (λ i. setting.next (same i).0 names (same i).1) ∙ server.serves its.body names its.answer

      abbrev out_s : Outcome
      out_s = machine_of (event_step live.pod next_s.0)

      abbrev rows_s : List (Row B)
      rows_s = after_settle setting.bodies (proc_of next_s.0) (event_step live.pod next_s.0).effects (after_poll s (server.serving next_s.1) next_s.0 live.rows)

      same_row : (b : SessionBody) (z : Answer) → S_of live.rows b z → (b ≡ its.body) × (z ≡ its.answer)
      same_row b z is = let same = unsome (sym is ∙ its.row) in
          (server.one_session b its.body (ap (λ (p : B × Answer). p.0) same), ap (λ (p : B × Answer). p.1) same)

      session_call : ((b : ℕ) → list_all is_short (got_in steps b) ≡ true) → eqb null_id live.pod.state.births ≡ false
          → is_thread out_s.after k ≡ true → list_all (sends_only s k) out_s.effects ≡ true
          → Phase s k out_s.after (S_of rows_s) (K_of rows_s) (λ b. got_in steps b ++ texts_in b None out_s.effects)
          (λ b. said_in steps b ++ replies_of_step s b out_s.effects)
      session_call short low lives sends = phase_own s k live.pod was turn (S_of live.rows) (S_of rows_s) (K_of live.rows) (K_of rows_s)
          (got_in steps) (said_in steps) its.body its.answer names same_row
          (λ lives_s. settled_with s setting.bodies (proc_of next_s.0) out_s.effects
          (after_poll s (server.serving next_s.1) next_s.0 live.rows) (server.serving next_s.1) its.answer
          (polled_own s (server.serving next_s.1) next_s.0 live.rows (server.serving its.body) its.answer its.row)
          (alive_then live.pod.state out_s.after out_s.effects (call_moved live.pod was next_s.0) s lives_s))
          (λ b z is.
          settled_with k setting.bodies (proc_of next_s.0) out_s.effects (after_poll s (server.serving next_s.1) next_s.0 live.rows) (server.storing b) z
          (polled_other k s s_k (server.serving next_s.1) next_s.0 live.rows ∙ is)
          (alive_then live.pod.state out_s.after out_s.effects (call_moved live.pod was next_s.0) k lives))
          short (λ free. sends_so s k next_s.0 (eqb s k) s_k (sends_named s k live.pod turn next_s.0 free sends)) low stood

    -- ---- a call of any thread

    abbrev Behind : Option Took → Live B → List Effect → Type 0
    Behind took after fs = is_thread after.pod.state k ≡ true → list_all (sends_only s k) fs ≡ true
        → Stood (record { live = after; steps = steps ++ record { take = took; effects = fs } ∷ [] })

    module _ (short : (b : ℕ) → list_all is_short (got_in steps b) ≡ true) (low : eqb null_id live.pod.state.births ≡ false) where
      abbrev CalledBehind : ℕ → Polled B → Type 0
      CalledBehind t r = Behind None (call_move setting.bodies live t r).live (call_move setting.bodies live t r).effects

      reply_behind : (t : ℕ) (r q : Polled B) → r ≡ q → CalledBehind t q → CalledBehind t r
      reply_behind t r q e = subst (CalledBehind t) (sym e)

      thread_behind : (t n : ℕ) (r : Polled B) → t ≡ n → CalledBehind n r → CalledBehind t r
      thread_behind t n r e = subst (λ m. CalledBehind m r) (sym e)

      session_behind : (turn : choice live.pod.state ≡ Some s) (row : Row B) (found : row_of s live.rows ≡ Some row) (names : Names)
          → CalledBehind s ((next_s turn names row found).0, server.serving (next_s turn names row found).1, (next_s turn names row found).2)
      unfolding call_move
      session_behind turn row found names lives sends = stood_push steps (record { take = None; effects = (out_s turn names row found).effects }) (call_move
          setting.bodies live s ((next_s turn names row found).0, server.serving (next_s turn names row found).1, (next_s turn names row found).2)).live
          (session_call turn names row found short low lives sends)

      store_behind : (turn : choice live.pod.state ≡ Some k) (row : Row B) (found : row_of k live.rows ≡ Some row) (names : Names)
          → CalledBehind k (setting.next row.body names row.answer)
      unfolding call_move
      store_behind turn row found names lives sends =
          stood_push steps (record { take = None; effects = (out_k turn names row found).effects })
          (call_move setting.bodies live k (setting.next row.body names row.answer)).live (store_call turn names row found short lives)

      other_behind : (t : ℕ) (turn : choice live.pod.state ≡ Some t) → eqb t s ≡ false → eqb t k ≡ false → (reply : Polled B) → CalledBehind t reply
      unfolding call_move
      other_behind t turn t_s t_k reply lives sends = stood_push steps (record { take = None; effects = (out t turn t_s reply).effects })
          (call_move setting.bodies live t reply).live (other_call t turn t_s reply t_k lives)

      called_stood : (t : ℕ) → choice live.pod.state ≡ Some t → (row : Row B) → row_of t live.rows ≡ Some row → (names : Names)
          → (d e : Bool) → eqb t s ≡ d → eqb t k ≡ e → CalledBehind t (setting.next row.body names row.answer)
      called_stood t turn row found names true e is is_k =
          let same = eqb-true t s is in
          let turn_s = turn ∙ ap Some same in
          let found_s = ap (λ n. row_of n live.rows) (sym same) ∙ found in
          thread_behind t s (setting.next row.body names row.answer) same
          (reply_behind s (setting.next row.body names row.answer)
          ((next_s turn_s names row found_s).0, server.serving (next_s turn_s names row found_s).1, (next_s turn_s names row found_s).2)
          (reply_s turn_s names row found_s) (session_behind turn_s row found_s names))
      called_stood t turn row found names false true is is_k =
          let same = eqb-true t k is_k in
          thread_behind t k (setting.next row.body names row.answer) same
          (store_behind (turn ∙ ap Some same) row (ap (λ n. row_of n live.rows) (sym same) ∙ found) names)
      called_stood t turn row found names false false is is_k = other_behind t turn is is_k (setting.next row.body names row.answer)

      row_stood : (t : ℕ) → choice live.pod.state ≡ Some t → (o : Option (Row B)) → row_of t live.rows ≡ o
          → Behind None (move_row setting.next setting.bodies live t o).live (move_row setting.next setting.bodies live t o).effects
      row_stood t turn None found = λ lives sends. stood_idle live steps stood
      row_stood t turn (Some row) found = called_stood t turn row found (names_for_poll t live.names) (eqb t s) (eqb t k) refl refl

      pub call_stood : Behind None (move setting.next setting.bodies live).live (move setting.next setting.bodies live).effects
      unfolding move
      call_stood = by_choice (choice live.pod.state) refl
        where
          by_choice : (o : Option ℕ) → choice live.pod.state ≡ o
              → Behind None (move_by setting.next setting.bodies live o).live (move_by setting.next setting.bodies live o).effects
          by_choice None e = λ lives sends. stood_idle live steps stood
          by_choice (Some t) e = row_stood t e (row_of t live.rows) refl

    -- ---- a take

    module _ (took : Took) (may : is_takeable live.pod took.event ≡ true) where
      abbrev out_t : Outcome
      out_t = machine_of (take_event live.pod took.event took.line.text)

      abbrev rows_t : List (Row B)
      rows_t = after_settle setting.bodies None (take_event live.pod took.event took.line.text).effects live.rows

      moved_t : Moved live.pod.state out_t.after out_t.effects
      moved_t = take_moved live.pod was took.event took.line.text may

      take_phase : is_thread out_t.after k ≡ true
          → Phase s k out_t.after (S_of rows_t) (K_of rows_t) (λ b. got_in steps b ++ texts_in b (Some took.line.text) out_t.effects)
          (λ b. said_in steps b ++ replies_of_step s b out_t.effects)
      take_phase lives = phase_other s k live.pod.state was (S_of live.rows) (S_of rows_t) (K_of live.rows) (K_of rows_t) (got_in steps)
          (said_in steps) (λ b. texts_in b (Some took.line.text) out_t.effects) out_t (λ n. take_fades n live.pod took.event took.line.text)
          (λ b. (others_reply_nothing s b live.pod).1 took.event took.line.text) (λ b z. b)
          (λ lives_s b z row. settled_with s setting.bodies None out_t.effects live.rows (server.serving b) z row
          (alive_then live.pod.state out_t.after out_t.effects moved_t s lives_s))
          (λ b z row. settled_with k setting.bodies None out_t.effects live.rows (server.storing b) z row
          (alive_then live.pod.state out_t.after out_t.effects moved_t k lives))
          goes
          (λ seen lives_s. never_woken seen (takes_leave_it live.pod was s (attends_seen live.pod.state s block.Not
          (ap (λ (v : Sight). v.waits) seen) refl) (rests_untimed live.pod.state was s seen) took.event took.line.text))
          stood
        where
          goes : (a : ℕ) (sb : SessionBody) (sz : Answer) (kb : StoreBody) (kz : Answer) → K_of live.rows kb kz
              → (x : TellsAt s k a live.pod.state sb sz kb kz (got_in steps a) (said_in steps a)) → eqb null_id a ≡ false
              → (x.talk.agent_lives ≡ true) ⊎ (sb.place ≡ at.Agent) → (sb.place ≡ at.Start → out_t.after.births ≤ a) → is_thread out_t.after s ≡ true
              → Becomes s k a x.talk x.talk.session kb x.waiting (texts_in a (Some took.line.text) out_t.effects) [] out_t ⊎ Leaves s x.talk out_t
          goes a sb sz kb kz row x away ok low lives_s =
              inl (subst (λ body. Becomes s k a x.talk x.talk.session body x.waiting (texts_in a (Some took.line.text) out_t.effects) [] out_t) x.store
              (takes_are_events s k a live.pod was x.talk x.waiting x.stands away took.event took.line.text may))

      pub take_stood : Behind (Some took) (take_move setting.bodies took live).live (take_move setting.bodies took live).effects
      unfolding take_move
      take_stood = λ lives sends.
          stood_push steps (record { take = Some took; effects = out_t.effects }) (take_move setting.bodies took live).live (take_phase lives)

  -- ---- moves

  -- a move, where it may be made
  pub moved_stood : (session : Session B) (m : Option Took) → Lawful session.live.pod.state None → is_move_due session m ≡ true
      → Stood session → is_thread session.live.pod.state k ≡ true → ((b : ℕ) → list_all is_short (got_in session.steps b) ≡ true)
      → eqb null_id session.live.pod.state.births ≡ false
      → is_thread (after_move setting session m).live.pod.state k ≡ true
      → all_sends_to s k (steps_of (after_move setting session m).steps) ≡ true → Stood (after_move setting session m)
  moved_stood session None was due stood lives short low then sends = call_stood session.live session.steps was stood lives short low
      then (sends_last s k session.steps (record { take = None; effects = (move setting.next setting.bodies session.live).effects }) sends)
  moved_stood session (Some took) was due stood lives short low then sends = take_stood session.live session.steps was stood lives took due
      then (sends_last s k session.steps (record { take = Some took; effects = (take_move setting.bodies took session.live).effects }) sends)

module _ {B : Type 0} (setting : Setting B) where
  row_lawful : (live : Live B) (t : ℕ) (o : Option (Row B)) → Lawful live.pod.state None
      → Lawful (move_row setting.next setting.bodies live t o).live.pod.state None
  unfolding call_move
  row_lawful live t None was = was
  row_lawful live t (Some row) was = (call_moved live.pod was (setting.next row.body (names_for_poll t live.names) row.answer).0).lawful

  call_lawful : (live : Live B) → Lawful live.pod.state None → Lawful (move setting.next setting.bodies live).live.pod.state None
  unfolding move
  call_lawful live was = by_choice (choice live.pod.state)
    where
      by_choice : (o : Option ℕ) → Lawful (move_by setting.next setting.bodies live o).live.pod.state None
      by_choice None = was
      by_choice (Some t) = row_lawful live t (row_of t live.rows) was

  pub moved_lawful : (session : Session B) (m : Option Took) → is_move_due session m ≡ true → Lawful session.live.pod.state None
      → Lawful (after_move setting session m).live.pod.state None
  unfolding take_move
  moved_lawful session None due was = call_lawful session.live was
  moved_lawful session (Some took) due was = (take_moved session.live.pod was took.event took.line.text due).lawful

  module _ (n : ℕ) where
    row_fades : (live : Live B) (t : ℕ) (o : Option (Row B)) → Fades n live.pod.state (move_row setting.next setting.bodies live t o).live.pod.state
    unfolding call_move
    row_fades live t None = fades_still n live.pod.state
    row_fades live t (Some row) = event_fades n live.pod (setting.next row.body (names_for_poll t live.names) row.answer).0

    call_fades : (live : Live B) → Fades n live.pod.state (move setting.next setting.bodies live).live.pod.state
    unfolding move
    call_fades live = by_choice (choice live.pod.state)
      where
        by_choice : (o : Option ℕ) → Fades n live.pod.state (move_by setting.next setting.bodies live o).live.pod.state
        by_choice None = fades_still n live.pod.state
        by_choice (Some t) = row_fades live t (row_of t live.rows)

    pub moved_fades : (session : Session B) (m : Option Took) → Fades n session.live.pod.state (after_move setting session m).live.pod.state
    unfolding take_move
    moved_fades session None = call_fades session.live
    moved_fades session (Some took) = take_fades n session.live.pod took.event took.line.text

    pub gone_fades : (moves : List (Option Took)) (session : Session B) → Fades n session.live.pod.state (after_moves setting moves session).live.pod.state
    gone_fades [] session = fades_still n session.live.pod.state
    gone_fades (m ∷ ms) session = fades_then n session.live.pod.state (after_move setting session m).live.pod.state
        (after_moves setting ms (after_move setting session m)).live.pod.state (moved_fades session m) (gone_fades ms (after_move setting session m))

    -- who is there in the end, and was born, was there before
    pub there_before : (moves : List (Option Took)) (session : Session B) → n < session.live.pod.state.births
        → is_thread (after_moves setting moves session).live.pod.state n ≡ true → is_thread session.live.pod.state n ≡ true
    there_before moves session below lives = by_lives (is_thread session.live.pod.state n) refl
      where
        by_lives : (b : Bool) → is_thread session.live.pod.state n ≡ b → b ≡ true
        by_lives true e = refl
        by_lives false e = differ (sym lives ∙ (gone_fades moves session).threads below e)

  -- the steps so far stay
  pub record Grows (before after : List Made) : Type 0 where
    pub rest : List Made
    pub is : after ≡ before ++ rest

  moved_grows : (session : Session B) (m : Option Took) → Grows session.steps (after_move setting session m).steps
  moved_grows session None = record { rest = record { take = None; effects = (move setting.next setting.bodies session.live).effects } ∷ []; is = refl }
  moved_grows session (Some took) = record {
    rest = record { take = Some took; effects = (take_move setting.bodies took session.live).effects } ∷ [];
    is = refl;
  }

  pub gone_grows : (moves : List (Option Took)) (session : Session B) → Grows session.steps (after_moves setting moves session).steps
  gone_grows [] session = record { rest = []; is = sym (append-nil session.steps) }
  gone_grows (m ∷ ms) session =
      let one = moved_grows session m in
      let more = gone_grows ms (after_move setting session m) in
      record { rest = one.rest ++ more.rest; is = more.is ∙ ap (λ xs. xs ++ more.rest) one.is ∙ append_assoc session.steps one.rest more.rest }

-- ---- from where the two stand, on and on

module _ {B : Type 0} (setting : Setting B) (server : LineServer setting.next) (s k : ℕ) (s_k : eqb s k ≡ false) where
  -- what is said of all steps is said of the first
  pub sends_before : (before after : List Made) → Grows setting before after → all_sends_to s k (steps_of after) ≡ true
      → all_sends_to s k (steps_of before) ≡ true
  sends_before before after grows all = (and_parts (all_sends_to s k (steps_of before)) (all_sends_to s k (steps_of grows.rest))
      (sym (list_all-append (λ (step : Step). list_all (sends_only s k) step.effects) (steps_of before) (steps_of grows.rest))
      ∙ ap (all_sends_to s k) (sym (map-append step_of before grows.rest)) ∙ ap (λ xs. all_sends_to s k (steps_of xs)) (sym grows.is) ∙ all)).0

  pub short_before : (a : ℕ) (before after : List Made) → Grows setting before after
      → list_all is_short (texts_delivered a (steps_of after)) ≡ true → list_all is_short (texts_delivered a (steps_of before)) ≡ true
  short_before a before after grows all =
      (and_parts (list_all is_short (texts_delivered a (steps_of before))) (list_all is_short (texts_delivered a (steps_of grows.rest)))
      (sym (list_all-append is_short (texts_delivered a (steps_of before)) (texts_delivered a (steps_of grows.rest)))
      ∙ ap (list_all is_short) (sym (flat_map-append (λ (step : Step). flat_map (text_to a step.text) step.effects) (steps_of before) (steps_of grows.rest))
      ∙ ap (texts_delivered a) (sym (map-append step_of before grows.rest)) ∙ ap (λ xs. texts_delivered a (steps_of xs)) (sym grows.is))
      ∙ all)).0

  pub gone_stood : (moves : List (Option Took)) (session : Session B) → Lawful session.live.pod.state None → CanGoOn setting moves session
      → Stood setting server s k s_k session → is_thread session.live.pod.state k ≡ true
      → is_thread (after_moves setting moves session).live.pod.state k ≡ true
      → all_sends_to s k (steps_of (after_moves setting moves session).steps) ≡ true
      → ((a : ℕ) → list_all is_short (texts_delivered a (steps_of (after_moves setting moves session).steps)) ≡ true)
      → (after_moves setting moves session).live.pod.state.births < null_id
      → Stood setting server s k s_k (after_moves setting moves session)
  gone_stood [] session was can stood lives in_end sends short few = stood
  gone_stood (m ∷ ms) session was can stood lives in_end sends short few =
      let next = after_move setting session m in
      let born = born_below session.live.pod.state was k lives in
      let lives_next = there_before setting k ms next (omega (arith, born, (moved_fades setting k session m).births)) in_end in
      let low = ne_eqb null_id session.live.pod.state.births (λ e. omega (arith, few, e, (gone_fades setting k (m ∷ ms) session).births)) in
      gone_stood ms next (moved_lawful setting session m can.0 was) can.1
      (moved_stood setting server s k s_k session m was can.0 stood lives
      (λ a. short_before a session.steps (after_moves setting (m ∷ ms) session).steps (gone_grows setting (m ∷ ms) session) (short a))
      low lives_next (sends_before next.steps (after_moves setting ms next).steps (gone_grows setting ms next) sends))
      lives_next in_end sends short few
