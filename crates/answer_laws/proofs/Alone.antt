-- A store before a client's session is born: it has no table of it, and reads no letter of it.
use Rattle.answer_laws.proofs.Dying.{destroyed_is_gone, gone_said, gone_thread, no_agent, returned_is_gone, thread_said}
use Rattle.answer_laws.proofs.Events.{after_called, rites_same}
use Rattle.answer_laws.proofs.Leaving.{Ready}
use Rattle.answer_laws.proofs.Others.{attends_of, deliver_but}
use Rattle.answer_laws.proofs.OwnSteps.{Plain, alive_seen, done_by, event_is, made_plain, plain_store, sprung_is}
use Rattle.answer_laws.proofs.PodSteps.{births_said}
use Rattle.answer_laws.proofs.Phases.{IsHearing, reader_hears}
use Rattle.answer_laws.proofs.Replies.{Never}
use Rattle.answer_laws.proofs.Sights.{Turn, Turn.Left, Turn.Woken, answers_append, replied_other}
use Rattle.answer_laws.proofs.StoreSteps.{Checked, Checked.Free, Checked.Struck, Keeps, StoreDoes, StoreDoes.DoesReceive, StoreDoes.DoesReply}
use Rattle.answer_laws.proofs.StoreSteps.{StoreDoes.DoesStop, checked, does_by, found_none, keeps_letter, keeps_refused, keeps_replied, keeps_waiting}
use Rattle.answer_laws.proofs.StoreSteps.{off}
use Rattle.answer_laws.proofs.TalkLaws.{Closing.Alone, Closing.Done, Inv, Inv.Ends, Inv.Goes, Inv.Waits, Phase.Asks, Phase.Idle}
use Rattle.answer_laws.proofs.TalkLaws.{Phase.Learns, Phase.Reads, inv_store, is_apart, is_done, stands}
use Rattle.answer_laws.proofs.AnswerLists.{table_after}
use Rattle.answer_laws.proofs.TalkSteps.{attends_seen, attentive, awaits, unborn_absent, unsome}
use Rattle.answer_laws.proofs.TalkTexts.{unborn_silent}
use Rattle.answer_laws.specs.Sights.{Sight, answers_to, attends, going_on, sight, open_letters}
use Rattle.answer_laws.specs.Stands.{HeardAs, block_of, goes_on_with, is_reading, last_heard}
use Rattle.answer_laws.specs.Talks.{Mail.Nothing, Stand, Stand.AwaitsLetter, Stand.Hears, Talk, deed_of, after_session_reply, store_calls, store_turn}
use Rattle.line_server.specs.Sessions.{session_opening}
use Rattle.line_server.specs.declared.session.SessionPlace.TheVariants as at
use Rattle.line_server.specs.Stores.{StoreBody, store_by, store_next, table_of}
use Rattle.lwp_types.specs.Agents.{deliver, is_event_armed}
use Rattle.lwp_types.specs.Choice.{choice}
use Rattle.lwp_types.specs.CountLaws.{count-append, count_not_found}
use Rattle.lwp_types.specs.Counts.{timers_of}
use Rattle.lwp_types.specs.Lawful.{Lawful}
use Rattle.lwp_types.specs.Messages.{after_reply, as_answer, is_letter_of, is_open, is_to, next_letter, received_letter}
use Rattle.lwp_types.specs.Names.{Names}
use Rattle.lwp_types.specs.State.{Outcome, State, agent_of, is_agent, is_agent_row, is_thread, marks_in, passes}
use Rattle.lwp_types.specs.Step.{step}
use Rattle.lwp_types.specs.Unblock.{is_timer_of, nonexist, zero_answer}
use Rattle.lwp_types.specs.Case.{is_no_id, with_zero}
use Rattle.lwp_types.specs.declared.call.Answer.{Answer}
use Rattle.lwp_types.specs.declared.call.Call.{Call}
use Rattle.lwp_types.specs.declared.call.Effect.{Effect}
use Rattle.lwp_types.specs.declared.rows.Letter.{Letter}
use Rattle.pod_laws.specs.Timers.{timers_of_call}
use Rattle.pod_events.specs.Events.{EventState, after_pass_on, after_take_trap, is_trapped, rites_event, take_event}
use Rattle.pod_events.specs.Rites.{after_first_report, as_rites, report_text, reports_after, after_rites}
use Rattle.pod_events.specs.Step.{event_step}
use Rattle.pod_events.specs.Traps.{Trapping, after_machine_step, after_trap_and_call}
use Rattle.pod_laws.proofs.Elements.{differ}
use Rattle.pod_laws.proofs.EveryStep.{Lawful-step}
use Rattle.pod_laws.proofs.TimerMoves.{no_timer_comes_unasked}
use Rattle.pod_laws.specs.Forgotten.{IsGone}
use Rattle.std.proofs.Common.{Bool, List, None, Option, Some, [], ap, arith, cond, count_by, drop, eqb, false, inl}
use Rattle.std.proofs.Common.{inr, not, refl, subst, sym, true, ℕ, ◌++◌, ◌∙◌, ◌∷◌, ◌≡◌, ◌≢◌, ◌≤◌, ◌||◌, ◌⊎◌}
use Rattle.std.proofs.lemmas.Bool.{eq-eqb, ne_eqb}
use Rattle.std.specs.Prelude.{is_none, is_some, length, map, nat_lt}
use Rattle.lwp_types.specs.declared.call.Answer.TheVariants as answer
use Rattle.lwp_types.specs.declared.call.Call.TheVariants as call
use Rattle.lwp_types.specs.declared.call.Effect.TheVariants as effect
use Rattle.lwp_types.specs.declared.call.LwpErr.TheVariants as error
use Rattle.lwp_types.specs.declared.call.Mode.TheVariants as mode
use Rattle.lwp_types.specs.declared.rows.Block.TheVariants as block
use Rattle.lwp_types.specs.declared.rows.Mark.TheVariants as mark

-- the store has this body, and is polled with this answer next
pub record AloneAt (s k : ℕ) (st : State) (kb : StoreBody) (kz : Answer) : Type 0 where
  pub stand : Stand
  pub seen : sight st k ≡ record { waits = Some (block_of None stand); marks = mark.Frame ∷ []; letters = [] }
  pub reads : is_reading stand ≡ true
  pub untimed : timers_of st.timers k ≡ 0
  pub heard : HeardAs stand kz
  pub table : table_of s kb.tables ≡ []
  pub apart : stands s kb.place stand ≡ true

-- a waiting thread has heard something that isn't a letter of s
abbrev FitsApart : ℕ → Option ℕ → Answer → Type 0
FitsApart s from heard = is_apart s heard ≡ true

no_rows : (st : State) (s : ℕ) → is_agent st s ≡ false → count_by (is_agent_row s) st.agents ≡ 0
no_rows st s none = count_not_found (is_agent_row s) st.agents (by_row (agent_of st.agents s) none)
  where
    by_row : {X : Type 0} (o : Option X) → is_some o ≡ false → o ≡ None
    by_row {X} None e = refl
    by_row {X} (Some x) e = absurd (cc)

module _ (s k : ℕ) (st : State) (was : Lawful st None) (kb : StoreBody) (kz : Answer) (h : AloneAt s k st kb kz) where
  attends_k : attends st k ≡ true
  attends_k = attends_seen st k (block_of None h.stand) (ap (λ (v : Sight). v.waits) h.seen) (attentive None h.stand)

  written_none : (v : ℕ) → open_letters st k v ≡ 0
  written_none v = ap (λ (x : Sight). count_by (is_to v) x.letters) h.seen

  alone_turn : (out : Outcome) → Turn k (FitsApart s) st out → timers_of out.after.timers k ≡ 0
      → AloneAt s k out.after kb (last_heard kz (answers_to k out.effects))
  alone_turn out (Left left) none = record {
    stand = h.stand;
    seen = left.same ∙ h.seen;
    reads = h.reads;
    untimed = none;
    heard = subst (λ xs. HeardAs h.stand (last_heard kz xs)) (sym left.quiet) h.heard;
    table = h.table;
    apart = h.apart;
  }
  alone_turn out (Woken woken) none = by_right (awaits None woken.from h.stand (unsome (sym (ap (λ (v : Sight). v.waits) h.seen) ∙ woken.waited))) woken.right
    where
      by_right : (h.stand ≡ AwaitsLetter) × (woken.from ≡ None)
          → FitsApart s woken.from woken.heard ⊎ ((woken.heard ≡ nonexist) × (is_some woken.from ≡ true))
          → AloneAt s k out.after kb (last_heard kz (answers_to k out.effects))
      by_right w (inr bad) = absurd (let no : false ≡ true = sym (ap is_some w.1) ∙ bad.1 in cc)
      by_right w (inl fits) = record {
        stand = Hears woken.heard;
        seen = woken.goes_on ∙ ap going_on h.seen;
        reads = refl;
        untimed = none;
        heard = ap (last_heard kz) woken.told;
        table = h.table;
        apart = fits;
      }

  pub alone_delivered : is_agent st s ≡ false → (e : ℕ) (text : List ℕ)
      → AloneAt s k (deliver st e text).after kb (last_heard kz (answers_to k (deliver st e text).effects))
  alone_delivered away e text = alone_turn (deliver st e text)
      (deliver_but k s (FitsApart s) st was.nine (attends_of k (FitsApart s) st attends_k) (no_rows st s away) h.untimed e text
      (λ agent other from takes. ap not (ne_eqb agent s other)))
      (omega (arith, h.untimed, (no_timer_comes_unasked st (is_timer_of k)).delivered e text))

heard_then : (z : Answer) (xs ys : List Answer) → last_heard z (xs ++ ys) ≡ last_heard (last_heard z xs) ys
heard_then z [] ys = refl
heard_then z (x ∷ xs) ys = heard_then x xs ys

-- with the report after it
alone_said : (s k : ℕ) (after : State) (es : List Effect) (reports : List ℕ) (kb : StoreBody) (kz : Answer) → Lawful after None
    → is_agent after s ≡ false → AloneAt s k after kb (last_heard kz (answers_to k es))
    → AloneAt s k (after_rites after es reports).state kb (last_heard kz (answers_to k (after_rites after es reports).effects))
alone_said s k after es reports kb kz was away h = by_armed (is_event_armed after rites_event) reports
  where
    by_armed : (b : Bool) (rs : List ℕ)
        → AloneAt s k (cond b (after_first_report after es rs) (record { state = after; reports = rs; effects = es })).state kb
        (last_heard kz (answers_to k (cond b (after_first_report after es rs) (record { state = after; reports = rs; effects = es })).effects))
    by_armed true [] = h
    by_armed false rs = h
    by_armed true (dead ∷ later) =
        let sent = (deliver after rites_event (report_text dead)).effects in
        subst (AloneAt s k (deliver after rites_event (report_text dead)).after kb)
        (sym (heard_then kz (answers_to k es) (answers_to k sent))
        ∙ ap (last_heard kz) (ap (λ xs. answers_to k es ++ xs) (sym (rites_same k dead sent)) ∙ sym (answers_append k es (map (as_rites dead) sent))))
        (alone_delivered s k after was kb (last_heard kz (answers_to k es)) h away rites_event (report_text dead))

module _ (s k : ℕ) (es : EventState) (was : Lawful es.state None) (kb : StoreBody) (kz : Answer) (h : AloneAt s k es.state kb kz) where
  -- no agent has the number of who isn't born, or is a thread
  free_before : (after : State) (fs : List Effect) (reports : List ℕ) → Lawful after None
      → ((after_rites after fs reports).state.births ≤ s) ⊎ (is_thread (after_rites after fs reports).state s ≡ true) → is_agent after s ≡ false
  free_before after fs reports then (inr lives) = no_agent after then s (sym (thread_said s after fs reports) ∙ lives)
  free_before after fs reports then (inl low) = by_or (is_thread after s) (unborn_absent after then s (omega (arith, low, births_said after fs reports)))
    where
      by_or : (b : Bool) → (b || is_agent after s) ≡ false → is_agent after s ≡ false
      by_or true e = absurd (cc)
      by_or false e = e

  -- a call of another
  pub alone_other : (t : ℕ) → choice es.state ≡ Some t → eqb t k ≡ false → eqb t s ≡ false → (c : Call)
      → is_thread (event_step es c).after.state k ≡ true → ((event_step es c).after.state.births ≤ s) ⊎ (is_thread (event_step es c).after.state s ≡ true)
      → AloneAt s k (event_step es c).after.state kb (last_heard kz (answers_to k (event_step es c).effects))
  alone_other t turn t_k t_s c lives free = subst Goal (sym (event_is es t c turn)) goes lives free
    where
      Goal : Outcome → Type 0
      Goal out = is_thread out.after k ≡ true → (out.after.births ≤ s) ⊎ (is_thread out.after s ≡ true)
          → AloneAt s k out.after kb (last_heard kz (answers_to k out.effects))

      away : t ≢ k
      away e = let bad : true ≡ false = sym (eq-eqb t k e) ∙ t_k in cc

      out : Trapping
      out = after_trap_and_call es.state es.trapped t c es.pending

      reports : List ℕ
      reports = reports_after es.state out.state es.reports out.effects

      ready : Ready k (FitsApart s) t es.state
      ready = record { attends = attends_of k (FitsApart s) es.state (attends_k s k es.state was kb kz h); away = written_none s k es.state was kb kz h t }

      goes : Goal (done_by es out)
      goes alive free =
          let calls = after_called k t (FitsApart s) es.state was turn away ready h.untimed es.trapped c (λ room text e from takes. ap not t_s) es.pending (inr
          (sym (thread_said k out.state out.effects reports) ∙ alive, written_none s k es.state was kb kz h)) in
          alone_said s k out.state out.effects reports kb kz calls.lawful (free_before out.state out.effects reports calls.lawful free)
          (alone_turn s k es.state was kb kz h (record { after = out.state; effects = out.effects }) calls.turn calls.timers)

  -- a line that is taken
  pub alone_taken : is_agent es.state s ≡ false → (e : ℕ) (text : List ℕ)
      → AloneAt s k (take_event es e text).after.state kb (last_heard kz (answers_to k (take_event es e text).effects))
  unfolding take_event
  alone_taken away e text = by_trapped (is_trapped es.trapped e)
    where
      by_trapped : (b : Bool)
          → AloneAt s k (cond b (after_take_trap es e) (after_pass_on es (deliver es.state e text))).after.state kb
          (last_heard kz (answers_to k (cond b (after_take_trap es e) (after_pass_on es (deliver es.state e text))).effects))
      by_trapped true = h
      by_trapped false = alone_delivered s k es.state was kb kz h away e text

-- ---- the store's own call

-- of a talk that hasn't begun
idle_of : (s : ℕ) (talk : Talk) → Inv s talk → talk.lines ≡ [] → talk.mail ≡ Nothing → talk.session.place ≡ at.Start
    → talk.agent_lives ≡ true → talk.client ≡ Hears zero_answer → (table_of s talk.store.tables ≡ []) × (stands s talk.store.place talk.keeper ≡ true)
idle_of s talk (Goes (Idle done known l m i) stand) none mail place lives client = (known.kept ∙ ap (table_after []) (sym l ∙ none), stand)
idle_of s talk (Goes (Reads done text from room known l m p c) stand) none mail place lives client = absurd (let bad : at.Start ≡ at.Recv = sym place ∙ p in cc)
idle_of s talk (Goes (Asks done text known l q m p c) stand) none mail place lives client = absurd (let bad : at.Start ≡ at.Send = sym place ∙ p in cc)
idle_of s talk (Goes (Learns done text r t clean q l m p c) stand) none mail place lives client = absurd (let bad : at.Start ≡ at.Send = sym place ∙ p in cc)
idle_of s talk (Waits done text known l q m p c sp kp) none mail place lives client = absurd (let bad : at.Start ≡ at.Send = sym place ∙ p in cc)
idle_of s talk (Ends first (Alone ended)) none mail place lives client = differ (sym lives ∙ ended)
idle_of s talk (Ends first (Done m d)) none mail place lives client =
    absurd (let bad : false ≡ true = sym (ap (λ p. is_done p talk.client) place ∙ ap (is_done at.Start) client) ∙ d in cc)

module _ (s k : ℕ) (st : State) (was : Lawful st None) (kb : StoreBody) (kz : Answer) (h : AloneAt s k st kb kz) (turn : choice st ≡ Some k)
    (low : st.births ≤ s) (names : Names) where
  hearing : IsHearing h.stand
  hearing = reader_hears st was k turn h.stand (ap (λ (v : Sight). v.waits) h.seen) h.reads

  stands_now : h.stand ≡ Hears kz
  stands_now = hearing.is ∙ ap Hears (sym (subst (λ c. HeardAs c kz) hearing.is h.heard))

  k_seen : sight st k ≡ record { waits = Some block.Not; marks = mark.Frame ∷ []; letters = [] }
  k_seen = h.seen ∙ ap (λ c. record { waits = Some (block_of None c); marks = mark.Frame ∷ []; letters = [] }) stands_now

  before : Talk
  before = record {
    session = session_opening 0 0;
    client = Hears zero_answer;
    store = kb;
    keeper = Hears kz;
    mail = Nothing;
    agent_lives = true;
    lines = [];
    told = [];
  }

  inv_before : Inv s before
  unfolding before
  inv_before = Goes (Idle [] (record { replied = refl; kept = h.table; clean = refl }) refl refl refl) (ap (stands s kb.place) (sym stands_now) ∙ h.apart)

  untimed_then : (c : Call) → timers_of_call st (Some k) c ≡ [] → timers_of (step st c).after.timers k ≡ 0
  untimed_then c asks = omega (
    arith,
    h.untimed,
    (no_timer_comes_unasked st (is_timer_of k)).called c,
    count-append (is_timer_of k) st.timers (timers_of_call st (choice st) c),
    ap (λ o. count_by (is_timer_of k) (timers_of_call st o c)) turn,
    ap (count_by (is_timer_of k)) asks,
  )

  -- what it is told it is polled with
  stood : (c : Call) (body : StoreBody) (stand : Stand) (xs : List Answer) → Keeps k st turn k_seen c stand xs → is_reading stand ≡ true
      → HeardAs stand (last_heard kz xs) → timers_of_call st (Some k) c ≡ [] → table_of s body.tables ≡ [] → stands s body.place stand ≡ true
      → AloneAt s k (step st c).after body (last_heard kz (answers_to k (step st c).effects))
  stood c body stand xs keeps reads heard asks table apart = record {
    stand = stand;
    seen = keeps.seen;
    reads = reads;
    untimed = untimed_then c asks;
    heard = subst (λ ys. HeardAs stand (last_heard kz ys)) (sym keeps.told) heard;
    table = table;
    apart = apart;
  }

  abbrev After : (turn : Call × StoreBody) → Type 0
  After does = AloneAt s k (step st does.0).after does.1 (last_heard kz (answers_to k (step st does.0).effects))

  receives : (body : StoreBody) → (table_of s body.tables ≡ []) × (stands s body.place AwaitsLetter ≡ true) → After (call.Recv None mode.Block, body)
  receives body idle = by_letter (next_letter st.letters k None) refl
    where
      other_letter : (l : Letter) → next_letter st.letters k None ≡ Some l → (b : Bool) → is_letter_of s l ≡ b → b ≡ false
      other_letter l e true is = absurd (found_none (is_open None) (is_to k) (is_letter_of s) st.letters l e is (unborn_silent st was s low))
      other_letter l e false is = refl

      by_letter : (o : Option Letter) → next_letter st.letters k None ≡ o → After (call.Recv None mode.Block, body)
      by_letter None e = stood (call.Recv None mode.Block) body AwaitsLetter [] (keeps_waiting k st turn k_seen e) refl tt refl idle.0 idle.1
      by_letter (Some l) e = stood (call.Recv None mode.Block) body (Hears (as_answer l)) (as_answer l ∷ [])
          (keeps_letter k st turn k_seen l e) refl refl refl idle.0 (ap not (other_letter l e (is_letter_of s l) refl))

  replies : (v : ℕ) (text : List ℕ) (body : StoreBody) → table_of s body.tables ≡ [] → After (call.Reply v text, body)
  replies v text body table = by_checks (checked st _ _)
    where
      by_checks : Checked st
          (is_no_id st v ∷ (is_none (received_letter st.letters k v), error.NoWait)
          ∷ (passes (λ (letter : Letter). nat_lt letter.room (length text)) (received_letter st.letters k v), error.InvalidArg) ∷ [])
          (with_zero (after_reply v text st))
          → After (call.Reply v text, body)
      by_checks (Struck e is) = stood (call.Reply v text) body (Hears (answer.Refused e)) (answer.Refused e ∷ [])
          (keeps_refused k st turn k_seen v text e is) refl refl refl table refl
      by_checks (Free passed is) = stood (call.Reply v text) body (Hears zero_answer) (zero_answer ∷ [])
          (keeps_replied k st turn k_seen v text (replied_other k Never k st (off k st turn k_seen) v passed.1.0) is) refl refl refl table refl

  -- the talk after its turn
  turned : Inv s (store_turn s None names before before.keeper)
  turned = inv_store s 0 None names before inv_before

  alone_by : (does : Call × StoreBody) → StoreDoes does → goes_on_with does.0 ≡ true
      → Inv s (store_calls s None (record before { store = does.1 }) (deed_of does.0)) → After does
  unfolding before
  alone_by does (DoesReceive body is) on inv = subst After (sym is) (receives body (idle_of s _
      (subst (λ (d : Call × StoreBody). Inv s (store_calls s None (record before { store = d.1 }) (deed_of d.0))) is inv) refl refl refl refl refl))
  alone_by does (DoesReply v text body is) on inv = subst After (sym is) (replies v text body
      (by_session (eqb v s) (subst (λ (d : Call × StoreBody). Inv s (store_calls s None (record before { store = d.1 }) (deed_of d.0))) is inv)))
    where
      by_session : (b : Bool)
          → Inv s (cond b (after_session_reply (record before { store = body }) text Nothing) (record before { store = body; keeper = Hears zero_answer }))
          → table_of s body.tables ≡ []
      by_session true inv = (idle_of s (after_session_reply (record before { store = body }) text Nothing) inv refl refl refl refl refl).0
      by_session false inv = (idle_of s (record before { store = body; keeper = Hears zero_answer }) inv refl refl refl refl refl).0
  alone_by does (DoesStop is) on inv = differ (sym on ∙ ap goes_on_with is)

  pub alone_step : goes_on_with (store_next kb names kz).0 ≡ true → After ((store_next kb names kz).0, (store_next kb names kz).1)
  unfolding store_next before
  alone_step on = alone_by (store_by kb kz kb.place) (does_by kb kz kb.place) on turned

module _ (s k : ℕ) (es : EventState) (was : Lawful es.state None) (kb : StoreBody) (kz : Answer) (h : AloneAt s k es.state kb kz) where
  -- the store's own call in such a pod
  pub alone_own : choice es.state ≡ Some k → es.state.births ≤ s → (names : Names) → is_thread (event_step es (store_next kb names kz).0).after.state k ≡ true
      → ((event_step es (store_next kb names kz).0).after.state.births ≤ s) ⊎ (is_thread (event_step es (store_next kb names kz).0).after.state s ≡ true)
      → AloneAt s k (event_step es (store_next kb names kz).0).after.state (store_next kb names kz).1
      (last_heard kz (answers_to k (event_step es (store_next kb names kz).0).effects))
  unfolding store_next
  alone_own turn low names lives free = subst Goal (sym (event_is es k c turn)) (by_pending es.pending) lives free
    where
      c : Call
      c = (store_next kb names kz).0

      plain : Plain c
      plain = plain_store (store_by kb kz kb.place) (does_by kb kz kb.place)

      marks : marks_in es.state k ≡ mark.Frame ∷ []
      marks = ap (λ (v : Sight). v.marks) h.seen

      lives_k : is_thread es.state k ≡ true
      lives_k = alive_seen es.state k (block_of None h.stand) (ap (λ (v : Sight). v.waits) h.seen)

      Goal : Outcome → Type 0
      Goal out = is_thread out.after k ≡ true → (out.after.births ≤ s) ⊎ (is_thread out.after s ≡ true)
          → AloneAt s k out.after (store_next kb names kz).1 (last_heard kz (answers_to k out.effects))

      gone : (out : Trapping) → IsGone out.state k → Goal (done_by es out)
      gone out off = λ alive free. differ (sym alive
          ∙ gone_thread (after_rites out.state out.effects (reports_after es.state out.state es.reports out.effects)).state k
          (gone_said k out.state out.effects (reports_after es.state out.state es.reports out.effects) off))

      by_stop : (b : Bool) → goes_on_with c ≡ b → Goal (done_by es (after_machine_step es.trapped (step es.state c)))
      by_stop true on = λ alive free.
          let reports = reports_after es.state (step es.state c).after es.reports (step es.state c).effects in
          let then = Lawful-step es.state was c in
          alone_said s k (step es.state c).after (step es.state c).effects reports (store_next kb names kz).1 kz
          then (free_before s k es was kb kz h (step es.state c).after (step es.state c).effects reports then free)
          (alone_step s k es.state was kb kz h turn low names on)
      by_stop false stops = gone (after_machine_step es.trapped (step es.state c))
          (subst (λ c. IsGone (step es.state c).after k) (sym (plain.stop stops)) (returned_is_gone es.state was k turn marks))

      by_pending : (p : Option ℕ) → Goal (done_by es (after_trap_and_call es.state es.trapped k c p))
      by_pending None = subst (λ out. Goal (done_by es out)) (sym (made_plain es.state es.trapped k c plain.trap plain.agent)) (by_stop (goes_on_with c) refl)
      by_pending (Some e) =
          subst (λ out. Goal (done_by es out)) (sym (sprung_is es.state es.trapped k c e marks)) (gone (record {
            state = (step es.state (call.Destroy k)).after;
            trapped = es.trapped;
            effects = effect.Trapped k e ∷ drop 1 (step es.state (call.Destroy k)).effects;
          }) (destroyed_is_gone es.state was k k turn lives_k))
