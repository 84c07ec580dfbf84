-- What others do to a session and a store that talk, in a pod with its own events.
use Rattle.answer_laws.proofs.Dying.{not_destroyed, thread_said}
use Rattle.answer_laws.proofs.Events.{but_same, rites_same}
use Rattle.answer_laws.proofs.Others.{deliveries_leave_it}
use Rattle.answer_laws.proofs.Sights.{answers_append}
use Rattle.answer_laws.proofs.TalkSteps.{Ends, Ends.Destroys, Ends.Spared, attends_seen, ends_of, others_calls_are_events, talked_append, unheard}
use Rattle.answer_laws.proofs.TalkTexts.{births_deliver, deliveries_are_events}
use Rattle.answer_laws.specs.Agents.{deliveries_to, is_delivery_to, spares_agent}
use Rattle.answer_laws.specs.Clients.{text_to}
use Rattle.answer_laws.specs.Events.{machine_of}
use Rattle.answer_laws.specs.Owns.{LivingCallsAreEvents}
use Rattle.answer_laws.specs.Sights.{IsDelivered, IsLeft, IsWoken, answers_to, sight}
use Rattle.answer_laws.specs.Stands.{Becomes, HeardAs, IsHeard, Leaves, PodsCallsAreEvents, Stands, TakesAreEvents, block_of, last_heard, texts_in}
use Rattle.answer_laws.specs.Talks.{Stand, Talk, after_events}
use Rattle.line_server.specs.Sessions.{SessionBody}
use Rattle.line_server.specs.Stores.{StoreBody}
use Rattle.line_server.specs.declared.session.SessionPlace.TheVariants as at
use Rattle.lwp_types.specs.Agents.{deliver, is_event_armed}
use Rattle.lwp_types.specs.Choice.{choice}
use Rattle.lwp_types.specs.CountLaws.{count-cons, one}
use Rattle.lwp_types.specs.Counts.{timers_of}
use Rattle.lwp_types.specs.Lawful.{Lawful}
use Rattle.lwp_types.specs.Names.{null_id}
use Rattle.lwp_types.specs.State.{Outcome, State, ThreadRow, is_thread, passes, thread_of}
use Rattle.lwp_types.specs.Step.{case_of, end_effects, ends, own_effects, step, step_by, step_if}
use Rattle.lwp_types.specs.Unblock.{is_timer_of, nonexist}
use Rattle.lwp_types.specs.declared.call.Answer.{Answer}
use Rattle.lwp_types.specs.declared.call.Call.{Call}
use Rattle.lwp_types.specs.declared.call.Effect.{Effect}
use Rattle.lwp_types.specs.declared.call.LwpErr.{LwpErr}
use Rattle.lwp_types.specs.declared.rows.Block.{Block}
use Rattle.pod_events.proofs.Mild.{mild_deliver}
use Rattle.pod_events.proofs.MildCalls.{case_toll, is_tame, mild_tame}
use Rattle.pod_events.specs.Events.{EventState, after_pass_on, after_take_trap, is_trapped, may_trap, rites_event, take_event}
use Rattle.pod_events.specs.Rites.{after_first_report, as_rites, report_text, reports_after, after_rites}
use Rattle.pod_events.specs.Step.{event_step, event_step_by, event_step_if}
use Rattle.pod_events.specs.Traps.{after_call, after_call_as, after_machine_step, after_trap, after_trap_and_call, agent_event_of}
use Rattle.pod_events.specs.Traps.{but_call, is_catch, is_given, notice, after_refusal, trap_of, trap_refusal}
use Rattle.pod_laws.proofs.EveryStep.{Lawful-step}
use Rattle.pod_laws.proofs.TimerMoves.{no_timer_comes_unasked}
use Rattle.std.proofs.Common.{Bool, List, None, Option, Some, [], ap, append-nil, append_assoc, arith, cond, drop, eqb, false}
use Rattle.std.proofs.Common.{inl, inr, not, refl, subst, sym, true, ℕ, ◌&&◌, ◌++◌, ◌+◌, ◌∙◌, ◌∷◌, ◌≡◌, ◌≤◌, ◌⊎◌}
use Rattle.std.proofs.Math.Numerals.{one-add}
use Rattle.std.proofs.lemmas.Bool.{and_from, and_parts, eqb-true}
use Rattle.std.specs.List.{list_all}
use Rattle.std.specs.Prelude.{is_some, map, nat_lt, option_map, replicate}
use Rattle.lwp_types.specs.declared.call.Call.TheVariants as call
use Rattle.lwp_types.specs.declared.call.Effect.TheVariants as effect
use Rattle.lwp_types.specs.declared.call.LwpErr.TheVariants as error
use Rattle.lwp_types.specs.declared.rows.Block.TheVariants as block
use Rattle.lwp_types.specs.declared.rows.Mark.TheVariants as mark

-- ---- texts

pub texts_append : (a : ℕ) (text : Option (List ℕ)) (xs ys : List Effect) → texts_in a text (xs ++ ys) ≡ texts_in a text xs ++ texts_in a text ys
texts_append a text [] ys = refl
texts_append a text (x ∷ xs) ys = ap (λ zs. text_to a text x ++ zs) (texts_append a text xs ys)
    ∙ sym (append_assoc (text_to a text x) (texts_in a text xs) (texts_in a text ys))

-- one text more
replicate_more : (text : List ℕ) (n : ℕ) (b : Bool) → cond b (text ∷ []) [] ++ replicate n text ≡ replicate (one b + n) text
replicate_more text n true = ap (λ m. replicate m text) (sym (one-add n))
replicate_more text n false = let same : n ≡ one false + n = omega arith in ap (λ m. replicate m text) same

module _ (a : ℕ) where
  -- without a line, nothing but a report is a text
  none_told : (es : List Effect) → list_all is_tame es ≡ true → texts_in a None es ≡ []
  none_told [] tame = refl
  none_told (e ∷ es) tame = let parts = and_parts (is_tame e) (list_all is_tame es) tame in by_effect e parts.0 (none_told es parts.1)
    where
      by_test : (b : Bool) → cond {A = List (List ℕ)} b [] [] ++ texts_in a None es ≡ texts_in a None es
      by_test true = refl
      by_test false = refl

      by_effect : (e : Effect) → is_tame e ≡ true → texts_in a None es ≡ [] → texts_in a None (e ∷ es) ≡ []
      by_effect (effect.Called t c) h rest = absurd (cc)
      by_effect (effect.Answered t x) h rest = rest
      by_effect (effect.Exited t reg c x) h rest = rest
      by_effect (effect.Died t) h rest = rest
      by_effect (effect.Delivered b e) h rest = by_test (eqb b a) ∙ rest
      by_effect (effect.Ticked now) h rest = rest
      by_effect (effect.Ended status) h rest = absurd (cc)
      by_effect (effect.Trapped t e) h rest = absurd (cc)
      by_effect (effect.Rites b d) h rest = absurd (cc)

  -- a line is one as often as it was delivered
  pub lines_told : (text : List ℕ) (es : List Effect) → list_all is_tame es ≡ true → texts_in a (Some text) es ≡ replicate (deliveries_to a es) text
  lines_told text [] tame = refl
  lines_told text (e ∷ es) tame = let parts = and_parts (is_tame e) (list_all is_tame es) tame in by_effect e parts.0 (lines_told text es parts.1)
    where
      same : (e : Effect) → deliveries_to a (e ∷ es) ≡ one (is_delivery_to a e) + deliveries_to a es
      same e = count-cons (is_delivery_to a) e es

      uncounted : (e : Effect) → is_delivery_to a e ≡ false → deliveries_to a (e ∷ es) ≡ deliveries_to a es
      uncounted e none = omega (arith, count-cons (is_delivery_to a) e es, ap one none)

      by_effect : (e : Effect) → is_tame e ≡ true → texts_in a (Some text) es ≡ replicate (deliveries_to a es) text
          → texts_in a (Some text) (e ∷ es) ≡ replicate (deliveries_to a (e ∷ es)) text
      by_effect (effect.Called t c) h rest = absurd (cc)
      by_effect (effect.Answered t x) h rest = rest ∙ ap (λ n. replicate n text) (sym (uncounted (effect.Answered t x) refl))
      by_effect (effect.Exited t reg c x) h rest = rest ∙ ap (λ n. replicate n text) (sym (uncounted (effect.Exited t reg c x) refl))
      by_effect (effect.Died t) h rest = rest ∙ ap (λ n. replicate n text) (sym (uncounted (effect.Died t) refl))
      by_effect (effect.Delivered b e) h rest = ap (λ zs. cond (eqb b a) (text ∷ []) [] ++ zs) rest
          ∙ replicate_more text (deliveries_to a es) (eqb b a) ∙ ap (λ n. replicate n text) (sym (same (effect.Delivered b e)))
      by_effect (effect.Ticked now) h rest = rest ∙ ap (λ n. replicate n text) (sym (uncounted (effect.Ticked now) refl))
      by_effect (effect.Ended status) h rest = absurd (cc)
      by_effect (effect.Trapped t e) h rest = absurd (cc)
      by_effect (effect.Rites b d) h rest = absurd (cc)

  -- and so is a report
  pub reports_told : (dead : ℕ) (es : List Effect) → list_all is_tame es ≡ true
      → texts_in a None (map (as_rites dead) es) ≡ texts_in a (Some (report_text dead)) es
  reports_told dead [] tame = refl
  reports_told dead (e ∷ es) tame = let parts = and_parts (is_tame e) (list_all is_tame es) tame in by_effect e parts.0 (reports_told dead es parts.1)
    where
      by_effect : (e : Effect) → is_tame e ≡ true → texts_in a None (map (as_rites dead) es) ≡ texts_in a (Some (report_text dead)) es
          → texts_in a None (map (as_rites dead) (e ∷ es)) ≡ texts_in a (Some (report_text dead)) (e ∷ es)
      by_effect (effect.Called t c) h rest = absurd (cc)
      by_effect (effect.Answered t x) h rest = rest
      by_effect (effect.Exited t reg c x) h rest = rest
      by_effect (effect.Died t) h rest = rest
      by_effect (effect.Delivered b e) h rest = ap (λ zs. cond (eqb b a) (report_text dead ∷ []) [] ++ zs) rest
      by_effect (effect.Ticked now) h rest = rest
      by_effect (effect.Ended status) h rest = absurd (cc)
      by_effect (effect.Trapped t e) h rest = absurd (cc)
      by_effect (effect.Rites b d) h rest = absurd (cc)

pub tame_deliver : (s : State) (e : ℕ) (text : List ℕ) → list_all is_tame (deliver s e text).effects ≡ true
tame_deliver s e text = mild_tame (deliver s e text).effects (mild_deliver s e text).tells

-- a call of the machine delivers no text
pub step_texts : (a : ℕ) (s : State) (c : Call) → texts_in a None (step s c).effects ≡ []
unfolding step step_by
step_texts a s c = by_choice (choice s)
  where
    own_none : (t : ℕ) (o : Option Answer) → texts_in a None (own_effects t o) ≡ []
    own_none t None = refl
    own_none t (Some x) = refl

    end_none : (st : State) (b : Bool) → texts_in a None (cond b (effect.Ended st.status ∷ []) []) ≡ []
    end_none st true = refl
    end_none st false = refl

    by_choice : (o : Option ℕ) → texts_in a None (step_if s c o).effects ≡ []
    by_choice None = refl
    by_choice (Some t) =
        let made = case_of s t c in
        texts_append a None made.others (own_effects t made.own ++ end_effects made.after)
        ∙ ap (λ zs. zs ++ texts_in a None (own_effects t made.own ++ end_effects made.after)) (none_told a made.others (case_toll s t c).tame)
        ∙ texts_append a None (own_effects t made.own) (end_effects made.after) ∙ (λ i. own_none t made.own i ++ end_none made.after (ends made.after) i)

pub but_texts : (a : ℕ) (s : State) (c : Call) → texts_in a None (drop 1 (step s c).effects) ≡ texts_in a None (step s c).effects
unfolding step step_by
but_texts a s c = by_choice (choice s)
  where
    by_choice : (o : Option ℕ) → texts_in a None (drop 1 (step_if s c o).effects) ≡ texts_in a None (step_if s c o).effects
    by_choice None = refl
    by_choice (Some t) = refl

-- ---- what becomes of a talk

module _ (s k a : ℕ) (talk : Talk) (waiting : List (List ℕ)) where
  -- other effects that answer alike
  becomes_same : (session : SessionBody) (store : StoreBody) (delivered replies : List (List ℕ)) (out : Outcome) (es : List Effect)
      → answers_to s es ≡ answers_to s out.effects → answers_to k es ≡ answers_to k out.effects → Becomes s k a talk session store waiting delivered replies out
      → Becomes s k a talk session store waiting delivered replies (record { after = out.after; effects = es })
  becomes_same session store delivered replies out es same same_k b = record {
    events = b.events;
    waits = b.waits;
    session_then = b.session_then;
    store_then = b.store_then;
    stands = b.stands;
    texts = b.texts;
    said = b.said;
    heard = subst (IsHeard talk.client (after_events s a talk b.events).client) (sym same) b.heard;
    heard_keeper = λ s_k. subst (IsHeard talk.keeper (after_events s a talk b.events).keeper) (sym same_k) (b.heard_keeper s_k);
  }

  leaves_same : (out : Outcome) (es : List Effect) → answers_to s es ≡ answers_to s out.effects → Leaves s talk out
      → Leaves s talk (record { after = out.after; effects = es })
  leaves_same out es same l = record { client = l.client; untimed = l.untimed; place = l.place; told = same ∙ l.told }

  heard_append : (z : Answer) (xs ys : List Answer) → last_heard z (xs ++ ys) ≡ last_heard (last_heard z xs) ys
  heard_append z [] ys = refl
  heard_append z (x ∷ xs) ys = heard_append x xs ys

  heard_then : (before middle after : Stand) (xs ys : List Answer) → IsHeard before middle xs → IsHeard middle after ys → IsHeard before after (xs ++ ys)
  heard_then before middle after xs ys one two = λ z h. subst (HeardAs after) (sym (heard_append z xs ys)) (two (last_heard z xs) (one z h))

  -- a step, and a delivery after it
  pub becomes_then : (session : SessionBody) (store : StoreBody) (one_texts two_texts replies : List (List ℕ)) (one : Outcome)
      (es : List Effect) (after : State) (b : Becomes s k a talk session store waiting one_texts replies one)
      → Becomes s k a (after_events s a talk b.events) (after_events s a talk b.events).session (after_events s a talk b.events).store
      b.waits two_texts [] (record { after = after; effects = es })
      → Becomes s k a talk session store waiting (one_texts ++ two_texts) replies (record { after = after; effects = one.effects ++ es })
  becomes_then session store one_texts two_texts replies one es after b d = record {
    events = b.events ++ d.events;
    waits = d.waits;
    session_then = ap (λ (x : Talk). x.session) now ∙ d.session_then ∙ b.session_then;
    store_then = ap (λ (x : Talk). x.store) now ∙ d.store_then ∙ b.store_then;
    stands = subst (λ x. Stands s k a after x d.waits) (sym now) d.stands;
    texts = ap (λ (x : Talk). x.lines ++ d.waits) now ∙ d.texts ∙ ap (λ xs. xs ++ two_texts) b.texts ∙ append_assoc (talk.lines ++ waiting) one_texts two_texts;
    said = ap (λ (x : Talk). x.told) now ∙ d.said ∙ append-nil (after_events s a talk b.events).told ∙ b.said;
    heard = subst (IsHeard talk.client (after_events s a talk (b.events ++ d.events)).client) (sym (answers_append s one.effects es))
        (subst (λ (x : Talk). IsHeard talk.client x.client (answers_to s one.effects ++ answers_to s es)) (sym now)
        (heard_then talk.client (after_events s a talk b.events).client
        (after_events s a (after_events s a talk b.events) d.events).client (answers_to s one.effects) (answers_to s es) b.heard d.heard));
    heard_keeper = λ s_k. subst (IsHeard talk.keeper (after_events s a talk (b.events ++ d.events)).keeper) (sym (answers_append k one.effects es))
        (subst (λ (x : Talk). IsHeard talk.keeper x.keeper (answers_to k one.effects ++ answers_to k es)) (sym now) (heard_then talk.keeper
        (after_events s a talk b.events).keeper (after_events s a (after_events s a talk b.events) d.events).keeper
        (answers_to k one.effects) (answers_to k es) (b.heard_keeper s_k) (d.heard_keeper s_k)));
  }
    where
      now : after_events s a talk (b.events ++ d.events) ≡ after_events s a (after_events s a talk b.events) d.events
      now = talked_append s a talk b.events d.events

  -- a report answers as the delivery that it is
  said_same : (es sent : List Effect) (u dead : ℕ) → answers_to u (es ++ map (as_rites dead) sent) ≡ answers_to u (es ++ sent)
  said_same es sent u dead = answers_append u es (map (as_rites dead) sent) ∙ ap (λ x. answers_to u es ++ x) (rites_same u dead sent)
      ∙ sym (answers_append u es sent)

  -- a step, and the report after it
  pub becomes_said : (session : SessionBody) (store : StoreBody) (replies : List (List ℕ)) (after : State) (es : List Effect) (reports : List ℕ)
      → Lawful after None → texts_in a None es ≡ []
      → Becomes s k a talk session store waiting [] replies (record { after = after; effects = es })
      → Becomes s k a talk session store waiting (texts_in a None (after_rites after es reports).effects) replies (record {
        after = (after_rites after es reports).state;
        effects = (after_rites after es reports).effects;
      })
  becomes_said session store replies after es reports was none b = by_armed (is_event_armed after rites_event) refl reports
    where
      Done : State → List Effect → Type 0
      Done st fs = Becomes s k a talk session store waiting (texts_in a None fs) replies (record { after = st; effects = fs })

      silent : Done after es
      silent = subst (λ xs. Becomes s k a talk session store waiting xs replies (record { after = after; effects = es })) (sym none) b

      by_armed : (b : Bool) → is_event_armed after rites_event ≡ b → (rs : List ℕ)
          → Done (cond b (after_first_report after es rs) (record { state = after; reports = rs; effects = es })).state
          (cond b (after_first_report after es rs) (record { state = after; reports = rs; effects = es })).effects
      by_armed true arms [] = silent
      by_armed false arms rs = silent
      by_armed true arms (dead ∷ later) =
          let out = deliver after rites_event (report_text dead) in
          let two = deliveries_are_events s k a after was (after_events s a talk b.events) b.waits b.stands rites_event (report_text dead) arms in
          let both = becomes_then session store [] (replicate (deliveries_to a out.effects) (report_text dead)) replies
          (record { after = after; effects = es }) out.effects out.after b two in
          subst (λ xs. Becomes s k a talk session store waiting xs replies (record { after = out.after; effects = es ++ map (as_rites dead) out.effects }))
          (sym texts)
          (becomes_same session store ([] ++ replicate (deliveries_to a out.effects) (report_text dead)) replies
          (record { after = out.after; effects = es ++ out.effects }) (es ++ map (as_rites dead) out.effects)
          (said_same es out.effects s dead) (said_same es out.effects k dead) both)
        where
          texts : texts_in a None (es ++ map (as_rites dead) (deliver after rites_event (report_text dead)).effects)
              ≡ [] ++ replicate (deliveries_to a (deliver after rites_event (report_text dead)).effects) (report_text dead)
          texts = texts_append a None es (map (as_rites dead) (deliver after rites_event (report_text dead)).effects)
              ∙ (λ i. none i
              ++ (reports_told a dead (deliver after rites_event (report_text dead)).effects (tame_deliver after rites_event (report_text dead))
              ∙ lines_told a (report_text dead) (deliver after rites_event (report_text dead)).effects (tame_deliver after rites_event (report_text dead)))
              i)

-- the session waits for nothing, has sent nothing, and was told so
pub record Rests (s : ℕ) (heard : List Answer) (out : Outcome) : Type 0 where
  pub client : sight out.after s ≡ record { waits = Some block.Not; marks = mark.Frame ∷ []; letters = [] }
  pub untimed : timers_of out.after.timers s ≡ 0
  pub told : answers_to s out.effects ≡ heard

module _ (s : ℕ) (heard : List Answer) where
  -- a text after it leaves it
  rests_then : (one : Outcome) → Lawful one.after None → (e : ℕ) (text : List ℕ) → Rests s heard one
      → Rests s heard (record { after = (deliver one.after e text).after; effects = one.effects ++ (deliver one.after e text).effects })
  rests_then one was e text l =
      by_fate (deliveries_leave_it one.after was s (attends_seen one.after s block.Not (ap (λ x. x.waits) l.client) refl) l.untimed e text)
    where
      by_fate : IsLeft s one.after (deliver one.after e text) ⊎ IsWoken s (IsDelivered text) one.after (deliver one.after e text)
          → Rests s heard (record { after = (deliver one.after e text).after; effects = one.effects ++ (deliver one.after e text).effects })
      by_fate (inl left) = record {
        client = left.same ∙ l.client;
        untimed = omega (arith, l.untimed, (no_timer_comes_unasked one.after (is_timer_of s)).delivered e text);
        told = answers_append s one.effects (deliver one.after e text).effects ∙ (λ i. l.told i ++ left.quiet i) ∙ append-nil heard;
      }
      by_fate (inr woken) = absurd (let bad : Some block.Not ≡ Some (block.Receiving woken.from) = ap (λ x. x.waits) (sym l.client) ∙ woken.waited in cc)

  -- and so does a report
  pub rests_said : (after : State) (es : List Effect) (reports : List ℕ) → Lawful after None
      → Rests s heard (record { after = after; effects = es })
      → Rests s heard (record { after = (after_rites after es reports).state; effects = (after_rites after es reports).effects })
  rests_said after es reports was r = by_armed (is_event_armed after rites_event) reports
    where
      by_armed : (b : Bool) (rs : List ℕ)
          → Rests s heard (record {
            after = (cond b (after_first_report after es rs) (record { state = after; reports = rs; effects = es })).state;
            effects = (cond b (after_first_report after es rs) (record { state = after; reports = rs; effects = es })).effects;
          })
      by_armed true [] = r
      by_armed false rs = r
      by_armed true (dead ∷ later) =
          let out = deliver after rites_event (report_text dead) in
          let two = rests_then (record { after = after; effects = es }) was rites_event (report_text dead) r in
          record {
            client = two.client;
            untimed = two.untimed;
            told = answers_append s es (map (as_rites dead) out.effects) ∙ ap (λ x. answers_to s es ++ x) (rites_same s dead out.effects)
                ∙ sym (answers_append s es out.effects) ∙ two.told;
          }

-- a report bears nobody
pub births_said : (after : State) (es : List Effect) (reports : List ℕ) → (after_rites after es reports).state.births ≡ after.births
births_said after es reports = by_armed (is_event_armed after rites_event) reports
  where
    by_armed : (b : Bool) (rs : List ℕ)
        → (cond b (after_first_report after es rs) (record { state = after; reports = rs; effects = es })).state.births ≡ after.births
    by_armed true [] = refl
    by_armed false rs = refl
    by_armed true (dead ∷ later) = births_deliver after rites_event (report_text dead)

-- ---- a call of another, before the report

record Micro (s k a : ℕ) (talk : Talk) (waiting : List (List ℕ)) (after : State) (es : List Effect) : Type 0 where
  comes : Becomes s k a talk talk.session talk.store waiting [] [] (record { after = after; effects = es })
      ⊎ Leaves s talk (record { after = after; effects = es })
  lawful : Lawful after None
  texts : texts_in a None es ≡ []

module _ (s k a : ℕ) (st : State) (was : Lawful st None) (talk : Talk) (waiting : List (List ℕ)) (h : Stands s k a st talk waiting) (t : ℕ)
    (turn : choice st ≡ Some t)
    (t_s : eqb t s ≡ false) (t_k : eqb t k ≡ false) where
  abbrev After : State → List Effect → Type 0
  After after es = Micro s k a talk waiting after es

  -- no birth passes the agent's number while that isn't made
  abbrev Low : State → Type 0
  Low after = talk.session.place ≡ at.Start → after.births ≤ a

  after_as : (after : State) (es fs : List Effect) → answers_to s fs ≡ answers_to s es → answers_to k fs ≡ answers_to k es
      → texts_in a None fs ≡ texts_in a None es → After after es → After after fs
  after_as after es fs same same_k same_texts m = record { comes = by_comes m.comes; lawful = m.lawful; texts = same_texts ∙ m.texts }
    where
      by_comes : Becomes s k a talk talk.session talk.store waiting [] [] (record { after = after; effects = es })
          ⊎ Leaves s talk (record { after = after; effects = es })
          → Becomes s k a talk talk.session talk.store waiting [] [] (record { after = after; effects = fs })
          ⊎ Leaves s talk (record { after = after; effects = fs })
      by_comes (inl b) = inl (becomes_same s k a talk waiting talk.session talk.store [] [] (record { after = after; effects = es }) fs same same_k b)
      by_comes (inr l) = inr (leaves_same s k a talk waiting (record { after = after; effects = es }) fs same l)

  -- the call destroys neither of the two, or both are there after it
  abbrev Fine : Call → State → Type 0
  Fine c after = (spares_agent s k c ≡ true) ⊎ ((is_thread after s ≡ true) × (is_thread after k ≡ true))

  lives_seen : (u : ℕ) (b : Block) → (sight st u).waits ≡ Some b → is_thread st u ≡ true
  lives_seen u b seen = by_row (thread_of st u) seen
    where
      by_row : (o : Option ThreadRow) → option_map (λ (row : ThreadRow). row.block) o ≡ Some b → is_some o ≡ true
      by_row None e = absurd (cc)
      by_row (Some row) e = refl

  -- the session is there, and the store if there is one
  there_s : is_thread st s ≡ true
  there_s = lives_seen s (block_of (Some a) talk.client) (ap (λ x. x.waits) h.client)

  there_k : (b : Bool) → eqb s k ≡ b → is_thread st k ≡ true
  there_k true same = ap (is_thread st) (sym (eqb-true s k same)) ∙ there_s
  there_k false s_k = lives_seen k (block_of None talk.keeper) (ap (λ x. x.waits) (h.keeper s_k))

  spared_by : (c : Call) → Fine c (step st c).after → spares_agent s k c ≡ true
  spared_by c (inl spared) = spared
  spared_by c (inr alive) = by_end (ends_of c)
    where
      by_end : Ends c → spares_agent s k c ≡ true
      by_end (Spared fine free) = free s k
      by_end (Destroys v e) = subst (λ c. spares_agent s k c ≡ true) (sym e)
          (and_from _ _ (ap not (not_destroyed st was t s v turn there_s c e alive.0))
          (ap not (not_destroyed st was t k v turn (there_k (eqb s k) refl) c e alive.1)))

  after_step : (c : Call) → Fine c (step st c).after → Low (step st c).after → After (step st c).after (step st c).effects
  after_step c fine low = record {
    comes = others_calls_are_events s k a st was talk waiting h t turn t_s t_k c (spared_by c fine) low;
    lawful = Lawful-step st was c;
    texts = step_texts a st c;
  }

  -- a call that the machine doesn't see
  after_none : (c : Call) (x : Answer) → After st (effect.Called t c ∷ effect.Answered t x ∷ [])
  after_none c x = record {
    comes = inl (record {
      events = [];
      waits = waiting;
      session_then = refl;
      store_then = refl;
      stands = h;
      texts = sym (append-nil (talk.lines ++ waiting));
      said = sym (append-nil talk.told);
      heard = unheard talk.client (answers_to s (effect.Called t c ∷ effect.Answered t x ∷ [])) (rw t_s refl);
      heard_keeper = λ s_k. unheard talk.keeper (answers_to k (effect.Called t c ∷ effect.Answered t x ∷ [])) (rw t_k refl);
    });
    lawful = was;
    texts = refl;
  }

  after_but : (c : Call) → After (step st c).after (step st c).effects → After (but_call (step st c)).after (but_call (step st c)).effects
  after_but c m = after_as (step st c).after (step st c).effects (drop 1 (step st c).effects) (but_same s st c) (but_same k st c) (but_texts a st c) m

  after_trapped : (e : ℕ) (after : State) (es : List Effect) → After after es → After after (effect.Trapped t e ∷ es)
  after_trapped e after es m = after_as after es (effect.Trapped t e ∷ es) refl refl refl m

  module _ (trapped : List Bool) (c : Call) where
    after_made : Fine c (after_call st trapped t c).state → Low (after_call st trapped t c).state
        → After (after_call st trapped t c).state (after_call st trapped t c).effects
    after_made = by_trap (trap_of c)
      where
        by_refusal : (e : ℕ) (o : Option LwpErr) → Fine c (after_trap st trapped t c e o).state → Low (after_trap st trapped t c e o).state
            → After (after_trap st trapped t c e o).state (after_trap st trapped t c e o).effects
        by_refusal e None fine low = after_none c _
        by_refusal e (Some why) fine low = after_none c _

        by_agent : (b : Bool) → Fine c (cond b (after_refusal st trapped t c error.InUse) (after_machine_step trapped (step st c))).state
            → Low (cond b (after_refusal st trapped t c error.InUse) (after_machine_step trapped (step st c))).state
            → After (cond b (after_refusal st trapped t c error.InUse) (after_machine_step trapped (step st c))).state
            (cond b (after_refusal st trapped t c error.InUse) (after_machine_step trapped (step st c))).effects
        by_agent true fine low = after_none c _
        by_agent false fine low = after_step c fine low

        by_trap : (o : Option ℕ) → Fine c (after_call_as st trapped t c o).state → Low (after_call_as st trapped t c o).state
            → After (after_call_as st trapped t c o).state (after_call_as st trapped t c o).effects
        by_trap None fine low = by_agent (passes (is_trapped trapped) (agent_event_of c)) fine low
        by_trap (Some e) fine low = by_refusal e (trap_refusal st trapped e) fine low

    after_called : (pending : Option ℕ) → Fine c (after_trap_and_call st trapped t c pending).state
        → Low (after_trap_and_call st trapped t c pending).state
        → After (after_trap_and_call st trapped t c pending).state (after_trap_and_call st trapped t c pending).effects
    after_called None fine low = after_made fine low
    after_called (Some e) fine low = by_given (passes is_given (notice st t e)) (passes is_catch (notice st t e)) fine low
      where
        by_given : (b d : Bool)
            → Fine c (cond b (after_call st trapped t c) (cond d (after_machine_step trapped (but_call (step st (call.ExcNotify e))))
            (after_machine_step trapped (but_call (step st (call.Destroy t)))))).state
            → Low (cond b (after_call st trapped t c) (cond d (after_machine_step trapped (but_call (step st (call.ExcNotify e))))
            (after_machine_step trapped (but_call (step st (call.Destroy t)))))).state
            → After
            (cond b (after_call st trapped t c) (cond d (after_machine_step trapped (but_call (step st (call.ExcNotify e))))
            (after_machine_step trapped (but_call (step st (call.Destroy t)))))).state
            (effect.Trapped t e
            ∷ (cond b (after_call st trapped t c) (cond d (after_machine_step trapped (but_call (step st (call.ExcNotify e))))
            (after_machine_step trapped (but_call (step st (call.Destroy t)))))).effects)
        by_given true d fine low = after_trapped e _ _ (after_made fine low)
        by_given false true fine low = after_trapped e _ _ (after_but (call.ExcNotify e) (after_step (call.ExcNotify e) (inl refl) low))
        by_given false false fine low =
            after_trapped e _ _ (after_but (call.Destroy t) (after_step (call.Destroy t) (inl (and_from _ _ (ap not t_s) (ap not t_k))) low))

  -- and then the report
  abbrev Done : State → List Effect → Type 0
  Done after es = Becomes s k a talk talk.session talk.store waiting (texts_in a None es) [] (record { after = after; effects = es })
      ⊎ Leaves s talk (record { after = after; effects = es })

  after_said : (after : State) (es : List Effect) (reports : List ℕ) → After after es
      → Done (after_rites after es reports).state (after_rites after es reports).effects
  after_said after es reports m = by_comes m.comes
    where
      by_comes : Becomes s k a talk talk.session talk.store waiting [] [] (record { after = after; effects = es })
          ⊎ Leaves s talk (record { after = after; effects = es })
          → Done (after_rites after es reports).state (after_rites after es reports).effects
      by_comes (inl b) = inl (becomes_said s k a talk waiting talk.session talk.store [] after es reports m.lawful m.texts b)
      by_comes (inr l) =
          let r = rests_said s (nonexist ∷ []) after es reports m.lawful (record { client = l.client; untimed = l.untimed; told = l.told }) in
          inr (record { client = r.client; untimed = r.untimed; place = l.place; told = r.told })

  low_before : (after : State) (es : List Effect) (reports : List ℕ) → Low (after_rites after es reports).state → Low after
  low_before after es reports low place = omega (arith, low place, births_said after es reports)

module _ (s k a : ℕ) (es : EventState) (was : Lawful es.state None) (talk : Talk) (waiting : List (List ℕ))
    (h : Stands s k a es.state talk waiting) (t : ℕ) (turn : choice es.state ≡ Some t)
    (t_s : eqb t s ≡ false) (t_k : eqb t k ≡ false) (c : Call) where
  fine_before : (after : State) (fs : List Effect) (reports : List ℕ)
      → Fine s k a es.state was talk waiting h t turn t_s t_k c (after_rites after fs reports).state
      → Fine s k a es.state was talk waiting h t turn t_s t_k c after
  fine_before after fs reports (inl spared) = inl spared
  fine_before after fs reports (inr alive) = inr (sym (thread_said s after fs reports) ∙ alive.0, sym (thread_said k after fs reports) ∙ alive.1)

  calls_fine : Fine s k a es.state was talk waiting h t turn t_s t_k c (event_step es c).after.state
      → (talk.session.place ≡ at.Start → (event_step es c).after.state.births ≤ a)
      → Becomes s k a talk talk.session talk.store waiting (texts_in a None (event_step es c).effects) [] (machine_of (event_step es c))
      ⊎ Leaves s talk (machine_of (event_step es c))
  unfolding event_step event_step_by
  calls_fine fine low =
      let out = after_trap_and_call es.state es.trapped t c es.pending in
      let reports = reports_after es.state out.state es.reports out.effects in
      subst
      (λ o. Fine s k a es.state was talk waiting h t turn t_s t_k c (event_step_if es c o).after.state
      → (talk.session.place ≡ at.Start → (event_step_if es c o).after.state.births ≤ a)
      → Becomes s k a talk talk.session talk.store waiting (texts_in a None (event_step_if es c o).effects) [] (machine_of (event_step_if es c o))
      ⊎ Leaves s talk (machine_of (event_step_if es c o)))
      (sym turn)
      (λ fine low. after_said s k a es.state was talk waiting h t turn t_s t_k out.state out.effects reports
      (after_called s k a es.state was talk waiting h t turn t_s t_k es.trapped c es.pending (fine_before out.state out.effects reports fine)
      (low_before s k a es.state was talk waiting h t turn t_s t_k out.state out.effects reports low))) fine low

pub pods_calls_are_events : PodsCallsAreEvents
pods_calls_are_events s k a es was talk waiting h t turn t_s t_k c spared low = calls_fine s k a es was talk waiting h t turn t_s t_k c (inl spared) low

-- a call of another after which both are there
pub living_calls_are_events : LivingCallsAreEvents
living_calls_are_events s k a es was talk waiting h t turn t_s t_k c lives lives_k low =
    calls_fine s k a es was talk waiting h t turn t_s t_k c (inr (lives, lives_k)) low

pub takes_are_events : TakesAreEvents
unfolding take_event
takes_are_events s k a es was talk waiting h away e text may = by_trapped (is_trapped es.trapped e) may
  where
    still_told : texts_in a (Some text) (effect.Delivered null_id e ∷ []) ≡ []
    still_told = rw away refl

    by_trapped : (b : Bool) → cond b (may_trap es) (nat_lt e rites_event && is_event_armed es.state e) ≡ true
        → Becomes s k a talk talk.session talk.store waiting
        (texts_in a (Some text) (cond b (after_take_trap es e) (after_pass_on es (deliver es.state e text))).effects) []
        (machine_of (cond b (after_take_trap es e) (after_pass_on es (deliver es.state e text))))
    by_trapped true may = subst (λ xs. Becomes s k a talk talk.session talk.store waiting xs [] (machine_of (after_take_trap es e))) (sym still_told) (record {
      events = [];
      waits = waiting;
      session_then = refl;
      store_then = refl;
      stands = h;
      texts = sym (append-nil (talk.lines ++ waiting));
      said = sym (append-nil talk.told);
      heard = λ z x. x;
      heard_keeper = λ s_k z x. x;
    })
    by_trapped false may = subst (λ xs. Becomes s k a talk talk.session talk.store waiting xs [] (deliver es.state e text))
        (sym (lines_told a text (deliver es.state e text).effects (tame_deliver es.state e text)))
        (deliveries_are_events s k a es.state was talk waiting h e text (and_parts (nat_lt e rites_event) (is_event_armed es.state e) may).1)
