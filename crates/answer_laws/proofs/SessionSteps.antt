-- What the session's calls come to in a pod that stands as a talk.
use Rattle.answer_laws.proofs.AgentSights.{kept_post}
use Rattle.answer_laws.proofs.Others.{others_leave_it}
use Rattle.answer_laws.proofs.Owners.{owners_of_none_are_refused, owners_receive, owners_reply, sends_are_letters, told_itself}
use Rattle.answer_laws.proofs.StoreSteps.{Checked, Checked.Free, Checked.Struck, checked, own_is}
use Rattle.answer_laws.proofs.AgentTexts.{At, at_of}
use Rattle.answer_laws.proofs.TalkSteps.{apart_of, attends_seen, attentive, awaits, either_of, heard_one}
use Rattle.answer_laws.proofs.TalkSteps.{neither, talked_append, unborn_absent, unheard, unsome}
use Rattle.answer_laws.proofs.TalkTexts.{becomes_as, line_is, unborn_silent}
use Rattle.answer_laws.specs.Agents.{agent_sight}
use Rattle.answer_laws.specs.Clients.{names_only, replies_of_step, reply_to, sends_nothing, sends_well}
use Rattle.answer_laws.specs.Lengths.{is_short}
use Rattle.answer_laws.specs.Owners.{Sends, new_letter, sending}
use Rattle.answer_laws.specs.Sights.{IsLeft, IsSent, IsWoken, Sight, Spares, answers_to, going_on, sight}
use Rattle.answer_laws.specs.Stands.{AgentIs, AgentIs.Gone, AgentIs.Made, AgentIs.Unmade, AgentLetters, AgentLetters.Idle, AgentLetters.Owed}
use Rattle.answer_laws.specs.Stands.{AgentLetters.Waiting, Becomes, IsHeard, OpensInVain, SessionsCallsAreEvents, Stands, block_of, goes_on_with}
use Rattle.answer_laws.specs.Stands.{is_posted, is_reading, is_short_reply, knows, line_letter, mail_letters, owes}
use Rattle.answer_laws.specs.Talks.{Event, Event.Line, Event.OwnLetter, Event.SessionTurn, Mail, Mail.Nothing, Mail.Received}
use Rattle.answer_laws.specs.Talks.{Mail.Sent, Stand, Stand.AwaitsLetter, Stand.AwaitsReply, Stand.Hears, Stand.IsOver, Talk}
use Rattle.answer_laws.specs.Talks.{after_events, after_agent_reply, deed_of, session_calls, session_turn}
use Rattle.line_server.specs.Commands.{Command, command_of}
use Rattle.line_server.specs.Sessions.{SessionBody, session_at, session_by, session_next, session_turn_after_agent, session_turn_after_letter}
use Rattle.line_server.specs.Sessions.{session_receives, session_replies, session_returns, session_sends, session_turn_after_reply}
use Rattle.line_server.specs.Tables.{is_quit}
use Rattle.line_server.specs.Turns.{Turn, is_replied, stops}
use Rattle.line_server.specs.declared.session.SessionPlace.{SessionPlace}
use Rattle.line_server.specs.declared.session.SessionPlace.TheVariants as at
use Rattle.lwp_types.specs.Agents.{after_agent_birth, new_agent}
use Rattle.lwp_types.specs.Case.{answer_case, is_at_limit, is_full, is_itself, is_no_thread, refusal_case, silent_case}
use Rattle.lwp_types.specs.Choice.{choice}
use Rattle.lwp_types.specs.CountLaws.{count-append}
use Rattle.lwp_types.specs.Counts.{timers_of}
use Rattle.lwp_types.specs.Lawful.{Lawful}
use Rattle.lwp_types.specs.Messages.{as_received, is_letter_of, is_to, post, takes_from}
use Rattle.lwp_types.specs.Names.{Names, id_at}
use Rattle.lwp_types.specs.State.{Outcome, State, ThreadRow, agent_of, is_agent, is_agent_row, is_id, is_thread, passes, thread_of}
use Rattle.lwp_types.specs.Step.{case_of, step, step_by, step_if, step_outcome}
use Rattle.lwp_types.specs.Unblock.{after_block, is_timer_of, nonexist, zero_answer}
use Rattle.lwp_types.specs.declared.call.Answer.{Answer}
use Rattle.lwp_types.specs.declared.call.Call.{Call}
use Rattle.lwp_types.specs.declared.call.Effect.{Effect}
use Rattle.lwp_types.specs.declared.rows.AgentRow.{AgentRow}
use Rattle.lwp_types.specs.declared.rows.Letter.{Letter}
use Rattle.pod_laws.proofs.Elements.{differ, find_push_new}
use Rattle.pod_laws.proofs.Holding.{no_thread}
use Rattle.pod_laws.proofs.Fading.{step_fades}
use Rattle.pod_laws.proofs.TimerMoves.{no_timer_comes_unasked}
use Rattle.pod_laws.specs.Timers.{timers_of_call}
use Rattle.pod_laws.specs.Waiters.{is_told, is_zero}
use Rattle.std.proofs.Common.{Bool, List, None, Option, Some, [], ap, append-nil, arith, cond, count_by, eqb, false, inl, inr}
use Rattle.std.proofs.Common.{length, refl, subst, sym, true, ℕ, ◌&&◌, ◌++◌, ◌<◌, ◌||◌, ◌∙◌, ◌∷◌, ◌≡◌, ◌≢◌, ◌≤◌, ◌⊎◌}
use Rattle.std.proofs.lemmas.Bool.{eq-eqb, eqb-true, leb-true, ne_eqb}
use Rattle.std.specs.List.{filter, list_all, list_any}
use Rattle.std.specs.Prelude.{codes, is_some, nat_lt}
use Rattle.lwp_types.specs.declared.call.Answer.TheVariants as answer
use Rattle.lwp_types.specs.declared.call.Call.TheVariants as call
use Rattle.lwp_types.specs.declared.call.Effect.TheVariants as effect
use Rattle.lwp_types.specs.declared.call.LwpErr.TheVariants as error
use Rattle.lwp_types.specs.declared.call.Mode.TheVariants as mode
use Rattle.lwp_types.specs.declared.rows.Block.TheVariants as block
use Rattle.lwp_types.specs.declared.rows.Mark.TheVariants as mark

-- the session goes on as this body
abbrev SessionGoesOn : (s k a : ℕ) → Talk → List (List ℕ) → List (List ℕ) → SessionBody → Outcome → Type 0
SessionGoesOn s k a talk waiting replies body out = Becomes s k a talk body talk.store waiting [] replies out

-- ---- what a session does

-- a body that knows its agent, and owes it no reply, or owes one, however it goes on
record Then (a : ℕ) (owed : Bool) (body : SessionBody) (stand : Stand) : Type 0 where
  knows_it : knows a body.agent body.place stand ≡ true
  owes_so : owes body.place stand ≡ owed

data SessionDoes (a : ℕ) (owed : Bool) (turn : Turn SessionBody) : Type 0 where
  DoesReceive : (body : SessionBody) → owed ≡ false → turn ≡ (call.Recv (Some a) mode.Block, session_at body at.Recv) → body.agent ≡ a → SessionDoes a owed turn
  DoesReply : (text : List ℕ) (body : SessionBody) → owed ≡ true → turn ≡ (call.Reply a text, body)
      → ((x : Answer) → Then a false body (Hears x)) → SessionDoes a owed turn
  DoesSend : (to : ℕ) (text : List ℕ) (body : SessionBody) → owed ≡ true → turn ≡ (call.Send to 240 text, session_at body at.Send)
      → body.agent ≡ a → SessionDoes a owed turn
  DoesStop : turn.0 ≡ call.Return → SessionDoes a owed turn

module _ (a : ℕ) (body : SessionBody) (names : Names) where
  is_its : eqb body.agent a ≡ true → body.agent ≡ a
  is_its e = eqb-true body.agent a e

  does_receive : (owed : Bool) → owed ≡ false → eqb body.agent a ≡ true → SessionDoes a owed (session_receives body)
  does_receive owed o k = DoesReceive body o (λ i. (call.Recv (Some (is_its k i)) mode.Block, session_at body at.Recv)) (is_its k)

  does_reply : (owed : Bool) → owed ≡ true → (text : List ℕ) → eqb body.agent a ≡ true → SessionDoes a owed (session_replies body text)
  does_reply owed o text k =
      DoesReply text (session_at body at.Reply) o (λ i. (call.Reply (is_its k i) text, session_at body at.Reply)) (λ x. record { knows_it = k; owes_so = refl })

  does_bye : (owed : Bool) → owed ≡ true → eqb body.agent a ≡ true → SessionDoes a owed (call.Reply body.agent (codes "bye"), session_at body at.Bye)
  does_bye owed o k = DoesReply (codes "bye") (session_at body at.Bye) o
      (λ i. (call.Reply (is_its k i) (codes "bye"), session_at body at.Bye)) (λ x. record { knows_it = k; owes_so = refl })

  does_sends : (text : List ℕ) (o : Option Command) → eqb body.agent a ≡ true → SessionDoes a true (session_sends body names text o)
  does_sends text None k = does_reply true refl (codes "bad") k
  does_sends text (Some c) k = DoesSend (id_at names.threads body.store) text body refl refl (is_its k)

  does_reads : (text : List ℕ) (b : Bool) → eqb body.agent a ≡ true
      → SessionDoes a true (cond b (call.Reply body.agent (codes "bye"), session_at body at.Bye) (session_sends body names text (command_of text)))
  does_reads text true k = does_bye true refl k
  does_reads text false k = does_sends text (command_of text) k

  does_after : (b : Bool) → eqb body.agent a ≡ true → SessionDoes a false (cond b (session_receives body) (stops body))
  does_after true k = does_receive false refl k
  does_after false k = DoesStop refl

  does_returns : (b : Bool) → SessionDoes a false (cond b (session_returns body) (stops body))
  does_returns true = DoesStop refl
  does_returns false = DoesStop refl

  does_opened : (x : Answer) → knows a body.agent at.Agent (Hears x) ≡ true → SessionDoes a false (session_turn_after_agent body x)
  does_opened (answer.Thread b) k = DoesReceive (record body { agent = b }) refl
      (λ i. (call.Recv (Some (eqb-true b a k i)) mode.Block, session_at (record body { agent = b }) at.Recv)) (eqb-true b a k)
  does_opened (answer.Refused e) k = DoesStop refl
  does_opened (answer.Letter from text room) k = DoesStop refl
  does_opened (answer.Value v) k = DoesStop refl
  does_opened (answer.Monitor t) k = DoesStop refl
  does_opened (answer.Cond t) k = DoesStop refl
  does_opened (answer.Reply text) k = DoesStop refl
  does_opened (answer.Bound f arg) k = DoesStop refl
  does_opened (answer.Caught d m p) k = DoesStop refl
  does_opened (answer.Ids n ns) k = DoesStop refl

  does_received : (x : Answer) → eqb body.agent a ≡ true → SessionDoes a (owes at.Recv (Hears x)) (session_turn_after_letter body names x)
  does_received (answer.Letter from text room) k = does_reads text (is_quit text) k
  does_received (answer.Refused e) k = DoesStop refl
  does_received (answer.Thread b) k = DoesStop refl
  does_received (answer.Value v) k = DoesStop refl
  does_received (answer.Monitor t) k = DoesStop refl
  does_received (answer.Cond t) k = DoesStop refl
  does_received (answer.Reply text) k = DoesStop refl
  does_received (answer.Bound f arg) k = DoesStop refl
  does_received (answer.Caught d m p) k = DoesStop refl
  does_received (answer.Ids n ns) k = DoesStop refl

  does_told : (x : Answer) → eqb body.agent a ≡ true → SessionDoes a true (session_turn_after_reply body x)
  does_told (answer.Reply text) k = does_reply true refl text k
  does_told (answer.Refused e) k = does_reply true refl (codes "down") k
  does_told (answer.Letter from text room) k = DoesStop refl
  does_told (answer.Thread b) k = DoesStop refl
  does_told (answer.Value v) k = DoesStop refl
  does_told (answer.Monitor t) k = DoesStop refl
  does_told (answer.Cond t) k = DoesStop refl
  does_told (answer.Bound f arg) k = DoesStop refl
  does_told (answer.Caught d m p) k = DoesStop refl
  does_told (answer.Ids n ns) k = DoesStop refl

  does_by : (x : Answer) (p : SessionPlace) → knows a body.agent p (Hears x) ≡ true → SessionDoes a (owes p (Hears x)) (session_by body names x p)
  does_by x at.Start k = absurd (cc)
  does_by x at.Agent k = does_opened x k
  does_by x at.Recv k = does_received x k
  does_by x at.Send k = does_told x k
  does_by x at.Reply k = does_after (is_replied x) k
  does_by x at.Bye k = does_returns (is_replied x)
  does_by x at.End k = DoesStop refl

pub hears_no_mail : (x : Answer) (m : Mail) → is_posted (Hears x) m ≡ true → m ≡ Nothing
hears_no_mail x Nothing h = refl
hears_no_mail x (Sent text) h = absurd (cc)
hears_no_mail x (Received text) h = absurd (cc)

-- a zero is told exactly if it is among the answers
pub told_any : (s : ℕ) (es : List Effect) → list_any (is_told s is_zero) es ≡ list_any is_zero (answers_to s es)
told_any s [] = refl
told_any s (effect.Answered t a ∷ es) = by_test (eqb t s) (told_any s es)
  where
    push : Option Answer → List Answer → List Answer
    push None rest = rest
    push (Some a) rest = a ∷ rest

    by_test : (b : Bool) → list_any (is_told s is_zero) es ≡ list_any is_zero (answers_to s es)
        → ((b && is_zero a) || list_any (is_told s is_zero) es) ≡ list_any is_zero (push (cond b (Some a) None) (answers_to s es))
    by_test true rest = ap (λ y. is_zero a || y) rest
    by_test false rest = rest
told_any s (effect.Called t c ∷ es) = told_any s es
told_any s (effect.Exited t reg c a ∷ es) = told_any s es
told_any s (effect.Died t ∷ es) = told_any s es
told_any s (effect.Delivered a e ∷ es) = told_any s es
told_any s (effect.Ticked now ∷ es) = told_any s es
told_any s (effect.Ended status ∷ es) = told_any s es
told_any s (effect.Trapped t e ∷ es) = told_any s es
told_any s (effect.Rites a d ∷ es) = told_any s es

module _ (s k a : ℕ) (st : State) (was : Lawful st None) (talk : Talk) (waiting : List (List ℕ)) (h : Stands s k a st talk waiting)
    (turn : choice st ≡ Some s) (x : Answer) (hears : talk.client ≡ Hears x) where
  mail : talk.mail ≡ Nothing
  mail = hears_no_mail x talk.mail (subst (λ c. is_posted c talk.mail ≡ true) hears h.posted)

  s_row : At st s (block_of (Some a) talk.client)
  s_row = at_of st s (block_of (Some a) talk.client) (ap (λ x. x.waits) h.client)

  k_row : eqb s k ≡ false → At st k (block_of None talk.keeper)
  k_row s_k = at_of st k (block_of None talk.keeper) (ap (λ x. x.waits) (h.keeper s_k))

  s_seen : sight st s ≡ record { waits = Some block.Not; marks = mark.Frame ∷ []; letters = mail_letters s k talk.mail }
  s_seen = h.client ∙ ap (λ c. record { waits = Some (block_of (Some a) c); marks = mark.Frame ∷ []; letters = mail_letters s k talk.mail }) hears

  step_is : (c : Call) → step st c ≡ step_outcome s c (case_of st s c)
  unfolding step step_by
  step_is c = ap (step_if st c) turn

  untimed_after : (c : Call) → (u : ℕ) → timers_of_call st (Some s) c ≡ [] → timers_of st.timers u ≡ 0 → timers_of (step st c).after.timers u ≡ 0
  untimed_after c u asks none = omega (
    arith,
    none,
    (no_timer_comes_unasked st (is_timer_of u)).called c,
    count-append (is_timer_of u) st.timers (timers_of_call st (choice st) c),
    ap (λ o. count_by (is_timer_of u) (timers_of_call st o c)) turn,
    ap (count_by (is_timer_of u)) asks,
  )

  -- the store is left, unless it is written to
  k_left : (c : Call) → Spares st k c → ((room : ℕ) (text : List ℕ) → c ≡ call.Send k room text → ⊥) → eqb s k ≡ false → IsLeft k st (step st c)
  k_left c spared never s_k = by_fate (others_leave_it st was s k turn s_k (attends_seen st k (block_of None talk.keeper)
      (ap (λ x. x.waits) (h.keeper s_k)) (attentive None talk.keeper)) (ap (λ x. count_by (is_to s) x.letters) (h.keeper s_k)) c spared)
    where
      by_fate : IsLeft k st (step st c) ⊎ IsWoken k (IsSent s k c) st (step st c) → IsLeft k st (step st c)
      by_fate (inl left) = left
      by_fate (inr woken) = by_right (awaits None woken.from talk.keeper (unsome (sym (ap (λ x. x.waits) (h.keeper s_k)) ∙ woken.waited))) woken.right
        where
          by_right : (talk.keeper ≡ AwaitsLetter) × (woken.from ≡ None)
              → IsSent s k c woken.from woken.heard ⊎ ((woken.heard ≡ nonexist) × (is_some woken.from ≡ true)) → IsLeft k st (step st c)
          by_right w (inl sent) = absurd (never sent.room sent.text sent.sends)
          by_right w (inr none) = differ (sym none.1 ∙ ap is_some w.1)

  -- ---- its replies

  replied_by : (c : Call) → replies_of_step s a (step st c).effects ≡ cond (eqb s s && list_any (is_told s is_zero) (step st c).effects) (reply_to a c) []
  replied_by c = ap (λ out. replies_of_step s a out.effects) (step_is c)
      ∙ sym (ap (λ out. cond (eqb s s && list_any (is_told s is_zero) out.effects) (reply_to a c) []) (step_is c))

  replied_none : (c : Call) → reply_to a c ≡ [] → replies_of_step s a (step st c).effects ≡ []
  replied_none c none = replied_by c ∙ ap (λ xs. cond (eqb s s && list_any (is_told s is_zero) (step st c).effects) xs []) none
      ∙ by_test (eqb s s && list_any (is_told s is_zero) (step st c).effects)
    where
      by_test : (b : Bool) → cond {A = List (List ℕ)} b [] [] ≡ []
      by_test true = refl
      by_test false = refl

  replied_one : (text : List ℕ) (b : Bool) → list_any is_zero (answers_to s (step st (call.Reply a text)).effects) ≡ b
      → replies_of_step s a (step st (call.Reply a text)).effects ≡ cond b (text ∷ []) []
  replied_one text b zero = replied_by (call.Reply a text) ∙ rw (eq-eqb s s refl, told_any s (step st (call.Reply a text)).effects, zero, eq-eqb a a refl) refl

  -- ---- the whole

  goes : (c : Call) (body : SessionBody) (later : Talk) (events : List Event) → after_events s a talk events ≡ later → later.session ≡ body
      → later.store ≡ talk.store → (waits : List (List ℕ)) → Stands s k a (step st c).after later waits
      → later.lines ++ waits ≡ (talk.lines ++ waiting) ++ [] → later.told ≡ talk.told ++ replies_of_step s a (step st c).effects
      → IsHeard talk.client later.client (answers_to s (step st c).effects)
      → (eqb s k ≡ false → IsHeard talk.keeper later.keeper (answers_to k (step st c).effects))
      → SessionGoesOn s k a talk waiting (replies_of_step s a (step st c).effects) body (step st c)
  goes c body later events now its its_store waits stands texts said heard heard_keeper = becomes_as s k a talk body talk.store waiting []
      (replies_of_step s a (step st c).effects) (step st c) events later now its its_store waits stands texts said heard heard_keeper

  gone_after : (c : Call) → is_id st a ≡ false → a < st.births → is_id (step st c).after a ≡ false
  gone_after c off below = let parts = either_of (is_thread st a) (is_agent st a) off in
      neither (is_thread (step st c).after a) (is_agent (step st c).after a) ((step_fades a st c).threads below parts.0)
      ((step_fades a st c).agents below parts.1)

  below_after : (c : Call) → a < st.births → a < (step st c).after.births
  below_after c below = omega (arith, below, (step_fades a st c).births)

  module _ (names : Names) (known : knows a talk.session.agent talk.session.place (Hears x) ≡ true) where
    not_start : talk.session.place ≡ at.Start → ⊥
    not_start start = let bad : false ≡ true = ap (λ p. knows a talk.session.agent p (Hears x)) (sym start) ∙ known in cc

    owed_is : owes talk.session.place talk.client ≡ owes talk.session.place (Hears x)
    owed_is = ap (owes talk.session.place) hears

    -- ---- it receives

    module _ (body : SessionBody) (its : body.agent ≡ a) (free : owes talk.session.place (Hears x) ≡ false)
        (now : after_events s a talk (SessionTurn names ∷ [])
        ≡ record talk { session = session_at body at.Recv; client = cond talk.agent_lives AwaitsLetter (Hears nonexist) }) where
      abbrev recv : Call
      recv = call.Recv (Some a) mode.Block

      abbrev Goal : Type 0
      Goal = SessionGoesOn s k a talk waiting (replies_of_step s a (step st recv).effects) (session_at body at.Recv) (step st recv)

      left : eqb s k ≡ false → IsLeft k st (step st recv)
      left = k_left recv tt (λ room text e. absurd (cc))

      said_none : talk.told ≡ talk.told ++ replies_of_step s a (step st recv).effects
      said_none = sym (append-nil talk.told) ∙ ap (λ xs. talk.told ++ xs) (sym (replied_none recv refl))

      known_so : eqb body.agent a ≡ true
      known_so = eq-eqb body.agent a its

      receives_made : (row : AgentRow) → agent_of st.agents a ≡ Some row → row.owner ≡ s → talk.agent_lives ≡ true
          → AgentLetters s a (owes talk.session.place talk.client) waiting (agent_sight st a).letters → Goal
      receives_made row there owns lives (Owed text owed none letters) = differ (sym owed ∙ owed_is ∙ free)
      receives_made row there owns lives (Idle owed none letters) =
          let r = (owners_receive st was s a row turn there owns).waits (ap (list_all (λ (l : Letter). l.received)) letters) in
          goes recv (session_at body at.Recv) (record talk { session = session_at body at.Recv; client = AwaitsLetter }) (SessionTurn names ∷ [])
          (now ∙ ap (λ b. record talk { session = session_at body at.Recv; client = cond b AwaitsLetter (Hears nonexist) }) lives) refl refl waiting
          (record {
            client = r.itself_then ∙ ap (λ (v : Sight). record v { waits = Some (block.Receiving (Some a)) }) s_seen;
            keeper = λ s_k. (left s_k).same ∙ h.keeper s_k;
            posted = ap (is_posted AwaitsLetter) mail;
            placed = refl;
            reads = h.reads;
            untimed = untimed_after recv s refl h.untimed;
            untimed_keeper = λ s_k. untimed_after recv k refl (h.untimed_keeper s_k);
            alone = λ same. record { mail = (h.alone same).mail; keeper = (h.alone same).keeper };
            agent = Made row (ap (λ x. x.row) r.agent_then ∙ there) owns lives known_so (Idle refl none (ap (λ x. x.letters) r.agent_then ∙ letters));
          })
          (sym (append-nil (talk.lines ++ waiting))) said_none (λ z heard. tt)
          (λ s_k. unheard talk.keeper (answers_to k (step st recv).effects) (left s_k).quiet)
      receives_made row there owns lives (Waiting text owed some letters) =
          let r = (owners_receive st was s a row turn there owns).finds (line_letter a s text false) letters refl in
          goes recv (session_at body at.Recv)
          (record talk { session = session_at body at.Recv; client = Hears (answer.Letter a text 240); lines = talk.lines ++ text ∷ [] })
          (SessionTurn names ∷ Line text ∷ [])
          (talked_append s a talk (SessionTurn names ∷ []) (Line text ∷ [])
          ∙ ap (λ t. after_events s a t (Line text ∷ [])) (now
          ∙ ap (λ b. record talk { session = session_at body at.Recv; client = cond b AwaitsLetter (Hears nonexist) }) lives)
          ∙ line_is s a text (record talk { session = session_at body at.Recv; client = AwaitsLetter }) refl lives) refl refl []
          (record {
            client = r.itself_then ∙ s_seen;
            keeper = λ s_k. (left s_k).same ∙ h.keeper s_k;
            posted = ap (is_posted (Hears (answer.Letter a text 240))) mail;
            placed = refl;
            reads = h.reads;
            untimed = untimed_after recv s refl h.untimed;
            untimed_keeper = λ s_k. untimed_after recv k refl (h.untimed_keeper s_k);
            alone = λ same. record { mail = (h.alone same).mail; keeper = (h.alone same).keeper };
            agent = Made row (ap (λ x. x.row) r.agent_then) owns lives known_so (Owed text refl refl (ap (λ x. x.letters) r.agent_then));
          })
          (ap (λ w. (talk.lines ++ w) ++ []) (sym some)) said_none
          (heard_one talk.client (answer.Letter a text 240) (answers_to s (step st recv).effects) r.told)
          (λ s_k. unheard talk.keeper (answers_to k (step st recv).effects) (left s_k).quiet)

      receives_by : AgentIs s a st talk waiting → Goal
      receives_by (Unmade below place lives none) = absurd (not_start place)
      receives_by (Made row there owns lives known2 letters) = receives_made row there owns lives letters
      receives_by (Gone off below lives known2) =
          let r = ((owners_of_none_are_refused st s a turn off).0 mode.Block).refused in
          goes recv (session_at body at.Recv) (record talk { session = session_at body at.Recv; client = Hears nonexist }) (SessionTurn names ∷ [])
          (now ∙ ap (λ b. record talk { session = session_at body at.Recv; client = cond b AwaitsLetter (Hears nonexist) }) lives) refl refl waiting
          (record {
            client = r.itself_then ∙ s_seen;
            keeper = λ s_k. (left s_k).same ∙ h.keeper s_k;
            posted = ap (is_posted (Hears nonexist)) mail;
            placed = refl;
            reads = h.reads;
            untimed = untimed_after recv s refl h.untimed;
            untimed_keeper = λ s_k. untimed_after recv k refl (h.untimed_keeper s_k);
            alone = λ same. record { mail = (h.alone same).mail; keeper = (h.alone same).keeper };
            agent = Gone (gone_after recv off below) (below_after recv below) lives known_so;
          })
          (sym (append-nil (talk.lines ++ waiting))) said_none (heard_one talk.client nonexist (answers_to s (step st recv).effects) r.told)
          (λ s_k. unheard talk.keeper (answers_to k (step st recv).effects) (left s_k).quiet)

    -- ---- it replies

    module _ (body : SessionBody) (text : List ℕ) (later_so : (y : Answer) → Then a false body (Hears y))
        (owed : owes talk.session.place (Hears x) ≡ true) (short : talk.agent_lives ≡ true → is_short text ≡ true)
        (now : after_events s a talk (SessionTurn names ∷ [])
        ≡ after_agent_reply (record talk { session = body }) text) where
      abbrev reply : Call
      reply = call.Reply a text

      abbrev GoalReply : Type 0
      GoalReply = SessionGoesOn s k a talk waiting (replies_of_step s a (step st reply).effects) body (step st reply)

      left_reply : eqb s k ≡ false → IsLeft k st (step st reply)
      left_reply = k_left reply tt (λ room text e. absurd (cc))

      replies_made : (row : AgentRow) → agent_of st.agents a ≡ Some row → row.owner ≡ s → talk.agent_lives ≡ true
          → AgentLetters s a (owes talk.session.place talk.client) waiting (agent_sight st a).letters → GoalReply
      replies_made row there owns lives (Idle free none letters) = differ (sym owed ∙ sym owed_is ∙ free)
      replies_made row there owns lives (Waiting line free some letters) = differ (sym owed ∙ sym owed_is ∙ free)
      replies_made row there owns lives (Owed line owed2 none letters) =
          let r = owners_reply st was s a row turn there owns (line_letter a s line true) letters refl text (leb-true (length text) 240 (short lives)) in
          goes reply body (record talk { session = body; told = talk.told ++ text ∷ []; client = Hears zero_answer }) (SessionTurn names ∷ [])
          (now
          ∙ ap (λ b. cond b (record talk { session = body; told = talk.told ++ text ∷ []; client = Hears zero_answer })
          (record talk { session = body; client = Hears nonexist }))
          lives)
          refl refl waiting
          (record {
            client = r.itself_then ∙ s_seen;
            keeper = λ s_k. (left_reply s_k).same ∙ h.keeper s_k;
            posted = ap (is_posted (Hears zero_answer)) mail;
            placed = refl;
            reads = h.reads;
            untimed = untimed_after reply s refl h.untimed;
            untimed_keeper = λ s_k. untimed_after reply k refl (h.untimed_keeper s_k);
            alone = λ same. record { mail = (h.alone same).mail; keeper = (h.alone same).keeper };
            agent = Made (record row { holding = false }) (ap (λ x. x.row) r.agent_then) owns lives (later_so zero_answer).knows_it
                (Idle (later_so zero_answer).owes_so none (ap (λ x. x.letters) r.agent_then));
          })
          (sym (append-nil (talk.lines ++ waiting))) (ap (λ xs. talk.told ++ xs) (sym (replied_one text true (ap (list_any is_zero) r.told)))) (heard_one
          talk.client zero_answer (answers_to s (step st reply).effects) r.told)
          (λ s_k. unheard talk.keeper (answers_to k (step st reply).effects) (left_reply s_k).quiet)

      replies_by : AgentIs s a st talk waiting → GoalReply
      replies_by (Unmade below place lives none) = absurd (not_start place)
      replies_by (Made row there owns lives known2 letters) = replies_made row there owns lives letters
      replies_by (Gone off below lives known2) =
          let r = ((owners_of_none_are_refused st s a turn off).1 text).refused in
          goes reply body (record talk { session = body; client = Hears nonexist }) (SessionTurn names ∷ [])
          (now
          ∙ ap (λ b. cond b (record talk { session = body; told = talk.told ++ text ∷ []; client = Hears zero_answer })
          (record talk { session = body; client = Hears nonexist }))
          lives)
          refl refl waiting
          (record {
            client = r.itself_then ∙ s_seen;
            keeper = λ s_k. (left_reply s_k).same ∙ h.keeper s_k;
            posted = ap (is_posted (Hears nonexist)) mail;
            placed = refl;
            reads = h.reads;
            untimed = untimed_after reply s refl h.untimed;
            untimed_keeper = λ s_k. untimed_after reply k refl (h.untimed_keeper s_k);
            alone = λ same. record { mail = (h.alone same).mail; keeper = (h.alone same).keeper };
            agent = Gone (gone_after reply off below) (below_after reply below) lives (later_so nonexist).knows_it;
          })
          (sym (append-nil (talk.lines ++ waiting)))
          (sym (append-nil talk.told) ∙ ap (λ xs. talk.told ++ xs) (sym (replied_one text false (ap (list_any is_zero) r.told))))
          (heard_one talk.client nonexist (answers_to s (step st reply).effects) r.told)
          (λ s_k. unheard talk.keeper (answers_to k (step st reply).effects) (left_reply s_k).quiet)

    -- ---- it sends

    module _ (s_k : eqb s k ≡ false) (body : SessionBody) (its : body.agent ≡ a) (text : List ℕ)
        (owed : owes talk.session.place (Hears x) ≡ true) (now : after_events s a talk (SessionTurn names ∷ [])
        ≡ record talk { session = session_at body at.Send; mail = Sent text; client = AwaitsReply }) where
      abbrev send : Call
      send = call.Send k 240 text

      abbrev GoalSend : Type 0
      GoalSend = SessionGoesOn s k a talk waiting (replies_of_step s a (step st send).effects) (session_at body at.Send) (step st send)

      sends : Sends st s k 240 text (step st send)
      sends = sends_are_letters st was s k turn (ap is_some (k_row s_k).known) (ne_eqb k s (λ e. apart_of s k s_k (sym e))) 240 text

      agent_kept : s ≢ a → agent_sight (step st send).after a ≡ agent_sight st a
      agent_kept other = ap (λ out. agent_sight out.after a) (step_is send) ∙ by_checks (checked st _ _)
        where
          by_checks : Checked st (is_no_thread st k ∷ is_itself s k ∷ []) (silent_case (post (new_letter s k 240 text) (after_block st s block.Sending)))
              → agent_sight (step_outcome s send (case_of st s send)).after a ≡ agent_sight st a
          by_checks (Struck e is) = ap (λ made. agent_sight (step_outcome s send made).after a) is
          by_checks (Free passed is) = ap (λ made. agent_sight (step_outcome s send made).after a) is
              ∙ kept_post a (after_block st s block.Sending) (new_letter s k 240 text) other

      known_send : eqb body.agent a ≡ true
      known_send = eq-eqb body.agent a its

      agent_send : (later : Talk) → later.session ≡ session_at body at.Send → later.agent_lives ≡ talk.agent_lives
          → AgentIs s a st talk waiting → AgentIs s a (step st send).after later waiting
      agent_send later same lives2 (Unmade below place lives none) = absurd (not_start place)
      agent_send later same lives2 (Made row there owns lives known2 letters) =
          let other : s ≢ a = λ e. differ (sym (ap is_some s_row.known) ∙ ap (is_thread st) e ∙ no_thread st None was.nine a row there) in
          let kept = agent_kept other in
          Made row (ap (λ x. x.row) kept ∙ there) owns (lives2 ∙ lives) (ap (λ (b : SessionBody). knows a b.agent b.place later.client) same ∙ known_send)
          (subst (λ b. AgentLetters s a b waiting (agent_sight (step st send).after a).letters)
          (sym (ap (λ (b : SessionBody). owes b.place later.client) same)) (owed_on (ap (λ x. x.letters) kept) letters))
        where
          owed_on : (agent_sight (step st send).after a).letters ≡ (agent_sight st a).letters
              → AgentLetters s a (owes talk.session.place talk.client) waiting (agent_sight st a).letters
              → AgentLetters s a true waiting (agent_sight (step st send).after a).letters
          owed_on kept (Idle free none letters) = differ (sym owed ∙ sym owed_is ∙ free)
          owed_on kept (Waiting line free some letters) = differ (sym owed ∙ sym owed_is ∙ free)
          owed_on kept (Owed line o none letters) = Owed line refl none (kept ∙ letters)
      agent_send later same lives2 (Gone off below lives known2) = Gone (gone_after send off below) (below_after send below)
          (lives2 ∙ lives) (ap (λ (b : SessionBody). knows a b.agent b.place later.client) same ∙ known_send)

      said_send : talk.told ≡ talk.told ++ replies_of_step s a (step st send).effects
      said_send = sym (append-nil talk.told) ∙ ap (λ xs. talk.told ++ xs) (sym (replied_none send refl))

      k_takes : (c : Stand) → talk.keeper ≡ c → passes (λ (row : ThreadRow). takes_from s row.block) (thread_of st k) ≡ takes_from s (block_of None c)
      k_takes c e = ap (passes (λ (row : ThreadRow). takes_from s row.block)) (k_row s_k).known ∙ ap (takes_from s) ((k_row s_k).waits ∙ ap (block_of None) e)

      sends_by : (c : Stand) → talk.keeper ≡ c → is_reading c ≡ true → GoalSend
      sends_by AwaitsReply e reads = absurd (cc)
      sends_by IsOver e reads = absurd (cc)
      sends_by (Hears y) e reads =
          let r = sends.kept (k_takes (Hears y) e) in
          goes send (session_at body at.Send) (record talk { session = session_at body at.Send; mail = Sent text; client = AwaitsReply })
          (SessionTurn names ∷ []) now refl refl waiting
          (record {
            client = r.sender_then ∙ ap (λ (v : Sight). sending v (new_letter s k 240 text)) s_seen
                ∙ ap (λ m. record { waits = Some block.Sending; marks = mark.Frame ∷ []; letters = mail_letters s k m ++ new_letter s k 240 text ∷ [] }) mail;
            keeper = λ apart. r.receiver_then ∙ h.keeper apart;
            posted = refl;
            placed = refl;
            reads = h.reads;
            untimed = untimed_after send s refl h.untimed;
            untimed_keeper = λ apart. untimed_after send k refl (h.untimed_keeper apart);
            alone = λ same. differ (sym same ∙ s_k);
            agent = agent_send _ refl refl h.agent;
          })
          (sym (append-nil (talk.lines ++ waiting))) said_send (λ z heard. tt)
          (λ apart. unheard talk.keeper (answers_to k (step st send).effects) r.receiver_told)
      sends_by AwaitsLetter e reads =
          let r = sends.handed (k_takes AwaitsLetter e) in
          goes send (session_at body at.Send)
          (record talk { session = session_at body at.Send; mail = Received text; client = AwaitsReply; keeper = Hears (answer.Letter s text 240) })
          (SessionTurn names ∷ OwnLetter ∷ [])
          (talked_append s a talk (SessionTurn names ∷ []) (OwnLetter ∷ []) ∙ ap (λ t. after_events s a t (OwnLetter ∷ [])) now
          ∙ own_is s a text (record talk { session = session_at body at.Send; mail = Sent text; client = AwaitsReply }) e refl)
          refl refl waiting
          (record {
            client = r.sender_then ∙ ap (λ (v : Sight). sending v (as_received (new_letter s k 240 text))) s_seen
                ∙ ap (λ m.
                record { waits = Some block.Sending; marks = mark.Frame ∷ []; letters = mail_letters s k m ++ as_received (new_letter s k 240 text) ∷ [] })
                mail;
            keeper = λ apart. r.receiver_then ∙ ap going_on (h.keeper apart);
            posted = refl;
            placed = refl;
            reads = refl;
            untimed = untimed_after send s refl h.untimed;
            untimed_keeper = λ apart. untimed_after send k refl (h.untimed_keeper apart);
            alone = λ same. differ (sym same ∙ s_k);
            agent = agent_send _ refl refl h.agent;
          })
          (sym (append-nil (talk.lines ++ waiting))) said_send (λ z heard. tt)
          (λ apart. heard_one talk.keeper (answer.Letter s text 240) (answers_to k (step st send).effects) r.receiver_told)

    -- ---- every call of it that knows its agent

    abbrev Goes : Turn SessionBody → Type 0
    Goes does = (after_events s a talk (SessionTurn names ∷ []) ≡ session_calls a (record talk { session = does.1 }) (deed_of does.0))
        → goes_on_with does.0 ≡ true → (talk.agent_lives ≡ true → is_short_reply does.0 ≡ true) → sends_well s k does.0 ≡ true
        → SessionGoesOn s k a talk waiting (replies_of_step s a (step st does.0).effects) does.1 (step st does.0)

    -- who sends has a store, and sends to that
    sends_there : (to : ℕ) (text : List ℕ) (b : Bool) → eqb s k ≡ b
        → cond b (sends_nothing (call.Send to 240 text)) (names_only k (call.Send to 240 text)) ≡ true → (eqb s k ≡ false) × (eqb to k ≡ true)
    sends_there to text true e none = absurd (cc)
    sends_there to text false e only = (e, only)

    goes_so : (does : Turn SessionBody) → SessionDoes a (owes talk.session.place (Hears x)) does → Goes does
    goes_so does (DoesReceive body free is its) = subst Goes (sym is) (λ now on short only. receives_by body its free now h.agent)
    goes_so does (DoesReply text body owed is later_so) = subst Goes (sym is) (λ now on short only. replies_by body text later_so owed short now h.agent)
    goes_so does (DoesSend to text body owed is its) = λ now on short only.
        (let there = sends_there to text (eqb s k) refl (subst (λ (d : Turn SessionBody). sends_well s k d.0 ≡ true) is only) in
        let same : to ≡ k = eqb-true to k there.1 in
        let now_is : does ≡ (call.Send k 240 text, session_at body at.Send) = is ∙ ap (λ n. (call.Send n 240 text, session_at body at.Send)) same in
        subst Goes (sym now_is) (λ now on short only. sends_by there.0 body its text owed now talk.keeper refl h.reads) now on short only)
    goes_so does (DoesStop is) = λ now on short only. differ (sym on ∙ ap goes_on_with is)

  -- ---- it asks for an agent

  module _ (names : Names) (below : st.births ≤ a) (place : talk.session.place ≡ at.Start) (lives : talk.agent_lives ≡ true)
      (none : waiting ≡ []) (e : ℕ) (now : after_events s a talk (SessionTurn names ∷ [])
      ≡ record talk { session = session_at talk.session at.Agent; client = Hears (cond talk.agent_lives (answer.Thread a) (answer.Refused error.NoRoom)) })
      (given : (b : ℕ) → answers_to s (step st (call.Agent e)).effects ≡ answer.Thread b ∷ [] → b ≡ a) where
    abbrev ask : Call
    ask = call.Agent e

    absent : (is_thread st a ≡ false) × (is_agent st a ≡ false)
    absent = either_of (is_thread st a) (is_agent st a) (unborn_absent st was a below)

    none_found : {X : Type 0} (o : Option X) → is_some o ≡ false → o ≡ None
    none_found None h = refl
    none_found (Some y) h = absurd (cc)

    left_ask : eqb s k ≡ false → IsLeft k st (step st ask)
    left_ask = k_left ask tt (λ room text e. absurd (cc))

    opens : SessionGoesOn s k a talk waiting (replies_of_step s a (step st ask).effects) (session_at talk.session at.Agent) (step st ask)
        ⊎ OpensInVain s talk (step st ask)
    opens = by_checks (checked st _ _)
      where
        by_checks : Checked st (((eqb e 0) || nat_lt 32 e, error.InvalidArg) ∷ is_full 256 st.agents ∷ is_at_limit st.births st ∷ [])
            (answer_case (after_agent_birth st s e) (answer.Thread st.births))
            → SessionGoesOn s k a talk waiting (replies_of_step s a (step st ask).effects) (session_at talk.session at.Agent) (step st ask)
            ⊎ OpensInVain s talk (step st ask)
        by_checks (Struck why is) = inr (record {
          client = ap (λ out. sight out.after s) (step_is ask ∙ ap (step_outcome s ask) is) ∙ s_seen
              ∙ ap (λ m. record { waits = Some block.Not; marks = mark.Frame ∷ []; letters = mail_letters s k m }) mail;
          untimed = untimed_after ask s refl h.untimed;
          place = place;
          why = why;
          told = ap (λ out. answers_to s out.effects) (step_is ask ∙ ap (step_outcome s ask) is) ∙ told_itself s ask (refusal_case st why);
        })
        by_checks (Free passed is) =
            let told_so : answers_to s (step st ask).effects
            ≡ answer.Thread st.births
            ∷ [] = ap (λ out. answers_to s out.effects) (step_is ask ∙ ap (step_outcome s ask) is)
            ∙ told_itself s ask (answer_case (after_agent_birth st s e) (answer.Thread st.births)) in
            let born = given st.births told_so in
            inl (goes ask (session_at talk.session at.Agent)
            (record talk { session = session_at talk.session at.Agent; client = Hears (answer.Thread a) }) (SessionTurn names ∷ [])
            (now
            ∙ ap (λ b. record talk { session = session_at talk.session at.Agent; client = Hears (cond b (answer.Thread a) (answer.Refused error.NoRoom)) })
            lives)
            refl refl waiting
            (record {
              client = ap (λ out. sight out.after s) (step_is ask ∙ ap (step_outcome s ask) is) ∙ s_seen;
              keeper = λ s_k. (left_ask s_k).same ∙ h.keeper s_k;
              posted = ap (is_posted (Hears (answer.Thread a))) mail;
              placed = refl;
              reads = h.reads;
              untimed = untimed_after ask s refl h.untimed;
              untimed_keeper = λ s_k. untimed_after ask k refl (h.untimed_keeper s_k);
              alone = λ same. record { mail = (h.alone same).mail; keeper = (h.alone same).keeper };
              agent = Made (new_agent st.births e s)
                  (ap (λ out. agent_of out.after.agents a) (step_is ask ∙ ap (step_outcome s ask) is)
                  ∙ find_push_new (is_agent_row a) st.agents (new_agent st.births e s) (eq-eqb st.births a born)
                  (none_found (agent_of st.agents a) absent.1))
                  refl lives (eq-eqb a a refl) (Idle refl none
                  (ap (λ out. filter (is_letter_of a) out.after.letters) (step_is ask ∙ ap (step_outcome s ask) is) ∙ unborn_silent st was a below));
            })
            (sym (append-nil (talk.lines ++ waiting))) (sym (append-nil talk.told) ∙ ap (λ xs. talk.told ++ xs) (sym (replied_none ask refl)))
            (heard_one talk.client (answer.Thread a) (answers_to s (step st ask).effects) (told_so ∙ ap (λ n. answer.Thread n ∷ []) born))
            (λ s_k. unheard talk.keeper (answers_to k (step st ask).effects) (left_ask s_k).quiet))

abbrev Coming : (s k a : ℕ) → State → Talk → List (List ℕ) → Turn SessionBody → Type 0
Coming s k a st talk waiting does = SessionGoesOn s k a talk waiting (replies_of_step s a (step st does.0).effects) does.1 (step st does.0)
    ⊎ OpensInVain s talk (step st does.0)

abbrev Opening : (s k a : ℕ) → State → Talk → List (List ℕ) → Names → Turn SessionBody → Type 0
Opening s k a st talk waiting names does =
    (after_events s a talk (SessionTurn names ∷ []) ≡ session_calls a (record talk { session = does.1 }) (deed_of does.0))
    → ((b : ℕ) → answers_to s (step st does.0).effects ≡ answer.Thread b ∷ [] → b ≡ a) → Coming s k a st talk waiting does

pub sessions_calls_are_events : SessionsCallsAreEvents
unfolding session_next
sessions_calls_are_events s k a st was talk waiting h turn x hears names on short only given = by_agent h.agent
  where
    now : after_events s a talk (SessionTurn names ∷ [])
        ≡ session_calls a (record talk { session = (session_by talk.session names x talk.session.place).1 })
        (deed_of (session_by talk.session names x talk.session.place).0)
    now = ap (session_turn a names talk) hears

    knowing : knows a talk.session.agent talk.session.place talk.client ≡ true
        → Coming s k a st talk waiting (session_by talk.session names x talk.session.place)
    knowing known =
        let known_x = subst (λ c. knows a talk.session.agent talk.session.place c ≡ true) hears known in
        inl (goes_so s k a st was talk waiting h turn x hears names known_x (session_by talk.session names x talk.session.place)
        (does_by a talk.session names x talk.session.place known_x) now on short only)

    by_agent : AgentIs s a st talk waiting → Coming s k a st talk waiting (session_by talk.session names x talk.session.place)
    by_agent (Unmade below place lives none) = subst (λ p. Opening s k a st talk waiting names (session_by talk.session names x p)) (sym place)
        (λ now given. opens s k a st was talk waiting h turn x hears names below place lives none talk.session.event now given) now (given place)
    by_agent (Made row there owns lives known letters) = knowing known
    by_agent (Gone off below lives known) = knowing known
