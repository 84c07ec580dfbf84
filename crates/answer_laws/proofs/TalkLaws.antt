-- Whatever happens to a session and its store, what the client is told is a first part of the answers to its lines.
use Rattle.answer_laws.proofs.AnswerLists.{Texts, clean_push, first_all, first_quit, first_replies, replies_push, table_after, table_push}
use Rattle.answer_laws.specs.Talks.{AreFirst, Deed, Deed.Opens, Deed.Receives, Deed.Replies, Deed.Sends, Deed.Stops, Event, Event.AgentEnds, Event.Line}
use Rattle.answer_laws.specs.Talks.{Event.OtherLetter, Event.OwnLetter, Event.SessionDies, Event.SessionTurn, Event.StoreTurn, Mail, Mail.Nothing}
use Rattle.answer_laws.specs.Talks.{Mail.Received, Mail.Sent, Stand, Stand.AwaitsLetter, Stand.AwaitsReply, Stand.Hears, Stand.IsOver, Talk, TalksAreAnswers}
use Rattle.answer_laws.specs.Talks.{deed_of, letter_comes, line_comes, mail_comes, opening_talk, other_comes, reply_answer, session_calls, after_session_reply}
use Rattle.answer_laws.specs.Talks.{session_turn, store_calls, store_turn, talk_on}
use Rattle.line_server.proofs.ApartLaws.{other-table, own-table}
use Rattle.line_server.specs.Commands.{Command, command_of}
use Rattle.line_server.specs.Sessions.{SessionBody, session_at, session_by, session_next, session_turn_after_agent, session_turn_after_letter}
use Rattle.line_server.specs.Sessions.{session_receives, session_replies, session_returns, session_sends}
use Rattle.line_server.specs.Stores.{StoreBody, is_invalid, store_by, store_next, store_turn_after_letter}
use Rattle.line_server.specs.Stores.{store_receives, store_tells, table_of, tables_after, served_sender}
use Rattle.line_server.specs.Tables.{Table, is_quit, line_answers, replies, served_command, served_text}
use Rattle.line_server.specs.Turns.{Turn, is_replied, stops}
use Rattle.line_server.specs.declared.session.SessionPlace.{SessionPlace}
use Rattle.line_server.specs.declared.session.SessionPlace.TheVariants as at
use Rattle.line_server.specs.declared.store.StorePlace.{StorePlace}
use Rattle.line_server.specs.declared.store.StorePlace.TheVariants as kept_at
use Rattle.lwp_types.specs.Names.{Names}
use Rattle.lwp_types.specs.Unblock.{nonexist, zero_answer}
use Rattle.lwp_types.specs.declared.call.Answer.{Answer}
use Rattle.lwp_types.specs.declared.call.Answer.TheVariants as answer
use Rattle.lwp_types.specs.declared.call.Call.TheVariants as call
use Rattle.lwp_types.specs.declared.call.LwpErr.{LwpErr}
use Rattle.lwp_types.specs.declared.call.LwpErr.TheVariants as error
use Rattle.std.proofs.Common.{Bool, List, None, Option, Some, [], ap, cond, eqb, false, refl, subst, sym, true, ℕ, ◌++◌, ◌∙◌, ◌∷◌, ◌≡◌}
use Rattle.std.proofs.lemmas.Bool.{eq-eqb, eqb-true}
use Rattle.std.specs.List.{fold, list_any}
use Rattle.std.specs.Prelude.{codes, nat_eq, not}

-- ---- how the store stands

abbrev pub is_apart : ℕ → Answer → Bool
is_apart s (answer.Letter x text room) = not (eqb x s)
is_apart s _ = true

abbrev pub is_receiving : StorePlace → Bool
is_receiving kept_at.Recv = true
is_receiving _ = false

-- it waits for a letter only where it has called for one, and isn't about to read one of s
abbrev pub stands : ℕ → StorePlace → Stand → Bool
stands s place (Hears x) = is_apart s x
stands s place AwaitsLetter = is_receiving place
stands s place AwaitsReply = true
stands s place IsOver = true

abbrev pub is_received : Mail → Bool
is_received Nothing = false
is_received (Sent text) = false
is_received (Received text) = true

-- ---- how the session stands

abbrev pub is_refusal : Answer → Bool
is_refusal (answer.Letter x text room) = false
is_refusal _ = true

-- every line was replied to
abbrev pub is_idle : SessionPlace → Stand → Bool
is_idle at.Start (Hears x) = true
is_idle at.Agent (Hears x) = true
is_idle at.Recv (Hears x) = is_refusal x
is_idle at.Recv AwaitsLetter = true
is_idle at.Reply (Hears x) = true
is_idle _ _ = false

-- it says nothing more to its agent
abbrev pub is_done : SessionPlace → Stand → Bool
is_done p IsOver = true
is_done at.Bye (Hears x) = true
is_done at.End (Hears x) = true
is_done _ _ = false

-- these lines were replied to so, and the session's table is theirs
pub record Known (said : Texts) (table : Table) (done : Texts) : Type 0 where
  pub replied : said ≡ replies [] done
  pub kept : table ≡ table_after [] done
  pub clean : list_any is_quit done ≡ false

-- the store knows of no line more than the session
pub data Phase (said lines : Texts) (table : Table) (mail : Mail) (place : SessionPlace) (client : Stand) : Type 0 where
  Idle : (done : Texts) → Known said table done → lines ≡ done → mail ≡ Nothing → is_idle place client ≡ true → Phase said lines table mail place client
  Reads : (done : Texts) (text : List ℕ) (from room : ℕ) → Known said table done → lines ≡ done ++ text ∷ [] → mail ≡ Nothing
      → place ≡ at.Recv → client ≡ Hears (answer.Letter from text room) → Phase said lines table mail place client
  Asks : (done : Texts) (text : List ℕ) → Known said table done → lines ≡ done ++ text ∷ [] → is_quit text ≡ false → mail ≡ Sent text
      → place ≡ at.Send → client ≡ AwaitsReply → Phase said lines table mail place client
  Learns : (done : Texts) (text : List ℕ) → said ≡ replies [] done → table ≡ table_after [] (done ++ text ∷ [])
      → list_any is_quit done ≡ false → is_quit text ≡ false → lines ≡ done ++ text ∷ [] → mail ≡ Nothing → place ≡ at.Send
      → client ≡ Hears (answer.Reply (served_text text (table_after [] done)).reply) → Phase said lines table mail place client

-- nothing more is said, and nothing more comes
pub data Closing (lives : Bool) (mail : Mail) (place : SessionPlace) (client : Stand) : Type 0 where
  Alone : lives ≡ false → Closing lives mail place client
  Done : mail ≡ Nothing → is_done place client ≡ true → Closing lives mail place client

-- what holds between any two events
pub data Inv (s : ℕ) (talk : Talk) : Type 0 where
  Goes : Phase talk.told talk.lines (table_of s talk.store.tables) talk.mail talk.session.place talk.client
      → stands s talk.store.place talk.keeper ≡ true → Inv s talk
  Waits : (done : Texts) (text : List ℕ) → Known talk.told (table_of s talk.store.tables) done → talk.lines ≡ done ++ text ∷ []
      → is_quit text ≡ false → talk.mail ≡ Received text → talk.session.place ≡ at.Send → talk.client ≡ AwaitsReply
      → talk.store.place ≡ kept_at.Recv → talk.keeper ≡ Hears (answer.Letter s text 240) → Inv s talk
  Ends : AreFirst talk.told (line_answers talk.lines) → Closing talk.agent_lives talk.mail talk.session.place talk.client → Inv s talk

-- ---- what is told so far

as_first : {said lines said2 lines2 : Texts} → said2 ≡ said → lines2 ≡ lines → AreFirst said (line_answers lines) → AreFirst said2 (line_answers lines2)
as_first e l first = record { rest = first.rest; whole = ap (λ x. x ++ first.rest) e ∙ first.whole ∙ ap line_answers (sym l) }

phase_first : {said lines : Texts} {table : Table} {mail : Mail} {place : SessionPlace} {client : Stand}
    → Phase said lines table mail place client → AreFirst said (line_answers lines)
phase_first (Idle done known l m i) = as_first known.replied l (first_all done known.clean)
phase_first (Reads done text from room known l m p c) = as_first known.replied l (first_replies done (text ∷ []) known.clean)
phase_first (Asks done text known l q m p c) = as_first known.replied l (first_replies done (text ∷ []) known.clean)
phase_first (Learns done text r t clean q l m p c) = as_first r l (first_replies done (text ∷ []) clean)

pub inv_first : (s : ℕ) (talk : Talk) → Inv s talk → AreFirst talk.told (line_answers talk.lines)
inv_first s talk (Goes phase h) = phase_first phase
inv_first s talk (Waits done text known l q m p c sp k) = as_first known.replied l (first_replies done (text ∷ []) known.clean)
inv_first s talk (Ends first closing) = first

-- ---- the store's turn

told_apart : (talk : Talk) (text : List ℕ) (m : Mail) → is_received m ≡ false
    → after_session_reply talk text m ≡ record talk { keeper = Hears (answer.Refused error.NoWait) }
told_apart talk text Nothing h = refl
told_apart talk text (Sent sent) h = refl
told_apart talk text (Received sent) h = absurd (cc)

-- the store has gone on, and the session's table is as it was
record Apart (s : ℕ) (talk after : Talk) : Type 0 where
  store : StoreBody
  keeper : Stand
  is : after ≡ record talk { store = store; keeper = keeper }
  table : table_of s store.tables ≡ table_of s talk.store.tables
  stand : stands s store.place keeper ≡ true

module _ (s : ℕ) (refusal : Option LwpErr) (talk : Talk) where
  apart_answer : (o : Option LwpErr) → is_apart s (reply_answer o) ≡ true
  apart_answer None = refl
  apart_answer (Some e) = refl

  abbrev Goes_on : Turn StoreBody → Type 0
  Goes_on turn = Apart s talk (store_calls s refusal (record talk { store = turn.1 }) (deed_of turn.0))

  -- a reply, to whomever
  apart_reply : is_received talk.mail ≡ false → (body : StoreBody) (to : ℕ) (text : List ℕ) → table_of s body.tables ≡ table_of s talk.store.tables
      → Apart s talk (store_calls s refusal (record talk { store = body }) (Replies to text))
  apart_reply free body to text same = by_test (eqb to s)
    where
      by_test : (b : Bool)
          → Apart s talk (cond b (after_session_reply (record talk { store = body }) text talk.mail)
          (record talk { store = body; keeper = Hears (reply_answer refusal) }))
      by_test true = record {
        store = body;
        keeper = Hears (answer.Refused error.NoWait);
        is = told_apart (record talk { store = body }) text talk.mail free;
        table = same;
        stand = refl;
      }
      by_test false = record { store = body; keeper = Hears (reply_answer refusal); is = refl; table = same; stand = apart_answer refusal }

  apart_receives : Goes_on (store_receives talk.store)
  apart_receives = record { store = record talk.store { place = kept_at.Recv }; keeper = AwaitsLetter; is = refl; table = refl; stand = refl }

  apart_stops : Goes_on (stops talk.store)
  apart_stops = record { store = talk.store; keeper = IsOver; is = refl; table = refl; stand = refl }

  apart_after : (b : Bool) → Goes_on (cond b (store_receives talk.store) (stops talk.store))
  apart_after true = apart_receives
  apart_after false = apart_stops

  apart_replied : is_received talk.mail ≡ false → (b d : Bool)
      → Goes_on (cond b (call.Reply talk.store.client [], record talk.store { place = kept_at.Empty }) (cond d (store_receives talk.store) (stops talk.store)))
  apart_replied free true d = apart_reply free (record talk.store { place = kept_at.Empty }) talk.store.client [] refl
  apart_replied free false d = apart_after d

  apart_letter : is_received talk.mail ≡ false → (x : ℕ) (text : List ℕ) → not (eqb x s) ≡ true → Goes_on (store_tells talk.store x text)
  apart_letter free x text other = apart_reply free (store_tells talk.store x text).1 x (served_sender x text talk.store.tables).reply
      (other-table s x text talk.store.tables (apart_of (eqb x s) refl other))
    where
      apart_of : (b : Bool) → eqb x s ≡ b → not b ≡ true → nat_eq s x ≡ false
      apart_of true e h = absurd (cc)
      apart_of false e h = by_same (nat_eq s x) refl
        where
          by_same : (d : Bool) → nat_eq s x ≡ d → nat_eq s x ≡ false
          by_same true is = let same : eqb x s ≡ true = eq-eqb x s (sym (eqb-true s x is)) in absurd (cc (same, e))
          by_same false is = is

  apart_recv : is_received talk.mail ≡ false → (x : Answer) → is_apart s x ≡ true → Goes_on (store_turn_after_letter talk.store x)
  apart_recv free (answer.Letter from text room) h = apart_letter free from text h
  apart_recv free (answer.Refused e) h = apart_receives
  apart_recv free (answer.Value v) h = apart_stops
  apart_recv free (answer.Thread t) h = apart_stops
  apart_recv free (answer.Monitor t) h = apart_stops
  apart_recv free (answer.Cond t) h = apart_stops
  apart_recv free (answer.Reply text) h = apart_stops
  apart_recv free (answer.Bound f arg) h = apart_stops
  apart_recv free (answer.Caught d m p) h = apart_stops
  apart_recv free (answer.Ids k ns) h = apart_stops

  apart_by : is_received talk.mail ≡ false → (x : Answer) → is_apart s x ≡ true → (p : StorePlace) → Goes_on (store_by talk.store x p)
  apart_by free x h kept_at.Start = apart_receives
  apart_by free x h kept_at.Recv = apart_recv free x h
  apart_by free x h kept_at.Reply = apart_replied free (is_invalid x) (is_replied x)
  apart_by free x h kept_at.Empty = apart_after (is_replied x)

-- ---- each event keeps it

known_as : {said : Texts} {table table2 : Table} {done : Texts} → table2 ≡ table → Known said table done → Known said table2 done
known_as e known = record { replied = known.replied; kept = e ∙ known.kept; clean = known.clean }

phase_as : {said lines : Texts} {table table2 : Table} {mail : Mail} {place : SessionPlace} {client : Stand} → table2 ≡ table
    → Phase said lines table mail place client → Phase said lines table2 mail place client
phase_as e (Idle done known l m i) = Idle done (known_as e known) l m i
phase_as e (Reads done text from room known l m p c) = Reads done text from room (known_as e known) l m p c
phase_as e (Asks done text known l q m p c) = Asks done text (known_as e known) l q m p c
phase_as e (Learns done text r t clean q l m p c) = Learns done text r (e ∙ t) clean q l m p c

pub phase_free : {said lines : Texts} {table : Table} {mail : Mail} {place : SessionPlace} {client : Stand}
    → Phase said lines table mail place client → is_received mail ≡ false
phase_free (Idle done known l m i) = ap is_received m
phase_free (Reads done text from room known l m p c) = ap is_received m
phase_free (Asks done text known l q m p c) = ap is_received m
phase_free (Learns done text r t clean q l m p c) = ap is_received m

-- the store's turn, where it knows of no line more
module _ (s : ℕ) (refusal : Option LwpErr) (names : Names) (talk : Talk) where
  apart_turn : is_received talk.mail ≡ false → (k : Stand) → stands s talk.store.place k ≡ true → k ≡ talk.keeper
      → Apart s talk (store_turn s refusal names talk k)
  unfolding store_next
  apart_turn free (Hears x) h e = apart_by s refusal talk free x h talk.store.place
  apart_turn free AwaitsLetter h e = record { store = talk.store; keeper = AwaitsLetter; is = λ i. record talk { keeper = sym e i }; table = refl; stand = h }
  apart_turn free AwaitsReply h e = record { store = talk.store; keeper = AwaitsReply; is = λ i. record talk { keeper = sym e i }; table = refl; stand = h }
  apart_turn free IsOver h e = record { store = talk.store; keeper = IsOver; is = λ i. record talk { keeper = sym e i }; table = refl; stand = h }

  inv_apart : (after : Talk) → Phase talk.told talk.lines (table_of s talk.store.tables) talk.mail talk.session.place talk.client
      → Apart s talk after → Inv s after
  inv_apart after phase apart = subst (Inv s) (sym apart.is) (Goes (phase_as apart.table phase) apart.stand)

  -- its reply to the session's letter
  told_now : (text : List ℕ) → talk.mail ≡ Received text → talk.store.place ≡ kept_at.Recv → talk.keeper ≡ Hears (answer.Letter s text 240)
      → store_turn s refusal names talk talk.keeper ≡ record talk {
        store = record { tables = tables_after s text talk.store.tables; client = s; place = kept_at.Reply };
        mail = Nothing;
        client = Hears (answer.Reply (served_sender s text talk.store.tables).reply);
        keeper = Hears zero_answer;
      }
  unfolding store_next
  told_now text m p k = rw (k, p, eq-eqb s s refl, m) refl

  inv_told : (done : Texts) (text : List ℕ) → Known talk.told (table_of s talk.store.tables) done → talk.lines ≡ done ++ text ∷ []
      → is_quit text ≡ false → talk.mail ≡ Received text → talk.session.place ≡ at.Send
      → talk.store.place ≡ kept_at.Recv → talk.keeper ≡ Hears (answer.Letter s text 240) → Inv s (store_turn s refusal names talk talk.keeper)
  inv_told done text known l q m p sp k =
      subst (Inv s) (sym (told_now text m sp k))
      (Goes (Learns done text known.replied
      (own-table s text talk.store.tables ∙ ap (λ t. (served_text text t).table) known.kept ∙ sym (table_push done text [])) known.clean q l refl p
      (ap (λ t. Hears (answer.Reply (served_text text t).reply)) known.kept)) refl)

  -- where the session is done
  done_told : (m : Mail) → m ≡ Nothing → (body : StoreBody) (text : List ℕ)
      → after_session_reply (record talk { store = body }) text m ≡ record talk { store = body; keeper = Hears (answer.Refused error.NoWait) }
  done_told Nothing e body text = refl
  done_told (Sent sent) e body text = refl
  done_told (Received sent) e body text = absurd (cc)

-- ---- the session's turn

module _ (s a : ℕ) (names : Names) (talk : Talk) where
  -- what its call comes to, by what it does
  abbrev Comes_to : Turn SessionBody → Type 0
  Comes_to turn = Inv s (session_calls a (record talk { session = turn.1 }) (deed_of turn.0))

  -- where it is polled at this place with this answer
  turn_as : (p : SessionPlace) (x : Answer) → talk.session.place ≡ p → talk.client ≡ Hears x → Comes_to (session_by talk.session names x p)
      → Inv s (session_turn a names talk talk.client)
  unfolding session_next
  turn_as p x e c inv =
      subst (λ st. Inv s (session_turn a names talk st)) (sym c)
      (subst (λ q. Comes_to (session_by talk.session names x q)) (sym e) inv)

  -- it returns, and is over
  stops_over : AreFirst talk.told (line_answers talk.lines) → talk.mail ≡ Nothing → (session : SessionBody)
      → Inv s (record talk { session = session; client = IsOver })
  stops_over first m session = Ends first (Done m refl)

  module _ (done : Texts) (known : Known talk.told (table_of s talk.store.tables) done) (m : talk.mail ≡ Nothing)
      (stand : stands s talk.store.place talk.keeper ≡ true) where
    -- it waits for the next line
    receives : talk.lines ≡ done → (body : SessionBody) → Comes_to (session_receives body)
    receives l body = by_lives talk.agent_lives
      where
        by_lives : (b : Bool) → Inv s (record talk { session = session_at body at.Recv; client = cond b AwaitsLetter (Hears nonexist) })
        by_lives true = Goes (Idle done known l m refl) stand
        by_lives false = Goes (Idle done known l m refl) stand

    -- it replies to the line
    replies_so : (text : List ℕ) → talk.lines ≡ done ++ text ∷ [] → is_quit text ≡ false → (reply : List ℕ)
        → reply ≡ (served_text text (table_after [] done)).reply → table_of s talk.store.tables ≡ table_after [] (done ++ text ∷ [])
        → Comes_to (session_replies talk.session reply)
    replies_so text l q reply r t = by_lives talk.agent_lives refl
      where
        now : Talk
        now = record talk { session = session_at talk.session at.Reply }

        said : talk.told ++ reply ∷ [] ≡ replies [] (done ++ text ∷ [])
        said = ap (λ x. x ++ reply ∷ []) known.replied ∙ ap (λ x. replies [] done ++ x ∷ []) r ∙ sym (replies_push done text [])

        by_lives : (b : Bool) → talk.agent_lives ≡ b
            → Inv s (cond b (record now { told = talk.told ++ reply ∷ []; client = Hears zero_answer }) (record now { client = Hears nonexist }))
        by_lives true e = Goes (Idle (done ++ text ∷ []) (record { replied = said; kept = t; clean = clean_push done text known.clean q }) l m refl) stand
        by_lives false e = Ends (as_first known.replied l (first_replies done (text ∷ []) known.clean)) (Alone e)

  module _ (done : Texts) (known : Known talk.told (table_of s talk.store.tables) done) (m : talk.mail ≡ Nothing)
      (stand : stands s talk.store.place talk.keeper ≡ true) where
    -- every line was replied to
    module _ (l : talk.lines ≡ done) where
      first : AreFirst talk.told (line_answers talk.lines)
      first = as_first known.replied l (first_all done known.clean)

      after_so : (b : Bool) → Comes_to (cond b (session_receives talk.session) (stops talk.session))
      after_so true = receives done known m stand l talk.session
      after_so false = stops_over first m talk.session

      opened : (x : Answer) → Comes_to (session_turn_after_agent talk.session x)
      opened (answer.Thread b) = receives done known m stand l (record talk.session { agent = b })
      opened (answer.Refused e) = stops_over first m (session_returns talk.session).1
      opened (answer.Letter from text room) = stops_over first m talk.session
      opened (answer.Value v) = stops_over first m talk.session
      opened (answer.Monitor t) = stops_over first m talk.session
      opened (answer.Cond t) = stops_over first m talk.session
      opened (answer.Reply text) = stops_over first m talk.session
      opened (answer.Bound f arg) = stops_over first m talk.session
      opened (answer.Caught d k p) = stops_over first m talk.session
      opened (answer.Ids k ns) = stops_over first m talk.session

      received_none : (x : Answer) → is_refusal x ≡ true → Comes_to (session_turn_after_letter talk.session names x)
      received_none (answer.Letter from text room) h = absurd (cc)
      received_none (answer.Refused e) h = stops_over first m (session_returns talk.session).1
      received_none (answer.Thread b) h = stops_over first m talk.session
      received_none (answer.Value v) h = stops_over first m talk.session
      received_none (answer.Monitor t) h = stops_over first m talk.session
      received_none (answer.Cond t) h = stops_over first m talk.session
      received_none (answer.Reply text) h = stops_over first m talk.session
      received_none (answer.Bound f arg) h = stops_over first m talk.session
      received_none (answer.Caught d k p) h = stops_over first m talk.session
      received_none (answer.Ids k ns) h = stops_over first m talk.session

      idle_at : (p : SessionPlace) (x : Answer) → is_idle p (Hears x) ≡ true → Comes_to (session_by talk.session names x p)
      idle_at at.Start x h = Goes (Idle done known l m refl) stand
      idle_at at.Agent x h = opened x
      idle_at at.Recv x h = received_none x h
      idle_at at.Send x h = absurd (cc)
      idle_at at.Reply x h = after_so (is_replied x)
      idle_at at.Bye x h = absurd (cc)
      idle_at at.End x h = absurd (cc)

      idle_turn : (c : Stand) → talk.client ≡ c → is_idle talk.session.place c ≡ true → Inv s talk → Inv s (session_turn a names talk c)
      unfolding session_next
      idle_turn (Hears x) e h was = idle_at talk.session.place x h
      idle_turn AwaitsLetter e h was = was
      idle_turn AwaitsReply e h was = was
      idle_turn IsOver e h was = was

    -- a line was received
    module _ (text : List ℕ) (l : talk.lines ≡ done ++ text ∷ []) where
      -- it isn't the last: a command goes to the store
      sends_so : is_quit text ≡ false → (o : Option Command) → command_of text ≡ o → Comes_to (session_sends talk.session names text o)
      sends_so q None e =
          let bad = ap (λ o. served_command o (table_after [] done)) e in
          replies_so done known m stand text l q (codes "bad") (sym (ap (λ x. x.reply) bad))
          (known.kept ∙ sym (table_push done text [] ∙ ap (λ x. x.table) bad))
      sends_so q (Some c) e = Goes (Asks done text known l q refl refl refl) stand

      -- the last one is answered
      byes : is_quit text ≡ true → Comes_to (call.Reply talk.session.agent (codes "bye"), session_at talk.session at.Bye)
      byes q = by_lives talk.agent_lives refl
        where
          now : Talk
          now = record talk { session = session_at talk.session at.Bye }

          by_lives : (b : Bool) → talk.agent_lives ≡ b
              → Inv s (cond b (record now { told = talk.told ++ codes "bye" ∷ []; client = Hears zero_answer }) (record now { client = Hears nonexist }))
          by_lives true e = Ends (as_first (ap (λ x. x ++ codes "bye" ∷ []) known.replied) l (first_quit done text known.clean q)) (Done m refl)
          by_lives false e = Ends (as_first known.replied l (first_replies done (text ∷ []) known.clean)) (Alone e)

      reads_at : (b : Bool) → is_quit text ≡ b
          → Comes_to (cond b (call.Reply talk.session.agent (codes "bye"), session_at talk.session at.Bye)
          (session_sends talk.session names text (command_of text)))
      reads_at true q = byes q
      reads_at false q = sends_so q (command_of text) refl

  phase_turn : Phase talk.told talk.lines (table_of s talk.store.tables) talk.mail talk.session.place talk.client
      → stands s talk.store.place talk.keeper ≡ true → Inv s talk → Inv s (session_turn a names talk talk.client)
  phase_turn (Idle done known l m i) stand was = idle_turn done known m stand l talk.client refl i was
  phase_turn (Reads done text from room known l m p c) stand was =
      turn_as at.Recv (answer.Letter from text room) p c (reads_at done known m stand text l (is_quit text) refl)
  phase_turn (Asks done text known l q m p c) stand was = subst (λ st. Inv s (session_turn a names talk st)) (sym c) was
  phase_turn (Learns done text r t clean q l m p c) stand was = turn_as at.Send _ p c (learns talk.agent_lives refl)
    where
      reply : List ℕ
      reply = (served_text text (table_after [] done)).reply

      now : Talk
      now = record talk { session = session_at talk.session at.Reply }

      said : talk.told ++ reply ∷ [] ≡ replies [] (done ++ text ∷ [])
      said = ap (λ x. x ++ reply ∷ []) r ∙ sym (replies_push done text [])

      learns : (b : Bool) → talk.agent_lives ≡ b
          → Inv s (cond b (record now { told = talk.told ++ reply ∷ []; client = Hears zero_answer }) (record now { client = Hears nonexist }))
      learns true e = Goes (Idle (done ++ text ∷ []) (record { replied = said; kept = t; clean = clean_push done text clean q }) l m refl) stand
      learns false e = Ends (as_first r l (first_replies done (text ∷ []) clean)) (Alone e)

-- ---- where the session says nothing more

module _ (s a : ℕ) (talk : Talk) (first : AreFirst talk.told (line_answers talk.lines)) where
  -- its agent is gone, so no reply is accepted
  alone_calls : talk.agent_lives ≡ false → (session : SessionBody) (d : Deed) → Inv s (session_calls a (record talk { session = session }) d)
  alone_calls e session Opens = Ends first (Alone e)
  alone_calls e session Receives = Ends first (Alone e)
  alone_calls e session (Replies to text) = by_lives talk.agent_lives e
    where
      now : Talk
      now = record talk { session = session }

      by_lives : (b : Bool) → b ≡ false
          → Inv s (cond b (record now { told = talk.told ++ text ∷ []; client = Hears zero_answer }) (record now { client = Hears nonexist }))
      by_lives true h = absurd (cc)
      by_lives false h = Ends first (Alone e)
  alone_calls e session (Sends text) = Ends first (Alone e)
  alone_calls e session Stops = Ends first (Alone e)

  done_at : (names : Names) → talk.mail ≡ Nothing → (p : SessionPlace) (x : Answer) → is_done p (Hears x) ≡ true
      → Comes_to s a names talk (session_by talk.session names x p)
  done_at names m at.Start x h = absurd (cc)
  done_at names m at.Agent x h = absurd (cc)
  done_at names m at.Recv x h = absurd (cc)
  done_at names m at.Send x h = absurd (cc)
  done_at names m at.Reply x h = absurd (cc)
  done_at names m at.Bye x h = by_replied (is_replied x)
    where
      by_replied : (b : Bool) → Comes_to s a names talk (cond b (session_returns talk.session) (stops talk.session))
      by_replied true = Ends first (Done m refl)
      by_replied false = Ends first (Done m refl)
  done_at names m at.End x h = Ends first (Done m refl)

  ends_turn : (names : Names) → Closing talk.agent_lives talk.mail talk.session.place talk.client → Inv s talk → (c : Stand)
      → talk.client ≡ c → Inv s (session_turn a names talk c)
  unfolding session_next
  ends_turn names (Alone e) was (Hears x) c =
      alone_calls e (session_by talk.session names x talk.session.place).1 (deed_of (session_by talk.session names x talk.session.place).0)
  ends_turn names (Done m h) was (Hears x) c = done_at names m talk.session.place x (subst (λ st. is_done talk.session.place st ≡ true) c h)
  ends_turn names closing was AwaitsLetter c = was
  ends_turn names closing was AwaitsReply c = was
  ends_turn names closing was IsOver c = was

  -- whatever the store does
  ends_told : Closing talk.agent_lives talk.mail talk.session.place talk.client → (body : StoreBody) (text : List ℕ)
      → Inv s (after_session_reply (record talk { store = body }) text talk.mail)
  ends_told (Alone e) body text = by_mail talk.mail
    where
      by_mail : (m : Mail) → Inv s (after_session_reply (record talk { store = body }) text m)
      by_mail Nothing = Ends first (Alone e)
      by_mail (Sent sent) = Ends first (Alone e)
      by_mail (Received sent) = Ends first (Alone e)
  ends_told (Done m h) body text = subst (λ n. Inv s (after_session_reply (record talk { store = body }) text n)) (sym m) (Ends first (Done m h))

  ends_calls : (refusal : Option LwpErr) → Closing talk.agent_lives talk.mail talk.session.place talk.client → (body : StoreBody) (d : Deed)
      → Inv s (store_calls s refusal (record talk { store = body }) d)
  ends_calls refusal closing body Opens = Ends first closing
  ends_calls refusal closing body Receives = Ends first closing
  ends_calls refusal closing body (Replies to text) = by_test (eqb to s)
    where
      by_test : (b : Bool)
          → Inv s (cond b (after_session_reply (record talk { store = body }) text talk.mail)
          (record talk { store = body; keeper = Hears (reply_answer refusal) }))
      by_test true = ends_told closing body text
      by_test false = Ends first closing
  ends_calls refusal closing body (Sends text) = Ends first closing
  ends_calls refusal closing body Stops = Ends first closing

  ends_store : (refusal : Option LwpErr) (names : Names) → Closing talk.agent_lives talk.mail talk.session.place talk.client → Inv s talk
      → (k : Stand) → Inv s (store_turn s refusal names talk k)
  unfolding store_next
  ends_store refusal names closing was (Hears x) =
      ends_calls refusal closing (store_by talk.store x talk.store.place).1 (deed_of (store_by talk.store x talk.store.place).0)
  ends_store refusal names closing was AwaitsLetter = was
  ends_store refusal names closing was AwaitsReply = was
  ends_store refusal names closing was IsOver = was

-- ---- letters

module _ (s a : ℕ) (talk : Talk) (was : Inv s talk) where
  -- a line where the session waits for none
  no_line : (text : List ℕ) (c : Stand) → talk.client ≡ c → (c ≡ AwaitsLetter → Inv s (line_comes a text talk AwaitsLetter)) → Inv s (line_comes a text talk c)
  no_line text (Hears x) e comes = was
  no_line text AwaitsLetter e comes = comes refl
  no_line text AwaitsReply e comes = was
  no_line text IsOver e comes = was

  alone_line : (text : List ℕ) → talk.agent_lives ≡ false → Inv s (line_comes a text talk AwaitsLetter)
  alone_line text e = by_lives talk.agent_lives e
    where
      by_lives : (b : Bool) → b ≡ false → Inv s (cond b (record talk { client = Hears (answer.Letter a text 240); lines = talk.lines ++ text ∷ [] }) talk)
      by_lives true h = absurd (cc)
      by_lives false h = was

  at_recv : (p : SessionPlace) → is_idle p AwaitsLetter ≡ true → p ≡ at.Recv
  at_recv at.Start h = absurd (cc)
  at_recv at.Agent h = absurd (cc)
  at_recv at.Recv h = refl
  at_recv at.Send h = absurd (cc)
  at_recv at.Reply h = absurd (cc)
  at_recv at.Bye h = absurd (cc)
  at_recv at.End h = absurd (cc)

  never_done : (p : SessionPlace) → is_done p AwaitsLetter ≡ true → ⊥
  never_done at.Start h = absurd (cc)
  never_done at.Agent h = absurd (cc)
  never_done at.Recv h = absurd (cc)
  never_done at.Send h = absurd (cc)
  never_done at.Reply h = absurd (cc)
  never_done at.Bye h = absurd (cc)
  never_done at.End h = absurd (cc)

  idle_line : (text : List ℕ) (done : Texts) → Known talk.told (table_of s talk.store.tables) done → talk.lines ≡ done → talk.mail ≡ Nothing
      → talk.session.place ≡ at.Recv → stands s talk.store.place talk.keeper ≡ true → Inv s (line_comes a text talk AwaitsLetter)
  idle_line text done known l m p stand = by_lives talk.agent_lives
    where
      by_lives : (b : Bool) → Inv s (cond b (record talk { client = Hears (answer.Letter a text 240); lines = talk.lines ++ text ∷ [] }) talk)
      by_lives true = Goes (Reads done text a 240 known (ap (λ x. x ++ text ∷ []) l) m p refl) stand
      by_lives false = was

  inv_line : (text : List ℕ) → Inv s talk → Inv s (line_comes a text talk talk.client)
  inv_line text (Goes (Idle done known l m i) stand) = no_line text talk.client refl
      (λ e. idle_line text done known l m (at_recv talk.session.place (subst (λ c. is_idle talk.session.place c ≡ true) e i)) stand)
  inv_line text (Goes (Reads done sent from room known l m p c) stand) = subst (λ st. Inv s (line_comes a text talk st)) (sym c) was
  inv_line text (Goes (Asks done sent known l q m p c) stand) = subst (λ st. Inv s (line_comes a text talk st)) (sym c) was
  inv_line text (Goes (Learns done sent r t clean q l m p c) stand) = subst (λ st. Inv s (line_comes a text talk st)) (sym c) was
  inv_line text (Waits done sent known l q m p c sp k) = subst (λ st. Inv s (line_comes a text talk st)) (sym c) was
  inv_line text (Ends said (Alone e)) = no_line text talk.client refl (λ c. alone_line text e)
  inv_line text (Ends said (Done m h)) =
      no_line text talk.client refl (λ e. absurd (never_done talk.session.place (subst (λ c. is_done talk.session.place c ≡ true) e h)))

  -- the session's letter
  kept_recv : (p : StorePlace) → is_receiving p ≡ true → p ≡ kept_at.Recv
  kept_recv kept_at.Start h = absurd (cc)
  kept_recv kept_at.Recv h = refl
  kept_recv kept_at.Reply h = absurd (cc)
  kept_recv kept_at.Empty h = absurd (cc)

  letter_by : (k : Stand) → talk.keeper ≡ k → (k ≡ AwaitsLetter → Inv s (mail_comes s talk talk.mail)) → Inv s (letter_comes s talk k)
  letter_by (Hears x) e comes = was
  letter_by AwaitsLetter e comes = comes refl
  letter_by AwaitsReply e comes = was
  letter_by IsOver e comes = was

  quiet_letter : talk.mail ≡ Nothing → Inv s (letter_comes s talk talk.keeper)
  quiet_letter m = letter_by talk.keeper refl (λ e. subst (λ n. Inv s (mail_comes s talk n)) (sym m) was)

  inv_letter : Inv s talk → Inv s (letter_comes s talk talk.keeper)
  inv_letter (Goes (Idle done known l m i) stand) = quiet_letter m
  inv_letter (Goes (Reads done text from room known l m p c) stand) = quiet_letter m
  inv_letter (Goes (Asks done text known l q m p c) stand) = letter_by talk.keeper refl (λ e. subst (λ n. Inv s (mail_comes s talk n)) (sym m)
      (Waits done text known l q refl p c (kept_recv talk.store.place (subst (λ k. stands s talk.store.place k ≡ true) e stand)) refl))
  inv_letter (Goes (Learns done text r t clean q l m p c) stand) = quiet_letter m
  inv_letter (Waits done text known l q m p c sp k) = subst (λ st. Inv s (letter_comes s talk st)) (sym k) was
  inv_letter (Ends said (Alone e)) = letter_by talk.keeper refl (λ k. by_mail talk.mail)
    where
      by_mail : (m : Mail) → Inv s (mail_comes s talk m)
      by_mail Nothing = was
      by_mail (Sent text) = Ends said (Alone e)
      by_mail (Received text) = was
  inv_letter (Ends said (Done m h)) = quiet_letter m

  -- another's letter
  module _ (x : ℕ) (text : List ℕ) (room : ℕ) where
    abbrev Then : Stand → Type 0
    Then k = Inv s (other_comes s x text room talk k)

    other_by : (b : Bool) → (not b ≡ true → Inv s (record talk { keeper = Hears (answer.Letter x text room) }))
        → Inv s (cond b talk (record talk { keeper = Hears (answer.Letter x text room) }))
    other_by true comes = was
    other_by false comes = comes refl

    inv_other : Inv s talk → (k : Stand) → talk.keeper ≡ k → Then k
    inv_other (Goes phase stand) AwaitsLetter e = other_by (eqb x s) (λ other. Goes phase other)
    inv_other (Waits done sent known l q m p c sp k) AwaitsLetter e =
        other_by (eqb x s) (λ other. absurd (let no : AwaitsLetter ≡ Hears (answer.Letter s sent 240) = sym e ∙ k in cc))
    inv_other (Ends first closing) AwaitsLetter e = other_by (eqb x s) (λ other. Ends first closing)
    inv_other inv (Hears y) e = was
    inv_other inv AwaitsReply e = was
    inv_other inv IsOver e = was

-- ---- all events

module _ (s a : ℕ) where
  pub inv_session : (names : Names) (talk : Talk) → Inv s talk → Inv s (session_turn a names talk talk.client)
  inv_session names talk (Goes phase stand) = phase_turn s a names talk phase stand (Goes phase stand)
  inv_session names talk (Waits done text known l q m p c sp k) =
      subst (λ st. Inv s (session_turn a names talk st)) (sym c) (Waits done text known l q m p c sp k)
  inv_session names talk (Ends first closing) = ends_turn s a talk first names closing (Ends first closing) talk.client refl

  pub inv_store : (refusal : Option LwpErr) (names : Names) (talk : Talk) → Inv s talk → Inv s (store_turn s refusal names talk talk.keeper)
  inv_store refusal names talk (Goes phase stand) =
      inv_apart s refusal names talk _ phase (apart_turn s refusal names talk (phase_free phase) talk.keeper stand refl)
  inv_store refusal names talk (Waits done text known l q m p c sp k) = inv_told s refusal names talk done text known l q m p sp k
  inv_store refusal names talk (Ends first closing) = ends_store s a talk first refusal names closing (Ends first closing) talk.keeper

  inv_event : (talk : Talk) (e : Event) → Inv s talk → Inv s (talk_on s a talk e)
  inv_event talk (SessionTurn names) inv = inv_session names talk inv
  inv_event talk (StoreTurn refusal names) inv = inv_store refusal names talk inv
  inv_event talk (Line text) inv = inv_line s a talk inv text inv
  inv_event talk OwnLetter inv = inv_letter s a talk inv inv
  inv_event talk (OtherLetter x text room) inv = inv_other s a talk inv x text room inv talk.keeper refl
  inv_event talk AgentEnds inv = Ends (inv_first s talk inv) (Alone refl)
  inv_event talk SessionDies inv = Ends (inv_first s talk inv) (Done refl refl)

  pub inv_events : (events : List Event) (talk : Talk) → Inv s talk → Inv s (fold (talk_on s a) talk events)
  inv_events [] talk inv = inv
  inv_events (e ∷ events) talk inv = inv_events events (talk_on s a talk e) (inv_event talk e inv)

  pub inv_opening : (event store : ℕ) → Inv s (opening_talk event store)
  inv_opening event store = Goes (Idle [] (record { replied = refl; kept = refl; clean = refl }) refl refl refl) refl

pub talks_are_answers : TalksAreAnswers
talks_are_answers s a event store events = inv_first s _ (inv_events s a events (opening_talk event store) (inv_opening s a event store))
