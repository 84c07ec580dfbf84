-- Whatever happens to a session and its store, what the client is told till the store dies and after that is a first part of the answers to
-- its lines, with `down` to each command that the store didn't carry out.
use Rattle.answer_laws.proofs.AnswerLists.{Texts, any_ends, any_stays, before_ends, before_stays, clean_push, either_false, replies_push, table_after}
use Rattle.answer_laws.proofs.TalkLaws.{Closing, Closing.Alone, Closing.Done, Inv, Inv.Ends, Inv.Goes, Inv.Waits}
use Rattle.answer_laws.proofs.TalkLaws.{Phase, Phase.Asks, Phase.Idle, Phase.Learns, Phase.Reads, inv_events, inv_opening, is_done, is_idle, is_refusal}
use Rattle.answer_laws.specs.LostTalks.{LostTalksAreAnswers, answers_till, lost_answer, lost_answers, lost_on, store_lost}
use Rattle.answer_laws.specs.LostTalks.{without_reply}
use Rattle.answer_laws.specs.Talks.{AreFirst, Deed, Deed.Opens, Deed.Receives, Deed.Replies, Deed.Sends, Deed.Stops, Event, Event.AgentEnds, Event.Line}
use Rattle.answer_laws.specs.Talks.{Event.OtherLetter, Event.OwnLetter, Event.SessionDies, Event.SessionTurn, Event.StoreTurn, Mail, Mail.Nothing}
use Rattle.answer_laws.specs.Talks.{Mail.Received, Mail.Sent, Stand, Stand.AwaitsLetter, Stand.AwaitsReply, Stand.Hears, Stand.IsOver, Talk}
use Rattle.answer_laws.specs.Talks.{after_session_reply, deed_of, letter_comes, line_comes, mail_comes, opening_talk, other_comes, reply_answer, session_calls}
use Rattle.answer_laws.specs.Talks.{session_turn, store_calls, store_turn, talk_on}
use Rattle.line_server.specs.Commands.{Command, command_of}
use Rattle.line_server.specs.Sessions.{SessionBody, session_at, session_by, session_next, session_turn_after_agent, session_turn_after_letter}
use Rattle.line_server.specs.Sessions.{session_receives, session_replies, session_returns, session_sends, session_turn_after_reply}
use Rattle.line_server.specs.Stores.{StoreBody, store_by, store_next}
use Rattle.line_server.specs.Tables.{is_quit, line_answers, replies, served_text}
use Rattle.line_server.specs.Turns.{Turn, is_replied, stops}
use Rattle.line_server.specs.declared.session.SessionPlace.{SessionPlace}
use Rattle.line_server.specs.declared.session.SessionPlace.TheVariants as at
use Rattle.lwp_types.specs.Names.{Names}
use Rattle.lwp_types.specs.Unblock.{nonexist, zero_answer}
use Rattle.lwp_types.specs.declared.call.Answer.{Answer}
use Rattle.lwp_types.specs.declared.call.Answer.TheVariants as answer
use Rattle.lwp_types.specs.declared.call.Call.TheVariants as call
use Rattle.lwp_types.specs.declared.call.LwpErr.{LwpErr}
use Rattle.std.proofs.Common.{Bool, List, None, Option, Some, [], ap, arith, cond, eqb, false, length, length-append, refl, subst, suc, sym, take, true, zero}
use Rattle.std.proofs.Common.{ℕ, ◌+◌, ◌++◌, ◌∙◌, ◌∷◌, ◌≡◌, ◌≤◌}
use Rattle.std.proofs.Math.Seq.{take-append_seam}
use Rattle.std.proofs.lemmas.List.{append-nil, append_assoc, map-append, take_all}
use Rattle.std.specs.List.{before_first, fold, list_any}
use Rattle.std.specs.Prelude.{codes, drop, is_some}

-- ---- how lines are answered without a store

abbrev bye : Bool → Texts
bye b = cond b (codes "bye" ∷ []) []

before_append : (xs rest : Texts) → list_any is_quit xs ≡ false → before_first is_quit (xs ++ rest) ≡ xs ++ before_first is_quit rest
before_append [] rest clean = refl
before_append (x ∷ xs) rest clean =
    let parts = either_false (is_quit x) (list_any is_quit xs) clean in
    before_stays is_quit x (xs ++ rest) parts.0 ∙ ap (λ l. x ∷ l) (before_append xs rest parts.1)

any_append : (xs rest : Texts) → list_any is_quit xs ≡ false → list_any is_quit (xs ++ rest) ≡ list_any is_quit rest
any_append [] rest clean = refl
any_append (x ∷ xs) rest clean =
    let parts = either_false (is_quit x) (list_any is_quit xs) clean in any_stays is_quit x (xs ++ rest) parts.0 ∙ any_append xs rest parts.1

drop_seam : (xs ys : Texts) → drop (length xs) (xs ++ ys) ≡ ys
drop_seam [] ys = refl
drop_seam (x ∷ xs) ys = drop_seam xs ys

drop_none : (n : ℕ) (xs : Texts) → length xs ≤ n → drop n xs ≡ []
drop_none zero [] low = refl
drop_none zero (x ∷ xs) low = absurd (omega (arith, low))
drop_none (suc n) [] low = refl
drop_none (suc n) (x ∷ xs) low = drop_none n xs (omega (arith, low))

before_low : (xs : Texts) → length (before_first is_quit xs) ≤ length xs
before_low [] = omega arith
before_low (x ∷ xs) = by_quit (is_quit x) refl (before_low xs)
  where
    by_quit : (b : Bool) → is_quit x ≡ b → length (before_first is_quit xs) ≤ length xs → length (before_first is_quit (x ∷ xs)) ≤ length (x ∷ xs)
    by_quit true e low = let none = ap length (before_ends is_quit x xs e) in omega (arith, none)
    by_quit false e low = let more = ap length (before_stays is_quit x xs e) in omega (arith, more, low)

-- what was told of these lines, carried out, and then of these, lost
abbrev told_so : Texts → Texts → Texts
told_so k more = replies [] k ++ lost_answers more

module _ (k more : Texts) (clean : list_any is_quit (k ++ more) ≡ false) where
  till_append : (rest : Texts) → answers_till (length k) ((k ++ more) ++ rest)
      ≡ told_so k more ++ (lost_answers (before_first is_quit rest) ++ bye (list_any is_quit rest))
  till_append rest =
      let b = before_first is_quit rest in
      let q = list_any is_quit rest in
      let before : before_first is_quit ((k ++ more) ++ rest) ≡ k ++ (more ++ b) = before_append (k ++ more) rest clean ∙ append_assoc k more b in
      ap (λ l. replies [] (take (length k) l) ++ (lost_answers (drop (length k) l) ++ bye (list_any is_quit ((k ++ more) ++ rest)))) before
      ∙ ap (λ d. replies [] (take (length k) (k ++ (more ++ b))) ++ (lost_answers (drop (length k) (k ++ (more ++ b))) ++ bye d))
      (any_append (k ++ more) rest clean)
      ∙ ap (λ l. replies [] l ++ (lost_answers (drop (length k) (k ++ (more ++ b))) ++ bye q)) (take-append_seam k (more ++ b))
      ∙ ap (λ l. replies [] k ++ (lost_answers l ++ bye q)) (drop_seam k (more ++ b))
      ∙ ap (λ l. replies [] k ++ (l ++ bye q)) (map-append (λ text. lost_answer (command_of text)) more b)
      ∙ ap (λ l. replies [] k ++ l) (append_assoc (lost_answers more) (lost_answers b) (bye q))
      ∙ sym (append_assoc (replies [] k) (lost_answers more) (lost_answers b ++ bye q))

  first_till : (rest : Texts) → AreFirst (told_so k more) (answers_till (length k) ((k ++ more) ++ rest))
  first_till rest = record { rest = lost_answers (before_first is_quit rest) ++ bye (list_any is_quit rest); whole = sym (till_append rest) }

  first_all_lost : AreFirst (told_so k more) (answers_till (length k) (k ++ more))
  first_all_lost = subst (λ l. AreFirst (told_so k more) (answers_till (length k) l)) (append-nil (k ++ more)) (first_till [])

  first_quit_lost : (text : List ℕ) → is_quit text ≡ true
      → AreFirst (told_so k more ++ codes "bye" ∷ []) (answers_till (length k) ((k ++ more) ++ text ∷ []))
  first_quit_lost text quits = record {
    rest = [];
    whole = append-nil (told_so k more ++ codes "bye" ∷ [])
        ∙ sym (till_append (text ∷ [])
        ∙ ap (λ l. told_so k more ++ (lost_answers l ++ bye (list_any is_quit (text ∷ [])))) (before_ends is_quit text [] quits)
        ∙ ap (λ d. told_so k more ++ bye d) (any_ends is_quit text [] quits));
  }

-- where all lines are carried out
whole_till : (l : Texts) → answers_till (length l) l ≡ line_answers l
whole_till l =
    let b = before_first is_quit l in
    let low = before_low l in
    ap (λ t. replies [] t ++ (lost_answers (drop (length l) b) ++ bye (list_any is_quit l))) (take_all (length l) b low)
    ∙ ap (λ t. replies [] b ++ (lost_answers t ++ bye (list_any is_quit l))) (drop_none (length l) b low)

-- ---- what holds once the store is gone

-- so many lines were carried out, and what was told is the answers to these, and to some more that were lost
record IsSaid (n : ℕ) (said k more : Texts) : Type 0 where
  size : length k ≡ n
  is : said ≡ told_so k more
  clean : list_any is_quit (k ++ more) ≡ false

-- what it tells its client of its store's answer
abbrev passed_on : Answer → Option (List ℕ)
passed_on (answer.Reply text) = Some text
passed_on (answer.Refused e) = Some (codes "down")
passed_on _ = None

-- how the session stands: it has replied to every line; or holds one; or owes what its store has said
data LostPhase (n : ℕ) (said lines : Texts) (place : SessionPlace) (client : Stand) : Type 0 where
  Rests : (k more : Texts) → IsSaid n said k more → lines ≡ k ++ more → is_idle place client ≡ true → LostPhase n said lines place client
  Holds : (k more : Texts) (text : List ℕ) (from room : ℕ) → IsSaid n said k more → lines ≡ (k ++ more) ++ text ∷ [] → place ≡ at.Recv
      → client ≡ Hears (answer.Letter from text room) → LostPhase n said lines place client
  Owes : (k more : Texts) (reply : List ℕ) (x : Answer) → IsSaid n (said ++ reply ∷ []) k more → lines ≡ k ++ more → place ≡ at.Send
      → client ≡ Hears x → passed_on x ≡ Some reply → LostPhase n said lines place client

data LostInv (n : ℕ) (talk : Talk) : Type 0 where
  On : LostPhase n talk.told talk.lines talk.session.place talk.client → LostInv n talk
  Over : AreFirst talk.told (answers_till n talk.lines) → Closing talk.agent_lives talk.mail talk.session.place talk.client → LostInv n talk

-- ---- what is told so far

as_till : {said lines said2 lines2 : Texts} {m n : ℕ} → said2 ≡ said → lines2 ≡ lines → m ≡ n → AreFirst said (answers_till m lines)
    → AreFirst said2 (answers_till n lines2)
as_till {said} {lines} {said2} {lines2} {m} {n} e l size first = record {
  rest = first.rest;
  whole = ap (λ x. x ++ first.rest) e ∙ first.whole ∙ ap (λ i. answers_till i lines) size ∙ ap (answers_till n) (sym l);
}

first_drop : (said : Texts) (reply : List ℕ) (whole : Texts) → AreFirst (said ++ reply ∷ []) whole → AreFirst said whole
first_drop said reply whole first = record { rest = reply ∷ first.rest; whole = sym (append_assoc said (reply ∷ []) first.rest) ∙ first.whole }

phase_first : {n : ℕ} {said lines : Texts} {place : SessionPlace} {client : Stand} → LostPhase n said lines place client
    → AreFirst said (answers_till n lines)
phase_first (Rests k more so l i) = as_till so.is l so.size (first_all_lost k more so.clean)
phase_first (Holds k more text from room so l p c) = as_till so.is l so.size (first_till k more so.clean (text ∷ []))
phase_first {n} {said} {lines} (Owes k more reply x so l p c r) =
    first_drop said reply (answers_till n lines) (as_till so.is l so.size (first_all_lost k more so.clean))

lost_first : (n : ℕ) (talk : Talk) → LostInv n talk → AreFirst talk.told (answers_till n talk.lines)
lost_first n talk (On phase) = phase_first phase
lost_first n talk (Over first closing) = first

-- ---- the store dies where nothing waits for it

never_idle : (p : SessionPlace) → is_idle p AwaitsReply ≡ true → ⊥
never_idle at.Start h = absurd (cc)
never_idle at.Agent h = absurd (cc)
never_idle at.Recv h = absurd (cc)
never_idle at.Send h = absurd (cc)
never_idle at.Reply h = absurd (cc)
never_idle at.Bye h = absurd (cc)
never_idle at.End h = absurd (cc)

idle_still : (p : SessionPlace) (c : Stand) → is_idle p c ≡ true → is_idle p (without_reply c) ≡ true
idle_still p (Hears x) h = h
idle_still p AwaitsLetter h = h
idle_still p AwaitsReply h = absurd (never_idle p h)
idle_still p IsOver h = h

waits_done : (p : SessionPlace) → is_done p AwaitsReply ≡ true → ⊥
waits_done at.Start h = absurd (cc)
waits_done at.Agent h = absurd (cc)
waits_done at.Recv h = absurd (cc)
waits_done at.Send h = absurd (cc)
waits_done at.Reply h = absurd (cc)
waits_done at.Bye h = absurd (cc)
waits_done at.End h = absurd (cc)

done_still : (p : SessionPlace) (c : Stand) → is_done p c ≡ true → is_done p (without_reply c) ≡ true
done_still p (Hears x) h = h
done_still p AwaitsLetter h = h
done_still p AwaitsReply h = absurd (waits_done p h)
done_still p IsOver h = h

phase_still : {n : ℕ} {said lines : Texts} {place : SessionPlace} {client : Stand} → LostPhase n said lines place client
    → LostPhase n said lines place (without_reply client)
phase_still {place = place} {client = client} (Rests k more so l i) = Rests k more so l (idle_still place client i)
phase_still (Holds k more text from room so l p c) = Holds k more text from room so l p (ap without_reply c)
phase_still (Owes k more reply x so l p c r) = Owes k more reply x so l p (ap without_reply c) r

closing_still : {lives : Bool} {mail : Mail} {place : SessionPlace} {client : Stand} → Closing lives mail place client
    → Closing lives Nothing place (without_reply client)
closing_still (Alone e) = Alone e
closing_still {place = place} {client = client} (Done m h) = Done refl (done_still place client h)

still : (n : ℕ) (talk : Talk) → LostInv n talk → LostInv n (store_lost talk)
still n talk (On phase) = On (phase_still phase)
still n talk (Over first closing) = Over first (closing_still closing)

-- ---- the session's turn

module _ (n s a : ℕ) (names : Names) (talk : Talk) where
  -- what its call comes to, by what it does
  abbrev Comes_to : Turn SessionBody → Type 0
  Comes_to turn = LostInv n (store_lost (session_calls a (record talk { session = turn.1 }) (deed_of turn.0)))

  turn_as : (p : SessionPlace) (x : Answer) → talk.session.place ≡ p → talk.client ≡ Hears x → Comes_to (session_by talk.session names x p)
      → LostInv n (store_lost (session_turn a names talk talk.client))
  unfolding session_next
  turn_as p x e c inv =
      subst (λ st. LostInv n (store_lost (session_turn a names talk st))) (sym c)
      (subst (λ q. Comes_to (session_by talk.session names x q)) (sym e) inv)

  over_now : AreFirst talk.told (answers_till n talk.lines) → (session : SessionBody)
      → LostInv n (store_lost (record talk { session = session; client = IsOver }))
  over_now first session = Over first (Done refl refl)

  -- it waits for the next line
  receives : (k more : Texts) → IsSaid n talk.told k more → talk.lines ≡ k ++ more → (body : SessionBody) → Comes_to (session_receives body)
  receives k more so l body = by_lives talk.agent_lives
    where
      by_lives : (b : Bool)
          → LostInv n (store_lost (record talk { session = session_at body at.Recv; client = cond b AwaitsLetter (Hears nonexist) }))
      by_lives true = On (Rests k more so l refl)
      by_lives false = On (Rests k more so l refl)

  -- it replies to the line
  replies_with : (k more : Texts) (reply : List ℕ) → IsSaid n (talk.told ++ reply ∷ []) k more → talk.lines ≡ k ++ more
      → Comes_to (session_replies talk.session reply)
  replies_with k more reply so l = by_lives talk.agent_lives refl
    where
      now : Talk
      now = record talk { session = session_at talk.session at.Reply }

      first : AreFirst talk.told (answers_till n talk.lines)
      first = first_drop talk.told reply (answers_till n talk.lines) (as_till so.is l so.size (first_all_lost k more so.clean))

      by_lives : (b : Bool) → talk.agent_lives ≡ b
          → LostInv n (store_lost (cond b (record now { told = talk.told ++ reply ∷ []; client = Hears zero_answer }) (record now { client = Hears nonexist })))
      by_lives true e = On (Rests k more so l refl)
      by_lives false e = Over first (Alone e)

  -- every line was replied to
  module _ (k more : Texts) (so : IsSaid n talk.told k more) (l : talk.lines ≡ k ++ more) where
    first : AreFirst talk.told (answers_till n talk.lines)
    first = as_till so.is l so.size (first_all_lost k more so.clean)

    after_so : (b : Bool) → Comes_to (cond b (session_receives talk.session) (stops talk.session))
    after_so true = receives k more so l talk.session
    after_so false = over_now first talk.session

    opened : (x : Answer) → Comes_to (session_turn_after_agent talk.session x)
    opened (answer.Thread b) = receives k more so l (record talk.session { agent = b })
    opened (answer.Refused e) = over_now first (session_returns talk.session).1
    opened (answer.Letter from text room) = over_now first talk.session
    opened (answer.Value v) = over_now first talk.session
    opened (answer.Monitor t) = over_now first talk.session
    opened (answer.Cond t) = over_now first talk.session
    opened (answer.Reply text) = over_now first talk.session
    opened (answer.Bound f arg) = over_now first talk.session
    opened (answer.Caught d i p) = over_now first talk.session
    opened (answer.Ids i ns) = over_now first talk.session

    received_none : (x : Answer) → is_refusal x ≡ true → Comes_to (session_turn_after_letter talk.session names x)
    received_none (answer.Letter from text room) h = absurd (cc)
    received_none (answer.Refused e) h = over_now first (session_returns talk.session).1
    received_none (answer.Thread b) h = over_now first talk.session
    received_none (answer.Value v) h = over_now first talk.session
    received_none (answer.Monitor t) h = over_now first talk.session
    received_none (answer.Cond t) h = over_now first talk.session
    received_none (answer.Reply text) h = over_now first talk.session
    received_none (answer.Bound f arg) h = over_now first talk.session
    received_none (answer.Caught d i p) h = over_now first talk.session
    received_none (answer.Ids i ns) h = over_now first talk.session

    rests_at : (p : SessionPlace) (x : Answer) → is_idle p (Hears x) ≡ true → Comes_to (session_by talk.session names x p)
    rests_at at.Start x h = On (Rests k more so l refl)
    rests_at at.Agent x h = opened x
    rests_at at.Recv x h = received_none x h
    rests_at at.Send x h = absurd (cc)
    rests_at at.Reply x h = after_so (is_replied x)
    rests_at at.Bye x h = absurd (cc)
    rests_at at.End x h = absurd (cc)

    rests_turn : (c : Stand) → is_idle talk.session.place c ≡ true → LostInv n (store_lost talk) → LostInv n (store_lost (session_turn a names talk c))
    unfolding session_next
    rests_turn (Hears x) h was = rests_at talk.session.place x h
    rests_turn AwaitsLetter h was = was
    rests_turn AwaitsReply h was = was
    rests_turn IsOver h was = was

  -- it has a line
  module _ (k more : Texts) (so : IsSaid n talk.told k more) (text : List ℕ) (l : talk.lines ≡ (k ++ more) ++ text ∷ []) where
    lines_more : talk.lines ≡ k ++ (more ++ text ∷ [])
    lines_more = l ∙ append_assoc k more (text ∷ [])

    -- one answer more, without the store
    said_more : is_quit text ≡ false → (reply : List ℕ) → lost_answer (command_of text) ≡ reply
        → IsSaid n (talk.told ++ reply ∷ []) k (more ++ text ∷ [])
    said_more q reply r = record {
      size = so.size;
      is = ap (λ x. x ++ reply ∷ []) so.is ∙ ap (λ x. told_so k more ++ x ∷ []) (sym r)
          ∙ append_assoc (replies [] k) (lost_answers more) (lost_answer (command_of text) ∷ [])
          ∙ ap (λ x. replies [] k ++ x) (sym (map-append (λ line. lost_answer (command_of line)) more (text ∷ [])));
      clean = ap (list_any is_quit) (sym (append_assoc k more (text ∷ []))) ∙ clean_push (k ++ more) text so.clean q;
    }

    sends_so : is_quit text ≡ false → (o : Option Command) → command_of text ≡ o → Comes_to (session_sends talk.session names text o)
    sends_so q None e = replies_with k (more ++ text ∷ []) (codes "bad") (said_more q (codes "bad") (ap lost_answer e)) lines_more
    sends_so q (Some c) e =
        On (Owes k (more ++ text ∷ []) (codes "down") nonexist (said_more q (codes "down") (ap lost_answer e)) lines_more refl refl refl)

    byes : is_quit text ≡ true → Comes_to (call.Reply talk.session.agent (codes "bye"), session_at talk.session at.Bye)
    byes q = by_lives talk.agent_lives refl
      where
        now : Talk
        now = record talk { session = session_at talk.session at.Bye }

        by_lives : (b : Bool) → talk.agent_lives ≡ b
            → LostInv n (store_lost (cond b (record now { told = talk.told ++ codes "bye" ∷ []; client = Hears zero_answer })
            (record now { client = Hears nonexist })))
        by_lives true e = Over (as_till (ap (λ x. x ++ codes "bye" ∷ []) so.is) l so.size (first_quit_lost k more so.clean text q)) (Done refl refl)
        by_lives false e = Over (as_till so.is l so.size (first_till k more so.clean (text ∷ []))) (Alone e)

    reads_at : (b : Bool) → is_quit text ≡ b
        → Comes_to (cond b (call.Reply talk.session.agent (codes "bye"), session_at talk.session at.Bye)
        (session_sends talk.session names text (command_of text)))
    reads_at true q = byes q
    reads_at false q = sends_so q (command_of text) refl

  -- its store has said something
  owes_at : (k more : Texts) (reply : List ℕ) → IsSaid n (talk.told ++ reply ∷ []) k more → talk.lines ≡ k ++ more → (x : Answer)
      → passed_on x ≡ Some reply → Comes_to (session_turn_after_reply talk.session x)
  owes_at k more reply so l (answer.Reply text) r =
      let same : text ≡ reply = cc r in subst (λ t. Comes_to (session_replies talk.session t)) (sym same) (replies_with k more reply so l)
  owes_at k more reply so l (answer.Refused e) r =
      let same : codes "down" ≡ reply = cc r in subst (λ t. Comes_to (session_replies talk.session t)) (sym same) (replies_with k more reply so l)
  owes_at k more reply so l (answer.Letter from text room) r = absurd (cc)
  owes_at k more reply so l (answer.Thread b) r = absurd (cc)
  owes_at k more reply so l (answer.Value v) r = absurd (cc)
  owes_at k more reply so l (answer.Monitor t) r = absurd (cc)
  owes_at k more reply so l (answer.Cond t) r = absurd (cc)
  owes_at k more reply so l (answer.Bound f arg) r = absurd (cc)
  owes_at k more reply so l (answer.Caught d i p) r = absurd (cc)
  owes_at k more reply so l (answer.Ids i ns) r = absurd (cc)

  phase_turn : LostPhase n talk.told talk.lines talk.session.place talk.client → LostInv n (store_lost talk)
      → LostInv n (store_lost (session_turn a names talk talk.client))
  phase_turn (Rests k more so l i) was = rests_turn k more so l talk.client i was
  phase_turn (Holds k more text from room so l p c) was =
      turn_as at.Recv (answer.Letter from text room) p c (reads_at k more so text l (is_quit text) refl)
  phase_turn (Owes k more reply x so l p c r) was = turn_as at.Send x p c (owes_at k more reply so l x r)

  -- ---- where it says nothing more

  module _ (first : AreFirst talk.told (answers_till n talk.lines)) where
    -- its agent is gone, so no reply is accepted
    alone_calls : talk.agent_lives ≡ false → (session : SessionBody) (d : Deed) → LostInv n (store_lost (session_calls a (record talk { session = session }) d))
    alone_calls e session Opens = Over first (Alone e)
    alone_calls e session Receives = Over first (Alone e)
    alone_calls e session (Replies to text) = by_lives talk.agent_lives e
      where
        now : Talk
        now = record talk { session = session }

        by_lives : (b : Bool) → b ≡ false
            → LostInv n (store_lost (cond b (record now { told = talk.told ++ text ∷ []; client = Hears zero_answer })
            (record now { client = Hears nonexist })))
        by_lives true h = absurd (cc)
        by_lives false h = Over first (Alone e)
    alone_calls e session (Sends text) = Over first (Alone e)
    alone_calls e session Stops = Over first (Alone e)

    done_at : (p : SessionPlace) (x : Answer) → is_done p (Hears x) ≡ true → Comes_to (session_by talk.session names x p)
    done_at at.Start x h = absurd (cc)
    done_at at.Agent x h = absurd (cc)
    done_at at.Recv x h = absurd (cc)
    done_at at.Send x h = absurd (cc)
    done_at at.Reply x h = absurd (cc)
    done_at at.Bye x h = by_replied (is_replied x)
      where
        by_replied : (b : Bool) → Comes_to (cond b (session_returns talk.session) (stops talk.session))
        by_replied true = Over first (Done refl refl)
        by_replied false = Over first (Done refl refl)
    done_at at.End x h = Over first (Done refl refl)

    over_turn : Closing talk.agent_lives talk.mail talk.session.place talk.client → LostInv n (store_lost talk) → (c : Stand) → talk.client ≡ c
        → LostInv n (store_lost (session_turn a names talk c))
    unfolding session_next
    over_turn (Alone e) was (Hears x) c =
        alone_calls e (session_by talk.session names x talk.session.place).1 (deed_of (session_by talk.session names x talk.session.place).0)
    over_turn (Done m h) was (Hears x) c = done_at talk.session.place x (subst (λ st. is_done talk.session.place st ≡ true) c h)
    over_turn closing was AwaitsLetter c = was
    over_turn closing was AwaitsReply c = was
    over_turn closing was IsOver c = was

lost_turn : (n s a : ℕ) (names : Names) (talk : Talk) → LostInv n talk → LostInv n (store_lost (session_turn a names talk talk.client))
lost_turn n s a names talk (On phase) = phase_turn n s a names talk phase (still n talk (On phase))
lost_turn n s a names talk (Over first closing) = over_turn n s a names talk first closing (still n talk (Over first closing)) talk.client refl

-- ---- a line

module _ (n s a : ℕ) (talk : Talk) (was : LostInv n (store_lost talk)) (text : List ℕ) where
  no_line : (c : Stand) → talk.client ≡ c → (c ≡ AwaitsLetter → LostInv n (store_lost (line_comes a text talk AwaitsLetter)))
      → LostInv n (store_lost (line_comes a text talk c))
  no_line (Hears x) e comes = was
  no_line AwaitsLetter e comes = comes refl
  no_line AwaitsReply e comes = was
  no_line IsOver e comes = was

  alone_line : talk.agent_lives ≡ false → LostInv n (store_lost (line_comes a text talk AwaitsLetter))
  alone_line e = by_lives talk.agent_lives e
    where
      by_lives : (b : Bool) → b ≡ false
          → LostInv n (store_lost (cond b (record talk { client = Hears (answer.Letter a text 240); lines = talk.lines ++ text ∷ [] }) talk))
      by_lives true h = absurd (cc)
      by_lives false h = was

  at_recv : (p : SessionPlace) → is_idle p AwaitsLetter ≡ true → p ≡ at.Recv
  at_recv at.Start h = absurd (cc)
  at_recv at.Agent h = absurd (cc)
  at_recv at.Recv h = refl
  at_recv at.Send h = absurd (cc)
  at_recv at.Reply h = absurd (cc)
  at_recv at.Bye h = absurd (cc)
  at_recv at.End h = absurd (cc)

  never_done : (p : SessionPlace) → is_done p AwaitsLetter ≡ true → ⊥
  never_done at.Start h = absurd (cc)
  never_done at.Agent h = absurd (cc)
  never_done at.Recv h = absurd (cc)
  never_done at.Send h = absurd (cc)
  never_done at.Reply h = absurd (cc)
  never_done at.Bye h = absurd (cc)
  never_done at.End h = absurd (cc)

  rests_line : (k more : Texts) → IsSaid n talk.told k more → talk.lines ≡ k ++ more → talk.session.place ≡ at.Recv
      → LostInv n (store_lost (line_comes a text talk AwaitsLetter))
  rests_line k more so l p = by_lives talk.agent_lives
    where
      by_lives : (b : Bool) → LostInv n (store_lost (cond b (record talk { client = Hears (answer.Letter a text 240); lines = talk.lines ++ text ∷ [] }) talk))
      by_lives true = On (Holds k more text a 240 so (ap (λ x. x ++ text ∷ []) l) p refl)
      by_lives false = was

  lost_line : LostInv n talk → LostInv n (store_lost (line_comes a text talk talk.client))
  lost_line (On (Rests k more so l i)) = no_line talk.client refl
      (λ e. rests_line k more so l (at_recv talk.session.place (subst (λ c. is_idle talk.session.place c ≡ true) e i)))
  lost_line (On (Holds k more sent from room so l p c)) = subst (λ st. LostInv n (store_lost (line_comes a text talk st))) (sym c) was
  lost_line (On (Owes k more reply x so l p c r)) = subst (λ st. LostInv n (store_lost (line_comes a text talk st))) (sym c) was
  lost_line (Over said (Alone e)) = no_line talk.client refl (λ c. alone_line e)
  lost_line (Over said (Done m h)) =
      no_line talk.client refl (λ e. absurd (never_done talk.session.place (subst (λ c. is_done talk.session.place c ≡ true) e h)))

-- ---- all events

module _ (n s a : ℕ) where
  lost_event : (talk : Talk) (e : Event) → talk.keeper ≡ IsOver → LostInv n talk → LostInv n (lost_on s a talk e)
  lost_event talk (SessionTurn names) gone inv = lost_turn n s a names talk inv
  lost_event talk (StoreTurn refusal names) gone inv =
      subst (λ k. LostInv n (store_lost (store_turn s refusal names talk k))) (sym gone) (still n talk inv)
  lost_event talk (Line text) gone inv = lost_line n s a talk (still n talk inv) text inv
  lost_event talk OwnLetter gone inv = subst (λ k. LostInv n (store_lost (letter_comes s talk k))) (sym gone) (still n talk inv)
  lost_event talk (OtherLetter x text room) gone inv =
      subst (λ k. LostInv n (store_lost (other_comes s x text room talk k))) (sym gone) (still n talk inv)
  lost_event talk AgentEnds gone inv = Over (lost_first n talk inv) (Alone refl)
  lost_event talk SessionDies gone inv = Over (lost_first n talk inv) (Done refl refl)

  lost_events : (events : List Event) (talk : Talk) → talk.keeper ≡ IsOver → LostInv n talk → LostInv n (fold (lost_on s a) talk events)
  lost_events [] talk gone inv = inv
  lost_events (e ∷ events) talk gone inv = lost_events events (lost_on s a talk e) refl (lost_event talk e gone inv)

-- ---- the session sends commands alone

abbrev is_command : Mail → Bool
is_command Nothing = true
is_command (Sent text) = is_some (command_of text)
is_command (Received text) = is_some (command_of text)

abbrev sends_command : Deed → Bool
sends_command (Sends text) = is_some (command_of text)
sends_command Opens = true
sends_command Receives = true
sends_command (Replies to text) = true
sends_command Stops = true

module _ (body : SessionBody) (names : Names) where
  abbrev Fine : Turn SessionBody → Type 0
  Fine turn = sends_command (deed_of turn.0) ≡ true

  fine_agent : (x : Answer) → Fine (session_turn_after_agent body x)
  fine_agent (answer.Thread b) = refl
  fine_agent (answer.Refused e) = refl
  fine_agent (answer.Letter from text room) = refl
  fine_agent (answer.Value v) = refl
  fine_agent (answer.Monitor t) = refl
  fine_agent (answer.Cond t) = refl
  fine_agent (answer.Reply text) = refl
  fine_agent (answer.Bound f arg) = refl
  fine_agent (answer.Caught d i p) = refl
  fine_agent (answer.Ids i ns) = refl

  fine_sends : (text : List ℕ) (o : Option Command) → command_of text ≡ o → Fine (session_sends body names text o)
  fine_sends text None e = refl
  fine_sends text (Some c) e = ap is_some e

  fine_reads : (text : List ℕ) (b : Bool)
      → Fine (cond b (call.Reply body.agent (codes "bye"), session_at body at.Bye) (session_sends body names text (command_of text)))
  fine_reads text true = refl
  fine_reads text false = fine_sends text (command_of text) refl

  fine_letter : (x : Answer) → Fine (session_turn_after_letter body names x)
  fine_letter (answer.Letter from text room) = fine_reads text (is_quit text)
  fine_letter (answer.Refused e) = refl
  fine_letter (answer.Thread b) = refl
  fine_letter (answer.Value v) = refl
  fine_letter (answer.Monitor t) = refl
  fine_letter (answer.Cond t) = refl
  fine_letter (answer.Reply text) = refl
  fine_letter (answer.Bound f arg) = refl
  fine_letter (answer.Caught d i p) = refl
  fine_letter (answer.Ids i ns) = refl

  fine_reply : (x : Answer) → Fine (session_turn_after_reply body x)
  fine_reply (answer.Reply text) = refl
  fine_reply (answer.Refused e) = refl
  fine_reply (answer.Letter from text room) = refl
  fine_reply (answer.Thread b) = refl
  fine_reply (answer.Value v) = refl
  fine_reply (answer.Monitor t) = refl
  fine_reply (answer.Cond t) = refl
  fine_reply (answer.Bound f arg) = refl
  fine_reply (answer.Caught d i p) = refl
  fine_reply (answer.Ids i ns) = refl

  fine_replied : (turn : Turn SessionBody) → Fine turn → (b : Bool) → Fine (cond b turn (stops body))
  fine_replied turn h true = h
  fine_replied turn h false = refl

  fine_by : (x : Answer) (p : SessionPlace) → Fine (session_by body names x p)
  fine_by x at.Start = refl
  fine_by x at.Agent = fine_agent x
  fine_by x at.Recv = fine_letter x
  fine_by x at.Send = fine_reply x
  fine_by x at.Reply = fine_replied (session_receives body) refl (is_replied x)
  fine_by x at.Bye = fine_replied (session_returns body) refl (is_replied x)
  fine_by x at.End = refl

module _ (s a : ℕ) (talk : Talk) (was : is_command talk.mail ≡ true) where
  mail_called : (session : SessionBody) (d : Deed) → sends_command d ≡ true → is_command (session_calls a (record talk { session = session }) d).mail ≡ true
  mail_called session Opens h = was
  mail_called session Receives h = was
  mail_called session (Replies to text) h = by_lives talk.agent_lives
    where
      now : Talk
      now = record talk { session = session }

      by_lives : (b : Bool)
          → is_command (cond b (record now { told = talk.told ++ text ∷ []; client = Hears zero_answer }) (record now { client = Hears nonexist })).mail ≡ true
      by_lives true = was
      by_lives false = was
  mail_called session (Sends text) h = h
  mail_called session Stops h = was

  mail_session : (names : Names) (c : Stand) → is_command (session_turn a names talk c).mail ≡ true
  unfolding session_next
  mail_session names (Hears x) = mail_called (session_by talk.session names x talk.session.place).1
      (deed_of (session_by talk.session names x talk.session.place).0) (fine_by talk.session names x talk.session.place)
  mail_session names AwaitsLetter = was
  mail_session names AwaitsReply = was
  mail_session names IsOver = was

  mail_replied : (body : StoreBody) (text : List ℕ) (m : Mail) → is_command m ≡ true → talk.mail ≡ m
      → is_command (after_session_reply (record talk { store = body }) text m).mail ≡ true
  mail_replied body text Nothing h e = was
  mail_replied body text (Sent sent) h e = was
  mail_replied body text (Received sent) h e = refl

  mail_kept : (refusal : Option LwpErr) (body : StoreBody) (d : Deed) → is_command (store_calls s refusal (record talk { store = body }) d).mail ≡ true
  mail_kept refusal body Opens = was
  mail_kept refusal body Receives = was
  mail_kept refusal body (Replies to text) = by_test (eqb to s)
    where
      by_test : (b : Bool)
          → is_command (cond b (after_session_reply (record talk { store = body }) text talk.mail)
          (record talk { store = body; keeper = Hears (reply_answer refusal) })).mail ≡ true
      by_test true = mail_replied body text talk.mail was refl
      by_test false = was
  mail_kept refusal body (Sends text) = was
  mail_kept refusal body Stops = was

  mail_store : (refusal : Option LwpErr) (names : Names) (k : Stand) → is_command (store_turn s refusal names talk k).mail ≡ true
  unfolding store_next
  mail_store refusal names (Hears x) = mail_kept refusal (store_by talk.store x talk.store.place).1 (deed_of (store_by talk.store x talk.store.place).0)
  mail_store refusal names AwaitsLetter = was
  mail_store refusal names AwaitsReply = was
  mail_store refusal names IsOver = was

  mail_line : (text : List ℕ) (c : Stand) → is_command (line_comes a text talk c).mail ≡ true
  mail_line text AwaitsLetter = by_lives talk.agent_lives
    where
      by_lives : (b : Bool)
          → is_command (cond b (record talk { client = Hears (answer.Letter a text 240); lines = talk.lines ++ text ∷ [] }) talk).mail ≡ true
      by_lives true = was
      by_lives false = was
  mail_line text (Hears x) = was
  mail_line text AwaitsReply = was
  mail_line text IsOver = was

  mail_sent : (m : Mail) → is_command m ≡ true → is_command (mail_comes s talk m).mail ≡ true
  mail_sent Nothing h = was
  mail_sent (Sent text) h = h
  mail_sent (Received text) h = was

  mail_letter : (k : Stand) → is_command (letter_comes s talk k).mail ≡ true
  mail_letter AwaitsLetter = mail_sent talk.mail was
  mail_letter (Hears x) = was
  mail_letter AwaitsReply = was
  mail_letter IsOver = was

  mail_other : (x : ℕ) (text : List ℕ) (room : ℕ) (k : Stand) → is_command (other_comes s x text room talk k).mail ≡ true
  mail_other x text room AwaitsLetter = by_test (eqb x s)
    where
      by_test : (b : Bool) → is_command (cond b talk (record talk { keeper = Hears (answer.Letter x text room) })).mail ≡ true
      by_test true = was
      by_test false = was
  mail_other x text room (Hears y) = was
  mail_other x text room AwaitsReply = was
  mail_other x text room IsOver = was

mail_event : (s a : ℕ) (talk : Talk) (e : Event) → is_command talk.mail ≡ true → is_command (talk_on s a talk e).mail ≡ true
mail_event s a talk (SessionTurn names) was = mail_session s a talk was names talk.client
mail_event s a talk (StoreTurn refusal names) was = mail_store s a talk was refusal names talk.keeper
mail_event s a talk (Line text) was = mail_line s a talk was text talk.client
mail_event s a talk OwnLetter was = mail_letter s a talk was talk.keeper
mail_event s a talk (OtherLetter x text room) was = mail_other s a talk was x text room talk.keeper
mail_event s a talk AgentEnds was = was
mail_event s a talk SessionDies was = refl

mail_events : (s a : ℕ) (events : List Event) (talk : Talk) → is_command talk.mail ≡ true → is_command (fold (talk_on s a) talk events).mail ≡ true
mail_events s a [] talk was = was
mail_events s a (e ∷ events) talk was = mail_events s a events (talk_on s a talk e) (mail_event s a talk e was)

-- ---- the store dies

record Dies (talk : Talk) : Type 0 where
  carried : ℕ
  most : carried ≤ length talk.lines
  least : length talk.lines ≤ carried + 1
  inv : LostInv carried (store_lost talk)

lost_command : (text : List ℕ) → is_some (command_of text) ≡ true → lost_answer (command_of text) ≡ codes "down"
lost_command text h = by_command (command_of text) h
  where
    by_command : (o : Option Command) → is_some o ≡ true → lost_answer o ≡ codes "down"
    by_command None e = absurd (cc)
    by_command (Some c) e = refl

module _ (talk : Talk) where
  -- all lines so far were carried out
  all_said : (done said : Texts) → said ≡ replies [] done → list_any is_quit done ≡ false → IsSaid (length done) said done []
  all_said done said r clean = record {
    size = refl;
    is = r ∙ sym (append-nil (replies [] done));
    clean = ap (list_any is_quit) (append-nil done) ∙ clean;
  }

  -- but for the last
  last_lost : (done : Texts) (text : List ℕ) → talk.told ≡ replies [] done → list_any is_quit done ≡ false → is_quit text ≡ false
      → is_some (command_of text) ≡ true → talk.lines ≡ done ++ text ∷ [] → talk.session.place ≡ at.Send → talk.client ≡ AwaitsReply → Dies talk
  last_lost done text r clean q c l p waits = record {
    carried = length done;
    most = let n = ap length l in omega (arith, n, length-append done (text ∷ []));
    least = let n = ap length l in omega (arith, n, length-append done (text ∷ []));
    inv = On (Owes done (text ∷ []) (codes "down") nonexist (record {
      size = refl;
      is = ap (λ x. x ++ codes "down" ∷ []) r ∙ ap (λ x. replies [] done ++ x ∷ []) (sym (lost_command text c));
      clean = clean_push done text clean q;
    }) l p (ap without_reply waits) refl);
  }

  phase_dies : {table : _} → is_command talk.mail ≡ true → Phase talk.told talk.lines table talk.mail talk.session.place talk.client → Dies talk
  phase_dies command (Idle done known l m i) = record {
    carried = length done;
    most = let n = ap length l in omega (arith, n);
    least = let n = ap length l in omega (arith, n);
    inv = On (phase_still (Rests done [] (all_said done talk.told known.replied known.clean) (l ∙ sym (append-nil done)) i));
  }
  phase_dies command (Reads done text from room known l m p c) = record {
    carried = length done;
    most = let n = ap length l in omega (arith, n, length-append done (text ∷ []));
    least = let n = ap length l in omega (arith, n, length-append done (text ∷ []));
    inv = On (phase_still (Holds done [] text from room (all_said done talk.told known.replied known.clean)
        (l ∙ ap (λ x. x ++ text ∷ []) (sym (append-nil done))) p c));
  }
  phase_dies command (Asks done text known l q m p c) =
      last_lost done text known.replied known.clean q (ap is_command (sym m) ∙ command) l p c
  phase_dies command (Learns done text r t clean q l m p c) = record {
    carried = length (done ++ text ∷ []);
    most = let n = ap length l in omega (arith, n);
    least = let n = ap length l in omega (arith, n);
    inv = On (phase_still (Owes (done ++ text ∷ []) [] (served_text text (table_after [] done)).reply _
        (all_said (done ++ text ∷ []) _ (ap (λ x. x ++ (served_text text (table_after [] done)).reply ∷ []) r ∙ sym (replies_push done text []))
        (clean_push done text clean q)) (l ∙ sym (append-nil (done ++ text ∷ []))) p c refl));
  }

dies : (s : ℕ) (talk : Talk) → is_command talk.mail ≡ true → Inv s talk → Dies talk
dies s talk command (Goes phase stand) = phase_dies talk command phase
dies s talk command (Waits done text known l q m p c sp k) =
    last_lost talk done text known.replied known.clean q (ap is_command (sym m) ∙ command) l p c
dies s talk command (Ends first closing) = record {
  carried = length talk.lines;
  most = omega arith;
  least = omega arith;
  inv = Over (record { rest = first.rest; whole = first.whole ∙ sym (whole_till talk.lines) }) (closing_still closing);
}

pub lost_talks_are_answers : LostTalksAreAnswers
lost_talks_are_answers s a event store before after =
    let command = mail_events s a before (opening_talk event store) refl in
    let died = dies s _ command (inv_events s a before (opening_talk event store) (inv_opening s a event store)) in
    let end = lost_events died.carried s a after _ refl died.inv in
    record { carried = died.carried; most = died.most; least = died.least; first = lost_first died.carried _ end }
