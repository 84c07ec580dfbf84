-- What the two of a talk reply is short, as long as the client's lines are.
use Rattle.answer_laws.proofs.AnswerLists.{Texts, replies_push, table_after}
use Rattle.answer_laws.proofs.Lengths.{replies_short, short_lines_have_short_answers}
use Rattle.answer_laws.proofs.OwnSteps.{Calls, Calls.Asks, Calls.Plainly, Replying, session_calls_by}
use Rattle.answer_laws.proofs.TalkLaws.{Closing.Alone, Closing.Done, Inv, Inv.Ends, Inv.Goes, Inv.Waits, inv_first, inv_session, is_received, phase_free}
use Rattle.answer_laws.specs.Lengths.{is_short}
use Rattle.answer_laws.specs.Stands.{is_short_reply, is_short_to}
use Rattle.answer_laws.specs.Talks.{Mail.Received, Stand, Stand.AwaitsLetter, Stand.AwaitsReply, Stand.Hears}
use Rattle.answer_laws.specs.Talks.{Stand.IsOver, Talk, deed_of, session_calls, session_turn}
use Rattle.line_server.specs.Sessions.{session_by, session_next}
use Rattle.line_server.specs.Stores.{store_by, store_next, store_turn_after_letter}
use Rattle.line_server.specs.Tables.{line_answers, replies, served_text}
use Rattle.lwp_types.specs.Names.{Names}
use Rattle.lwp_types.specs.Unblock.{nonexist, zero_answer}
use Rattle.lwp_types.specs.declared.call.Answer.{Answer}
use Rattle.pod_laws.proofs.Elements.{differ}
use Rattle.std.proofs.Common.{Bool, List, [], ap, cond, eqb, false, inl, inr, not, refl, sym, true, ℕ, ◌++◌, ◌||◌, ◌∙◌, ◌∷◌, ◌≡◌, ◌⊎◌}
use Rattle.std.proofs.lemmas.Bool.{and_parts}
use Rattle.std.proofs.lemmas.List.Folds.{list_all-append}
use Rattle.std.specs.List.{list_all}

last_of : (xs : Texts) (x : List ℕ) → list_all is_short (xs ++ x ∷ []) ≡ true → is_short x ≡ true
last_of [] x all = (and_parts (is_short x) true all).0
last_of (y ∷ ys) x all = last_of ys x (and_parts (is_short y) (list_all is_short (ys ++ x ∷ [])) all).1

short_last : (done : Texts) (text : List ℕ) → list_all is_short (done ++ text ∷ []) ≡ true → is_short (served_text text (table_after [] done)).reply ≡ true
short_last done text all = last_of (replies [] done) (served_text text (table_after [] done)).reply
    (ap (list_all is_short) (sym (replies_push done text [])) ∙ replies_short (done ++ text ∷ []) [] all refl)

abbrev heard_of : Stand → Answer
heard_of (Hears x) = x
heard_of AwaitsLetter = zero_answer
heard_of AwaitsReply = zero_answer
heard_of IsOver = zero_answer

right_or : (b c : Bool) → c ≡ true → (b || c) ≡ true
right_or true c e = refl
right_or false c e = e

-- the store's reply to a letter of the session
pub store_short : (s : ℕ) (talk : Talk) → Inv s talk → talk.agent_lives ≡ true → list_all is_short talk.lines ≡ true → (x : Answer)
    → talk.keeper ≡ Hears x → (names : Names) (sent : List ℕ) → talk.mail ≡ Received sent
    → is_short_to s (store_next talk.store names x).0 ≡ true
unfolding store_next
store_short s talk (Goes phase stand) lives all x hears names sent mail = differ (sym (ap is_received mail) ∙ phase_free phase)
store_short s talk (Ends first (Alone gone)) lives all x hears names sent mail = differ (sym lives ∙ gone)
store_short s talk (Ends first (Done none done)) lives all x hears names sent mail = differ (sym (ap is_received mail) ∙ ap is_received none)
store_short s talk (Waits done text known lines q m p c place keeper) lives all x hears names sent mail =
    ap (λ p. is_short_to s (store_by talk.store x p).0) place
    ∙ ap (λ z. is_short_to s (store_turn_after_letter talk.store z).0) (ap heard_of (sym hears ∙ keeper))
    ∙ ap (λ t. not (eqb s s) || is_short (served_text text t).reply) known.kept
    ∙ right_or (not (eqb s s)) (is_short (served_text text (table_after [] done)).reply) (short_last done text (ap (list_all is_short) (sym lines) ∙ all))

-- the session's reply to its client
pub session_short : (s a : ℕ) (talk : Talk) → Inv s talk → (x : Answer) → talk.client ≡ Hears x → (names : Names)
    → list_all is_short talk.lines ≡ true → talk.agent_lives ≡ true → is_short_reply (session_next talk.session names x).0 ≡ true
unfolding session_next
session_short s a talk inv x hears names all lives = by_kind (session_calls_by talk.session names x talk.session.place)
  where
    after : Talk
    after = session_turn a names talk talk.client

    lines_are : Replying (session_next talk.session names x).0 → after.lines ≡ talk.lines
    lines_are r = ap (λ c. (session_turn a names talk c).lines) hears
        ∙ ap (λ c. (session_calls a (record talk { session = (session_by talk.session names x talk.session.place).1 }) (deed_of c)).lines) r.is
        ∙ by_lives r talk.agent_lives
      where
        by_lives : Replying (session_next talk.session names x).0 → (b : Bool)
            → (cond b
            (record talk { session = (session_by talk.session names x talk.session.place).1; told = talk.told ++ r.text ∷ []; client = Hears zero_answer })
            (record talk { session = (session_by talk.session names x talk.session.place).1; client = Hears nonexist })).lines
            ≡ talk.lines
        by_lives r true = refl
        by_lives r false = refl

    told_is : (r : Replying (session_next talk.session names x).0) → after.told ≡ talk.told ++ r.text ∷ []
    told_is r = ap (λ c. (session_turn a names talk c).told) hears
        ∙ ap (λ c. (session_calls a (record talk { session = (session_by talk.session names x talk.session.place).1 }) (deed_of c)).told) r.is
        ∙ ap (λ b. (cond b
        (record talk { session = (session_by talk.session names x talk.session.place).1; told = talk.told ++ r.text ∷ []; client = Hears zero_answer })
        (record talk { session = (session_by talk.session names x talk.session.place).1; client = Hears nonexist })).told)
        lives

    by_reply : Replying (session_next talk.session names x).0 → is_short_reply (session_next talk.session names x).0 ≡ true
    by_reply r =
        let first = inv_first s after (inv_session s a names talk inv) in
        let whole = ap (list_all is_short) (first.whole ∙ ap line_answers (lines_are r)) ∙ short_lines_have_short_answers talk.lines all in
        let parts = and_parts (list_all is_short after.told) (list_all is_short first.rest) (sym (list_all-append is_short after.told first.rest) ∙ whole) in
        ap is_short_reply r.is ∙ last_of talk.told r.text (ap (list_all is_short) (sym (told_is r)) ∙ parts.0)

    by_kind : Calls talk.session.place (session_next talk.session names x).0 → is_short_reply (session_next talk.session names x).0 ≡ true
    by_kind (Asks e place is) = ap is_short_reply is
    by_kind (Plainly plain) = by_short plain.short
      where
        by_short : (is_short_reply (session_next talk.session names x).0 ≡ true) ⊎ Replying (session_next talk.session names x).0
            → is_short_reply (session_next talk.session names x).0 ≡ true
        by_short (inl short) = short
        by_short (inr r) = by_reply r
