-- What the store's calls come to in a pod that stands as a talk.
use Rattle.answer_laws.proofs.AgentSights.{others_leave_agents}
use Rattle.answer_laws.proofs.Owners.{blocked_row, other_row, told_itself, told_other}
use Rattle.answer_laws.proofs.Replies.{Never, readers_leave_the_rest, receives_are_the_letters, replies_are_the_answers, unless_passed}
use Rattle.answer_laws.proofs.Sights.{found_other, received_own, replied_other, without_own}
use Rattle.answer_laws.proofs.TalkSteps.{agent_as, apart_of, attends_seen, attentive, either_of, heard_one, neither, other_is, talked_append, unheard}
use Rattle.answer_laws.proofs.AgentTexts.{At, at_of}
use Rattle.answer_laws.proofs.TalkTexts.{becomes_as}
use Rattle.answer_laws.specs.Agents.{agent_sight, spares_agent}
use Rattle.answer_laws.specs.Lengths.{is_short}
use Rattle.answer_laws.specs.Replies.{Asks, IsReplied, takes_other}
use Rattle.answer_laws.specs.Sights.{IsLeft, Sight, answers_to, attends, going_on, sight, sight_by}
use Rattle.answer_laws.specs.Stands.{AgentIs, AgentIs.Gone, AgentIs.Made, AgentIs.Unmade, AgentLetters, Becomes, IsHeard, Stands, StoresCallsAreEvents}
use Rattle.answer_laws.specs.Stands.{block_of, goes_on_with, is_placed, is_posted, is_reading, is_short_to, knows, line_letter, mail_letters, owes}
use Rattle.answer_laws.specs.Talks.{Deed.Replies, Event, Event.OtherLetter, Event.OwnLetter, Event.StoreTurn, Mail, Mail.Nothing, Mail.Received}
use Rattle.answer_laws.specs.Talks.{Mail.Sent, Stand, Stand.AwaitsLetter, Stand.AwaitsReply, Stand.Hears, Stand.IsOver, Talk, after_events}
use Rattle.answer_laws.specs.Talks.{deed_of, reply_answer, after_session_reply, store_calls, store_turn}
use Rattle.line_server.specs.Stores.{StoreBody, is_invalid, store_by, store_next, store_turn_after_letter, store_receives}
use Rattle.line_server.specs.Turns.{Turn, is_replied, stops}
use Rattle.line_server.specs.declared.session.SessionPlace.{SessionPlace}
use Rattle.line_server.specs.declared.session.SessionPlace.TheVariants as at
use Rattle.line_server.specs.declared.store.StorePlace.{StorePlace}
use Rattle.line_server.specs.declared.store.StorePlace.TheVariants as kept_at
use Rattle.lwp_types.specs.Case.{Case, Check, answer_case, is_no_id, refusal_case, silent_case, unless, with_zero}
use Rattle.lwp_types.specs.Choice.{choice}
use Rattle.lwp_types.specs.CountLaws.{count-append}
use Rattle.lwp_types.specs.Counts.{timers_of}
use Rattle.lwp_types.specs.FirstLaws.{find-filter}
use Rattle.lwp_types.specs.Lawful.{Lawful}
use Rattle.lwp_types.specs.Messages.{after_reply, as_answer, is_letter_of, is_open, is_to, with_reception, next_letter}
use Rattle.lwp_types.specs.Messages.{receive_by, received_letter, with_holding, without_letter}
use Rattle.lwp_types.specs.Names.{Names}
use Rattle.lwp_types.specs.State.{Outcome, State, is_agent, is_id, is_thread, passes, still, thread_of}
use Rattle.lwp_types.specs.Step.{case_of, step, step_by, step_if, step_outcome}
use Rattle.lwp_types.specs.Unblock.{after_block, is_timer_of, unblock, zero_answer}
use Rattle.lwp_types.specs.declared.call.Answer.{Answer}
use Rattle.lwp_types.specs.declared.call.Call.{Call}
use Rattle.lwp_types.specs.declared.call.LwpErr.{LwpErr}
use Rattle.lwp_types.specs.declared.rows.Letter.{Letter}
use Rattle.pod_laws.proofs.Checks.{Passed}
use Rattle.pod_laws.proofs.Elements.{differ, find_passes}
use Rattle.pod_laws.proofs.Fading.{step_fades}
use Rattle.pod_laws.proofs.TimerMoves.{no_timer_comes_unasked}
use Rattle.pod_laws.specs.Timers.{timers_of_call}
use Rattle.std.proofs.Common.{Bool, List, None, Option, Some, [], ap, append-nil, arith, cond, count_by, eqb, false}
use Rattle.std.proofs.Common.{length, not, refl, subst, sym, true, ℕ, ◌&&◌, ◌++◌, ◌||◌, ◌∙◌, ◌∷◌, ◌≡◌, ◌≢◌, ◌≤◌}
use Rattle.std.proofs.lemmas.Bool.{and_parts, eq-eqb, eqb-true, leb-true, ne_eqb}
use Rattle.std.specs.List.{filter, filter_map, find}
use Rattle.std.specs.Option.{option_to_list}
use Rattle.std.specs.Prelude.{is_none, is_some, nat_lt}
use Rattle.lwp_types.specs.declared.call.Answer.TheVariants as answer
use Rattle.lwp_types.specs.declared.call.Call.TheVariants as call
use Rattle.lwp_types.specs.declared.call.LwpErr.TheVariants as error
use Rattle.lwp_types.specs.declared.call.Mode.TheVariants as mode
use Rattle.lwp_types.specs.declared.rows.Block.TheVariants as block
use Rattle.lwp_types.specs.declared.rows.Mark.TheVariants as mark

-- the store goes on as this body
abbrev StoreGoesOn : (s k a : ℕ) → Talk → List (List ℕ) → StoreBody → Outcome → Type 0
StoreGoesOn s k a talk waiting body out = Becomes s k a talk talk.session body waiting [] [] out

-- ---- what a store does

pub data StoreDoes (turn : Turn StoreBody) : Type 0 where
  DoesReceive : (body : StoreBody) → turn ≡ (call.Recv None mode.Block, body) → StoreDoes turn
  DoesReply : (v : ℕ) (text : List ℕ) (body : StoreBody) → turn ≡ (call.Reply v text, body) → StoreDoes turn
  DoesStop : turn.0 ≡ call.Return → StoreDoes turn

module _ (body : StoreBody) where
  does_after : (b : Bool) → StoreDoes (cond b (store_receives body) (stops body))
  does_after true = DoesReceive _ refl
  does_after false = DoesStop refl

  does_replied : (b d : Bool)
      → StoreDoes (cond b (call.Reply body.client [], record body { place = kept_at.Empty }) (cond d (store_receives body) (stops body)))
  does_replied true d = DoesReply _ _ _ refl
  does_replied false d = does_after d

  does_received : (x : Answer) → StoreDoes (store_turn_after_letter body x)
  does_received (answer.Letter from text room) = DoesReply _ _ _ refl
  does_received (answer.Refused e) = DoesReceive _ refl
  does_received (answer.Value v) = DoesStop refl
  does_received (answer.Thread t) = DoesStop refl
  does_received (answer.Monitor t) = DoesStop refl
  does_received (answer.Cond t) = DoesStop refl
  does_received (answer.Reply text) = DoesStop refl
  does_received (answer.Bound f arg) = DoesStop refl
  does_received (answer.Caught d m p) = DoesStop refl
  does_received (answer.Ids n ns) = DoesStop refl

  pub does_by : (x : Answer) (p : StorePlace) → StoreDoes (store_by body x p)
  does_by x kept_at.Start = DoesReceive _ refl
  does_by x kept_at.Recv = does_received x
  does_by x kept_at.Reply = does_replied (is_invalid x) (is_replied x)
  does_by x kept_at.Empty = does_after (is_replied x)

-- ---- checks and letters

pub data Checked (s : State) (checks : List Check) (otherwise : Case) : Type 0 where
  Struck : (e : LwpErr) → unless s checks otherwise ≡ refusal_case s e → Checked s checks otherwise
  Free : Passed checks → unless s checks otherwise ≡ otherwise → Checked s checks otherwise

pub checked : (s : State) (checks : List Check) (otherwise : Case) → Checked s checks otherwise
unfolding unless
checked s [] otherwise = Free tt refl
checked s (check ∷ checks) otherwise = by_test check.0 refl (checked s checks otherwise)
  where
    by_test : (b : Bool) → check.0 ≡ b → Checked s checks otherwise → Checked s (check ∷ checks) otherwise
    by_test true e rest = Struck check.1 (rw e refl)
    by_test false e (Struck why is) = Struck why (rw e is)
    by_test false e (Free passed is) = Free (e, passed) (rw e is)

pub second_strikes : (s : State) (one two : Check) (rest : List Check) (otherwise : Case) → one.0 ≡ false → two.0 ≡ true
    → unless s (one ∷ two ∷ rest) otherwise ≡ refusal_case s two.1
unfolding unless
second_strikes s one two rest otherwise e f = rw (e, f) refl

letters_swapped : (letters : List Letter) (q : Letter → Bool) (a t : ℕ)
    → find (λ x. q x && is_letter_of a x) (filter (is_to t) letters) ≡ find (λ x. q x && is_to t x) (filter (is_letter_of a) letters)
letters_swapped letters q a t = find-filter (λ x. q x && is_letter_of a x) (is_to t) letters
    ∙ (λ i. find (λ x. swapped (is_to t x) (q x) (is_letter_of a x) i) letters)
    ∙ sym (find-filter (λ x. q x && is_to t x) (is_letter_of a) letters)
  where
    swapped : (a b c : Bool) → (a && (b && c)) ≡ (c && (b && a))
    swapped true true true = refl
    swapped true true false = refl
    swapped true false true = refl
    swapped true false false = refl
    swapped false true true = refl
    swapped false true false = refl
    swapped false false true = refl
    swapped false false false = refl

pub deeper : {X : Type 0} (o : Option X) (z x : X) (b : Bool) → b ≡ false → cond b (Some z) o ≡ Some x → o ≡ Some x
deeper o z x true e f = absurd (cc)
deeper o z x false e f = f

pub at_head : {X : Type 0} (o : Option X) (z x : X) (b : Bool) → b ≡ true → cond b (Some z) o ≡ Some x → z ≡ x
at_head o z x true e f = cc f
at_head o z x false e f = absurd (cc)

-- none is found that passes where none passes
pub found_none : (p r q : Letter → Bool) (letters : List Letter) (x : Letter) → find p (filter r letters) ≡ Some x → q x ≡ true → filter q letters ≡ [] → ⊥
found_none p r q [] x found passed none = cc
found_none p r q (w ∷ ws) x found passed none = by_tests (r w) (p w) refl (q w) refl found none (found_none p r q ws x)
  where
    by_tests : (b c : Bool) → p w ≡ c → (d : Bool) → q w ≡ d → find p (cond b (w ∷ filter r ws) (filter r ws)) ≡ Some x
        → cond d (w ∷ filter q ws) (filter q ws) ≡ [] → (find p (filter r ws) ≡ Some x → q x ≡ true → filter q ws ≡ [] → ⊥) → ⊥
    by_tests b c is true its f e rest = cc e
    by_tests true true is false its f e rest = let same : w ≡ x = at_head (find p (filter r ws)) w x (p w) is f in
        let bad : true ≡ false = sym passed ∙ sym (ap q same) ∙ its in cc
    by_tests true false is false its f e rest = rest (deeper (find p (filter r ws)) w x (p w) is f) passed e
    by_tests false c is false its f e rest = rest f passed e

-- who is found among some is the one of them that passes
found_one : (p r q : Letter → Bool) (letters : List Letter) (x y : Letter) → find p (filter r letters) ≡ Some x → q x ≡ true → filter q letters ≡ y ∷ [] → x ≡ y
found_one p r q [] x y found passed only = absurd (cc)
found_one p r q (z ∷ zs) x y found passed only = by_tests (r z) (p z) refl (q z) refl found only (found_one p r q zs x y)
  where
    head : {u v : Letter} {us : List Letter} → u ∷ us ≡ v ∷ [] → (u ≡ v) × (us ≡ [])
    head {u} {v} {us} e = (cc e, cc e)

    by_tests : (b c : Bool) → p z ≡ c → (d : Bool) → q z ≡ d → find p (cond b (z ∷ filter r zs) (filter r zs)) ≡ Some x
        → cond d (z ∷ filter q zs) (filter q zs) ≡ y ∷ [] → (find p (filter r zs) ≡ Some x → q x ≡ true → filter q zs ≡ y ∷ [] → x ≡ y) → x ≡ y
    by_tests true true is true its f o rest = sym (at_head (find p (filter r zs)) z x (p z) is f) ∙ (head o).0
    by_tests true true is false its f o rest =
        absurd (let same : z ≡ x = at_head (find p (filter r zs)) z x (p z) is f in let bad : true ≡ false = sym passed ∙ sym (ap q same) ∙ its in cc)
    by_tests true false is true its f o rest = absurd (found_none p r q zs x (deeper (find p (filter r zs)) z x (p z) is f) passed (head o).1)
    by_tests true false is false its f o rest = rest (deeper (find p (filter r zs)) z x (p z) is f) passed o
    by_tests false c is true its f o rest = absurd (found_none p r q zs x f passed (head o).1)
    by_tests false c is false its f o rest = rest f passed o

posted_received : (stand : Stand) (text : List ℕ) → is_posted stand (Sent text) ≡ true → is_posted stand (Received text) ≡ true
posted_received (Hears x) text h = absurd (cc)
posted_received AwaitsLetter text h = absurd (cc)
posted_received AwaitsReply text h = refl
posted_received IsOver text h = absurd (cc)

pub sends_at : (stand : Stand) (text : List ℕ) (place : SessionPlace) → is_posted stand (Received text) ≡ true → is_placed stand place ≡ true → place ≡ at.Send
sends_at (Hears x) text place h p = absurd (cc)
sends_at AwaitsLetter text place h p = absurd (cc)
sends_at AwaitsReply text at.Start h p = absurd (cc)
sends_at AwaitsReply text at.Agent h p = absurd (cc)
sends_at AwaitsReply text at.Recv h p = absurd (cc)
sends_at AwaitsReply text at.Send h p = refl
sends_at AwaitsReply text at.Reply h p = absurd (cc)
sends_at AwaitsReply text at.Bye h p = absurd (cc)
sends_at AwaitsReply text at.End h p = absurd (cc)
sends_at IsOver text place h p = absurd (cc)

pub own_is : (s a : ℕ) (text : List ℕ) (talk : Talk) → talk.keeper ≡ AwaitsLetter → talk.mail ≡ Sent text
    → after_events s a talk (OwnLetter ∷ []) ≡ record talk { keeper = Hears (answer.Letter s text 240); mail = Received text }
own_is s a text talk w m = rw (w, m) refl

-- a session that sends knows its agent and owes a reply, however it goes on
agent_sends : (s a : ℕ) (st : State) (talk later : Talk) (waiting : List (List ℕ)) → talk.session.place ≡ at.Send
    → later.session ≡ talk.session → later.agent_lives ≡ talk.agent_lives → AgentIs s a st talk waiting → AgentIs s a st later waiting
agent_sends s a st talk later waiting sends same lives2 (Unmade below place lives none) = Unmade below (ap (λ x. x.place) same ∙ place) (lives2 ∙ lives) none
agent_sends s a st talk later waiting sends same lives2 (Made row there owns lives known letters) = Made row there owns (lives2 ∙ lives)
    (subst (λ p. knows a later.session.agent p later.client ≡ true) (sym sends ∙ sym (ap (λ x. x.place) same))
    (ap (λ x. eqb x.agent a) same ∙ subst (λ p. knows a talk.session.agent p talk.client ≡ true) sends known))
    (subst (λ b. AgentLetters s a b waiting (agent_sight st a).letters)
    (ap (λ p. owes p talk.client) sends ∙ sym (ap (λ p. owes p later.client) (ap (λ x. x.place) same ∙ sends))) letters)
agent_sends s a st talk later waiting sends same lives2 (Gone off below lives known) = Gone off below (lives2 ∙ lives)
    (subst (λ p. knows a later.session.agent p later.client ≡ true) (sym sends ∙ sym (ap (λ x. x.place) same))
    (ap (λ x. eqb x.agent a) same ∙ subst (λ p. knows a talk.session.agent p talk.client ≡ true) sends known))

-- ---- the store's turn, with others there or not

module _ (k : ℕ) (st : State) (turn : choice st ≡ Some k) (k_seen : sight st k ≡ record { waits = Some block.Not; marks = mark.Frame ∷ []; letters = [] }) where
  k_row : At st k block.Not
  k_row = at_of st k block.Not (ap (λ x. x.waits) k_seen)

  pub off : count_by (is_to k) (filter (is_letter_of k) st.letters) ≡ 0
  off = ap (λ x. count_by (is_to k) x.letters) k_seen

  -- what the store shows and is told
  pub record Keeps (c : Call) (stand : Stand) (heard : List Answer) : Type 0 where
    pub seen : sight (step st c).after k ≡ record { waits = Some (block_of None stand); marks = mark.Frame ∷ []; letters = [] }
    pub told : answers_to k (step st c).effects ≡ heard

  pub step_is : (c : Call) → step st c ≡ step_outcome k c (case_of st k c)
  unfolding step step_by
  step_is c = ap (step_if st c) turn

  keeps_made : (c : Call) (made : Case) (stand : Stand) (heard : List Answer) → case_of st k c ≡ made
      → sight (step_outcome k c made).after k ≡ record { waits = Some (block_of None stand); marks = mark.Frame ∷ []; letters = [] }
      → answers_to k made.others ++ option_to_list made.own ≡ heard → Keeps c stand heard
  keeps_made c made stand heard is seen told = record {
    seen = ap (λ out. sight out.after k) (step_is c ∙ ap (step_outcome k c) is) ∙ seen;
    told = ap (λ out. answers_to k out.effects) (step_is c ∙ ap (step_outcome k c) is) ∙ told_itself k c made ∙ told;
  }

  abbrev pub recv : Call
  recv = call.Recv None mode.Block

  received_by : (o : Option Letter) → next_letter st.letters k None ≡ o → case_of st k recv ≡ receive_by st k None mode.Block o
  received_by o e = unless_passed st _ _ (refl, (refl, tt)) ∙ ap (receive_by st k None mode.Block) e

  pub keeps_waiting : next_letter st.letters k None ≡ None → Keeps recv AwaitsLetter []
  keeps_waiting e = keeps_made recv (silent_case (still (after_block st k (block.Receiving None)))) AwaitsLetter [] (received_by None e)
      ((λ i. sight_by (blocked_row k (block.Receiving None) st.threads k_row.row k_row.known i) (filter (is_letter_of k) st.letters))
      ∙ ap (λ o. record (sight_by o (filter (is_letter_of k) st.letters)) { waits = Some (block.Receiving None) }) (sym k_row.known)
      ∙ ap (λ (v : Sight). record v { waits = Some (block.Receiving None) }) k_seen)
      refl

  pub keeps_letter : (l : Letter) → next_letter st.letters k None ≡ Some l → Keeps recv (Hears (as_answer l)) (as_answer l ∷ [])
  keeps_letter l e = keeps_made recv (answer_case (record st { letters = with_reception l.from st.letters }) (as_answer l))
      (Hears (as_answer l)) (as_answer l ∷ []) (received_by (Some l) e)
      ((λ i. sight_by (thread_of st k) (received_own k Never l.from (found_other k Never k st off (is_open None) l e) st.letters i)) ∙ k_seen) refl

  module _ (v : ℕ) (text : List ℕ) where
    abbrev answering : Call
    answering = call.Reply v text

    pub keeps_refused : (e : LwpErr) → case_of st k answering ≡ refusal_case st e → Keeps answering (Hears (answer.Refused e)) (answer.Refused e ∷ [])
    keeps_refused e is = keeps_made answering (refusal_case st e) (Hears (answer.Refused e)) (answer.Refused e ∷ []) is k_seen refl

    k_replied : v ≢ k → (b : Bool)
        → (sight
        (cond b (still (record st { letters = without_letter v st.letters; agents = with_holding v false st.agents }))
        (unblock (answer.Reply text) v (record st { letters = without_letter v st.letters }))).after
        k
        ≡ sight st k)
        × (answers_to k (cond b (still (record st { letters = without_letter v st.letters; agents = with_holding v false st.agents }))
        (unblock (answer.Reply text) v (record st { letters = without_letter v st.letters }))).effects
        ≡ [])
    k_replied other true = (λ i. sight_by (thread_of st k) (without_own k Never v other st.letters i), refl)
    k_replied other false = (
      λ i. sight_by (other_row v k block.Not st.threads other i) (without_own k Never v other st.letters i),
      none (eqb v k) (ne_eqb v k other),
    )
      where
        none : (b : Bool) → b ≡ false → filter_map (λ (o : Option Answer). o) (cond b (Some (answer.Reply text)) None ∷ []) ≡ []
        none true e = absurd (cc)
        none false e = refl

    pub keeps_replied : v ≢ k → case_of st k answering ≡ with_zero (after_reply v text st) → Keeps answering (Hears zero_answer) (zero_answer ∷ [])
    keeps_replied other is = let w = k_replied other (is_agent st v) in
        keeps_made answering (with_zero (after_reply v text st)) (Hears zero_answer) (zero_answer ∷ []) is (w.0 ∙ k_seen)
        (ap (λ xs. xs ++ zero_answer ∷ []) w.1)

-- ---- the store's turn

module _ (s k a : ℕ) (st : State) (was : Lawful st None) (talk : Talk) (waiting : List (List ℕ)) (h : Stands s k a st talk waiting)
    (s_k : eqb s k ≡ false) (turn : choice st ≡ Some k) (x : Answer) (hears : talk.keeper ≡ Hears x) where
  k_s : eqb k s ≡ false
  k_s = ne_eqb k s (λ e. apart_of s k s_k (sym e))

  s_row : At st s (block_of (Some a) talk.client)
  s_row = at_of st s (block_of (Some a) talk.client) (ap (λ x. x.waits) h.client)

  k_seen : sight st k ≡ record { waits = Some block.Not; marks = mark.Frame ∷ []; letters = [] }
  k_seen = h.keeper s_k ∙ ap (λ c. record { waits = Some (block_of None c); marks = mark.Frame ∷ []; letters = [] }) hears

  attends_s : attends st s ≡ true
  attends_s = attends_seen st s (block_of (Some a) talk.client) (ap (λ x. x.waits) h.client) (attentive (Some a) talk.client)

  -- nothing of the agent changes
  agent_after : (c : Call) → spares_agent a s c ≡ true → (talk.session.place ≡ at.Start → (step st c).after.births ≤ a)
      → AgentIs s a st talk waiting → AgentIs s a (step st c).after talk waiting
  agent_after c spared low (Unmade below place lives none) = Unmade (low place) place lives none
  agent_after c spared low (Made row there owns lives known letters) =
      let kept = others_leave_agents st was k a row turn there (ap (eqb k) owns ∙ k_s) c (ap (λ n. spares_agent a n c) owns ∙ spared) in
      Made row (ap (λ x. x.row) kept ∙ there) owns lives known
      (subst (λ x. AgentLetters s a (owes talk.session.place talk.client) waiting x.letters) (sym kept) letters)
  agent_after c spared low (Gone off below lives known) =
      let parts = either_of (is_thread st a) (is_agent st a) off in
      Gone
      (neither (is_thread (step st c).after a) (is_agent (step st c).after a) ((step_fades a st c).threads below parts.0)
      ((step_fades a st c).agents below parts.1))
      (omega (arith, below, (step_fades a st c).births)) lives known

  -- a call without a timer
  untimed_after : (c : Call) → (u : ℕ) → timers_of_call st (Some k) c ≡ [] → timers_of st.timers u ≡ 0 → timers_of (step st c).after.timers u ≡ 0
  untimed_after c u asks none = omega (
    arith,
    none,
    (no_timer_comes_unasked st (is_timer_of u)).called c,
    count-append (is_timer_of u) st.timers (timers_of_call st (choice st) c),
    ap (λ o. count_by (is_timer_of u) (timers_of_call st o c)) turn,
    ap (count_by (is_timer_of u)) asks,
  )

  -- the whole
  goes : (c : Call) (body : StoreBody) (stand : Stand) (heard : List Answer) → spares_agent a s c ≡ true → timers_of_call st (Some k) c ≡ []
      → (talk.session.place ≡ at.Start → (step st c).after.births ≤ a) → Keeps k st turn k_seen c stand heard → is_reading stand ≡ true
      → IsHeard talk.keeper stand heard
      → (client : Stand) (mail : Mail)
      → sight (step st c).after s ≡ record { waits = Some (block_of (Some a) client); marks = mark.Frame ∷ []; letters = mail_letters s k mail }
      → is_posted client mail ≡ true → is_placed client talk.session.place ≡ true
      → (AgentIs s a (step st c).after talk waiting
      → AgentIs s a (step st c).after (record talk { store = body; keeper = stand; client = client; mail = mail }) waiting)
      → IsHeard talk.client client (answers_to s (step st c).effects)
      → (events : List Event) → after_events s a talk events ≡ record talk { store = body; keeper = stand; client = client; mail = mail }
      → StoreGoesOn s k a talk waiting body (step st c)
  goes c body stand heard spared asks low keeps reads kept client mail seen posted placed agent told events now = becomes_as s k a talk
      talk.session body waiting [] [] (step st c) events (record talk { store = body; keeper = stand; client = client; mail = mail }) now refl refl waiting
      (record {
        client = seen;
        keeper = λ apart. keeps.seen;
        posted = posted;
        placed = placed;
        reads = reads;
        untimed = untimed_after c s asks h.untimed;
        untimed_keeper = λ apart. untimed_after c k asks (h.untimed_keeper apart);
        alone = λ same. differ (sym same ∙ s_k);
        agent = agent (agent_after c spared low h.agent);
      })
      (sym (append-nil (talk.lines ++ waiting))) (sym (append-nil talk.told)) told (λ apart. subst (IsHeard talk.keeper stand) (sym keeps.told) kept)

  module _ (names : Names) (body : StoreBody) where
    -- ---- it receives

    module _ (now : after_events s a talk (StoreTurn None names ∷ []) ≡ record talk { store = body; keeper = AwaitsLetter })
        (low : talk.session.place ≡ at.Start → (step st (recv k st turn k_seen)).after.births ≤ a) where
      left_of : (o : Option Letter) → next_letter st.letters k None ≡ o → takes_other s o ≡ true → IsLeft s st (step st (recv k st turn k_seen))
      left_of o e h = (readers_leave_the_rest st k s turn k_s attends_s).receives None mode.Block (ap (takes_other s) e ∙ h)

      -- the session is left
      goes_left : (stand : Stand) (heard : List Answer) → Keeps k st turn k_seen (recv k st turn k_seen) stand heard
          → is_reading stand ≡ true → IsHeard talk.keeper stand heard → IsLeft s st (step st (recv k st turn k_seen))
          → (events : List Event) → after_events s a talk events ≡ record talk { store = body; keeper = stand }
          → StoreGoesOn s k a talk waiting body (step st (recv k st turn k_seen))
      goes_left stand heard keeps reads kept left events now2 =
          goes (recv k st turn k_seen) body stand heard refl refl low keeps reads kept talk.client talk.mail (left.same ∙ h.client) h.posted h.placed
          (λ agent. agent_as refl refl refl agent) (unheard talk.client (answers_to s (step st (recv k st turn k_seen)).effects) left.quiet) events now2

      waits_now : next_letter st.letters k None ≡ None → StoreGoesOn s k a talk waiting body (step st (recv k st turn k_seen))
      waits_now e = goes_left AwaitsLetter [] (keeps_waiting k st turn k_seen e) refl (λ z h. tt) (left_of None e refl) (StoreTurn None names ∷ []) now

      heard_letter : (l : Letter) → IsHeard talk.keeper (Hears (as_answer l)) (as_answer l ∷ [])
      heard_letter l = heard_one talk.keeper (as_answer l) (as_answer l ∷ []) refl

      from_other : (l : Letter) → next_letter st.letters k None ≡ Some l → is_letter_of s l ≡ false
          → StoreGoesOn s k a talk waiting body (step st (recv k st turn k_seen))
      from_other l e other = goes_left (Hears (as_answer l)) (as_answer l ∷ []) (keeps_letter k st turn k_seen l e) refl (heard_letter l)
          (left_of (Some l) e (ap not other)) (StoreTurn None names ∷ OtherLetter l.from l.text l.room ∷ [])
          (talked_append s a talk (StoreTurn None names ∷ []) (OtherLetter l.from l.text l.room ∷ [])
          ∙ ap (λ t. after_events s a t (OtherLetter l.from l.text l.room ∷ [])) now
          ∙ other_is s a l.from l.text l.room (record talk { store = body; keeper = AwaitsLetter }) refl (apart_of l.from s other))

      from_session : (l : Letter) → next_letter st.letters k None ≡ Some l → is_letter_of s l ≡ true → (m : Mail) → talk.mail ≡ m
          → StoreGoesOn s k a talk waiting body (step st (recv k st turn k_seen))
      from_session l e its Nothing m =
          absurd (found_none (is_open None) (is_to k) (is_letter_of s) st.letters l e its (ap (λ x. x.letters) h.client ∙ ap (mail_letters s k) m))
      from_session l e its (Received text) m =
          let same = found_one (is_open None) (is_to k) (is_letter_of s) st.letters l (line_letter s k text true) e its
          (ap (λ x. x.letters) h.client ∙ ap (mail_letters s k) m) in
          let open_still = (and_parts (not l.received) true (find_passes (is_open None) (filter (is_to k) st.letters) l e)).0 in
          differ (sym open_still ∙ ap (λ (x : Letter). not x.received) same)
      from_session l e its (Sent text) m =
          let letters = ap (λ x. x.letters) h.client ∙ ap (mail_letters s k) m in
          let sent = line_letter s k text false in
          let same = found_one (is_open None) (is_to k) (is_letter_of s) st.letters l sent e its letters in
          let found = e ∙ ap Some same in
          let asks : Asks st s k sent = record { lives = ap is_some s_row.known; from = refl; to = refl; letters = letters } in
          let r = receives_are_the_letters st was k s turn sent asks None mode.Block found in
          goes (recv k st turn k_seen) body (Hears (as_answer sent)) (as_answer sent ∷ []) refl refl low
          (keeps_letter k st turn k_seen sent found) refl (heard_letter sent) talk.client (Received text)
          (r.seen ∙ ap (λ (v : Sight). record v { letters = line_letter s k text true ∷ [] }) h.client)
          (posted_received talk.client text (subst (λ m. is_posted talk.client m ≡ true) m h.posted)) h.placed (λ agent. agent_as refl refl refl agent)
          (unheard talk.client (answers_to s (step st (recv k st turn k_seen)).effects) r.quiet) (StoreTurn None names ∷ OwnLetter ∷ [])
          (talked_append s a talk (StoreTurn None names ∷ []) (OwnLetter ∷ []) ∙ ap (λ t. after_events s a t (OwnLetter ∷ [])) now
          ∙ own_is s a text (record talk { store = body; keeper = AwaitsLetter }) refl m)

      receives : StoreGoesOn s k a talk waiting body (step st (recv k st turn k_seen))
      receives = by_letter (next_letter st.letters k None) refl
        where
          by_letter : (o : Option Letter) → next_letter st.letters k None ≡ o → StoreGoesOn s k a talk waiting body (step st (recv k st turn k_seen))
          by_letter None e = waits_now e
          by_letter (Some l) e = by_sender (is_letter_of s l) refl
            where
              by_sender : (b : Bool) → is_letter_of s l ≡ b → StoreGoesOn s k a talk waiting body (step st (recv k st turn k_seen))
              by_sender true is = from_session l e is talk.mail refl
              by_sender false is = from_other l e is

    -- ---- it replies

    module _ (v : ℕ) (text : List ℕ) (now : (refusal : Option LwpErr)
        → after_events s a talk (StoreTurn refusal names ∷ []) ≡ store_calls s refusal (record talk { store = body }) (Replies v text))
        (low : talk.session.place ≡ at.Start → (step st (call.Reply v text)).after.births ≤ a)
        (short : (sent : List ℕ) → talk.mail ≡ Received sent → is_short_to s (call.Reply v text) ≡ true) where
      abbrev reply : Call
      reply = call.Reply v text

      heard_so : (y : Answer) → IsHeard talk.keeper (Hears y) (y ∷ [])
      heard_so y = heard_one talk.keeper y (y ∷ []) refl

      -- the session is left
      reply_left : (y : Answer) → Keeps k st turn k_seen reply (Hears y) (y ∷ []) → IsLeft s st (step st reply) → (events : List Event)
          → after_events s a talk events ≡ record talk { store = body; keeper = Hears y } → StoreGoesOn s k a talk waiting body (step st reply)
      reply_left y keeps left events now2 =
          goes reply body (Hears y) (y ∷ []) refl refl low keeps refl (heard_so y) talk.client talk.mail (left.same ∙ h.client) h.posted h.placed
          (λ agent. agent_as refl refl refl agent) (unheard talk.client (answers_to s (step st reply).effects) left.quiet) events now2

      -- to another
      to_other : eqb v s ≡ false → StoreGoesOn s k a talk waiting body (step st reply)
      to_other other = by_checks (checked st _ _)
        where
          left : IsLeft s st (step st reply)
          left = (readers_leave_the_rest st k s turn k_s attends_s).replies v text other

          now_other : (refusal : Option LwpErr)
              → after_events s a talk (StoreTurn refusal names ∷ []) ≡ record talk { store = body; keeper = Hears (reply_answer refusal) }
          now_other refusal = now refusal ∙ by_test (eqb v s) other
            where
              by_test : (b : Bool) → b ≡ false
                  → cond b (after_session_reply (record talk { store = body }) text talk.mail)
                  (record talk { store = body; keeper = Hears (reply_answer refusal) })
                  ≡ record talk { store = body; keeper = Hears (reply_answer refusal) }
              by_test true e = absurd (cc)
              by_test false e = refl

          by_checks : Checked st
              (is_no_id st v ∷ (is_none (received_letter st.letters k v), error.NoWait)
              ∷ (passes (λ (letter : Letter). nat_lt letter.room (length text)) (received_letter st.letters k v), error.InvalidArg) ∷ [])
              (with_zero (after_reply v text st))
              → StoreGoesOn s k a talk waiting body (step st reply)
          by_checks (Struck e is) =
              reply_left (answer.Refused e) (keeps_refused k st turn k_seen v text e is) left (StoreTurn (Some e) names ∷ []) (now_other (Some e))
          by_checks (Free passed is) = reply_left zero_answer
              (keeps_replied k st turn k_seen v text (replied_other k Never k st (off k st turn k_seen) v passed.1.0) is) left
              (StoreTurn None names ∷ []) (now_other None)

      -- to the session
      module _ (same : v ≡ s) where
        now_own : after_events s a talk (StoreTurn None names ∷ []) ≡ after_session_reply (record talk { store = body }) text talk.mail
        now_own = now None ∙ by_test (eqb v s) (eq-eqb v s same)
          where
            by_test : (b : Bool) → b ≡ true
                → cond b (after_session_reply (record talk { store = body }) text talk.mail) (record talk { store = body; keeper = Hears zero_answer })
                ≡ after_session_reply (record talk { store = body }) text talk.mail
            by_test true e = refl
            by_test false e = absurd (cc)

        letters_are : (m : Mail) → talk.mail ≡ m → filter (is_letter_of s) st.letters ≡ mail_letters s k m
        letters_are m e = ap (λ x. x.letters) h.client ∙ ap (mail_letters s k) e

        -- where it has received no letter of it
        unreceived_one : (m : Mail) → talk.mail ≡ m
            → (after_session_reply (record talk { store = body }) text m ≡ record talk { store = body; keeper = Hears (answer.Refused error.NoWait) })
            → find (λ x. x.received && is_to k x) (mail_letters s k m) ≡ None → StoreGoesOn s k a talk waiting body (step st reply)
        unreceived_one m e told none = reply_left (answer.Refused error.NoWait) (keeps_refused k st turn k_seen v text error.NoWait is) left
            (StoreTurn None names ∷ []) (now_own ∙ ap (after_session_reply (record talk { store = body }) text) e ∙ told)
          where
            missing : received_letter st.letters k v ≡ None
            missing = ap (received_letter st.letters k) same ∙ letters_swapped st.letters (λ x. x.received) s k
                ∙ ap (find (λ x. x.received && is_to k x)) (letters_are m e) ∙ none

            there : is_id st v ≡ true
            there = ap (is_id st) same ∙ by_thread (is_thread st s) (ap is_some s_row.known)
              where
                by_thread : (b : Bool) → b ≡ true → (b || is_agent st s) ≡ true
                by_thread true e = refl
                by_thread false e = absurd (cc)

            is : case_of st k reply ≡ refusal_case st error.NoWait
            is = second_strikes st _ _ _ _ (ap not there) (ap is_none missing)

            left : IsLeft s st (step st reply)
            left = record {
              same = ap (λ out. sight out.after s) (step_is k st turn k_seen reply ∙ ap (step_outcome k reply) is);
              quiet = ap (λ out. answers_to s out.effects) (step_is k st turn k_seen reply ∙ ap (step_outcome k reply) is)
                  ∙ told_other s k (apart_of k s k_s) reply (refusal_case st error.NoWait);
            }

        received_one : (sent : List ℕ) → talk.mail ≡ Received sent → StoreGoesOn s k a talk waiting body (step st reply)
        received_one sent e = by_checks (checked st _ _)
          where
            asks : Asks st s k (line_letter s k sent true)
            asks = record { lives = ap is_some s_row.known; from = refl; to = refl; letters = letters_are (Received sent) e }

            fits : length text ≤ 240
            fits = leb-true (length text) 240 (by_test (eqb v s) (eq-eqb v s same) (short sent e))
              where
                by_test : (b : Bool) → b ≡ true → (not b || is_short text) ≡ true → is_short text ≡ true
                by_test true e h = h
                by_test false e h = absurd (cc)

            r : IsReplied s text st (step st reply)
            r = subst (λ n. IsReplied s text st (step st (call.Reply n text))) (sym same)
                ((replies_are_the_answers st was k s turn (line_letter s k sent true) asks refl text).fits fits)

            place : talk.session.place ≡ at.Send
            place = sends_at talk.client sent talk.session.place (subst (λ m. is_posted talk.client m ≡ true) e h.posted) h.placed

            by_checks : Checked st
                (is_no_id st v ∷ (is_none (received_letter st.letters k v), error.NoWait)
                ∷ (passes (λ (letter : Letter). nat_lt letter.room (length text)) (received_letter st.letters k v), error.InvalidArg) ∷ [])
                (with_zero (after_reply v text st))
                → StoreGoesOn s k a talk waiting body (step st reply)
            by_checks (Struck why is) = absurd (let bad : answer.Reply text ∷ []
                ≡ [] = sym r.told ∙ ap (λ out. answers_to s out.effects) (step_is k st turn k_seen reply ∙ ap (step_outcome k reply) is)
                ∙ told_other s k (apart_of k s k_s) reply (refusal_case st why) in
                cc)
            by_checks (Free passed is) = goes reply body (Hears zero_answer) (zero_answer ∷ []) refl refl low
                (keeps_replied k st turn k_seen v text (replied_other k Never k st (off k st turn k_seen) v passed.1.0) is) refl (heard_so zero_answer)
                (Hears (answer.Reply text)) Nothing (r.goes_on ∙ ap (λ (v : Sight). record (going_on v) { letters = [] }) h.client) refl refl
                (λ agent. agent_sends s a (step st reply).after talk _ waiting place refl refl agent)
                (heard_one talk.client (answer.Reply text) (answers_to s (step st reply).effects) r.told)
                (StoreTurn None names ∷ []) (now_own ∙ ap (after_session_reply (record talk { store = body }) text) e)

        to_own : (m : Mail) → talk.mail ≡ m → StoreGoesOn s k a talk waiting body (step st reply)
        to_own Nothing e = unreceived_one Nothing e refl refl
        to_own (Sent sent) e = unreceived_one (Sent sent) e refl refl
        to_own (Received sent) e = received_one sent e

      replies : StoreGoesOn s k a talk waiting body (step st reply)
      replies = by_session (eqb v s) refl
        where
          by_session : (b : Bool) → eqb v s ≡ b → StoreGoesOn s k a talk waiting body (step st reply)
          by_session true e = to_own (eqb-true v s e) talk.mail refl
          by_session false e = to_other e

  -- ---- every call of it

  module _ (names : Names) where
    abbrev Goes : Turn StoreBody → Type 0
    Goes does = ((refusal : Option LwpErr)
        → after_events s a talk (StoreTurn refusal names ∷ []) ≡ store_calls s refusal (record talk { store = does.1 }) (deed_of does.0))
        → goes_on_with does.0 ≡ true → ((sent : List ℕ) → talk.mail ≡ Received sent → is_short_to s does.0 ≡ true)
        → (talk.session.place ≡ at.Start → (step st does.0).after.births ≤ a) → StoreGoesOn s k a talk waiting does.1 (step st does.0)

    goes_so : (does : Turn StoreBody) → StoreDoes does → Goes does
    goes_so does (DoesReceive body is) = subst Goes (sym is) (λ now on short low. receives names body (now None) low)
    goes_so does (DoesReply v text body is) = subst Goes (sym is) (λ now on short low. replies names body v text now low short)
    goes_so does (DoesStop is) = λ now on short low. differ (sym on ∙ ap goes_on_with is)

pub stores_calls_are_events : StoresCallsAreEvents
unfolding store_next
stores_calls_are_events s k a st was talk waiting h s_k turn x hears names on short low =
    goes_so s k a st was talk waiting h s_k turn x hears names (store_by talk.store x talk.store.place) (does_by talk.store x talk.store.place) now on short low
  where
    now : (refusal : Option LwpErr)
        → after_events s a talk (StoreTurn refusal names ∷ [])
        ≡ store_calls s refusal (record talk { store = (store_by talk.store x talk.store.place).1 }) (deed_of (store_by talk.store x talk.store.place).0)
    now refusal = ap (store_turn s refusal names talk) hears
