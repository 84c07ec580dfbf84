-- What a delivery is in a pod that stands as a talk.
use Rattle.answer_laws.proofs.AgentTexts.{At, at_of, deliveries_pass_others_by, deliveries_reach_agents, found_in, left_deliver}
use Rattle.answer_laws.proofs.Others.{attends_of, deliver_but}
use Rattle.answer_laws.proofs.Sights.{Turn, Turn.Left, Turn.Woken}
use Rattle.answer_laws.proofs.TalkSteps.{IsMade, KeeperTo, attends_seen, attentive, awaits, becomes, either_of, heard_one, keeper_handed, keeper_left}
use Rattle.answer_laws.proofs.TalkSteps.{knows_on, none_left, neither, posted_on, talked_append, unborn_absent, unheard, unsome}
use Rattle.answer_laws.specs.Agents.{IsHandedOn, IsReached, Reaches, agent_sight, deliveries_to, is_busy}
use Rattle.answer_laws.specs.Sights.{IsLeft, answers_to, going_on, sight}
use Rattle.answer_laws.specs.Stands.{AgentIs, AgentIs.Gone, AgentIs.Made, AgentIs.Unmade, AgentLetters, AgentLetters.Idle, AgentLetters.Owed}
use Rattle.answer_laws.specs.Stands.{AgentLetters.Waiting, Becomes, DeliveriesAreEvents, IsHeard, Stands, block_of, is_placed, is_posted, knows, line_letter}
use Rattle.answer_laws.specs.Stands.{owes}
use Rattle.answer_laws.specs.Talks.{Event, Event.Line, Stand, Stand.AwaitsLetter, Stand.AwaitsReply, Stand.Hears, Stand.IsOver, Talk, after_events}
use Rattle.line_server.specs.Sessions.{SessionBody}
use Rattle.line_server.specs.Stores.{StoreBody}
use Rattle.line_server.specs.declared.session.SessionPlace.{SessionPlace}
use Rattle.line_server.specs.declared.session.SessionPlace.TheVariants as at
use Rattle.lwp_types.specs.Agents.{deliver, deliver_to, event_agents, is_armed, is_event_armed, is_for, message}
use Rattle.lwp_types.specs.CountLaws.{count-cons, count_and-le, count_not_found, one}
use Rattle.lwp_types.specs.Counts.{has_owner_and_event, is_between, is_sending, timers_of}
use Rattle.lwp_types.specs.Lawful.{Lawful}
use Rattle.lwp_types.specs.Messages.{as_answer, as_received, is_letter_of, post, takes_from, with_holding}
use Rattle.lwp_types.specs.State.{Outcome, State, ThreadRow, agent_of, and_then, for_each, is_agent, is_agent_row}
use Rattle.lwp_types.specs.State.{is_empty, is_id, is_number, is_thread, passes, still, thread_of}
use Rattle.lwp_types.specs.Time.{after_tick, due_threads, may_tick, tick, time_out}
use Rattle.lwp_types.specs.Unblock.{is_timer_of, nonexist, unblock}
use Rattle.lwp_types.specs.declared.call.Answer.{Answer}
use Rattle.lwp_types.specs.declared.rows.AgentRow.{AgentRow}
use Rattle.lwp_types.specs.declared.rows.Letter.{Letter}
use Rattle.pod_laws.proofs.Elements.{all_found, differ, find_passes}
use Rattle.pod_laws.proofs.Fading.{deliver_fades}
use Rattle.pod_laws.proofs.Holding.{held_counted}
use Rattle.pod_laws.proofs.LetterMoves.{no_rows}
use Rattle.pod_laws.proofs.TimerMoves.{no_timer_comes_unasked}
use Rattle.std.proofs.Common.{Bool, List, None, Option, Some, [], ap, append-nil, arith, cond, count_by, eqb, false}
use Rattle.std.proofs.Common.{inl, inr, not, refl, subst, sym, true, ℕ, ◌++◌, ◌<◌, ◌∙◌, ◌∷◌, ◌≡◌, ◌≢◌, ◌≤◌, ◌⊎◌}
use Rattle.std.proofs.lemmas.Bool.{and_parts, eqb-true, leb-true, ne_eqb}
use Rattle.std.specs.List.{filter, list_all}
use Rattle.std.specs.Prelude.{is_some, nat_le, replicate}
use Rattle.lwp_types.specs.declared.call.Answer.TheVariants as answer

-- the text of an agent that isn't the session
record FromAgent (s : ℕ) (text : List ℕ) (from : Option ℕ) (heard : Answer) : Type 0 where
  agent : ℕ
  away : agent ≢ s
  letter : heard ≡ answer.Letter agent text 240

pub none_kept : {X : Type 0} (p : X → Bool) (xs : List X) → count_by p xs ≡ 0 → filter p xs ≡ []
none_kept p [] none = refl
none_kept p (x ∷ xs) none = by_test (p x) refl (none_kept p xs)
  where
    by_test : (b : Bool) → p x ≡ b → (count_by p xs ≡ 0 → filter p xs ≡ []) → cond b (x ∷ filter p xs) (filter p xs) ≡ []
    by_test true e rest = absurd (omega (arith, none, count-cons p x xs, ap one e))
    by_test false e rest = rest (omega (arith, none, count-cons p x xs))

-- nobody who isn't born has sent anything
pub unborn_silent : (st : State) → Lawful st None → (s : ℕ) → st.births ≤ s → filter (is_letter_of s) st.letters ≡ []
unborn_silent st was s low = none_kept (is_letter_of s) st.letters (omega (
  arith,
  was.nine.blocks.1 s,
  count_and-le (is_number s) (λ row. is_sending row.block) st.threads,
  count_and-le (is_agent_row s) (λ (row : AgentRow). row.holding) st.agents,
  count_not_found (is_number s) st.threads (none_of (thread_of st s) absent.0),
  count_not_found (is_agent_row s) st.agents (none_of (agent_of st.agents s) absent.1),
))
  where
    absent : (is_thread st s ≡ false) × (is_agent st s ≡ false)
    absent = either_of (is_thread st s) (is_agent st s) (unborn_absent st was s low)

    none_of : {X : Type 0} (o : Option X) → is_some o ≡ false → o ≡ None
    none_of {X} None e = refl
    none_of {X} (Some x) e = absurd (cc)

-- events that lead to a talk in which the pod stands
abbrev pub becomes_as : (s k a : ℕ) (talk : Talk) (session : SessionBody) (store : StoreBody) (waiting delivered replies : List (List ℕ))
    (out : Outcome) (events : List Event) (later : Talk)
    → after_events s a talk events ≡ later → later.session ≡ session → later.store ≡ store → (waits : List (List ℕ)) → Stands s k a out.after later waits
    → later.lines ++ waits ≡ (talk.lines ++ waiting) ++ delivered → later.told ≡ talk.told ++ replies
    → IsHeard talk.client later.client (answers_to s out.effects) → (eqb s k ≡ false → IsHeard talk.keeper later.keeper (answers_to k out.effects))
    → Becomes s k a talk session store waiting delivered replies out
becomes_as s k a talk session store waiting delivered replies out events later now its_session its_store waits stands texts said heard heard_keeper = record {
  events = events;
  waits = waits;
  session_then = ap (λ (x : Talk). x.session) now ∙ its_session;
  store_then = ap (λ (x : Talk). x.store) now ∙ its_store;
  stands = subst (λ x. Stands s k a out.after x waits) (sym now) stands;
  texts = ap (λ (x : Talk). x.lines ++ waits) now ∙ texts;
  said = ap (λ (x : Talk). x.told) now ∙ said;
  heard = subst (λ (x : Talk). IsHeard talk.client x.client (answers_to s out.effects)) (sym now) heard;
  heard_keeper = λ s_k. subst (λ (x : Talk). IsHeard talk.keeper x.keeper (answers_to k out.effects)) (sym now) (heard_keeper s_k);
}

pub line_is : (s a : ℕ) (text : List ℕ) (talk : Talk) → talk.client ≡ AwaitsLetter → talk.agent_lives ≡ true
    → after_events s a talk (Line text ∷ []) ≡ record talk { client = Hears (answer.Letter a text 240); lines = talk.lines ++ text ∷ [] }
line_is s a text talk waits lives = rw (waits, lives) refl

pub placed_recv : (place : SessionPlace) → is_placed AwaitsLetter place ≡ true → place ≡ at.Recv
placed_recv at.Start h = absurd (cc)
placed_recv at.Agent h = absurd (cc)
placed_recv at.Recv h = refl
placed_recv at.Send h = absurd (cc)
placed_recv at.Reply h = absurd (cc)
placed_recv at.Bye h = absurd (cc)
placed_recv at.End h = absurd (cc)

-- a delivery bears nobody
module _ where
  births_post : (letter : Letter) (s : State) → (post letter s).after.births ≡ s.births
  births_post letter s = by_test (passes (λ (row : ThreadRow). takes_from letter.from row.block) (thread_of s letter.to))
    where
      by_test : (b : Bool)
          → (cond b (unblock (as_answer letter) letter.to (record s { letters = s.letters ++ as_received letter ∷ [] }))
          (still (record s { letters = s.letters ++ letter ∷ [] }))).after.births
          ≡ s.births
      by_test true = refl
      by_test false = refl

  births_each : {A : Type 0} (change : A → State → Outcome) → ((x : A) (s : State) → (change x s).after.births ≡ s.births)
      → (xs : List A) (s : State) → (for_each change xs s).after.births ≡ s.births
  unfolding for_each and_then
  births_each change keeps [] s = refl
  births_each change keeps (x ∷ xs) s = births_each change keeps xs (change x s).after ∙ keeps x s

  births_to : (text : List ℕ) (row : AgentRow) (s : State) → (deliver_to text row s).after.births ≡ s.births
  unfolding and_then
  births_to text row s = births_post (message text row) (record s { agents = with_holding row.number true s.agents })

  births_tick : (s : State) → (tick s).after.births ≡ s.births
  unfolding and_then
  births_tick s = births_each time_out (λ v now. refl) (due_threads (after_tick s)) (after_tick s)

  pub births_deliver : (s : State) (e : ℕ) (text : List ℕ) → (deliver s e text).after.births ≡ s.births
  unfolding deliver
  births_deliver s e text = by_clock (eqb e 0)
    where
      by_clock : (b : Bool) → (cond b (tick s) (for_each (deliver_to text) (event_agents s.agents e) s)).after.births ≡ s.births
      by_clock true = births_tick s
      by_clock false = births_each (deliver_to text) (births_to text) (event_agents s.agents e) s

-- a thread that receives from nobody but a takes no letter of another
only_a : (a : ℕ) (stand : Stand) (n : ℕ) → n ≢ a → takes_from n (block_of (Some a) stand) ≡ false
only_a a (Hears x) n other = refl
only_a a AwaitsLetter n other = ne_eqb a n (λ e. other (sym e))
only_a a AwaitsReply n other = refl
only_a a IsOver n other = refl

module _ (s k a : ℕ) (st : State) (was : Lawful st None) (talk : Talk) (waiting : List (List ℕ)) (h : Stands s k a st talk waiting) (e : ℕ)
    (text : List ℕ) (arms : is_event_armed st e ≡ true) where
  abbrev out : Outcome
  out = deliver st e text

  s_waits : (sight st s).waits ≡ Some (block_of (Some a) talk.client)
  s_waits = ap (λ x. x.waits) h.client

  s_row : At st s (block_of (Some a) talk.client)
  s_row = at_of st s (block_of (Some a) talk.client) s_waits

  timers_after : (u : ℕ) → timers_of st.timers u ≡ 0 → timers_of out.after.timers u ≡ 0
  timers_after u none = omega (arith, none, (no_timer_comes_unasked st (is_timer_of u)).delivered e text)

  keeper_to : KeeperTo s k a talk out
  keeper_to = by_store (eqb s k) refl
    where
      turn_k : eqb s k ≡ false → Turn k (FromAgent s text) st out
      turn_k s_k = deliver_but k s (FromAgent s text) st was.nine
          (attends_of k (FromAgent s text) st (attends_seen st k (block_of None talk.keeper) (ap (λ x. x.waits) (h.keeper s_k)) (attentive None talk.keeper)))
          (no_rows st None was.nine s s_row.row s_row.known) (h.untimed_keeper s_k) e text (λ agent away from takes.
          record { agent = agent; away = away; letter = refl })

      by_turn : eqb s k ≡ false → Turn k (FromAgent s text) st out → KeeperTo s k a talk out
      by_turn s_k (Left left) = keeper_left s k a st talk waiting out h (λ apart. left)
      by_turn s_k (Woken woken) = by_right (awaits None woken.from talk.keeper (unsome (sym (ap (λ x. x.waits) (h.keeper s_k)) ∙ woken.waited))) woken.right
        where
          by_right : (talk.keeper ≡ AwaitsLetter) × (woken.from ≡ None)
              → FromAgent s text woken.from woken.heard ⊎ ((woken.heard ≡ nonexist) × (is_some woken.from ≡ true)) → KeeperTo s k a talk out
          by_right w (inl sent) = keeper_handed s k a st talk waiting out h s_k sent.agent text 240 sent.away w.0 woken.goes_on
              (woken.told ∙ ap (λ x. x ∷ []) sent.letter)
          by_right w (inr none) = differ (sym none.1 ∙ ap is_some w.1)

      by_store : (b : Bool) → eqb s k ≡ b → KeeperTo s k a talk out
      by_store true same = keeper_left s k a st talk waiting out h (none_left s k st out same)
      by_store false s_k = by_turn s_k (turn_k s_k)

  -- ---- it passes by

  gone_after : is_id st a ≡ false → a < st.births → is_id out.after a ≡ false
  gone_after off below = let parts = either_of (is_thread st a) (is_agent st a) off in
      neither (is_thread out.after a) (is_agent out.after a) ((deliver_fades a st e text).threads below parts.0)
      ((deliver_fades a st e text).agents below parts.1)

  agent_kept : agent_sight out.after a ≡ agent_sight st a → AgentIs s a st talk waiting → AgentIs s a out.after talk waiting
  agent_kept kept (Unmade below place lives none) = Unmade (omega (arith, below, births_deliver st e text)) place lives none
  agent_kept kept (Made row there owns lives known letters) = Made row (ap (λ x. x.row) kept ∙ there) owns lives known
      (subst (λ x. AgentLetters s a (owes talk.session.place talk.client) waiting x.letters) (sym kept) letters)
  agent_kept kept (Gone off below lives known) = Gone (gone_after off below) (omega (arith, below, (deliver_fades a st e text).births)) lives known

  passed : passes (is_for e) (agent_of st.agents a) ≡ false
      → Becomes s k a talk talk.session talk.store waiting (replicate (deliveries_to a out.effects) text) [] out
  passed off =
      let by = deliveries_pass_others_by st was a e text off in
      let left = left_deliver s (block_of (Some a) talk.client) (attentive (Some a) talk.client) a (only_a a talk.client) st was s_waits h.untimed e text off in
      subst (λ n. Becomes s k a talk talk.session talk.store waiting (replicate n text) [] out) (sym by.none)
      (becomes s k a talk waiting out (timers_after s h.untimed) (λ s_k. timers_after k (h.untimed_keeper s_k)) keeper_to (record {
        events = [];
        client = talk.client;
        lives = talk.agent_lives;
        is = λ keeper. refl;
        seen = left.same ∙ h.client;
        posted = h.posted;
        placed = h.placed;
        agent = agent_kept by.seen h.agent;
        heard = unheard talk.client (answers_to s out.effects) left.quiet;
      }))

  -- ---- it is for the agent

  module _ (m : IsMade s a st talk waiting) (its : is_for e m.row ≡ true) where
    number : m.row.number ≡ a
    number = eqb-true m.row.number a (find_passes (is_agent_row a) st.agents m.row m.there)

    event : m.row.event ≡ e
    event = eqb-true m.row.event e its

    not_clock : eqb e 0 ≡ false
    not_clock = ne_eqb e 0 (λ z. absurd (omega (
      arith,
      z,
      event,
      leb-true 1 m.row.event
          (and_parts (nat_le 1 m.row.event) (nat_le m.row.event 32) (and_parts (is_thread st m.row.owner) (is_between 1 32 m.row.event)
          (all_found (is_agent_row a) (has_owner_and_event st) st.agents m.row was.nine.owners.2 m.there)).1).0,
    )))

    idle : m.row.holding ≡ false
    idle = by_not m.row.holding (all_found (is_agent_row a) (λ row. not row.holding) (event_agents st.agents e) m.row all
        (found_in a e st.agents m.row m.there its))
      where
        by_not : (b : Bool) → not b ≡ true → b ≡ false
        by_not true x = absurd (cc)
        by_not false x = refl

        by_clock : (b : Bool) → b ≡ false → cond b (may_tick st) (is_armed st.agents e) ≡ true → is_armed st.agents e ≡ true
        by_clock true x y = absurd (cc)
        by_clock false x y = y

        all : list_all (λ row. not row.holding) (event_agents st.agents e) ≡ true
        all = (and_parts (not (is_empty (event_agents st.agents e))) (list_all (λ row. not row.holding) (event_agents st.agents e))
            (by_clock (eqb e 0) not_clock (and_parts (not st.ended) _ arms).1)).1

    silent : filter (is_letter_of a) st.letters ≡ []
    silent = none_kept (is_letter_of a) st.letters (held_counted st None was.nine a m.row m.there ∙ ap one idle)

    free : AgentLetters s a (owes talk.session.place talk.client) waiting (agent_sight st a).letters
        → (owes talk.session.place talk.client ≡ false) × (waiting ≡ [])
    free (Idle owed none empty) = (owed, none)
    free (Waiting t owed some one_letter) = absurd (let bad : line_letter a s t false ∷ [] ≡ [] = sym one_letter ∙ silent in cc)
    free (Owed t owed none one_letter) = absurd (let bad : line_letter a s t true ∷ [] ≡ [] = sym one_letter ∙ silent in cc)

    owed_not : owes talk.session.place talk.client ≡ false
    owed_not = (free m.letters).0

    none_waits : waiting ≡ []
    none_waits = (free m.letters).1

    reaches : Reaches st a m.row text out
    reaches = subst (λ n. Reaches st a m.row text (deliver st n text)) event (deliveries_reach_agents st was a m.row m.there text)

    owner_waits : (sight st m.row.owner).waits ≡ Some (block_of (Some a) talk.client)
    owner_waits = ap (λ n. (sight st n).waits) m.owns ∙ s_waits

    lettered : (received : Bool) → IsReached a m.row text received st out → (agent_sight out.after a).letters ≡ line_letter a s text received ∷ []
    lettered received reached = ap (λ x. x.letters) reached.seen
        ∙ (λ i. silent i ++ record { from = number i; to = m.owns i; text = text; room = 240; received = received } ∷ [])

    abbrev Goal : Type 0
    Goal = Becomes s k a talk talk.session talk.store waiting (replicate (deliveries_to a out.effects) text) [] out

    -- the session waits for it
    awaited : talk.client ≡ AwaitsLetter → Goal
    awaited waits =
        let both = reaches.awaited (owner_waits ∙ ap (λ c. Some (block_of (Some a) c)) waits) in
        let handed = subst (λ n. IsHandedOn n a text st out) m.owns both.1 in
        let place = placed_recv talk.session.place (subst (λ c. is_placed c talk.session.place ≡ true) waits h.placed) in
        subst (λ n. Becomes s k a talk talk.session talk.store waiting (replicate n text) [] out) (sym both.0.once)
        (becomes_as s k a talk talk.session talk.store waiting (text ∷ []) [] out (keeper_to.events ++ Line text ∷ [])
        (record talk { keeper = keeper_to.keeper; client = Hears (answer.Letter a text 240); lines = talk.lines ++ text ∷ [] })
        (talked_append s a talk keeper_to.events (Line text ∷ []) ∙ ap (λ x. after_events s a x (Line text ∷ [])) keeper_to.is
        ∙ line_is s a text (record talk { keeper = keeper_to.keeper }) waits m.lives)
        refl refl
        []
        (record {
          client = handed.goes_on ∙ ap going_on h.client;
          keeper = keeper_to.seen;
          posted = posted_on (answer.Letter a text 240) talk.mail (subst (λ c. is_posted c talk.mail ≡ true) waits h.posted);
          placed = refl;
          reads = keeper_to.reads;
          untimed = timers_after s h.untimed;
          untimed_keeper = λ s_k. timers_after k (h.untimed_keeper s_k);
          alone = λ same. record { mail = (keeper_to.alone same).mail; keeper = (keeper_to.alone same).keeper };
          agent = Made (record m.row { holding = true }) (ap (λ x. x.row) both.0.seen) m.owns m.lives
              (knows_on a talk.session.agent talk.session.place (answer.Letter a text 240)
              (subst (λ c. knows a talk.session.agent talk.session.place c ≡ true) waits m.known))
              (Owed text (ap (λ p. owes p (Hears (answer.Letter a text 240))) place) refl (lettered true both.0));
        })
        (append-nil (talk.lines ++ text ∷ []) ∙ (λ i. (sym (append-nil talk.lines) ∙ ap (λ w. talk.lines ++ w) (sym none_waits)) i ++ text ∷ []))
        (sym (append-nil talk.told))
        (heard_one talk.client (answer.Letter a text 240) (answers_to s out.effects) handed.told)
        keeper_to.heard)

    -- it has the text to receive
    kept : is_busy (Some (block_of (Some a) talk.client)) ≡ true → Goal
    kept busy =
        let both = reaches.kept (ap is_busy owner_waits ∙ busy) in
        let left = subst (λ n. IsLeft n st out) m.owns both.1 in
        subst (λ n. Becomes s k a talk talk.session talk.store waiting (replicate n text) [] out) (sym both.0.once)
        (becomes_as s k a talk talk.session talk.store waiting (text ∷ []) [] out keeper_to.events
        (record talk { keeper = keeper_to.keeper }) keeper_to.is refl refl (text ∷ [])
        (record {
          client = left.same ∙ h.client;
          keeper = keeper_to.seen;
          posted = h.posted;
          placed = h.placed;
          reads = keeper_to.reads;
          untimed = timers_after s h.untimed;
          untimed_keeper = λ s_k. timers_after k (h.untimed_keeper s_k);
          alone = λ same. record { mail = (keeper_to.alone same).mail; keeper = (keeper_to.alone same).keeper };
          agent = Made (record m.row { holding = true }) (ap (λ x. x.row) both.0.seen) m.owns m.lives m.known
              (Waiting text owed_not refl (lettered false both.0));
        })
        (λ i. (sym (append-nil talk.lines) ∙ ap (λ w. talk.lines ++ w) (sym none_waits)) i ++ text ∷ [])
        (sym (append-nil talk.told))
        (unheard talk.client (answers_to s out.effects) left.quiet)
        keeper_to.heard)

    reached_so : (c : Stand) → talk.client ≡ c → Goal
    reached_so (Hears x) is = kept (ap (λ c. is_busy (Some (block_of (Some a) c))) is)
    reached_so AwaitsLetter is = awaited is
    reached_so AwaitsReply is = kept (ap (λ c. is_busy (Some (block_of (Some a) c))) is)
    reached_so IsOver is = kept (ap (λ c. is_busy (Some (block_of (Some a) c))) is)

  made_of : (row : AgentRow) → agent_of st.agents a ≡ Some row → AgentIs s a st talk waiting → IsMade s a st talk waiting
  made_of row there (Unmade below place lives none) =
      differ (sym (ap is_some there) ∙ (either_of (is_thread st a) (is_agent st a) (unborn_absent st was a below)).1)
  made_of row there (Made row2 there2 owns lives known letters) = record {
    row = row2;
    there = there2;
    owns = owns;
    lives = lives;
    known = known;
    letters = letters;
  }
  made_of row there (Gone off below lives known) = differ (sym (ap is_some there) ∙ (either_of (is_thread st a) (is_agent st a) off).1)

  delivered : Becomes s k a talk talk.session talk.store waiting (replicate (deliveries_to a out.effects) text) [] out
  delivered = by_row (agent_of st.agents a) refl
    where
      by_row : (o : Option AgentRow) → agent_of st.agents a ≡ o
          → Becomes s k a talk talk.session talk.store waiting (replicate (deliveries_to a out.effects) text) [] out
      by_row None is = passed (ap (passes (is_for e)) is)
      by_row (Some row) is = by_event (is_for e row) refl
        where
          by_event : (b : Bool) → is_for e row ≡ b → Becomes s k a talk talk.session talk.store waiting (replicate (deliveries_to a out.effects) text) [] out
          by_event true its = let m = made_of row is h.agent in
              reached_so m (let same : row ≡ m.row = unsome (sym is ∙ m.there) in sym (ap (is_for e) same) ∙ its) talk.client refl
          by_event false its = passed (ap (passes (is_for e)) is ∙ its)

pub deliveries_are_events : DeliveriesAreEvents
deliveries_are_events s k a st was talk waiting h e text arms = delivered s k a st was talk waiting h e text arms
