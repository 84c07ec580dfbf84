-- What others do to a session and a store that talk.
use Rattle.answer_laws.proofs.AgentSights.{destroyed_agents_are_gone, others_leave_agents}
use Rattle.answer_laws.proofs.Others.{others_leave_it}
use Rattle.answer_laws.specs.Agents.{agent_sight, no_agent, spares_agent}
use Rattle.answer_laws.specs.Sights.{IsLeft, IsSent, IsWoken, Spares, answers_to, attends, going_on, is_attentive, sight, waits_for, open_letters}
use Rattle.answer_laws.specs.Stands.{AgentIs, AgentIs.Gone, AgentIs.Made, AgentIs.Unmade, AgentLetters, Becomes, IsHeard, IsUnwritten, Leaves}
use Rattle.answer_laws.specs.Stands.{OthersCallsAreEvents, Stands, block_of, is_placed, is_posted, is_reading, knows, mail_letters, owes}
use Rattle.answer_laws.specs.Talks.{Event, Event.AgentEnds, Event.OtherLetter, Mail, Mail.Nothing, Mail.Received, Mail.Sent, Stand, Stand.AwaitsLetter}
use Rattle.answer_laws.specs.Talks.{Stand.AwaitsReply, Stand.Hears, Stand.IsOver, Talk, after_events, after_line_refusal, talk_on}
use Rattle.line_server.specs.declared.session.SessionPlace.{SessionPlace}
use Rattle.line_server.specs.declared.session.SessionPlace.TheVariants as at
use Rattle.lwp_types.specs.Choice.{choice}
use Rattle.lwp_types.specs.CountLaws.{count-append, one}
use Rattle.lwp_types.specs.Counts.{has_its_block, is_block_of, timers_of}
use Rattle.lwp_types.specs.Lawful.{Lawful}
use Rattle.lwp_types.specs.Messages.{is_to, next_letter}
use Rattle.lwp_types.specs.State.{Outcome, State, ThreadRow, agent_numbers, agent_of, all_below, is_agent}
use Rattle.lwp_types.specs.State.{is_agent_row, is_id, is_number, is_thread, numbers, passes, thread_of}
use Rattle.lwp_types.specs.Step.{step}
use Rattle.lwp_types.specs.Unblock.{is_timer_of, nonexist}
use Rattle.lwp_types.specs.declared.call.Answer.{Answer}
use Rattle.lwp_types.specs.declared.call.Call.{Call}
use Rattle.lwp_types.specs.declared.rows.AgentRow.{AgentRow}
use Rattle.lwp_types.specs.declared.rows.Block.{Block}
use Rattle.pod_laws.proofs.Chosen.{chosen}
use Rattle.pod_laws.proofs.Elements.{all_found, differ}
use Rattle.pod_laws.proofs.EveryStep.{Lawful-step}
use Rattle.pod_laws.proofs.Fading.{step_fades}
use Rattle.pod_laws.proofs.Holding.{no_thread}
use Rattle.pod_laws.proofs.TimerMoves.{no_timer_comes_unasked}
use Rattle.pod_laws.specs.Timers.{ticks_of, timers_of_call, timers_by}
use Rattle.std.proofs.Common.{Bool, List, None, Option, Some, [], ap, append-nil, arith, cond, count_by, eqb, false, inl}
use Rattle.std.proofs.Common.{inr, not, refl, subst, sym, true, ℕ, ◌&&◌, ◌++◌, ◌||◌, ◌<◌, ◌∙◌, ◌∷◌, ◌≡◌, ◌≢◌, ◌≤◌, ◌⊎◌}
use Rattle.std.proofs.lemmas.Bool.{and_from, and_parts, cases_eq, eq-eqb, eqb-true, leb-false, leb-true, ltb-true, ne_eqb}
use Rattle.std.specs.List.{find}
use Rattle.std.specs.Prelude.{is_none, is_some, nat_le, nat_lt, option_map}
use Rattle.lwp_types.specs.declared.call.Answer.TheVariants as answer
use Rattle.lwp_types.specs.declared.call.Call.TheVariants as call
use Rattle.lwp_types.specs.declared.rows.Block.TheVariants as block
use Rattle.lwp_types.specs.declared.rows.Mark.TheVariants as mark

-- whom a call destroys, if it destroys anybody
pub data Ends (c : Call) : Type 0 where
  Destroys : (v : ℕ) → c ≡ call.Destroy v → Ends c
  Spared : ((st : State) (u : ℕ) → Spares st u c) → ((a u : ℕ) → spares_agent a u c ≡ true) → Ends c

pub ends_of : (c : Call) → Ends c
ends_of (call.Destroy v) = Destroys v refl
ends_of _ = Spared (λ st u. tt) (λ a u. refl)

pub apart_of : (m n : ℕ) → eqb m n ≡ false → m ≢ n
apart_of m n e same = let bad : true ≡ false = sym (eq-eqb m n same) ∙ e in cc

pub parts_of : (x y : Bool) → (not x && not y) ≡ true → (x ≡ false) × (y ≡ false)
parts_of true y h = absurd (cc)
parts_of false true h = absurd (cc)
parts_of false false h = (refl, refl)

-- ---- what the talk says

pub talked_append : (s a : ℕ) (talk : Talk) (xs ys : List Event) → after_events s a talk (xs ++ ys) ≡ after_events s a (after_events s a talk xs) ys
talked_append s a talk [] ys = refl
talked_append s a talk (x ∷ xs) ys = talked_append s a (talk_on s a talk x) xs ys

pub attentive : (from : Option ℕ) (stand : Stand) → is_attentive (block_of from stand) ≡ true
attentive from (Hears x) = refl
attentive from AwaitsLetter = refl
attentive from AwaitsReply = refl
attentive from IsOver = refl

pub attends_seen : (st : State) (u : ℕ) (b : Block) → (sight st u).waits ≡ Some b → is_attentive b ≡ true → attends st u ≡ true
attends_seen st u b seen h = by_row (thread_of st u) seen
  where
    by_row : (o : Option ThreadRow) → option_map (λ (row : ThreadRow). row.block) o ≡ Some b → passes (λ (row : ThreadRow). is_attentive row.block) o ≡ true
    by_row None e = absurd (cc)
    by_row (Some row) e = let is : row.block ≡ b = cc in ap is_attentive is ∙ h

-- who waits for a letter stands so
pub awaits : (from other : Option ℕ) (stand : Stand) → block_of from stand ≡ block.Receiving other → (stand ≡ AwaitsLetter) × (other ≡ from)
awaits from other (Hears x) e = absurd (cc)
awaits from other AwaitsLetter e = (refl, cc e)
awaits from other AwaitsReply e = absurd (cc)
awaits from other IsOver e = absurd (cc)

-- its letters are for the store alone
pub mail_off : (s k t : ℕ) → t ≢ k → (m : Mail) → count_by (is_to t) (mail_letters s k m) ≡ 0
mail_off s k t other Nothing = refl
mail_off s k t other (Sent text) = omega (arith, ap one (ne_eqb k t (λ e. other (sym e))))
mail_off s k t other (Received text) = omega (arith, ap one (ne_eqb k t (λ e. other (sym e))))

-- whom a live thread awaits by name is there
pub awaited_there : (st : State) → Lawful st None → (u a : ℕ) → (sight st u).waits ≡ Some (block.Receiving (Some a)) → is_id st a ≡ true
awaited_there st was u a seen = by_row (thread_of st u) refl seen
  where
    by_block : (row : ThreadRow) (b : Block) → b ≡ block.Receiving (Some a) → is_block_of st row.number b ≡ true → is_id st a ≡ true
    by_block row b e h = by_parts (is_id st a) (eqb a row.number) (subst (λ b. is_block_of st row.number b ≡ true) e h)
      where
        by_parts : (x y : Bool) → (not (not x || y) && is_none (next_letter st.letters row.number (Some a))) ≡ true → x ≡ true
        by_parts true y h = refl
        by_parts false y h = absurd (cc)

    by_row : (o : Option ThreadRow) → thread_of st u ≡ o → option_map (λ (row : ThreadRow). row.block) o ≡ Some (block.Receiving (Some a)) → is_id st a ≡ true
    by_row None e h = absurd (cc)
    by_row (Some row) e h = by_block row row.block (cc h) (all_found (is_number u) (has_its_block st) st.threads row was.nine.blocks.0 e)

-- ---- pieces of what becomes of a talk

-- the store stands so then, and nothing else changes
pub record KeeperTo (s k a : ℕ) (talk : Talk) (out : Outcome) : Type 0 where
  pub events : List Event
  pub keeper : Stand
  pub is : after_events s a talk events ≡ record talk { keeper = keeper }
  pub seen : eqb s k ≡ false → sight out.after k ≡ record { waits = Some (block_of None keeper); marks = mark.Frame ∷ []; letters = [] }
  pub reads : is_reading keeper ≡ true
  pub heard : eqb s k ≡ false → IsHeard talk.keeper keeper (answers_to k out.effects)
  pub alone : eqb s k ≡ true → IsUnwritten (record talk { keeper = keeper })

-- the session and its agent stand so then, and nothing else changes
pub record ClientTo (s k a : ℕ) (talk : Talk) (waiting : List (List ℕ)) (out : Outcome) : Type 0 where
  pub events : List Event
  pub client : Stand
  pub lives : Bool
  pub is : (keeper : Stand) → after_events s a (record talk { keeper = keeper }) events ≡ record talk { keeper = keeper; client = client; agent_lives = lives }
  pub seen : sight out.after s ≡ record { waits = Some (block_of (Some a) client); marks = mark.Frame ∷ []; letters = mail_letters s k talk.mail }
  pub posted : is_posted client talk.mail ≡ true
  pub placed : is_placed client talk.session.place ≡ true
  pub agent : AgentIs s a out.after (record talk { client = client; agent_lives = lives }) waiting
  pub heard : IsHeard talk.client client (answers_to s out.effects)

pub agent_as : {s a : ℕ} {st : State} {one two : Talk} {waiting : List (List ℕ)} → two.session ≡ one.session → two.client ≡ one.client
    → two.agent_lives ≡ one.agent_lives → AgentIs s a st one waiting → AgentIs s a st two waiting
agent_as {s} {a} {st} {one} {two} {waiting} e f g (Unmade low place lives none) = Unmade low (ap (λ x. x.place) e ∙ place) (g ∙ lives) none
agent_as {s} {a} {st} {one} {two} {waiting} e f g (Made row there owns lives known letters) =
    Made row there owns (g ∙ lives) ((λ i. knows a (e i).agent (e i).place (f i)) ∙ known)
    (subst (λ b. AgentLetters s a b waiting (agent_sight st a).letters) (λ i. owes (sym e i).place (sym f i)) letters)
agent_as {s} {a} {st} {one} {two} {waiting} e f g (Gone off low lives known) = Gone off low (g ∙ lives) ((λ i. knows a (e i).agent (e i).place (f i)) ∙ known)

pub becomes : (s k a : ℕ) (talk : Talk) (waiting : List (List ℕ)) (out : Outcome) → timers_of out.after.timers s ≡ 0
    → (eqb s k ≡ false → timers_of out.after.timers k ≡ 0) → KeeperTo s k a talk out → ClientTo s k a talk waiting out
    → Becomes s k a talk talk.session talk.store waiting [] [] out
becomes s k a talk waiting out timers timers_k one two = record {
  events = one.events ++ two.events;
  waits = waiting;
  session_then = ap (λ (x : Talk). x.session) now;
  store_then = ap (λ (x : Talk). x.store) now;
  stands = subst (λ x. Stands s k a out.after x waiting) (sym now) (record {
    client = two.seen;
    keeper = one.seen;
    posted = two.posted;
    placed = two.placed;
    reads = one.reads;
    untimed = timers;
    untimed_keeper = timers_k;
    alone = λ same. record { mail = (one.alone same).mail; keeper = (one.alone same).keeper };
    agent = agent_as refl refl refl two.agent;
  });
  texts = ap (λ (x : Talk). x.lines ++ waiting) now ∙ sym (append-nil (talk.lines ++ waiting));
  said = ap (λ (x : Talk). x.told) now ∙ sym (append-nil talk.told);
  heard = subst (λ (x : Talk). IsHeard talk.client x.client (answers_to s out.effects)) (sym now) two.heard;
  heard_keeper = λ s_k. subst (λ (x : Talk). IsHeard talk.keeper x.keeper (answers_to k out.effects)) (sym now) (one.heard s_k);
}
  where
    now : after_events s a talk (one.events ++ two.events) ≡ record talk { keeper = one.keeper; client = two.client; agent_lives = two.lives }
    now = talked_append s a talk one.events two.events ∙ ap (λ x. after_events s a x two.events) one.is ∙ two.is one.keeper

-- nothing is heard
pub unheard : (stand : Stand) (answers : List Answer) → answers ≡ [] → IsHeard stand stand answers
unheard stand answers none = subst (IsHeard stand stand) (sym none) (λ z h. h)

-- one answer is
pub heard_one : (before : Stand) (x : Answer) (answers : List Answer) → answers ≡ x ∷ [] → IsHeard before (Hears x) answers
heard_one before x answers one = subst (IsHeard before (Hears x)) (sym one) (λ z h. refl)

-- ---- a letter for the store

pub other_is : (s a x : ℕ) (text : List ℕ) (room : ℕ) (talk : Talk) → talk.keeper ≡ AwaitsLetter → x ≢ s
    → after_events s a talk (OtherLetter x text room ∷ []) ≡ record talk { keeper = Hears (answer.Letter x text room) }
other_is s a x text room talk waits other = rw (waits, ne_eqb x s other) refl

-- the store is left, if there is one
pub keeper_left : (s k a : ℕ) (st : State) (talk : Talk) (waiting : List (List ℕ)) (out : Outcome) → Stands s k a st talk waiting
    → (eqb s k ≡ false → IsLeft k st out) → KeeperTo s k a talk out
keeper_left s k a st talk waiting out was left = record {
  events = [];
  keeper = talk.keeper;
  is = refl;
  seen = λ s_k. (left s_k).same ∙ was.keeper s_k;
  reads = was.reads;
  heard = λ s_k. unheard talk.keeper (answers_to k out.effects) (left s_k).quiet;
  alone = was.alone;
}

-- where there is none
pub none_left : (s k : ℕ) (st : State) (out : Outcome) → eqb s k ≡ true → eqb s k ≡ false → IsLeft k st out
none_left s k st out same s_k = differ (sym same ∙ s_k)

-- or handed a letter of x
pub keeper_handed : (s k a : ℕ) (st : State) (talk : Talk) (waiting : List (List ℕ)) (out : Outcome) → Stands s k a st talk waiting
    → eqb s k ≡ false → (x : ℕ) (text : List ℕ) (room : ℕ) → x ≢ s → talk.keeper ≡ AwaitsLetter
    → sight out.after k ≡ going_on (sight st k) → answers_to k out.effects ≡ answer.Letter x text room ∷ [] → KeeperTo s k a talk out
keeper_handed s k a st talk waiting out was s_k x text room other waits goes told = record {
  events = OtherLetter x text room ∷ [];
  keeper = Hears (answer.Letter x text room);
  is = other_is s a x text room talk waits other;
  seen = λ apart. goes ∙ ap going_on (was.keeper apart);
  reads = refl;
  heard = λ apart. heard_one talk.keeper (answer.Letter x text room) (answers_to k out.effects) told;
  alone = λ same. differ (sym same ∙ s_k);
}

-- ---- the session and its agent

-- the client goes on as it knew
pub knows_on : (a b : ℕ) (place : SessionPlace) (x : Answer) → knows a b place AwaitsLetter ≡ true → knows a b place (Hears x) ≡ true
knows_on a b at.Start x h = absurd (cc)
knows_on a b at.Agent x h = absurd (cc)
knows_on a b at.Recv x h = h
knows_on a b at.Send x h = h
knows_on a b at.Reply x h = h
knows_on a b at.Bye x h = h
knows_on a b at.End x h = h

-- nothing of them changes
pub client_left : (s k a : ℕ) (st : State) (talk : Talk) (waiting : List (List ℕ)) (out : Outcome) → Stands s k a st talk waiting
    → IsLeft s st out → AgentIs s a out.after talk waiting → ClientTo s k a talk waiting out
client_left s k a st talk waiting out was left agent = record {
  events = [];
  client = talk.client;
  lives = talk.agent_lives;
  is = λ keeper. refl;
  seen = left.same ∙ was.client;
  posted = was.posted;
  placed = was.placed;
  agent = agent;
  heard = unheard talk.client (answers_to s out.effects) left.quiet;
}

-- who waits for no line isn't refused one
unrefused : (stand : Stand) → (stand ≡ AwaitsLetter → ⊥) → after_line_refusal stand ≡ stand
unrefused (Hears x) never = refl
unrefused AwaitsLetter never = absurd (never refl)
unrefused AwaitsReply never = refl
unrefused IsOver never = refl

-- who waits for a line has written nothing
pub no_mail : (m : Mail) → is_posted AwaitsLetter m ≡ true → m ≡ Nothing
no_mail Nothing h = refl
no_mail (Sent text) h = absurd (cc)
no_mail (Received text) h = absurd (cc)

pub posted_on : (x : Answer) (m : Mail) → is_posted AwaitsLetter m ≡ true → is_posted (Hears x) m ≡ true
posted_on x Nothing h = refl
posted_on x (Sent text) h = absurd (cc)
posted_on x (Received text) h = absurd (cc)

-- ---- who isn't born isn't there

unborn_thread : (n u : ℕ) (rows : List ThreadRow) → all_below n (numbers rows) ≡ true → n ≤ u → is_some (find (is_number u) rows) ≡ false
unborn_thread n u [] below high = refl
unborn_thread n u (row ∷ rows) below high =
    let parts = and_parts (nat_lt row.number n) (all_below n (numbers rows)) below in
    by_test (is_number u row) refl parts.0 (unborn_thread n u rows parts.1 high)
  where
    by_test : (b : Bool) → is_number u row ≡ b → nat_lt row.number n ≡ true → is_some (find (is_number u) rows) ≡ false
        → is_some (cond b (Some row) (find (is_number u) rows)) ≡ false
    by_test true is less rest = absurd (omega (arith, high, eqb-true row.number u is, ltb-true row.number n less))
    by_test false is less rest = rest

unborn_agent : (n u : ℕ) (rows : List AgentRow) → all_below n (agent_numbers rows) ≡ true → n ≤ u → is_some (find (is_agent_row u) rows) ≡ false
unborn_agent n u [] below high = refl
unborn_agent n u (row ∷ rows) below high =
    let parts = and_parts (nat_lt row.number n) (all_below n (agent_numbers rows)) below in
    by_test (is_agent_row u row) refl parts.0 (unborn_agent n u rows parts.1 high)
  where
    by_test : (b : Bool) → is_agent_row u row ≡ b → nat_lt row.number n ≡ true → is_some (find (is_agent_row u) rows) ≡ false
        → is_some (cond b (Some row) (find (is_agent_row u) rows)) ≡ false
    by_test true is less rest = absurd (omega (arith, high, eqb-true row.number u is, ltb-true row.number n less))
    by_test false is less rest = rest

pub neither : (x y : Bool) → x ≡ false → y ≡ false → (x || y) ≡ false
neither true y e f = absurd (cc)
neither false y e f = f

pub either_of : (x y : Bool) → (x || y) ≡ false → (x ≡ false) × (y ≡ false)
either_of true y e = absurd (cc)
either_of false y e = (refl, e)

pub unborn_absent : (st : State) → Lawful st None → (n : ℕ) → st.births ≤ n → is_id st n ≡ false
unborn_absent st was n high = neither (is_thread st n) (is_agent st n) (unborn_thread st.births n st.threads was.nine.numbers.1.0 high)
    (unborn_agent st.births n st.agents was.nine.numbers.1.1 high)

-- ---- the session and the agent that it waits for

pub record IsMade (s a : ℕ) (st : State) (talk : Talk) (waiting : List (List ℕ)) : Type 0 where
  pub row : AgentRow
  pub there : agent_of st.agents a ≡ Some row
  pub owns : row.owner ≡ s
  pub lives : talk.agent_lives ≡ true
  pub known : knows a talk.session.agent talk.session.place talk.client ≡ true
  pub letters : AgentLetters s a (owes talk.session.place talk.client) waiting (agent_sight st a).letters

pub awaited_made : (s k a : ℕ) (st : State) → Lawful st None → (talk : Talk) (waiting : List (List ℕ)) → Stands s k a st talk waiting
    → talk.client ≡ AwaitsLetter → IsMade s a st talk waiting
awaited_made s k a st was talk waiting h waits = by_agent h.agent
  where
    there : is_id st a ≡ true
    there = awaited_there st was s a (ap (λ x. x.waits) h.client ∙ ap (λ c. Some (block_of (Some a) c)) waits)

    by_agent : AgentIs s a st talk waiting → IsMade s a st talk waiting
    by_agent (Unmade low place lives none) = absurd (let bad : true ≡ false = sym there ∙ unborn_absent st was a low in cc)
    by_agent (Made row there owns lives known letters) = record { row = row; there = there; owns = owns; lives = lives; known = known; letters = letters }
    by_agent (Gone off low lives known) = absurd (let bad : true ≡ false = sym there ∙ off in cc)

pub unsome : {X : Type 0} {x y : X} → Some x ≡ Some y → x ≡ y
unsome {X} {x} {y} e = cc e

-- ---- a call of another

module _ (s k a : ℕ) (st : State) (was : Lawful st None) (talk : Talk) (waiting : List (List ℕ)) (h : Stands s k a st talk waiting) (t : ℕ)
    (turn : choice st ≡ Some t)
    (t_s : eqb t s ≡ false) (t_k : eqb t k ≡ false) (c : Call) (low : talk.session.place ≡ at.Start → (step st c).after.births ≤ a) where
  abbrev out : Outcome
  out = step st c

  lawful : Lawful out.after None
  lawful = Lawful-step st was c

  timers_after : (u : ℕ) → eqb t u ≡ false → timers_of st.timers u ≡ 0 → timers_of out.after.timers u ≡ 0
  timers_after u other none = omega (
    arith,
    none,
    (no_timer_comes_unasked st (is_timer_of u)).called c,
    count-append (is_timer_of u) st.timers (timers_of_call st (choice st) c),
    ap (λ o. count_by (is_timer_of u) (timers_of_call st o c)) turn,
    by_ticks (ticks_of c),
  )
    where
      by_ticks : (o : Option ℕ) → count_by (is_timer_of u) (timers_by st t o) ≡ 0
      by_ticks None = refl
      by_ticks (Some ticks) = rw other refl

  attends_of : (u : ℕ) (from : Option ℕ) (stand : Stand) → (sight st u).waits ≡ Some (block_of from stand) → attends st u ≡ true
  attends_of u from stand seen = attends_seen st u (block_of from stand) seen (attentive from stand)

  module _ (spared : Spares st s c) (spared_k : eqb s k ≡ false → Spares st k c) where
    s_fate : IsLeft s st out ⊎ IsWoken s (IsSent t s c) st out
    s_fate = others_leave_it st was t s turn t_s (attends_of s (Some a) talk.client (ap (λ x. x.waits) h.client))
        (ap (λ x. count_by (is_to t) x.letters) h.client ∙ mail_off s k t (apart_of t k t_k) talk.mail) c spared

    k_fate : eqb s k ≡ false → IsLeft k st out ⊎ IsWoken k (IsSent t k c) st out
    k_fate s_k = others_leave_it st was t k turn t_k (attends_of k None talk.keeper (ap (λ x. x.waits) (h.keeper s_k)))
        (ap (λ x. count_by (is_to t) x.letters) (h.keeper s_k)) c (spared_k s_k)

    keeper_to : KeeperTo s k a talk out
    keeper_to = by_store (eqb s k) refl
      where
        by_fate : eqb s k ≡ false → IsLeft k st out ⊎ IsWoken k (IsSent t k c) st out → KeeperTo s k a talk out
        by_fate s_k (inl left) = keeper_left s k a st talk waiting out h (λ apart. left)
        by_fate s_k (inr woken) = by_right (awaits None woken.from talk.keeper (unsome (sym (ap (λ x. x.waits) (h.keeper s_k)) ∙ woken.waited))) woken.right
          where
            by_right : (talk.keeper ≡ AwaitsLetter) × (woken.from ≡ None)
                → IsSent t k c woken.from woken.heard ⊎ ((woken.heard ≡ nonexist) × (is_some woken.from ≡ true)) → KeeperTo s k a talk out
            by_right w (inl sent) = keeper_handed s k a st talk waiting out h s_k t sent.text sent.room (apart_of t s t_s) w.0 woken.goes_on
                (woken.told ∙ ap (λ x. x ∷ []) sent.letter)
            by_right w (inr none) = absurd (let bad : false ≡ true = sym (ap is_some w.1) ∙ none.1 in cc)

        by_store : (b : Bool) → eqb s k ≡ b → KeeperTo s k a talk out
        by_store true same = keeper_left s k a st talk waiting out h (none_left s k st out same)
        by_store false s_k = by_fate s_k (k_fate s_k)

    -- an agent that isn't there and was born stays away
    away_after : is_thread st a ≡ false → a < st.births → agent_sight out.after a ≡ no_agent → is_id out.after a ≡ false
    away_after off below none = neither (is_thread out.after a) (is_agent out.after a) ((step_fades a st c).threads below off) (ap (λ x. is_some x.row) none)

    gone_after : is_id st a ≡ false → a < st.births → is_id out.after a ≡ false
    gone_after off below = let parts = either_of (is_thread st a) (is_agent st a) off in
        neither (is_thread out.after a) (is_agent out.after a) ((step_fades a st c).threads below parts.0) ((step_fades a st c).agents below parts.1)

    below_after : a < st.births → a < out.after.births
    below_after below = omega (arith, below, (step_fades a st c).births)

    -- a live agent was born
    made_below : is_agent st a ≡ true → a < st.births
    made_below lives = by_age (nat_le st.births a) refl
      where
        by_age : (b : Bool) → nat_le st.births a ≡ b → a < st.births
        by_age true e =
            absurd (let bad : true ≡ false = sym lives ∙ (either_of (is_thread st a) (is_agent st a) (unborn_absent st was a (leb-true st.births a e))).1 in cc)
        by_age false e = leb-false st.births a e

    module _ (fate : (row : AgentRow) → agent_of st.agents a ≡ Some row → row.owner ≡ s
        → (agent_sight out.after a ≡ agent_sight st a) ⊎ (agent_sight out.after a ≡ no_agent)) where
      kept_made : IsMade s a st talk waiting → agent_sight out.after a ≡ agent_sight st a → AgentIs s a out.after talk waiting
      kept_made m kept = Made m.row (ap (λ x. x.row) kept ∙ m.there) m.owns m.lives m.known
          (subst (λ x. AgentLetters s a (owes talk.session.place talk.client) waiting x.letters) (sym kept) m.letters)

      ended_off : IsMade s a st talk waiting → agent_sight out.after a ≡ no_agent → is_id out.after a ≡ false
      ended_off m ended = away_after (no_thread st None was.nine a m.row m.there) (made_below (ap is_some m.there)) ended

      -- the session is left
      left_to : IsLeft s st out → ClientTo s k a talk waiting out
      left_to left = by_agent h.agent
        where
          ended : (m : IsMade s a st talk waiting) → agent_sight out.after a ≡ no_agent → ClientTo s k a talk waiting out
          ended m e =
              let off = ended_off m e in
              let never : talk.client ≡ AwaitsLetter
              → ⊥ = λ waits. differ
              (sym (awaited_there out.after lawful s a (ap (λ x. x.waits) (left.same ∙ h.client) ∙ ap (λ c. Some (block_of (Some a) c)) waits)) ∙ off) in
              record {
                events = AgentEnds ∷ [];
                client = talk.client;
                lives = false;
                is = λ keeper. λ i. record talk { keeper = keeper; client = unrefused talk.client never i; agent_lives = false };
                seen = left.same ∙ h.client;
                posted = h.posted;
                placed = h.placed;
                agent = Gone off (below_after (made_below (ap is_some m.there))) refl m.known;
                heard = unheard talk.client (answers_to s out.effects) left.quiet;
              }

          by_fate : (m : IsMade s a st talk waiting) → (agent_sight out.after a ≡ agent_sight st a) ⊎ (agent_sight out.after a ≡ no_agent)
              → ClientTo s k a talk waiting out
          by_fate m (inl kept) = client_left s k a st talk waiting out h left (kept_made m kept)
          by_fate m (inr none) = ended m none

          by_agent : AgentIs s a st talk waiting → ClientTo s k a talk waiting out
          by_agent (Unmade below place lives none) = client_left s k a st talk waiting out h left (Unmade (low place) place lives none)
          by_agent (Made row there owns lives known letters) =
              by_fate (record { row = row; there = there; owns = owns; lives = lives; known = known; letters = letters }) (fate row there owns)
          by_agent (Gone off below lives known) = client_left s k a st talk waiting out h left (Gone (gone_after off below) (below_after below) lives known)

      -- or it is woken
      woken_to : IsWoken s (IsSent t s c) st out → ClientTo s k a talk waiting out ⊎ Leaves s talk out
      woken_to woken = by_right (awaits (Some a) woken.from talk.client (unsome (sym (ap (λ x. x.waits) h.client) ∙ woken.waited))) woken.right
        where
          by_right : (talk.client ≡ AwaitsLetter) × (woken.from ≡ Some a)
              → IsSent t s c woken.from woken.heard ⊎ ((woken.heard ≡ nonexist) × (is_some woken.from ≡ true))
              → ClientTo s k a talk waiting out ⊎ Leaves s talk out
          by_right w (inl sent) =
              let m = awaited_made s k a st was talk waiting h w.0 in
              let named : eqb a t ≡ true = subst (λ o. waits_for t o ≡ true) w.1 sent.named in
              let lives = ap is_some (chosen st was.nine t turn).known in
              absurd (let bad : true ≡ false = sym lives ∙ ap (is_thread st) (sym (eqb-true a t named)) ∙ no_thread st None was.nine a m.row m.there in cc)
          by_right w (inr none) = by_fate (fate m.row m.there m.owns)
            where
              m : IsMade s a st talk waiting
              m = awaited_made s k a st was talk waiting h w.0

              mail : is_posted AwaitsLetter talk.mail ≡ true
              mail = subst (λ c. is_posted c talk.mail ≡ true) w.0 h.posted

              by_fate : (agent_sight out.after a ≡ agent_sight st a) ⊎ (agent_sight out.after a ≡ no_agent)
                  → ClientTo s k a talk waiting out ⊎ Leaves s talk out
              by_fate (inl kept) = inr (record {
                client = woken.goes_on ∙ ap going_on h.client
                    ∙ ap (λ x. record { waits = Some block.Not; marks = mark.Frame ∷ []; letters = mail_letters s k x }) (no_mail talk.mail mail);
                untimed = timers_after s t_s h.untimed;
                place = w.0;
                told = woken.told ∙ ap (λ x. x ∷ []) none.0;
              })
              by_fate (inr ended) = inl (record {
                events = AgentEnds ∷ [];
                client = Hears nonexist;
                lives = false;
                is = λ keeper. λ i. record talk { keeper = keeper; client = after_line_refusal (w.0 i); agent_lives = false };
                seen = woken.goes_on ∙ ap going_on h.client;
                posted = posted_on nonexist talk.mail mail;
                placed = refl;
                agent = Gone (ended_off m ended) (below_after (made_below (ap is_some m.there))) refl (knows_on a talk.session.agent
                    talk.session.place nonexist (subst (λ c. knows a talk.session.agent talk.session.place c ≡ true) w.0 m.known));
                heard = heard_one talk.client nonexist (answers_to s out.effects) (woken.told ∙ ap (λ x. x ∷ []) none.0);
              })

      both : Becomes s k a talk talk.session talk.store waiting [] [] out ⊎ Leaves s talk out
      both = by_fate s_fate
        where
          done : ClientTo s k a talk waiting out → Becomes s k a talk talk.session talk.store waiting [] [] out
          done to = becomes s k a talk waiting out (timers_after s t_s h.untimed) (λ s_k. timers_after k t_k (h.untimed_keeper s_k)) keeper_to to

          by_to : ClientTo s k a talk waiting out ⊎ Leaves s talk out → Becomes s k a talk talk.session talk.store waiting [] [] out ⊎ Leaves s talk out
          by_to (inl to) = inl (done to)
          by_to (inr leaves) = inr leaves

          by_fate : IsLeft s st out ⊎ IsWoken s (IsSent t s c) st out → Becomes s k a talk talk.session talk.store waiting [] [] out ⊎ Leaves s talk out
          by_fate (inl left) = inl (done (left_to left))
          by_fate (inr woken) = by_to (woken_to woken)

pub others_calls_are_events : OthersCallsAreEvents
others_calls_are_events s k a st was talk waiting h t turn t_s t_k c spared low = by_end (ends_of c)
  where
    by_end : Ends c → Becomes s k a talk talk.session talk.store waiting [] [] (step st c) ⊎ Leaves s talk (step st c)
    by_end (Spared fine free) = both s k a st was talk waiting h t turn t_s t_k c low (fine st s) (λ s_k. fine st k)
        (λ row there owns. inl (others_leave_agents st was t a row turn there (ap (eqb t) owns ∙ t_s) c (free a row.owner)))
    by_end (Destroys v e) = both s k a st was talk waiting h t turn t_s t_k c low (subst (Spares st s) (sym e) (off.0, written))
        (λ s_k. subst (Spares st k) (sym e) (off.1, ap (λ x. count_by (is_to v) x.letters) (h.keeper s_k))) fate
      where
        off : (eqb v s ≡ false) × (eqb v k ≡ false)
        off = parts_of (eqb v s) (eqb v k) (subst (λ c. spares_agent s k c ≡ true) e spared)

        written : open_letters st s v ≡ 0
        written = ap (λ x. count_by (is_to v) x.letters) h.client ∙ mail_off s k v (apart_of v k off.1) talk.mail

        fate : (row : AgentRow) → agent_of st.agents a ≡ Some row → row.owner ≡ s
            → (agent_sight (step st c).after a ≡ agent_sight st a) ⊎ (agent_sight (step st c).after a ≡ no_agent)
        fate row there owns = elim (cases_eq v a) [
          | inl same
              ↦ inr (subst (λ c. agent_sight (step st c).after a ≡ no_agent) (sym (e ∙ ap call.Destroy same)) (destroyed_agents_are_gone st t a row turn there))
          | inr other ↦ inl (others_leave_agents st was t a row turn there (ap (eqb t) owns ∙ t_s) c
              (subst (λ c. spares_agent a row.owner c ≡ true) (sym e) (and_from _ _ (ap not (ne_eqb v a other)) (ap not (ap (eqb v) owns ∙ off.0)))))
        ]
