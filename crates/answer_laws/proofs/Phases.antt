-- How a session and its client stand between any two steps, and what a step makes of that.
use Rattle.answer_laws.proofs.AnswerLists.{Texts, first_more}
use Rattle.answer_laws.proofs.Dying.{gone_thread}
use Rattle.answer_laws.proofs.Fadings.{event_fades}
use Rattle.answer_laws.proofs.Lost.{IsLate, LateCall, LateCall.RepliesNothing, LateCall.RepliesTo, agent_given, is_late, late_by, late_unheard, returns_end}
use Rattle.answer_laws.proofs.OwnSteps.{alive_seen, mute_event, mute_unreplied, pods_sessions_calls_are_events}
use Rattle.answer_laws.proofs.TalkLaws.{Inv, inv_events, inv_first}
use Rattle.answer_laws.proofs.TalkShort.{session_short}
use Rattle.answer_laws.proofs.TalkSteps.{unborn_absent, unsome}
use Rattle.answer_laws.proofs.TalkTexts.{placed_recv}
use Rattle.answer_laws.specs.Clients.{replies_of_step, reply_to, sends_well}
use Rattle.answer_laws.specs.Events.{machine_of}
use Rattle.answer_laws.specs.Lengths.{is_short}
use Rattle.answer_laws.specs.Owns.{SessionComes, SessionComes.Dies, SessionComes.GoesOn, SessionComes.IsTurnedAway}
use Rattle.answer_laws.specs.Sights.{IsLeft, Sight, answers_to, sight}
use Rattle.answer_laws.specs.Stands.{AgentIs, AgentIs.Gone, AgentIs.Made, AgentIs.Unmade, Becomes, HeardAs, Leaves, Stands}
use Rattle.answer_laws.specs.Stands.{block_of, is_placed, is_posted, is_reading, knows, last_heard, texts_in}
use Rattle.answer_laws.specs.Talks.{AreFirst, Mail, Mail.Nothing, Mail.Received, Mail.Sent, Stand, Stand.AwaitsLetter}
use Rattle.answer_laws.specs.Talks.{Stand.AwaitsReply, Stand.Hears, Stand.IsOver, Talk, after_events}
use Rattle.line_server.specs.Sessions.{SessionBody, session_by, session_next, session_turn_after_agent}
use Rattle.line_server.specs.Stores.{StoreBody}
use Rattle.line_server.specs.Tables.{line_answers}
use Rattle.line_server.specs.declared.session.SessionPlace.{SessionPlace}
use Rattle.line_server.specs.declared.session.SessionPlace.TheVariants as at
use Rattle.lwp_types.specs.Choice.{choice}
use Rattle.lwp_types.specs.Lawful.{Lawful}
use Rattle.lwp_types.specs.Names.{Names, null_id}
use Rattle.lwp_types.specs.State.{Outcome, State, ThreadRow, is_agent, is_not_blocked, is_thread}
use Rattle.lwp_types.specs.Step.{step}
use Rattle.lwp_types.specs.Unblock.{nonexist}
use Rattle.lwp_types.specs.declared.call.Answer.{Answer}
use Rattle.lwp_types.specs.declared.call.Call.{Call}
use Rattle.lwp_types.specs.declared.call.LwpErr.{LwpErr}
use Rattle.lwp_types.specs.declared.rows.Block.{Block}
use Rattle.pod_events.specs.Events.{EventState}
use Rattle.pod_events.specs.Step.{event_step}
use Rattle.pod_laws.proofs.Chosen.{chosen}
use Rattle.pod_laws.proofs.Elements.{differ}
use Rattle.pod_laws.proofs.Fading.{Fades, gone_stays}
use Rattle.pod_laws.specs.Forgotten.{IsGone}
use Rattle.std.proofs.Common.{Bool, None, Some, [], ap, append-nil, arith, cond, eqb, false, inl, inr, not}
use Rattle.std.proofs.Common.{refl, subst, sym, true, ℕ, ◌++◌, ◌<◌, ◌∙◌, ◌∷◌, ◌≡◌, ◌≤◌, ◌||◌, ◌⊎◌}
use Rattle.std.proofs.lemmas.Bool.{and_parts, eqb-true, leb-false, leb-true}
use Rattle.std.proofs.lemmas.List.Folds.{list_all-append}
use Rattle.std.specs.List.{list_all}
use Rattle.std.specs.Prelude.{is_some, nat_le, option_map}
use Rattle.lwp_types.specs.declared.call.Answer.TheVariants as answer
use Rattle.lwp_types.specs.declared.call.Call.TheVariants as call
use Rattle.lwp_types.specs.declared.rows.Block.TheVariants as block
use Rattle.lwp_types.specs.declared.rows.Mark.TheVariants as mark

-- ---- a talk of the session with this agent

-- the session and the store have these bodies, and are polled with these answers next; these texts were delivered to the agent, and these
-- replies to it accepted
pub record TellsAt (s k a : ℕ) (st : State) (sb : SessionBody) (sz : Answer) (kb : StoreBody) (kz : Answer) (got said : Texts) : Type 0 where
  pub talk : Talk
  pub waiting : Texts
  pub stands : Stands s k a st talk waiting
  pub inv : Inv s talk
  pub session : talk.session ≡ sb
  pub store : talk.store ≡ kb
  pub heard : HeardAs talk.client sz
  pub heard_keeper : eqb s k ≡ false → HeardAs talk.keeper kz
  pub texts : talk.lines ++ waiting ≡ got
  pub told : talk.told ≡ said

module _ (s k a : ℕ) (st : State) (sb : SessionBody) (sz : Answer) (kb : StoreBody) (kz : Answer) (got said : Texts)
    (t : TellsAt s k a st sb sz kb kz got said) where
  tells_on : (session : SessionBody) (store : StoreBody) (new replies : Texts) (out : Outcome) → Becomes s k a t.talk session store t.waiting new replies out
      → TellsAt s k a out.after session (last_heard sz (answers_to s out.effects)) store (last_heard kz (answers_to k out.effects))
      (got ++ new) (said ++ replies)
  tells_on session store new replies out b = record {
    talk = after_events s a t.talk b.events;
    waiting = b.waits;
    stands = b.stands;
    inv = inv_events s a b.events t.talk t.inv;
    session = b.session_then;
    store = b.store_then;
    heard = b.heard sz t.heard;
    heard_keeper = λ s_k. b.heard_keeper s_k kz (t.heard_keeper s_k);
    texts = b.texts ∙ ap (λ xs. xs ++ new) t.texts;
    told = b.said ∙ ap (λ xs. xs ++ replies) t.told;
  }

  tells_first : AreFirst said (line_answers got)
  tells_first =
      let first = first_more t.talk.told t.talk.lines t.waiting (inv_first s t.talk t.inv) in
      record { rest = first.rest; whole = ap (λ xs. xs ++ first.rest) (sym t.told) ∙ first.whole ∙ ap line_answers t.texts }

  pub lines_short : list_all is_short got ≡ true → list_all is_short t.talk.lines ≡ true
  lines_short all = (and_parts (list_all is_short t.talk.lines) (list_all is_short t.waiting)
      (sym (list_all-append is_short t.talk.lines t.waiting) ∙ ap (list_all is_short) t.texts ∙ all)).0

  place_is : t.talk.session.place ≡ sb.place
  place_is = ap (λ (b : SessionBody). b.place) t.session

  -- at its start its agent can still be made
  pub start_lives : sb.place ≡ at.Start → t.talk.agent_lives ≡ true
  start_lives start = by_agent t.stands.agent
    where
      by_agent : AgentIs s a st t.talk t.waiting → t.talk.agent_lives ≡ true
      by_agent (Unmade below place lives none) = lives
      by_agent (Made row there owns lives known letters) = lives
      by_agent (Gone off below lives known) =
          absurd (let bad : true ≡ false = sym known ∙ ap (λ p. knows a t.talk.session.agent p t.talk.client) (place_is ∙ start) in cc)

  -- whom a late session knows
  known : (sb.place ≡ at.Start → ⊥) → knows a sb.agent sb.place t.talk.client ≡ true
  known started = by_agent t.stands.agent
    where
      as_body : knows a t.talk.session.agent t.talk.session.place t.talk.client ≡ true → knows a sb.agent sb.place t.talk.client ≡ true
      as_body is = (λ i. knows a (sym t.session i).agent (sym t.session i).place t.talk.client) ∙ is

      by_agent : AgentIs s a st t.talk t.waiting → knows a sb.agent sb.place t.talk.client ≡ true
      by_agent (Unmade below place lives none) = absurd (started (sym place_is ∙ place))
      by_agent (Made row there owns lives is letters) = as_body is
      by_agent (Gone off below lives is) = as_body is

  gone_now : (sb.place ≡ at.Start → ⊥) → t.talk.agent_lives ≡ false → IsGone st a
  gone_now started ends = by_agent t.stands.agent
    where
      by_agent : AgentIs s a st t.talk t.waiting → IsGone st a
      by_agent (Unmade below place lives none) = absurd (started (sym place_is ∙ place))
      by_agent (Made row there owns lives is letters) = differ (sym lives ∙ ends)
      by_agent (Gone off below lives is) = record { born = below; dead = off }

knows_late : (a b : ℕ) (p : SessionPlace) (c : Stand) → is_late p ≡ true → knows a b p c ≡ true → b ≡ a
knows_late a b at.Start c late is = absurd (cc)
knows_late a b at.Agent c late is = absurd (cc)
knows_late a b at.Recv c late is = eqb-true b a is
knows_late a b at.Send c late is = eqb-true b a is
knows_late a b at.Reply c late is = eqb-true b a is
knows_late a b at.Bye c late is = eqb-true b a is
knows_late a b at.End c late is = eqb-true b a is

-- ---- whose turn it is

-- who is chosen waits for nothing
pub chosen_waits : (st : State) → Lawful st None → (u : ℕ) → choice st ≡ Some u → (b : Block) → (sight st u).waits ≡ Some b → is_not_blocked b ≡ true
chosen_waits st was u turn b seen =
    let run = chosen st was.nine u turn in
    let same : run.row.block ≡ b = unsome (sym (ap (option_map (λ (row : ThreadRow). row.block)) run.known) ∙ seen) in
    ap is_not_blocked (sym same) ∙ (and_parts (not run.row.suspended) (is_not_blocked run.row.block) run.eligible).1

pub record IsHearing (stand : Stand) : Type 0 where
  pub answer : Answer
  pub is : stand ≡ Hears answer

client_hears : (a : ℕ) (c : Stand) (m : Mail) → is_posted c m ≡ true → is_not_blocked (block_of (Some a) c) ≡ true → IsHearing c
client_hears a (Hears x) m posted free = record { answer = x; is = refl }
client_hears a AwaitsLetter m posted free = absurd (cc)
client_hears a AwaitsReply m posted free = absurd (cc)
client_hears a IsOver Nothing posted free = absurd (cc)
client_hears a IsOver (Sent text) posted free = absurd (cc)
client_hears a IsOver (Received text) posted free = absurd (cc)

pub session_hears : (s k a : ℕ) (st : State) → Lawful st None → (talk : Talk) (waiting : Texts) → Stands s k a st talk waiting
    → choice st ≡ Some s → IsHearing talk.client
session_hears s k a st was talk waiting h turn =
    client_hears a talk.client talk.mail h.posted (chosen_waits st was s turn (block_of (Some a) talk.client) (ap (λ (v : Sight). v.waits) h.client))

-- and so does a store
pub reader_hears : (st : State) → Lawful st None → (k : ℕ) → choice st ≡ Some k → (c : Stand) → (sight st k).waits ≡ Some (block_of None c)
    → is_reading c ≡ true → IsHearing c
reader_hears st was k turn (Hears x) seen reads = record { answer = x; is = refl }
reader_hears st was k turn AwaitsLetter seen reads = absurd (let bad = chosen_waits st was k turn (block.Receiving None) seen in cc)
reader_hears st was k turn AwaitsReply seen reads = absurd (cc)
reader_hears st was k turn IsOver seen reads = absurd (cc)

-- told that nobody is there, a session that waits for a line returns
returned : (sb : SessionBody) (names : Names) → sb.place ≡ at.Recv → (session_next sb names nonexist).0 ≡ call.Return
unfolding session_next
returned sb names recv = ap (λ p. (session_by sb names nonexist p).0) recv

-- ---- the phases

-- at rest, with nothing sent
abbrev pub resting : Sight
resting = record { waits = Some block.Not; marks = mark.Frame ∷ []; letters = [] }

-- S and K say what bodies the session and the store have, and what they are polled with next; got and said are what was delivered to
-- each agent, and what the session has replied to it
pub data Phase (s k : ℕ) (st : State) (S : SessionBody → Answer → Type 0) (K : StoreBody → Answer → Type 0) (got said : ℕ → Texts) : Type 0 where
  -- it has not been polled yet
  Starting : is_thread st s ≡ true → (sb : SessionBody) (sz : Answer) (kb : StoreBody) (kz : Answer) → S sb sz → K kb kz
      → ((a : ℕ) → st.births ≤ a → eqb null_id a ≡ false → TellsAt s k a st sb sz kb kz (got a) (said a)) → sb.place ≡ at.Start → ((a : ℕ) → said a ≡ [])
      → Phase s k st S K got said
  -- it talks, with this agent
  Talking : (a : ℕ) (sb : SessionBody) (sz : Answer) (kb : StoreBody) (kz : Answer) → S sb sz → K kb kz
      → (t : TellsAt s k a st sb sz kb kz (got a) (said a)) → eqb null_id a ≡ false → (sb.place ≡ at.Start → ⊥)
      → (t.talk.agent_lives ≡ true) ⊎ (sb.place ≡ at.Agent)
      → ((b : ℕ) → eqb a b ≡ false → said b ≡ []) → Phase s k st S K got said
  -- it returns next
  Ending : (sb : SessionBody) (sz : Answer) → S sb sz → ((names : Names) → (session_next sb names sz).0 ≡ call.Return)
      → sight st s ≡ resting → ((a : ℕ) → AreFirst (said a) (line_answers (got a))) → Phase s k st S K got said
  -- its agent is gone
  Lost : is_thread st s ≡ true → (a : ℕ) (sb : SessionBody) (sz : Answer) → S sb sz → sb.agent ≡ a → is_late sb.place ≡ true → IsGone st a
      → ((b : ℕ) → AreFirst (said b) (line_answers (got b))) → Phase s k st S K got said
  -- it is dead
  Over : s < st.births → is_thread st s ≡ false → ((a : ℕ) → AreFirst (said a) (line_answers (got a))) → Phase s k st S K got said

-- nothing was said
none_first : (said got : Texts) → said ≡ [] → AreFirst said (line_answers got)
none_first said got none = record { rest = line_answers got; whole = ap (λ xs. xs ++ line_answers got) none }

-- nothing is said
still_first : (said got new replies : Texts) → replies ≡ [] → AreFirst said (line_answers got) → AreFirst (said ++ replies) (line_answers (got ++ new))
still_first said got new replies none first =
    let more = first_more said got new first in
    record { rest = more.rest; whole = ap (λ xs. (said ++ xs) ++ more.rest) none ∙ ap (λ xs. xs ++ more.rest) (append-nil said) ∙ more.whole }

both_none : (said replies : Texts) → said ≡ [] → replies ≡ [] → said ++ replies ≡ []
both_none said replies one two = λ i. one i ++ two i

pub born_below : (st : State) → Lawful st None → (u : ℕ) → is_thread st u ≡ true → u < st.births
born_below st was u lives = by_age (nat_le st.births u) refl
  where
    away : (b : Bool) → (b || is_agent st u) ≡ false → b ≡ false
    away true e = absurd (cc)
    away false e = refl

    by_age : (b : Bool) → nat_le st.births u ≡ b → u < st.births
    by_age true e = differ (sym lives ∙ away (is_thread st u) (unborn_absent st was u (leb-true st.births u e)))
    by_age false e = leb-false st.births u e

module _ (s k : ℕ) (st : State) (was : Lawful st None) (S S2 : SessionBody → Answer → Type 0) (K K2 : StoreBody → Answer → Type 0)
    (got said new : ℕ → Texts) (out : Outcome) (fades : (n : ℕ) → Fades n st out.after) where
  abbrev got2 : ℕ → Texts
  got2 b = got b ++ new b

  abbrev said2 : ℕ → Texts
  said2 b = said b ++ replies_of_step s b out.effects

  abbrev Phase2 : Type 0
  Phase2 = Phase s k out.after S2 K2 got2 said2

  dead_now : is_thread st s ≡ true → is_thread out.after s ≡ false → ((b : ℕ) → AreFirst (said2 b) (line_answers (got2 b))) → Phase2
  dead_now lives off firsts = Over (omega (arith, born_below st was s lives, (fades s).births)) off firsts

  still_dead : s < st.births → is_thread st s ≡ false → ((b : ℕ) → AreFirst (said2 b) (line_answers (got2 b))) → Phase2
  still_dead below off firsts = Over (omega (arith, below, (fades s).births)) ((fades s).threads below off) firsts

  -- it goes on with this agent, or has lost it
  settle : (a : ℕ) (sb : SessionBody) (sz : Answer) (kb : StoreBody) (kz : Answer) → S2 sb sz → K2 kb kz
      → TellsAt s k a out.after sb sz kb kz (got2 a) (said2 a) → eqb null_id a ≡ false → (sb.place ≡ at.Start → ⊥)
      → ((b : ℕ) → eqb a b ≡ false → said2 b ≡ []) → Phase2
  settle a sb sz kb kz row row_k t away started others = by_lives t.talk.agent_lives refl
    where
      firsts : (b : ℕ) → AreFirst (said2 b) (line_answers (got2 b))
      firsts b = by_test (eqb a b) refl
        where
          by_test : (d : Bool) → eqb a b ≡ d → AreFirst (said2 b) (line_answers (got2 b))
          by_test true e = subst (λ n. AreFirst (said2 n) (line_answers (got2 n))) (eqb-true a b e)
              (tells_first s k a out.after sb sz kb kz (got2 a) (said2 a) t)
          by_test false e = none_first (said2 b) (got2 b) (others b e)

      lost : t.talk.agent_lives ≡ false → is_late sb.place ≡ true → Phase2
      lost ends late = Lost (alive_seen out.after s (block_of (Some a) t.talk.client) (ap (λ (v : Sight). v.waits) t.stands.client)) a sb sz
          row (knows_late a sb.agent sb.place t.talk.client late (known s k a out.after sb sz kb kz (got2 a) (said2 a) t started)) late
          (gone_now s k a out.after sb sz kb kz (got2 a) (said2 a) t started ends) firsts

      by_place : t.talk.agent_lives ≡ false → (p : SessionPlace) → sb.place ≡ p → Phase2
      by_place ends at.Start e = absurd (started e)
      by_place ends at.Agent e = Talking a sb sz kb kz row row_k t away started (inr e) others
      by_place ends at.Recv e = lost ends (ap is_late e)
      by_place ends at.Send e = lost ends (ap is_late e)
      by_place ends at.Reply e = lost ends (ap is_late e)
      by_place ends at.Bye e = lost ends (ap is_late e)
      by_place ends at.End e = lost ends (ap is_late e)

      by_lives : (d : Bool) → t.talk.agent_lives ≡ d → Phase2
      by_lives true e = Talking a sb sz kb kz row row_k t away started (inl e) others
      by_lives false e = by_place e sb.place refl

  all_first : (a : ℕ) (sb : SessionBody) (sz : Answer) (kb : StoreBody) (kz : Answer) → TellsAt s k a st sb sz kb kz (got a) (said a)
      → ((b : ℕ) → eqb a b ≡ false → said b ≡ []) → (b : ℕ) → AreFirst (said b) (line_answers (got b))
  all_first a sb sz kb kz t others b = by_test (eqb a b) refl
    where
      by_test : (d : Bool) → eqb a b ≡ d → AreFirst (said b) (line_answers (got b))
      by_test true e = subst (λ n. AreFirst (said n) (line_answers (got n))) (eqb-true a b e) (tells_first s k a st sb sz kb kz (got a) (said a) t)
      by_test false e = none_first (said b) (got b) (others b e)

  -- ---- a step in which the session doesn't call

  module _ (silent : (b : ℕ) → replies_of_step s b out.effects ≡ []) (knext : StoreBody → Answer → StoreBody)
      (s_on : is_thread out.after s ≡ true → (b : SessionBody) (z : Answer) → S b z → S2 b (last_heard z (answers_to s out.effects)))
      (k_on : (b : StoreBody) (z : Answer) → K b z → K2 (knext b z) (last_heard z (answers_to k out.effects)))
      (goes : (a : ℕ) (sb : SessionBody) (sz : Answer) (kb : StoreBody) (kz : Answer) → K kb kz
      → (t : TellsAt s k a st sb sz kb kz (got a) (said a)) → eqb null_id a ≡ false
      → (t.talk.agent_lives ≡ true) ⊎ (sb.place ≡ at.Agent) → (sb.place ≡ at.Start → out.after.births ≤ a) → is_thread out.after s ≡ true
      → Becomes s k a t.talk t.talk.session (knext kb kz) t.waiting (new a) [] out ⊎ Leaves s t.talk out)
      (left : sight st s ≡ resting → is_thread out.after s ≡ true → IsLeft s st out) where
    firsts_on : ((b : ℕ) → AreFirst (said b) (line_answers (got b))) → (b : ℕ) → AreFirst (said2 b) (line_answers (got2 b))
    firsts_on firsts b = still_first (said b) (got b) (new b) (replies_of_step s b out.effects) (silent b) (firsts b)

    tells_so : (a : ℕ) (sb : SessionBody) (sz : Answer) (kb : StoreBody) (kz : Answer) → (t : TellsAt s k a st sb sz kb kz (got a) (said a))
        → Becomes s k a t.talk t.talk.session (knext kb kz) t.waiting (new a) [] out
        → TellsAt s k a out.after sb (last_heard sz (answers_to s out.effects)) (knext kb kz) (last_heard kz (answers_to k out.effects)) (got2 a) (said2 a)
    tells_so a sb sz kb kz t b = subst
        (λ xs.
        TellsAt s k a out.after sb (last_heard sz (answers_to s out.effects)) (knext kb kz) (last_heard kz (answers_to k out.effects)) (got2 a) (said a ++ xs))
        (sym (silent a))
        (subst
        (λ body. TellsAt s k a out.after body (last_heard sz (answers_to s out.effects)) (knext kb kz)
        (last_heard kz (answers_to k out.effects)) (got2 a) (said a ++ []))
        t.session
        (tells_on s k a st sb sz kb kz (got a) (said a) t t.talk.session (knext kb kz) (new a) [] out b))

    pub phase_other : Phase s k st S K got said → Phase2
    phase_other (Over below off firsts) = still_dead below off (firsts_on firsts)
    phase_other (Lost lives a sb sz row its late gone firsts) = by_lives (is_thread out.after s) refl
      where
        by_lives : (d : Bool) → is_thread out.after s ≡ d → Phase2
        by_lives true e = Lost e a sb (last_heard sz (answers_to s out.effects)) (s_on e sb sz row) its late
            (gone_stays a st out.after (fades a) gone) (firsts_on firsts)
        by_lives false e = dead_now lives e (firsts_on firsts)
    phase_other (Ending sb sz row returns seen firsts) = by_lives (is_thread out.after s) refl
      where
        by_lives : (d : Bool) → is_thread out.after s ≡ d → Phase2
        by_lives false e = dead_now (alive_seen st s block.Not (ap (λ (v : Sight). v.waits) seen)) e (firsts_on firsts)
        by_lives true e =
            let l = left seen e in
            Ending sb (last_heard sz (answers_to s out.effects)) (s_on e sb sz row)
            (λ names. ap (λ xs. (session_next sb names (last_heard sz xs)).0) l.quiet ∙ returns names) (l.same ∙ seen) (firsts_on firsts)
    phase_other (Starting lives sb sz kb kz row row_k tells place nothing) = by_lives (is_thread out.after s) refl
      where
        one : (a : ℕ) → out.after.births ≤ a → eqb null_id a ≡ false → is_thread out.after s ≡ true
            → TellsAt s k a out.after sb (last_heard sz (answers_to s out.effects)) (knext kb kz) (last_heard kz (answers_to k out.effects)) (got2 a) (said2 a)
        one a low away e =
            let t = tells a (omega (arith, low, (fades s).births)) away in
            by_fate t (goes a sb sz kb kz row_k t away (inl (start_lives s k a st sb sz kb kz (got a) (said a) t place)) (λ start. low) e)
          where
            by_fate : (t : TellsAt s k a st sb sz kb kz (got a) (said a))
                → Becomes s k a t.talk t.talk.session (knext kb kz) t.waiting (new a) [] out ⊎ Leaves s t.talk out
                → TellsAt s k a out.after sb (last_heard sz (answers_to s out.effects)) (knext kb kz)
                (last_heard kz (answers_to k out.effects)) (got2 a) (said2 a)
            by_fate t (inl b) = tells_so a sb sz kb kz t b
            by_fate t (inr l) =
                let recv = placed_recv t.talk.session.place (subst (λ c. is_placed c t.talk.session.place ≡ true) l.place t.stands.placed) in
                absurd (let bad : false ≡ true = ap is_late (sym place ∙ sym (place_is s k a st sb sz kb kz (got a) (said a) t) ∙ recv) in cc)

        by_lives : (d : Bool) → is_thread out.after s ≡ d → Phase2
        by_lives true e = Starting e sb (last_heard sz (answers_to s out.effects)) (knext kb kz) (last_heard kz (answers_to k out.effects))
            (s_on e sb sz row) (k_on kb kz row_k) (λ a low away. one a low away e) place
            (λ a. both_none (said a) (replies_of_step s a out.effects) (nothing a) (silent a))
        by_lives false e = dead_now lives e (firsts_on (λ b. none_first (said b) (got b) (nothing b)))
    phase_other (Talking a sb sz kb kz row row_k t away started lives others) = by_lives (is_thread out.after s) refl
      where
        by_fate : is_thread out.after s ≡ true → Becomes s k a t.talk t.talk.session (knext kb kz) t.waiting (new a) [] out ⊎ Leaves s t.talk out → Phase2
        by_fate e (inl b) = settle a sb (last_heard sz (answers_to s out.effects)) (knext kb kz) (last_heard kz (answers_to k out.effects))
            (s_on e sb sz row) (k_on kb kz row_k) (tells_so a sb sz kb kz t b) away started
            (λ b apart. both_none (said b) (replies_of_step s b out.effects) (others b apart) (silent b))
        by_fate e (inr l) =
            let recv = sym (place_is s k a st sb sz kb kz (got a) (said a) t)
            ∙ placed_recv t.talk.session.place (subst (λ c. is_placed c t.talk.session.place ≡ true) l.place t.stands.placed) in
            Ending sb (last_heard sz (answers_to s out.effects)) (s_on e sb sz row)
            (λ names. ap (λ xs. (session_next sb names (last_heard sz xs)).0) l.told ∙ returned sb names recv) l.client
            (firsts_on (all_first a sb sz kb kz t others))

        by_lives : (d : Bool) → is_thread out.after s ≡ d → Phase2
        by_lives true e = by_fate e (goes a sb sz kb kz row_k t away lives (λ start. absurd (started start)) e)
        by_lives false e = dead_now (alive_seen st s (block_of (Some a) t.talk.client) (ap (λ (v : Sight). v.waits) t.stands.client)) e
            (firsts_on (all_first a sb sz kb kz t others))

-- ---- a call of the session

abbrev is_started : SessionPlace → Bool
is_started at.Start = false
is_started at.Agent = true
is_started at.Recv = true
is_started at.Send = true
is_started at.Reply = true
is_started at.Bye = true
is_started at.End = true

late_started : (p : SessionPlace) → is_late p ≡ true → is_started p ≡ true
late_started at.Start h = absurd (cc)
late_started at.Agent h = refl
late_started at.Recv h = refl
late_started at.Send h = refl
late_started at.Reply h = refl
late_started at.Bye h = refl
late_started at.End h = refl

module _ (body : SessionBody) (names : Names) where
  opened_started : body.place ≡ at.Agent → (x : Answer) → is_started (session_turn_after_agent body x).1.place ≡ true
  opened_started here (answer.Thread b) = refl
  opened_started here (answer.Refused e) = refl
  opened_started here (answer.Letter from text room) = ap is_started here
  opened_started here (answer.Value v) = ap is_started here
  opened_started here (answer.Monitor t) = ap is_started here
  opened_started here (answer.Cond t) = ap is_started here
  opened_started here (answer.Reply text) = ap is_started here
  opened_started here (answer.Bound f arg) = ap is_started here
  opened_started here (answer.Caught d m p) = ap is_started here
  opened_started here (answer.Ids n ns) = ap is_started here

  opened_mute : (b : ℕ) (x : Answer) → reply_to b (session_turn_after_agent body x).0 ≡ []
  opened_mute b (answer.Thread c) = refl
  opened_mute b (answer.Refused e) = refl
  opened_mute b (answer.Letter from text room) = refl
  opened_mute b (answer.Value v) = refl
  opened_mute b (answer.Monitor t) = refl
  opened_mute b (answer.Cond t) = refl
  opened_mute b (answer.Reply text) = refl
  opened_mute b (answer.Bound f arg) = refl
  opened_mute b (answer.Caught d m p) = refl
  opened_mute b (answer.Ids n ns) = refl

  late_next : (x : Answer) (p : SessionPlace) → body.place ≡ p → is_late p ≡ true → is_started (session_by body names x p).1.place ≡ true
  late_next x p here late = late_started (session_by body names x p).1.place (late_by body names (ap is_late here ∙ late) x p late).late

  -- whatever it is answered, it is past its start then
  started_next : (x : Answer) (p : SessionPlace) → body.place ≡ p → is_started (session_by body names x p).1.place ≡ true
  started_next x at.Start here = refl
  started_next x at.Agent here = opened_started here x
  started_next x at.Recv here = late_next x at.Recv here refl
  started_next x at.Send here = late_next x at.Send here refl
  started_next x at.Reply here = late_next x at.Reply here refl
  started_next x at.Bye here = late_next x at.Bye here refl
  started_next x at.End here = late_next x at.End here refl

  module _ (a b : ℕ) (apart : eqb a b ≡ false) where
    late_mute : (c : Call) → body.agent ≡ a → LateCall body.agent c → reply_to b c ≡ []
    late_mute c its (RepliesNothing none) = none b
    late_mute c its (RepliesTo text is) = ap (reply_to b) is ∙ ap (λ d. cond d (text ∷ []) []) (ap (λ n. eqb n b) its ∙ apart)

    late_own : (x : Answer) (p : SessionPlace) → body.place ≡ p → is_late p ≡ true → (is_late p ≡ true → body.agent ≡ a)
        → reply_to b (session_by body names x p).0 ≡ []
    late_own x p here late its = late_mute (session_by body names x p).0 (its late) (late_by body names (ap is_late here ∙ late) x p late).calls

    -- it replies to its agent alone
    own_mutes : (x : Answer) (p : SessionPlace) → body.place ≡ p → (is_late p ≡ true → body.agent ≡ a) → reply_to b (session_by body names x p).0 ≡ []
    own_mutes x at.Start here its = refl
    own_mutes x at.Agent here its = opened_mute b x
    own_mutes x at.Recv here its = late_own x at.Recv here refl its
    own_mutes x at.Send here its = late_own x at.Send here refl its
    own_mutes x at.Reply here its = late_own x at.Reply here refl its
    own_mutes x at.Bye here its = late_own x at.Bye here refl its
    own_mutes x at.End here its = late_own x at.End here refl its

-- turned away, it returns
away_returns : (sb : SessionBody) (names later : Names) (x : Answer) (why : LwpErr) → sb.place ≡ at.Start
    → (session_next (session_next sb names x).1 later (answer.Refused why)).0 ≡ call.Return
unfolding session_next
away_returns sb names later x why start =
    ap (λ (p : SessionPlace). (session_by (session_by sb names x p).1 later (answer.Refused why) (session_by sb names x p).1.place).0) start

module _ (s k : ℕ) (es : EventState) (was : Lawful es.state None) (turn : choice es.state ≡ Some s) (S S2 : SessionBody → Answer → Type 0)
    (K K2 : StoreBody → Answer → Type 0) (got said : ℕ → Texts) (sb0 : SessionBody) (sz0 : Answer) (names : Names)
    (same : (b : SessionBody) (z : Answer) → S b z → (b ≡ sb0) × (z ≡ sz0)) where
  abbrev own : Call
  own = (session_next sb0 names sz0).0

  abbrev made_out : Outcome
  made_out = machine_of (event_step es own)

  abbrev new_texts : ℕ → Texts
  new_texts b = texts_in b None made_out.effects

  module _ (s_on : is_thread made_out.after s ≡ true → S2 (session_next sb0 names sz0).1 (last_heard sz0 (answers_to s made_out.effects)))
      (k_on : (b : StoreBody) (z : Answer) → K b z → K2 b (last_heard z (answers_to k made_out.effects)))
      (short : (b : ℕ) → list_all is_short (got b) ≡ true) (only : es.pending ≡ None → sends_well s k own ≡ true)
      (low : eqb null_id es.state.births ≡ false) where
    abbrev PhaseOwn : Type 0
    PhaseOwn = Phase s k made_out.after S2 K2 (λ b. got b ++ new_texts b) (λ b. said b ++ replies_of_step s b made_out.effects)

    lives_now : is_thread es.state s ≡ true
    lives_now = let run = chosen es.state was.nine s turn in ap is_some run.known

    own_dead : is_thread made_out.after s ≡ false
        → ((b : ℕ) → AreFirst (said b ++ replies_of_step s b made_out.effects) (line_answers (got b ++ new_texts b))) → PhaseOwn
    own_dead off firsts = dead_now s k es.state was S S2 K K2 got said new_texts made_out (λ n. event_fades n es own) lives_now off firsts

    unreplied : (b : ℕ) → reply_to b own ≡ [] → replies_of_step s b made_out.effects ≡ []
    unreplied b none = mute_event s b es s own turn (mute_unreplied s b own none)

    module _ (a : ℕ) (sb : SessionBody) (sz : Answer) (kb : StoreBody) (kz : Answer) (row : S sb sz) (row_k : K kb kz)
        (t : TellsAt s k a es.state sb sz kb kz (got a) (said a)) (away : eqb null_id a ≡ false)
        (firsts : (b : ℕ) → AreFirst (said b) (line_answers (got b))) (others : (b : ℕ) → eqb a b ≡ false → said b ≡ [])
        (mutes : (b : ℕ) → eqb a b ≡ false → reply_to b own ≡ [])
        (given : sb0.place ≡ at.Start → es.state.births ≡ a) where
      hearing : IsHearing t.talk.client
      hearing = session_hears s k a es.state was t.talk t.waiting t.stands turn

      session_is : t.talk.session ≡ sb0
      session_is = t.session ∙ (same sb sz row).0

      answer_is : hearing.answer ≡ sz0
      answer_is = sym (subst (λ c. HeardAs c sz) hearing.is t.heard) ∙ (same sb sz row).1

      Comes : SessionBody → Answer → Type 0
      Comes b z = (es.pending ≡ None → sends_well s k (session_next b names z).0 ≡ true)
          → (b.place ≡ at.Start → (n : ℕ) → answers_to s (step es.state (session_next b names z).0).effects ≡ answer.Thread n ∷ [] → n ≡ a)
          → SessionComes s k a t.talk t.waiting (session_next b names z).1 (machine_of (event_step es (session_next b names z).0))

      given_agent : sb0.place ≡ at.Start → (n : ℕ) → answers_to s (step es.state own).effects ≡ answer.Thread n ∷ [] → n ≡ a
      unfolding session_next
      given_agent start n told =
          agent_given s es.state turn sb0.event n (ap (λ p. answers_to s (step es.state (session_by sb0 names sz0 p).0).effects) (sym start) ∙ told)
          ∙ given start

      comes : SessionComes s k a t.talk t.waiting (session_next sb0 names sz0).1 made_out
      unfolding Comes
      comes = subst (Comes sb0) answer_is (subst (λ b. Comes b hearing.answer) session_is
          (λ only given. pods_sessions_calls_are_events s k a es was t.talk t.waiting t.stands turn hearing.answer hearing.is names
          (session_short s a t.talk t.inv hearing.answer hearing.is names (lines_short s k a es.state sb sz kb kz (got a) (said a) t (short a)))
          only given))
          only given_agent

      firsts_then : replies_of_step s a made_out.effects ≡ [] → (b : ℕ)
          → AreFirst (said b ++ replies_of_step s b made_out.effects) (line_answers (got b ++ new_texts b))
      firsts_then none b = by_test (eqb a b) refl
        where
          by_test : (d : Bool) → eqb a b ≡ d → AreFirst (said b ++ replies_of_step s b made_out.effects) (line_answers (got b ++ new_texts b))
          by_test true e = still_first (said b) (got b) (new_texts b) (replies_of_step s b made_out.effects)
              (ap (λ n. replies_of_step s n made_out.effects) (sym (eqb-true a b e)) ∙ none) (firsts b)
          by_test false e = still_first (said b) (got b) (new_texts b) (replies_of_step s b made_out.effects) (unreplied b (mutes b e)) (firsts b)

      own_by : SessionComes s k a t.talk t.waiting (session_next sb0 names sz0).1 made_out → PhaseOwn
      unfolding session_next
      own_by (Dies gone none) = own_dead (gone_thread made_out.after s gone) (firsts_then none)
      own_by (IsTurnedAway v none) =
          let start = ap (λ (b : SessionBody). b.place) (sym session_is) ∙ v.place in
          Ending (session_next sb0 names sz0).1 (last_heard sz0 (answers_to s made_out.effects))
          (s_on (alive_seen made_out.after s block.Not (ap (λ (w : Sight). w.waits) v.client)))
          (λ later. ap (λ xs. (session_next (session_next sb0 names sz0).1 later (last_heard sz0 xs)).0) v.told ∙ away_returns sb0 names later sz0 v.why start)
          v.client (firsts_then none)
      own_by (GoesOn b) =
          let told = tells_on s k a es.state sb sz kb kz (got a) (said a) t (session_next sb0 names sz0).1 t.talk.store (new_texts a)
          (replies_of_step s a made_out.effects) made_out b in
          let told_so = subst
          (λ z. TellsAt s k a made_out.after (session_next sb0 names sz0).1 (last_heard z (answers_to s made_out.effects)) kb
          (last_heard kz (answers_to k made_out.effects)) (got a ++ new_texts a) (said a ++ replies_of_step s a made_out.effects))
          (same sb sz row).1
          (subst
          (λ body. TellsAt s k a made_out.after (session_next sb0 names sz0).1 (last_heard sz (answers_to s made_out.effects)) body
          (last_heard kz (answers_to k made_out.effects)) (got a ++ new_texts a) (said a ++ replies_of_step s a made_out.effects))
          t.store told) in
          settle s k es.state was S S2 K K2 got said new_texts made_out (λ n. event_fades n es own) a (session_next sb0 names sz0).1
          (last_heard sz0 (answers_to s made_out.effects)) kb (last_heard kz (answers_to k made_out.effects))
          (s_on (alive_seen made_out.after s (block_of (Some a) (after_events s a t.talk b.events).client) (ap (λ (w : Sight). w.waits) b.stands.client)))
          (k_on kb kz row_k) told_so away
          (λ start. differ (sym (started_next sb0 names sz0 sb0.place refl) ∙ ap is_started start))
          (λ n apart. both_none (said n) (replies_of_step s n made_out.effects) (others n apart) (unreplied n (mutes n apart)))

      pub own_talk : PhaseOwn
      own_talk = own_by comes

    -- ---- in each phase

    own_start : sb0.place ≡ at.Start → (b : ℕ) → reply_to b own ≡ []
    unfolding session_next
    own_start start b = ap (λ p. reply_to b (session_by sb0 names sz0 p).0) start

    own_late : (a : ℕ) (sb : SessionBody) (sz : Answer) (kb : StoreBody) (kz : Answer) (t : TellsAt s k a es.state sb sz kb kz (got a) (said a))
        → sb ≡ sb0 → (sb.place ≡ at.Start → ⊥) → (b : ℕ) → eqb a b ≡ false → reply_to b own ≡ []
    unfolding session_next
    own_late a sb sz kb kz t is started b apart = own_mutes sb0 names a b apart sz0 sb0.place refl
        (λ late. sym (ap (λ (b : SessionBody). b.agent) is)
        ∙ knows_late a sb.agent sb.place t.talk.client (ap (λ (b : SessionBody). is_late b.place) is ∙ late)
        (known s k a es.state sb sz kb kz (got a) (said a) t started))

    pub phase_own : Phase s k es.state S K got said → PhaseOwn
    unfolding session_next
    phase_own (Over below off firsts) = differ (sym lives_now ∙ off)
    phase_own (Lost lives a sb sz row its late gone firsts) = by_lives (is_thread made_out.after s) refl
      where
        body_is : sb ≡ sb0
        body_is = (same sb sz row).0

        late0 : is_late sb0.place ≡ true
        late0 = ap (λ (b : SessionBody). is_late b.place) (sym body_is) ∙ late

        agent0 : sb0.agent ≡ a
        agent0 = ap (λ (b : SessionBody). b.agent) (sym body_is) ∙ its

        next : IsLate sb0.agent (session_by sb0 names sz0 sb0.place)
        next = late_by sb0 names late0 sz0 sb0.place late0

        firsts2 : (b : ℕ) → AreFirst (said b ++ replies_of_step s b made_out.effects) (line_answers (got b ++ new_texts b))
        firsts2 b = still_first (said b) (got b) (new_texts b) (replies_of_step s b made_out.effects)
            (late_unheard s b es turn a gone own (subst (λ n. LateCall n own) agent0 next.calls)) (firsts b)

        by_lives : (d : Bool) → is_thread made_out.after s ≡ d → PhaseOwn
        by_lives true e = Lost e a (session_next sb0 names sz0).1 (last_heard sz0 (answers_to s made_out.effects)) (s_on e)
            (next.agent_is ∙ agent0) next.late (gone_stays a es.state made_out.after (event_fades a es own) gone) firsts2
        by_lives false e = own_dead e firsts2
    phase_own (Ending sb sz row returns seen firsts) =
        let both = same sb sz row in
        let is : own ≡ call.Return = (λ i. (session_next (sym both.0 i) names (sym both.1 i)).0) ∙ returns names in
        own_dead (gone_thread made_out.after s
        (subst (λ c. IsGone (event_step es c).after.state s) (sym is) (returns_end s es was turn (ap (λ (v : Sight). v.marks) seen) lives_now)))
        (λ b. still_first (said b) (got b) (new_texts b) (replies_of_step s b made_out.effects) (unreplied b (ap (reply_to b) is)) (firsts b))
    phase_own (Starting lives sb sz kb kz row row_k tells place nothing) =
        let start = ap (λ (b : SessionBody). b.place) (sym (same sb sz row).0) ∙ place in
        own_talk es.state.births sb sz kb kz row row_k (tells es.state.births (omega arith) low) low
        (λ b. none_first (said b) (got b) (nothing b)) (λ b apart. nothing b) (λ b apart. own_start start b) (λ start. refl)
    phase_own (Talking a sb sz kb kz row row_k t away started lives others) =
        let is = (same sb sz row).0 in
        own_talk a sb sz kb kz row row_k t away
        (all_first s k es.state was S S2 K K2 got said new_texts made_out (λ n. event_fades n es own) a sb sz kb kz t others) others
        (own_late a sb sz kb kz t is started) (λ start. absurd (started (ap (λ (b : SessionBody). b.place) is ∙ start)))

-- who is there has a row
pub record HasRow (S : SessionBody → Answer → Type 0) : Type 0 where
  pub body : SessionBody
  pub answer : Answer
  pub row : S body answer

pub phase_row : (s k : ℕ) (st : State) (S : SessionBody → Answer → Type 0) (K : StoreBody → Answer → Type 0) (got said : ℕ → Texts)
    → Phase s k st S K got said → is_thread st s ≡ true → HasRow S
phase_row s k st S K got said (Starting l sb sz kb kz row row_k tells place nothing) lives = record { body = sb; answer = sz; row = row }
phase_row s k st S K got said (Talking a sb sz kb kz row row_k t away started l others) lives = record { body = sb; answer = sz; row = row }
phase_row s k st S K got said (Ending sb sz row returns seen firsts) lives = record { body = sb; answer = sz; row = row }
phase_row s k st S K got said (Lost l a sb sz row its late gone firsts) lives = record { body = sb; answer = sz; row = row }
phase_row s k st S K got said (Over below off firsts) lives = differ (sym lives ∙ off)

-- in each of them what was said is a first part of the answers
pub phase_first : (s k : ℕ) (st : State) (S : SessionBody → Answer → Type 0) (K : StoreBody → Answer → Type 0) (got said : ℕ → Texts)
    → Phase s k st S K got said → (b : ℕ) → AreFirst (said b) (line_answers (got b))
phase_first s k st S K got said (Starting l sb sz kb kz row row_k tells place nothing) b = none_first (said b) (got b) (nothing b)
phase_first s k st S K got said (Talking a sb sz kb kz row row_k t away started l others) b = by_test (eqb a b) refl
  where
    by_test : (d : Bool) → eqb a b ≡ d → AreFirst (said b) (line_answers (got b))
    by_test true e = subst (λ n. AreFirst (said n) (line_answers (got n))) (eqb-true a b e) (tells_first s k a st sb sz kb kz (got a) (said a) t)
    by_test false e = none_first (said b) (got b) (others b e)
phase_first s k st S K got said (Ending sb sz row returns seen firsts) b = firsts b
phase_first s k st S K got said (Lost l a sb sz row its late gone firsts) b = firsts b
phase_first s k st S K got said (Over below off firsts) b = firsts b
