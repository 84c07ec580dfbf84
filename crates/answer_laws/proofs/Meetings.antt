-- Where a store and a client's session begin.
use Rattle.std.specs.Prelude.{option_map}
use Rattle.answer_laws.proofs.Alone.{AloneAt, alone_other, alone_own, alone_taken}
use Rattle.answer_laws.proofs.OwnSteps.{alive_seen}
use Rattle.answer_laws.proofs.Phases.{Phase.Starting, TellsAt, born_below, phase_first, resting}
use Rattle.answer_laws.proofs.Servings.{K_of, S_of, Stood, alive_then, chosen_lives, gone_fades, gone_stood}
use Rattle.answer_laws.proofs.Servings.{moved_fades, moved_lawful, rests_untimed, there_before}
use Rattle.answer_laws.proofs.TalkLaws.{Inv.Goes, Phase.Idle}
use Rattle.answer_laws.proofs.TalkSteps.{either_of, unborn_absent, unsome}
use Rattle.answer_laws.proofs.ThreadRows.{polled_other, polled_own, settled_with}
use Rattle.answer_laws.specs.Clients.{IsAnsweredInTurn}
use Rattle.answer_laws.specs.Served.{Begins, CanGoOn, ClientsAreAnsweredInTurn, LaterClientsAreAnsweredInTurn, LineServer, Serves}
use Rattle.answer_laws.specs.Served.{TextsAreShort, after_move, after_moves, is_move_due, session_from, steps_of, polled_with}
use Rattle.answer_laws.specs.Sights.{Sight, answers_to, sight}
use Rattle.answer_laws.specs.Stands.{AgentIs.Unmade, block_of, last_heard}
use Rattle.answer_laws.specs.Talks.{Mail.Nothing, Stand.Hears}
use Rattle.line_server.specs.Sessions.{session_opening}
use Rattle.line_server.specs.Stores.{StoreBody, store_next, store_opening}
use Rattle.lwp_types.specs.Choice.{choice}
use Rattle.lwp_types.specs.Lawful.{Lawful}
use Rattle.lwp_types.specs.Names.{Names, names_for_poll}
use Rattle.lwp_types.specs.Poll.{Polled}
use Rattle.lwp_types.specs.State.{State, is_agent, is_id, is_thread}
use Rattle.lwp_types.specs.Unblock.{zero_answer}
use Rattle.lwp_types.specs.declared.call.Answer.{Answer}
use Rattle.pod_events.specs.Events.{is_takeable, take_event}
use Rattle.pod_events.specs.Step.{event_step}
use Rattle.pod_laws.proofs.Elements.{differ}
use Rattle.pod_runner.specs.Session.{Live, Session, Setting, after_poll, call_move, move, move_by, move_row, proc_of, row_of, take_move}
use Rattle.pod_runner.specs.declared.session.Row.{Row}
use Rattle.pod_runner.specs.declared.session.Took.{Took}
use Rattle.session_laws.proofs.Pods.{call_moved, take_moved}
use Rattle.std.proofs.Common.{Bool, List, None, Option, Some, [], ap, arith, eqb, false, inl, inr}
use Rattle.std.proofs.Common.{refl, subst, sym, true, ℕ, ◌++◌, ◌<◌, ◌∙◌, ◌∷◌, ◌≡◌, ◌≤◌, ◌⊎◌}
use Rattle.std.proofs.lemmas.Bool.{eqb-true, ne_eqb}
use Rattle.lwp_types.specs.declared.rows.Block.TheVariants as block

-- a session at its beginning, and a store that has no table of it and reads no letter of it
pub meet : (s k event place a : ℕ) → eqb s k ≡ false → (st : State) → Lawful st None → sight st s ≡ resting → (kb : StoreBody) (kz : Answer)
    → AloneAt s k st kb kz → st.births ≤ a → TellsAt s k a st (session_opening event place) zero_answer kb kz [] []
meet s k event place a s_k st was seen kb kz h low = record {
  talk = record {
    session = session_opening event place;
    client = Hears zero_answer;
    store = kb;
    keeper = h.stand;
    mail = Nothing;
    agent_lives = true;
    lines = [];
    told = [];
  };
  waiting = [];
  stands = record {
    client = seen;
    keeper = λ apart. h.seen;
    posted = refl;
    placed = refl;
    reads = h.reads;
    untimed = rests_untimed st was s seen;
    untimed_keeper = λ apart. h.untimed;
    alone = λ same. differ (sym same ∙ s_k);
    agent = Unmade low refl refl refl;
  };
  inv = Goes (Idle [] (record { replied = refl; kept = h.table; clean = refl }) refl refl refl) h.apart;
  session = refl;
  store = refl;
  heard = refl;
  heard_keeper = λ apart. h.heard;
  texts = refl;
  told = refl;
}

-- a store that begins is so
pub begin_alone : (s k : ℕ) (st : State) → Lawful st None → sight st k ≡ resting → AloneAt s k st store_opening zero_answer
begin_alone s k st was seen = record {
  stand = Hears zero_answer;
  seen = seen;
  reads = refl;
  untimed = rests_untimed st was k seen;
  heard = refl;
  table = refl;
  apart = refl;
}

module _ {B : Type 0} (setting : Setting B) (server : LineServer setting.next) (s k event place : ℕ) (s_k : eqb s k ≡ false) (live : Live B)
    (was : Lawful live.pod.state None) (begins : Begins s (server.serving (session_opening event place)) live)
    (kb : StoreBody) (kz : Answer) (row_k : K_of setting server s k s_k live.rows kb kz) (alone : AloneAt s k live.pod.state kb kz) where
  met : Stood setting server s k s_k (session_from live)
  met = Starting (alive_seen live.pod.state s block.Not (ap (λ (v : Sight). v.waits) begins.thread)) (session_opening event place)
      zero_answer kb kz begins.row row_k
      (λ a low away. meet s k event place a s_k live.pod.state was begins.thread kb kz alone low) refl (λ a. refl)

  pub met_answers : (moves : List (Option Took)) → CanGoOn setting moves (session_from live)
      → Serves s k (after_moves setting moves (session_from live)) → TextsAreShort (after_moves setting moves (session_from live)) → (a : ℕ)
      → IsAnsweredInTurn s a (steps_of (after_moves setting moves (session_from live)).steps)
  met_answers moves can serves short a =
      let end = after_moves setting moves (session_from live) in
      let stood = gone_stood setting server s k s_k moves (session_from live) was can met
      (alive_seen live.pod.state k (block_of None alone.stand) (ap (λ (v : Sight). v.waits) alone.seen)) serves.lives serves.sends short serves.few in
      phase_first s k end.live.pod.state (S_of setting server s k s_k end.live.rows) (K_of setting server s k s_k end.live.rows) _ _ stood a

pub clients_are_answered_in_turn : (B : Type 0) → ClientsAreAnsweredInTurn B
clients_are_answered_in_turn B setting server s k event place s_k live was begins_k begins moves can serves short a =
    met_answers setting server s k event place s_k live was begins store_opening zero_answer begins_k.row
    (begin_alone s k live.pod.state was begins_k.thread) moves can serves short a

-- ---- a store that has begun before

module _ {B : Type 0} (setting : Setting B) (server : LineServer setting.next) (s k : ℕ) (s_k : eqb s k ≡ false) where
  -- it is there, and has served others alone
  pub record IsAlone (live : Live B) : Type 0 where
    pub body : StoreBody
    pub answer : Answer
    pub row : K_of setting server s k s_k live.rows body answer
    pub alone : AloneAt s k live.pod.state body answer

  module _ (live : Live B) (was : Lawful live.pod.state None) (h : IsAlone live) (low : live.pod.state.births ≤ s) where
    unborn : is_id live.pod.state s ≡ false
    unborn = unborn_absent live.pod.state was s low

    abbrev Then : Live B → Type 0
    Then after = is_thread after.pod.state k ≡ true → (after.pod.state.births ≤ s) ⊎ (is_thread after.pod.state s ≡ true) → IsAlone after

    -- s doesn't call
    not_chosen : (t : ℕ) → choice live.pod.state ≡ Some t → eqb t s ≡ false
    not_chosen t turn = by_test (eqb t s) refl
      where
        by_test : (b : Bool) → eqb t s ≡ b → b ≡ false
        by_test false e = refl
        by_test true e = differ (sym (chosen_lives live.pod.state was t turn) ∙ ap (is_thread live.pod.state) (eqb-true t s e)
            ∙ (either_of (is_thread live.pod.state s) (is_agent live.pod.state s) unborn).0)

    other_alone : (t : ℕ) → choice live.pod.state ≡ Some t → eqb t k ≡ false → (reply : Polled B) → Then (call_move setting.bodies live t reply).live
    unfolding call_move
    other_alone t turn t_k reply = λ lives free. record {
      body = h.body;
      answer = last_heard h.answer (answers_to k (event_step live.pod reply.0).effects);
      row = settled_with k setting.bodies (proc_of reply.0) (event_step live.pod reply.0).effects (after_poll t reply.1 reply.0 live.rows)
          (server.storing h.body) h.answer (polled_other k t t_k reply.1 reply.0 live.rows ∙ h.row)
          (alive_then live.pod.state (event_step live.pod reply.0).after.state (event_step live.pod reply.0).effects (call_moved live.pod was reply.0) k lives);
      alone = alone_other s k live.pod was h.body h.answer h.alone t turn t_k (not_chosen t turn) reply.0 lives free;
    }

    own_alone : choice live.pod.state ≡ Some k → (names : Names)
        → Then (call_move setting.bodies live k
        ((store_next h.body names h.answer).0, server.storing (store_next h.body names h.answer).1, (store_next h.body names h.answer).2)).live
    unfolding call_move
    own_alone turn names = λ lives free. record {
      body = (store_next h.body names h.answer).1;
      answer = last_heard h.answer (answers_to k (event_step live.pod (store_next h.body names h.answer).0).effects);
      row = settled_with k setting.bodies (proc_of (store_next h.body names h.answer).0)
          (event_step live.pod (store_next h.body names h.answer).0).effects
          (after_poll k (server.storing (store_next h.body names h.answer).1) (store_next h.body names h.answer).0 live.rows)
          (server.storing (store_next h.body names h.answer).1) h.answer (polled_own k (server.storing (store_next h.body names h.answer).1)
          (store_next h.body names h.answer).0 live.rows (server.storing h.body) h.answer h.row)
          (alive_then live.pod.state (event_step live.pod (store_next h.body names h.answer).0).after.state
          (event_step live.pod (store_next h.body names h.answer).0).effects (call_moved live.pod was (store_next h.body names h.answer).0) k lives);
      alone = alone_own s k live.pod was h.body h.answer h.alone turn low names lives free;
    }

    called_alone : (t : ℕ) → choice live.pod.state ≡ Some t → (row : Row B) → row_of t live.rows ≡ Some row → (names : Names) → (e : Bool)
        → eqb t k ≡ e → Then (call_move setting.bodies live t (setting.next row.body names row.answer)).live
    called_alone t turn row found names false is = other_alone t turn is (setting.next row.body names row.answer)
    called_alone t turn row found names true is =
        let same = eqb-true t k is in
        let one = unsome (ap (option_map polled_with) (sym (ap (λ n. row_of n live.rows) (sym same) ∙ found)) ∙ h.row) in
        subst (λ n. Then (call_move setting.bodies live n (setting.next row.body names row.answer)).live) (sym same)
        (subst (λ (r : Polled B). Then (call_move setting.bodies live k r).live)
        (sym ((λ i. setting.next (one i).0 names (one i).1) ∙ server.stores h.body names h.answer)) (own_alone (turn ∙ ap Some same) names))

    row_alone : (t : ℕ) → choice live.pod.state ≡ Some t → (o : Option (Row B)) → row_of t live.rows ≡ o
        → Then (move_row setting.next setting.bodies live t o).live
    row_alone t turn None found = λ lives free. h
    row_alone t turn (Some row) found = called_alone t turn row found (names_for_poll t live.names) (eqb t k) refl

    call_alone : Then (move setting.next setting.bodies live).live
    unfolding move
    call_alone = by_choice (choice live.pod.state) refl
      where
        by_choice : (o : Option ℕ) → choice live.pod.state ≡ o → Then (move_by setting.next setting.bodies live o).live
        by_choice None e = λ lives free. h
        by_choice (Some t) e = row_alone t e (row_of t live.rows) refl

    take_alone : (took : Took) → is_takeable live.pod took.event ≡ true → Then (take_move setting.bodies took live).live
    unfolding take_move
    take_alone took may = λ lives free. record {
      body = h.body;
      answer = last_heard h.answer (answers_to k (take_event live.pod took.event took.line.text).effects);
      row = settled_with k setting.bodies None (take_event live.pod took.event took.line.text).effects live.rows (server.storing h.body) h.answer h.row
          (alive_then live.pod.state (take_event live.pod took.event took.line.text).after.state
          (take_event live.pod took.event took.line.text).effects (take_moved live.pod was took.event took.line.text may) k lives);
      alone = alone_taken s k live.pod was h.body h.answer h.alone
          (either_of (is_thread live.pod.state s) (is_agent live.pod.state s) unborn).1 took.event took.line.text;
    }

  pub move_alone : (session : Session B) (m : Option Took) → Lawful session.live.pod.state None → is_move_due session m ≡ true
      → IsAlone session.live → session.live.pod.state.births ≤ s
      → is_thread (after_move setting session m).live.pod.state k ≡ true
      → ((after_move setting session m).live.pod.state.births ≤ s) ⊎ (is_thread (after_move setting session m).live.pod.state s ≡ true)
      → IsAlone (after_move setting session m).live
  move_alone session None was due h low lives free = call_alone session.live was h low lives free
  move_alone session (Some took) was due h low lives free = take_alone session.live was h low took due lives free

  pub moves_alone : (moves : List (Option Took)) (session : Session B) → Lawful session.live.pod.state None → CanGoOn setting moves session
      → IsAlone session.live → (after_moves setting moves session).live.pod.state.births ≤ s
      → is_thread (after_moves setting moves session).live.pod.state k ≡ true
      → IsAlone (after_moves setting moves session).live
  moves_alone [] session was can h low lives = h
  moves_alone (m ∷ ms) session was can h low lives =
      let next = after_move setting session m in
      let born = born_below session.live.pod.state was k
      (alive_seen session.live.pod.state k (block_of None h.alone.stand) (ap (λ (v : Sight). v.waits) h.alone.seen)) in
      let below = (gone_fades setting k ms next).births in
      moves_alone ms next (moved_lawful setting session m can.0 was) can.1
      (move_alone session m was can.0 h (omega (arith, low, below, (moved_fades setting k session m).births))
      (there_before setting k ms next (omega (arith, born, (moved_fades setting k session m).births)) lives) (inl (omega (arith, low, below))))
      low lives

-- some moves, and one more
module _ {B : Type 0} (setting : Setting B) where
  pub can_first : (moves : List (Option Took)) (m : Option Took) (session : Session B) → CanGoOn setting (moves ++ m ∷ []) session
      → CanGoOn setting moves session
  can_first [] m session can = tt
  can_first (n ∷ ns) m session can = (can.0, can_first ns m (after_move setting session n) can.1)

  pub can_last : (moves : List (Option Took)) (m : Option Took) (session : Session B) → CanGoOn setting (moves ++ m ∷ []) session
      → is_move_due (after_moves setting moves session) m ≡ true
  can_last [] m session can = can.0
  can_last (n ∷ ns) m session can = can_last ns m (after_move setting session n) can.1

  pub gone_push : (moves : List (Option Took)) (m : Option Took) (session : Session B)
      → after_moves setting (moves ++ m ∷ []) session ≡ after_move setting (after_moves setting moves session) m
  gone_push [] m session = refl
  gone_push (n ∷ ns) m session = gone_push ns m (after_move setting session n)

  pub gone_lawful : (moves : List (Option Took)) (session : Session B) → CanGoOn setting moves session → Lawful session.live.pod.state None
      → Lawful (after_moves setting moves session).live.pod.state None
  gone_lawful [] session can was = was
  gone_lawful (m ∷ ms) session can was = gone_lawful ms (after_move setting session m) can.1 (moved_lawful setting session m can.0 was)

pub later_clients_are_answered_in_turn : (B : Type 0) → LaterClientsAreAnsweredInTurn B
later_clients_are_answered_in_turn B setting server s k event place first was begins_k moves birth can low live is begins later can_later serves short a =
    met_answers setting server s k event place s_k live was_live begins alone.body alone.answer alone.row alone.alone later can_later serves short a
  where
    before : Session B
    before = after_moves setting moves (session_from first)

    after : Session B
    after = after_move setting before birth

    live_is : live ≡ after.live
    live_is = is ∙ ap (λ (x : Session B). x.live) (gone_push setting moves birth (session_from first))

    was_before : Lawful before.live.pod.state None
    was_before = gone_lawful setting moves (session_from first) (can_first setting moves birth (session_from first) can) was

    was_live : Lawful live.pod.state None
    was_live = subst (λ (x : Live B). Lawful x.pod.state None) (sym live_is)
        (moved_lawful setting before birth (can_last setting moves birth (session_from first) can) was_before)

    born : k < before.live.pod.state.births
    born = omega (
      arith,
      born_below first.pod.state was k (alive_seen first.pod.state k block.Not (ap (λ (v : Sight). v.waits) begins_k.thread)),
      (gone_fades setting k moves (session_from first)).births,
    )

    s_k : eqb s k ≡ false
    s_k = ne_eqb s k (λ e. omega (arith, e, low, born))

    born_after : k < after.live.pod.state.births
    born_after = omega (arith, born, (moved_fades setting k before birth).births)

    lives_after : is_thread after.live.pod.state k ≡ true
    lives_after = ap (λ (x : Live B). is_thread x.pod.state k) (sym live_is)
        ∙ there_before setting k later (session_from live) (subst (λ (x : Live B). k < x.pod.state.births) (sym live_is) born_after) serves.lives

    lives_before : is_thread before.live.pod.state k ≡ true
    lives_before = there_before setting k (birth ∷ []) before born lives_after

    alone_after : IsAlone setting server s k s_k after.live
    alone_after = move_alone setting server s k s_k before birth was_before (can_last setting moves birth (session_from first) can)
        (moves_alone setting server s k s_k moves (session_from first) was (can_first setting moves birth (session_from first) can)
        (record { body = store_opening; answer = zero_answer; row = begins_k.row; alone = begin_alone s k first.pod.state was begins_k.thread })
        low lives_before)
        low lives_after
        (inr (ap (λ (x : Live B). is_thread x.pod.state s) (sym live_is) ∙ alive_seen live.pod.state s block.Not (ap (λ (v : Sight). v.waits) begins.thread)))

    alone : IsAlone setting server s k s_k live
    alone = subst (IsAlone setting server s k s_k) (sym live_is) alone_after
