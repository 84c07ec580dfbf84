-- Whole sessions: the store begins, then the client's session, and what the client is told is a first part of the answers to its lines.
use Rattle.answer_laws.proofs.Meetings.{begin_alone, gone_lawful, gone_push, meet, move_alone, moves_alone}
use Rattle.answer_laws.proofs.Openings.{can_before, can_behind, gone_append, move_silent, move_untold, moves_silent, moves_untold}
use Rattle.answer_laws.proofs.OwnSteps.{alive_seen}
use Rattle.answer_laws.proofs.Phases.{Phase.Starting, TellsAt, born_below, phase_first}
use Rattle.answer_laws.proofs.Reports.{moves_short}
use Rattle.answer_laws.proofs.Servings.{K_of, S_of, gone_fades, gone_stood, moved_fades, moved_lawful, there_before}
use Rattle.answer_laws.specs.Clients.{IsAnsweredInTurn, texts_delivered, replies_accepted}
use Rattle.answer_laws.specs.Served.{Begins, CanGoOn, InWholeSessions, LineServer, Serves, TextsAreShort, after_move, after_moves, steps_of}
use Rattle.answer_laws.specs.Sights.{Sight}
use Rattle.answer_laws.specs.Stands.{block_of}
use Rattle.line_server.specs.Sessions.{session_opening}
use Rattle.line_server.specs.Stores.{store_opening}
use Rattle.lwp_types.specs.Lawful.{Lawful}
use Rattle.lwp_types.specs.Unblock.{zero_answer}
use Rattle.pod_laws.proofs.Opening.{Lawful-opening}
use Rattle.pod_runner.specs.Session.{Session, opening_session}
use Rattle.script_body.specs.Bodies.{body_next}
use Rattle.script_body.specs.declared.thread_body.ThreadBody.TheVariants.{Serving, Storing}
use Rattle.std.proofs.Common.{None, [], ap, arith, eqb, false, inr, refl, subst, sym, ◌++◌, ◌<◌, ◌∙◌, ◌∷◌, ◌≡◌, ◌≤◌}
use Rattle.std.proofs.lemmas.Bool.{ne_eqb}
use Rattle.lwp_types.specs.declared.rows.Block.TheVariants as block

-- ---- the whole

pub in_whole_sessions : (B : Type 0) → InWholeSessions B
in_whole_sessions B setting server least most s k event place first moves birth later can begins_k low begins serves lines a =
    subst (λ (x : Session B). Serves s k x → TextsAreShort x → AreAnswered x) (sym whole) answers serves
    (moves_short setting (first ++ (moves ++ birth ∷ later)) start was can (record { below = refl; short = λ a. refl }) serves.few lines).short
  where
    AreAnswered : Session B → Type 0
    AreAnswered end = IsAnsweredInTurn s a (steps_of end.steps)

    start : Session B
    start = opening_session setting

    was : Lawful start.live.pod.state None
    was = Lawful-opening setting.params least most

    one : Session B
    one = after_moves setting first start

    before : Session B
    before = after_moves setting moves one

    after : Session B
    after = after_move setting before birth

    before_is : after_moves setting (first ++ moves) start ≡ before
    before_is = gone_append setting first moves start

    after_is : after_moves setting (first ++ (moves ++ birth ∷ [])) start ≡ after
    after_is = gone_append setting first (moves ++ birth ∷ []) start ∙ gone_push setting moves birth one

    whole : after_moves setting (first ++ (moves ++ birth ∷ later)) start ≡ after_moves setting later after
    whole = gone_append setting first (moves ++ birth ∷ later) start ∙ gone_append setting moves (birth ∷ later) one

    can_first_part : CanGoOn setting first start
    can_first_part = can_before setting first (moves ++ birth ∷ later) start can

    can_rest : CanGoOn setting (moves ++ birth ∷ later) one
    can_rest = can_behind setting first (moves ++ birth ∷ later) start can

    can_moves : CanGoOn setting moves one
    can_moves = can_before setting moves (birth ∷ later) one can_rest

    can_end : CanGoOn setting (birth ∷ later) before
    can_end = can_behind setting moves (birth ∷ later) one can_rest

    was_one : Lawful one.live.pod.state None
    was_one = gone_lawful setting first start can_first_part was

    was_before : Lawful before.live.pod.state None
    was_before = gone_lawful setting moves one can_moves was_one

    was_after : Lawful after.live.pod.state None
    was_after = moved_lawful setting before birth can_end.0 was_before

    low_before : before.live.pod.state.births ≤ s
    low_before = subst (λ (x : Session B). x.live.pod.state.births ≤ s) before_is low

    begins_s : Begins s (server.serving (session_opening event place)) after.live
    begins_s = subst (λ (x : Session B). Begins s (server.serving (session_opening event place)) x.live) after_is begins

    born : k < before.live.pod.state.births
    born = omega (
      arith,
      born_below one.live.pod.state was_one k (alive_seen one.live.pod.state k block.Not (ap (λ (v : Sight). v.waits) begins_k.thread)),
      (gone_fades setting k moves one).births,
    )

    s_k : eqb s k ≡ false
    s_k = ne_eqb s k (λ e. omega (arith, e, low_before, born))

    answers : Serves s k (after_moves setting later after) → TextsAreShort (after_moves setting later after) → AreAnswered (after_moves setting later after)
    answers ends short =
        let lives_after = there_before setting k later after (omega (arith, born, (moved_fades setting k before birth).births)) ends.lives in
        let lives_before = there_before setting k (birth ∷ []) before born lives_after in
        let lives_s = alive_seen after.live.pod.state s block.Not (ap (λ (v : Sight). v.waits) begins_s.thread) in
        let alone = move_alone setting server s k s_k before birth was_before can_end.0
        (moves_alone setting server s k s_k moves one was_one can_moves
        (record { body = store_opening; answer = zero_answer; row = begins_k.row; alone = begin_alone s k one.live.pod.state was_one begins_k.thread })
        low_before lives_before)
        low_before lives_after (inr lives_s) in
        let untold = move_untold setting server s k s_k before birth was_before (moves_untold setting server s k s_k moves one was_one
        can_moves (moves_untold setting server s k s_k first start was can_first_part (λ a low away. refl))) in
        let silent = move_silent setting server s k s_k before birth was_before low_before
        (moves_silent setting server s k s_k moves one was_one can_moves low_before (moves_silent setting server s k s_k first start was
        can_first_part (omega (arith, low_before, (gone_fades setting s moves one).births)) (λ a. refl))) in
        let stood = Starting lives_s (session_opening event place) zero_answer alone.body alone.answer begins_s.row alone.row
        (λ a low away. subst
        (λ xs. TellsAt s k a after.live.pod.state (session_opening event place) zero_answer alone.body alone.answer xs
        (replies_accepted s a (steps_of after.steps)))
        (sym (untold a low away))
        (subst (λ xs. TellsAt s k a after.live.pod.state (session_opening event place) zero_answer alone.body alone.answer [] xs)
        (sym (silent a)) (meet s k event place a s_k after.live.pod.state was_after begins_s.thread alone.body alone.answer alone.alone low)))
        refl silent in
        let end = after_moves setting later after in
        phase_first s k end.live.pod.state (S_of setting server s k s_k end.live.rows) (K_of setting server s k s_k end.live.rows)
        (λ b. texts_delivered b (steps_of end.steps)) (λ b. replies_accepted s b (steps_of end.steps))
        (gone_stood setting server s k s_k later after was_after can_end.1 stood
        (alive_seen after.live.pod.state k (block_of None alone.alone.stand) (ap (λ (v : Sight). v.waits) alone.alone.seen)) ends.lives
        ends.sends short ends.few)
        a

-- the two of the line server among the threads of scripts
unfoldable pub line_server : LineServer body_next
line_server = record {
  serving = Serving;
  storing = Storing;
  serves = λ body names x. refl;
  stores = λ body names x. refl;
  one_session = λ b c e. cc e;
  one_store = λ b c e. cc e;
}
