-- The first step of a session that names a thread, and the session after it.
use Rattle.answer_laws.proofs.Creating.{call_bears, none_opened, none_settled, none_with, take_bears}
use Rattle.answer_laws.proofs.Knowing.{Tells, null_names_are_known, sends_next, tells_moved, tells_opening}
use Rattle.answer_laws.proofs.Meetings.{gone_lawful, gone_push}
use Rattle.answer_laws.proofs.Openings.{can_before, can_behind, gone_append, move_silent, move_untold, moves_silent, moves_untold, sessions_are_reached}
use Rattle.answer_laws.proofs.OwnSteps.{alive_seen}
use Rattle.answer_laws.proofs.Phases.{Phase.Starting, TellsAt, phase_first}
use Rattle.answer_laws.proofs.Reports.{moves_short}
use Rattle.answer_laws.proofs.Servings.{Grows, K_of, S_of, Stood, gone_fades, gone_grows, gone_stood, moved_lawful}
use Rattle.answer_laws.proofs.Servings.{sends_before, sends_last, sends_named, short_before}
use Rattle.answer_laws.proofs.TalkSteps.{apart_of}
use Rattle.answer_laws.proofs.Unsent.{IsQuiet, Lone, Quiet, Sent, Sent.IsNone, Sent.IsSend, Unpolled, alone_at}
use Rattle.answer_laws.proofs.Unsent.{is_quiet_by, lone_moves, own_effects, phase_met, quiet_behind, sent_of}
use Rattle.answer_laws.proofs.Wholes.{in_whole_sessions, line_server}
use Rattle.answer_laws.specs.Births.{FromNullNames, InEveryScript, InEverySession, IsAnsweredAlways, IsUnsentTill}
use Rattle.answer_laws.specs.Births.{begins_in, born_in, is_named, is_send_of, is_unsent_till}
use Rattle.answer_laws.specs.Clients.{IsAnsweredInTurn, all_sends_to, texts_delivered, names_only, replies_accepted, sends_nothing, sends_only}
use Rattle.answer_laws.specs.Known.{KnowsItsNames, script_setting}
use Rattle.answer_laws.specs.Lengths.{is_short}
use Rattle.answer_laws.specs.Served.{Begins, CanGoOn, IsReached, LineServer, Serves, TextsAreShort, after_move, after_moves, line_is_short, steps_of}
use Rattle.answer_laws.specs.Sights.{Sight}
use Rattle.line_server.specs.Sessions.{session_next, session_opening}
use Rattle.line_server.specs.Stores.{store_opening}
use Rattle.lwp_types.specs.Choice.{choice}
use Rattle.lwp_types.specs.Lawful.{Lawful}
use Rattle.lwp_types.specs.Names.{Names, null_id, null_names, names_for_poll}
use Rattle.lwp_types.specs.Poll.{Polled}
use Rattle.lwp_types.specs.declared.call.Call.{Call}
use Rattle.lwp_types.specs.declared.call.PodParams.{PodParams}
use Rattle.lwp_types.specs.Unblock.{zero_answer}
use Rattle.pod_laws.proofs.Elements.{false_of}
use Rattle.pod_laws.proofs.Opening.{Lawful-opening}
use Rattle.pod_runner.specs.Play.{play}
use Rattle.pod_runner.specs.Session.{Live, Made, Session, Setting, after_poll, call_move, move, move_by, move_row, opening_session, proc_of, row_of, take_move}
use Rattle.pod_runner.specs.declared.session.Row.{Row}
use Rattle.pod_runner.specs.declared.session.Took.{Took}
use Rattle.script_body.specs.Bodies.{body_next}
use Rattle.script_body.specs.declared.thread_body.ThreadBody.{ThreadBody}
use Rattle.std.proofs.Common.{Bool, List, None, Option, Some, [], ap, append-nil, append_assoc, arith, cond, eqb, false, inl}
use Rattle.std.proofs.Common.{inr, not, refl, subst, sym, true, ℕ, ◌&&◌, ◌++◌, ◌<◌, ◌∙◌, ◌∷◌, ◌≡◌, ◌≤◌, ◌≢◌, ◌||◌, ◌⊎◌}
use Rattle.std.proofs.lemmas.Bool.{and_parts, eqb-true, leb-false, leb-true, ne_eqb}
use Rattle.std.specs.List.{list_all, list_any}
use Rattle.std.specs.Prelude.{nat_le, slice_get}
use Rattle.lwp_types.specs.declared.rows.Block.TheVariants as block

module _ {B : Type 0} (setting : Setting B) where
  -- the step that a move makes
  abbrev made_by : Session B → Option Took → Made
  made_by session None = record { take = None; effects = (move setting.next setting.bodies session.live).effects }
  made_by session (Some took) = record { take = Some took; effects = (take_move setting.bodies took session.live).effects }

  steps_after : (session : Session B) (m : Option Took) → (after_move setting session m).steps ≡ session.steps ++ made_by session m ∷ []
  steps_after session None = refl
  steps_after session (Some took) = refl

  -- the steps of some moves
  abbrev made_in : List (Option Took) → Session B → List Made
  made_in [] session = []
  made_in (m ∷ ms) session = made_by session m ∷ made_in ms (after_move setting session m)

  steps_are : (moves : List (Option Took)) (session : Session B) → (after_moves setting moves session).steps ≡ session.steps ++ made_in moves session
  steps_are [] session = sym (append-nil session.steps)
  steps_are (m ∷ ms) session = steps_are ms (after_move setting session m)
      ∙ ap (λ xs. xs ++ made_in ms (after_move setting session m)) (steps_after session m)
      ∙ append_assoc session.steps (made_by session m ∷ []) (made_in ms (after_move setting session m))

  -- no step of these moves names it
  abbrev Unnamed : ℕ → List (Option Took) → Session B → Type 0
  Unnamed u [] session = Unit {0}
  Unnamed u (m ∷ ms) session = (is_named u (made_by session m).effects ≡ false) × Unnamed u ms (after_move setting session m)

  -- the first move that names it, and where it bears it
  record Named (u p : ℕ) (moves : List (Option Took)) (session : Session B) : Type 0 where
    before : List (Option Took)
    birth : Option Took
    later : List (Option Took)
    is : moves ≡ before ++ birth ∷ later
    unnamed : Unnamed u before session
    bears : born_in u (made_by (after_moves setting before session) birth).effects ≡ Some p

  named_by : (u p : ℕ) (moves : List (Option Took)) (session : Session B) → begins_in u (made_in moves session) ≡ Some p → Named u p moves session
  named_by u p [] session begins = absurd (cc)
  named_by u p (m ∷ ms) session begins =
      by_test (is_named u (made_by session m).effects) refl begins (λ later. named_by u p ms (after_move setting session m) later)
    where
      by_test : (b : Bool) → is_named u (made_by session m).effects ≡ b
          → cond b (born_in u (made_by session m).effects) (begins_in u (made_in ms (after_move setting session m))) ≡ Some p
          → (begins_in u (made_in ms (after_move setting session m)) ≡ Some p → Named u p ms (after_move setting session m)) → Named u p (m ∷ ms) session
      by_test true e bears rest = record { before = []; birth = m; later = ms; is = refl; unnamed = tt; bears = bears }
      by_test false e bears rest = let n = rest bears in record {
        before = m ∷ n.before;
        birth = n.birth;
        later = n.later;
        is = ap (λ xs. m ∷ xs) n.is;
        unnamed = (e, n.unnamed);
        bears = n.bears;
      }

  -- ---- rows of who isn't named

  called_none : (u t : ℕ) (live : Live B) (reply : Polled B) → row_of u live.rows ≡ None
      → is_named u (call_move setting.bodies live t reply).effects ≡ false → row_of u (call_move setting.bodies live t reply).live.rows ≡ None
  unfolding call_move
  called_none u t live reply none unnamed = none_settled u setting.bodies (proc_of reply.0) (call_move setting.bodies live t reply).effects
      (after_poll t reply.1 reply.0 live.rows)
      (none_with u t (λ row. record row { body = reply.1; called = true; call = reply.0 }) (λ r. refl) live.rows none) unnamed

  row_none : (u t : ℕ) (live : Live B) (o : Option (Row B)) → row_of u live.rows ≡ None
      → is_named u (move_row setting.next setting.bodies live t o).effects ≡ false → row_of u (move_row setting.next setting.bodies live t o).live.rows ≡ None
  row_none u t live None none unnamed = none
  row_none u t live (Some row) none unnamed = called_none u t live (setting.next row.body (names_for_poll t live.names) row.answer) none unnamed

  call_none : (u : ℕ) (live : Live B) → row_of u live.rows ≡ None → is_named u (move setting.next setting.bodies live).effects ≡ false
      → row_of u (move setting.next setting.bodies live).live.rows ≡ None
  unfolding move
  call_none u live none = by_choice (choice live.pod.state)
    where
      by_choice : (o : Option ℕ) → is_named u (move_by setting.next setting.bodies live o).effects ≡ false
          → row_of u (move_by setting.next setting.bodies live o).live.rows ≡ None
      by_choice None unnamed = none
      by_choice (Some t) unnamed = row_none u t live (row_of t live.rows) none unnamed

  moved_none : (u : ℕ) (session : Session B) (m : Option Took) → row_of u session.live.rows ≡ None
      → is_named u (made_by session m).effects ≡ false → row_of u (after_move setting session m).live.rows ≡ None
  unfolding take_move
  moved_none u session None none unnamed = call_none u session.live none unnamed
  moved_none u session (Some took) none unnamed =
      none_settled u setting.bodies None (take_move setting.bodies took session.live).effects session.live.rows none unnamed

  gone_none : (u : ℕ) (moves : List (Option Took)) (session : Session B) → row_of u session.live.rows ≡ None → Unnamed u moves session
      → row_of u (after_moves setting moves session).live.rows ≡ None
  gone_none u [] session none unnamed = none
  gone_none u (m ∷ ms) session none unnamed = gone_none u ms (after_move setting session m) (moved_none u session m none unnamed.0) unnamed.1

  -- ---- the move that bears it

  record Birth (u p : ℕ) (live after : Live B) : Type 0 where
    number : live.pod.state.births ≡ u
    begins : row_of u live.rows ≡ None → (body : B) → slice_get setting.bodies p ≡ Some body → Begins u body after

  called_bears : (u p t : ℕ) (live : Live B) → Lawful live.pod.state None → choice live.pod.state ≡ Some t → (reply : Polled B)
      → born_in u (call_move setting.bodies live t reply).effects ≡ Some p → Birth u p live (call_move setting.bodies live t reply).live
  unfolding call_move
  called_bears u p t live was turn reply bears =
      let b = call_bears setting.bodies u p live.pod was t turn reply.0 bears in
      record {
        number = b.number;
        begins =
            λ none body is.
            record {
              row = b.rows (after_poll t reply.1 reply.0 live.rows)
                  (none_with u t (λ row. record row { body = reply.1; called = true; call = reply.0 }) (λ r. refl) live.rows none) body is;
              thread = b.seen;
            };
      }

  call_bears_it : (u p : ℕ) (live : Live B) → Lawful live.pod.state None
      → born_in u (move setting.next setting.bodies live).effects ≡ Some p → Birth u p live (move setting.next setting.bodies live).live
  unfolding move
  call_bears_it u p live was = by_choice (choice live.pod.state) refl
    where
      by_row : (t : ℕ) → choice live.pod.state ≡ Some t → (o : Option (Row B))
          → born_in u (move_row setting.next setting.bodies live t o).effects ≡ Some p → Birth u p live (move_row setting.next setting.bodies live t o).live
      by_row t turn None bears = absurd (cc)
      by_row t turn (Some row) bears = called_bears u p t live was turn (setting.next row.body (names_for_poll t live.names) row.answer) bears

      by_choice : (o : Option ℕ) → choice live.pod.state ≡ o → born_in u (move_by setting.next setting.bodies live o).effects ≡ Some p
          → Birth u p live (move_by setting.next setting.bodies live o).live
      by_choice None e bears = absurd (cc)
      by_choice (Some t) e bears = by_row t e (row_of t live.rows) bears

  move_bears : (u p : ℕ) (session : Session B) (m : Option Took) → Lawful session.live.pod.state None
      → born_in u (made_by session m).effects ≡ Some p → Birth u p session.live (after_move setting session m).live
  unfolding take_move
  move_bears u p session None was bears = call_bears_it u p session.live was bears
  move_bears u p session (Some took) was bears = absurd (let bad : Some p ≡ None = sym bears ∙ take_bears u session.live.pod took.event took.line.text in cc)

  -- from the opening on
  opening_none : (u : ℕ) → u ≢ 0 → row_of u (opening_session setting).live.rows ≡ None
  opening_none u other = none_opened u 0 0 (slice_get setting.bodies 0) (ne_eqb 0 u (λ e. other (sym e)))

-- ---- s sends nothing

module _ {B : Type 0} (setting : Setting B) (server : LineServer setting.next) (s k : ℕ) where
  quiet_one : (m : Option Took) (session : Session B) → list_any (is_send_of s) (made_by setting session m).effects ≡ false → m ≡ None
      → IsQuiet setting server s session.live
  quiet_one None session none is = is_quiet_by setting server s session.live none
  quiet_one (Some took) session none is = absurd (cc)

  quiet_till : (before : List (Option Took)) (birth : Option Took) (later : List (Option Took)) (session : Session B)
      → Unnamed setting k before session → is_unsent_till k s (made_in setting (before ++ birth ∷ later) session) ≡ true
      → Quiet setting server s (before ++ birth ∷ []) session
  quiet_till [] birth later session unnamed unsent =
      (quiet_one birth session (false_of (list_any (is_send_of s) (made_by setting session birth).effects) (and_parts (not (list_any (is_send_of s) (made_by setting session birth).effects)) _ unsent).0), tt)
  quiet_till (m ∷ ms) birth later session unnamed unsent =
      let parts = and_parts (not (list_any (is_send_of s) (made_by setting session m).effects))
      (is_named k (made_by setting session m).effects || is_unsent_till k s (made_in setting (ms ++ birth ∷ later) (after_move setting session m)))
      unsent in (
        quiet_one m session (false_of (list_any (is_send_of s) (made_by setting session m).effects) parts.0),
        quiet_till ms birth later (after_move setting session m) unnamed.1
            (ap (λ b. b || is_unsent_till k s (made_in setting (ms ++ birth ∷ later) (after_move setting session m))) (sym unnamed.0) ∙ parts.1),
      )

-- two splits of one list
record Inside {X : Type 0} (before : List X) (x : X) (one : List X) : Type 0 where
  between : List X
  is : one ≡ before ++ x ∷ between

record Short {X : Type 0} (before one : List X) : Type 0 where
  between : List X
  is : before ≡ one ++ between

split_two : {X : Type 0} (b1 : List X) (x1 : X) (l1 b2 : List X) (x2 : X) (l2 : List X) → b1 ++ x1 ∷ l1 ≡ b2 ++ x2 ∷ l2 → Inside b1 x1 b2 ⊎ Short b1 b2
split_two [] x1 l1 [] x2 l2 e = inr (record { between = []; is = refl })
split_two [] x1 l1 (y ∷ ys) x2 l2 e = inl (record { between = ys; is = (let head : y ≡ x1 = cc e in ap (λ z. z ∷ ys) head) })
split_two (y ∷ ys) x1 l1 [] x2 l2 e = inr (record { between = y ∷ ys; is = refl })
split_two (y ∷ ys) x1 l1 (z ∷ zs) x2 l2 e = by_rest (split_two ys x1 l1 zs x2 l2 (tail e))
  where
    head : y ∷ (ys ++ x1 ∷ l1) ≡ z ∷ (zs ++ x2 ∷ l2) → y ≡ z
    head e = cc e

    tail : y ∷ (ys ++ x1 ∷ l1) ≡ z ∷ (zs ++ x2 ∷ l2) → ys ++ x1 ∷ l1 ≡ zs ++ x2 ∷ l2
    tail e = cc e

    by_rest : Inside ys x1 zs ⊎ Short ys zs → Inside (y ∷ ys) x1 (z ∷ zs) ⊎ Short (y ∷ ys) (z ∷ zs)
    by_rest (inl i) = inl (record { between = i.between; is = (λ j. sym (head e) j ∷ i.is j) })
    by_rest (inr s) = inr (record { between = s.between; is = (λ j. head e j ∷ s.is j) })

-- ---- every session

module _ {B : Type 0} (setting : Setting B) (server : LineServer setting.next) (least : 1 ≤ setting.params.maxpri) (most : setting.params.maxpri ≤ 255) where
  lines_of : (moves : List (Option Took)) (session : Session B)
      → list_all (λ (m : Made). line_is_short m.take) (made_in setting moves session) ≡ list_all line_is_short moves
  lines_of [] session = refl
  lines_of (None ∷ ms) session = lines_of ms (after_move setting session None)
  lines_of (Some took ∷ ms) session = ap (λ b. line_is_short (Some took) && b) (lines_of ms (after_move setting session (Some took)))

  module _ (moves : List (Option Took)) (can : CanGoOn setting moves (opening_session setting)) where
    -- a thread that begins in a procedure begins with its body after the move that bears it
    born_at : (u p : ℕ) (n : Named setting u p moves (opening_session setting))
        → Birth setting u p (after_moves setting n.before (opening_session setting)).live
        (after_move setting (after_moves setting n.before (opening_session setting)) n.birth).live
    born_at u p n = move_bears setting u p (after_moves setting n.before (opening_session setting)) n.birth
        (gone_lawful setting n.before (opening_session setting)
        (can_before setting n.before (n.birth ∷ n.later) (opening_session setting) (subst (λ ms. CanGoOn setting ms (opening_session setting)) n.is can))
        (Lawful-opening setting.params least most))
        n.bears

    begins_at : (u p : ℕ) (n : Named setting u p moves (opening_session setting)) (body : B) → slice_get setting.bodies p ≡ Some body
        → Begins u body (after_move setting (after_moves setting n.before (opening_session setting)) n.birth).live
    begins_at u p n body is =
        let b = born_at u p n in
        let apart : u ≢ 0 = λ e. omega (arith, e, b.number, (gone_fades setting 0 n.before (opening_session setting)).births) in
        b.begins (gone_none setting u n.before (opening_session setting) (opening_none setting u apart) n.unnamed) body is

    module _ (s k in_s in_k event place : ℕ) (ns : Named setting s in_s moves (opening_session setting))
        (nk : Named setting k in_k moves (opening_session setting))
        (body_s : slice_get setting.bodies in_s ≡ Some (server.serving (session_opening event place)))
        (body_k : slice_get setting.bodies in_k ≡ Some (server.storing store_opening))
        (serves : Serves s k (after_moves setting moves (opening_session setting))) (lines : list_all line_is_short moves ≡ true) (a : ℕ) where
      abbrev Answered : Type 0
      Answered = IsAnsweredInTurn s a (steps_of (after_moves setting moves (opening_session setting)).steps)

      later_answers : Inside nk.before nk.birth ns.before → IsAnsweredInTurn s a (steps_of (after_moves setting moves (opening_session setting)).steps)
      later_answers i = subst (λ ms. IsAnsweredInTurn s a (steps_of (after_moves setting ms (opening_session setting)).steps)) (sym moves_are)
          (in_whole_sessions B setting server least most s k event place (nk.before ++ nk.birth ∷ []) i.between ns.birth ns.later
          (subst (λ ms. CanGoOn setting ms (opening_session setting)) moves_are can)
          (subst (λ (x : Session B). Begins k (server.storing store_opening) x.live)
          (sym (gone_push setting nk.before nk.birth (opening_session setting))) (begins_at k in_k nk (server.storing store_opening) body_k))
          (omega (arith, ap (λ ms. (after_moves setting ms (opening_session setting)).live.pod.state.births) before_are, (born_at s in_s ns).number))
          (subst (λ (x : Session B). Begins s (server.serving (session_opening event place)) x.live)
          (sym (ap (λ ms. after_moves setting ms (opening_session setting)) birth_are ∙ gone_push setting ns.before ns.birth (opening_session setting)))
          (begins_at s in_s ns (server.serving (session_opening event place)) body_s))
          (subst (λ ms. Serves s k (after_moves setting ms (opening_session setting))) moves_are serves)
          (subst (λ ms. list_all line_is_short ms ≡ true) moves_are lines) a)
        where
          before_are : (nk.before ++ nk.birth ∷ []) ++ i.between ≡ ns.before
          before_are = append_assoc nk.before (nk.birth ∷ []) i.between ∙ sym i.is

          birth_are : (nk.before ++ nk.birth ∷ []) ++ (i.between ++ ns.birth ∷ []) ≡ ns.before ++ ns.birth ∷ []
          birth_are = sym (append_assoc (nk.before ++ nk.birth ∷ []) i.between (ns.birth ∷ [])) ∙ ap (λ xs. xs ++ ns.birth ∷ []) before_are

          moves_are : moves ≡ (nk.before ++ nk.birth ∷ []) ++ (i.between ++ ns.birth ∷ ns.later)
          moves_are = ns.is ∙ ap (λ xs. xs ++ ns.birth ∷ ns.later) (sym before_are) ∙ append_assoc (nk.before ++ nk.birth ∷ []) i.between (ns.birth ∷ ns.later)

      -- who was born later has more before it
      born_in_order : {u v p q : ℕ} (nu : Named setting u p moves (opening_session setting)) (nv : Named setting v q moves (opening_session setting))
          → u < v → Short nu.before nv.before → ⊥
      born_in_order nu nv below sh = omega (
        arith,
        below,
        (born_at _ _ nu).number,
        (born_at _ _ nv).number,
        ap (λ ms. (after_moves setting ms (opening_session setting)).live.pod.state.births) sh.is,
        ap (λ (x : Session B). x.live.pod.state.births) (gone_append setting nv.before sh.between (opening_session setting)),
        (gone_fades setting 0 sh.between (after_moves setting nv.before (opening_session setting))).births,
      )

      -- the store was born first
      store_first : k < s → Answered
      store_first below = by_split (split_two nk.before nk.birth nk.later ns.before ns.birth ns.later (sym nk.is ∙ ns.is))
        where
          by_split : Inside nk.before nk.birth ns.before ⊎ Short nk.before ns.before → Answered
          by_split (inl i) = later_answers i
          by_split (inr sh) = absurd (born_in_order nk ns below sh)

      -- the session was, and sent nothing till then
      module _ (below : s < k) (quiet : Quiet setting server s (nk.before ++ nk.birth ∷ []) (opening_session setting))
          (i : Inside ns.before ns.birth nk.before) where
        s_k : eqb s k ≡ false
        s_k = ne_eqb s k (λ e. omega (arith, e, below))

        abbrev start : Session B
        start = opening_session setting

        was : Lawful start.live.pod.state None
        was = Lawful-opening setting.params least most

        abbrev first : Session B
        first = after_moves setting ns.before start

        abbrev one : Session B
        one = after_move setting first ns.birth

        abbrev before : Session B
        before = after_moves setting nk.before start

        abbrev two : Session B
        two = after_move setting before nk.birth

        before_is : before ≡ after_moves setting i.between one
        before_is = ap (λ ms. after_moves setting ms start) i.is ∙ gone_append setting ns.before (ns.birth ∷ i.between) start

        whole : after_moves setting moves start ≡ after_moves setting nk.later two
        whole = ap (λ ms. after_moves setting ms start) nk.is ∙ gone_append setting nk.before (nk.birth ∷ nk.later) start

        can_all : CanGoOn setting (nk.before ++ nk.birth ∷ nk.later) start
        can_all = subst (λ ms. CanGoOn setting ms start) nk.is can

        can_k : CanGoOn setting nk.before start
        can_k = can_before setting nk.before (nk.birth ∷ nk.later) start can_all

        can_end : CanGoOn setting (nk.birth ∷ nk.later) before
        can_end = can_behind setting nk.before (nk.birth ∷ nk.later) start can_all

        was_before : Lawful before.live.pod.state None
        was_before = gone_lawful setting nk.before start can_k was

        was_two : Lawful two.live.pod.state None
        was_two = moved_lawful setting before nk.birth can_end.0 was_before

        -- the moves up to the birth of the store, by that of the session
        apart_so : nk.before ++ nk.birth ∷ [] ≡ ns.before ++ (ns.birth ∷ (i.between ++ nk.birth ∷ []))
        apart_so = ap (λ xs. xs ++ nk.birth ∷ []) i.is ∙ append_assoc ns.before (ns.birth ∷ i.between) (nk.birth ∷ [])

        can_two : CanGoOn setting (ns.before ++ (ns.birth ∷ (i.between ++ nk.birth ∷ []))) start
        can_two = subst (λ ms. CanGoOn setting ms start) apart_so (can_before setting (nk.before ++ nk.birth ∷ []) nk.later start
            (subst (λ ms. CanGoOn setting ms start) (sym (append_assoc nk.before (nk.birth ∷ []) nk.later)) can_all))

        can_s : CanGoOn setting (ns.birth ∷ (i.between ++ nk.birth ∷ [])) first
        can_s = can_behind setting ns.before (ns.birth ∷ (i.between ++ nk.birth ∷ [])) start can_two

        can_ns : CanGoOn setting ns.before start
        can_ns = can_before setting ns.before (ns.birth ∷ (i.between ++ nk.birth ∷ [])) start can_two

        was_first : Lawful first.live.pod.state None
        was_first = gone_lawful setting ns.before start can_ns was

        quiet_two : Quiet setting server s (i.between ++ nk.birth ∷ []) one
        quiet_two = (quiet_behind setting server s ns.before (ns.birth ∷ (i.between ++ nk.birth ∷ [])) start
            (subst (λ ms. Quiet setting server s ms start) apart_so quiet)).1

        low : first.live.pod.state.births ≤ s
        low = omega (arith, (born_at s in_s ns).number)

        was_one : Lawful one.live.pod.state None
        was_one = moved_lawful setting first ns.birth can_s.0 was_first

        begins_s : Begins s (server.serving (session_opening event place)) one.live
        begins_s = begins_at s in_s ns (server.serving (session_opening event place)) body_s

        untold : (b : ℕ) → one.live.pod.state.births ≤ b → eqb null_id b ≡ false → texts_delivered b (steps_of one.steps) ≡ []
        untold = move_untold setting server s k s_k first ns.birth was_first
            (moves_untold setting server s k s_k ns.before start was can_ns (λ b low away. refl))

        silent : (b : ℕ) → replies_accepted s b (steps_of one.steps) ≡ []
        silent = move_silent setting server s k s_k first ns.birth was_first low
            (moves_silent setting server s k s_k ns.before start was can_ns low (λ a. refl))

        lone_one : Lone setting server s k s_k one
        lone_one = Starting (alive_seen one.live.pod.state s block.Not (ap (λ (v : Sight). v.waits) begins_s.thread))
            (session_opening event place) zero_answer store_opening zero_answer begins_s.row refl
            (λ a low away. subst
            (λ xs. TellsAt s s a one.live.pod.state (session_opening event place) zero_answer store_opening zero_answer xs
            (replies_accepted s a (steps_of one.steps)))
            (sym (untold a low away))
            (subst (λ xs. TellsAt s s a one.live.pod.state (session_opening event place) zero_answer store_opening zero_answer [] xs)
            (sym (silent a)) (alone_at s event place a one.live.pod.state was_one begins_s.thread low)))
            refl silent

        two_is : after_moves setting (i.between ++ nk.birth ∷ []) one ≡ two
        two_is = gone_push setting i.between nk.birth one ∙ ap (λ x. after_move setting x nk.birth) (sym before_is)

        abbrev end : Session B
        end = after_moves setting nk.later two

        ends : Serves s k end
        ends = subst (λ (x : Session B). Serves s k x) whole serves

        short : TextsAreShort end
        short = subst (λ (x : Session B). TextsAreShort x) whole
            (moves_short setting moves start was can (record { below = refl; short = λ a. refl }) serves.few lines).short

        lone_two : Lone setting server s k s_k two
        lone_two = subst (Lone setting server s k s_k) two_is
            (lone_moves setting server s k s_k (i.between ++ nk.birth ∷ []) one was_one can_s.1 quiet_two lone_one
            (λ a. subst (λ (x : Session B). list_all is_short (texts_delivered a (steps_of x.steps)) ≡ true) (sym two_is)
            (short_before setting server s k s_k a two.steps end.steps (gone_grows setting nk.later two) (short a)))
            (subst (λ (x : Session B). x.live.pod.state.births < null_id) (sym two_is) (omega (arith, ends.few, (gone_fades setting k nk.later two).births))))

        begins_k : Begins k (server.storing store_opening) two.live
        begins_k = begins_at k in_k nk (server.storing store_opening) body_k

        stood : Stood setting server s k s_k two
        stood = phase_met s k two.live.pod.state was_two begins_k.thread (S_of setting server s k s_k two.live.rows)
            (Unpolled setting server s k s_k) (K_of setting server s k s_k two.live.rows) (λ b z is. is) begins_k.row
            (λ b. texts_delivered b (steps_of two.steps)) (λ b. replies_accepted s b (steps_of two.steps)) lone_two

        early_answers : Answered
        early_answers =
            subst (λ (x : Session B). IsAnsweredInTurn s a (steps_of x.steps)) (sym whole)
            (phase_first s k end.live.pod.state (S_of setting server s k s_k end.live.rows) (K_of setting server s k s_k end.live.rows)
            (λ b. texts_delivered b (steps_of end.steps)) (λ b. replies_accepted s b (steps_of end.steps))
            (gone_stood setting server s k s_k nk.later two was_two can_end.1 stood
            (alive_seen two.live.pod.state k block.Not (ap (λ (v : Sight). v.waits) begins_k.thread)) ends.lives ends.sends short ends.few)
            a)

      session_first : s < k → Quiet setting server s (nk.before ++ nk.birth ∷ []) (opening_session setting) → Answered
      session_first below quiet = by_split (split_two ns.before ns.birth ns.later nk.before nk.birth nk.later (sym ns.is ∙ nk.is))
        where
          by_split : Inside ns.before ns.birth nk.before ⊎ Short ns.before nk.before → Answered
          by_split (inl i) = early_answers below quiet i
          by_split (inr sh) = absurd (born_in_order ns nk below sh)

      both_answers : eqb s k ≡ false → (s < k → Quiet setting server s (nk.before ++ nk.birth ∷ []) (opening_session setting)) → Answered
      both_answers apart quiet = by_order (nat_le s k) (nat_le k s) refl refl
        where
          by_order : (b d : Bool) → nat_le s k ≡ b → nat_le k s ≡ d → Answered
          by_order false d e f = store_first (leb-false s k e)
          by_order true false e f = let less : s < k = leb-false k s f in session_first less (quiet less)
          by_order true true e f = absurd (apart_of s k apart (omega (arith, leb-true s k e, leb-true k s f)))

module _ {B : Type 0} (setting : Setting B) (server : LineServer setting.next) (IsEarly : ℕ → ℕ → Session B → Type 0) where
  -- an early session sends nothing till the birth of its store
  abbrev EarlyIsQuiet : Type 0
  EarlyIsQuiet = (moves : List (Option Took)) → CanGoOn setting moves (opening_session setting) → (s k in_k : ℕ) → eqb s k ≡ false
      → (nk : Named setting k in_k moves (opening_session setting)) → (after_moves setting nk.before (opening_session setting)).live.pod.state.births ≡ k
      → Serves s k (after_moves setting moves (opening_session setting)) → IsEarly s k (after_moves setting moves (opening_session setting))
      → Quiet setting server s (nk.before ++ nk.birth ∷ []) (opening_session setting)

  in_every_by : (1 ≤ setting.params.maxpri → setting.params.maxpri ≤ 255 → EarlyIsQuiet) → IsAnsweredAlways setting server.serving server.storing IsEarly
  in_every_by quiets least most takes n defined s k in_s in_k event place apart early begins_s body_s begins_k body_k serves lines a =
      subst Goal (sym r.is) core early begins_s begins_k serves lines
    where
      r : IsReached setting (play setting takes n)
      r = sessions_are_reached B setting takes n defined

      Goal : Session B → Type 0
      Goal x = (s < k → IsEarly s k x) → begins_in s x.steps ≡ Some in_s → begins_in k x.steps ≡ Some in_k → Serves s k x
          → list_all (λ (m : Made). line_is_short m.take) x.steps ≡ true → IsAnsweredInTurn s a (steps_of x.steps)

      core : Goal (after_moves setting r.moves (opening_session setting))
      core early begins_s begins_k serves lines =
          let steps = steps_are setting r.moves (opening_session setting) in
          let nk = named_by setting k in_k r.moves (opening_session setting) (ap (begins_in k) (sym steps) ∙ begins_k) in
          both_answers setting server least most r.moves r.can s k in_s in_k event place
          (named_by setting s in_s r.moves (opening_session setting) (ap (begins_in s) (sym steps) ∙ begins_s)) nk
          body_s body_k serves
          (sym (lines_of setting server least most r.moves (opening_session setting))
          ∙ ap (list_all (λ (m : Made). line_is_short m.take)) (sym steps) ∙ lines)
          a apart
          (λ less. quiets least most r.moves r.can s k in_k apart nk (born_at setting server least most r.moves r.can k in_k nk).number serves (early less))

-- who is told to send nothing till then
unsent_is_quiet : {B : Type 0} (setting : Setting B) (server : LineServer setting.next) → EarlyIsQuiet setting server IsUnsentTill
unsent_is_quiet setting server moves can s k in_k apart nk born serves unsent =
    quiet_till setting server s k nk.before nk.birth nk.later (opening_session setting) nk.unnamed
    (ap (λ ms. is_unsent_till k s (made_in setting ms (opening_session setting))) (sym nk.is)
    ∙ ap (is_unsent_till k s) (sym (steps_are setting moves (opening_session setting))) ∙ unsent)

pub in_every_session : (B : Type 0) → InEverySession B
in_every_session B setting server = in_every_by setting server IsUnsentTill (λ least most. unsent_is_quiet setting server)

-- ---- scripts

-- a session that sends to its store alone, by names that it knows, sends nothing before that is born
module _ (setting : Setting ThreadBody) (scripts : setting.next ≡ body_next) (server : LineServer setting.next) (s k : ℕ)
    (s_k : eqb s k ≡ false) (few : k < null_id) where
  quiet_at : (session : Session ThreadBody) → Tells session.live → session.live.pod.state.births ≤ k
      → all_sends_to s k (steps_of (after_move setting session None).steps) ≡ true → IsQuiet setting server s session.live
  quiet_at session h low sends turn free b z row = by_sent (sent_of c)
    where
      c : Call
      c = (session_next b (names_for_poll s session.live.names) z).0

      only : names_only k c ≡ true
      only = sends_named s k session.live.pod turn c free (ap (list_all (sends_only s k)) (sym (own_effects setting server s session.live turn b z row))
          ∙ sends_last s k session.steps (record { take = None; effects = (move setting.next setting.bodies session.live).effects }) sends)

      unknown : (to : ℕ) → to ≡ k → (to ≡ null_id) ⊎ (to < session.live.pod.state.births) → ⊥
      unknown to is (inl null) = omega (arith, is, null, few)
      unknown to is (inr below) = omega (arith, is, below, low)

      by_sent : Sent c → sends_nothing c ≡ true
      by_sent (IsNone none) = none
      by_sent (IsSend to room text is) = absurd (unknown to (eqb-true to k (subst (λ c. names_only k c ≡ true) is only))
          (sends_next session.live.pod.state.births b (names_for_poll s session.live.names) h.names z to room text is))

  quiet_known : (moves : List (Option Took)) (birth : Option Took) (session : Session ThreadBody) → Lawful session.live.pod.state None
      → CanGoOn setting (moves ++ birth ∷ []) session → Tells session.live → (after_moves setting moves session).live.pod.state.births ≤ k
      → all_sends_to s k (steps_of (after_moves setting (moves ++ birth ∷ []) session).steps) ≡ true → Quiet setting server s (moves ++ birth ∷ []) session
  quiet_known [] birth session was can h low sends =
      (λ is. quiet_at session h low (subst (λ m. all_sends_to s k (steps_of (after_move setting session m).steps) ≡ true) is sends), tt)
  quiet_known (m ∷ ms) birth session was can h low sends =
      let next = after_move setting session m in
      let sends_next = sends_before setting server s k s_k next.steps (after_moves setting (ms ++ birth ∷ []) next).steps
      (gone_grows setting (ms ++ birth ∷ []) next) sends in (
        λ is. quiet_at session h (omega (arith, low, (gone_fades setting k (m ∷ ms) session).births))
            (subst (λ m. all_sends_to s k (steps_of (after_move setting session m).steps) ≡ true) is sends_next),
        quiet_known ms birth next (moved_lawful setting session m can.0 was) can.1 (tells_moved setting scripts session m was h) low sends,
      )

module _ (bodies : List ThreadBody) (params : PodParams) (names : Names) (server : LineServer body_next) (least : 1 ≤ params.maxpri)
    (most : params.maxpri ≤ 255) where
  abbrev script : Setting ThreadBody
  script = script_setting bodies params names

  abbrev opened : Session ThreadBody
  opened = opening_session script

  known_is_quiet : EarlyIsQuiet script server (λ s k end. KnowsItsNames (opening_session (script_setting bodies params names)))
  known_is_quiet moves can s k in_k apart nk born serves known =
      quiet_known script refl server s k apart (omega (
        arith,
        born,
        serves.few,
        (gone_fades script k (nk.birth ∷ nk.later) (after_moves script nk.before opened)).births,
        ap (λ (x : Session ThreadBody). x.live.pod.state.births) whole,
      ))
      nk.before nk.birth opened (Lawful-opening params least most) can_two (tells_opening bodies params names known) (omega (arith, born))
      (sends_before script server s k apart (after_moves script (nk.before ++ nk.birth ∷ []) opened).steps
      (after_moves script moves opened).steps grows serves.sends)
    where
      whole : after_moves script moves opened ≡ after_moves script (nk.birth ∷ nk.later) (after_moves script nk.before opened)
      whole = ap (λ ms. after_moves script ms opened) nk.is ∙ gone_append script nk.before (nk.birth ∷ nk.later) opened

      moves_are : moves ≡ (nk.before ++ nk.birth ∷ []) ++ nk.later
      moves_are = nk.is ∙ sym (append_assoc nk.before (nk.birth ∷ []) nk.later)

      can_two : CanGoOn script (nk.before ++ nk.birth ∷ []) opened
      can_two = can_before script (nk.before ++ nk.birth ∷ []) nk.later opened (subst (λ ms. CanGoOn script ms opened) moves_are can)

      grows : Grows script (after_moves script (nk.before ++ nk.birth ∷ []) opened).steps (after_moves script moves opened).steps
      grows = subst (λ (x : Session ThreadBody). Grows script (after_moves script (nk.before ++ nk.birth ∷ []) opened).steps x.steps)
          (sym (ap (λ ms. after_moves script ms opened) moves_are ∙ gone_append script (nk.before ++ nk.birth ∷ []) nk.later opened))
          (gone_grows script nk.later (after_moves script (nk.before ++ nk.birth ∷ []) opened))

  by_premise : EarlyIsQuiet script server (λ s k end. KnowsItsNames (opening_session (script_setting bodies params names)) ⊎ IsUnsentTill s k end)
  by_premise moves can s k in_k apart nk born serves (inl known) = known_is_quiet moves can s k in_k apart nk born serves known
  by_premise moves can s k in_k apart nk born serves (inr unsent) = unsent_is_quiet script server moves can s k in_k apart nk born serves unsent

pub in_every_script : InEveryScript
unfolding line_server
in_every_script bodies params names = in_every_by (script_setting bodies params names) line_server
    (λ s k end. KnowsItsNames (opening_session (script_setting bodies params names)) ⊎ IsUnsentTill s k end)
    (λ least most. by_premise bodies params names line_server least most)

pub from_null_names : FromNullNames
from_null_names bodies params threads monitors conditions least most takes n defined s k in_s in_k event place apart early =
    in_every_script bodies params (null_names threads monitors conditions) least most takes n defined s k in_s in_k event place apart
    (λ less. inl (null_names_are_known bodies params threads monitors conditions))
