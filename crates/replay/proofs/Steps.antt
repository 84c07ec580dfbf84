-- A walk, one step on.
use Rattle.event_gate.specs.History.{IsClientHistory, lines_of}
use Rattle.event_gate.specs.Port.{of}
use Rattle.event_gate.specs.Shelves.{event_of}
use Rattle.lwp_types.specs.declared.call.Line.{Line}
use Rattle.pod_runner.proofs.Plays.{IsDefined-zero, play-zero}
use Rattle.pod_runner.specs.Session.{Session}
use Rattle.replay.proofs.Clock.{call-clock, take-clock}
use Rattle.replay.proofs.Exits.{last-moved}
use Rattle.replay.proofs.Extends.{client-own, history-take, without-other, without-own, without_first}
use Rattle.replay.proofs.Forcing.{call-one, forced-call, forced-take, pairs-append, stands-on, stands-opened, take-one, told_line}
use Rattle.replay.proofs.LineLaws.{count-append, first-append}
use Rattle.replay.proofs.Moves.{IsAt-moved, told-moved, told-opened}
use Rattle.replay.specs.Asked.{Asked, IsReached, Reach, end_by, halt_at, pairs_of}
use Rattle.replay.specs.Recorded.{Agree, first_lines, line_count}
use Rattle.replay.specs.Next.{without_next}
use Rattle.replay.specs.Verdict.{IsSame}
use Rattle.replay.specs.Walk.{AreLeft, ClientsLeft, Due, Forced, Going, IsFit, IsLast, IsNext, Moment, Move, Speaks, Stands}
use Rattle.replay.specs.Walk.{after_move, count_of, first_moment, move_lines, ticks_after, lines_until, took_at}
use Rattle.trace_text.specs.declared.ends.Halt.{Halt}
use Rattle.std.specs.Prelude.{slice_index_or, set}
use Rattle.std.proofs.Common.{List, None, Some, [], ap, append-nil, arith, drop, drop-drop, get_or, get_or-set_other, get_or-set_same, inl, length, length-set}
use Rattle.std.proofs.Common.{refl, slice_get, subst, sym, take, take-add, take-append-drop, ℕ, ⊎_elim, ◌++◌, ◌+◌, ◌<◌, ◌∙◌, ◌∷◌, ◌≡◌, ◌≢◌, ◌≤◌}
use Rattle.event_gate.proofs.Lines.{same_or}

pub behind-front : {A : Type 0} (xs ys : List A) (n : ℕ) → n ≡ 0 → slice_get (xs ++ ys) (length xs) ≡ slice_get ys n
behind-front [] ys n e = ap (slice_get ys) (sym e)
behind-front (x ∷ xs) ys n e = behind-front xs ys n e

module _ {B : Type 0} (asked : Asked B) (bytes : List ℕ) where
  abbrev at_moment : Moment → List Line → Reach
  at_moment p left = record { takes = p.takes; calls = p.calls; left = left }

  -- the first line left of a client is its next
  pub next-left : (p : Moment) (left : List Line) (c : ℕ) (x : Line) → IsReached asked (at_moment p left) → slice_get (of c left) 0 ≡ Some x
      → IsNext asked p (event_of asked.clients c, x)
  next-left p left c x is first =
      let own : x.client ≡ c = client-own c 0 left x first in
      record {
        event = ap (event_of asked.clients) own;
        line = ap (λ k. slice_get (of k asked.posts) (count_of k p.takes)) own
            ∙ ap (λ l. slice_get l (count_of c p.takes)) (sym (is.history.lines_are c))
            ∙ behind-front (of c (lines_of (pairs_of p.takes))) (of c left) 0 refl ∙ first;
      }

  -- and the next line of a client is the first that it has left
  pub left-next : (p : Moment) (left : List Line) (t : ℕ × Line) → IsReached asked (at_moment p left) → IsNext asked p t
      → slice_get (of t.1.client left) 0 ≡ Some t.1
  left-next p left t is next =
      sym (behind-front (of t.1.client (lines_of (pairs_of p.takes))) (of t.1.client left) 0 refl)
      ∙ ap (λ l. slice_get l (count_of t.1.client p.takes)) (is.history.lines_are t.1.client) ∙ next.line

  -- ---- before the first step

  pub going-opened : (fit : IsFit asked) (clients : ClientsLeft) → clients.clients ≡ asked.clients → AreLeft clients asked.posts
      → Going asked bytes first_moment clients 0 0 0
  going-opened fit clients same kept = record {
    left = asked.posts;
    reached = record {
      due = IsDefined-zero asked.setting;
      room = omega arith;
      history = record { events_are = λ k d low. absurd (omega (arith, low)); lines_are = λ c. refl; numbered = λ c. tt };
    };
    same_clients = same;
    kept = kept;
    stands = stands-opened asked bytes;
    said = sym (told-opened asked.setting asked.procs);
    last = inl (ap (λ (s : Session B). s.steps) (play-zero asked.setting));
    clock = ap (λ (s : Session B). s.live.pod.state.now) (play-zero asked.setting);
  }

  module _ (fit : IsFit asked) (speaks : Speaks asked) (p : Moment) (clients : ClientsLeft) (at n ticks : ℕ)
      (here : Going asked bytes p clients at n ticks) where
    abbrev rest : List ℕ
    rest = drop at bytes

    abbrev lines_of_move : Move → List ℕ
    lines_of_move m = move_lines asked.setting asked.procs p m

    -- the lines of a step were recorded
    recorded : (w : List ℕ) → take (length w) rest ≡ w → rest ≡ w ++ drop (at + length w) bytes
    recorded w is = sym (take-append-drop (length w) rest) ∙ ap (λ l. l ++ drop (length w) rest) is ∙ ap (λ l. w ++ l) (drop-drop (length w) at bytes)

    agrees : (w more : List ℕ) → rest ≡ w ++ more → 1 ≤ line_count w → Agree 1 rest (w ++ [])
    agrees w more is some = record {
      here = omega (arith, some, ap line_count is, count-append w more);
      there = omega (arith, some, ap line_count (append-nil w));
      same = ap (first_lines 1) is ∙ first-append 1 w more some ∙ sym (ap (first_lines 1) (append-nil w));
    }

    said-on : (m : Move) (w : List ℕ) → w ≡ lines_of_move m → take (length w) rest ≡ w
        → take (at + length w) bytes ≡ lines_until asked.setting asked.procs (after_move p m)
    said-on m w is front = take-add at (length w) bytes ∙ ap (λ l. l ++ take (length w) rest) here.said
        ∙ ap (λ l. lines_until asked.setting asked.procs p ++ l) (front ∙ is) ∙ sym (told-moved asked.setting asked.procs p m here.stands.made)

    stands-by : (m : Move) (w : List ℕ) → w ≡ lines_of_move m → take (length w) rest ≡ w → Due asked.setting p m → 1 ≤ line_count w
        → Forced asked bytes (n + 1) (after_move p m) → Stands asked bytes (n + line_count w) (after_move p m) (drop (at + length w) bytes)
    stands-by m w is front due some forced =
        subst (λ l. Stands asked bytes (n + line_count l) (after_move p m) (drop (at + length w) bytes)) (sym is)
        (stands-on asked bytes fit speaks n p rest here.stands m due forced (drop (at + length w) bytes)
        (recorded w front ∙ ap (λ l. l ++ drop (at + length w) bytes) is)
        (subst (λ l. 1 ≤ line_count l) is some))

    last-by : (m : Move) (w : List ℕ) → 1 ≤ line_count w → IsLast asked (after_move p m) (n + line_count w)
    last-by m w some = last-moved asked p m here.stands.made (n + line_count w) (omega (arith, here.stands.count, some))

    -- a call whose lines were recorded
    pub going-call : (w : List ℕ) → Due asked.setting p None → p.calls + 1 ≤ asked.turns → w ≡ lines_of_move None → take (length w) rest ≡ w
        → Going asked bytes (after_move p None) clients (at + length w) (n + line_count w) ticks
    going-call w due room is front =
        let some : 1 ≤ line_count w = subst (λ l. 1 ≤ line_count l) (sym is) (call-one asked bytes speaks p here.stands.made due) in
        let forced = forced-call asked bytes fit speaks n p rest here.stands due []
        (subst (λ l. Agree 1 rest (l ++ [])) is (agrees w (drop (at + length w) bytes) (recorded w front) some)) in
        record {
          left = here.left;
          reached = record { due = IsAt-moved asked.setting p None here.stands.made due; room = room; history = here.reached.history };
          same_clients = here.same_clients;
          kept = here.kept;
          stands = stands-by None w is front due some forced;
          said = said-on None w is front;
          last = last-by None w some;
          clock = call-clock asked.setting p here.stands.made ∙ here.clock;
        }

    pub reached-call : Due asked.setting p None → p.calls + 1 ≤ asked.turns → IsReached asked (at_moment (after_move p None) here.left)
    reached-call due room = record { due = IsAt-moved asked.setting p None here.stands.made due; room = room; history = here.reached.history }

    kept-by : (c : ℕ) → c < length clients.clients → AreLeft (without_next clients c) (without_first c here.left)
    kept-by c low = record {
      long = length-set clients.left c (drop 1 (slice_index_or clients.left c [])) ∙ here.kept.long;
      each = λ d there. ⊎_elim
          (λ (same : c ≡ d).
          ap (λ k. get_or (set clients.left c (drop 1 (slice_index_or clients.left c []))) k []) (sym same)
          ∙ get_or-set_same clients.left c (drop 1 (slice_index_or clients.left c [])) [] (omega (arith, low, here.kept.long))
          ∙ ap (drop 1) (here.kept.each c low) ∙ sym (without-own c here.left) ∙ ap (λ k. of k (without_first c here.left)) same)
          (λ (apart : c ≢ d).
          get_or-set_other clients.left c d (drop 1 (slice_index_or clients.left c [])) [] (λ e. apart (sym e)) ∙ here.kept.each d there
          ∙ sym (without-other c d here.left apart))
          (same_or c d);
    }

    first-of : (c : ℕ) (x : Line) → c < length clients.clients → slice_get (slice_index_or clients.left c []) 0 ≡ Some x → slice_get (of c here.left) 0 ≡ Some x
    first-of c x low first = ap (λ l. slice_get l 0) (sym (here.kept.each c low)) ∙ first

    pub next-of : (c : ℕ) (x : Line) → c < length clients.clients → slice_get (slice_index_or clients.left c []) 0 ≡ Some x
        → IsNext asked p (event_of clients.clients c, x)
    next-of c x low first = subst (λ es. IsNext asked p (event_of es c, x)) (sym here.same_clients)
        (next-left p here.left c x here.reached (first-of c x low first))

    pub reached-take : (c : ℕ) (x : Line) → c < length clients.clients → slice_get (slice_index_or clients.left c []) 0 ≡ Some x
        → Due asked.setting p (Some (event_of clients.clients c, x))
        → IsReached asked (at_moment (after_move p (Some (event_of clients.clients c, x))) (without_first c here.left))
    reached-take c x low first due =
        let e = event_of clients.clients c in
        record {
          due = IsAt-moved asked.setting p (Some (e, x)) here.stands.made due;
          room = here.reached.room;
          history = subst (λ l. IsClientHistory asked.clients asked.posts l (without_first c here.left)) (sym (pairs-append p.takes (took_at p (e, x) ∷ [])))
              (history-take asked.clients asked.posts (pairs_of p.takes) here.left c e x fit.numbered here.reached.history
              (ap (λ es. event_of es c) (sym here.same_clients)) (first-of c x low first));
        }

    pub forced-by : (c : ℕ) (x : Line) → c < length clients.clients → slice_get (slice_index_or clients.left c []) 0 ≡ Some x
        → Agree 1 rest (told_line asked bytes p (event_of clients.clients c, x))
        → Forced asked bytes (n + 1) (after_move p (Some (event_of clients.clients c, x)))
    forced-by c x low first agree =
        forced-take asked bytes fit speaks n p rest here.stands (event_of clients.clients c, x) (next-of c x low first) []
        (subst (λ l. Agree 1 rest l) (sym (append-nil (told_line asked bytes p (event_of clients.clients c, x)))) agree)

    -- a take whose lines were recorded
    pub going-take : (c : ℕ) (x : Line) (w : List ℕ) → c < length clients.clients → slice_get (slice_index_or clients.left c []) 0 ≡ Some x
        → Due asked.setting p (Some (event_of clients.clients c, x))
        → Agree 1 rest (told_line asked bytes p (event_of clients.clients c, x)) → w ≡ lines_of_move (Some (event_of clients.clients c, x))
        → take (length w) rest ≡ w
        → Going asked bytes (after_move p (Some (event_of clients.clients c, x))) (without_next clients c) (at + length w)
        (n + line_count w) (ticks_after (event_of clients.clients c) ticks)
    going-take c x w low first due agree is front =
        let e = event_of clients.clients c in
        let some : 1 ≤ line_count w = subst (λ l. 1 ≤ line_count l) (sym is) (take-one asked bytes p (e, x) here.stands.made due) in
        record {
          left = without_first c here.left;
          reached = reached-take c x low first due;
          same_clients = here.same_clients;
          kept = kept-by c low;
          stands = stands-by (Some (e, x)) w is front due some (forced-by c x low first agree);
          said = said-on (Some (e, x)) w is front;
          last = last-by (Some (e, x)) w some;
          clock = take-clock asked.setting p (e, x) here.stands.made due ∙ ap (ticks_after e) here.clock;
        }

    -- the end was recorded
    pub same-end : (h : Halt) → halt_at asked (at_moment p here.left) ≡ Some h → (w : List ℕ)
        → w ≡ end_by asked (at_moment p here.left) (Some h) → rest ≡ w → IsSame asked bytes (line_count bytes) p.takes p.calls
    same-end h over w is all = record {
      left = here.left;
      trace = record {
        reached = here.reached;
        halt = h;
        over = over;
        whole = here.stands.begins ∙ ap (λ l. lines_until asked.setting asked.procs p ++ l) (all ∙ is ∙ ap (end_by asked (at_moment p here.left)) (sym over));
      };
      count = refl;
    }
