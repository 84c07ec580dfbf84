-- Every state of a session is lawful.
use Rattle.std.proofs.Common.{ℕ, zero, suc, List, [], ◌∷◌, Bool, true, false, None, Some}
use Rattle.std.specs.Prelude.{Option, IsTrue, MatchBool, reverse, if◌then◌else◌, ◌==◌}
use Rattle.lwp_types.specs.Choice.{choice}
use Rattle.lwp_types.specs.Lawful.{Lawful}
use Rattle.lwp_types.specs.Names.{names_for_poll}
use Rattle.lwp_types.specs.Poll.{Polled}
use Rattle.lwp_types.specs.State.{opening}
use Rattle.pod_events.proofs.LawfulMoves.{step-lawful, take-lawful}
use Rattle.pod_events.specs.Laws.{MachinesKeepLaw}
use Rattle.pod_laws.proofs.EveryStep.{Lawful-deliver, Lawful-step}
use Rattle.pod_laws.proofs.Opening.{Lawful-opening}
use Rattle.pod_runner.specs.Due.{AllDue, IsDefined, TakeDue, is_call_due, is_take_due}
use Rattle.pod_runner.specs.Laws.{SessionsAreLawful}
use Rattle.pod_runner.specs.Play.{session_of_calls, play, session_of_takes, with_take}
use Rattle.pod_runner.specs.Session.{Live, Session, Setting, call_move, call_step, move, move_by, move_row, row_of, take_move, take_step}
use Rattle.pod_runner.specs.declared.session.Row.{Row}
use Rattle.pod_runner.specs.declared.session.Took.{Took}

module _ {B : Type 0} (keeps : MachinesKeepLaw) (setting : Setting B) where
  abbrev IsLawful : Session B → Type 0
  IsLawful s = Lawful s.live.pod.state None

  called-lawful : (live : Live B) (t : ℕ) (reply : Polled B) → Lawful live.pod.state None → Lawful (call_move setting.bodies live t reply).live.pod.state None
  unfolding call_move
  called-lawful live t reply h = step-lawful keeps live.pod reply.0 h

  row-lawful : (live : Live B) (t : ℕ) (o : Option (Row B)) → Lawful live.pod.state None
      → Lawful (move_row setting.next setting.bodies live t o).live.pod.state None
  row-lawful live t None h = h
  row-lawful live t (Some row) h = called-lawful live t (setting.next row.body (names_for_poll t live.names) row.answer) h

  by-lawful : (live : Live B) (o : Option ℕ) → Lawful live.pod.state None → Lawful (move_by setting.next setting.bodies live o).live.pod.state None
  by-lawful live None h = h
  by-lawful live (Some t) h = row-lawful live t (row_of t live.rows) h

  call-lawful : (s : Session B) → IsLawful s → IsLawful (call_step setting s)
  unfolding move
  call-lawful s h = by-lawful s.live (choice s.live.pod.state) h

  took-lawful : (took : Took) (s : Session B) → IsTrue (is_take_due took s) → IsLawful s → IsLawful (take_step setting took s)
  unfolding take_move
  took-lawful took s may h = take-lawful keeps s.live.pod took.event took.line.text may h

  calls-lawful : Lawful (opening setting.params) None → (n : ℕ) → IsLawful (session_of_calls setting n)
  calls-lawful start zero = start
  calls-lawful start (suc n) = call-lawful (session_of_calls setting n) (calls-lawful start n)

  with-lawful : (took : Took) (before : ℕ → Session B) (Before : ℕ → Type 0) → ((n : ℕ) → Before n → IsLawful (before n)) → (n : ℕ)
      → TakeDue setting took before Before n → IsLawful (with_take setting took before n)
  with-lawful took before Before was zero h = took-lawful took (before 0) h.2 (was 0 h.1)
  with-lawful took before Before was (suc n) h = by_turn (took.turn == suc n) (λ d. with-lawful took before Before was n d) h
    where
      by_turn : (b : Bool) → (TakeDue setting took before Before n → IsLawful (with_take setting took before n))
          → MatchBool b (Before (suc n) × IsTrue (is_take_due took (before (suc n))))
          (TakeDue setting took before Before n × IsTrue (is_call_due (with_take setting took before n)))
          → IsLawful (if b then take_step setting took (before (suc n)) else call_step setting (with_take setting took before n))
      by_turn true rest h = took-lawful took (before (suc n)) h.1 (was (suc n) h.0)
      by_turn false rest h = call-lawful (with_take setting took before n) (rest h.0)

  played-lawful : Lawful (opening setting.params) None → (takes : List Took) (n : ℕ) → AllDue setting takes n → IsLawful (session_of_takes setting takes n)
  played-lawful start [] n h = calls-lawful start n
  played-lawful start (took ∷ takes) n h = with-lawful took (session_of_takes setting takes) (AllDue setting takes) (λ m d. played-lawful start takes m d) n h

-- the machine's steps and deliveries keep its states lawful
pub machines_keep_law : MachinesKeepLaw
machines_keep_law = (Lawful-step, Lawful-deliver)

pub sessions_are_lawful : (B : Type 0) → SessionsAreLawful B
unfolding play IsDefined
sessions_are_lawful B setting low high takes n h = played-lawful machines_keep_law setting (Lawful-opening setting.params low high) (reverse takes) n h
