-- The dead are forgotten.
use Rattle.lwp_types.specs.Agents.{deliver}
use Rattle.lwp_types.specs.Case.{refusal_case}
use Rattle.lwp_types.specs.Lawful.{Lawful}
use Rattle.lwp_types.specs.State.{Outcome, State, is_id}
use Rattle.lwp_types.specs.Exits.{exit_case}
use Rattle.lwp_types.specs.Step.{case_of, step}
use Rattle.lwp_types.specs.Conditions.{is_no_condition, is_not_last}
use Rattle.lwp_types.specs.declared.call.ExitCall.{ExitCall}
use Rattle.lwp_types.specs.declared.call.ExitCall.TheVariants as exit
use Rattle.lwp_types.specs.declared.call.Call.{Call}
use Rattle.lwp_types.specs.declared.call.Effect.{Effect}
use Rattle.lwp_types.specs.declared.call.Call.TheVariants as call
use Rattle.lwp_types.specs.declared.call.LwpErr.TheVariants as error
use Rattle.pod_laws.specs.Laws.{Unnamed}
use Rattle.pod_laws.specs.Once.{ExitTest, exits_passing, marks_passing}
use Rattle.std.specs.List.{count_by}
use Rattle.std.specs.Prelude.{Bool, IsTrue, List, None, Some, [], false, ℕ, ◌<◌, ◌==◌, ◌∷◌, ◌≡◌, ◌≤◌}
use Rattle.lwp_types.specs.declared.call.Effect.TheVariants as effect

-- the effect tells that n has died
abbrev pub is_died : ℕ → Effect → Bool
is_died n (effect.Died t) = t == n
is_died n _ = false

-- the number was given, and its thread or agent is gone
pub record IsGone (s : State) (n : ℕ) : Type 0 where
  pub born : n < s.births
  pub dead : is_id s n ≡ false

-- one that died in a step is gone after it, and no list names it
pub record IsForgotten (s : State) (n : ℕ) : Type 0 where
  pub gone : IsGone s n
  pub unnamed : Unnamed s n

abbrev pub TheDeadAreForgotten : Type 0
TheDeadAreForgotten = (s : State) → Lawful s None → (c : Call) (n : ℕ)
    → 1 ≤ count_by (is_died n) (step s c).effects → IsForgotten (step s c).after n

-- the call names a thread or an agent, and asks first whether it is there
abbrev pub asks_for : ℕ → Call → Bool
asks_for n (call.Destroy u) = u == n
asks_for n (call.Ping u) = u == n
asks_for n (call.Yield u) = u == n
asks_for n (call.SetPri u p) = u == n
asks_for n (call.Suspend u) = u == n
asks_for n (call.Resume u) = u == n
asks_for n (call.Join u) = u == n
asks_for n (call.Send u room text) = u == n
asks_for n (call.Recv (Some u) how) = u == n
asks_for n (call.Reply u text) = u == n
asks_for n _ = false

-- who isn't there is refused as not there
abbrev pub TheAbsentAreRefused : Type 0
TheAbsentAreRefused = (s : State) (t n : ℕ) → is_id s n ≡ false → (c : Call) → IsTrue (asks_for n c)
    → case_of s t c ≡ refusal_case s error.NonExist

-- the exit procedure names a thread or an agent, and asks first whether it is there
abbrev pub exit_asks_for : ℕ → ExitCall → Bool
exit_asks_for n (exit.Reply u text) = u == n
exit_asks_for n (exit.Resume u) = u == n
exit_asks_for n _ = false

-- so are exit procedures
abbrev pub ExitsRefuseTheAbsent : Type 0
ExitsRefuseTheAbsent = (s : State) (t n : ℕ) → is_id s n ≡ false → (x : ExitCall)
    → IsTrue (exit_asks_for n x) → exit_case s t x ≡ refusal_case s error.NonExist

-- CvSend asks for the condition and the caller's last lock before; where both are fine, it is refused so too
abbrev pub CondSendRefusesTheAbsent : Type 0
CondSendRefusesTheAbsent = (s : State) (t n c : ℕ) → is_id s n ≡ false
    → (is_no_condition s c).0 ≡ false → (is_not_last s t c).0 ≡ false
    → case_of s t (call.CvSend c n) ≡ refusal_case s error.NonExist

-- what moves a pod on: a call of the thread that has the turn, or an event with its text
pub data Move : Type 0 where
  ToCall : Call → Move
  ToDeliver : ℕ → List ℕ → Move

-- the state after some moves
abbrev pub after_moves : List Move → State → State
after_moves [] s = s
after_moves (ToCall c ∷ moves) s = after_moves moves (step s c).after
after_moves (ToDeliver e text ∷ moves) s = after_moves moves (deliver s e text).after

-- a number is given once: one that is gone stays gone, whatever comes
abbrev pub TheGoneStayGone : Type 0
TheGoneStayGone = (s : State) (n : ℕ) → IsGone s n → (moves : List Move) → IsGone (after_moves moves s) n

-- a delivery runs no exit procedure, sets none, and nobody dies in it
pub record IsQuiet (s : State) (out : Outcome) : Type 0 where
  pub marks : (p : ExitTest) → marks_passing p out.after ≡ marks_passing p s
  pub exits : (p : ExitTest) → exits_passing p out.effects ≡ 0
  pub deaths : (n : ℕ) → count_by (is_died n) out.effects ≡ 0

abbrev pub DeliveriesAreQuiet : Type 0
DeliveriesAreQuiet = (s : State) (e : ℕ) (text : List ℕ) → IsQuiet s (deliver s e text)
