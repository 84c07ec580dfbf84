-- Exit procedures run once, over a whole session. An `ExitTest` asks for the thread, the number and the exit call, so
-- what holds of every test holds of each of these.
use Rattle.lwp_types.specs.State.{is_thread}
use Rattle.lwp_types.specs.declared.call.Answer.{Answer}
use Rattle.lwp_types.specs.declared.call.Call.{Call}
use Rattle.lwp_types.specs.declared.call.Effect.{Effect}
use Rattle.lwp_types.specs.declared.call.ExitCall.{ExitCall}
use Rattle.pod_laws.specs.Once.{ExitTest, exits_passing, marks_passing}
use Rattle.pod_runner.specs.Session.{Made, Session}
use Rattle.std.specs.List.{sum_by}
use Rattle.std.specs.Prelude.{List, cond, false, nat_lt, pos, ℕ, ◌&&◌, ◌+◌, ◌<◌, ◌==◌, ◌∷◌, ◌≡◌, ◌≤◌}
use Rattle.lwp_types.specs.declared.call.Answer.TheVariants as answer
use Rattle.lwp_types.specs.declared.call.Call.TheVariants as call
use Rattle.lwp_types.specs.declared.call.Effect.TheVariants as effect

-- ---- what the effects tell

-- t has set x, if it is answered a number, and that is the number of x
abbrev pub sets_by_answer : ExitTest → ℕ → ExitCall → Answer → ℕ
sets_by_answer p t x (answer.Value (pos n)) = cond (p t n x) 1 0
sets_by_answer p t x _ = 0

-- the next effect answers this OnExit of t
abbrev pub sets_if_answered : ExitTest → ℕ → ExitCall → List Effect → ℕ
sets_if_answered p t x (effect.Answered u a ∷ es) = cond (u == t) (sets_by_answer p t x a) 0
sets_if_answered p t x _ = 0

-- what a call of t sets, where these effects are next
abbrev pub sets_by_effects : ExitTest → ℕ → Call → List Effect → ℕ
sets_by_effects p t (call.OnExit x) es = sets_if_answered p t x es
sets_by_effects p t _ es = 0

-- how many exit procedures that pass are set in a step with these effects; the first of them is the call, or a trap and
-- then the call
abbrev pub exits_set_in : ExitTest → List Effect → ℕ
exits_set_in p (effect.Called t c ∷ es) = sets_by_effects p t c es
exits_set_in p (effect.Trapped t e ∷ es) = exits_set_in p es
exits_set_in p _ = 0

-- ---- over steps

-- how many exit procedures that pass were set in these steps
abbrev pub exits_set : ExitTest → List Made → ℕ
exits_set p steps = sum_by (λ made. exits_set_in p made.effects) steps

-- how many of them have run
abbrev pub exits_run : ExitTest → List Made → ℕ
exits_run p steps = sum_by (λ made. exits_passing p made.effects) steps

-- ---- the laws

-- of each test: what is set still, on the stacks of live threads, and what has run, is what was set
abbrev pub EachSetExitOnce : {B : Type 0} → Session B → Type 0
EachSetExitOnce session = (p : ExitTest)
    → marks_passing p session.live.pod.state + exits_run p session.steps ≡ exits_set p session.steps

-- the exit procedure has this number
abbrev pub has_number : ℕ → ExitTest
has_number k t n x = n == k

-- of each number that was given one exit procedure is set still or has run, and of any other number none
abbrev pub EachExitOnce : {B : Type 0} → Session B → Type 0
EachExitOnce session = (k : ℕ)
    → marks_passing (has_number k) session.live.pod.state + exits_run (has_number k) session.steps
    ≡ cond (nat_lt k session.live.pod.state.next_registration) 1 0

-- and each of these numbers was given to one
abbrev pub EachNumberIsGivenOnce : {B : Type 0} → Session B → Type 0
EachNumberIsGivenOnce session = (k : ℕ)
    → exits_set (has_number k) session.steps ≡ cond (nat_lt k session.live.pod.state.next_registration) 1 0

-- in words, of the number k: its exit procedure is set still, or has run, or the number isn't given yet
pub data Fate {B : Type 0} (session : Session B) (k : ℕ) : Type 0 where
  IsWaiting : k < session.live.pod.state.next_registration
      → marks_passing (has_number k) session.live.pod.state ≡ 1
      → exits_run (has_number k) session.steps ≡ 0 → Fate session k
  HasRun : k < session.live.pod.state.next_registration
      → marks_passing (has_number k) session.live.pod.state ≡ 0
      → exits_run (has_number k) session.steps ≡ 1 → Fate session k
  IsNotGiven : session.live.pod.state.next_registration ≤ k
      → marks_passing (has_number k) session.live.pod.state ≡ 0
      → exits_run (has_number k) session.steps ≡ 0 → Fate session k

-- of every number
abbrev pub EachExitHasItsFate : {B : Type 0} → Session B → Type 0
EachExitHasItsFate session = (k : ℕ) → Fate session k

-- the thread u has set it, and it passes
abbrev pub is_set_by : ℕ → ExitTest → ExitTest
is_set_by u p t n x = (t == u) && p t n x

-- one that isn't live has nothing set still: all that it has set has run
abbrev pub TheDeadHaveRunTheirExits : {B : Type 0} → Session B → Type 0
TheDeadHaveRunTheirExits session = (u : ℕ) → is_thread session.live.pod.state u ≡ false
    → (p : ExitTest) → exits_run (is_set_by u p) session.steps ≡ exits_set (is_set_by u p) session.steps
