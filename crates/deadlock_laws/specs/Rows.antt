-- Rows: each call that can break a deadlock does break one, and each that can free a thread frees one.
use Rattle.deadlock_laws.specs.Deadlocks.{block_in}
use Rattle.lwp_types.specs.State.{State, is_blocked_in, opening}
use Rattle.lwp_types.specs.Step.{step}
use Rattle.lwp_types.specs.declared.call.Call.{Call}
use Rattle.lwp_types.specs.declared.rows.Block.{Block}
use Rattle.state_text.specs.Waiting.{cycles}
use Rattle.std.specs.List.{fold}
use Rattle.std.specs.Prelude.{IsTrue, List, None, Some, [], false, ◌++◌, ◌∷◌, ◌≡◌}
use Rattle.lwp_types.specs.declared.call.Call.TheVariants as call
use Rattle.lwp_types.specs.declared.call.ExitCall.TheVariants as exit
use Rattle.lwp_types.specs.declared.call.Func.TheVariants as func
use Rattle.lwp_types.specs.declared.call.Mode.TheVariants as mode
use Rattle.lwp_types.specs.declared.call.Pattern.TheVariants as pattern

-- the state after these calls, each by the thread whose turn it is
abbrev pub after_calls : List Call → State
after_calls calls = fold (λ s c. (step s c).after) (opening (record { maxpri = 1; births = 9; procs = 1 })) calls

-- a thread of the only priority
abbrev pub birth : Call
birth = call.Create 0 1 (record { suspended = false; nolastrites = false; server = false })

-- threads 1 and 2 have joined each other
abbrev pub joined : List Call
joined = birth ∷ birth ∷ call.Yield 1 ∷ call.Join 2 ∷ call.Yield 2 ∷ call.Join 1 ∷ []

-- threads 1 and 2 have monitors 0 and 1, and each waits to enter that of the other
abbrev pub locked : List Call
locked = birth ∷ birth ∷ call.MonCreate ∷ call.MonCreate ∷ call.Yield 1 ∷ call.Enter 0 ∷ call.Yield 2 ∷ call.Enter 1
    ∷ call.Enter 0 ∷ call.Enter 1 ∷ []

-- and thread 0 has a handler, and above it a frame with an exit procedure that breaks monitor 0
abbrev pub locked_with_exit : List Call
locked_with_exit = locked ++ call.Handle pattern.All func.Nothing 0 ∷ call.CallProc 0
    ∷ call.OnExit (exit.MonBreak 0) ∷ []

-- after the calls threads 1 and 2 wait for each other, and after one more nobody waits in a cycle
abbrev pub Breaks : List Call → Call → Type 0
Breaks calls last =
    (cycles (after_calls calls) ≡ (1 ∷ 2 ∷ []) ∷ []) × (cycles (step (after_calls calls) last).after ≡ [])

-- thread 1 waits for a letter of anybody
abbrev pub receiving : List Call
receiving = birth ∷ call.Yield 1 ∷ call.Recv None mode.Block ∷ []

-- thread 0 has received a letter of thread 1
abbrev pub received : List Call
received = birth ∷ call.Yield 1 ∷ call.Send 0 0 [] ∷ call.Recv None mode.Poll ∷ []

-- thread 1 has entered monitor 0 and waits on its condition 0, and thread 0 has entered after it
abbrev pub waiting : List Call
waiting = birth ∷ call.MonCreate ∷ call.CvCreate 0 ∷ call.Yield 1 ∷ call.Enter 0 ∷ call.Wait 0 ∷ call.Enter 0 ∷ []

-- thread 0 has entered monitor 0, and thread 1 waits to enter it
abbrev pub entering : List Call
entering = birth ∷ call.MonCreate ∷ call.CvCreate 0 ∷ call.Enter 0 ∷ call.Yield 1 ∷ call.Enter 0 ∷ []

-- after the calls thread 1 is blocked, and after one more it waits so
abbrev pub Frees : List Call → Call → Block → Type 0
Frees calls last b =
    IsTrue (is_blocked_in (after_calls calls) 1) × (block_in (step (after_calls calls) last).after 1 ≡ Some b)
