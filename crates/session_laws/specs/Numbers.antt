-- The numbers of exit procedures are given in order; and when the clock ticks, and who is born.
use Rattle.lwp_types.specs.Agents.{deliver}
use Rattle.lwp_types.specs.Choice.{choice}
use Rattle.lwp_types.specs.State.{State}
use Rattle.lwp_types.specs.Step.{step}
use Rattle.lwp_types.specs.declared.call.Call.{Call}
use Rattle.pod_laws.specs.Once.{ExitTest, sets_of_step}
use Rattle.pod_runner.specs.Due.{IsDefined}
use Rattle.pod_runner.specs.Play.{play}
use Rattle.pod_runner.specs.Session.{Setting}
use Rattle.pod_runner.specs.declared.session.Took.{Took}
use Rattle.std.specs.Prelude.{Bool, List, false, if◌then◌else◌, true, ℕ, ◌+◌, ◌==◌, ◌≡◌, ◌≤◌}
use Rattle.lwp_types.specs.declared.call.Call.TheVariants as call

-- every exit procedure passes
abbrev pub any_exit : ExitTest
any_exit t n x = true

-- the number that the next one gets is one more after a step that sets one, and else the same
abbrev pub StepsNumberExits : Type 0
StepsNumberExits = (s : State) (c : Call)
    → (step s c).after.next_registration ≡ s.next_registration + sets_of_step any_exit s (choice s) c

-- no delivery sets one
abbrev pub DeliveriesNumberNone : Type 0
DeliveriesNumberNone = (s : State) (e : ℕ) (text : List ℕ)
    → (deliver s e text).after.next_registration ≡ s.next_registration

-- no call makes the clock tick
abbrev pub StepsKeepTheClock : Type 0
StepsKeepTheClock = (s : State) (c : Call) → (step s c).after.now ≡ s.now

-- a line of event 0 makes it tick once, and no other does
abbrev pub DeliveriesTick : Type 0
DeliveriesTick = (s : State) (e : ℕ) (text : List ℕ)
    → (deliver s e text).after.now ≡ (if e == 0 then s.now + 1 else s.now)

-- a thread or an agent may be born by the call
abbrev pub bears : Call → Bool
bears (call.Create number prio flags) = true
bears (call.Agent e) = true
bears _ = false

-- by no other call one is
abbrev pub StepsBearNone : Type 0
StepsBearNone = (s : State) (c : Call) → bears c ≡ false → (step s c).after.births ≡ s.births

-- nor by a delivery
abbrev pub DeliveriesBearNone : Type 0
DeliveriesBearNone = (s : State) (e : ℕ) (text : List ℕ) → (deliver s e text).after.births ≡ s.births

-- where no more were born than the limit allows, it is so after each call, and the limit stays
abbrev pub StepsKeepTheLimit : Type 0
StepsKeepTheLimit = (s : State) (c : Call) → s.births ≤ s.limit
    → ((step s c).after.births ≤ s.limit) × ((step s c).after.limit ≡ s.limit)

-- whatever bodies do, and whenever lines are taken, no more threads and agents are born than the pod's limit allows
abbrev pub BirthsAreLimited : Type 0 → Type 0
BirthsAreLimited B = (setting : Setting B) → 1 ≤ setting.params.births
    → (takes : List Took) (n : ℕ) → IsDefined setting takes n
    → (play setting takes n).live.pod.state.births ≤ setting.params.births

-- as many procedures as the pod began with there are always
abbrev pub StepsKeepProcs : Type 0
StepsKeepProcs = (s : State) (c : Call) → (step s c).after.procs ≡ s.procs

abbrev pub DeliveriesKeepProcs : Type 0
DeliveriesKeepProcs = (s : State) (e : ℕ) (text : List ℕ) → (deliver s e text).after.procs ≡ s.procs
