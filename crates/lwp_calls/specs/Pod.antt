-- What is read off a pod, and what a call keeps.
pub use Rattle.pod_events.specs.Machine.{call_effects, current_of, ending_of}
use Rattle.lwp_types.specs.Choice.{choice}
use Rattle.lwp_types.specs.State.{State, passes}
use Rattle.lwp_types.specs.Step.{case_of}
use Rattle.lwp_types.specs.declared.call.Answer.{Answer}
use Rattle.lwp_types.specs.declared.call.Answer.TheVariants as answer
use Rattle.lwp_types.specs.declared.call.Call.{Call}
use Rattle.lwp_types.specs.declared.call.Effect.{Effect}
use Rattle.pod_laws.specs.Forgotten.{IsForgotten, is_died}
use Rattle.pod_laws.specs.Once.{ExitTest, exits_passing, marks_passing, sets_of_step}
use Rattle.std.specs.List.{count_by}
use Rattle.std.specs.Prelude.{Bool, List, false, true, ℕ, ◌+◌, ◌≡◌, ◌≤◌}

-- the answer is a refusal
abbrev pub refuses : Answer → Bool
refuses (answer.Refused e) = true
refuses _ = false

-- the call of the thread whose turn it is is refused
abbrev pub is_refusal : State → Call → Bool
is_refusal s c = passes (λ t. passes refuses (case_of s t c).own) (choice s)

-- one that died is gone, its number is given to nobody, and no list names it
abbrev pub ForgetsTheDead : State → List Effect → Type 0
ForgetsTheDead after effects = (n : ℕ) → 1 ≤ count_by (is_died n) effects → IsForgotten after n

-- of each exit procedure: where it was set it still is, or it has run now, once
abbrev pub RunsExitsOnce : State → Call → State → List Effect → Type 0
RunsExitsOnce before c after effects = (p : ExitTest)
    → marks_passing p after + exits_passing p effects ≡ marks_passing p before + sets_of_step p before (choice before) c
