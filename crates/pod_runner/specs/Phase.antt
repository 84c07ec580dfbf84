-- Where a run stands.
use Rattle.lwp_types.specs.Choice.{choice}
use Rattle.lwp_types.specs.State.{State}
use Rattle.pod_runner.specs.declared.phase.Phase.{Phase}
use Rattle.pod_runner.specs.declared.phase.Phase.TheVariants.{Ended, Idle, Spent, Turn}
use Rattle.trace_text.specs.declared.ends.Halt.{Halt}
use Rattle.trace_text.specs.declared.ends.Halt.TheVariants as halt
use Rattle.std.specs.Prelude.{None, Option, Some, if◌then◌else◌, nat_lt, ℕ}

-- while the pod goes on: by the calls allowed, the calls made, and who may run
abbrev pub phase_by : ℕ → ℕ → Option ℕ → Phase
phase_by turns calls None = Idle
phase_by turns calls (Some t) = if nat_lt calls turns then Turn else Spent

-- by the pod as well
abbrev pub phase_of : State → ℕ → ℕ → Phase
phase_of s turns calls = if s.ended then Ended s.status else phase_by turns calls (choice s)

-- the phase in which a run comes to this end
abbrev pub phase_of_halt : Halt → Phase
phase_of_halt (halt.Ended status) = Ended status
phase_of_halt halt.Spent = Spent
phase_of_halt halt.Stuck = Idle
