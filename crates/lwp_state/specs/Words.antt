-- What the program's words ask for.
use Rattle.lwp_serve.specs.Words.{is_plan, is_replay}
use Rattle.lwp_state.specs.Plan.{IsStateAfterPlan}
use Rattle.lwp_state.specs.Replay.{IsStateInReplay}
use Rattle.lwp_state.specs.declared.command.Command.{Command}
use Rattle.lwp_state.specs.declared.command.Command.TheVariants as command
use Rattle.script_lines.specs.Words.{number_at}
use Rattle.script_session.specs.Outcome.{outcome_of}
use Rattle.script_session.specs.declared.session.Session.{Session}
use Rattle.script_session.specs.declared.session.SessionEnd.TheVariants as end
use Rattle.std.specs.Prelude.{List, None, Option, Some, [], if◌then◌else◌, nat_le, ℕ, ◌∷◌, ◌≡◌, ◌≤◌}
use Rattle.streams.specs.Streams.{IsQuiet, Stream}

-- the calls of a plan, by the number that a word writes, if it writes one
abbrev pub plan_by : Option ℕ → Option Command
plan_by None = None
plan_by (Some calls) = if nat_le calls 1000000 then Some (command.Plan calls) else None

-- the lines of a replay, likewise
abbrev pub replay_by : Option ℕ → Option Command
replay_by None = None
replay_by (Some line) = Some (command.Replay (Some line))

-- the command of these words, if they are one: `plan`, and after it perhaps how many calls; or `replay`, and after it
-- perhaps how many lines
abbrev pub command_of : List (List ℕ) → Option Command
command_of [] = None
command_of (word ∷ []) = if is_plan word then Some (command.Plan 100000)
    else if is_replay word then Some (command.Replay None)
    else None
command_of (word ∷ number ∷ []) = if is_plan word then plan_by (number_at number)
    else if is_replay word then replay_by (number_at number)
    else None
command_of (word ∷ number ∷ other ∷ words) = None

-- what it asks for may be had
abbrev pub MayBe : Command → Type 0
MayBe (command.Plan calls) = calls ≤ 1000000
MayBe (command.Replay line) = Unit {0}

-- what a session of these words says: that of a plan or of a replay; or else that they are no command, and then nothing
-- was read or written
abbrev pub TopSays : Option Command → Stream → Stream → Session → Type 0
TopSays None source sink session = (session ≡ outcome_of end.Usage [] 0) × IsQuiet source × IsQuiet sink
TopSays (Some (command.Plan calls)) source sink session = IsStateAfterPlan calls source sink session
TopSays (Some (command.Replay line)) source sink session = IsStateInReplay line source sink session
