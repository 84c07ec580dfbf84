-- A program's sessions, as a machine that is searched.
use Rattle.lwp_explore.specs.Cores.{Step, World, after, first_core, steps_at, takes_at}
use Rattle.lwp_explore.specs.KindCodes.{kind_code}
use Rattle.lwp_explore.specs.Kinds.{halt_of, has_left}
use Rattle.lwp_explore.specs.Lines.{has_line}
use Rattle.lwp_explore.specs.Sessions.{world_of}
use Rattle.lwp_explore.specs.Ways.{step_lines, tail_of}
use Rattle.lwp_explore.specs.declared.kinds.End.TheVariants as end
use Rattle.lwp_explore.specs.declared.kinds.Kind.{Kind}
use Rattle.script_body.specs.BodyKeys.{body_numbers}
use Rattle.script_body.specs.declared.thread_body.ThreadBody.{ThreadBody}
use Rattle.script_text.specs.Script.{proc_names}
use Rattle.script_text.specs.declared.script.Script.{Script}
use Rattle.search.specs.Moves.{Moves}
use Rattle.session_cores.specs.Core.{Core}
use Rattle.session_cores.specs.CoreCode.{core_key}
use Rattle.std.specs.Prelude.{Bool, List, None, Option, Some, false, if◌then◌else◌, length, option_map, slice_get, ℕ, ◌++◌, ◌==◌}
use Rattle.std.specs.Option.{option_map_or}
use Rattle.trace_text.specs.declared.ends.Halt.{Halt}
use Rattle.trace_text.specs.declared.ends.Halt.TheVariants as halt

-- the kind for the search of a core whose session is over so, if it is, or has a call as the only step, if it has. Such a core is endless
-- only if calls lead back to it
abbrev pub kind_by : Option Halt → Bool → Bool → Option Kind
kind_by (Some (halt.Ended status)) calm left = Some (record { end = end.Ended status; left = left })
kind_by (Some halt.Stuck) calm left = Some (record { end = end.Stuck; left = left })
kind_by (Some halt.Spent) calm left = None
kind_by None calm left = if calm then Some (record { end = end.Endless; left = left }) else None

abbrev pub core_kind : {B : Type 0} → World B → Core B → Option Kind
core_kind world core = kind_by (halt_of world core) (length (takes_at world core) == 0) (has_left world core)

-- its number
abbrev pub core_number : {B : Type 0} → World B → Core B → Option ℕ
core_number world core = option_map kind_code (core_kind world core)

-- ---- the line that is looked for

-- the step of this number, if there is one, writes this line, or the session ends with it then
abbrev pub writes : {B : Type 0} → World B → List (List ℕ) → List ℕ → Core B → ℕ → Bool
writes {B} world procs line core number = option_map_or (λ (step : Step B). has_line (step_lines procs step ++ tail_of world step.to) line)
    (slice_get (steps_at world core) number) false

-- it is looked for, if a line is
abbrev pub is_marked : {B : Type 0} → World B → List (List ℕ) → Option (List ℕ) → Core B → ℕ → Bool
is_marked world procs None core number = false
is_marked world procs (Some line) core number = writes world procs line core number

-- ---- the machine

-- its first core, where steps lead, the bytes and the number of each core, and which steps are looked for
abbrev pub moves_of : {B : Type 0} → World B → (B → List ℕ) → List (List ℕ) → Option (List ℕ) → Moves (Core B)
moves_of world numbers procs sought = record {
  first = first_core world;
  after = after world;
  key = core_key numbers;
  kind = core_number world;
  marks = is_marked world procs sought;
}

-- that of a script, whose sessions are searched for a line, if one is looked for
abbrev pub script_moves : Script → Option (List ℕ) → Moves (Core ThreadBody)
script_moves script sought = moves_of (world_of script) body_numbers (proc_names script) sought
