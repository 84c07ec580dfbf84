-- The steps along a path, and the lines that they write.
use Rattle.lwp_explore.specs.Cores.{Step, World, first_core, steps_at}
use Rattle.lwp_explore.specs.Kinds.{halt_of, lines_left}
use Rattle.pod_runner.specs.Trace.{made_lines}
use Rattle.session_cores.specs.Core.{Core}
use Rattle.std.specs.List.{count_by, flat_map}
use Rattle.std.specs.Option.{option_map_or}
use Rattle.std.specs.Prelude.{List, [], codes, decimal, is_none, is_some, slice_get, ℕ, ◌++◌, ◌∷◌}
use Rattle.trace_text.specs.Lines.{end_text}

-- the steps of these numbers, from a core on, as far as there are such steps
abbrev pub steps_along : {B : Type 0} → World B → Core B → List ℕ → List (Step B)
steps_along world core [] = []
steps_along world core (i ∷ path) = option_map_or (λ step. step ∷ steps_along world step.to path) (slice_get (steps_at world core) i) []

-- the steps of a path from the first core on
abbrev pub way : {B : Type 0} → World B → List ℕ → List (Step B)
way world path = steps_along world (first_core world) path

-- how many of these steps are calls, and how many are takes
abbrev pub calls_in : {B : Type 0} → List (Step B) → ℕ
calls_in {B} steps = count_by (λ (s : Step B). is_none s.take) steps

abbrev pub takes_in : {B : Type 0} → List (Step B) → ℕ
takes_in {B} steps = count_by (λ (s : Step B). is_some s.take) steps

abbrev pub length_text : {B : Type 0} → List (Step B) → List ℕ
length_text steps = codes "calls " ++ (decimal (calls_in steps) ++ (codes " takes " ++ decimal (takes_in steps)))

-- what a step writes; the procedures are named so
abbrev pub step_lines : {B : Type 0} → List (List ℕ) → Step B → List ℕ
step_lines procs step = made_lines procs (record { take = step.take; effects = step.effects })

-- what comes after the last step of a session with this core; nothing, as long as it isn't over
abbrev pub tail_of : {B : Type 0} → World B → Core B → List ℕ
tail_of world core = option_map_or (end_text 0 (lines_left world core)) (halt_of world core) []

-- what these steps write
abbrev pub way_text : {B : Type 0} → List (List ℕ) → List (Step B) → List ℕ
way_text procs steps = flat_map (step_lines procs) steps
