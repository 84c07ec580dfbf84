-- The bytes that a session writes.
use Rattle.event_gate.specs.Shelves.{Shelves, left_of_client}
use Rattle.pod_runner.specs.Eager.{Plan, Planned, plan_over}
use Rattle.pod_runner.specs.Session.{Made}
use Rattle.trace_text.specs.Lines.{end_text, step_lines}
use Rattle.trace_text.specs.declared.ends.Halt.{Halt}
use Rattle.std.specs.List.{flat_map}
use Rattle.std.specs.Prelude.{List, None, Option, Some, [], option_map, ℕ, ◌++◌, ◌+◌, ◌∷◌}

-- the lines of one step; a delivery prints the line that the step took
abbrev pub made_lines : List (List ℕ) → Made → List ℕ
made_lines procs made = step_lines procs (option_map (λ took. took.line) made.take) made.effects

-- the lines of all steps; the procedures are named so
abbrev pub lines : List (List ℕ) → List Made → List ℕ
lines procs steps = flat_map (made_lines procs) steps

-- how many lines of each client are left, counted from c
abbrev pub left_counts_from : ℕ → List ℕ → Shelves → List ℕ
left_counts_from c [] left = []
left_counts_from c (event ∷ clients) left = left_of_client c left ∷ left_counts_from (c + 1) clients left

-- what comes after the lines of the last step; nothing, as long as the session isn't over
abbrev pub tail_by : ℕ → List ℕ → Shelves → Option Halt → List ℕ
tail_by turns clients left None = []
tail_by turns clients left (Some halt) = end_text turns (left_counts_from 0 clients left) halt

-- what comes after those lines in a session with all lines in place, where the clients post to these events
abbrev pub tail : {B : Type 0} → List ℕ → Planned B → Plan B → List ℕ
tail clients planned plan = tail_by planned.turns clients plan.left (plan_over planned plan)

-- all that such a session writes
abbrev pub trace : {B : Type 0} → List (List ℕ) → List ℕ → Planned B → Plan B → List ℕ
trace procs clients planned plan = lines procs plan.session.steps ++ tail clients planned plan
