-- What `plan` makes of a script and a number of turns: a session in which all lines are there from the start.
use Rattle.script_session.specs.SoFar.{setting_of}
use Rattle.script_body.specs.Stocked.{stock_of}
use Rattle.script_body.specs.declared.thread_body.ThreadBody.{ThreadBody}
use Rattle.pod_runner.specs.Eager.{Plan, Planned, plan_over, plan_whole}
use Rattle.pod_runner.specs.Trace.{trace}
use Rattle.pod_runner.specs.declared.session.Took.{Took}
use Rattle.script_text.specs.Script.{proc_names}
use Rattle.trace_text.specs.declared.ends.Halt.{Halt}
use Rattle.script_text.specs.declared.script.Script.{Script}
use Rattle.std.specs.Prelude.{List, Option, ℕ}

-- a script as it is planned, with the turns allowed
abbrev pub planned_of : Script → ℕ → Planned ThreadBody
planned_of script turns = record { setting = setting_of script; turns = turns }

-- its session
abbrev pub plan_of : Script → ℕ → Plan ThreadBody
plan_of script turns = plan_whole (planned_of script turns) (stock_of script)

-- the bytes that are written
unfoldable pub trace_of : Script → ℕ → List ℕ
trace_of script turns = trace (proc_names script) script.clients (planned_of script turns) (plan_of script turns)

-- how it ends
unfoldable pub halt_of : Script → ℕ → Option Halt
halt_of script turns = plan_over (planned_of script turns) (plan_of script turns)

-- which lines are taken, and when
unfoldable pub takes_of : Script → ℕ → List Took
takes_of script turns = (plan_of script turns).takes

-- how many calls are made
unfoldable pub calls_of : Script → ℕ → ℕ
calls_of script turns = (plan_of script turns).calls
