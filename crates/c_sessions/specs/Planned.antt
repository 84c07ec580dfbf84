-- What is told of a script that is run with all lines in place.
use Rattle.c_sessions.specs.Records.{session_record}
use Rattle.c_sessions.specs.declared.outcome.SessionRecord.{SessionRecord}
use Rattle.lwp_serve.specs.Plan.Plan.{IsWhole}
use Rattle.lwp_serve.specs.Plan.Planned.{trace_of}
use Rattle.pod_runner.specs.declared.session.Took.{Took}
use Rattle.script_session.specs.Outcome.{end_of}
use Rattle.script_session.specs.Texts.{fault_text}
use Rattle.script_session.specs.declared.session.SessionEnd.TheVariants as end
use Rattle.script_text.specs.Spelling.{verdict}
use Rattle.script_text.specs.declared.reason.Reason.{Reason}
use Rattle.script_text.specs.declared.script.Script.{Script}
use Rattle.std.specs.Prelude.{Err, List, Ok, Result, Some, [], length, ℕ, ◌≡◌}
use Rattle.trace_text.specs.declared.ends.Halt.{Halt}

-- the trace of the script that bytes spell, or the line that says why they spell none
abbrev pub plan_text_by : Result Script (ℕ × Reason) → ℕ → List ℕ
plan_text_by (Ok script) calls = trace_of script calls
plan_text_by (Err bad) calls = fault_text (end.Script bad.0 bad.1)

-- what is written of these bytes, with so many calls allowed
unfoldable pub plan_text : List ℕ → ℕ → List ℕ
plan_text bytes calls = plan_text_by (verdict bytes) calls

-- the record of bytes that are no script
abbrev pub refusal : ℕ → Reason → SessionRecord
refusal line why = session_record (end.Script line why) 0 0

-- The record tells of the whole session of a script: how it halted, and how many calls were made and lines taken. Each
-- of these was due; of each client, the lines taken are its first; and the session is stuck only where no event that can
-- be delivered has a line left.
pub record TellsScript (script : Script) (calls : ℕ) (told : SessionRecord) : Type 0 where
  pub halt : Halt
  pub takes : List Took
  pub whole : IsWhole calls script (Some []) (Some (trace_of script calls)) takes told.calls halt
  pub numbers : told ≡ session_record (end_of halt) told.calls (length takes)

-- the record tells of the script that bytes spell, or why they spell none
abbrev pub TellsPlan : Result Script (ℕ × Reason) → ℕ → SessionRecord → Type 0
TellsPlan (Ok script) calls told = TellsScript script calls told
TellsPlan (Err bad) calls told = told ≡ refusal bad.0 bad.1
