-- The report on an input of many scripts: a line of each.
use Rattle.batch.specs.Answers.{answers_to}
use Rattle.batch.specs.declared.part.Part.{Part}
use Rattle.lwp_serve.specs.declared.batches.report.Counts.{Counts}
use Rattle.lwp_serve.specs.Plan.Make.{status_by}
use Rattle.lwp_serve.specs.Plan.Planned.{calls_of, halt_of, takes_of, trace_of}
use Rattle.script_session.specs.Texts.{reason_text}
use Rattle.script_session.specs.declared.session.Session.{Session}
use Rattle.script_text.specs.Script.{lines_posted}
use Rattle.script_text.specs.Spelling.{verdict}
use Rattle.script_text.specs.declared.reason.Reason.{Reason}
use Rattle.script_text.specs.declared.script.Script.{Script}
use Rattle.std.specs.Prelude.{Err, List, Ok, Result, [], codes, decimal, length, suc, ℕ, ◌++◌, ◌-◌, ◌∷◌}

-- what is said of a session by its numbers
unfoldable pub counts_text : Counts → List ℕ
counts_text counts =
    codes "status " ++ (decimal counts.status
    ++ (codes " calls " ++ (decimal counts.calls
    ++ (codes " taken " ++ (decimal counts.taken
    ++ (codes " left " ++ (decimal counts.left
    ++ (codes " trace " ++ decimal counts.trace))))))))

-- the numbers of the planned session of a script, with so many turns allowed
abbrev pub counts_of : ℕ → Script → Counts
counts_of turns script = record {
  status = status_by (halt_of script turns);
  calls = calls_of script turns;
  taken = length (takes_of script turns);
  left = length (lines_posted script) - length (takes_of script turns);
  trace = length (trace_of script turns);
}

-- the numbers that a session to its end tells of itself; its trace has so many bytes
abbrev pub counts_at_end : Script → Session → ℕ → Counts
counts_at_end script session trace = record {
  status = session.status;
  calls = session.turns;
  taken = length session.taken;
  left = length script.posts - length session.taken;
  trace = trace;
}

-- what is said of bytes that are no script: the first bad line, and why
unfoldable pub bad_text : ℕ → Reason → List ℕ
bad_text line why = codes "status 103 line " ++ (decimal line ++ (codes " " ++ reason_text why))

-- what is said of a part that was read
abbrev pub read_part_text : ℕ → Result Script (ℕ × Reason) → List ℕ
read_part_text turns (Ok script) = counts_text (counts_of turns script)
read_part_text turns (Err (line, why)) = bad_text line why

-- what is said of a part, by its bytes
unfoldable pub part_text : ℕ → List ℕ → List ℕ
part_text turns bytes = read_part_text turns (verdict bytes)

-- the lines of parts from this number on, by what is said of each
abbrev pub lines_from : ℕ → List (List ℕ) → List ℕ
lines_from k [] = []
lines_from k (said ∷ rest) = (decimal k ++ (codes " " ++ (said ++ codes "\n"))) ++ lines_from (suc k) rest

-- the report on these parts of a text
abbrev pub report_of : ℕ → List ℕ → List Part → List ℕ
report_of turns bytes parts = lines_from 0 (answers_to (part_text turns) bytes parts)
