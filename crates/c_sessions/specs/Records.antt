-- How a session ended, as numbers.
use Rattle.c_sessions.specs.declared.outcome.SessionRecord.{SessionRecord}
use Rattle.script_session.specs.Outcome.{status_of}
use Rattle.script_session.specs.declared.session.SessionEnd.{SessionEnd}
use Rattle.script_session.specs.declared.session.SessionEnd.TheVariants as end
use Rattle.script_text.specs.declared.reason.Reason.{Reason}
use Rattle.script_text.specs.declared.reason.Reason.TheVariants as reason
use Rattle.std.specs.Prelude.{ℕ}

-- why a line is bad
abbrev pub reason_number : Reason → ℕ
reason_number reason.TooLarge = 1
reason_number reason.Unended = 2
reason_number reason.Bytes = 3
reason_number reason.Header = 4
reason_number reason.Pod = 5
reason_number reason.Limit = 6
reason_number reason.Client = 7
reason_number reason.Native = 8
reason_number reason.Proc = 9
reason_number reason.Post = 10
reason_number reason.Again = 11
reason_number reason.Statement = 12
reason_number reason.Missing = 13

-- why bytes are no script
abbrev pub reason_of : SessionEnd → ℕ
reason_of (end.Script line why) = reason_number why
reason_of _ = 0

-- the first bad line of a script, or the first line of a recorded trace that differs
abbrev pub line_of : SessionEnd → ℕ
line_of (end.Script line why) = line
line_of (end.Differs line) = line
line_of _ = 0

-- the record of a session that ended so, with so many calls made and lines taken
abbrev pub session_record : SessionEnd → ℕ → ℕ → SessionRecord
session_record e calls taken = record {
  status = status_of e;
  reason = reason_of e;
  line = line_of e;
  calls = calls;
  taken = taken;
}
