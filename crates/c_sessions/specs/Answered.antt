-- What one client is told in a script's session.
use Rattle.lwp_serve.specs.Answers.Replies.{answers_of}
use Rattle.script_session.specs.Texts.{fault_text}
use Rattle.script_session.specs.declared.session.SessionEnd.TheVariants as end
use Rattle.script_text.specs.Spelling.{verdict}
use Rattle.script_text.specs.declared.reason.Reason.{Reason}
use Rattle.script_text.specs.declared.script.Script.{Script}
use Rattle.std.specs.Prelude.{Err, List, Ok, Result, ℕ}

-- what the client of the script that bytes spell is told, or the line that says why they spell none
abbrev pub answers_text_by : Result Script (ℕ × Reason) → ℕ → ℕ → List ℕ
answers_text_by (Ok script) client calls = answers_of client script calls
answers_text_by (Err bad) client calls = fault_text (end.Script bad.0 bad.1)

-- what is written of these bytes, of this client and with so many calls allowed
unfoldable pub answers_text : List ℕ → ℕ → ℕ → List ℕ
answers_text bytes client calls = answers_text_by (verdict bytes) client calls
