-- What is told of all sessions of a script.
use Rattle.c_sessions.specs.Planned.{refusal}
use Rattle.c_sessions.specs.Records.{session_record}
use Rattle.c_sessions.specs.Replayed.{HasFront}
use Rattle.c_sessions.specs.declared.outcome.Outcome.{Outcome}
use Rattle.c_sessions.specs.declared.outcome.SessionRecord.{SessionRecord}
use Rattle.lwp_explore.specs.Texts.{fault_text, status_of}
use Rattle.lwp_explore.specs.Top.{Says}
use Rattle.lwp_explore.specs.declared.ending.Ending.{Ending}
use Rattle.lwp_explore.specs.declared.ending.Ending.TheVariants as ending
use Rattle.lwp_explore.specs.declared.words.Command.{Command}
use Rattle.script_session.specs.declared.session.SessionEnd.TheVariants as end
use Rattle.script_text.specs.declared.reason.Reason.{Reason}
use Rattle.script_text.specs.declared.script.Script.{Script}
use Rattle.std.specs.Prelude.{Err, List, Ok, Result, ℕ, ◌≡◌}

-- the record of a search that came to this: its status alone, but for bytes that are no script
abbrev pub search_record : Ending → SessionRecord
search_record (ending.Other e) = session_record e 0 0
search_record e = record { status = status_of e; reason = 0; line = 0; calls = 0; taken = 0 }

-- the text and the record tell what a right search of the script's sessions comes to; this line is looked for, if one is
pub record TellsSearch (script : Script) (asked : Command) (line text : List ℕ) (told : SessionRecord) : Type 0 where
  pub came : Ending
  pub right : Says asked line script text came
  pub numbers : told ≡ search_record came

-- the text and the record tell so of the script that bytes spell, or why they spell none
abbrev pub ExploreSays : Result Script (ℕ × Reason) → Command → List ℕ → List ℕ → SessionRecord → Type 0
ExploreSays (Ok script) asked line text told = TellsSearch script asked line text told
ExploreSays (Err bad) asked line text told = (text ≡ fault_text (ending.Other (end.Script bad.0 bad.1))) × (told ≡ refusal bad.0 bad.1)

-- the outcome is that of a search of the script's sessions
abbrev pub TellsSessions : Script → Command → List ℕ → ℕ → Outcome → Type 0
TellsSessions script asked line room told =
    (text : List ℕ) × HasFront room text told × TellsSearch script asked line text told.record

-- the outcome is that of the script that bytes spell, or says why they spell none
abbrev pub ExploreTells : Result Script (ℕ × Reason) → Command → List ℕ → ℕ → Outcome → Type 0
ExploreTells v asked line room told =
    (text : List ℕ) × HasFront room text told × ExploreSays v asked line text told.record
