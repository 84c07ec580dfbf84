-- What is asked of a whole session, and what is answered.
use Rattle.c_pods.specs.Effects.{put_front}
use Rattle.c_sessions.specs.Replayed.{ReplaySays}
use Rattle.c_sessions.specs.declared.outcome.Outcome.{Outcome}
use Rattle.c_sessions.specs.declared.outcome.SessionRecord.{SessionRecord}
use Rattle.loqzemar.specs.Status.{bad_number, bad_script, done, no_memory, too_small}
use Rattle.script_text.specs.declared.reason.Reason.{Reason}
use Rattle.script_text.specs.declared.script.Script.{Script}
use Rattle.std.specs.Prelude.{Bool, List, Result, if◌then◌else◌, is_ok, length, nat_le, nat_lt, not, ℕ, ◌&&◌, ◌==◌, ◌||◌, ◌≡◌}

-- so many calls may be allowed
abbrev pub is_call_limit : ℕ → Bool
is_call_limit calls = nat_lt 0 calls && nat_le calls 1000000

-- with this status something is told: not where a number is out of its range, nor where memory was refused
abbrev pub is_told : ℕ → Bool
is_told status = not ((status == no_memory) || (status == bad_number))

-- a session, by whether the bytes are a script, how many bytes are told, and how many there is room for
abbrev pub session_status : Bool → ℕ → ℕ → ℕ
session_status script len room = if nat_lt room len then too_small else (if script then done else bad_script)

-- a session, by its outcome
abbrev pub outcome_status : Outcome → ℕ → ℕ
outcome_status told room = session_status (told.record.reason == 0) told.len room

-- The status, the buffer, the length and the record tell of recorded bytes next to a script: of a right verdict on them,
-- and of the text that is written of it.
pub record TellsReplay (v : Result Script (ℕ × Reason)) (recorded : List ℕ) (calls : ℕ) (old new : List ℕ) (len : ℕ)
    (told : SessionRecord) (status : ℕ) : Type 0 where
  pub text : List ℕ
  pub right : ReplaySays v recorded calls text told
  pub front : new ≡ put_front text old
  pub length_is : len ≡ length text
  pub status_is : status ≡ session_status (is_ok v) (length text) (length old)
