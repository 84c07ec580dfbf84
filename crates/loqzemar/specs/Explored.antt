-- What is asked of all sessions of a script, and what is answered.
use Rattle.c_pods.specs.Effects.{put_front}
use Rattle.c_sessions.specs.Explored.{ExploreSays}
use Rattle.c_sessions.specs.declared.outcome.SessionRecord.{SessionRecord}
use Rattle.loqzemar.specs.Sessions.{session_status}
use Rattle.lwp_explore.specs.declared.words.Command.{Command}
use Rattle.script_text.specs.declared.reason.Reason.{Reason}
use Rattle.script_text.specs.declared.script.Script.{Script}
use Rattle.std.specs.Prelude.{Bool, List, Result, is_ok, length, nat_le, ℕ, ◌&&◌, ◌≡◌}

-- so many cores may be kept
abbrev pub is_core_limit : ℕ → Bool
is_core_limit cores = nat_le 1 cores && nat_le cores 1000000

-- a kind of end may have this number
abbrev pub is_kind_number : ℕ → Bool
is_kind_number kind = nat_le 1 kind && nat_le kind 4294967295

-- The status, the buffer, the length and the record tell what is asked for of all sessions of a script: the text of a right search,
-- and what that comes to; this line is looked for, if one is.
pub record TellsExplore (v : Result Script (ℕ × Reason)) (asked : Command) (line old new : List ℕ) (len : ℕ) (told : SessionRecord)
    (status : ℕ) : Type 0 where
  pub text : List ℕ
  pub right : ExploreSays v asked line text told
  pub front : new ≡ put_front text old
  pub length_is : len ≡ length text
  pub status_is : status ≡ session_status (is_ok v) (length text) (length old)
