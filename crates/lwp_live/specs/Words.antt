-- What the program's words ask for.
use Rattle.lwp_live.specs.declared.command.Command.{Command}
use Rattle.lwp_serve.specs.Words.{turns_of}
use Rattle.std.specs.Prelude.{Bool, List, None, Option, Some, [], bytes_eq, codes, if◌then◌else◌, option_map, ℕ, ◌∷◌, ◌≤◌}

-- what is asked for: the file of the script, how many calls are allowed, and the beginning of the names of a record's
-- files, if there is to be a record
pub record Asked : Type 0 where
  pub script : List ℕ
  pub calls : ℕ
  pub base : Option (List ℕ)

abbrev pub is_record : List ℕ → Bool
is_record word = bytes_eq word (codes "--record")

-- what is asked for, if a word says how many calls are allowed
abbrev pub asked_by : List ℕ → Option ℕ → Option (List ℕ) → Option Asked
asked_by file None base = None
asked_by file (Some calls) base = Some (record { script = file; calls = calls; base = base })

-- what these words ask for, if they are a command: a file, and after it perhaps how many calls; and after these perhaps
-- `--record` and the beginning of two names
abbrev pub command_of : List (List ℕ) → Option Asked
command_of [] = None
command_of (file ∷ []) = asked_by file (Some 100000) None
command_of (file ∷ calls ∷ []) = asked_by file (turns_of calls) None
command_of (file ∷ word ∷ base ∷ []) = if is_record word then asked_by file (Some 100000) (Some base) else None
command_of (file ∷ calls ∷ word ∷ base ∷ []) = if is_record word then asked_by file (turns_of calls) (Some base) else None
command_of (file ∷ calls ∷ word ∷ base ∷ other ∷ words) = None

-- a command as what it asks for
abbrev pub asked : Command → Asked
asked c = record { script = c.script.now; calls = c.calls; base = option_map (λ w. w.now) c.base }
