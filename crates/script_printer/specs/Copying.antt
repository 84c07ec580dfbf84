-- What becomes of a script that is read and printed.
use Rattle.lwp_types.specs.Streams.{after_append}
use Rattle.script_printer.specs.declared.failure.CopyFailure.{CopyFailure}
use Rattle.script_printer.specs.declared.failure.CopyFailure.TheVariants as failure
use Rattle.script_printer.specs.Printing.{text_of_script}
use Rattle.streams.specs.Writing.{AppendsPart}
use Rattle.script_text.specs.Grammar.{Spells}
use Rattle.script_text.specs.Spelling.{verdict}
use Rattle.script_text.specs.declared.reason.ReadErr.{ReadErr}
use Rattle.script_text.specs.declared.reason.ReadErr.TheVariants as read_err
use Rattle.script_text.specs.declared.script.Script.{Script}
use Rattle.std.specs.Prelude.{Bool, Err, List, None, Option, Some, [], bytes_eq, codes, false, ℕ, ◌∷◌, ◌≡◌}
use Rattle.streams.specs.declared.reading.ReadFailure.{ReadFailure}
use Rattle.streams.specs.declared.reading.ReadFailure.TheVariants as read_failure

-- whether these words ask for the script to be printed
abbrev pub asks_for_print : List (List ℕ) → Bool
asks_for_print [] = false
asks_for_print (w ∷ []) = bytes_eq w (codes "--print")
asks_for_print (w ∷ v ∷ ws) = false

-- the failure of a read that failed
abbrev pub failure_of_read : ReadFailure → CopyFailure
failure_of_read read_failure.Fault = failure.ReadFault
failure_of_read read_failure.NoMemory = failure.NoMemory

-- the failure where the bytes aren't read as a script
abbrev pub copy_failure : ReadErr → CopyFailure
copy_failure read_err.NoMemory = failure.NoMemory
copy_failure (read_err.Bad line why) = failure.Script line why

-- the status that the program ends with
abbrev pub status_of : CopyFailure → ℕ
status_of failure.ReadFault = 101
status_of failure.WriteFault = 102
status_of (failure.Script line why) = 103
status_of failure.NoMemory = 106

-- the bytes that the source had left spell this script, if it tells them
abbrev pub Holds : Option (List ℕ) → Script → Type 0
Holds None script = Unit {0}
Holds (Some told) script = Spells told script

-- the sink has what it had before, and then the printed text of the script that the source held
abbrev pub Copies : Option (List ℕ) → Option (List ℕ) → Option (List ℕ) → Type 0
Copies source before after = (script : Script) × Holds source script
    × (after ≡ after_append before (text_of_script script))

-- what a failure leaves of the sink: after a write fault a first part of the printed text, which lacks a byte at least; else
-- what it had before
abbrev pub Leaves : Option (List ℕ) → Option (List ℕ) → Option (List ℕ) → CopyFailure → Type 0
Leaves source before after failure.WriteFault = (script : Script) × Holds source script
    × AppendsPart before after (text_of_script script)
Leaves source before after failure.ReadFault = after ≡ before
Leaves source before after (failure.Script line why) = after ≡ before
Leaves source before after failure.NoMemory = after ≡ before

-- the failure comes before anything is written
abbrev pub IsOfReading : CopyFailure → Type 0
IsOfReading failure.WriteFault = ⊥
IsOfReading failure.ReadFault = Unit {0}
IsOfReading (failure.Script line why) = Unit {0}
IsOfReading failure.NoMemory = Unit {0}

-- where the failure names a line, it is the first bad one of the bytes that the source had left, with the first reason
-- that fits
abbrev pub Refuses : Option (List ℕ) → CopyFailure → Type 0
Refuses (Some told) (failure.Script line why) = verdict told ≡ Err (line, why)
Refuses (Some told) _ = Unit {0}
Refuses None _ = Unit {0}
