-- What holds of the errors of all texts, and of the faults of all lines.
use Rattle.std.specs.Prelude.{◌≡◌, ◌≢◌, ◌↔◌, ℕ, List, [], ◌∷◌, Err, take, not, ◌&&◌, is_some}
use Rattle.lwp_types.specs.TextFields.{is_printable}
use Rattle.script_lines.specs.Reading.{phrase_at}
use Rattle.script_text.specs.declared.reason.Reason.{Reason}
use Rattle.script_text.specs.declared.script.Script.{Script}
use Rattle.script_text.specs.Grammar.{Spells}
use Rattle.script_text.specs.Spelling.{verdict}
use Rattle.script_advice.specs.Advice.{grade_of, remarks, report}
use Rattle.script_advice.specs.Errors.{errors}
use Rattle.script_advice.specs.Faults.{fault_of}
use Rattle.script_advice.specs.Remarks.{Remark}
use Rattle.script_advice.specs.declared.remarks.Cause.TheVariants as cause
use Rattle.script_advice.specs.declared.advice.Grade.TheVariants as grade
use Rattle.script_advice.specs.declared.texts.Format.{Format}

-- the first of these is of this line, for this reason
abbrev pub BeginsWith : List Remark → ℕ → Reason → Type 0
BeginsWith [] n why = ⊥
BeginsWith (r ∷ rs) n why = (r.line ≡ n) × (r.cause ≡ cause.Bad why)

-- where the reader refuses a text, the first error is of the reader's line, for the reader's reason
abbrev pub FirstIsReaders : List ℕ → Type 0
FirstIsReaders text = (n : ℕ) (why : Reason) → verdict text ≡ Err (n, why) → BeginsWith (errors text) n why

-- a text that spells a script isn't wrong, and has no errors; any other is wrong, and has some
pub record IsFineWhereSpelt (text : List ℕ) : Type 0 where
  pub none : (errors text ≡ []) ↔ ((script : Script) × Spells text script)
  pub fine : (script : Script) → Spells text script → grade_of text ≢ grade.Wrong
  pub wrong : grade_of text ≢ grade.Wrong → (script : Script) × Spells text script

-- what is told of a text that is wrong are its errors
abbrev pub AreErrorsTold : List ℕ → Type 0
AreErrorsTold text = grade_of text ≡ grade.Wrong → remarks text ≡ errors text

-- of a text that is too long, no more has to be read than its first 16,777,217 bytes
pub record IsKnownByFront (f : Format) (text : List ℕ) : Type 0 where
  pub report : report f (take 16777217 text) ≡ report f text
  pub grade : grade_of (take 16777217 text) ≡ grade_of text

-- a line has a fault exactly where it isn't the printable text of a phrase
abbrev pub IsFaultedWhereUnsaid : List ℕ → Type 0
IsFaultedWhereUnsaid line = is_some (fault_of line) ≡ not (is_printable line && is_some (phrase_at line))
