-- What holds of all texts and scripts.
use Rattle.std.specs.Prelude.{◌≡◌, ◌≢◌, ◌↔◌, ◌⊎◌, ◌<◌, ℕ, suc, true, List, [], ◌∷◌, ◌++◌, length, map, Ok, Err, IsTrue, if◌then◌else◌}
use Rattle.std.specs.List.{AllByRecursion}
use Rattle.lwp_types.specs.TextFields.{is_printable}
use Rattle.script_lines.specs.Phrase.{Phrase}
use Rattle.script_lines.specs.Line.{phrase_text, IsLine}
use Rattle.script_text.specs.Grammar.{AllStand, may_stand, is_declared, Spells}
use Rattle.script_text.specs.Meaning.{script_of}
use Rattle.script_text.specs.Spelling.{declared_in, line_cut, reason_at, verdict}
use Rattle.script_text.specs.declared.reader.Declared.{Declared}
use Rattle.script_text.specs.declared.reason.Reason.{Reason}
use Rattle.script_text.specs.declared.reason.Reason.TheVariants as reason
use Rattle.script_text.specs.declared.script.Script.{Script}

-- a text spells one script at most
abbrev pub SpellsOne : List ℕ → Type 0
SpellsOne text = (s t : Script) → Spells text s → Spells text t → s ≡ t

-- the verdict on a text is a script exactly where the text spells it
abbrev pub IsVerdict : List ℕ → Type 0
IsVerdict text = (s : Script) → (Spells text s ↔ (verdict text ≡ Ok s))

-- ---- The first bad line.

-- each of these lines is good where it stands, in a text that declares these procedures
pub record AreGood (declared : Declared) (lines : List Phrase) : Type 0 where
  pub are_lines : AllByRecursion IsLine lines
  pub stand : AllStand [] lines
  pub all_declared : AllByRecursion (λ p. IsTrue (is_declared declared p)) lines

-- the text of no line that may stand after these, and starts a declared procedure if it starts one
abbrev pub IsBadLine : Declared → List Phrase → List ℕ → Type 0
IsBadLine declared before text = (p : Phrase) → IsLine p → text ≡ phrase_text p
    → may_stand before p ≡ true → is_declared declared p ≢ true

-- After these good lines the next one is bad, for its bytes or for what it is there; or the last has no end; or all
-- lines are good, and none begins a procedure.
abbrev pub IsBadBehind : Declared → List Phrase → List (List ℕ) → List ℕ → Reason → Type 0
IsBadBehind declared before (line ∷ lines) tail why = IsBadLine declared before line
    × (why ≡ (if is_printable line then reason_at before line else reason.Bytes))
IsBadBehind declared before [] (b ∷ tail) why = why ≡ reason.Unended
IsBadBehind declared before [] [] why = (length (script_of before).procs ≡ 0) × (why ≡ reason.Missing)

-- these lines, and the bytes after the last newline, are good lines, and then the one of this number, which is bad
pub record IsFirstBad (lines : List (List ℕ)) (tail : List ℕ) (line : ℕ) (why : Reason)
    (before : List Phrase) (behind : List (List ℕ)) : Type 0 where
  pub lines_are : lines ≡ map phrase_text before ++ behind
  pub number : line ≡ suc (length before)
  pub good : AreGood (declared_in (lines ++ tail ∷ [])) before
  pub bad : IsBadBehind (declared_in (lines ++ tail ∷ [])) before behind tail why

-- A text that is no script is too large, or has a first bad line: the verdict names it, and why it is bad.
abbrev pub IsBlamed : List ℕ → Type 0
IsBlamed text = (line : ℕ) (why : Reason) → verdict text ≡ Err (line, why)
    → (16777216 < length text) × (line ≡ 0) × (why ≡ reason.TooLarge)
    ⊎ (before : List Phrase) × (behind : List (List ℕ))
    × IsFirstBad (line_cut text).0 (line_cut text).1 line why before behind
