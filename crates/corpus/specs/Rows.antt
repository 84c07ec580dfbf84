-- What is said of a row.
use Rattle.std.specs.Prelude.{Bool, List, drop, false, if◌then◌else◌, length, slice_index, ℕ, ◌-◌, ◌==◌, ◌||◌, ◌≡◌}
use Rattle.corpus.specs.Lines.{IsFirstDifference, lines}
use Rattle.corpus.specs.declared.verdict.Verdict.{Verdict}
use Rattle.corpus.specs.declared.verdict.Verdict.TheVariants as verdict

-- whether a line begins at this byte
abbrev pub begins_line : ℕ → List ℕ → Bool
begins_line n text = n == 0 || slice_index text (n - 1) == 10

-- the last so many bytes of a text, if they are whole lines; else all of it
abbrev pub ending : ℕ → List ℕ → List ℕ
ending n text = if begins_line (length text - n) text then drop (length text - n) text else text

-- what is said of a status and a text, by those that are wanted
abbrev pub Says : ℕ → List ℕ → ℕ → List ℕ → Verdict → Type 0
Says status text wanted_status wanted verdict.Same = (text ≡ wanted) × (status ≡ wanted_status)
Says status text wanted_status wanted (verdict.Status found) = (text ≡ wanted) × (found ≡ status)
    × ((status == wanted_status) ≡ false)
Says status text wanted_status wanted (verdict.Line d) =
    IsFirstDifference d.number d.found.now d.wanted.now (lines text) (lines wanted)
