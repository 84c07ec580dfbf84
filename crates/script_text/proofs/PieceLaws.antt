-- What a reader of pieces knows after one more piece, and at the end.
use Rattle.std.proofs.Common.{◌≡◌, ℕ, ◌+◌, ◌-◌, ◌≤◌, ◌<◌, Bool, true, false, cond, ltb, fold, List, ◌++◌}
use Rattle.std.proofs.Common.{length, Result, Err, refl, sym, ap, subst, ◌∙◌, arith, length-append}
use Rattle.std.proofs.lemmas.Bool.{le-ltb, lt-ltb, ltb-true, ltb-false}
use Rattle.script_text.specs.declared.reason.Reason.TheVariants as reason
use Rattle.script_text.specs.declared.reason.Reason.{Reason}
use Rattle.script_text.specs.declared.reason.ReadErr.{ReadErr}
use Rattle.script_text.specs.declared.script.Script.{Script}
use Rattle.script_text.specs.Pieces.{IsTail, SoFar, Standing, Standing.Reads, Standing.TooLong, StandsAfter, so_far, standing}
use Rattle.script_text.specs.Spelling.{line_cut, verdict, Gives}
use Rattle.script_text.specs.Track.{start, step, answer_at}
use Rattle.script_text.proofs.CutLaws.{tail_of_cut, piece_lines, piece_tail}
use Rattle.script_text.specs.Kept.{kept_bytes}
use Rattle.script_text.proofs.FoldLaws.{verdict_folds}
use Rattle.script_text.proofs.KeptLaws.{kept_tail, kept_piece, kept_answer}
use Rattle.script_text.proofs.ScriptLaws.{verdict_long, verdict_short}

-- a reader that has something of the text has all of it, and the text isn't too long
short_read : (r : SoFar) (text : List ℕ) → StandsAfter (Reads r) text → (length text ≤ 16777216) × (r ≡ so_far text)
short_read r text h = elim (ltb 16777216 (length text)) as
    (λ v. ltb 16777216 (length text) ≡ v → Reads r ≡ cond v TooLong (Reads (so_far text)) → (length text ≤ 16777216) × (r ≡ so_far text)) [
      | true ↦ λ e f. absurd (cc)
      | false ↦ λ e f. (ltb-false 16777216 (length text) e, cc)
    ] refl h

long_read : (text : List ℕ) → StandsAfter TooLong text → 16777216 < length text
long_read text h = elim (ltb 16777216 (length text)) as
    (λ v. ltb 16777216 (length text) ≡ v → TooLong ≡ cond v TooLong (Reads (so_far text)) → 16777216 < length text) [
      | true ↦ λ e f. ltb-true 16777216 (length text) e
      | false ↦ λ e f. absurd (cc)
    ] refl h

reads_short : (r : SoFar) (text : List ℕ) → length text ≤ 16777216 → r ≡ so_far text → StandsAfter (Reads r) text
reads_short r text short same = rw (le-ltb 16777216 (length text) short) (ap (λ (x : SoFar). Reads x) same)

reads_long : (text : List ℕ) → 16777216 < length text → StandsAfter TooLong text
reads_long text long = rw (lt-ltb 16777216 (length text) long) refl

-- a reader whose flags are these
pub read_small : (failed is_large : Bool) (r : SoFar) (now : Standing) (text : List ℕ) → standing failed is_large r ≡ now → failed ≡ false
    → is_large ≡ false → StandsAfter now text → StandsAfter (Reads r) text
read_small failed is_large r now text is sound small h = sym (ap (λ v. standing v is_large r) sound ∙ ap (λ v. standing false v r) small) ∙ is ∙ h

pub read_large : (failed is_large : Bool) (r : SoFar) (now : Standing) (text : List ℕ) → standing failed is_large r ≡ now → failed ≡ false
    → is_large ≡ true → StandsAfter now text → StandsAfter TooLong text
read_large failed is_large r now text is sound large h = sym (ap (λ v. standing v is_large r) sound ∙ ap (λ v. standing false v r) large) ∙ is ∙ h

pub reads_small : (is_large : Bool) (r : SoFar) (text : List ℕ) → is_large ≡ false → StandsAfter (Reads r) text → StandsAfter (standing false is_large r) text
reads_small is_large r text small h = ap (λ v. standing false v r) small ∙ h

pub reads_large : (failed : Bool) (r : SoFar) (text : List ℕ) → failed ≡ false → StandsAfter TooLong text → StandsAfter (standing failed true r) text
reads_large failed r text sound h = ap (λ v. standing v true r) sound ∙ h

-- one more piece, all of which was read
pub feeds : (old new : SoFar) (piece : List ℕ) → length piece ≤ 16777216 - old.total
    → (IsTail old.tail → new.lines ≡ fold step old.lines (line_cut (old.tail ++ piece)).0)
    → (IsTail old.tail → new.tail ≡ kept_bytes (line_cut (old.tail ++ piece)).1)
    → new.total ≡ old.total + length piece
    → (text : List ℕ) → StandsAfter (Reads old) text → StandsAfter (Reads new) (text ++ piece)
feeds old new piece within lines tail total text h =
    let k = short_read old text h in
    let was : old.total ≡ length text = ap (λ (r : SoFar). r.total) k.1 in
    let lines_were : old.lines ≡ fold step start (line_cut text).0 = ap (λ (r : SoFar). r.lines) k.1 in
    let tail_was : old.tail ≡ kept_bytes (line_cut text).1 = ap (λ (r : SoFar). r.tail) k.1 in
    let t : IsTail old.tail = subst IsTail (sym tail_was) (kept_tail (line_cut text).1 (tail_of_cut text)) in
    let count : length (text ++ piece) ≡ length text + length piece = length-append text piece in
    let behind = (line_cut text).1 in
    let same = kept_piece old.lines behind piece (tail_of_cut text) in
    let total_is : new.total ≡ length (text ++ piece) = omega (arith, total, was, count) in
    let lines_are : new.lines
    ≡ fold step start (line_cut (text ++ piece)).0 = lines t
    ∙ ap (λ (l : List ℕ). fold step old.lines (line_cut (l ++ piece)).0) tail_was ∙ same.0 ∙ piece_lines old.lines text behind piece lines_were refl in
    let tail_is : new.tail
    ≡ kept_bytes (line_cut (text ++ piece)).1 = tail t ∙ ap (λ (l : List ℕ). kept_bytes (line_cut (l ++ piece)).1) tail_was ∙ same.1
    ∙ ap kept_bytes (piece_tail text behind piece refl) in
    reads_short new (text ++ piece) (omega (arith, count, was, within, k.0)) (λ i. record { total = total_is i; lines = lines_are i; tail = tail_is i })

-- one more piece of a text that is too long
pub feeds_more : (piece text : List ℕ) → StandsAfter TooLong text → StandsAfter TooLong (text ++ piece)
feeds_more piece text h = reads_long (text ++ piece) (omega (arith, long_read text h, length-append text piece))

-- the piece that makes it too long
pub feeds_over : (old : SoFar) (piece : List ℕ) → 16777216 < length piece + old.total → (text : List ℕ) → StandsAfter (Reads old) text
    → StandsAfter TooLong (text ++ piece)
feeds_over old piece over text h =
    reads_long (text ++ piece) (omega (arith, over, ap (λ (r : SoFar). r.total) (short_read old text h).1, length-append text piece))

-- ---- The end.

pub finish_large : (text : List ℕ) → StandsAfter TooLong text → verdict text ≡ Err (0, reason.TooLarge)
finish_large text h = verdict_long text (lt-ltb 16777216 (length text) (long_read text h))

pub finish_gives : (r : SoFar) (text : List ℕ) (result : Result Script ReadErr) → StandsAfter (Reads r) text
    → Gives (answer_at r.lines r.tail) result → Gives (verdict text) result
finish_gives r text result h given =
    let k = short_read r text h in
    let same : answer_at r.lines r.tail
    ≡ verdict text = ap (λ (x : SoFar). answer_at x.lines x.tail) k.1
    ∙ kept_answer (fold step start (line_cut text).0) (line_cut text).1 ∙ verdict_folds (line_cut text).0 (line_cut text).1
    ∙ sym (verdict_short text k.0) in
    subst (λ (v : Result Script (ℕ × Reason)). Gives v result) same given
