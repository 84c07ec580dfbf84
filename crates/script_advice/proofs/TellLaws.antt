-- What is told of one line in front of others.
use Rattle.std.proofs.Common.{◌≡◌, ℕ, zero, suc, ◌<◌, ◌-◌, ◌∙◌, Bool, false, List, ◌∷◌, ◌++◌, take, Option, Some, sym, arith, append_assoc}
use Rattle.script_text.specs.declared.reader.Declared.{Declared}
use Rattle.script_text.specs.declared.reason.Reason.{Reason}
use Rattle.script_advice.specs.declared.texts.Format.{Format}
use Rattle.script_advice.specs.declared.told.Told.{Told}
use Rattle.script_advice.specs.Above.{told_with, untold}
use Rattle.script_advice.specs.Errors.{later, with_error}
use Rattle.script_advice.specs.Remarks.{Remark, remark_of}
use Rattle.script_advice.specs.Texts.{remark_text, remarks_text}

-- where an error was told, one fewer of the others is
pub told_some : (f : Format) (d : Declared) (n : ℕ) (line : List ℕ) (why : Reason) (x : Option Reason) (left : ℕ) (out new : List ℕ) (others : List Remark)
    → x ≡ Some why → 0 < left → new ≡ out ++ remark_text f (remark_of d false n why line)
    → out ++ remarks_text f (take left (with_error d n line x others)) ≡ new ++ remarks_text f (take (left - 1) others)
told_some f d n line why x zero out new others e h i = absurd (omega arith)
told_some f d n line why x (suc l) out new others e h i =
    let m : suc l - 1 ≡ l = omega arith in
    rw (e, m, i) (sym (append_assoc out (remark_text f (remark_of d false n why line)) (remarks_text f (take l others))))

-- where a remark may be told, one fewer of the others is
pub told_one : (f : Format) (r : Remark) (left : ℕ) (out new : List ℕ) (others : List Remark) → 0 < left → new ≡ out ++ remark_text f r
    → out ++ remarks_text f (take left (r ∷ others)) ≡ new ++ remarks_text f (take (left - 1) others)
told_one f r zero out new others h i = absurd (omega arith)
told_one f r (suc l) out new others h i =
    let m : suc l - 1 ≡ l = omega arith in
    rw (m, i) (sym (append_assoc out (remark_text f r) (remarks_text f (take l others))))

-- the first bad line was told, and then those after it
pub told_first : (f : Format) (d : Declared) (above : Bool) (n next : ℕ) (why : Reason) (bad : List ℕ) (told : Told) (lines : List (List ℕ))
    (tail out mid new : List ℕ)
    →
    next ≡ suc n → told ≡ told_with d untold why bad → mid ≡ out ++ remark_text f (remark_of d above n why bad) →
    new ≡ mid ++ remarks_text f (take 999 (later d told next lines tail)) →
    new ≡ out ++ remarks_text f (take 1000 (remark_of d above n why bad ∷ later d (told_with d untold why bad) (suc n) lines tail))
told_first f d above n next why bad told lines tail out mid new e h i j =
    j
    ∙ rw (i, h, e) (append_assoc out (remark_text f (remark_of d above n why bad))
    (remarks_text f (take 999 (later d (told_with d untold why bad) (suc n) lines tail))))
