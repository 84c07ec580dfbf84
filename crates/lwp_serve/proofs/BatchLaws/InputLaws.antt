-- What was read of an input, and what there was.
use Rattle.batch.specs.Parts.{parts_of}
use Rattle.batch.specs.declared.part.Part.{Part}
use Rattle.lwp_serve.specs.Batches.Batch.{HasBad, IsInput, Reports}
use Rattle.lwp_serve.specs.Batches.Report.{report_of}
use Rattle.std.proofs.Common.{Err, List, None, Ok, Option, Some, ap, arith, inl, inr, length, length-take, refl, sym, take, take_all, ℕ, ◌<◌, ◌∙◌, ◌≡◌}
use Rattle.std.proofs.lemmas.Bool.{cases_lt, lt-ltb}
use Rattle.streams.specs.Limited.{HasFront}

-- too long an input is bad from its first part on
parts-long : (bytes : List ℕ) → 33554432 < length bytes → parts_of bytes ≡ Err 0
parts-long bytes long = rw (lt-ltb 33554432 (length bytes) long) refl

-- the parts of what was read are those of all that there was
same-parts : (told : List ℕ) → parts_of (take 33554433 told) ≡ parts_of told
same-parts told = elim (cases_lt 33554432 (length told)) [
  | inl long ↦ parts-long (take 33554433 told) (omega (arith, length-take 33554433 told, long)) ∙ sym (parts-long told long)
  | inr short ↦ ap parts_of (take_all 33554433 told (omega (arith, short)))
]

pub bad-of : (left : Option (List ℕ)) (text : List ℕ) (part : ℕ) → HasFront 33554433 left text → parts_of text ≡ Err part → HasBad left part
bad-of None text part front bad = tt
bad-of (Some told) text part front bad = sym (same-parts told) ∙ ap parts_of (sym front) ∙ bad

pub input-of : (left : Option (List ℕ)) (text : List ℕ) (parts : List Part) → HasFront 33554433 left text → parts_of text ≡ Ok parts → IsInput left text parts
input-of None text parts front good = good
input-of (Some told) text parts front good = elim (cases_lt 33554432 (length told)) [
  | inl long
      ↦ (let bad : parts_of text ≡ Err 0 = ap parts_of front ∙ same-parts told ∙ parts-long told long in
      let no : Ok parts ≡ Err 0 = sym good ∙ bad in absurd (cc no))
  | inr short ↦ (sym (front ∙ take_all 33554433 told (omega (arith, short))), good)
]

pub reports-of : (turns : ℕ) (left : Option (List ℕ)) (text : List ℕ) (parts : List Part) (report : List ℕ) → IsInput left text parts
    → report ≡ report_of turns text parts → Reports turns left report
reports-of turns None text parts report input is = tt
reports-of turns (Some told) text parts report input is =
    (parts, ap parts_of input.0 ∙ input.1, is ∙ ap (λ bytes. report_of turns bytes parts) (sym input.0))
