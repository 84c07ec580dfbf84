-- What was read of an input, and what there was.
use Rattle.batch.specs.Parts.{content}
use Rattle.batch.specs.declared.part.Part.{Part}
use Rattle.lwp_serve.specs.Replaying.Found.{IsInput}
use Rattle.lwp_serve.specs.Replaying.Input.{recorded_in, script_in}
use Rattle.lwp_serve.specs.Replaying.Replay.{Holds, HoldsNone}
use Rattle.script_text.specs.Spelling.{verdict}
use Rattle.script_text.specs.declared.script.Script.{Script}
use Rattle.std.proofs.Common.{List, None, Ok, Option, Some, ap, arith, inl, inr, length, length-take, refl, sym, take, take_all, ℕ, ◌<◌, ◌∙◌, ◌≡◌}
use Rattle.std.proofs.lemmas.Bool.{cases_lt, lt-ltb}
use Rattle.streams.specs.Limited.{HasFront}

-- too long a text is no input
script-long : (text : List ℕ) → 268435456 < length text → script_in text ≡ None
script-long text long = rw (lt-ltb 268435456 (length text) long) refl

-- the script of what was read is that of all that there was
same-script : (told : List ℕ) → script_in (take 268435457 told) ≡ script_in told
same-script told = elim (cases_lt 268435456 (length told)) [
  | inl long ↦ script-long (take 268435457 told) (omega (arith, length-take 268435457 told, long)) ∙ sym (script-long told long)
  | inr short ↦ ap script_in (take_all 268435457 told (omega (arith, short)))
]

pub none-of : (left : Option (List ℕ)) (text : List ℕ) → HasFront 268435457 left text → script_in text ≡ None → HoldsNone left
none-of None text front bad = tt
none-of (Some told) text front bad = sym (same-script told) ∙ ap script_in (sym front) ∙ bad

pub input-of : (left : Option (List ℕ)) (text : List ℕ) (part : Part) → HasFront 268435457 left text → script_in text ≡ Some part → IsInput left text part
input-of None text part front good = good
input-of (Some told) text part front good = elim (cases_lt 268435456 (length told)) [
  | inl long
      ↦ (let bad : script_in text ≡ None = ap script_in front ∙ same-script told ∙ script-long told long in
      let no : ◌≡◌ {A = Option Part} (Some part) None = sym good ∙ bad in absurd (cc no))
  | inr short ↦ (sym (front ∙ take_all 268435457 told (omega (arith, short))), good)
]

-- the script and the recorded bytes of what was read are those of all that there was
pub holds-of : (left : Option (List ℕ)) (text : List ℕ) (part : Part) (script : Script) → IsInput left text part
    → verdict (content text part) ≡ Ok script → Holds left script (recorded_in text part)
holds-of None text part script input spelt = tt
holds-of (Some told) text part script input spelt =
    (part, ap script_in input.0 ∙ input.1, ap (λ bytes. verdict (content bytes part)) input.0 ∙ spelt, ap (λ bytes. recorded_in bytes part) (sym input.0))
