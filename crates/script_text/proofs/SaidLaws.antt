-- What a line that says something is besides: it declares what its phrase does.
use Rattle.std.proofs.Common.{◌≡◌, ℕ, suc, true, false, not, ◌||◌, cond, eqb, ltb, List, [], ◌∷◌, ◌++◌, length}
use Rattle.std.proofs.Common.{take, Option, Some, None, is_none, refl, ap, subst, ◌∙◌, arith, length-append}
use Rattle.std.specs.List.{flat_map, AllByRecursion}
use Rattle.std.proofs.lemmas.Bool.{lt-ltb}
use Rattle.std.proofs.lemmas.List.{append-nil, take_at}
use Rattle.script_text.specs.declared.reader.Declared.{Declared}
use Rattle.script_text.specs.declared.reason.Reason.{Reason}
use Rattle.script_lines.specs.declared.table.Op.TheVariants as op
use Rattle.script_lines.specs.Phrase.{Phrase}
use Rattle.script_lines.specs.Words.{is_name, reach}
use Rattle.script_lines.specs.Table.{row_of, key_of, role_of, slots_of, starts}
use Rattle.script_lines.specs.Line.{built_text, slot_text, phrase_text, SlotFits, IsPhrase}
use Rattle.script_text.specs.Grammar.{declares}
use Rattle.script_lines.specs.Reading.{first_word, phrase_at}
use Rattle.script_text.specs.Declaring.{spaced_word}
use Rattle.script_text.specs.Spelling.{word_reason, after_note}
use Rattle.script_lines.proofs.WordLemmas.{reach-append}
use Rattle.script_lines.proofs.TableLaws.{on_all}
use Rattle.script_lines.proofs.PhraseLaws.{phrase_found, slots_stop, stops_there, name_is_whole}

-- ---- What it declares.

spaced_name : (w rest : List ℕ) → is_name w ≡ true → spaced_word (w ++ 32 ∷ rest) ≡ w
spaced_name w rest h =
    let n : reach 32 (w ++ 32 ∷ rest) ≡ length w = reach-append 32 w (32 ∷ rest) (name_is_whole w h) refl in
    let less : ltb (length w) (length (w ++ 32 ∷ rest)) ≡ true = lt-ltb _ _ (omega (arith, length-append w (32 ∷ rest))) in
    rw (n, less, take_at w (32 ∷ rest) (length w) refl) refl

phrase_declares : (d : Declared) (p : Phrase) → IsPhrase p → after_note d (phrase_text p) ≡ declares (role_of p.op) d p
unfolding row_of
phrase_declares d p h = elim p.op as
    (λ o. AllByRecursion (SlotFits p) (slots_of o) → after_note d (key_of o ++ flat_map (slot_text p) (slots_of o)) ≡ declares (role_of o) d p) [
      | op.Native ↦ λ f. rw (append-nil (32 ∷ built_text p.event p.thread), spaced_name p.procedure (built_text p.event p.thread) f.0, f.0) refl
      | op.Proc ↦ λ f. rw (append-nil p.procedure, f.0) refl
      | _ ↦ λ f. refl
    ] h

pub said_declares : (d : Declared) (line : List ℕ) (p : Phrase) → phrase_at line ≡ Some p → after_note d line ≡ declares (role_of p.op) d p
said_declares d line p e = let f = phrase_found line p e in ap (after_note d) f.1 ∙ phrase_declares d p f.0

-- ---- Lines that start a procedure.

-- what follows a key changes nothing of its first word
first_of_key : (w r : List ℕ) → reach 32 r ≡ 0 → first_word (w ++ r) ≡ first_word w
first_of_key [] r s = rw s refl
first_of_key (b ∷ bs) r s = elim (eqb b 32) as (λ v. take (cond v 0 (suc (reach 32 (bs ++ r)))) (b ∷ bs ++ r) ≡ take (cond v 0 (suc (reach 32 bs))) (b ∷ bs)) [
  | true ↦ refl
  | false ↦ ap (λ l. b ∷ l) (first_of_key bs r s)
]

-- no reason comes from their first word
pub starting_word : (line : List ℕ) (p : Phrase) → phrase_at line ≡ Some p → starts p.op ≡ true → word_reason (first_word line) ≡ None
unfolding row_of
starting_word line p e s =
    let f = phrase_found line p e in
    let by_table : (not (starts p.op) || is_none (word_reason (first_word (key_of p.op))))
    ≡ true = on_all (λ o. not (starts o) || is_none (word_reason (first_word (key_of o)))) refl p.op in
    let first : first_word line
    ≡ first_word (key_of p.op) = ap first_word f.1 ∙ first_of_key (key_of p.op) (flat_map (slot_text p) (slots_of p.op)) (stops_there _ (slots_stop p)) in
    ap word_reason first
    ∙ none_of (word_reason (first_word (key_of p.op))) (subst (λ b. (not b || is_none (word_reason (first_word (key_of p.op)))) ≡ true) s by_table)
  where
    none_of : (o : Option Reason) → is_none o ≡ true → o ≡ None
    none_of None h = refl
    none_of (Some x) h = absurd cc
