-- A line that says something is printable.
use Rattle.std.proofs.Common.{◌≡◌, ℕ, ◌<◌, ◌^◌, Bool, true, false, ◌&&◌, eqb, leb, List, [], ◌∷◌, ◌++◌, length, Some, refl, sym, subst, arith, inl, inr}
use Rattle.std.specs.List.{flat_map, AllByRecursion}
use Rattle.std.specs.Str.{all_ascii_digits}
use Rattle.std.specs.Char.{is_ascii_digit}
use Rattle.std.specs.Fmt.{decimal}
use Rattle.std.proofs.lemmas.Bool.{ne_eqb}
use Rattle.std.proofs.lemmas.Bool.Decides.{nat_tests}
use Rattle.std.proofs.lemmas.List.Folds.{list_all-append}
use Rattle.std.proofs.lemmas.Fmt.{digits_decimal}
use Rattle.lwp_types.specs.TextFields.{is_printable, is_text}
use Rattle.lwp_types.specs.declared.call.Flags.{Flags}
use Rattle.lwp_types.specs.declared.call.Func.{Func}
use Rattle.lwp_types.specs.declared.call.Func.TheVariants as func
use Rattle.lwp_types.specs.declared.call.Mode.{Mode}
use Rattle.lwp_types.specs.declared.call.Mode.TheVariants as mode
use Rattle.lwp_types.specs.declared.call.Pattern.{Pattern}
use Rattle.lwp_types.specs.declared.call.Pattern.TheVariants as pattern
use Rattle.script_lines.specs.declared.table.Test.{Test}
use Rattle.script_lines.specs.declared.table.Test.TheVariants as test
use Rattle.script_lines.specs.declared.table.Kind.{Kind}
use Rattle.script_lines.specs.declared.table.Kind.TheVariants as kind
use Rattle.script_lines.specs.declared.table.Whom.{Whom}
use Rattle.script_lines.specs.declared.table.Whom.TheVariants as whom
use Rattle.script_lines.specs.Phrase.{Phrase}
use Rattle.script_lines.specs.Words.{is_name}
use Rattle.script_lines.specs.Table.{Row, key_of, slots_of}
use Rattle.trace_text.specs.Lines.{with_space, flags_text, mode_text, pattern_text, func_text}
use Rattle.script_lines.specs.Line.{who_text, built_text, test_text, SourceFits, TestFits, PatternFits}
use Rattle.script_lines.specs.Line.{ModeFits, BuiltFits, slot_text, phrase_text, SlotFits, IsPhrase}
use Rattle.script_lines.specs.Reading.{flags_by, phrase_at}
use Rattle.script_lines.proofs.TableLaws.{on_rows}
use Rattle.script_lines.proofs.WordLemmas.{both, name_is_text, own}
use Rattle.script_lines.proofs.PhraseLaws.{phrase_found, who_is_source}

printable_append : (xs ys : List ℕ) → is_printable xs ≡ true → is_printable ys ≡ true → is_printable (xs ++ ys) ≡ true
printable_append xs ys h k = rw (list_all-append (λ b. leb 32 b && leb b 126) xs ys, h, k) refl

digit_is_printable : (b : ℕ) → is_ascii_digit b ≡ true → (leb 32 b && leb b 126) ≡ true
digit_is_printable b h = grind (arith, nat_tests)

digits_are_printable : (bs : List ℕ) → all_ascii_digits bs ≡ true → is_printable bs ≡ true
digits_are_printable [] h = refl
digits_are_printable (b ∷ bs) h =
    let t = both (is_ascii_digit b) (all_ascii_digits bs) h in
    rw (digit_is_printable b t.0, digits_are_printable bs t.1) refl

number_is_printable : (n : ℕ) → n < 2 ^ 32 → is_printable (decimal n) ≡ true
number_is_printable n h = digits_are_printable (decimal n) (digits_decimal own n (omega arith))

text_is_printable : (w : List ℕ) → is_text w ≡ true → is_printable w ≡ true
text_is_printable w h = (both (leb (length w) 240) (is_printable w) h).1

name_is_printable : (w : List ℕ) → is_name w ≡ true → is_printable w ≡ true
name_is_printable w h = text_is_printable w (name_is_text w h)

who_is_printable : (x : Whom) (w : List ℕ) → SourceFits x w → is_printable (who_text x w) ≡ true
who_is_printable whom.Named w h = name_is_printable w h
who_is_printable whom.Me w h = refl
who_is_printable whom.First w h = refl
who_is_printable whom.Sender w h = refl
who_is_printable whom.Nobody w h = refl
who_is_printable whom.Any w h = refl

flags_are_printable : (f : Flags) → is_printable (flags_text f) ≡ true
flags_are_printable f = by_letters f.suspended f.nolastrites f.server
  where
    by_letters : (s n v : Bool) → is_printable (flags_text (flags_by s n v)) ≡ true
    by_letters false false false = refl
    by_letters true false false = refl
    by_letters false true false = refl
    by_letters true true false = refl
    by_letters false false true = refl
    by_letters true false true = refl
    by_letters false true true = refl
    by_letters true true true = refl

mode_is_printable : (m : Mode) → ModeFits m → is_printable (mode_text m) ≡ true
mode_is_printable mode.Poll h = refl
mode_is_printable mode.Block h = refl
mode_is_printable (mode.Until n) h = number_is_printable n h

func_is_printable : (x : Func) → is_printable (func_text x) ≡ true
func_is_printable func.Nothing = refl
func_is_printable func.Give = refl
func_is_printable func.Sum = refl

pattern_is_printable : (x : Pattern) → PatternFits x → is_printable (pattern_text x) ≡ true
pattern_is_printable pattern.All h = refl
pattern_is_printable (pattern.Num n) h = number_is_printable n h

test_is_printable : (x : Test) → TestFits x → is_printable (test_text x) ≡ true
test_is_printable test.Fine h = refl
test_is_printable test.Refused h = refl
test_is_printable test.Caught h = refl
test_is_printable (test.Value n) h = number_is_printable n h

built_is_printable : (e : ℕ) (w : List ℕ) → BuiltFits e w → is_printable (built_text e w) ≡ true
built_is_printable e w (inl h) = rw h.0 refl
built_is_printable e w (inr h) =
    let some : eqb e 0 ≡ false = ne_eqb e 0 (λ z. omega (arith, h.0.0)) in
    rw some (printable_append (decimal e) (32 ∷ w) (number_is_printable e (omega (arith, h.0.1))) (name_is_printable w h.1))

spaced_is_printable : (w : List ℕ) → is_text w ≡ true → is_printable (with_space w) ≡ true
spaced_is_printable [] h = refl
spaced_is_printable (b ∷ bs) h = text_is_printable (b ∷ bs) h

slot_is_printable : (p : Phrase) (k : Kind) → SlotFits p k → is_printable (slot_text p k) ≡ true
slot_is_printable p kind.Thread h = name_is_printable p.thread h
slot_is_printable p kind.Who h = who_is_printable p.who p.thread (who_is_source p.who p.thread h)
slot_is_printable p kind.Source h = who_is_printable p.who p.thread h
slot_is_printable p kind.Procedure h = name_is_printable p.procedure h
slot_is_printable p kind.Monitor h = name_is_printable p.monitor h
slot_is_printable p kind.Condition h = name_is_printable p.condition h
slot_is_printable p kind.Number h = number_is_printable p.number h
slot_is_printable p kind.Priority h = number_is_printable p.number h
slot_is_printable p kind.Room h = number_is_printable p.room (omega (arith, h))
slot_is_printable p kind.Client h = number_is_printable p.client (omega (arith, h))
slot_is_printable p kind.Event h = number_is_printable p.event (omega (arith, h))
slot_is_printable p kind.Flags h = flags_are_printable p.flags
slot_is_printable p kind.Mode h = mode_is_printable p.mode h
slot_is_printable p kind.Pattern h = pattern_is_printable p.pattern h
slot_is_printable p kind.Func h = func_is_printable p.func
slot_is_printable p kind.Test h = test_is_printable p.test h
slot_is_printable p kind.Built h = built_is_printable p.event p.thread h
slot_is_printable p kind.Text h = spaced_is_printable p.text h

slots_are_printable : (p : Phrase) (ks : List Kind) → AllByRecursion (SlotFits p) ks → is_printable (flat_map (slot_text p) ks) ≡ true
slots_are_printable p [] h = refl
slots_are_printable p (k ∷ ks) h = printable_append (slot_text p k) (flat_map (slot_text p) ks) (slot_is_printable p k h.0) (slots_are_printable p ks h.1)

pub phrase_is_printable : (p : Phrase) → IsPhrase p → is_printable (phrase_text p) ≡ true
phrase_is_printable p h = printable_append (key_of p.op) (flat_map (slot_text p) (slots_of p.op))
    (on_rows (λ (r : Row). is_printable r.key) refl p.op) (slots_are_printable p (slots_of p.op) h)

-- a line that says something is printable
pub said_is_printable : (line : List ℕ) (p : Phrase) → phrase_at line ≡ Some p → is_printable line ≡ true
said_is_printable line p e = let f = phrase_found line p e in subst (λ l. is_printable l ≡ true) (sym f.1) (phrase_is_printable p f.0)
