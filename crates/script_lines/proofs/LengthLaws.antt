-- How long a line that says something can be.
use Rattle.std.proofs.Common.{◌≡◌, ℕ, ◌+◌, ◌*◌, ◌<◌, ◌≤◌, ◌^◌, lit≤, Bool, true, false, not, ◌&&◌, eqb, leb, ltb, List}
use Rattle.std.proofs.Common.{[], ◌∷◌, length, Some, None, refl, sym, subst, arith, inl, inr, length-append}
use Rattle.std.specs.List.{flat_map, AllByRecursion, list_all}
use Rattle.std.specs.Fmt.{decimal}
use Rattle.std.proofs.lemmas.Bool.{ne_eqb, leb-true, ltb-true}
use Rattle.std.proofs.lemmas.Fmt.{length-decimal-le}
use Rattle.lwp_types.specs.TextFields.{is_printable, is_text}
use Rattle.lwp_types.specs.declared.call.Flags.{Flags}
use Rattle.lwp_types.specs.declared.call.Func.{Func}
use Rattle.lwp_types.specs.declared.call.Func.TheVariants as func
use Rattle.lwp_types.specs.declared.call.Mode.{Mode}
use Rattle.lwp_types.specs.declared.call.Mode.TheVariants as mode
use Rattle.lwp_types.specs.declared.call.Pattern.{Pattern}
use Rattle.lwp_types.specs.declared.call.Pattern.TheVariants as pattern
use Rattle.script_lines.specs.declared.table.Test.{Test}
use Rattle.script_lines.specs.declared.table.Test.TheVariants as test
use Rattle.script_lines.specs.declared.table.Kind.{Kind}
use Rattle.script_lines.specs.declared.table.Kind.TheVariants as kind
use Rattle.script_lines.specs.declared.table.Whom.{Whom}
use Rattle.script_lines.specs.declared.table.Whom.TheVariants as whom
use Rattle.script_lines.specs.Phrase.{Phrase}
use Rattle.script_lines.specs.Words.{is_lowercase, is_name, is_name_byte, is_reserved}
use Rattle.script_lines.specs.Table.{Row, key_of, slots_of}
use Rattle.trace_text.specs.Lines.{with_space, flags_text, mode_text, pattern_text, func_text}
use Rattle.script_lines.specs.Line.{who_text, built_text, test_text, SourceFits, TestFits, PatternFits}
use Rattle.script_lines.specs.Line.{ModeFits, BuiltFits, slot_text, phrase_text, SlotFits, IsPhrase}
use Rattle.script_lines.specs.Reading.{flags_by, phrase_at}
use Rattle.script_lines.proofs.TableLaws.{on_rows}
use Rattle.script_lines.proofs.WordLemmas.{both}
use Rattle.script_lines.proofs.PhraseLaws.{phrase_found, who_is_source}

number_length : (n : ℕ) → n < 2 ^ 32 → length (decimal n) ≤ 10
number_length n h = length-decimal-le 10 n (omega arith) (omega (arith, h)) (omega (arith, h))

pub name_length : (w : List ℕ) → is_name w ≡ true → length w ≤ 16
name_length [] h = absurd cc
name_length (b ∷ bs) h =
    let u = both (is_lowercase b && list_all is_name_byte bs && ltb (length bs) 16) (not (is_reserved (b ∷ bs))) h in
    let v = both (is_lowercase b && list_all is_name_byte bs) (ltb (length bs) 16) u.0 in
    omega (arith, ltb-true (length bs) 16 v.1)

text_length : (w : List ℕ) → is_text w ≡ true → length w ≤ 240
text_length w h = leb-true (length w) 240 (both (leb (length w) 240) (is_printable w) h).0

who_length : (x : Whom) (w : List ℕ) → SourceFits x w → length (who_text x w) ≤ 16
who_length whom.Named w h = name_length w h
who_length whom.Me w h = lit≤ tt
who_length whom.First w h = lit≤ tt
who_length whom.Sender w h = lit≤ tt
who_length whom.Nobody w h = lit≤ tt
who_length whom.Any w h = lit≤ tt

flags_length : (f : Flags) → length (flags_text f) ≤ 3
flags_length f = by_letters f.suspended f.nolastrites f.server
  where
    by_letters : (s n v : Bool) → length (flags_text (flags_by s n v)) ≤ 3
    by_letters false false false = lit≤ tt
    by_letters true false false = lit≤ tt
    by_letters false true false = lit≤ tt
    by_letters true true false = lit≤ tt
    by_letters false false true = lit≤ tt
    by_letters true false true = lit≤ tt
    by_letters false true true = lit≤ tt
    by_letters true true true = lit≤ tt

mode_length : (m : Mode) → ModeFits m → length (mode_text m) ≤ 10
mode_length mode.Poll h = lit≤ tt
mode_length mode.Block h = lit≤ tt
mode_length (mode.Until n) h = number_length n h

func_length : (x : Func) → length (func_text x) ≤ 4
func_length func.Nothing = lit≤ tt
func_length func.Give = lit≤ tt
func_length func.Sum = lit≤ tt

pattern_length : (x : Pattern) → PatternFits x → length (pattern_text x) ≤ 10
pattern_length pattern.All h = lit≤ tt
pattern_length (pattern.Num n) h = number_length n h

test_length : (x : Test) → TestFits x → length (test_text x) ≤ 13
test_length test.Fine h = lit≤ tt
test_length test.Refused h = lit≤ tt
test_length test.Caught h = lit≤ tt
test_length (test.Value n) h = omega (arith, number_length n h)

built_length : (e : ℕ) (w : List ℕ) → BuiltFits e w → length (built_text e w) ≤ 35
built_length e w (inl h) = rw h.0 (lit≤ tt)
built_length e w (inr h) =
    let some : eqb e 0 ≡ false = ne_eqb e 0 (λ z. omega (arith, h.0.0)) in
    rw some (omega (arith, number_length e (omega (arith, h.0.1)), name_length w h.1, length-append (decimal e) (32 ∷ w)))

spaced_length : (w : List ℕ) → is_text w ≡ true → length (with_space w) ≤ 241
spaced_length [] h = lit≤ tt
spaced_length (b ∷ bs) h = omega (arith, text_length (b ∷ bs) h)

slot_length : (p : Phrase) (k : Kind) → SlotFits p k → length (slot_text p k) ≤ 241
slot_length p kind.Thread h = omega (arith, name_length p.thread h)
slot_length p kind.Who h = omega (arith, who_length p.who p.thread (who_is_source p.who p.thread h))
slot_length p kind.Source h = omega (arith, who_length p.who p.thread h)
slot_length p kind.Procedure h = omega (arith, name_length p.procedure h)
slot_length p kind.Monitor h = omega (arith, name_length p.monitor h)
slot_length p kind.Condition h = omega (arith, name_length p.condition h)
slot_length p kind.Number h = omega (arith, number_length p.number h)
slot_length p kind.Priority h = omega (arith, number_length p.number h)
slot_length p kind.Room h = omega (arith, number_length p.room (omega (arith, h)))
slot_length p kind.Client h = omega (arith, number_length p.client (omega (arith, h)))
slot_length p kind.Event h = omega (arith, number_length p.event (omega (arith, h)))
slot_length p kind.Flags h = omega (arith, flags_length p.flags)
slot_length p kind.Mode h = omega (arith, mode_length p.mode h)
slot_length p kind.Pattern h = omega (arith, pattern_length p.pattern h)
slot_length p kind.Func h = omega (arith, func_length p.func)
slot_length p kind.Test h = omega (arith, test_length p.test h)
slot_length p kind.Built h = omega (arith, built_length p.event p.thread h)
slot_length p kind.Text h = spaced_length p.text h

slots_length : (p : Phrase) (ks : List Kind) → AllByRecursion (SlotFits p) ks → length (flat_map (slot_text p) ks) ≤ 241 * length ks
slots_length p [] h = omega arith
slots_length p (k ∷ ks) h = omega (arith, slot_length p k h.0, slots_length p ks h.1, length-append (slot_text p k) (flat_map (slot_text p) ks))

phrase_length : (p : Phrase) → IsPhrase p → length (phrase_text p) ≤ 980
phrase_length p h =
    let row = on_rows (λ (r : Row). leb (length r.key + 241 * length r.slots) 980) refl p.op in
    omega (
      arith,
      leb-true (length (key_of p.op) + 241 * length (slots_of p.op)) 980 row,
      slots_length p (slots_of p.op) h,
      length-append (key_of p.op) (flat_map (slot_text p) (slots_of p.op)),
    )

said_length : (line : List ℕ) (p : Phrase) → phrase_at line ≡ Some p → length line ≤ 980
said_length line p e = let f = phrase_found line p e in subst (λ l. length l ≤ 980) (sym f.1) (phrase_length p f.0)

-- a line of more bytes than any good one has says nothing
pub long_says_nothing : (line : List ℕ) → 1024 ≤ length line → phrase_at line ≡ None
long_says_nothing line h = elim (phrase_at line) as (λ o. phrase_at line ≡ o → o ≡ None) [
  | None ↦ λ e. refl
  | Some p ↦ λ e. absurd (omega (arith, said_length line p e, h))
] refl
