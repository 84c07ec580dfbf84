-- Reading a line and writing a phrase undo each other.
use Rattle.std.proofs.Common.{◌≡◌, ℕ, suc, ◌+◌, ◌≤◌, ◌<◌, ◌^◌, Bool, true, false, not, ◌&&◌, ◌||◌, cond, eqb, ltb, leb, List}
use Rattle.std.proofs.Common.{[], ◌∷◌, ◌++◌, length, take, drop, Some, None, refl, sym, ap, subst, ◌∙◌, arith, inl, inr}
use Rattle.std.specs.Prelude.{Option, option_map, option_and_then, codes}
use Rattle.std.specs.List.{flat_map, AllByRecursion, list_all}
use Rattle.std.specs.Str.{bytes_eq, all_ascii_digits}
use Rattle.std.specs.Fmt.{decimal}
use Rattle.std.specs.Char.{is_ascii_digit}
use Rattle.std.proofs.lemmas.Bool.{leb-true, le-leb, lt-ltb, ltb-true, ne_eqb, eqb-true}
use Rattle.std.proofs.lemmas.Option.{cond_some, option_and_then_some}
use Rattle.std.proofs.lemmas.List.{append-nil, take_at, drop_at, take-append-drop, take-append-le, drop-append-le, length-drop}
use Rattle.std.proofs.lemmas.Slice.Eq.{bytes_eq-Decides}
use Rattle.std.proofs.lemmas.Fmt.{digits_decimal}
use denote.Enum.Bare.{sameb, same_true}
use Rattle.script_lines.specs.contracts.table.Kind.{the_type as kind_type}
use Rattle.script_lines.specs.contracts.table.Role.{the_type as role_type}
use Rattle.script_lines.specs.declared.table.Op.{Op}
use Rattle.script_lines.specs.declared.table.Op.TheVariants as op
use Rattle.script_lines.specs.declared.table.Kind.{Kind}
use Rattle.script_lines.specs.declared.table.Kind.TheVariants as kind
use Rattle.script_lines.specs.declared.table.Role.TheVariants as role
use Rattle.script_lines.specs.declared.table.Whom.{Whom}
use Rattle.script_lines.specs.declared.table.Whom.TheVariants as whom
use Rattle.script_lines.specs.declared.table.Test.{Test}
use Rattle.script_lines.specs.declared.table.Test.TheVariants as test
use Rattle.lwp_types.specs.declared.call.Flags.{Flags}
use Rattle.lwp_types.specs.declared.call.Func.{Func}
use Rattle.lwp_types.specs.declared.call.Func.TheVariants as func
use Rattle.lwp_types.specs.declared.call.Mode.{Mode}
use Rattle.lwp_types.specs.declared.call.Mode.TheVariants as mode
use Rattle.lwp_types.specs.declared.call.Pattern.{Pattern}
use Rattle.lwp_types.specs.declared.call.Pattern.TheVariants as pattern
use Rattle.script_lines.specs.Phrase.{Phrase}
use Rattle.script_lines.specs.Words.{is_lowercase, is_reserved, is_name, is_name_byte, number_at, reach}
use Rattle.script_lines.specs.Table.{Row, key_of, role_of, slots_of, has, starts, op_at, is_half, key_length}
use Rattle.lwp_types.specs.TextFields.{is_text}
use Rattle.trace_text.specs.Lines.{with_space, flags_text, mode_text, pattern_text, func_text}
use Rattle.script_lines.specs.Line.{who_text, built_text, test_text, WhoFits, SourceFits, TestFits, PatternFits, ModeFits, IsEvent, IsAgentEvent}
use Rattle.script_lines.specs.Line.{BuiltFits, slot_text, phrase_text, SlotFits, IsPhrase, blank, copy_slot, copy_slots, own_slots, IsNeeded}
use Rattle.script_lines.specs.Reading.{flags_by, all_flags, flags_in, flags_at, within_room, room_at, client_at, event_at, agent_event_at}
use Rattle.script_lines.specs.Reading.{pattern_at, func_at, who_at, source_at, name_in, mode_at, value_at, test_at, spaced_name, session_at}
use Rattle.script_lines.specs.Reading.{built_at, fill_word, fill_text, fill_test, fill_built, fill_spaced, slot_at, fill, phrase_at}
use Rattle.script_lines.proofs.TableLaws.{on_rows, op_found, op_again}
use Rattle.script_lines.proofs.WordLemmas.{both, Stops, reach-append, reach_in, number_again, number_found, own}

-- ---- Keys are whole, whatever comes after them.

pub stops_there : (r : List ℕ) → Stops 32 r → reach 32 r ≡ 0
stops_there [] s = refl
stops_there (b ∷ bs) s = rw s refl

stops_by : (r : List ℕ) → reach 32 r ≡ 0 → Stops 32 r
stops_by [] h = tt
stops_by (b ∷ bs) h = elim (eqb b 32) as (λ v. eqb b 32 ≡ v → cond v 0 (suc (reach 32 bs)) ≡ 0 → b ≡ 32) [
  | true ↦ λ e f. eqb-true b 32 e
  | false ↦ λ e f. absurd (omega (arith, f))
] refl h

-- one word that is no half of a key
abbrev is_one_word : List ℕ → Bool
is_one_word w = eqb (reach 32 w) (length w) && not (is_half w)

-- two words, the first of which is a half
abbrev is_two_words : List ℕ → Bool
is_two_words w = ltb (reach 32 w) (length w) && is_half (take (reach 32 w) w) && eqb (suc (reach 32 w) + reach 32 (drop (suc (reach 32 w)) w)) (length w)

one_word : (w r : List ℕ) → is_one_word w ≡ true → reach 32 r ≡ 0 → key_length (w ++ r) ≡ length w
one_word w r h s =
    let t = both (eqb (reach 32 w) (length w)) (not (is_half w)) h in
    let at : reach 32 (w ++ r) ≡ length w = reach-append 32 w r (eqb-true _ _ t.0) (stops_by r s) in
    let other : is_half w ≡ false = not_so (is_half w) t.1 in
    rw (at, take_at w r (length w) refl, other) refl
  where
    not_so : (v : Bool) → not v ≡ true → v ≡ false
    not_so true e = absurd cc
    not_so false e = refl

two_words : (w r : List ℕ) → is_two_words w ≡ true → reach 32 r ≡ 0 → key_length (w ++ r) ≡ length w
two_words w r h s =
    let n = reach 32 w in
    let t = both (ltb n (length w) && is_half (take n w)) (eqb (suc n + reach 32 (drop (suc n) w)) (length w)) h in
    let u = both (ltb n (length w)) (is_half (take n w)) t.0 in
    let some : n < length w = ltb-true n (length w) u.0 in
    let all : suc n + reach 32 (drop (suc n) w) ≡ length w = eqb-true _ _ t.1 in
    let rest : reach 32 (drop (suc n) w ++ r) ≡ length (drop (suc n) w) = reach-append 32 (drop (suc n) w) r (omega (arith, all, length-drop (suc n) w)) (stops_by r s) in
    rw (reach_in 32 w r some, take-append-le n w r (omega (arith, some)), u.1, drop-append-le (suc n) w r (omega (arith, some)), rest) (omega (arith, some, length-drop (suc n) w))

whole_by : (w r : List ℕ) → (is_one_word w || is_two_words w) ≡ true → reach 32 r ≡ 0 → key_length (w ++ r) ≡ length w
whole_by w r h s = elim (is_one_word w) as (λ v. is_one_word w ≡ v → (v || is_two_words w) ≡ true → key_length (w ++ r) ≡ length w) [
  | true ↦ λ e f. one_word w r e s
  | false ↦ λ e f. two_words w r f s
] refl h

pub key_is_whole : (o : Op) (r : List ℕ) → reach 32 r ≡ 0 → key_length (key_of o ++ r) ≡ length (key_of o)
key_is_whole o r s = whole_by (key_of o) r (on_rows (λ (x : Row). is_one_word x.key || is_two_words x.key) refl o) s

-- ---- Slots of different kinds don't touch each other.

-- the fields that a kind fills; the kinds that fill a thread's name or an event have one number
abbrev field_number : Kind → ℕ
field_number kind.Thread = 0
field_number kind.Who = 0
field_number kind.Source = 0
field_number kind.Procedure = 1
field_number kind.Monitor = 2
field_number kind.Condition = 3
field_number kind.Number = 4
field_number kind.Priority = 4
field_number kind.Room = 5
field_number kind.Client = 6
field_number kind.Event = 0
field_number kind.Flags = 7
field_number kind.Mode = 8
field_number kind.Pattern = 9
field_number kind.Func = 10
field_number kind.Test = 11
field_number kind.Built = 0
field_number kind.Text = 12

abbrev pub same_field : Kind → Kind → Bool
same_field j k = eqb (field_number j) (field_number k)

-- a slot that takes all that is left
abbrev pub takes_rest : Kind → Bool
takes_rest kind.Thread = false
takes_rest kind.Who = false
takes_rest kind.Source = false
takes_rest kind.Procedure = false
takes_rest kind.Monitor = false
takes_rest kind.Condition = false
takes_rest kind.Number = false
takes_rest kind.Priority = false
takes_rest kind.Room = false
takes_rest kind.Client = false
takes_rest kind.Event = false
takes_rest kind.Flags = false
takes_rest kind.Mode = false
takes_rest kind.Pattern = false
takes_rest kind.Func = false
takes_rest kind.Test = true
takes_rest kind.Built = true
takes_rest kind.Text = true

abbrev pub absent : Kind → List Kind → Bool
absent j [] = true
absent j (k ∷ ks) = not (same_field j k) && absent j ks

abbrev pub is_last : List Kind → Bool
is_last [] = true
is_last (k ∷ ks) = false

-- no field twice, and a slot that takes all only at the end
abbrev pub is_row : List Kind → Bool
is_row [] = true
is_row (k ∷ ks) = (absent k ks && is_row ks) && (not (takes_rest k) || is_last ks)

rows : (o : Op) → is_row (slots_of o) ≡ true
rows o = on_rows (λ (x : Row). is_row x.slots) refl o

-- what a phrase has in a slot: a phrase with nothing else
abbrev slot_value : Phrase → Kind → Phrase
slot_value p k = copy_slot k p (blank op.Return)

text_from_value : (p q : Phrase) (k : Kind) → slot_value p k ≡ slot_value q k → slot_text p k ≡ slot_text q k
text_from_value p q kind.Thread e = ap (λ (v : Phrase). slot_text v kind.Thread) e
text_from_value p q kind.Who e = ap (λ (v : Phrase). slot_text v kind.Who) e
text_from_value p q kind.Source e = ap (λ (v : Phrase). slot_text v kind.Source) e
text_from_value p q kind.Procedure e = ap (λ (v : Phrase). slot_text v kind.Procedure) e
text_from_value p q kind.Monitor e = ap (λ (v : Phrase). slot_text v kind.Monitor) e
text_from_value p q kind.Condition e = ap (λ (v : Phrase). slot_text v kind.Condition) e
text_from_value p q kind.Number e = ap (λ (v : Phrase). slot_text v kind.Number) e
text_from_value p q kind.Priority e = ap (λ (v : Phrase). slot_text v kind.Priority) e
text_from_value p q kind.Room e = ap (λ (v : Phrase). slot_text v kind.Room) e
text_from_value p q kind.Client e = ap (λ (v : Phrase). slot_text v kind.Client) e
text_from_value p q kind.Event e = ap (λ (v : Phrase). slot_text v kind.Event) e
text_from_value p q kind.Flags e = ap (λ (v : Phrase). slot_text v kind.Flags) e
text_from_value p q kind.Mode e = ap (λ (v : Phrase). slot_text v kind.Mode) e
text_from_value p q kind.Pattern e = ap (λ (v : Phrase). slot_text v kind.Pattern) e
text_from_value p q kind.Func e = ap (λ (v : Phrase). slot_text v kind.Func) e
text_from_value p q kind.Test e = ap (λ (v : Phrase). slot_text v kind.Test) e
text_from_value p q kind.Built e = ap (λ (v : Phrase). slot_text v kind.Built) e
text_from_value p q kind.Text e = ap (λ (v : Phrase). slot_text v kind.Text) e

fits_from_value : (p q : Phrase) (k : Kind) → slot_value p k ≡ slot_value q k → SlotFits p k → SlotFits q k
fits_from_value p q kind.Thread e h = subst (λ (v : Phrase). SlotFits v kind.Thread) e h
fits_from_value p q kind.Who e h = subst (λ (v : Phrase). SlotFits v kind.Who) e h
fits_from_value p q kind.Source e h = subst (λ (v : Phrase). SlotFits v kind.Source) e h
fits_from_value p q kind.Procedure e h = subst (λ (v : Phrase). SlotFits v kind.Procedure) e h
fits_from_value p q kind.Monitor e h = subst (λ (v : Phrase). SlotFits v kind.Monitor) e h
fits_from_value p q kind.Condition e h = subst (λ (v : Phrase). SlotFits v kind.Condition) e h
fits_from_value p q kind.Number e h = subst (λ (v : Phrase). SlotFits v kind.Number) e h
fits_from_value p q kind.Priority e h = subst (λ (v : Phrase). SlotFits v kind.Priority) e h
fits_from_value p q kind.Room e h = subst (λ (v : Phrase). SlotFits v kind.Room) e h
fits_from_value p q kind.Client e h = subst (λ (v : Phrase). SlotFits v kind.Client) e h
fits_from_value p q kind.Event e h = subst (λ (v : Phrase). SlotFits v kind.Event) e h
fits_from_value p q kind.Flags e h = subst (λ (v : Phrase). SlotFits v kind.Flags) e h
fits_from_value p q kind.Mode e h = subst (λ (v : Phrase). SlotFits v kind.Mode) e h
fits_from_value p q kind.Pattern e h = subst (λ (v : Phrase). SlotFits v kind.Pattern) e h
fits_from_value p q kind.Func e h = subst (λ (v : Phrase). SlotFits v kind.Func) e h
fits_from_value p q kind.Test e h = subst (λ (v : Phrase). SlotFits v kind.Test) e h
fits_from_value p q kind.Built e h = subst (λ (v : Phrase). SlotFits v kind.Built) e h
fits_from_value p q kind.Text e h = subst (λ (v : Phrase). SlotFits v kind.Text) e h

-- q differs from p in this slot at most
record Filled (k : Kind) (p q : Phrase) : Type 0 where
  op : q.op ≡ p.op
  others : (j : Kind) → same_field j k ≡ false → slot_value q j ≡ slot_value p j

fills_thread : (p : Phrase) (x : List ℕ) → Filled kind.Thread p (record p { thread = x })
fills_thread p x = record { op = refl; others = λ j ne. elim j as (λ i. same_field i kind.Thread ≡ false → slot_value (record p { thread = x }) i ≡ slot_value p i) [ kind.Thread ↦ λ f. absurd cc | kind.Who ↦ λ f. absurd cc | kind.Source ↦ λ f. absurd cc | kind.Event ↦ λ f. absurd cc | kind.Built ↦ λ f. absurd cc | _ ↦ λ f. refl ] ne }

fills_who : (p : Phrase) (x : Whom) (y : List ℕ) → Filled kind.Who p (record p { who = x; thread = y })
fills_who p x y = record { op = refl; others = λ j ne. elim j as (λ i. same_field i kind.Who ≡ false → slot_value (record p { who = x; thread = y }) i ≡ slot_value p i) [ kind.Thread ↦ λ f. absurd cc | kind.Who ↦ λ f. absurd cc | kind.Source ↦ λ f. absurd cc | kind.Event ↦ λ f. absurd cc | kind.Built ↦ λ f. absurd cc | _ ↦ λ f. refl ] ne }

fills_source : (p : Phrase) (x : Whom) (y : List ℕ) → Filled kind.Source p (record p { who = x; thread = y })
fills_source p x y = record { op = refl; others = λ j ne. elim j as (λ i. same_field i kind.Source ≡ false → slot_value (record p { who = x; thread = y }) i ≡ slot_value p i) [ kind.Thread ↦ λ f. absurd cc | kind.Who ↦ λ f. absurd cc | kind.Source ↦ λ f. absurd cc | kind.Event ↦ λ f. absurd cc | kind.Built ↦ λ f. absurd cc | _ ↦ λ f. refl ] ne }

fills_procedure : (p : Phrase) (x : List ℕ) → Filled kind.Procedure p (record p { procedure = x })
fills_procedure p x = record { op = refl; others = λ j ne. elim j as (λ i. same_field i kind.Procedure ≡ false → slot_value (record p { procedure = x }) i ≡ slot_value p i) [ kind.Procedure ↦ λ f. absurd cc | _ ↦ λ f. refl ] ne }

fills_monitor : (p : Phrase) (x : List ℕ) → Filled kind.Monitor p (record p { monitor = x })
fills_monitor p x = record { op = refl; others = λ j ne. elim j as (λ i. same_field i kind.Monitor ≡ false → slot_value (record p { monitor = x }) i ≡ slot_value p i) [ kind.Monitor ↦ λ f. absurd cc | _ ↦ λ f. refl ] ne }

fills_condition : (p : Phrase) (x : List ℕ) → Filled kind.Condition p (record p { condition = x })
fills_condition p x = record { op = refl; others = λ j ne. elim j as (λ i. same_field i kind.Condition ≡ false → slot_value (record p { condition = x }) i ≡ slot_value p i) [ kind.Condition ↦ λ f. absurd cc | _ ↦ λ f. refl ] ne }

fills_number : (p : Phrase) (x : ℕ) → Filled kind.Number p (record p { number = x })
fills_number p x = record { op = refl; others = λ j ne. elim j as (λ i. same_field i kind.Number ≡ false → slot_value (record p { number = x }) i ≡ slot_value p i) [ kind.Number ↦ λ f. absurd cc | kind.Priority ↦ λ f. absurd cc | _ ↦ λ f. refl ] ne }

fills_priority : (p : Phrase) (x : ℕ) → Filled kind.Priority p (record p { number = x })
fills_priority p x = record { op = refl; others = λ j ne. elim j as (λ i. same_field i kind.Priority ≡ false → slot_value (record p { number = x }) i ≡ slot_value p i) [ kind.Number ↦ λ f. absurd cc | kind.Priority ↦ λ f. absurd cc | _ ↦ λ f. refl ] ne }

fills_room : (p : Phrase) (x : ℕ) → Filled kind.Room p (record p { room = x })
fills_room p x = record { op = refl; others = λ j ne. elim j as (λ i. same_field i kind.Room ≡ false → slot_value (record p { room = x }) i ≡ slot_value p i) [ kind.Room ↦ λ f. absurd cc | _ ↦ λ f. refl ] ne }

fills_client : (p : Phrase) (x : ℕ) → Filled kind.Client p (record p { client = x })
fills_client p x = record { op = refl; others = λ j ne. elim j as (λ i. same_field i kind.Client ≡ false → slot_value (record p { client = x }) i ≡ slot_value p i) [ kind.Client ↦ λ f. absurd cc | _ ↦ λ f. refl ] ne }

fills_event : (p : Phrase) (x : ℕ) → Filled kind.Event p (record p { event = x })
fills_event p x = record { op = refl; others = λ j ne. elim j as (λ i. same_field i kind.Event ≡ false → slot_value (record p { event = x }) i ≡ slot_value p i) [ kind.Thread ↦ λ f. absurd cc | kind.Who ↦ λ f. absurd cc | kind.Source ↦ λ f. absurd cc | kind.Event ↦ λ f. absurd cc | kind.Built ↦ λ f. absurd cc | _ ↦ λ f. refl ] ne }

fills_flags : (p : Phrase) (x : Flags) → Filled kind.Flags p (record p { flags = x })
fills_flags p x = record { op = refl; others = λ j ne. elim j as (λ i. same_field i kind.Flags ≡ false → slot_value (record p { flags = x }) i ≡ slot_value p i) [ kind.Flags ↦ λ f. absurd cc | _ ↦ λ f. refl ] ne }

fills_mode : (p : Phrase) (x : Mode) → Filled kind.Mode p (record p { mode = x })
fills_mode p x = record { op = refl; others = λ j ne. elim j as (λ i. same_field i kind.Mode ≡ false → slot_value (record p { mode = x }) i ≡ slot_value p i) [ kind.Mode ↦ λ f. absurd cc | _ ↦ λ f. refl ] ne }

fills_pattern : (p : Phrase) (x : Pattern) → Filled kind.Pattern p (record p { pattern = x })
fills_pattern p x = record { op = refl; others = λ j ne. elim j as (λ i. same_field i kind.Pattern ≡ false → slot_value (record p { pattern = x }) i ≡ slot_value p i) [ kind.Pattern ↦ λ f. absurd cc | _ ↦ λ f. refl ] ne }

fills_func : (p : Phrase) (x : Func) → Filled kind.Func p (record p { func = x })
fills_func p x = record { op = refl; others = λ j ne. elim j as (λ i. same_field i kind.Func ≡ false → slot_value (record p { func = x }) i ≡ slot_value p i) [ kind.Func ↦ λ f. absurd cc | _ ↦ λ f. refl ] ne }

fills_test : (p : Phrase) (x : Test) → Filled kind.Test p (record p { test = x })
fills_test p x = record { op = refl; others = λ j ne. elim j as (λ i. same_field i kind.Test ≡ false → slot_value (record p { test = x }) i ≡ slot_value p i) [ kind.Test ↦ λ f. absurd cc | _ ↦ λ f. refl ] ne }

fills_built : (p : Phrase) (x : ℕ) (y : List ℕ) → Filled kind.Built p (record p { event = x; thread = y })
fills_built p x y = record { op = refl; others = λ j ne. elim j as (λ i. same_field i kind.Built ≡ false → slot_value (record p { event = x; thread = y }) i ≡ slot_value p i) [ kind.Thread ↦ λ f. absurd cc | kind.Who ↦ λ f. absurd cc | kind.Source ↦ λ f. absurd cc | kind.Event ↦ λ f. absurd cc | kind.Built ↦ λ f. absurd cc | _ ↦ λ f. refl ] ne }

fills_text : (p : Phrase) (x : List ℕ) → Filled kind.Text p (record p { text = x })
fills_text p x = record { op = refl; others = λ j ne. elim j as (λ i. same_field i kind.Text ≡ false → slot_value (record p { text = x }) i ≡ slot_value p i) [ kind.Text ↦ λ f. absurd cc | _ ↦ λ f. refl ] ne }

-- ---- Rooms, flags and tests.

-- a room that is read was written so
room_found : (w : List ℕ) (n : ℕ) → room_at w ≡ Some n → (w ≡ decimal n) × (n ≤ 240)
room_found w n e =
    option_and_then_some within_room (number_at w) n e
    (λ m i f.
    let t = cond_some (leb m 240) m n f in
    let d = number_found w m i in
    (d.0 ∙ ap decimal t.1, subst (λ x. x ≤ 240) t.1 (leb-true m 240 t.0)))

-- a room that is written is read
room_again : (n : ℕ) → n ≤ 240 → room_at (decimal n) ≡ Some n
room_again n h = rw (number_again n (omega arith), le-leb n 240 h) refl

flags_in_found : (fs : List Flags) (w : List ℕ) (f : Flags) → flags_in fs w ≡ Some f → w ≡ flags_text f
flags_in_found [] w f e = absurd cc
flags_in_found (x ∷ fs) w f e = elim (bytes_eq (flags_text x) w) as (λ v. bytes_eq (flags_text x) w ≡ v → cond v (Some x) (flags_in fs w) ≡ Some f → w ≡ flags_text f) [
  | true ↦ λ t g. let h : x ≡ f = cc in sym ((bytes_eq-Decides (flags_text x) w).0 t) ∙ ap flags_text h
  | false ↦ λ t g. flags_in_found fs w f g
] refl e

-- flags that are read were written so
flags_found : (w : List ℕ) (f : Flags) → flags_at w ≡ Some f → w ≡ flags_text f
unfolding flags_at
flags_found w f e = flags_in_found all_flags w f e

-- flags that are written are read
flags_again : (f : Flags) → flags_at (flags_text f) ≡ Some f
unfolding flags_at
flags_again f = by_letters f.suspended f.nolastrites f.server
  where
    by_letters : (s n v : Bool) → flags_in all_flags (flags_text (flags_by s n v)) ≡ Some (flags_by s n v)
    by_letters false false false = refl
    by_letters true false false = refl
    by_letters false true false = refl
    by_letters true true false = refl
    by_letters false false true = refl
    by_letters true false true = refl
    by_letters false true true = refl
    by_letters true true true = refl

value_test_found : (w : List ℕ) (t : Test) → value_at w ≡ Some t → (w ≡ test_text t) × TestFits t
value_test_found [] t e = absurd cc
value_test_found (a ∷ []) t e = absurd cc
value_test_found (a ∷ b ∷ []) t e = absurd cc
value_test_found (a ∷ b ∷ c ∷ digits) t e = elim (eqb a 105 && eqb b 115 && eqb c 32) as (λ v. (eqb a 105 && eqb b 115 && eqb c 32) ≡ v → cond v (option_map (λ n. test.Value n) (number_at digits)) None ≡ Some t → ((a ∷ b ∷ c ∷ digits) ≡ test_text t) × TestFits t) [
  | false ↦ λ i f. absurd cc
  | true ↦ λ i f. elim (number_at digits) as (λ o. number_at digits ≡ o → option_map (λ n. test.Value n) o ≡ Some t → ((a ∷ b ∷ c ∷ digits) ≡ test_text t) × TestFits t) [
    | None ↦ λ j g. absurd cc
    | Some n ↦ λ j g.
        let is = both (eqb a 105 && eqb b 115) (eqb c 32) i in
        let s = both (eqb a 105) (eqb b 115) is.0 in
        let d = number_found digits n j in
        let h : test.Value n ≡ t = cc in
        subst (λ (x : Test). ((a ∷ b ∷ c ∷ digits) ≡ test_text x) × TestFits x) h (rw (eqb-true a 105 s.0, eqb-true b 115 s.1, eqb-true c 32 is.1, d.0) refl, d.1)
  ] refl f
] refl e

-- a test that is read was written so
test_found : (w : List ℕ) (t : Test) → test_at w ≡ Some t → (w ≡ test_text t) × TestFits t
test_found w t e = elim (bytes_eq w (codes "ok")) as (λ v. bytes_eq w (codes "ok") ≡ v → cond v (Some test.Fine) (cond (bytes_eq w (codes "err")) (Some test.Refused) (cond (bytes_eq w (codes "caught")) (Some test.Caught) (value_at w))) ≡ Some t → (w ≡ test_text t) × TestFits t) [
  | true ↦ λ i f. let h : test.Fine ≡ t = cc in subst (λ (x : Test). (w ≡ test_text x) × TestFits x) h ((bytes_eq-Decides w (codes "ok")).0 i, tt)
  | false ↦ λ i f. elim (bytes_eq w (codes "err")) as (λ v. bytes_eq w (codes "err") ≡ v → cond v (Some test.Refused) (cond (bytes_eq w (codes "caught")) (Some test.Caught) (value_at w)) ≡ Some t → (w ≡ test_text t) × TestFits t) [
    | true ↦ λ j g. let h : test.Refused ≡ t = cc in subst (λ (x : Test). (w ≡ test_text x) × TestFits x) h ((bytes_eq-Decides w (codes "err")).0 j, tt)
    | false ↦ λ j g. elim (bytes_eq w (codes "caught")) as (λ v. bytes_eq w (codes "caught") ≡ v → cond v (Some test.Caught) (value_at w) ≡ Some t → (w ≡ test_text t) × TestFits t) [
      | true ↦ λ k z. let h : test.Caught ≡ t = cc in subst (λ (x : Test). (w ≡ test_text x) × TestFits x) h ((bytes_eq-Decides w (codes "caught")).0 k, tt)
      | false ↦ λ k z. value_test_found w t z
    ] refl g
  ] refl f
] refl e

-- a test that is written is read
test_again : (t : Test) → TestFits t → test_at (test_text t) ≡ Some t
test_again test.Fine h = refl
test_again test.Refused h = refl
test_again test.Caught h = refl
test_again (test.Value n) h = rw (number_again n h) refl

-- ---- Clients, events, patterns, modes and functions.

map_some : {A B : Type 0} (f : A → B) (o : Option A) (y : B) → option_map f o ≡ Some y → (x : A) × (o ≡ Some x) × (f x ≡ y)
map_some f None y e = absurd cc
map_some f (Some x) y e = (x, refl, (let h : f x ≡ y = cc in h))

client_found : (w : List ℕ) (n : ℕ) → client_at w ≡ Some n → (w ≡ decimal n) × (n ≤ 15)
client_found w n e =
    option_and_then_some (λ m. cond (leb m 15) (Some m) None) (number_at w) n e
    (λ m i f.
    let t = cond_some (leb m 15) m n f in
    let d = number_found w m i in
    (d.0 ∙ ap decimal t.1, subst (λ x. x ≤ 15) t.1 (leb-true m 15 t.0)))

pub client_again : (n : ℕ) → n ≤ 15 → client_at (decimal n) ≡ Some n
client_again n h = rw (number_again n (omega arith), le-leb n 15 h) refl

event_found : (w : List ℕ) (n : ℕ) → event_at w ≡ Some n → (w ≡ decimal n) × IsEvent n
event_found w n e =
    option_and_then_some (λ m. cond (leb m 31) (Some m) None) (number_at w) n e
    (λ m i f.
    let t = cond_some (leb m 31) m n f in
    let d = number_found w m i in
    (d.0 ∙ ap decimal t.1, subst IsEvent t.1 (leb-true m 31 t.0)))

event_again : (n : ℕ) → IsEvent n → event_at (decimal n) ≡ Some n
event_again n h = rw (number_again n (omega (arith, h)), le-leb n 31 h) refl

agent_event_found : (w : List ℕ) (n : ℕ) → agent_event_at w ≡ Some n → (w ≡ decimal n) × IsAgentEvent n
agent_event_found w n e =
    option_and_then_some (λ m. cond (leb 1 m && leb m 31) (Some m) None) (number_at w) n e
    (λ m i f.
    let t = cond_some (leb 1 m && leb m 31) m n f in
    let u = both (leb 1 m) (leb m 31) t.0 in
    let d = number_found w m i in
    (d.0 ∙ ap decimal t.1, subst IsAgentEvent t.1 (leb-true 1 m u.0, leb-true m 31 u.1)))

agent_event_again : (n : ℕ) → IsAgentEvent n → agent_event_at (decimal n) ≡ Some n
agent_event_again n h = rw (number_again n (omega (arith, h.1)), le-leb 1 n h.0, le-leb n 31 h.1) refl

pattern_found : (w : List ℕ) (x : Pattern) → pattern_at w ≡ Some x → (w ≡ pattern_text x) × PatternFits x
pattern_found w x e = elim (bytes_eq w (codes "all")) as (λ v. bytes_eq w (codes "all") ≡ v → cond v (Some pattern.All) (option_map (λ n. pattern.Num n) (number_at w)) ≡ Some x → (w ≡ pattern_text x) × PatternFits x) [
  | true ↦ λ i f. let h : pattern.All ≡ x = cc in subst (λ (y : Pattern). (w ≡ pattern_text y) × PatternFits y) h ((bytes_eq-Decides w (codes "all")).0 i, tt)
  | false ↦ λ i f.
      let m = map_some (λ n. pattern.Num n) (number_at w) x f in
      let d = number_found w m.0 m.1 in
      subst (λ (y : Pattern). (w ≡ pattern_text y) × PatternFits y) m.2 (d.0, d.1)
] refl e

-- the first byte of a number is a digit
number_is_no_word : (n : ℕ) (w : List ℕ) → n < 2 ^ 32 → number_at w ≡ None → bytes_eq (decimal n) w ≡ false
number_is_no_word n w h other = elim (bytes_eq (decimal n) w) as (λ v. bytes_eq (decimal n) w ≡ v → v ≡ false) [
  | true ↦ λ e. let same : decimal n ≡ w = (bytes_eq-Decides (decimal n) w).0 e in let again = number_again n h in absurd (let f : None ≡ Some n = sym other ∙ subst (λ (x : List ℕ). number_at x ≡ Some n) same again in cc)
  | false ↦ λ e. refl
] refl

pattern_again : (x : Pattern) → PatternFits x → pattern_at (pattern_text x) ≡ Some x
pattern_again pattern.All h = refl
pattern_again (pattern.Num n) h = rw (number_is_no_word n (codes "all") h refl, number_again n h) refl

-- a mode that is read was written so
mode_found : (w : List ℕ) (m : Mode) → mode_at w ≡ Some m → (w ≡ mode_text m) × ModeFits m
mode_found w m e = elim (bytes_eq w (codes "poll")) as (λ v. bytes_eq w (codes "poll") ≡ v → cond v (Some mode.Poll) (cond (bytes_eq w (codes "wait")) (Some mode.Block) (option_map (λ ticks. mode.Until ticks) (number_at w))) ≡ Some m → (w ≡ mode_text m) × ModeFits m) [
  | true ↦ λ i f. let h : mode.Poll ≡ m = cc in subst (λ (x : Mode). (w ≡ mode_text x) × ModeFits x) h ((bytes_eq-Decides w (codes "poll")).0 i, tt)
  | false ↦ λ i f. elim (bytes_eq w (codes "wait")) as (λ v. bytes_eq w (codes "wait") ≡ v → cond v (Some mode.Block) (option_map (λ ticks. mode.Until ticks) (number_at w)) ≡ Some m → (w ≡ mode_text m) × ModeFits m) [
    | true ↦ λ j g. let h : mode.Block ≡ m = cc in subst (λ (x : Mode). (w ≡ mode_text x) × ModeFits x) h ((bytes_eq-Decides w (codes "wait")).0 j, tt)
    | false ↦ λ j g.
        let n = map_some (λ ticks. mode.Until ticks) (number_at w) m g in
        let d = number_found w n.0 n.1 in
        subst (λ (x : Mode). (w ≡ mode_text x) × ModeFits x) n.2 (d.0, d.1)
  ] refl f
] refl e

-- a mode that is written is read
mode_again : (m : Mode) → ModeFits m → mode_at (mode_text m) ≡ Some m
mode_again mode.Poll h = refl
mode_again mode.Block h = refl
mode_again (mode.Until n) h = rw (number_is_no_word n (codes "poll") h refl, number_is_no_word n (codes "wait") h refl, number_again n h) refl

func_found : (w : List ℕ) (x : Func) → func_at w ≡ Some x → w ≡ func_text x
func_found w x e = elim (bytes_eq w (codes "-")) as (λ v. bytes_eq w (codes "-") ≡ v → cond v (Some func.Nothing) (cond (bytes_eq w (codes "give")) (Some func.Give) (cond (bytes_eq w (codes "sum")) (Some func.Sum) None)) ≡ Some x → w ≡ func_text x) [
  | true ↦ λ i f. let h : func.Nothing ≡ x = cc in subst (λ (y : Func). w ≡ func_text y) h ((bytes_eq-Decides w (codes "-")).0 i)
  | false ↦ λ i f. elim (bytes_eq w (codes "give")) as (λ v. bytes_eq w (codes "give") ≡ v → cond v (Some func.Give) (cond (bytes_eq w (codes "sum")) (Some func.Sum) None) ≡ Some x → w ≡ func_text x) [
    | true ↦ λ j g. let h : func.Give ≡ x = cc in subst (λ (y : Func). w ≡ func_text y) h ((bytes_eq-Decides w (codes "give")).0 j)
    | false ↦ λ j g. let t = cond_some (bytes_eq w (codes "sum")) func.Sum x g in subst (λ (y : Func). w ≡ func_text y) t.1 ((bytes_eq-Decides w (codes "sum")).0 t.0)
  ] refl f
] refl e

func_again : (x : Func) → func_at (func_text x) ≡ Some x
func_again func.Nothing = refl
func_again func.Give = refl
func_again func.Sum = refl

-- ---- Words for threads, and built-in procedures.

-- a word and what it is
abbrev IsWho : List ℕ → Whom × List ℕ → Type 0
IsWho w x = (w ≡ who_text x.0 x.1) × WhoFits x.0 x.1

who_found : (w : List ℕ) (x : Whom × List ℕ) → who_at w ≡ Some x → IsWho w x
who_found w x e = elim (is_name w) as (λ v. is_name w ≡ v → cond v (Some (whom.Named, w)) (cond (bytes_eq w (codes "self")) (Some (whom.Me, [])) (cond (bytes_eq w (codes "first")) (Some (whom.First, [])) (cond (bytes_eq w (codes "sender")) (Some (whom.Sender, [])) (cond (bytes_eq w (codes "none")) (Some (whom.Nobody, [])) None)))) ≡ Some x → IsWho w x) [
  | true ↦ λ i f. let h : (whom.Named, w) ≡ x = cc in subst (IsWho w) h (refl, i)
  | false ↦ λ i f. elim (bytes_eq w (codes "self")) as (λ v. bytes_eq w (codes "self") ≡ v → cond v (Some (whom.Me, [])) (cond (bytes_eq w (codes "first")) (Some (whom.First, [])) (cond (bytes_eq w (codes "sender")) (Some (whom.Sender, [])) (cond (bytes_eq w (codes "none")) (Some (whom.Nobody, [])) None))) ≡ Some x → IsWho w x) [
    | true ↦ λ j g. let h : (whom.Me, []) ≡ x = cc in subst (IsWho w) h ((bytes_eq-Decides w (codes "self")).0 j, refl)
    | false ↦ λ j g. elim (bytes_eq w (codes "first")) as (λ v. bytes_eq w (codes "first") ≡ v → cond v (Some (whom.First, [])) (cond (bytes_eq w (codes "sender")) (Some (whom.Sender, [])) (cond (bytes_eq w (codes "none")) (Some (whom.Nobody, [])) None)) ≡ Some x → IsWho w x) [
      | true ↦ λ k z. let h : (whom.First, []) ≡ x = cc in subst (IsWho w) h ((bytes_eq-Decides w (codes "first")).0 k, refl)
      | false ↦ λ k z. elim (bytes_eq w (codes "sender")) as (λ v. bytes_eq w (codes "sender") ≡ v → cond v (Some (whom.Sender, [])) (cond (bytes_eq w (codes "none")) (Some (whom.Nobody, [])) None) ≡ Some x → IsWho w x) [
        | true ↦ λ l y. let h : (whom.Sender, []) ≡ x = cc in subst (IsWho w) h ((bytes_eq-Decides w (codes "sender")).0 l, refl)
        | false ↦ λ l y. let t = cond_some (bytes_eq w (codes "none")) (whom.Nobody, []) x y in subst (IsWho w) t.1 ((bytes_eq-Decides w (codes "none")).0 t.0, refl)
      ] refl z
    ] refl g
  ] refl f
] refl e

who_again : (x : Whom) (w : List ℕ) → WhoFits x w → who_at (who_text x w) ≡ Some (x, w)
who_again whom.Named w h = rw h refl
who_again whom.Me w h = rw h refl
who_again whom.First w h = rw h refl
who_again whom.Sender w h = rw h refl
who_again whom.Nobody w h = rw h refl
who_again whom.Any w h = absurd h

pub who_is_source : (x : Whom) (w : List ℕ) → WhoFits x w → SourceFits x w
who_is_source whom.Named w h = h
who_is_source whom.Me w h = h
who_is_source whom.First w h = h
who_is_source whom.Sender w h = h
who_is_source whom.Nobody w h = h
who_is_source whom.Any w h = absurd h

source_found : (w : List ℕ) (x : Whom × List ℕ) → source_at w ≡ Some x → (w ≡ who_text x.0 x.1) × SourceFits x.0 x.1
source_found w x e = elim (bytes_eq w (codes "any")) as (λ v. bytes_eq w (codes "any") ≡ v → cond v (Some (whom.Any, [])) (who_at w) ≡ Some x → (w ≡ who_text x.0 x.1) × SourceFits x.0 x.1) [
  | true ↦ λ i f. let h : (whom.Any, []) ≡ x = cc in subst (λ (y : Whom × List ℕ). (w ≡ who_text y.0 y.1) × SourceFits y.0 y.1) h ((bytes_eq-Decides w (codes "any")).0 i, refl)
  | false ↦ λ i f. let g = who_found w x f in (g.0, who_is_source x.0 x.1 g.1)
] refl e

name_is_not_any : (w : List ℕ) → is_name w ≡ true → bytes_eq w (codes "any") ≡ false
name_is_not_any w h = elim (bytes_eq w (codes "any")) as (λ v. bytes_eq w (codes "any") ≡ v → v ≡ false) [
  | true ↦ λ e. let same : w ≡ codes "any" = (bytes_eq-Decides w (codes "any")).0 e in absurd (let f : is_name (codes "any") ≡ true = subst (λ x. is_name x ≡ true) same h in cc)
  | false ↦ λ e. refl
] refl

source_again : (x : Whom) (w : List ℕ) → SourceFits x w → source_at (who_text x w) ≡ Some (x, w)
source_again whom.Named w h = rw (name_is_not_any w h, h) refl
source_again whom.Me w h = rw h refl
source_again whom.First w h = rw h refl
source_again whom.Sender w h = rw h refl
source_again whom.Nobody w h = rw h refl
source_again whom.Any w h = rw h refl

spaced_name_found : (w n : List ℕ) → spaced_name w ≡ Some n → (w ≡ 32 ∷ n) × (is_name n ≡ true)
spaced_name_found [] n e = absurd cc
spaced_name_found (b ∷ bs) n e = elim (eqb b 32) as (λ v. eqb b 32 ≡ v → cond v (name_in bs) None ≡ Some n → (b ∷ bs ≡ 32 ∷ n) × (is_name n ≡ true)) [
  | false ↦ λ t f. absurd cc
  | true ↦ λ t f.
      let u = cond_some (is_name bs) bs n f in
      (rw (eqb-true b 32 t) (ap (λ l. 32 ∷ l) u.1), subst (λ x. is_name x ≡ true) u.1 u.0)
] refl e

-- a session and its words
abbrev IsSession : List ℕ → ℕ × List ℕ → Type 0
IsSession w x = (w ≡ decimal x.0 ++ 32 ∷ x.1) × IsAgentEvent x.0 × (is_name x.1 ≡ true)

session_found : (w : List ℕ) (x : ℕ × List ℕ) → session_at w ≡ Some x → IsSession w x
session_found w x e =
    option_and_then_some (λ event. option_map (λ name. (event, name)) (spaced_name (drop (reach 32 w) w))) (agent_event_at (take (reach 32 w) w)) x e
    (λ event i f.
    let m = map_some (λ (name : List ℕ). (event, name)) (spaced_name (drop (reach 32 w) w)) x f in
    let n = spaced_name_found (drop (reach 32 w) w) m.0 m.1 in
    let d = agent_event_found (take (reach 32 w) w) event i in
    subst (IsSession w) m.2 (sym (take-append-drop (reach 32 w) w) ∙ ap (λ l. l ++ drop (reach 32 w) w) d.0 ∙ ap (λ l. decimal event ++ l) n.0, d.1, n.1))

abbrev IsBuilt : List ℕ → ℕ × List ℕ → Type 0
IsBuilt w x = (w ≡ built_text x.0 x.1) × BuiltFits x.0 x.1

built_found : (w : List ℕ) (x : ℕ × List ℕ) → built_at w ≡ Some x → IsBuilt w x
built_found w x e = elim (bytes_eq w (codes "store")) as (λ v. bytes_eq w (codes "store") ≡ v → cond v (Some (0, [])) (cond (bytes_eq (take 8 w) (codes "session ")) (session_at (drop 8 w)) None) ≡ Some x → IsBuilt w x) [
  | true ↦ λ i f. let h : (0, []) ≡ x = cc in subst (IsBuilt w) h ((bytes_eq-Decides w (codes "store")).0 i, inl (refl, refl))
  | false ↦ λ i f. elim (bytes_eq (take 8 w) (codes "session ")) as (λ v. bytes_eq (take 8 w) (codes "session ") ≡ v → cond v (session_at (drop 8 w)) None ≡ Some x → IsBuilt w x) [
    | false ↦ λ j g. absurd cc
    | true ↦ λ j g.
        let s = session_found (drop 8 w) x g in
        let some : eqb x.0 0 ≡ false = ne_eqb x.0 0 (λ z. omega (arith, s.1.0)) in
        let front : take 8 w ≡ codes "session " = (bytes_eq-Decides (take 8 w) (codes "session ")).0 j in
        (rw some (sym (take-append-drop 8 w) ∙ ap (λ l. l ++ drop 8 w) front ∙ ap (λ l. codes "session " ++ l) s.0), inr (s.1, s.2))
  ] refl f
] refl e

name_bytes_are_whole : (bs : List ℕ) → list_all is_name_byte bs ≡ true → reach 32 bs ≡ length bs
name_bytes_are_whole [] h = refl
name_bytes_are_whole (b ∷ bs) h = elim (eqb b 32) as (λ v. eqb b 32 ≡ v → cond v 0 (suc (reach 32 bs)) ≡ suc (length bs)) [
  | true ↦ λ t. absurd (let h' = subst (λ x. (is_name_byte x && list_all is_name_byte bs) ≡ true) (eqb-true b 32 t) h in cc)
  | false ↦ λ t. ap suc (name_bytes_are_whole bs (both (is_name_byte b) (list_all is_name_byte bs) h).1)
] refl

pub name_is_whole : (w : List ℕ) → is_name w ≡ true → reach 32 w ≡ length w
name_is_whole [] h = refl
name_is_whole (b ∷ bs) h =
    let u = both (is_lowercase b && list_all is_name_byte bs && ltb (length bs) 16) (not (is_reserved (b ∷ bs))) h in
    let v = both (is_lowercase b && list_all is_name_byte bs) (ltb (length bs) 16) u.0 in
    let t = both (is_lowercase b) (list_all is_name_byte bs) v.0 in
    let low : 97 ≤ b = leb-true 97 b (both (leb 97 b) (leb b 122) t.0).0 in
    let no : eqb b 32 ≡ false = ne_eqb b 32 (λ z. omega arith) in
    rw no (ap suc (name_bytes_are_whole bs t.1))

pub digits_are_whole : (bs : List ℕ) → all_ascii_digits bs ≡ true → reach 32 bs ≡ length bs
digits_are_whole [] h = refl
digits_are_whole (b ∷ bs) h = elim (eqb b 32) as (λ v. eqb b 32 ≡ v → cond v 0 (suc (reach 32 bs)) ≡ suc (length bs)) [
  | true ↦ λ t. absurd (let h' = subst (λ x. (is_ascii_digit x && all_ascii_digits bs) ≡ true) (eqb-true b 32 t) h in cc)
  | false ↦ λ t. ap suc (digits_are_whole bs (both (is_ascii_digit b) (all_ascii_digits bs) h).1)
] refl

built_again : (e : ℕ) (w : List ℕ) → BuiltFits e w → built_at (built_text e w) ≡ Some (e, w)
built_again e w (inl h) = rw (h.0, h.1) refl
built_again e w (inr h) =
    let some : eqb e 0 ≡ false = ne_eqb e 0 (λ z. omega (arith, h.0.0)) in
    let ds : reach 32 (decimal e) ≡ length (decimal e) = digits_are_whole (decimal e) (digits_decimal own e (omega (arith, h.0.1))) in
    let n : reach 32 (decimal e ++ 32 ∷ w) ≡ length (decimal e) = reach-append 32 (decimal e) (32 ∷ w) ds refl in
    rw some (rw (n, take_at (decimal e) (32 ∷ w) (length (decimal e)) refl, drop_at (decimal e) (32 ∷ w) (length (decimal e)) refl, agent_event_again e h.0, h.1) refl)

-- ---- What is read is what was written.

-- this text filled the slot
record FilledWith (k : Kind) (p q : Phrase) (text : List ℕ) : Type 0 where
  filled : Filled k p q
  text_is : text ≡ slot_text q k
  fits : SlotFits q k

name_found : (w n : List ℕ) → name_in w ≡ Some n → (w ≡ n) × (is_name n ≡ true)
name_found w n e = let b = cond_some (is_name w) w n e in (b.1, subst (λ x. is_name x ≡ true) b.1 b.0)

word_found : (k : Kind) (p q : Phrase) (w : List ℕ) → fill_word k p w ≡ Some q → FilledWith k p q (32 ∷ w)
word_found kind.Thread p q w e =
    let m = map_some (λ (x : List ℕ). record p { thread = x }) (name_in w) q e in
    let g = name_found w m.0 m.1 in
    subst (λ x. FilledWith kind.Thread p x (32 ∷ w)) m.2 (record { filled = fills_thread p m.0; text_is = ap (λ t. 32 ∷ t) g.0; fits = g.1 })
word_found kind.Who p q w e =
    let m = map_some (λ (x : Whom × List ℕ). record p { who = x.0; thread = x.1 }) (who_at w) q e in
    let g = who_found w m.0 m.1 in
    subst (λ x. FilledWith kind.Who p x (32 ∷ w)) m.2 (record { filled = fills_who p m.0.0 m.0.1; text_is = ap (λ t. 32 ∷ t) g.0; fits = g.1 })
word_found kind.Source p q w e =
    let m = map_some (λ (x : Whom × List ℕ). record p { who = x.0; thread = x.1 }) (source_at w) q e in
    let g = source_found w m.0 m.1 in
    subst (λ x. FilledWith kind.Source p x (32 ∷ w)) m.2 (record { filled = fills_source p m.0.0 m.0.1; text_is = ap (λ t. 32 ∷ t) g.0; fits = g.1 })
word_found kind.Procedure p q w e =
    let m = map_some (λ (x : List ℕ). record p { procedure = x }) (name_in w) q e in
    let g = name_found w m.0 m.1 in
    subst (λ x. FilledWith kind.Procedure p x (32 ∷ w)) m.2 (record { filled = fills_procedure p m.0; text_is = ap (λ t. 32 ∷ t) g.0; fits = g.1 })
word_found kind.Monitor p q w e =
    let m = map_some (λ (x : List ℕ). record p { monitor = x }) (name_in w) q e in
    let g = name_found w m.0 m.1 in
    subst (λ x. FilledWith kind.Monitor p x (32 ∷ w)) m.2 (record { filled = fills_monitor p m.0; text_is = ap (λ t. 32 ∷ t) g.0; fits = g.1 })
word_found kind.Condition p q w e =
    let m = map_some (λ (x : List ℕ). record p { condition = x }) (name_in w) q e in
    let g = name_found w m.0 m.1 in
    subst (λ x. FilledWith kind.Condition p x (32 ∷ w)) m.2 (record { filled = fills_condition p m.0; text_is = ap (λ t. 32 ∷ t) g.0; fits = g.1 })
word_found kind.Number p q w e =
    let m = map_some (λ (x : ℕ). record p { number = x }) (number_at w) q e in
    let g = number_found w m.0 m.1 in
    subst (λ x. FilledWith kind.Number p x (32 ∷ w)) m.2 (record { filled = fills_number p m.0; text_is = ap (λ t. 32 ∷ t) g.0; fits = g.1 })
word_found kind.Priority p q w e =
    let m = map_some (λ (x : ℕ). record p { number = x }) (number_at w) q e in
    let g = number_found w m.0 m.1 in
    subst (λ x. FilledWith kind.Priority p x (32 ∷ w)) m.2 (record { filled = fills_priority p m.0; text_is = ap (λ t. 32 ∷ t) g.0; fits = g.1 })
word_found kind.Room p q w e =
    let m = map_some (λ (x : ℕ). record p { room = x }) (room_at w) q e in
    let g = room_found w m.0 m.1 in
    subst (λ x. FilledWith kind.Room p x (32 ∷ w)) m.2 (record { filled = fills_room p m.0; text_is = ap (λ t. 32 ∷ t) g.0; fits = g.1 })
word_found kind.Client p q w e =
    let m = map_some (λ (x : ℕ). record p { client = x }) (client_at w) q e in
    let g = client_found w m.0 m.1 in
    subst (λ x. FilledWith kind.Client p x (32 ∷ w)) m.2 (record { filled = fills_client p m.0; text_is = ap (λ t. 32 ∷ t) g.0; fits = g.1 })
word_found kind.Event p q w e =
    let m = map_some (λ (x : ℕ). record p { event = x }) (event_at w) q e in
    let g = event_found w m.0 m.1 in
    subst (λ x. FilledWith kind.Event p x (32 ∷ w)) m.2 (record { filled = fills_event p m.0; text_is = ap (λ t. 32 ∷ t) g.0; fits = g.1 })
word_found kind.Flags p q w e =
    let m = map_some (λ (x : Flags). record p { flags = x }) (flags_at w) q e in
    let g = flags_found w m.0 m.1 in
    subst (λ x. FilledWith kind.Flags p x (32 ∷ w)) m.2 (record { filled = fills_flags p m.0; text_is = ap (λ t. 32 ∷ t) g; fits = tt })
word_found kind.Mode p q w e =
    let m = map_some (λ (x : Mode). record p { mode = x }) (mode_at w) q e in
    let g = mode_found w m.0 m.1 in
    subst (λ x. FilledWith kind.Mode p x (32 ∷ w)) m.2 (record { filled = fills_mode p m.0; text_is = ap (λ t. 32 ∷ t) g.0; fits = g.1 })
word_found kind.Pattern p q w e =
    let m = map_some (λ (x : Pattern). record p { pattern = x }) (pattern_at w) q e in
    let g = pattern_found w m.0 m.1 in
    subst (λ x. FilledWith kind.Pattern p x (32 ∷ w)) m.2 (record { filled = fills_pattern p m.0; text_is = ap (λ t. 32 ∷ t) g.0; fits = g.1 })
word_found kind.Func p q w e =
    let m = map_some (λ (x : Func). record p { func = x }) (func_at w) q e in
    let g = func_found w m.0 m.1 in
    subst (λ x. FilledWith kind.Func p x (32 ∷ w)) m.2 (record { filled = fills_func p m.0; text_is = ap (λ t. 32 ∷ t) g; fits = tt })
word_found kind.Test p q w e = absurd cc
word_found kind.Built p q w e = absurd cc
word_found kind.Text p q w e = absurd cc

-- a slot was taken off the front of the text
record Taken (k : Kind) (p : Phrase) (rest : List ℕ) (x : Phrase × List ℕ) : Type 0 where
  filled : Filled k p x.0
  text_is : rest ≡ slot_text x.0 k ++ x.1
  fits : SlotFits x.0 k

text_found : (p : Phrase) (rest : List ℕ) (x : Phrase × List ℕ) → fill_text p rest ≡ Some x → Taken kind.Text p rest x
text_found p [] x e =
    let h : (record p { text = [] }, []) ≡ x = cc in
    subst (λ y. Taken kind.Text p [] y) h (record { filled = fills_text p []; text_is = refl; fits = refl })
text_found p (b ∷ []) x e =
    let c = cond_some (eqb b 32 && ltb 0 0 && is_text []) (record p { text = [] }, []) x e in
    absurd (omega (arith, ltb-true 0 0 (both _ _ (both (eqb b 32 && ltb 0 0) (is_text []) c.0).0).1))
text_found p (b ∷ c ∷ bs) x e =
    let t = cond_some (eqb b 32 && ltb 0 (length (c ∷ bs)) && is_text (c ∷ bs)) (record p { text = c ∷ bs }, []) x e in
    let u = both (eqb b 32 && ltb 0 (length (c ∷ bs))) (is_text (c ∷ bs)) t.0 in
    let v = both (eqb b 32) (ltb 0 (length (c ∷ bs))) u.0 in
    let space : b ≡ 32 = eqb-true b 32 v.0 in
    subst (λ y. Taken kind.Text p (b ∷ c ∷ bs) y) t.1 (record { filled = fills_text p (c ∷ bs); text_is = rw space (sym (append-nil (32 ∷ c ∷ bs))); fits = u.1 })

test_slot_found : (p : Phrase) (rest : List ℕ) (x : Phrase × List ℕ) → fill_test p rest ≡ Some x → Taken kind.Test p rest x
test_slot_found p [] x e = absurd cc
test_slot_found p (b ∷ bs) x e = elim (eqb b 32) as (λ v. eqb b 32 ≡ v → cond v (option_map (λ t. (record p { test = t }, [])) (test_at bs)) None ≡ Some x → Taken kind.Test p (b ∷ bs) x) [
  | false ↦ λ t f. absurd cc
  | true ↦ λ t f. elim (test_at bs) as (λ o. test_at bs ≡ o → option_map (λ t. (record p { test = t }, [])) o ≡ Some x → Taken kind.Test p (b ∷ bs) x) [
    | None ↦ λ i g. absurd cc
    | Some found ↦ λ i g.
        let w = test_found bs found i in
        let h : (record p { test = found }, []) ≡ x = cc in
        let space : b ≡ 32 = eqb-true b 32 t in
        subst (λ y. Taken kind.Test p (b ∷ bs) y) h (record { filled = fills_test p found; text_is = rw (space, append-nil (32 ∷ test_text found)) (ap (λ l. 32 ∷ l) w.0); fits = w.1 })
  ] refl f
] refl e

built_slot_found : (p : Phrase) (rest : List ℕ) (x : Phrase × List ℕ) → fill_built p rest ≡ Some x → Taken kind.Built p rest x
built_slot_found p [] x e = absurd cc
built_slot_found p (b ∷ bs) x e = elim (eqb b 32) as (λ v. eqb b 32 ≡ v → cond v (option_map (λ y. (record p { event = y.0; thread = y.1 }, [])) (built_at bs)) None ≡ Some x → Taken kind.Built p (b ∷ bs) x) [
  | false ↦ λ t f. absurd cc
  | true ↦ λ t f.
      let m = map_some (λ (y : ℕ × List ℕ). (record p { event = y.0; thread = y.1 }, [])) (built_at bs) x f in
      let g = built_found bs m.0 m.1 in
      let space : b ≡ 32 = eqb-true b 32 t in
      subst (λ y. Taken kind.Built p (b ∷ bs) y) m.2 (record { filled = fills_built p m.0.0 m.0.1; text_is = rw (space, append-nil (32 ∷ built_text m.0.0 m.0.1)) (ap (λ l. 32 ∷ l) g.0); fits = g.1 })
] refl e

spaced_found : (k : Kind) (p : Phrase) (rest : List ℕ) (x : Phrase × List ℕ) → fill_spaced k p rest ≡ Some x → Taken k p rest x
spaced_found k p [] x e = absurd cc
spaced_found k p (b ∷ bs) x e = elim (eqb b 32) as (λ v. eqb b 32 ≡ v → cond v (option_map (λ q. (q, drop (reach 32 bs) bs)) (fill_word k p (take (reach 32 bs) bs))) None ≡ Some x → Taken k p (b ∷ bs) x) [
  | false ↦ λ t f. absurd cc
  | true ↦ λ t f. elim (fill_word k p (take (reach 32 bs) bs)) as (λ o. fill_word k p (take (reach 32 bs) bs) ≡ o → option_map (λ q. (q, drop (reach 32 bs) bs)) o ≡ Some x → Taken k p (b ∷ bs) x) [
    | None ↦ λ i g. absurd cc
    | Some q ↦ λ i g.
        let w = word_found k p q (take (reach 32 bs) bs) i in
        let h : (q, drop (reach 32 bs) bs) ≡ x = cc in
        let space : b ≡ 32 = eqb-true b 32 t in
        subst (λ y. Taken k p (b ∷ bs) y) h (record { filled = w.filled; text_is = rw (space, ← w.text_is) (ap (λ l. 32 ∷ l) (sym (take-append-drop (reach 32 bs) bs))); fits = w.fits })
  ] refl f
] refl e

slot_found : (k : Kind) (p : Phrase) (rest : List ℕ) (x : Phrase × List ℕ) → slot_at k p rest ≡ Some x → Taken k p rest x
slot_found kind.Thread p rest x e = spaced_found kind.Thread p rest x e
slot_found kind.Who p rest x e = spaced_found kind.Who p rest x e
slot_found kind.Source p rest x e = spaced_found kind.Source p rest x e
slot_found kind.Procedure p rest x e = spaced_found kind.Procedure p rest x e
slot_found kind.Monitor p rest x e = spaced_found kind.Monitor p rest x e
slot_found kind.Condition p rest x e = spaced_found kind.Condition p rest x e
slot_found kind.Number p rest x e = spaced_found kind.Number p rest x e
slot_found kind.Priority p rest x e = spaced_found kind.Priority p rest x e
slot_found kind.Room p rest x e = spaced_found kind.Room p rest x e
slot_found kind.Client p rest x e = spaced_found kind.Client p rest x e
slot_found kind.Event p rest x e = spaced_found kind.Event p rest x e
slot_found kind.Flags p rest x e = spaced_found kind.Flags p rest x e
slot_found kind.Mode p rest x e = spaced_found kind.Mode p rest x e
slot_found kind.Pattern p rest x e = spaced_found kind.Pattern p rest x e
slot_found kind.Func p rest x e = spaced_found kind.Func p rest x e
slot_found kind.Test p rest x e = test_slot_found p rest x e
slot_found kind.Built p rest x e = built_slot_found p rest x e
slot_found kind.Text p rest x e = text_found p rest x e

-- the text was taken slot by slot, to its end
record RowTaken (ks : List Kind) (p : Phrase) (rest : List ℕ) (q : Phrase) : Type 0 where
  op : q.op ≡ p.op
  others : (j : Kind) → absent j ks ≡ true → slot_value q j ≡ slot_value p j
  text_is : rest ≡ flat_map (slot_text q) ks
  fits : AllByRecursion (SlotFits q) ks

-- the kind in front isn't among the others
row_first : (k : Kind) (ks : List Kind) → is_row (k ∷ ks) ≡ true → (absent k ks ≡ true) × (is_row ks ≡ true)
row_first k ks h = both (absent k ks) (is_row ks) (both (absent k ks && is_row ks) (not (takes_rest k) || is_last ks) h).0

not_true : (b : Bool) → not b ≡ true → b ≡ false
not_true true h = absurd cc
not_true false h = refl

fill_found : (ks : List Kind) (p : Phrase) (rest : List ℕ) (q : Phrase) → is_row ks ≡ true → fill ks p rest ≡ Some q → RowTaken ks p rest q
fill_found [] p [] q r e =
    let h : p ≡ q = cc in
    record { op = ap (λ (x : Phrase). x.op) (sym h); others = λ j a. ap (λ (x : Phrase). slot_value x j) (sym h); text_is = refl; fits = tt }
fill_found [] p (b ∷ bs) q r e = absurd cc
fill_found (k ∷ ks) p rest q r e =
    option_and_then_some (λ x. fill ks x.0 x.1) (slot_at k p rest) q e
    (λ x i f.
    let t = slot_found k p rest x i in
    let first = row_first k ks r in
    let more = fill_found ks x.0 x.1 q first.1 f in
    let same : slot_value q k ≡ slot_value x.0 k = more.others k first.0 in
    record {
      op = more.op ∙ t.filled.op;
      others = λ j a. let n = both (not (same_field j k)) (absent j ks) a in more.others j n.1 ∙ t.filled.others j (not_true _ n.0);
      text_is = t.text_is ∙ ap (λ l. l ++ x.1) (text_from_value x.0 q k (sym same)) ∙ ap (λ l. slot_text q k ++ l) more.text_is;
      fits = (fits_from_value x.0 q k (sym same) t.fits, more.fits);
    })

-- a line is the text of what is read from it
pub phrase_found : (line : List ℕ) (p : Phrase) → phrase_at line ≡ Some p → IsPhrase p × (line ≡ phrase_text p)
unfolding phrase_at
phrase_found line p e =
    let n = key_length line in
    option_and_then_some (λ o. fill (slots_of o) (blank o) (drop n line)) (op_at (take n line)) p e
    (λ o i f.
    let t = fill_found (slots_of o) (blank o) (drop n line) p (rows o) f in
    let w : take n line ≡ key_of o = op_found (take n line) o i in
    let whole : line ≡ key_of o ++ flat_map (slot_text p) (slots_of o) = sym (take-append-drop n line) ∙ ap (λ l. l ++ drop n line) w ∙ ap (λ l. key_of o ++ l) t.text_is in
    let is_op : o ≡ p.op = sym t.op in
    (subst (λ x. AllByRecursion (SlotFits p) (slots_of x)) is_op t.fits, subst (λ x. line ≡ key_of x ++ flat_map (slot_text p) (slots_of x)) is_op whole))

-- ---- What is written is read.

who_is_whole : (x : Whom) (w : List ℕ) → SourceFits x w → reach 32 (who_text x w) ≡ length (who_text x w)
who_is_whole whom.Named w h = name_is_whole w h
who_is_whole whom.Me w h = refl
who_is_whole whom.First w h = refl
who_is_whole whom.Sender w h = refl
who_is_whole whom.Nobody w h = refl
who_is_whole whom.Any w h = refl

pattern_is_whole : (x : Pattern) → PatternFits x → reach 32 (pattern_text x) ≡ length (pattern_text x)
pattern_is_whole pattern.All h = refl
pattern_is_whole (pattern.Num n) h = digits_are_whole (decimal n) (digits_decimal own n (omega arith))

func_is_whole : (x : Func) → reach 32 (func_text x) ≡ length (func_text x)
func_is_whole func.Nothing = refl
func_is_whole func.Give = refl
func_is_whole func.Sum = refl

mode_is_whole : (m : Mode) → ModeFits m → reach 32 (mode_text m) ≡ length (mode_text m)
mode_is_whole mode.Poll h = refl
mode_is_whole mode.Block h = refl
mode_is_whole (mode.Until n) h = digits_are_whole (decimal n) (digits_decimal own n (omega arith))

flags_are_whole : (f : Flags) → reach 32 (flags_text f) ≡ length (flags_text f)
flags_are_whole f = by_letters f.suspended f.nolastrites f.server
  where
    by_letters : (s n v : Bool) → reach 32 (flags_text (flags_by s n v)) ≡ length (flags_text (flags_by s n v))
    by_letters false false false = refl
    by_letters true false false = refl
    by_letters false true false = refl
    by_letters true true false = refl
    by_letters false false true = refl
    by_letters true false true = refl
    by_letters false true true = refl
    by_letters true true true = refl

spaced_again : (k : Kind) (q r : Phrase) (w after : List ℕ) → reach 32 w ≡ length w → Stops 32 after → fill_word k q w ≡ Some r → fill_spaced k q (32 ∷ w ++ after) ≡ Some (r, after)
spaced_again k q r w after whole s e =
    rw (reach-append 32 w after whole s, take_at w after (length w) refl, drop_at w after (length w) refl, e) refl

text_again : (p q : Phrase) → is_text p.text ≡ true → fill_text q (with_space p.text ++ []) ≡ Some (record q { text = p.text }, [])
text_again p q h = rw append-nil (of_text q p.text h)
  where
    of_text : (q : Phrase) (t : List ℕ) → is_text t ≡ true → fill_text q (with_space t) ≡ Some (record q { text = t }, [])
    of_text q [] h = refl
    of_text q (b ∷ bs) h = let some : ltb 0 (length (b ∷ bs)) ≡ true = lt-ltb 0 (length (b ∷ bs)) (omega arith) in rw (some, h) refl

slot_again : (k : Kind) (p q : Phrase) (after : List ℕ) → SlotFits p k → Stops 32 after → (takes_rest k ≡ true → after ≡ []) → slot_at k q (slot_text p k ++ after) ≡ Some (copy_slot k p q, after)
slot_again kind.Thread p q after h s l = spaced_again kind.Thread q (record q { thread = p.thread }) p.thread after (name_is_whole p.thread h) s (rw h refl)
slot_again kind.Who p q after h s l = spaced_again kind.Who q (record q { who = p.who; thread = p.thread }) (who_text p.who p.thread) after (who_is_whole p.who p.thread (who_is_source p.who p.thread h)) s (rw (who_again p.who p.thread h) refl)
slot_again kind.Source p q after h s l = spaced_again kind.Source q (record q { who = p.who; thread = p.thread }) (who_text p.who p.thread) after (who_is_whole p.who p.thread h) s (rw (source_again p.who p.thread h) refl)
slot_again kind.Procedure p q after h s l = spaced_again kind.Procedure q (record q { procedure = p.procedure }) p.procedure after (name_is_whole p.procedure h) s (rw h refl)
slot_again kind.Monitor p q after h s l = spaced_again kind.Monitor q (record q { monitor = p.monitor }) p.monitor after (name_is_whole p.monitor h) s (rw h refl)
slot_again kind.Condition p q after h s l = spaced_again kind.Condition q (record q { condition = p.condition }) p.condition after (name_is_whole p.condition h) s (rw h refl)
slot_again kind.Number p q after h s l =
    spaced_again kind.Number q (record q { number = p.number }) (decimal p.number) after (digits_are_whole (decimal p.number) (digits_decimal own p.number (omega arith))) s (rw (number_again p.number h) refl)
slot_again kind.Priority p q after h s l =
    spaced_again kind.Priority q (record q { number = p.number }) (decimal p.number) after (digits_are_whole (decimal p.number) (digits_decimal own p.number (omega arith))) s (rw (number_again p.number h) refl)
slot_again kind.Room p q after h s l =
    spaced_again kind.Room q (record q { room = p.room }) (decimal p.room) after (digits_are_whole (decimal p.room) (digits_decimal own p.room (omega arith))) s (rw (room_again p.room h) refl)
slot_again kind.Client p q after h s l =
    spaced_again kind.Client q (record q { client = p.client }) (decimal p.client) after (digits_are_whole (decimal p.client) (digits_decimal own p.client (omega arith))) s (rw (client_again p.client h) refl)
slot_again kind.Event p q after h s l =
    spaced_again kind.Event q (record q { event = p.event }) (decimal p.event) after (digits_are_whole (decimal p.event) (digits_decimal own p.event (omega (arith, h)))) s (rw (event_again p.event h) refl)
slot_again kind.Flags p q after h s l = spaced_again kind.Flags q (record q { flags = p.flags }) (flags_text p.flags) after (flags_are_whole p.flags) s (rw (flags_again p.flags) refl)
slot_again kind.Mode p q after h s l = spaced_again kind.Mode q (record q { mode = p.mode }) (mode_text p.mode) after (mode_is_whole p.mode h) s (rw (mode_again p.mode h) refl)
slot_again kind.Pattern p q after h s l = spaced_again kind.Pattern q (record q { pattern = p.pattern }) (pattern_text p.pattern) after (pattern_is_whole p.pattern h) s (rw (pattern_again p.pattern h) refl)
slot_again kind.Func p q after h s l = spaced_again kind.Func q (record q { func = p.func }) (func_text p.func) after (func_is_whole p.func) s (rw (func_again p.func) refl)
slot_again kind.Test p q after h s l =
    let nothing : after ≡ [] = l refl in
    rw (nothing, append-nil (test_text p.test), test_again p.test h) refl
slot_again kind.Built p q after h s l =
    let nothing : after ≡ [] = l refl in
    rw (nothing, append-nil (built_text p.event p.thread), built_again p.event p.thread h) refl
slot_again kind.Text p q after h s l =
    let nothing : after ≡ [] = l refl in
    subst (λ (r : List ℕ). fill_text q (with_space p.text ++ r) ≡ Some (record q { text = p.text }, r)) (sym nothing) (text_again p q h)

-- the text of slots is empty or begins with a space
places_stop : (p : Phrase) (ks : List Kind) → is_row ks ≡ true → Stops 32 (flat_map (slot_text p) ks)
places_stop p [] r = tt
places_stop p (kind.Thread ∷ ks) r = refl
places_stop p (kind.Who ∷ ks) r = refl
places_stop p (kind.Source ∷ ks) r = refl
places_stop p (kind.Procedure ∷ ks) r = refl
places_stop p (kind.Monitor ∷ ks) r = refl
places_stop p (kind.Condition ∷ ks) r = refl
places_stop p (kind.Number ∷ ks) r = refl
places_stop p (kind.Priority ∷ ks) r = refl
places_stop p (kind.Room ∷ ks) r = refl
places_stop p (kind.Client ∷ ks) r = refl
places_stop p (kind.Event ∷ ks) r = refl
places_stop p (kind.Flags ∷ ks) r = refl
places_stop p (kind.Mode ∷ ks) r = refl
places_stop p (kind.Pattern ∷ ks) r = refl
places_stop p (kind.Func ∷ ks) r = refl
places_stop p (kind.Test ∷ ks) r = refl
places_stop p (kind.Built ∷ ks) r = refl
places_stop p (kind.Text ∷ []) r = rw append-nil (of_text p.text)
  where
    of_text : (t : List ℕ) → Stops 32 (with_space t)
    of_text [] = tt
    of_text (b ∷ bs) = refl
places_stop p (kind.Text ∷ k ∷ ks) r = absurd (let no = (both (absent kind.Text (k ∷ ks) && is_row (k ∷ ks)) false r).1 in cc)

-- nothing comes after a slot that takes all
rest_is_last : (p : Phrase) (k : Kind) (ks : List Kind) → is_row (k ∷ ks) ≡ true → takes_rest k ≡ true → flat_map (slot_text p) ks ≡ []
rest_is_last p k [] r t = refl
rest_is_last p k (j ∷ ks) r t =
    let last : (not (takes_rest k) || false) ≡ true = (both (absent k (j ∷ ks) && is_row (j ∷ ks)) (not (takes_rest k) || false) r).1 in
    absurd (let no : (not true || false) ≡ true = subst (λ (b : Bool). (not b || false) ≡ true) t last in cc)

fill_again : (ks : List Kind) (p q : Phrase) → is_row ks ≡ true → AllByRecursion (SlotFits p) ks → fill ks q (flat_map (slot_text p) ks) ≡ Some (copy_slots ks p q)
fill_again [] p q r h = refl
fill_again (k ∷ ks) p q r h =
    let first = row_first k ks r in
    let e = slot_again k p q (flat_map (slot_text p) ks) h.0 (places_stop p ks first.1) (rest_is_last p k ks r) in
    ap (option_and_then (λ x. fill ks x.0 x.1)) e ∙ fill_again ks p (copy_slot k p q) first.1 h.1

-- the slots of a phrase stop its key
pub slots_stop : (p : Phrase) → Stops 32 (flat_map (slot_text p) (slots_of p.op))
slots_stop p = places_stop p (slots_of p.op) (rows p.op)

-- the text of a phrase is read as the phrase
pub phrase_again : (p : Phrase) → IsPhrase p → phrase_at (phrase_text p) ≡ Some (own_slots p)
unfolding phrase_at
phrase_again p h =
    let w = key_of p.op in
    let rest = flat_map (slot_text p) (slots_of p.op) in
    let n : key_length (w ++ rest) ≡ length w = key_is_whole p.op rest (stops_there rest (slots_stop p)) in
    rw (n, take_at w rest (length w) refl, drop_at w rest (length w) refl, op_again p.op) (fill_again (slots_of p.op) p (blank p.op) (rows p.op) h)

-- no slot is filled that the row doesn't have
pub phrase_needed : (line : List ℕ) (p : Phrase) → phrase_at line ≡ Some p → IsNeeded p
phrase_needed line p e =
    let f = phrase_found line p e in
    let again : phrase_at (phrase_text p) ≡ Some (own_slots p) = phrase_again p f.0 in
    let same : phrase_at line ≡ phrase_at (phrase_text p) = ap phrase_at f.1 in
    let both_are : Some (own_slots p) ≡ Some p = sym again ∙ sym same ∙ e in
    cc

-- ---- Lines that start a procedure.

-- a slot of a row fits
slot_fits : (p : Phrase) (k : Kind) (ks : List Kind) → AllByRecursion (SlotFits p) ks → has k ks ≡ true → SlotFits p k
slot_fits p k [] h e = absurd cc
slot_fits p k (j ∷ js) h e = elim (sameb kind_type j k) as (λ v. sameb kind_type j k ≡ v → (v || has k js) ≡ true → SlotFits p k) [
  | true ↦ λ same f. subst (SlotFits p) (same_true kind_type tt j k same) h.0
  | false ↦ λ same f. slot_fits p k js h.1 f
] refl e

-- they name one
pub start_is_named : (p : Phrase) → IsPhrase p → starts p.op ≡ true → is_name p.procedure ≡ true
start_is_named p h s = slot_fits p kind.Procedure (slots_of p.op) h (both (sameb role_type (role_of p.op) role.Statement) (has kind.Procedure (slots_of p.op)) s).1

-- they are statements
pub start_is_statement : (o : Op) → starts o ≡ true → role_of o ≡ role.Statement
start_is_statement o s = same_true role_type tt (role_of o) role.Statement (both (sameb role_type (role_of o) role.Statement) (has kind.Procedure (slots_of o)) s).0
