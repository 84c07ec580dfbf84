-- A line has a fault exactly where it says nothing.
use Rattle.std.proofs.Common.{◌≡◌, ℕ, suc, ◌+◌, Bool, true, false, not, ◌&&◌, cond, eqb, ltb, List}
use Rattle.std.proofs.Common.{[], ◌∷◌, length, take, drop, Some, None, refl, sym, ap, ◌∙◌, arith}
use Rattle.std.specs.Prelude.{Option, option_map, option_and_then, is_some}
use Rattle.std.proofs.lemmas.Bool.{eqb-true, lt-ltb}
use Rattle.std.proofs.lemmas.List.{drop-drop}
use Rattle.lwp_types.specs.TextFields.{is_printable, is_text}
use Rattle.script_lines.specs.declared.table.Kind.{Kind}
use Rattle.script_lines.specs.declared.table.Kind.TheVariants as kind
use Rattle.script_lines.specs.declared.table.Op.{Op}
use Rattle.script_lines.specs.declared.table.Op.TheVariants as op
use Rattle.script_lines.specs.Line.{blank}
use Rattle.script_lines.specs.Phrase.{Phrase}
use Rattle.script_lines.specs.Reading.{name_in, who_at, source_at, room_at, client_at, event_at, flags_at, mode_at, pattern_at, func_at, test_at, built_at}
use Rattle.script_lines.specs.Reading.{fill_word, fill_text, fill_test, fill_built, fill_spaced, slot_at, fill, first_word, phrase_at}
use Rattle.script_lines.specs.Table.{is_half, key_length, op_at, slots_of}
use Rattle.script_lines.specs.Words.{number_at, reach}
use Rattle.script_lines.proofs.WordLemmas.{Stops}
use Rattle.script_advice.specs.Faults.{behind_slot, behind_word, byte_what, fault_at, from_unprintable, fault_of, form_fault, front_fault, op_of}
use Rattle.script_advice.specs.Faults.{opens_comment, rest_fault, second_fault, slot_fault, slots_fault, text_fault, word_fault, wrong}
use Rattle.script_advice.specs.Laws.{IsFaultedWhereUnsaid}
use Rattle.script_advice.specs.Near.{or_else}
use Rattle.script_advice.specs.Slots.{fits, is_built, is_test}
use Rattle.script_advice.specs.declared.faults.Fault.{Fault}
use Rattle.script_advice.specs.declared.faults.What.TheVariants as what

-- ---- What follows a word.

-- nothing, or a space first
behind_stops : (w : List ℕ) → Stops 32 (drop (reach 32 w) w)
behind_stops [] = tt
behind_stops (b ∷ bs) = elim (eqb b 32) as (λ v. eqb b 32 ≡ v → Stops 32 (drop (cond v 0 (suc (reach 32 bs))) (b ∷ bs))) [
  | true ↦ λ e. eqb-true b 32 e
  | false ↦ λ e. behind_stops bs
] refl

key_stops : (line : List ℕ) → Stops 32 (drop (key_length line) line)
key_stops line =
    let r = reach 32 line in
    elim (is_half (take r line)) as (λ v. Stops 32 (drop (cond v (suc r + reach 32 (drop (suc r) line)) r) line)) [
      | true ↦ rw (sym (drop-drop (reach 32 (drop (suc r) line)) (suc r) line)) (behind_stops (drop (suc r) line))
      | false ↦ behind_stops line
    ]

-- ---- One slot.

some_map : {A B : Type 0} (f : A → B) (x : Option A) → is_some (option_map f x) ≡ is_some x
some_map f None = refl
some_map f (Some a) = refl

same_map : {A B C : Type 0} (f : A → B) (g : A → C) (x : Option A) → is_some (option_map f x) ≡ is_some (option_map g x)
same_map f g None = refl
same_map f g (Some a) = refl

-- whether a word fills a slot is the same for every phrase
fits_any : (k : Kind) (p q : Phrase) (w : List ℕ) → is_some (fill_word k p w) ≡ is_some (fill_word k q w)
fits_any kind.Thread p q w = same_map _ _ (name_in w)
fits_any kind.Who p q w = same_map _ _ (who_at w)
fits_any kind.Source p q w = same_map _ _ (source_at w)
fits_any kind.Procedure p q w = same_map _ _ (name_in w)
fits_any kind.Monitor p q w = same_map _ _ (name_in w)
fits_any kind.Condition p q w = same_map _ _ (name_in w)
fits_any kind.Number p q w = same_map _ _ (number_at w)
fits_any kind.Priority p q w = same_map _ _ (number_at w)
fits_any kind.Room p q w = same_map _ _ (room_at w)
fits_any kind.Client p q w = same_map _ _ (client_at w)
fits_any kind.Event p q w = same_map _ _ (event_at w)
fits_any kind.Flags p q w = same_map _ _ (flags_at w)
fits_any kind.Mode p q w = same_map _ _ (mode_at w)
fits_any kind.Pattern p q w = same_map _ _ (pattern_at w)
fits_any kind.Func p q w = same_map _ _ (func_at w)
fits_any kind.Test p q w = refl
fits_any kind.Built p q w = refl
fits_any kind.Text p q w = refl

-- there is a fault, or the slot is filled and this is left
abbrev Agrees : Option Fault → Option (Phrase × List ℕ) → List ℕ → Type 0
Agrees (Some f) None after = Unit {0}
Agrees (Some f) (Some x) after = ⊥
Agrees None None after = ⊥
Agrees None (Some x) after = x.1 ≡ after

by_some : {A : Type 0} (o : Option A) (b : Bool) (f : Fault) (g : A → Phrase × List ℕ) (after : List ℕ) → b ≡ is_some o
    → ((a : A) → (g a).1 ≡ after) → Agrees (cond b None (Some f)) (option_map g o) after
by_some None b f g after e h = rw e tt
by_some (Some a) b f g after e h = rw e (h a)

word_agrees : (k : Kind) (p : Phrase) (rest : List ℕ) → Stops 32 rest → Agrees (word_fault k rest) (fill_spaced k p rest) (behind_word rest)
word_agrees k p [] s = tt
word_agrees k p (b ∷ bs) s =
    rw s (by_some (fill_word k p (take (reach 32 bs) bs)) (fits k (first_word bs)) _ (λ q. (q, drop (reach 32 bs) bs))
    (drop (reach 32 bs) bs) (fits_any k (blank op.Again) p (first_word bs)) (λ q. refl))

text_agrees : (p : Phrase) (rest : List ℕ) → Stops 32 rest → Agrees (text_fault rest) (fill_text p rest) []
text_agrees p [] s = refl
text_agrees p (b ∷ []) s = rw s tt
text_agrees p (b ∷ c ∷ t) s =
    let some : ltb 0 (length (c ∷ t)) ≡ true = lt-ltb _ _ (omega arith) in
    rw (s, some) (elim (is_text (c ∷ t)) as
    (λ v. Agrees (cond v None (Some (fault_at (c ∷ t) (what.Slot kind.Text)))) (cond v (Some (record p { text = c ∷ t }, [])) None) []) [
      | true ↦ refl
      | false ↦ tt
    ])

test_agrees : (p : Phrase) (rest : List ℕ) → Stops 32 rest → Agrees (rest_fault kind.Test is_test rest) (fill_test p rest) []
test_agrees p [] s = tt
test_agrees p (b ∷ bs) s = rw s (by_some (test_at bs) (is_test bs) _ (λ t. (record p { test = t }, [])) [] refl (λ t. refl))

built_agrees : (p : Phrase) (rest : List ℕ) → Stops 32 rest → Agrees (rest_fault kind.Built is_built rest) (fill_built p rest) []
built_agrees p [] s = tt
built_agrees p (b ∷ bs) s = rw s (by_some (built_at bs) (is_built bs) _ (λ x. (record p { event = x.0; thread = x.1 }, [])) [] refl (λ x. refl))

slot_agrees : (k : Kind) (p : Phrase) (rest : List ℕ) → Stops 32 rest → Agrees (slot_fault k rest) (slot_at k p rest) (behind_slot k rest)
slot_agrees kind.Thread p rest s = word_agrees kind.Thread p rest s
slot_agrees kind.Who p rest s = word_agrees kind.Who p rest s
slot_agrees kind.Source p rest s = word_agrees kind.Source p rest s
slot_agrees kind.Procedure p rest s = word_agrees kind.Procedure p rest s
slot_agrees kind.Monitor p rest s = word_agrees kind.Monitor p rest s
slot_agrees kind.Condition p rest s = word_agrees kind.Condition p rest s
slot_agrees kind.Number p rest s = word_agrees kind.Number p rest s
slot_agrees kind.Priority p rest s = word_agrees kind.Priority p rest s
slot_agrees kind.Room p rest s = word_agrees kind.Room p rest s
slot_agrees kind.Client p rest s = word_agrees kind.Client p rest s
slot_agrees kind.Event p rest s = word_agrees kind.Event p rest s
slot_agrees kind.Flags p rest s = word_agrees kind.Flags p rest s
slot_agrees kind.Mode p rest s = word_agrees kind.Mode p rest s
slot_agrees kind.Pattern p rest s = word_agrees kind.Pattern p rest s
slot_agrees kind.Func p rest s = word_agrees kind.Func p rest s
slot_agrees kind.Test p rest s = test_agrees p rest s
slot_agrees kind.Built p rest s = built_agrees p rest s
slot_agrees kind.Text p rest s = text_agrees p rest s

word_stops : (rest : List ℕ) → Stops 32 (behind_word rest)
word_stops [] = tt
word_stops (b ∷ words) = behind_stops words

slot_stops : (k : Kind) (rest : List ℕ) → Stops 32 (behind_slot k rest)
slot_stops kind.Thread rest = word_stops rest
slot_stops kind.Who rest = word_stops rest
slot_stops kind.Source rest = word_stops rest
slot_stops kind.Procedure rest = word_stops rest
slot_stops kind.Monitor rest = word_stops rest
slot_stops kind.Condition rest = word_stops rest
slot_stops kind.Number rest = word_stops rest
slot_stops kind.Priority rest = word_stops rest
slot_stops kind.Room rest = word_stops rest
slot_stops kind.Client rest = word_stops rest
slot_stops kind.Event rest = word_stops rest
slot_stops kind.Flags rest = word_stops rest
slot_stops kind.Mode rest = word_stops rest
slot_stops kind.Pattern rest = word_stops rest
slot_stops kind.Func rest = word_stops rest
slot_stops kind.Test rest = tt
slot_stops kind.Built rest = tt
slot_stops kind.Text rest = tt

-- ---- All slots.

joined : (f : Option Fault) (x : Option (Phrase × List ℕ)) (after : List ℕ) (ks : List Kind) → Agrees f x after
    → ((q : Phrase) → is_some (slots_fault ks after) ≡ not (is_some (fill ks q after)))
    → is_some (or_else f (slots_fault ks after)) ≡ not (is_some (option_and_then (λ y. fill ks y.0 y.1) x))
joined (Some f) None after ks a h = refl
joined (Some f) (Some x) after ks a h = absurd a
joined None None after ks a h = absurd a
joined None (Some x) after ks a h = h x.0 ∙ ap (λ (r : List ℕ). not (is_some (fill ks x.0 r))) (sym a)

filled : (ks : List Kind) (p : Phrase) (rest : List ℕ) → Stops 32 rest → is_some (slots_fault ks rest) ≡ not (is_some (fill ks p rest))
filled [] p [] s = refl
filled [] p (b ∷ bs) s = refl
filled (k ∷ ks) p rest s =
    joined (slot_fault k rest) (slot_at k p rest) (behind_slot k rest) ks (slot_agrees k p rest s) (λ q. filled ks q (behind_slot k rest) (slot_stops k rest))

-- ---- The line.

second_some : (rest : List ℕ) → is_some (second_fault rest) ≡ true
second_some [] = refl
second_some (b ∷ words) = refl

front_some : (line : List ℕ) → is_some (front_fault line) ≡ true
front_some [] = refl
front_some (b ∷ bs) = elim (opens_comment b) as
    (λ v. is_some (cond v (Some (fault_at (b ∷ bs) what.Comment))
    (cond (is_half (first_word (b ∷ bs))) (second_fault (drop (reach 32 (b ∷ bs)) (b ∷ bs))) (wrong what.Unknown (b ∷ bs))))
    ≡ true) [
      | true ↦ refl
      | false
          ↦ elim (is_half (first_word (b ∷ bs))) as
          (λ v. is_some (cond v (second_fault (drop (reach 32 (b ∷ bs)) (b ∷ bs))) (wrong what.Unknown (b ∷ bs))) ≡ true) [
            | true ↦ second_some (drop (reach 32 (b ∷ bs)) (b ∷ bs))
            | false ↦ refl
          ]
    ]

formed : (x : Option Op) (line : List ℕ)
    → is_some (form_fault x line) ≡ not (is_some (option_and_then (λ o. fill (slots_of o) (blank o) (drop (key_length line) line)) x))
formed None line = front_some line
formed (Some o) line = filled (slots_of o) (blank o) (drop (key_length line) line) (key_stops line)

pub unsaid : (line : List ℕ) → IsFaultedWhereUnsaid line
unfolding fault_of phrase_at op_of
unsaid line = elim (is_printable line) as
    (λ v. is_some (cond v (form_fault (op_of line) line) (Some (fault_at (from_unprintable line) (byte_what (from_unprintable line)))))
    ≡ not (v && is_some (phrase_at line))) [
      | true ↦ formed (op_at (take (key_length line) line)) line
      | false ↦ refl
    ]
