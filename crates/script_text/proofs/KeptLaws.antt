-- What is kept of a line says as much as the line.
use Rattle.std.proofs.Common.{◌≡◌, ℕ, zero, suc, ◌+◌, ◌-◌, ◌<◌, ◌≤◌, min, Bool, true, false, ◌&&◌, cond, eqb, leb, ltb, List, [], ◌∷◌, ◌++◌, length, take}
use Rattle.std.proofs.Common.{drop, fold, Option, Some, None, Ok, Err, refl, sym, ap, subst, ◌∙◌, arith, inl, inr, ◌⊎◌, append_assoc, length-append}
use Rattle.std.specs.Prelude.{codes, option_map}
use Rattle.std.specs.Str.{bytes_eq}
use Rattle.std.proofs.lemmas.Bool.{cases_lt, lt-ltb}
use Rattle.std.proofs.lemmas.List.{append-nil, take_all, take_at, drop_all, drop_at, take-append-le, drop-append-le, take-append-drop, length-take-le}
use Rattle.std.proofs.lemmas.List.Folds.{list_all-append}
use Rattle.std.proofs.lemmas.Slice.Eq.{bytes_eq-Decides}
use Rattle.lwp_types.specs.TextFields.{is_printable}
use Rattle.script_lines.specs.Phrase.{Phrase}
use Rattle.script_lines.specs.Words.{behind, is_name, reach}
use Rattle.script_lines.specs.Table.{role_of}
use Rattle.script_lines.specs.Reading.{first_word, phrase_at}
use Rattle.script_lines.proofs.LengthLaws.{name_length, long_says_nothing}
use Rattle.script_lines.proofs.WordLemmas.{reach_in}
use Rattle.script_text.specs.declared.reader.Declared.{Declared}
use Rattle.script_text.specs.declared.reader.Reader.{Reader}
use Rattle.script_text.specs.declared.reason.Reason.{Reason}
use Rattle.script_text.specs.declared.reason.Reason.TheVariants as reason
use Rattle.script_text.specs.declared.stage.Stage.{Stage}
use Rattle.script_text.specs.Declaring.{only_name, spaced_word, proc_on, native_on}
use Rattle.script_text.specs.Grammar.{may_stand_at}
use Rattle.script_text.specs.Kept.{bad_mark, kept_bytes}
use Rattle.script_text.specs.Meaning.{enter}
use Rattle.script_text.specs.Pieces.{IsTail}
use Rattle.script_text.specs.Spelling.{line_cut, word_reason, reason_behind, reason_of, after_note}
use Rattle.script_text.specs.Track.{judge_phrase_at, judge_alone, after_verdict, after_judge, knows, step, first_missing, answer_by, answer, answer_at}
use Rattle.script_text.proofs.CutLaws.{tail_inv, cut_push_line, cut_push_rest}

-- ---- Words of two lines that begin alike.

reach_le : (c : ℕ) (w : List ℕ) → reach c w ≤ length w
reach_le c [] = omega arith
reach_le c (b ∷ bs) = elim (eqb b c) as (λ v. cond v 0 (suc (reach c bs)) ≤ length (b ∷ bs)) [
  | true ↦ omega arith
  | false ↦ omega (arith, reach_le c bs)
]

reach_past : (c : ℕ) (front x : List ℕ) → length front ≤ reach c front → length front ≤ reach c (front ++ x)
reach_past c [] x h = omega arith
reach_past c (b ∷ bs) x h = elim (eqb b c) as (λ v. length (b ∷ bs) ≤ cond v 0 (suc (reach c bs)) → length (b ∷ bs) ≤ cond v 0 (suc (reach c (bs ++ x)))) [
  | true ↦ λ e. absurd (omega (arith, e))
  | false ↦ λ e. omega (arith, e, reach_past c bs x (omega (arith, e)))
] h

-- the first word ends in what is alike, or it is as long
first_in : (front x : List ℕ) → reach 32 front < length front → first_word (front ++ x) ≡ take (reach 32 front) front
first_in front x lt = rw (reach_in 32 front x lt) (take-append-le (reach 32 front) front x (omega (arith, lt)))

first_past : (front x : List ℕ) → length front ≤ reach 32 front → length front ≤ length (first_word (front ++ x))
first_past front x ge = omega (arith, reach_past 32 front x ge, length-take-le (reach 32 (front ++ x)) (front ++ x) (reach_le 32 (front ++ x)))

long_name : (w : List ℕ) → 17 ≤ length w → only_name w ≡ []
long_name w h = elim (is_name w) as (λ v. is_name w ≡ v → cond v w [] ≡ []) [
  | true ↦ λ e. absurd (omega (arith, h, name_length w e))
  | false ↦ λ e. refl
] refl

spaced_in : (front x : List ℕ) → reach 32 front < length front → spaced_word (front ++ x) ≡ take (reach 32 front) front
spaced_in front x lt =
    let there : ltb (reach 32 (front ++ x)) (length (front ++ x)) ≡ true = lt-ltb _ _ (omega (arith, lt, reach_in 32 front x lt, length-append front x)) in
    rw there (first_in front x lt)

spaced_past : (front x : List ℕ) → length front ≤ reach 32 front → 17 ≤ length front → only_name (spaced_word (front ++ x)) ≡ []
spaced_past front x ge h = elim (ltb (reach 32 (front ++ x)) (length (front ++ x))) as (λ v. only_name (cond v (first_word (front ++ x)) []) ≡ []) [
  | true ↦ long_name (first_word (front ++ x)) (omega (arith, h, first_past front x ge))
  | false ↦ refl
]

spaced_alike : (front x y : List ℕ) → 17 ≤ length front → only_name (spaced_word (front ++ x)) ≡ only_name (spaced_word (front ++ y))
spaced_alike front x y h = elim (cases_lt (reach 32 front) (length front)) [
  | inl lt ↦ ap only_name (spaced_in front x lt ∙ sym (spaced_in front y lt))
  | inr ge ↦ spaced_past front x ge h ∙ sym (spaced_past front y ge h)
]

not_word : (w s : List ℕ) → length s < length w → bytes_eq w s ≡ false
not_word w s h = elim (bytes_eq w s) as (λ v. bytes_eq w s ≡ v → v ≡ false) [
  | true ↦ λ e. absurd (omega (arith, h, ap length ((bytes_eq-Decides w s).0 e)))
  | false ↦ λ e. refl
] refl

long_word : (w : List ℕ) → 7 ≤ length w → word_reason w ≡ None
long_word w h = rw (
  not_word w (codes "limit") (omega (arith, h)),
  not_word w (codes "client") (omega (arith, h)),
  not_word w (codes "native") (omega (arith, h)),
  not_word w (codes "proc") (omega (arith, h)),
  not_word w (codes "post") (omega (arith, h)),
)
    refl

word_alike : (front x y : List ℕ) → 7 ≤ length front → word_reason (first_word (front ++ x)) ≡ word_reason (first_word (front ++ y))
word_alike front x y h = elim (cases_lt (reach 32 front) (length front)) [
  | inl lt ↦ ap word_reason (first_in front x lt ∙ sym (first_in front y lt))
  | inr ge
      ↦ long_word (first_word (front ++ x)) (omega (arith, h, first_past front x ge))
      ∙ sym (long_word (first_word (front ++ y)) (omega (arith, h, first_past front y ge)))
]

-- ---- What two lines declare that begin alike.

-- after a word, both have nothing, or begin alike still
abbrev AreBehind : List ℕ → List ℕ → List ℕ → List ℕ → Type 0
AreBehind w front x y = (behind w (front ++ x) ≡ []) × (behind w (front ++ y) ≡ [])
    ⊎ ((f : List ℕ) × (length front ≡ length w + length f) × (behind w (front ++ x) ≡ f ++ x) × (behind w (front ++ y) ≡ f ++ y))

are_behind : (w front x y : List ℕ) → length w ≤ length front → AreBehind w front x y
are_behind [] front x y h = inr (front, omega arith, refl, refl)
are_behind (b ∷ bs) [] x y h = absurd (omega (arith, h))
are_behind (b ∷ bs) (c ∷ cs) x y h = elim (eqb b c) as
    (λ v. (cond v (behind bs (cs ++ x)) [] ≡ []) × (cond v (behind bs (cs ++ y)) [] ≡ [])
    ⊎ ((f : List ℕ) × (length (c ∷ cs) ≡ length (b ∷ bs) + length f) × (cond v (behind bs (cs ++ x)) [] ≡ f ++ x) × (cond v (behind bs (cs ++ y)) [] ≡ f ++ y))) [
      | true ↦ elim (are_behind bs cs x y (omega (arith, h))) [
        | inl p ↦ inl p
        | inr p ↦ inr (p.0, omega (arith, p.1), p.2, p.3)
      ]
      | false ↦ inl (refl, refl)
    ]

proc_alike : (front x y : List ℕ) → 1024 ≤ length front → proc_on (front ++ x) ≡ proc_on (front ++ y)
proc_alike front x y h = elim (are_behind (codes "proc ") front x y (omega (arith, h))) [
  | inl p ↦ ap only_name (p.0 ∙ sym p.1)
  | inr p
      ↦ ap only_name p.2 ∙ long_name (p.0 ++ x) (omega (arith, h, p.1, length-append p.0 x))
      ∙ sym (ap only_name p.3 ∙ long_name (p.0 ++ y) (omega (arith, h, p.1, length-append p.0 y)))
]

native_alike : (front x y : List ℕ) → 1024 ≤ length front → native_on (front ++ x) ≡ native_on (front ++ y)
native_alike front x y h = elim (are_behind (codes "native ") front x y (omega (arith, h))) [
  | inl p ↦ ap (λ l. only_name (spaced_word l)) (p.0 ∙ sym p.1)
  | inr p ↦ ap (λ l. only_name (spaced_word l)) p.2 ∙ spaced_alike p.0 x y (omega (arith, h, p.1)) ∙ sym (ap (λ l. only_name (spaced_word l)) p.3)
]

-- ---- Lines that a reader can't tell apart.

record Alike (a b : List ℕ) : Type 0 where
  printable : is_printable a ≡ is_printable b
  said : phrase_at a ≡ phrase_at b
  word : word_reason (first_word a) ≡ word_reason (first_word b)
  procs : proc_on a ≡ proc_on b
  natives : native_on a ≡ native_on b

alike : (a : List ℕ) → Alike a a
alike a = record { printable = refl; said = refl; word = refl; procs = refl; natives = refl }

printable_append : (xs ys : List ℕ) → is_printable (xs ++ ys) ≡ (is_printable xs && is_printable ys)
printable_append xs ys = list_all-append (λ b. leb 32 b && leb b 126) xs ys

long_alike : (front x y : List ℕ) → 1024 ≤ length front → is_printable x ≡ is_printable y → Alike (front ++ x) (front ++ y)
long_alike front x y h e = record {
  printable = printable_append front x ∙ ap (λ v. is_printable front && v) e ∙ sym (printable_append front y);
  said = long_says_nothing (front ++ x) (omega (arith, h, length-append front x))
      ∙ sym (long_says_nothing (front ++ y) (omega (arith, h, length-append front y)));
  word = word_alike front x y (omega (arith, h));
  procs = proc_alike front x y h;
  natives = native_alike front x y h;
}

marked_is : (v : Bool) → is_printable (bad_mark v) ≡ v
marked_is true = refl
marked_is false = refl

kept_short : (line : List ℕ) → length line ≤ 1024 → kept_bytes line ≡ line
unfolding kept_bytes
kept_short line h = rw (take_all 1024 line h, drop_all 1024 line h) (append-nil line)

kept_long : (front x : List ℕ) → length front ≡ 1024 → kept_bytes (front ++ x) ≡ front ++ bad_mark (is_printable x)
unfolding kept_bytes
kept_long front x h = rw (take_at front x 1024 h, drop_at front x 1024 h) refl

-- a long line is its first part and the rest
kept_alike : (line : List ℕ) → Alike (kept_bytes line) line
kept_alike line = elim (cases_lt 1024 (length line)) [
  | inr le ↦ subst (λ l. Alike l line) (sym (kept_short line le)) (alike line)
  | inl lt ↦
      let front = take 1024 line in
      let rest = drop 1024 line in
      let long : length front ≡ 1024 = length-take-le 1024 line (omega (arith, lt)) in
      let whole : front ++ rest ≡ line = take-append-drop 1024 line in
      let same : kept_bytes line ≡ front ++ bad_mark (is_printable rest) = ap kept_bytes (sym whole) ∙ kept_long front rest long in
      subst (λ l. Alike l line) (sym same) (subst (λ l. Alike (front ++ bad_mark (is_printable rest)) l) whole
      (long_alike front (bad_mark (is_printable rest)) rest (omega (arith, long)) (marked_is (is_printable rest))))
]

-- what is kept of a line that goes on
pub kept_on : (line more : List ℕ) → kept_bytes (kept_bytes line ++ more) ≡ kept_bytes (line ++ more)
kept_on line more = elim (cases_lt 1024 (length line)) [
  | inr le ↦ ap (λ l. kept_bytes (l ++ more)) (kept_short line le)
  | inl lt ↦
      let front = take 1024 line in
      let rest = drop 1024 line in
      let mark = bad_mark (is_printable rest) in
      let long : length front ≡ 1024 = length-take-le 1024 line (omega (arith, lt)) in
      let whole : front ++ rest ≡ line = take-append-drop 1024 line in
      let same : kept_bytes line ≡ front ++ mark = ap kept_bytes (sym whole) ∙ kept_long front rest long in
      let clear : is_printable (mark ++ more)
      ≡ is_printable (rest ++ more) = printable_append mark more ∙ ap (λ v. v && is_printable more) (marked_is (is_printable rest))
      ∙ sym (printable_append rest more) in
      let left : kept_bytes (kept_bytes line ++ more)
      ≡ front
      ++ bad_mark (is_printable (mark ++ more)) = ap (λ l. kept_bytes (l ++ more)) same ∙ ap kept_bytes (append_assoc front mark more)
      ∙ kept_long front (mark ++ more) long in
      let right : kept_bytes (line ++ more)
      ≡ front
      ++ bad_mark (is_printable (rest ++ more)) = ap (λ l. kept_bytes (l ++ more)) (sym whole)
      ∙ ap kept_bytes (append_assoc front rest more) ∙ kept_long front (rest ++ more) long in
      left ∙ ap (λ v. front ++ bad_mark v) clear ∙ sym right
]

kept_cut : (t far : List ℕ) → 1024 ≤ length t ⊎ (far ≡ [])
    → kept_bytes (t ++ far) ≡ take (min (length t) 1024) t ++ bad_mark (is_printable (drop (min (length t) 1024) t) && is_printable far)
unfolding kept_bytes
kept_cut t far (inl ge) =
    let end : min (length t) 1024 ≡ 1024 = omega (arith, ge) in
    rw (end, take-append-le 1024 t far ge, drop-append-le 1024 t far ge, printable_append (drop 1024 t) far) refl
kept_cut t far (inr none) = elim (cases_lt (length t) 1024) [
  | inl lt ↦
      let end : min (length t) 1024 ≡ length t = omega (arith, lt) in
      rw (
        none,
        append-nil t,
        end,
        take_all 1024 t (omega (arith, lt)),
        drop_all 1024 t (omega (arith, lt)),
        take_all (length t) t (omega arith),
        drop_all (length t) t (omega arith),
      )
      refl
  | inr ge ↦
      let end : min (length t) 1024 ≡ 1024 = omega (arith, ge) in
      rw (end, take-append-le 1024 t far ge, drop-append-le 1024 t far ge, printable_append (drop 1024 t) far) refl
]

-- one more part of a line, of which as much is put to the rest as there is room for
pub kept_parts : (tail part t new : List ℕ) (room end : ℕ) (clear : Bool) → room ≡ min (1024 - length tail) (length part)
    → t ≡ tail ++ take room part → end ≡ min (length t) 1024
    → clear ≡ (is_printable (drop end t) && is_printable (drop room part)) → new ≡ take end t ++ bad_mark clear → new ≡ kept_bytes (tail ++ part)
kept_parts tail part t new room end clear r e n c k =
    let whole : t ++ drop room part
    ≡ tail
    ++ part = ap (λ l. l ++ drop room part) e ∙ append_assoc tail (take room part) (drop room part) ∙ ap (λ l. tail ++ l) (take-append-drop room part) in
    let cut : 1024 ≤ length t ⊎ (drop room part ≡ []) = elim (cases_lt (1024 - length tail) (length part)) [
      | inl lt ↦ inl (omega (arith, lt, r, ap length e, length-append tail (take room part), length-take-le room part (omega (arith, lt, r))))
      | inr ge ↦ inr (drop_all room part (omega (arith, ge, r)))
    ] in
    k ∙ ap (λ v. take end t ++ bad_mark v) c ∙ ap (λ m. take m t ++ bad_mark (is_printable (drop m t) && is_printable (drop room part))) n
    ∙ sym (kept_cut t (drop room part) cut) ∙ ap kept_bytes whole

-- ---- A reader that takes one for the other.

reason_alike : (a b : List ℕ) → Alike a b → (s : Stage) → reason_of s a ≡ reason_of s b
reason_alike a b k s = λ i. reason_behind s (k.word i) (option_map (λ (p : Phrase). role_of p.op) (k.said i))

told_alike : (a b : List ℕ) → Alike a b → (s : Stage) (known : Declared) (posted : List ℕ) (o : Option Phrase)
    → judge_phrase_at s known posted a o ≡ judge_phrase_at s known posted b o
told_alike a b k s known posted None = ap (λ (why : Reason). Err why) (reason_alike a b k s)
told_alike a b k s known posted (Some p) = ap (λ (why : Reason). cond (may_stand_at s known posted p) (Ok p) (Err why)) (reason_alike a b k s)

judge_alike : (a b : List ℕ) → Alike a b → (s : Stage) (known : Declared) (posted : List ℕ) → judge_alone s known posted a ≡ judge_alone s known posted b
judge_alike a b k s known posted =
    ap (λ v. cond v (judge_phrase_at s known posted a (phrase_at a)) (Err reason.Bytes)) k.printable
    ∙ ap (λ o. cond (is_printable b) (judge_phrase_at s known posted a o) (Err reason.Bytes)) k.said
    ∙ ap (λ t. cond (is_printable b) t (Err reason.Bytes)) (told_alike a b k s known posted (phrase_at b))

judged_alike : (a b : List ℕ) → Alike a b → (bad : Option Reason) (r : Reader) → after_judge bad r a ≡ after_judge bad r b
judged_alike a b k (Some why) r = refl
judged_alike a b k None r = ap (after_verdict r) (judge_alike a b k r.stage r.declared r.draft.posted)

noted_alike : (a b : List ℕ) → Alike a b → (d : Declared) → after_note d a ≡ after_note d b
noted_alike a b k d = λ i. record { procs = enter d.procs (k.procs i); natives = enter d.natives (k.natives i) }

knows_alike : (a b : List ℕ) → Alike a b → (r : Reader) → knows r a ≡ knows r b
knows_alike a b k r = ap (λ (d : Declared). record r { declared = d }) (noted_alike a b k r.declared)

-- a line is as good as what is kept of it
pub kept_step : (r : Reader) (line : List ℕ) → step r (kept_bytes line) ≡ step r line
kept_step r line =
    let k = kept_alike line in
    ap (λ q. knows q (kept_bytes line)) (judged_alike (kept_bytes line) line k r.bad r) ∙ knows_alike (kept_bytes line) line k (after_judge r.bad r line)

-- nothing is kept of an empty line alone
answer_kept : (r : Reader) (tail : List ℕ) → answer r (kept_bytes tail) ≡ answer r tail
unfolding kept_bytes
answer_kept r [] = refl
answer_kept r (b ∷ bs) = by_cases (first_missing r.declared r.draft.script.names.procs r.mentions) r.bad
  where
    by_cases : (o : Option ℕ) (bad : Option Reason)
        → answer_by o bad r (take 1024 (b ∷ bs) ++ bad_mark (is_printable (drop 1024 (b ∷ bs)))) ≡ answer_by o bad r (b ∷ bs)
    by_cases (Some n) bad = refl
    by_cases None (Some why) = refl
    by_cases None None = refl

pub kept_answer : (r : Reader) (tail : List ℕ) → answer_at r (kept_bytes tail) ≡ answer_at r tail
kept_answer r tail = ap (λ q. answer q (kept_bytes tail)) (knows_alike (kept_bytes tail) tail (kept_alike tail) r) ∙ answer_kept (knows r tail) tail

-- ---- A piece after what is kept.

take_tail : (n : ℕ) (t : List ℕ) → IsTail t → IsTail (take n t)
take_tail zero t h = refl
take_tail (suc n) [] h = refl
take_tail (suc n) (b ∷ tl) h = let i = tail_inv b tl h in rw (i.0, take_tail n tl i.1) refl

pub kept_tail : (t : List ℕ) → IsTail t → IsTail (kept_bytes t)
unfolding kept_bytes
kept_tail t h = cut_push_rest (take 1024 t) (bad_mark (is_printable (drop 1024 t))) (take_tail 1024 t h) (mark_tail (is_printable (drop 1024 t)))
  where
    mark_tail : (v : Bool) → IsTail (bad_mark v)
    mark_tail true = refl
    mark_tail false = refl

-- the lines of a piece after a tail, and what is kept after them
abbrev lines_on : Reader → List ℕ → List ℕ → Reader
lines_on r t piece = fold step r (line_cut (t ++ piece)).0

-- a piece with no end of a line
cut_push : (tail rest t : List ℕ) → IsTail tail → line_cut rest ≡ ([], t) → line_cut (tail ++ rest) ≡ ([], tail ++ t)
cut_push [] rest t h e = e
cut_push (b ∷ tl) rest t h e = let i = tail_inv b tl h in rw (i.0, cut_push tl rest t i.1 e) refl

pub kept_piece : (r : Reader) (t piece : List ℕ) → IsTail t
    → (lines_on r (kept_bytes t) piece ≡ lines_on r t piece) × (kept_bytes (line_cut (kept_bytes t ++ piece)).1 ≡ kept_bytes (line_cut (t ++ piece)).1)
kept_piece r t piece h = by_lines (line_cut piece).0 (line_cut piece).1 refl
  where
    step_on : (line : List ℕ) → step r (kept_bytes t ++ line) ≡ step r (t ++ line)
    step_on line = sym (kept_step r (kept_bytes t ++ line)) ∙ ap (step r) (kept_on t line) ∙ kept_step r (t ++ line)

    by_lines : (ls : List (List ℕ)) (tl : List ℕ) → line_cut piece ≡ (ls, tl)
        → (lines_on r (kept_bytes t) piece ≡ lines_on r t piece) × (kept_bytes (line_cut (kept_bytes t ++ piece)).1 ≡ kept_bytes (line_cut (t ++ piece)).1)
    by_lines [] tl e = rw (cut_push (kept_bytes t) piece tl (kept_tail t h) e, cut_push t piece tl h e) (refl, kept_on t tl)
    by_lines (l ∷ ls) tl e = rw (cut_push_line (kept_bytes t) piece l ls tl (kept_tail t h) e, cut_push_line t piece l ls tl h e)
        (ap (λ (q : Reader). fold step q ls) (step_on l), refl)
