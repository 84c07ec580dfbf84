-- The lines of a text from its end, and the monitors that are left ahead of them.
use Rattle.std.proofs.Common.{◌≡◌, ◌+◌, ◌-◌, arith, Bool, length, take, take_all, drop, ℕ, suc, true, false}
use Rattle.std.proofs.Common.{cond, eqb, List, [], ◌∷◌, ◌++◌, refl, sym, ap, ◌∙◌, append_assoc}
use Rattle.std.proofs.lemmas.List.{append-nil, get_or-drop, length-drop}
use Rattle.memchr.specs.Find.{NoneAfter, Passes, is_byte}
use Rattle.script_lines.specs.Reading.{phrase_at}
use Rattle.script_text.proofs.CutLaws.{line_none}
use Rattle.script_text.specs.Spelling.{line_cut, onto_first}
use Rattle.script_advice.specs.declared.ahead.Ahead.{Ahead}
use Rattle.script_advice.specs.declared.habits.Habits.{Habits}
use Rattle.script_advice.specs.declared.sets.Sets.{Sets}
use Rattle.script_advice.specs.declared.texts.Format.{Format}
use Rattle.script_advice.specs.declared.way.Way.{Way}
use Rattle.script_advice.specs.Doubts.{ahead_of, ahead_after_line, are_some, doubts_from, with_doubts, keeping, keeps, no_ahead, way_after_line}
use Rattle.script_advice.specs.Habits.{habits_after_line, habits_of}
use Rattle.script_advice.specs.Remarks.{Remark}
use Rattle.script_advice.specs.Texts.{remarks_text}
use Rattle.std.specs.Prelude.{◌||◌}

abbrev Cut : Type 0
Cut = List (List ℕ) × List ℕ

-- ---- The lines before an end.

-- after an end all lines have ended, and there is one
pub ended : (xs : List ℕ) → (l : List ℕ) × ((ls : List (List ℕ)) × (line_cut (xs ++ 10 ∷ []) ≡ (l ∷ ls, [])))
ended [] = ([], ([], refl))
ended (b ∷ bs) =
    let before = ended bs in
    elim (eqb b 10) as
    (λ v. (l : List ℕ)
    × ((ls : List (List ℕ))
    × (cond v ([] ∷ (line_cut (bs ++ 10 ∷ [])).0, (line_cut (bs ++ 10 ∷ [])).1) (onto_first b (line_cut (bs ++ 10 ∷ []))) ≡ (l ∷ ls, [])))) [
      | true ↦ ([], (before.0 ∷ before.1.0, ap (λ (c : Cut). ([] ∷ c.0, c.1)) before.1.1))
      | false ↦ (b ∷ before.0, (before.1.0, ap (onto_first b) before.1.1))
    ]

onto_lines : (b : ℕ) (ks : List (List ℕ)) (t l : List ℕ) (ls : List (List ℕ)) → ks ≡ l ∷ ls → (onto_first b (ks, t)).0 ≡ (b ∷ l) ∷ ls
onto_lines b ks t l ls e = rw e refl

-- the lines up to an end, and those after it
pub lines_join : (xs ys : List ℕ) → (line_cut (xs ++ 10 ∷ ys)).0 ≡ (line_cut (xs ++ 10 ∷ [])).0 ++ (line_cut ys).0
lines_join [] ys = refl
lines_join (b ∷ bs) ys =
    let before = ended bs in
    let joined : (line_cut (bs ++ 10 ∷ ys)).0
    ≡ before.0 ∷ (before.1.0 ++ (line_cut ys).0) = lines_join bs ys ∙ ap (λ (c : Cut). c.0 ++ (line_cut ys).0) before.1.1 in
    elim (eqb b 10) as
    (λ v. (cond v ([] ∷ (line_cut (bs ++ 10 ∷ ys)).0, (line_cut (bs ++ 10 ∷ ys)).1) (onto_first b (line_cut (bs ++ 10 ∷ ys)))).0
    ≡ (cond v ([] ∷ (line_cut (bs ++ 10 ∷ [])).0, (line_cut (bs ++ 10 ∷ [])).1) (onto_first b (line_cut (bs ++ 10 ∷ [])))).0 ++ (line_cut ys).0) [
      | true ↦ ap (λ (l : List (List ℕ)). [] ∷ l) (lines_join bs ys)
      | false
          ↦ onto_lines b (line_cut (bs ++ 10 ∷ ys)).0 (line_cut (bs ++ 10 ∷ ys)).1 before.0 (before.1.0 ++ (line_cut ys).0) joined
          ∙ sym (ap (λ (c : Cut). (onto_first b c).0 ++ (line_cut ys).0) before.1.1)
    ]

onto_none : (b : ℕ) (ls : List (List ℕ)) (t tl : List ℕ) → onto_first b (ls, t) ≡ ([], b ∷ tl) → (ls ≡ []) × (t ≡ tl)
onto_none b [] t tl e = (refl, let f : b ∷ t ≡ b ∷ tl = ap (λ (c : Cut). c.1) e in cc)
onto_none b (l ∷ ls) t tl e = absurd (let f : (b ∷ l) ∷ ls ≡ [] = ap (λ (c : Cut). c.0) e in cc)

-- a piece without an end is one line where an end is put after it
pub one_line : (xs : List ℕ) → line_cut xs ≡ ([], xs) → (line_cut (xs ++ 10 ∷ [])).0 ≡ xs ∷ []
one_line [] e = refl
one_line (b ∷ bs) e = elim (eqb b 10) as
    (λ v. cond v ([] ∷ (line_cut bs).0, (line_cut bs).1) (onto_first b (line_cut bs)) ≡ ([], b ∷ bs)
    → (cond v ([] ∷ (line_cut (bs ++ 10 ∷ [])).0, (line_cut (bs ++ 10 ∷ [])).1) (onto_first b (line_cut (bs ++ 10 ∷ [])))).0 ≡ (b ∷ bs) ∷ []) [
      | true ↦ λ f. absurd (let g : [] ∷ (line_cut bs).0 ≡ [] = ap (λ (c : Cut). c.0) f in cc)
      | false
          ↦ λ f. onto_lines b (line_cut (bs ++ 10 ∷ [])).0 (line_cut (bs ++ 10 ∷ [])).1 bs [] (one_line bs
          (let i = onto_none b (line_cut bs).0 (line_cut bs).1 bs f in
          ap (λ (ls : List (List ℕ)). (ls, (line_cut bs).1)) i.0 ∙ ap (λ (t : List ℕ). ([], t)) i.1))
    ] e

-- ---- The last line.

-- no end comes after the last one
pub last_tail : (text after : List ℕ) (e : ℕ) → NoneAfter (Passes (is_byte 10) text) 0 (length text) e
    → after ≡ take (length text - (e + 1)) (drop (e + 1) text) → line_cut after ≡ ([], after)
last_tail text after e h q =
    let all : after ≡ drop (e + 1) text = q ∙ take_all (length text - (e + 1)) (drop (e + 1) text) (omega (arith, length-drop (e + 1) text)) in
    rw all (line_none (drop (e + 1) text) (λ k low high is.
    h.after (e + 1 + k) (omega arith) (omega (arith, high, h.high, length-drop (e + 1) text)) (sym (ap (is_byte 10) (get_or-drop (e + 1) text k 0)) ∙ is)))

-- the lines up to the last end
text_lines : (text lines after : List ℕ) → text ≡ lines ++ 10 ∷ after → line_cut after ≡ ([], after) → (line_cut text).0 ≡ (line_cut (lines ++ 10 ∷ [])).0
text_lines text lines after e f = ap (λ (t : List ℕ). (line_cut t).0) e ∙ lines_join lines after
    ∙ ap (λ (c : Cut). (line_cut (lines ++ 10 ∷ [])).0 ++ c.0) f ∙ append-nil (line_cut (lines ++ 10 ∷ [])).0

pub last_alone : (text lines after : List ℕ) → text ≡ lines ++ 10 ∷ after → line_cut after ≡ ([], after) → line_cut lines ≡ ([], lines)
    → (line_cut text).0 ≡ lines ∷ []
last_alone text lines after e f g = text_lines text lines after e f ∙ one_line lines g

take_end : (xs ys : List ℕ) → take (length xs + 1) (xs ++ 10 ∷ ys) ≡ xs ++ 10 ∷ []
take_end [] ys = refl
take_end (x ∷ xs) ys =
    let e : suc (length xs) + 1 ≡ suc (length xs + 1) = omega arith in
    rw e (ap (λ (l : List ℕ). x ∷ l) (take_end xs ys))

pub last_behind : (text lines after front line : List ℕ) → text ≡ lines ++ 10 ∷ after → line_cut after ≡ ([], after)
    → lines ≡ front ++ 10 ∷ line → line_cut line ≡ ([], line) → (line_cut text).0 ≡ (line_cut (take (length front + 1) lines)).0 ++ line ∷ []
last_behind text lines after front line e f g h =
    let all : lines ++ 10 ∷ [] ≡ front ++ 10 ∷ (line ++ 10 ∷ []) = ap (λ (l : List ℕ). l ++ 10 ∷ []) g ∙ append_assoc front (10 ∷ line) (10 ∷ []) in
    let part : take (length front + 1) lines ≡ front ++ 10 ∷ [] = ap (take (length front + 1)) g ∙ take_end front line in
    text_lines text lines after e f ∙ ap (λ (l : List ℕ). (line_cut l).0) all ∙ lines_join front (line ++ 10 ∷ [])
    ∙ ap (λ (l : List (List ℕ)). (line_cut (front ++ 10 ∷ [])).0 ++ l) (one_line line h) ∙ sym (ap (λ (l : List ℕ). (line_cut l).0 ++ line ∷ []) part)

-- ---- One line more at the end.

pub ahead_last : (a : Ahead) (ls : List (List ℕ)) (line : List ℕ) → ahead_of a (ls ++ line ∷ []) ≡ ahead_of (ahead_after_line (phrase_at line) a) ls
ahead_last a [] line = refl
ahead_last a (l ∷ ls) line = ap (ahead_after_line (phrase_at l)) (ahead_last a ls line)

pub keeping_last : (a : Ahead) (ls : List (List ℕ)) (line : List ℕ)
    → keeping a (ls ++ line ∷ []) ≡ keeps a (phrase_at line) ∷ keeping (ahead_after_line (phrase_at line) a) ls
keeping_last a [] line = refl
keeping_last a (l ∷ ls) line = rw (keeping_last a ls line, ahead_last a ls line) refl

-- the last line is noted, and stands ahead of those before it
pub kept_step : (kept new : List Bool) (a ahead : Ahead) (lines front : List (List ℕ)) (line : List ℕ) (all : List Bool)
    → kept ++ keeping a lines ≡ all → lines ≡ front ++ line ∷ [] → ahead ≡ ahead_after_line (phrase_at line) a
    → new ≡ kept ++ keeps a (phrase_at line) ∷ [] → new ++ keeping ahead front ≡ all
kept_step kept new a ahead lines front line all i e f g =
    let next = ahead_after_line (phrase_at line) a in
    rw (f, g) (append_assoc kept (keeps a (phrase_at line) ∷ []) (keeping next front)
    ∙ sym (ap (λ (l : List Bool). kept ++ l) (ap (keeping a) e ∙ keeping_last a front line)) ∙ i)

pub habits_last : (h : Habits) (ls : List (List ℕ)) (line : List ℕ) → habits_of h (ls ++ line ∷ []) ≡ habits_of (habits_after_line (phrase_at line) h) ls
habits_last h [] line = refl
habits_last h (l ∷ ls) line = ap (habits_after_line (phrase_at l)) (habits_last h ls line)

-- what the last line does is noted before what those before it do
pub habits_step : (h next : Habits) (lines front : List (List ℕ)) (line : List ℕ) (all : Habits) → habits_of h lines ≡ all
    → lines ≡ front ++ line ∷ [] → next ≡ habits_after_line (phrase_at line) h → habits_of next front ≡ all
habits_step h next lines front line all i e f =
    ap (λ (x : Habits). habits_of x front) f ∙ sym (ap (habits_of h) e ∙ habits_last h front line) ∙ i

-- ---- The walk over the lines.

pub lines_are : (c : Cut) (line : List ℕ) (lines : List (List ℕ)) (tail : List ℕ) → c ≡ (line ∷ lines, tail) → c.0 ≡ line ∷ lines
lines_are c line lines tail e = ap (λ (x : Cut). x.0) e

pub walk_told : (f : Format) (s : Sets) (way next : Way) (n number left fewer : ℕ) (kept : Bool) (line : List ℕ)
    (lines ended : List (List ℕ)) (out new all : List ℕ)
    →
    ended ≡ line ∷ lines → kept ≡ keeps (ahead_of no_ahead lines) (phrase_at line) → next ≡ way_after_line way (phrase_at line) → number ≡ suc n →
    ((others : List Remark)
    → out ++ remarks_text f (take left (with_doubts s way kept n line (phrase_at line) others)) ≡ new ++ remarks_text f (take fewer others))
    →
    out ++ remarks_text f (take left (doubts_from s way n ended)) ≡ all →
    new ++ remarks_text f (take fewer (doubts_from s next number lines)) ≡ all
walk_told f s way next n number left fewer kept line lines ended out new all e k w m step i =
    let others : List Remark = doubts_from s (way_after_line way (phrase_at line)) (suc n) lines in
    rw (w, m) (sym (step others)
    ∙ ap (λ (b : Bool). out ++ remarks_text f (take left (with_doubts s way b n line (phrase_at line) others))) k
    ∙ sym (ap (λ (l : List (List ℕ)). out ++ remarks_text f (take left (doubts_from s way n l))) e)
    ∙ i)

pub walk_any : (s : Sets) (way next : Way) (n number : ℕ) (any more kept : Bool) (line : List ℕ) (lines ended : List (List ℕ)) (all : Bool) →
    ended ≡ line ∷ lines → kept ≡ keeps (ahead_of no_ahead lines) (phrase_at line) → next ≡ way_after_line way (phrase_at line) → number ≡ suc n →
    ((others : List Remark) → (any || are_some (with_doubts s way kept n line (phrase_at line) others)) ≡ (more || are_some others)) →
    (any || are_some (doubts_from s way n ended)) ≡ all →
    (more || are_some (doubts_from s next number lines)) ≡ all
walk_any s way next n number any more kept line lines ended all e k w m step i =
    let others : List Remark = doubts_from s (way_after_line way (phrase_at line)) (suc n) lines in
    rw (w, m) (sym (step others)
    ∙ ap (λ (b : Bool). any || are_some (with_doubts s way b n line (phrase_at line) others)) k
    ∙ sym (ap (λ (l : List (List ℕ)). any || are_some (doubts_from s way n l)) e)
    ∙ i)
