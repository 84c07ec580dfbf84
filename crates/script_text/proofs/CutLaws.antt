-- How a text begins: with a line that has ended, or with none.
use Rattle.std.proofs.Common.{◌≡◌, ◌<◌, ◌-◌, ◌+◌, arith, ℕ, zero, suc, true, false, cond, eqb, fold, List}
use Rattle.std.proofs.Common.{[], ◌∷◌, ◌++◌, length, take, take_all, drop, refl, sym, ap, ◌∙◌}
use Rattle.std.proofs.lemmas.List.{length-drop}
use Rattle.memchr.specs.Find.{Nowhere, NoneBefore, Passes, is_byte}
use Rattle.script_lines.specs.Words.{reach}
use Rattle.script_text.specs.Pieces.{IsTail}
use Rattle.script_text.specs.Spelling.{onto_first, line_cut}
use Rattle.script_text.specs.Track.{start, step}
use Rattle.script_text.specs.declared.reader.Reader.{Reader}

pub cut_none : (text : List ℕ) → drop (reach 10 text) text ≡ [] → line_cut text ≡ ([], text)
cut_none [] h = refl
cut_none (b ∷ bs) h = elim (eqb b 10) as
    (λ v. drop (cond v 0 (suc (reach 10 bs))) (b ∷ bs) ≡ [] → cond v ([] ∷ (line_cut bs).0, (line_cut bs).1) (onto_first b (line_cut bs)) ≡ ([], b ∷ bs)) [
      | true ↦ λ f. absurd cc
      | false ↦ λ f. rw (cut_none bs f) refl
    ] h

pub cut_some : (text : List ℕ) (b : ℕ) (after : List ℕ) → drop (reach 10 text) text ≡ b ∷ after
    → line_cut text ≡ (take (reach 10 text) text ∷ (line_cut after).0, (line_cut after).1)
cut_some [] b after h = absurd cc
cut_some (x ∷ bs) b after h = elim (eqb x 10) as
    (λ v. drop (cond v 0 (suc (reach 10 bs))) (x ∷ bs) ≡ b ∷ after
    → cond v ([] ∷ (line_cut bs).0, (line_cut bs).1) (onto_first x (line_cut bs))
    ≡ (take (cond v 0 (suc (reach 10 bs))) (x ∷ bs) ∷ (line_cut after).0, (line_cut after).1)) [
      | true ↦ λ f. let e : bs ≡ after = cc in ap (λ (l : List ℕ). ([] ∷ (line_cut l).0, (line_cut l).1)) e
      | false ↦ λ f. rw (cut_some bs b after f) refl
    ] h

-- ---- Where the first end is.

pub reach_none : (c : ℕ) (text : List ℕ) → Nowhere (Passes (is_byte c) text) 0 (length text) → drop (reach c text) text ≡ []
reach_none c [] h = refl
reach_none c (b ∷ bs) h = elim (eqb b c) as (λ v. eqb b c ≡ v → drop (cond v 0 (suc (reach c bs))) (b ∷ bs) ≡ []) [
  | true ↦ λ e. absurd (h 0 (omega arith) (omega arith) e)
  | false ↦ λ e. reach_none c bs (λ k low high is. h (suc k) (omega arith) (omega (arith, high)) is)
] refl

pub reach_is : (c : ℕ) (text : List ℕ) (k : ℕ) → k < length text → Nowhere (Passes (is_byte c) text) 0 k → Passes (is_byte c) text k → reach c text ≡ k
reach_is c [] k h n p = absurd (omega (arith, h))
reach_is c (b ∷ bs) zero h n p = rw p refl
reach_is c (b ∷ bs) (suc k) h n p = elim (eqb b c) as (λ v. eqb b c ≡ v → cond v 0 (suc (reach c bs)) ≡ suc k) [
  | true ↦ λ e. absurd (n 0 (omega arith) (omega arith) e)
  | false ↦ λ e. ap suc (reach_is c bs k (omega (arith, h)) (λ j low high is. n (suc j) (omega arith) (omega (arith, high)) is) p)
] refl

rest_at : (text : List ℕ) (k : ℕ) → k < length text → (b : ℕ) × (drop k text ≡ b ∷ drop (suc k) text)
rest_at [] k h = absurd (omega (arith, h))
rest_at (b ∷ bs) zero h = (b, refl)
rest_at (b ∷ bs) (suc k) h = rest_at bs k (omega (arith, h))

pub line_none : (text : List ℕ) → Nowhere (Passes (is_byte 10) text) 0 (length text) → line_cut text ≡ ([], text)
line_none text h = cut_none text (reach_none 10 text h)

pub line_some : (text after : List ℕ) (k : ℕ) → NoneBefore (Passes (is_byte 10) text) 0 (length text) k → Passes (is_byte 10) text k
    → after ≡ take (length text - (k + 1)) (drop (k + 1) text) → line_cut text ≡ (take k text ∷ (line_cut after).0, (line_cut after).1)
line_some text after k h p e =
    let r = reach_is 10 text k h.high h.before p in
    let at = rest_at text k h.high in
    let next : k + 1 ≡ suc k = omega arith in
    let all : after ≡ drop (suc k) text = e ∙ rw next (take_all (length text - suc k) (drop (suc k) text) (omega (arith, length-drop (suc k) text))) in
    let there : drop (reach 10 text) text ≡ at.0 ∷ drop (suc k) text = rw r at.1 in
    rw all (cut_some text at.0 (drop (suc k) text) there ∙ ap (λ (n : ℕ). (take n text ∷ (line_cut (drop (suc k) text)).0, (line_cut (drop (suc k) text)).1)) r)

-- ---- Pieces.

abbrev Cut : Type 0
Cut = List (List ℕ) × List ℕ

pair_is : (c : Cut) (ls : List (List ℕ)) (t : List ℕ) → c.0 ≡ ls → c.1 ≡ t → c ≡ (ls, t)
pair_is c ls t e f = ap (λ (x : List (List ℕ)). (x, c.1)) e ∙ ap (λ (y : List ℕ). (ls, y)) f

onto_inv : (b : ℕ) (ls : List (List ℕ)) (t tl : List ℕ) → onto_first b (ls, t) ≡ ([], b ∷ tl) → (ls ≡ []) × (t ≡ tl)
onto_inv b [] t tl e = (refl, let f : b ∷ t ≡ b ∷ tl = ap (λ (c : Cut). c.1) e in cc)
onto_inv b (l ∷ ls) t tl e = absurd (let f : (b ∷ l) ∷ ls ≡ [] = ap (λ (c : Cut). c.0) e in cc)

pub tail_inv : (b : ℕ) (tl : List ℕ) → IsTail (b ∷ tl) → (eqb b 10 ≡ false) × IsTail tl
tail_inv b tl h = elim (eqb b 10) as
    (λ v. eqb b 10 ≡ v → cond v ([] ∷ (line_cut tl).0, (line_cut tl).1) (onto_first b (line_cut tl)) ≡ ([], b ∷ tl) → (eqb b 10 ≡ false) × IsTail tl) [
      | true ↦ λ e f. absurd (let g : [] ∷ (line_cut tl).0 ≡ [] = ap (λ (c : Cut). c.0) f in cc)
      | false ↦ λ e f. let i = onto_inv b (line_cut tl).0 (line_cut tl).1 tl f in (e, pair_is (line_cut tl) [] tl i.0 i.1)
    ] refl h

pub cut_push_line : (tail rest line : List ℕ) (ls : List (List ℕ)) (t : List ℕ) → IsTail tail → line_cut rest ≡ (line ∷ ls, t)
    → line_cut (tail ++ rest) ≡ ((tail ++ line) ∷ ls, t)
cut_push_line [] rest line ls t h e = e
cut_push_line (b ∷ tl) rest line ls t h e = let i = tail_inv b tl h in rw (i.0, cut_push_line tl rest line ls t i.1 e) refl

pub cut_push_rest : (tail rest : List ℕ) → IsTail tail → IsTail rest → IsTail (tail ++ rest)
cut_push_rest [] rest h e = e
cut_push_rest (b ∷ tl) rest h e = let i = tail_inv b tl h in rw (i.0, cut_push_rest tl rest i.1 e) refl

append_step : (b : ℕ) (ls : List (List ℕ)) (t ys : List ℕ) → eqb b 10 ≡ false
    → onto_first b (ls ++ (line_cut (t ++ ys)).0, (line_cut (t ++ ys)).1)
    ≡ ((onto_first b (ls, t)).0 ++ (line_cut ((onto_first b (ls, t)).1 ++ ys)).0, (line_cut ((onto_first b (ls, t)).1 ++ ys)).1)
append_step b [] t ys other = rw other refl
append_step b (l ∷ ls) t ys other = refl

-- a text that goes on: its lines, and those of its tail with what follows
pub cut_append : (xs ys : List ℕ) → line_cut (xs ++ ys) ≡ ((line_cut xs).0 ++ (line_cut ((line_cut xs).1 ++ ys)).0, (line_cut ((line_cut xs).1 ++ ys)).1)
cut_append [] ys = refl
cut_append (b ∷ bs) ys =
    elim (eqb b 10) as
    (λ v. eqb b 10 ≡ v
    → cond v ([] ∷ (line_cut (bs ++ ys)).0, (line_cut (bs ++ ys)).1) (onto_first b (line_cut (bs ++ ys)))
    ≡ (
      (cond v ([] ∷ (line_cut bs).0, (line_cut bs).1) (onto_first b (line_cut bs))).0
          ++ (line_cut ((cond v ([] ∷ (line_cut bs).0, (line_cut bs).1) (onto_first b (line_cut bs))).1 ++ ys)).0,
      (line_cut ((cond v ([] ∷ (line_cut bs).0, (line_cut bs).1) (onto_first b (line_cut bs))).1 ++ ys)).1,
    )) [
      | true ↦ λ e. ap (λ (c : Cut). ([] ∷ c.0, c.1)) (cut_append bs ys)
      | false ↦ λ e. ap (onto_first b) (cut_append bs ys) ∙ append_step b (line_cut bs).0 (line_cut bs).1 ys e
    ] refl

tail_step : (b : ℕ) (ls : List (List ℕ)) (t : List ℕ) → eqb b 10 ≡ false → IsTail t → IsTail (onto_first b (ls, t)).1
tail_step b [] t other h = rw (other, h) refl
tail_step b (l ∷ ls) t other h = h

pub tail_of_cut : (text : List ℕ) → IsTail (line_cut text).1
tail_of_cut [] = refl
tail_of_cut (b ∷ bs) = elim (eqb b 10) as (λ v. eqb b 10 ≡ v → IsTail (cond v ([] ∷ (line_cut bs).0, (line_cut bs).1) (onto_first b (line_cut bs))).1) [
  | true ↦ λ e. tail_of_cut bs
  | false ↦ λ e. tail_step b (line_cut bs).0 (line_cut bs).1 e (tail_of_cut bs)
] refl

fold_append : {A B : Type 0} (f : B → A → B) (b : B) (xs ys : List A) → fold f b (xs ++ ys) ≡ fold f (fold f b xs) ys
fold_append f b [] ys = refl
fold_append f b (x ∷ xs) ys = fold_append f (f b x) xs ys

-- a text grows by a piece
pub piece_lines : (r : Reader) (text tail piece : List ℕ) → r ≡ fold step start (line_cut text).0 → tail ≡ (line_cut text).1
    → fold step r (line_cut (tail ++ piece)).0 ≡ fold step start (line_cut (text ++ piece)).0
piece_lines r text tail piece e f = rw (e, f, cut_append text piece) (sym (fold_append step start (line_cut text).0 (line_cut ((line_cut text).1 ++ piece)).0))

pub piece_tail : (text tail piece : List ℕ) → tail ≡ (line_cut text).1 → (line_cut (tail ++ piece)).1 ≡ (line_cut (text ++ piece)).1
piece_tail text tail piece f = rw (f, cut_append text piece) refl

-- a line of a piece
pub line_lines : (r : Reader) (tail rest line after : List ℕ) → IsTail tail
    → line_cut rest ≡ (line ∷ (line_cut after).0, (line_cut after).1)
    → fold step (step r (tail ++ line)) (line_cut after).0 ≡ fold step r (line_cut (tail ++ rest)).0
line_lines r tail rest line after h e = rw (cut_push_line tail rest line (line_cut after).0 (line_cut after).1 h e) refl

pub line_tail : (tail rest line after : List ℕ) → IsTail tail → line_cut rest ≡ (line ∷ (line_cut after).0, (line_cut after).1)
    → (line_cut after).1 ≡ (line_cut (tail ++ rest)).1
line_tail tail rest line after h e = rw (cut_push_line tail rest line (line_cut after).0 (line_cut after).1 h e) refl

-- the end of a piece
pub end_lines : (r : Reader) (tail rest : List ℕ) → IsTail tail → IsTail rest → fold step r (line_cut (tail ++ rest)).0 ≡ r
end_lines r tail rest h e = rw (cut_push_rest tail rest h e) refl

pub end_tail : (tail rest : List ℕ) → IsTail tail → IsTail rest → tail ++ rest ≡ (line_cut (tail ++ rest)).1
end_tail tail rest h e = rw (cut_push_rest tail rest h e) refl
