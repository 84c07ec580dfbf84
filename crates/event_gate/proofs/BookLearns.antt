-- What the taker's book says of the lines that are left.
use Rattle.std.proofs.Common.{◌≡◌, ◌≢◌, ℕ, zero, suc, ◌+◌, true, false, true≢false, cond, eqb, eq-eqb, ne_eqb, ◌||◌}
use Rattle.std.proofs.Common.{List, [], ◌∷◌, ◌++◌, length, take, drop, sym, refl, ap, ◌∙◌, subst, ⊎_elim, arith}
use Rattle.std.proofs.lemmas.List.{append-nil, take-append-drop}
use lib.ListN.{get_elem?}
use Rattle.atomic_table.proofs.Lists.{drop_at}
use Rattle.lwp_types.specs.declared.call.Line.{Line}
use Rattle.event_gate.specs.declared.book.Book.{Book}
use Rattle.event_gate.specs.declared.view.Told.{Told}
use Rattle.event_gate.specs.Book.{AreSent, IsRun, Learns}
use Rattle.event_gate.specs.Clients.{IsNumbered, is_told, of, lines_in_pass}
use Rattle.event_gate.specs.Port.{Accounts}
use Rattle.event_gate.proofs.Lines.{bool_cases, cond_other, cond_same, of-append, or_other, same_or}

-- the lines of all clients but d
abbrev others : ℕ → List Line → List Line
others d [] = []
others d (l ∷ ls) = cond (eqb l.client d) (others d ls) (l ∷ others d ls)

-- of each client whose seat came back, what is left after the lines taken
abbrev pub left_lines : List Told → List Line → List Line
left_lines [] taken = []
left_lines (t ∷ ts) taken = of t.client (drop (length (of t.client taken)) t.posted) ++ others t.client (left_lines ts taken)

some_of : (c : ℕ) (l : Line) (ls : List Line) → l.client ≡ c → of c (l ∷ ls) ≡ l ∷ of c ls
some_of c l ls e = cond_same l.client c (l ∷ of c ls) (of c ls) e

none_of : (c : ℕ) (l : Line) (ls : List Line) → l.client ≢ c → of c (l ∷ ls) ≡ of c ls
none_of c l ls n = cond_other l.client c (l ∷ of c ls) (of c ls) n

of_same_again : (c : ℕ) (ls : List Line) → of c (of c ls) ≡ of c ls
of_same_again c [] = refl
of_same_again c (l ∷ ls) = ⊎_elim
    (λ (e : l.client ≡ c). ap (of c) (some_of c l ls e) ∙ some_of c l (of c ls) e ∙ ap (λ xs. l ∷ xs) (of_same_again c ls) ∙ sym (some_of c l ls e))
    (λ (n : l.client ≢ c). ap (of c) (none_of c l ls n) ∙ of_same_again c ls ∙ sym (none_of c l ls n))
    (same_or l.client c)

of_other_none : (c d : ℕ) (ls : List Line) → d ≢ c → of c (of d ls) ≡ []
of_other_none c d [] apart = refl
of_other_none c d (l ∷ ls) apart = ⊎_elim
    (λ (e : l.client ≡ d). ap (of c) (some_of d l ls e) ∙ none_of c l (of d ls) (λ q. apart (sym e ∙ q)) ∙ of_other_none c d ls apart)
    (λ (n : l.client ≢ d). ap (of c) (none_of d l ls n) ∙ of_other_none c d ls apart)
    (same_or l.client d)

of_others : (c d : ℕ) (ls : List Line) → d ≢ c → of c (others d ls) ≡ of c ls
of_others c d [] apart = refl
of_others c d (l ∷ ls) apart = ⊎_elim
    (λ (e : l.client ≡ d). ap (of c) (cond_same l.client d (others d ls) (l ∷ others d ls) e) ∙ of_others c d ls apart
    ∙ sym (none_of c l ls (λ q. apart (sym e ∙ q))))
    (λ (n : l.client ≢ d). ap (of c) (cond_other l.client d (others d ls) (l ∷ others d ls) n)
    ∙ ap (λ xs. cond (eqb l.client c) (l ∷ xs) xs) (of_others c d ls apart))
    (same_or l.client d)

of_others_none : (d : ℕ) (ls : List Line) → of d (others d ls) ≡ []
of_others_none d [] = refl
of_others_none d (l ∷ ls) = ⊎_elim
    (λ (e : l.client ≡ d). ap (of d) (cond_same l.client d (others d ls) (l ∷ others d ls) e) ∙ of_others_none d ls)
    (λ (n : l.client ≢ d). ap (of d) (cond_other l.client d (others d ls) (l ∷ others d ls) n) ∙ none_of d l (others d ls) n ∙ of_others_none d ls)
    (same_or l.client d)

-- of a client that is told
of_left : (c : ℕ) (known : List Told) (taken : List Line) → is_told c known ≡ true
    → of c (left_lines known taken) ≡ of c (drop (length (of c taken)) (lines_in_pass c known))
of_left c [] taken told = absurd (true≢false (sym told))
of_left c (t ∷ ts) taken told =
    let n : ℕ = length (of t.client taken) in
    let split : of c (left_lines (t ∷ ts) taken)
    ≡ of c (of t.client (drop n t.posted))
    ++ of c (others t.client (left_lines ts taken)) = of-append c (of t.client (drop n t.posted)) (others t.client (left_lines ts taken)) in
    split ∙ ⊎_elim
    (λ (e : t.client ≡ c).
    let mine : of c (of t.client (drop n t.posted))
    ≡ of c (drop (length (of c taken)) t.posted) = ap (λ d. of c (of d (drop (length (of d taken)) t.posted))) e
    ∙ of_same_again c (drop (length (of c taken)) t.posted) in
    let rest : of c (others t.client (left_lines ts taken)) ≡ [] = ap (λ d. of c (others d (left_lines ts taken))) e ∙ of_others_none c (left_lines ts taken) in
    (λ k. mine k ++ rest k) ∙ append-nil (of c (drop (length (of c taken)) t.posted))
    ∙ ap (λ ls. of c (drop (length (of c taken)) ls)) (sym (cond_same t.client c t.posted (lines_in_pass c ts) e)))
    (λ (apart : t.client ≢ c).
    let none : of c (of t.client (drop n t.posted)) ≡ [] = of_other_none c t.client (drop n t.posted) apart in
    let rest : of c (others t.client (left_lines ts taken)) ≡ of c (left_lines ts taken) = of_others c t.client (left_lines ts taken) apart in
    (λ k. none k ++ rest k) ∙ of_left c ts taken (or_other t.client c (is_told c ts) apart told)
    ∙ ap (λ ls. of c (drop (length (of c taken)) ls)) (sym (cond_other t.client c t.posted (lines_in_pass c ts) apart)))
    (same_or t.client c)

-- and of one that isn't
of_left_none : (c : ℕ) (known : List Told) (taken : List Line) → is_told c known ≡ false → of c (left_lines known taken) ≡ []
of_left_none c [] taken not = refl
of_left_none c (t ∷ ts) taken not =
    let n : ℕ = length (of t.client taken) in
    ⊎_elim
    (λ (e : t.client ≡ c). absurd (true≢false (sym (told_first c t ts e) ∙ not)))
    (λ (apart : t.client ≢ c).
    let none : of c (of t.client (drop n t.posted)) ≡ [] = of_other_none c t.client (drop n t.posted) apart in
    let rest : of c (others t.client (left_lines ts taken)) ≡ of c (left_lines ts taken) = of_others c t.client (left_lines ts taken) apart in
    of-append c (of t.client (drop n t.posted)) (others t.client (left_lines ts taken)) ∙ (λ k. none k ++ rest k)
    ∙ of_left_none c ts taken (told_later c t ts apart not))
    (same_or t.client c)
  where
    told_first : (c : ℕ) (t : Told) (ts : List Told) → t.client ≡ c → is_told c (t ∷ ts) ≡ true
    told_first c t ts e = ap (λ b. b || is_told c ts) (eq-eqb t.client c e)

    told_later : (c : ℕ) (t : Told) (ts : List Told) → t.client ≢ c → is_told c (t ∷ ts) ≡ false → is_told c ts ≡ false
    told_later c t ts n h = ap (λ b. b || is_told c ts) (sym (ne_eqb t.client c n)) ∙ h

run_own : (c n : ℕ) (ls : List Line) → IsRun c n ls → of c ls ≡ ls
run_own c n [] h = refl
run_own c n (l ∷ ls) h = some_of c l ls h.0 ∙ ap (λ xs. l ∷ xs) (run_own c (suc n) ls h.3)

run_drop : (c n k : ℕ) (ls : List Line) → IsRun c n ls → IsRun c (n + k) (drop k ls)
run_drop c n zero ls h = subst (λ m. IsRun c m ls) (let e : n ≡ n + 0 = omega arith in e) h
run_drop c n (suc k) [] h = tt
run_drop c n (suc k) (l ∷ ls) h = subst (λ m. IsRun c m (drop k ls)) (let e : suc n + k ≡ n + suc k = omega arith in e) (run_drop c (suc n) k ls h.3)

run_numbered : (c n : ℕ) (ls : List Line) → IsRun c n ls → IsNumbered n ls
run_numbered c n [] h = tt
run_numbered c n (l ∷ ls) h = (h.1, h.2, run_numbered c (suc n) ls h.3)

-- lines that are numbered from n on, each of which is the one under its number, are the first from there on
first_lines : (whole ls : List Line) (n : ℕ) → IsNumbered n ls → AreSent (λ d. whole) ls → take (length ls) (drop n whole) ≡ ls
first_lines whole [] n h s = refl
first_lines whole (l ∷ ls) n h s =
    let here : drop n whole ≡ l ∷ drop (suc n) whole = drop_at whole n l (ap (get_elem? whole) (sym h.0) ∙ s.0) in
    ap (take (suc (length ls))) here ∙ ap (λ xs. l ∷ xs) (first_lines whole ls (suc n) h.2 s.1)

pub accounts_learnt : (b : Book) → Learns b → ((c : ℕ) → IsNumbered 0 (of c b.lines)) → Accounts b.noted b.known b.lines (left_lines b.known b.lines)
accounts_learnt b h numbered =
    let told : (c : ℕ) → is_told c b.known ≡ true → lines_in_pass c b.known ≡ of c b.lines ++ of c (left_lines b.known b.lines) = λ c yes'.
    let whole : List Line = lines_in_pass c b.known in
    let n : ℕ = length (of c b.lines) in
    let run = h.runs c yes' in
    let first : take n whole ≡ of c b.lines = first_lines whole (of c b.lines) 0 (numbered c) (h.sent c yes') in
    let rest : of c (left_lines b.known b.lines)
    ≡ drop n whole = of_left c b.known b.lines yes' ∙ run_own c (0 + n) (drop n whole) (run_drop c 0 n whole run) in
    sym (take-append-drop n whole) ∙ (λ k. first k ++ sym rest k) in
    record {
      told = told;
      stray = λ c not.
          let none = h.stray c not in
          let untold : is_told c b.known
          ≡ false = ⊎_elim (λ (e : is_told c b.known ≡ true). absurd (true≢false (sym (h.noted_too c e) ∙ not)))
          (λ (e : is_told c b.known ≡ false). e) (bool_cases (is_told c b.known)) in
          (λ k. none k ++ of_left_none c b.known b.lines untold k);
      numbered = λ c. ⊎_elim
          (λ (e : is_told c b.known ≡ true). subst (IsNumbered 0) (told c e) (run_numbered c 0 (lines_in_pass c b.known) (h.runs c e)))
          (λ (e : is_told c b.known ≡ false).
          subst (IsNumbered 0) (sym ((λ k. of c b.lines ++ of_left_none c b.known b.lines e k) ∙ append-nil (of c b.lines))) (numbered c))
          (bool_cases (is_told c b.known));
    }
