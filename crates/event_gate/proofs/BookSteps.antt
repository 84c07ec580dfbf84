-- Each kind of step keeps the books of a gauge's seats.
use Rattle.std.proofs.Common.{◌≡◌, ◌≢◌, ℕ, zero, suc, ◌+◌, ◌-◌, ◌<◌, ◌≤◌, true, false, true≢false, cond, eqb, List, [], ◌∷◌, ◌++◌, length}
use Rattle.std.proofs.Common.{length-append, set, take, Option, Some, None, sym, refl, ap, ◌∙◌, subst, ◌⊎◌, ⊎_elim, arith}
use Rattle.std.proofs.Math.Seq.{take-append_seam}
use Rattle.std.proofs.lemmas.Bool.{cases_order, le-ltb, lt-ltb}
use mathlib.Core.Option.{some, some-injective, some-ne-none}
use lib.ListN.{get_elem?}
use Rattle.atomic_table.proofs.Lists.{at_last, at_longer, at_set, set_else}
use Rattle.lwp_types.specs.declared.call.Line.{Line}
use Rattle.event_gate.specs.declared.book.Book.{Book}
use Rattle.event_gate.specs.Book.{AreBooked, AreSent, FitsPoster, FitsTaker, IsRun, IsSent, Learns, below, blank, hit, hits, lines_alone, posters_book}
use Rattle.event_gate.specs.Book.{takers_book, tickets_in, with_lines, with_next, with_next_noted, with_note, with_told, without_last, without_lines}
use Rattle.event_gate.specs.Clients.{is_noted, is_told, of, lines_in_pass}
use Rattle.event_gate.proofs.Lines.{at_new, bool_cases, cond_other, cond_same, noted_more, noted_still, or_other, same_or}

-- ---- books by place

abbrev Each : (ℕ → Book → Type 0) → List Book → Type 0
Each F books = (pass : ℕ) (b : Book) → get_elem? books pass ≡ some b → F pass b

each_set : (F : ℕ → Book → Type 0) (books : List Book) (pass : ℕ) (w : Book) → F pass w
    → ((j : ℕ) (u : Book) → j ≢ pass → get_elem? books j ≡ some u → F j u) → Each F (set books pass w)
each_set F books pass w mine others j u e = ⊎_elim (λ (x : (j ≡ pass) × (w ≡ u)). subst (λ (y : ℕ × Book). F y.0 y.1) (λ i. (sym x.0 i, x.1 i)) mine)
    (λ (x : (j ≢ pass) × (get_elem? books j ≡ some u)). others j u x.0 x.1) (at_set books pass j w u e)

each_more : (F : ℕ → Book → Type 0) (books : List Book) (w : Book) → F (length books) w → Each F books → Each F (books ++ w ∷ [])
each_more F books w mine others j u e = ⊎_elim (λ (x : get_elem? books j ≡ some u). others j u x)
    (λ (x : (j ≡ length books) × (w ≡ u)). subst (λ (y : ℕ × Book). F y.0 y.1) (λ i. (sym x.0 i, x.1 i)) mine) (at_new books w u j e)

abbrev Fits : ℕ → (ℕ → Option ℕ) → (ℕ → List Line) → ℕ → Book → Type 0
Fits taker seat sent pass b = FitsPoster seat sent pass b × FitsTaker taker seat sent pass b

blank_fits : (taker : ℕ) (seat : ℕ → Option ℕ) (sent : ℕ → List Line) (pass : ℕ) (lines : List Line)
    → Fits taker seat sent pass (record blank { lines = lines })
blank_fits taker seat sent pass lines = ((λ p. absurd (true≢false (sym p))), λ p. absurd (true≢false (sym p)))

two_seats : (i j : ℕ) → i ≢ j → (seat : ℕ → Option ℕ) (c d : ℕ) → seat c ≡ Some i → seat d ≡ Some j → c ≢ d
two_seats i j n seat c d a b e = n (cc (a, b, ap seat e))

no_seat : (i : ℕ) (seat : ℕ → Option ℕ) (c d : ℕ) → seat c ≡ Some i → seat d ≡ None → c ≢ d
no_seat i seat c d a b e = absurd (cc (a, b, ap seat e))

-- ---- tickets of one line

hit_same : (l : Line) (c i : ℕ) → l.client ≡ c → l.seq ≡ i → hit c i l ≡ 1
hit_same l c i mine at = cond_same l.client c (cond (eqb l.seq i) 1 0) 0 mine ∙ cond_same l.seq i 1 0 at

hit_away : (l : Line) (c i : ℕ) → l.client ≢ c → hit c i l ≡ 0
hit_away l c i other = cond_other l.client c (cond (eqb l.seq i) 1 0) 0 other

hit_late : (l : Line) (c i : ℕ) → l.client ≡ c → l.seq ≢ i → hit c i l ≡ 0
hit_late l c i mine late = cond_same l.client c (cond (eqb l.seq i) 1 0) 0 mine ∙ cond_other l.seq i 1 0 late

hits_append : (c i : ℕ) (xs ys : List Line) → hits c i (xs ++ ys) ≡ hits c i xs + hits c i ys
hits_append c i [] ys = let e : hits c i ys ≡ 0 + hits c i ys = omega arith in e
hits_append c i (x ∷ xs) ys = let r = hits_append c i xs ys in omega (arith, r)

held_set : (c i : ℕ) (books : List Book) (k : ℕ) (b w : Book) → get_elem? books k ≡ some b
    → tickets_in c i (set books k w) + hits c i b.lines ≡ tickets_in c i books + hits c i w.lines
held_set c i [] k b w e = absurd (some-ne-none b (sym e))
held_set c i (x ∷ xs) zero b w e = let same : hits c i x.lines ≡ hits c i b.lines = ap (λ (y : Book). hits c i y.lines) (some-injective x b e) in
    omega (arith, same)
held_set c i (x ∷ xs) (suc k) b w e = let r = held_set c i xs k b w e in omega (arith, r)

held_more : (c i : ℕ) (books : List Book) (w : Book) → tickets_in c i (books ++ w ∷ []) ≡ tickets_in c i books + hits c i w.lines
held_more c i [] w = omega arith
held_more c i (b ∷ bs) w = let r = held_more c i bs w in omega (arith, r)

hits_part : (c i : ℕ) (books : List Book) (k : ℕ) (b : Book) → get_elem? books k ≡ some b → hits c i b.lines ≤ tickets_in c i books
hits_part c i [] k b e = absurd (some-ne-none b (sym e))
hits_part c i (x ∷ xs) zero b e = let same : hits c i x.lines ≡ hits c i b.lines = ap (λ (y : Book). hits c i y.lines) (some-injective x b e) in
    omega (arith, same)
hits_part c i (x ∷ xs) (suc k) b e = let r = hits_part c i xs k b e in omega (arith, r)

below_yes : (i : ℕ) (ls : List Line) → i < length ls → below i ls ≡ 1
below_yes i ls lt = ap (λ b. cond b 1 0) (lt-ltb i (length ls) lt)

below_no : (i : ℕ) (ls : List Line) → length ls ≤ i → below i ls ≡ 0
below_no i ls le = ap (λ b. cond b 1 0) (le-ltb i (length ls) le)

below_more : (c i : ℕ) (ls : List Line) (l : Line) → l.client ≡ c → l.seq ≡ length ls → below i (ls ++ l ∷ []) ≡ below i ls + hit c i l
below_more c i ls l mine at =
    let size : length (ls ++ l ∷ []) ≡ length ls + 1 = length-append ls (l ∷ []) in
    ⊎_elim
    (λ (same : i ≡ length ls).
    let a = below_yes i (ls ++ l ∷ []) (omega (arith, size, same)) in
    let b = below_no i ls (omega (arith, same)) in
    let h = hit_same l c i mine (at ∙ sym same) in
    omega (arith, a, b, h))
    (λ (o : (i < length ls) ⊎ (length ls < i)). ⊎_elim
    (λ (lt : i < length ls).
    let a = below_yes i (ls ++ l ∷ []) (omega (arith, size, lt)) in
    let b = below_yes i ls lt in
    let h = hit_late l c i mine (λ e. omega (arith, at, e, lt)) in
    omega (arith, a, b, h))
    (λ (gt : length ls < i).
    let a = below_no i (ls ++ l ∷ []) (omega (arith, size, gt)) in
    let b = below_no i ls (omega (arith, gt)) in
    let h = hit_late l c i mine (λ e. omega (arith, at, e, gt)) in
    omega (arith, a, b, h)) o)
    (cases_order i (length ls))

-- ---- lines that were announced

run_snoc : (c n : ℕ) (ls : List Line) (l : Line) → IsRun c n ls → l.client ≡ c → l.seq ≡ n + length ls → l.seq < 4294967295 → IsRun c n (ls ++ l ∷ [])
run_snoc c n [] l h mine place small = let e : l.seq ≡ n = omega (arith, place) in (mine, e, omega (arith, e, small), tt)
run_snoc c n (x ∷ xs) l h mine place small = (h.0, h.1, h.2, run_snoc c (suc n) xs l h.3 mine (omega (arith, place)) small)

run_split : (c n : ℕ) (ls : List Line) (l : Line) → IsRun c n (ls ++ l ∷ []) → IsRun c n ls × (l.client ≡ c) × (l.seq ≡ n + length ls)
run_split c n [] l h = (tt, h.0, (let e = h.1 in omega (arith, e)))
run_split c n (x ∷ xs) l h = let r = run_split c (suc n) xs l h.3 in ((h.0, h.1, h.2, r.0), r.1, (let e = r.2 in omega (arith, e)))

sent_still : (sent now : ℕ → List Line) (ls : List Line) → ((l : Line) → IsSent sent l → IsSent now l) → AreSent sent ls → AreSent now ls
sent_still sent now [] f h = tt
sent_still sent now (l ∷ ls) f h = (f l h.0, sent_still sent now ls f h.1)

sent_less : (sent now : ℕ → List Line) (c i : ℕ) (ls : List Line) → hits c i ls ≡ 0
    → ((l : Line) → hit c i l ≡ 0 → IsSent sent l → IsSent now l) → AreSent sent ls → AreSent now ls
sent_less sent now c i [] none f h = tt
sent_less sent now c i (l ∷ ls) none f h = (f l (omega (arith, none)) h.0, sent_less sent now c i ls (omega (arith, none)) f h.1)

sent_append : (sent : ℕ → List Line) (xs ys : List Line) → AreSent sent xs → AreSent sent ys → AreSent sent (xs ++ ys)
sent_append sent [] ys f g = g
sent_append sent (x ∷ xs) ys f g = (f.0, sent_append sent xs ys f.1 g)

-- ---- steps

pub books_begin : AreBooked (takers_book ∷ [])
books_begin = record {
  taker = 0;
  seat = λ c. None;
  sent = λ c. [];
  runs = λ c. tt;
  once = λ c i. sym (below_no i [] (omega arith));
  right = each_more (λ j u. AreSent (λ c. []) u.lines) [] takers_book tt (λ j u e. absurd (some-ne-none u (sym e)));
  fits = each_more (Fits 0 (λ c. None) (λ c. [])) [] takers_book
      ((λ p. absurd (true≢false (sym p))), λ p. (refl, (λ c h. (refl, refl)), λ c h. absurd (true≢false (sym h)))) (λ j u e. absurd (some-ne-none u (sym e)));
}

-- a line is announced
pub books_note : (books : List Book) (pass : ℕ) (b : Book) (l : Line) → get_elem? books pass ≡ some b → AreBooked books → b.posts ≡ true
    → l.client ≡ b.client → l.seq ≡ length b.sent → l.seq < 4294967295 → AreBooked (set books pass (with_note b l))
books_note books pass b l at h may mine next small =
    let w : Book = with_note b l in
    let fit = h.fits pass b at in
    let me : (h.seat b.client ≡ Some pass) × (b.sent ≡ h.sent b.client) = fit.0 may in
    let sent : ℕ → List Line = λ c. cond (eqb c b.client) (h.sent c ++ l ∷ []) (h.sent c) in
    let here : (c : ℕ) → c ≡ b.client → sent c ≡ h.sent c ++ l ∷ [] = λ c e. cond_same c b.client (h.sent c ++ l ∷ []) (h.sent c) e in
    let else : (c : ℕ) → c ≢ b.client → sent c ≡ h.sent c = λ c n. cond_other c b.client (h.sent c ++ l ∷ []) (h.sent c) n in
    let place : (c : ℕ) → c ≡ b.client → l.seq ≡ length (h.sent c) = λ c e. next ∙ ap length me.1 ∙ ap (λ d. length (h.sent d)) (sym e) in
    let still : (x : Line) → IsSent h.sent x → IsSent sent x = λ x s. ⊎_elim
    (λ (e : x.client ≡ b.client). subst (λ ls. get_elem? ls x.seq ≡ some x) (sym (here x.client e)) (at_longer (h.sent x.client) (l ∷ []) x.seq x s))
    (λ (n : x.client ≢ b.client). subst (λ ls. get_elem? ls x.seq ≡ some x) (sym (else x.client n)) s)
    (same_or x.client b.client) in
    let last : IsSent sent l =
    subst (λ ls. get_elem? ls l.seq ≡ some l) (sym (here l.client mine)) (at_last (h.sent l.client) l l.seq (sym (place l.client mine))) in
    let takers : (j : ℕ) (u : Book) → FitsTaker h.taker h.seat h.sent j u → FitsTaker h.taker h.seat sent j u =
    λ j u f t. let g = f t in (
      g.0,
      (λ c none. let k = g.1 c none in (k.0, else c (λ e. no_seat pass h.seat b.client c me.0 k.0 (sym e)) ∙ k.1)),
      (λ c told. let k = g.2 c told in (k.0, k.1 ∙ sym (else c (λ e. no_seat pass h.seat b.client c me.0 k.0 (sym e))), k.2)),
    ) in
    record {
      taker = h.taker;
      seat = h.seat;
      sent = sent;
      runs = λ c. ⊎_elim
          (λ (e : c ≡ b.client).
          subst (IsRun c 0) (sym (here c e)) (run_snoc c 0 (h.sent c) l (h.runs c) (mine ∙ sym e) (let p = place c e in omega (arith, p)) small))
          (λ (n : c ≢ b.client). subst (IsRun c 0) (sym (else c n)) (h.runs c))
          (same_or c b.client);
      once = λ c i.
          let change = held_set c i books pass b w at in
          let more = hits_append c i b.lines (l ∷ []) in
          let was = h.once c i in
          ⊎_elim
          (λ (e : c ≡ b.client).
          let grows : below i (sent c) ≡ below i (h.sent c) + hit c i l = ap (below i) (here c e) ∙ below_more c i (h.sent c) l (mine ∙ sym e) (place c e) in
          omega (arith, change, more, was, grows))
          (λ (n : c ≢ b.client).
          let none = hit_away l c i (λ e. n (sym e ∙ mine)) in
          let same : below i (sent c) ≡ below i (h.sent c) = ap (below i) (else c n) in
          omega (arith, change, more, was, none, same))
          (same_or c b.client);
      right = each_set (λ j u. AreSent sent u.lines) books pass w
          (sent_append sent b.lines (l ∷ []) (sent_still h.sent sent b.lines still (h.right pass b at)) (last, tt))
          (λ j u apart e. sent_still h.sent sent u.lines still (h.right j u e));
      fits = each_set (Fits h.taker h.seat sent) books pass w
          ((λ p. (me.0, ap (λ ls. ls ++ l ∷ []) me.1 ∙ sym (here b.client refl))), takers pass w fit.1)
          (λ j u apart e. let f = h.fits j u e in (
            (λ p. let g = f.0 p in (g.0, g.1 ∙ sym (else u.client (two_seats j pass apart h.seat u.client b.client g.0 me.0)))),
            takers j u f.1,
          ));
    }

-- the line announced last is taken back
pub books_withdraw : (books : List Book) (pass : ℕ) (b : Book) (before : List Line) (l : Line) → get_elem? books pass ≡ some b
    → AreBooked books → b.posts ≡ true → b.sent ≡ before ++ l ∷ [] → b.lines ≡ l ∷ [] → AreBooked (set books pass (without_last b))
books_withdraw books pass b before l at h may is tickets =
    let w : Book = without_last b in
    let fit = h.fits pass b at in
    let me : (h.seat b.client ≡ Some pass) × (b.sent ≡ h.sent b.client) = fit.0 may in
    let whole : (c : ℕ) → c ≡ b.client → h.sent c ≡ before ++ l ∷ [] = λ c e. ap h.sent e ∙ sym me.1 ∙ is in
    let run = run_split b.client 0 before l (subst (IsRun b.client 0) (whole b.client refl) (h.runs b.client)) in
    let mine : l.client ≡ b.client = run.1 in
    let place : l.seq ≡ length before = (let p = run.2 in omega (arith, p)) in
    let size : length (before ++ l ∷ []) ≡ length before + 1 = length-append before (l ∷ []) in
    let less : length (before ++ l ∷ []) - 1 ≡ length before = omega (arith, size) in
    let rest : take (length b.sent - 1) b.sent
    ≡ before = ap (λ ls. take (length ls - 1) ls) is ∙ ap (λ n. take n (before ++ l ∷ [])) less ∙ take-append_seam before (l ∷ []) in
    let sent : ℕ → List Line = λ c. cond (eqb c b.client) before (h.sent c) in
    let here : (c : ℕ) → c ≡ b.client → sent c ≡ before = λ c e. cond_same c b.client before (h.sent c) e in
    let else : (c : ℕ) → c ≢ b.client → sent c ≡ h.sent c = λ c n. cond_other c b.client before (h.sent c) n in
    let one : (c i : ℕ) → hits c i b.lines ≡ hit c i l + 0 = λ c i. ap (hits c i) tickets in
    let once : (c i : ℕ) → tickets_in c i (set books pass w) ≡ below i (sent c) = λ c i.
    let change = held_set c i books pass b w at in
    let gone = one c i in
    let was = h.once c i in
    ⊎_elim
    (λ (e : c ≡ b.client).
    let shrinks : below i (h.sent c) ≡ below i before + hit c i l = ap (below i) (whole c e) ∙ below_more c i before l (mine ∙ sym e) place in
    let now : below i (sent c) ≡ below i before = ap (below i) (here c e) in
    omega (arith, change, gone, was, shrinks, now))
    (λ (n : c ≢ b.client).
    let none = hit_away l c i (λ e. n (sym e ∙ mine)) in
    let same : below i (sent c) ≡ below i (h.sent c) = ap (below i) (else c n) in
    omega (arith, change, gone, was, none, same))
    (same_or c b.client) in
    let gone : (j : ℕ) (u : Book) → j ≢ pass → get_elem? books j ≡ some u → hits b.client (length before) u.lines ≡ 0 = λ j u apart e.
    let part = hits_part b.client (length before) (set books pass w) j u (set_else books pass j w apart ∙ e) in
    let all = once b.client (length before) in
    let none : below (length before) (sent b.client) ≡ 0 = ap (below (length before)) (here b.client refl) ∙ below_no (length before) before (omega arith) in
    omega (arith, part, all, none) in
    let still : (x : Line) → hit b.client (length before) x ≡ 0 → IsSent h.sent x → IsSent sent x = λ x away s. ⊎_elim
    (λ (e : x.client ≡ b.client). subst (λ ls. get_elem? ls x.seq ≡ some x) (sym (here x.client e))
    (⊎_elim (λ (y : get_elem? before x.seq ≡ some x). y)
    (λ (y : (x.seq ≡ length before) × (l ≡ x)). absurd (let one = hit_same x b.client (length before) e y.0 in omega (arith, one, away)))
    (at_new before l x x.seq (subst (λ ls. get_elem? ls x.seq ≡ some x) (whole x.client e) s))))
    (λ (n : x.client ≢ b.client). subst (λ ls. get_elem? ls x.seq ≡ some x) (sym (else x.client n)) s)
    (same_or x.client b.client) in
    let takers : (j : ℕ) (u : Book) → FitsTaker h.taker h.seat h.sent j u → FitsTaker h.taker h.seat sent j u =
    λ j u f t. let g = f t in (
      g.0,
      (λ c none. let k = g.1 c none in (k.0, else c (λ e. no_seat pass h.seat b.client c me.0 k.0 (sym e)) ∙ k.1)),
      (λ c told. let k = g.2 c told in (k.0, k.1 ∙ sym (else c (λ e. no_seat pass h.seat b.client c me.0 k.0 (sym e))), k.2)),
    ) in
    record {
      taker = h.taker;
      seat = h.seat;
      sent = sent;
      runs = λ c. ⊎_elim
          (λ (e : c ≡ b.client). subst (IsRun c 0) (sym (here c e)) (subst (λ d. IsRun d 0 before) (sym e) run.0))
          (λ (n : c ≢ b.client). subst (IsRun c 0) (sym (else c n)) (h.runs c))
          (same_or c b.client);
      once = once;
      right = each_set (λ j u. AreSent sent u.lines) books pass w tt
          (λ j u apart e. sent_less h.sent sent b.client (length before) u.lines (gone j u apart e) still (h.right j u e));
      fits = each_set (Fits h.taker h.seat sent) books pass w
          ((λ p. (me.0, rest ∙ sym (here b.client refl))), takers pass w fit.1)
          (λ j u apart e. let f = h.fits j u e in (
            (λ p. let g = f.0 p in (g.0, g.1 ∙ sym (else u.client (two_seats j pass apart h.seat u.client b.client g.0 me.0)))),
            takers j u f.1,
          ));
    }

-- something is noted that the rule doesn't read
books_like : (books : List Book) (pass : ℕ) (b w : Book) → get_elem? books pass ≡ some b → w.lines ≡ b.lines
    → ((taker : ℕ) (seat : ℕ → Option ℕ) (sent : ℕ → List Line) → Fits taker seat sent pass b → Fits taker seat sent pass w)
    → AreBooked books → AreBooked (set books pass w)
books_like books pass b w at same keep h = record {
  taker = h.taker;
  seat = h.seat;
  sent = h.sent;
  runs = h.runs;
  once = λ c i. let change = held_set c i books pass b w at in let was = h.once c i in let e = ap (hits c i) same in omega (arith, change, was, e);
  right = each_set (λ j u. AreSent h.sent u.lines) books pass w (subst (AreSent h.sent) (sym same) (h.right pass b at)) (λ j u apart e. h.right j u e);
  fits = each_set (Fits h.taker h.seat h.sent) books pass w (keep h.taker h.seat h.sent (h.fits pass b at)) (λ j u apart e. h.fits j u e);
}

pub books_kept : (books : List Book) (pass : ℕ) (b : Book) → get_elem? books pass ≡ some b → AreBooked books → AreBooked (set books pass b)
books_kept books pass b at h = books_like books pass b b at refl (λ taker seat sent f. f) h

pub books_aim : (books : List Book) (pass : ℕ) (b : Book) (c : ℕ) → get_elem? books pass ≡ some b → AreBooked books → AreBooked (set books pass (with_next b c))
books_aim books pass b c at h = books_like books pass b (with_next b c) at refl (λ taker seat sent f. f) h

-- one seat more, which has these tickets and nothing else
books_more : (books : List Book) (lines : List Line) → (h : AreBooked books) → lines ≡ [] → AreBooked (books ++ (record blank { lines = lines }) ∷ [])
books_more books lines h none = record {
  taker = h.taker;
  seat = h.seat;
  sent = h.sent;
  runs = h.runs;
  once = λ c i.
      let more = held_more c i books (record blank { lines = lines }) in let e = ap (hits c i) none in let was = h.once c i in omega (arith, more, e, was);
  right = each_more (λ j u. AreSent h.sent u.lines) books (record blank { lines = lines }) (subst (AreSent h.sent) (sym none) tt) h.right;
  fits = each_more (Fits h.taker h.seat h.sent) books (record blank { lines = lines }) (blank_fits h.taker h.seat h.sent (length books) lines) h.fits;
}

pub books_part : (books : List Book) (pass : ℕ) (b : Book) → get_elem? books pass ≡ some b → AreBooked books → AreBooked (set books pass b ++ blank ∷ [])
books_part books pass b at h = books_more (set books pass b) [] (books_kept books pass b at h) refl

-- all tickets of a seat are handed on
pub books_cut : (books : List Book) (pass : ℕ) (b : Book) → get_elem? books pass ≡ some b → AreBooked books
    → AreBooked (set books pass (without_lines b) ++ lines_alone b ∷ [])
books_cut books pass b at h =
    let w : Book = without_lines b in
    let vs : List Book = set books pass w in
    record {
      taker = h.taker;
      seat = h.seat;
      sent = h.sent;
      runs = h.runs;
      once = λ c i. let change = held_set c i books pass b w at in let more = held_more c i vs (lines_alone b) in let was = h.once c i in
          omega (arith, change, more, was);
      right = each_more (λ j u. AreSent h.sent u.lines) vs (lines_alone b) (h.right pass b at)
          (each_set (λ j u. AreSent h.sent u.lines) books pass w tt (λ j u apart e. h.right j u e));
      fits = each_more (Fits h.taker h.seat h.sent) vs (lines_alone b) (blank_fits h.taker h.seat h.sent (length vs) b.lines)
          (each_set (Fits h.taker h.seat h.sent) books pass w (h.fits pass b at) (λ j u apart e. h.fits j u e));
    }

other_was : (books : List Book) (pass : ℕ) (w : Book) (other : ℕ) (u : Book) → ¬ (other ≡ pass)
    → get_elem? (set books pass w) other ≡ some u → get_elem? books other ≡ some u
other_was books pass w other u two at = ⊎_elim (λ (x : (other ≡ pass) × (w ≡ u)). absurd (two x.0))
    (λ (x : (other ≢ pass) × (get_elem? books other ≡ some u)). x.1) (at_set books pass other w u at)

-- a seat takes in another's tickets
pub books_gather : (books : List Book) (pass : ℕ) (b : Book) (other : ℕ) (u : Book) → get_elem? books pass ≡ some b → ¬ (other ≡ pass)
    → get_elem? (set books pass (with_lines b u)) other ≡ some u → AreBooked books → AreBooked (set (set books pass (with_lines b u)) other blank)
books_gather books pass b other u at two at' h =
    let w : Book = with_lines b u in
    let vs : List Book = set books pass w in
    let was : get_elem? books other ≡ some u = other_was books pass w other u two at' in
    record {
      taker = h.taker;
      seat = h.seat;
      sent = h.sent;
      runs = h.runs;
      once = λ c i.
          let one = held_set c i books pass b w at in
          let more = hits_append c i b.lines u.lines in
          let spent = held_set c i vs other u blank at' in
          let before = h.once c i in
          omega (arith, one, more, spent, before);
      right = each_set (λ j u. AreSent h.sent u.lines) vs other blank tt
          (λ j y apart e. each_set (λ j u. AreSent h.sent u.lines) books pass w
          (sent_append h.sent b.lines u.lines (h.right pass b at) (h.right other u was)) (λ j u apart e. h.right j u e) j y e);
      fits = each_set (Fits h.taker h.seat h.sent) vs other blank (blank_fits h.taker h.seat h.sent other [])
          (λ j y apart e. each_set (Fits h.taker h.seat h.sent) books pass w (h.fits pass b at) (λ j u apart e. h.fits j u e) j y e);
    }

-- a poster is made
pub books_enroll : (books : List Book) (pass : ℕ) (b : Book) → get_elem? books pass ≡ some b → AreBooked books → b.takes ≡ true
    → is_noted b.next b.noted ≡ false → AreBooked (set books pass (with_next_noted b) ++ posters_book b.next [] ∷ [])
books_enroll books pass b at h may new =
    let w : Book = with_next_noted b in
    let p : Book = posters_book b.next [] in
    let vs : List Book = set books pass w in
    let fit = h.fits pass b at in
    let me = fit.1 may in
    let free = me.1 b.next new in
    let seat : ℕ → Option ℕ = λ c. cond (eqb c b.next) (Some (length vs)) (h.seat c) in
    let here : seat b.next ≡ Some (length vs) = cond_same b.next b.next (Some (length vs)) (h.seat b.next) refl in
    let else : (c : ℕ) → c ≢ b.next → seat c ≡ h.seat c = λ c n. cond_other c b.next (Some (length vs)) (h.seat c) n in
    let posters : (j : ℕ) (u : Book) → FitsPoster h.seat h.sent j u
    → FitsPoster seat h.sent j u = λ j u f p. let g = f p in (else u.client (no_seat j h.seat u.client b.next g.0 free.0) ∙ g.0, g.1) in
    record {
      taker = h.taker;
      seat = seat;
      sent = h.sent;
      runs = h.runs;
      once = λ c i. let change = held_set c i books pass b w at in let more = held_more c i vs p in let was = h.once c i in omega (arith, change, more, was);
      right = each_more (λ j u. AreSent h.sent u.lines) vs p tt
          (each_set (λ j u. AreSent h.sent u.lines) books pass w (h.right pass b at) (λ j u apart e. h.right j u e));
      fits = each_more (Fits h.taker seat h.sent) vs p ((λ q. (here, sym free.1)), λ q. absurd (true≢false (sym q)))
          (each_set (Fits h.taker seat h.sent) books pass w (
            posters pass w fit.0,
            λ t. (
              me.0,
              (λ c none. let o = noted_more c b.next b.noted none in let k = me.1 c o.0 in (else c (λ e. o.1 (sym e)) ∙ k.0, k.1)),
              (λ c told. let k = me.2 c told in
                  (else c (λ e. absurd (true≢false (sym k.2 ∙ ap (λ d. is_noted d b.noted) e ∙ new))) ∙ k.0, k.1, noted_still c b.next b.noted k.2)),
            ),
          )
          (λ j u apart e. let f = h.fits j u e in (posters j u f.0, λ t. absurd (apart ((f.1 t).0 ∙ sym me.0)))));
    }

-- what a poster has announced in all is told
pub books_tell : (books : List Book) (pass : ℕ) (b : Book) (other : ℕ) (u : Book) → get_elem? books pass ≡ some b → ¬ (other ≡ pass)
    → get_elem? (set books pass (with_told b u)) other ≡ some u → AreBooked books → b.takes ≡ true → u.posts ≡ true
    → AreBooked (set (set books pass (with_told b u)) other blank)
books_tell books pass b other u at two at' h may theirs =
    let w : Book = with_told b u in
    let vs : List Book = set books pass w in
    let was : get_elem? books other ≡ some u = other_was books pass w other u two at' in
    let it = (h.fits other u was).0 theirs in
    let fit = h.fits pass b at in
    let me = fit.1 may in
    let seat : ℕ → Option ℕ = λ c. cond (eqb c u.client) None (h.seat c) in
    let here : (c : ℕ) → c ≡ u.client → seat c ≡ None = λ c e. cond_same c u.client None (h.seat c) e in
    let else : (c : ℕ) → c ≢ u.client → seat c ≡ h.seat c = λ c n. cond_other c u.client None (h.seat c) n in
    let empty : (c : ℕ) → h.seat c ≡ None
    → seat c ≡ None = λ c k. ⊎_elim (λ (e : c ≡ u.client). here c e) (λ (n : c ≢ u.client). else c n ∙ k) (same_or c u.client) in
    let posters : (j : ℕ) (y : Book) → j ≢ other → FitsPoster h.seat h.sent j y
    → FitsPoster seat h.sent j y = λ j y apart f p. let g = f p in (else y.client (two_seats j other apart h.seat y.client u.client g.0 it.0) ∙ g.0, g.1) in
    let noted : is_noted u.client b.noted
    ≡ true = ⊎_elim (λ (e : is_noted u.client b.noted ≡ true). e)
    (λ (e : is_noted u.client b.noted ≡ false). absurd (no_seat other h.seat u.client u.client it.0 (me.1 u.client e).0 refl))
    (bool_cases (is_noted u.client b.noted)) in
    let told : (c : ℕ) → is_told c w.known ≡ true → (seat c ≡ None) × (lines_in_pass c w.known ≡ h.sent c) × (is_noted c b.noted ≡ true) =
    λ c k. ⊎_elim
    (λ (e : c ≡ u.client).
    (here c e, cond_same u.client c u.sent (lines_in_pass c b.known) (sym e) ∙ it.1 ∙ ap h.sent (sym e), ap (λ d. is_noted d b.noted) e ∙ noted))
    (λ (n : c ≢ u.client). let apart : u.client ≢ c = λ e. n (sym e) in let f = me.2 c (or_other u.client c (is_told c b.known) apart k) in
    (empty c f.0, cond_other u.client c u.sent (lines_in_pass c b.known) apart ∙ f.1, f.2))
    (same_or c u.client) in
    let Now : ℕ → Book → Type 0 = λ j y. j ≢ other → Fits h.taker seat h.sent j y in
    let now : Each Now vs = each_set Now books pass w
    (λ apart. (posters pass w apart fit.0, λ t. (me.0, (λ c none. let k = me.1 c none in (empty c k.0, k.1)), told)))
    (λ j y away e apart. let f = h.fits j y e in (posters j y apart f.0, λ t. absurd (away ((f.1 t).0 ∙ sym me.0)))) in
    record {
      taker = h.taker;
      seat = seat;
      sent = h.sent;
      runs = h.runs;
      once = λ c i.
          let one = held_set c i books pass b w at in
          let more = hits_append c i b.lines u.lines in
          let spent = held_set c i vs other u blank at' in
          let before = h.once c i in
          omega (arith, one, more, spent, before);
      right = each_set (λ j u. AreSent h.sent u.lines) vs other blank tt
          (λ j y apart e. each_set (λ j u. AreSent h.sent u.lines) books pass w
          (sent_append h.sent b.lines u.lines (h.right pass b at) (h.right other u was)) (λ j u apart e. h.right j u e) j y e);
      fits = each_set (Fits h.taker seat h.sent) vs other blank (blank_fits h.taker seat h.sent other []) (λ j y apart e. now j y e apart);
    }

-- ---- what the taker learns

sent_of : (c : ℕ) (sent : ℕ → List Line) (whole : List Line) (ls : List Line) → whole ≡ sent c → AreSent sent ls → AreSent (λ d. whole) (of c ls)
sent_of c sent whole [] is h = tt
sent_of c sent whole (l ∷ ls) is h = ⊎_elim
    (λ (e : l.client ≡ c). subst (AreSent (λ d. whole)) (sym (cond_same l.client c (l ∷ of c ls) (of c ls) e))
    (ap (λ ys. get_elem? ys l.seq) (is ∙ ap sent (sym e)) ∙ h.0, sent_of c sent whole ls is h.1))
    (λ (n : l.client ≢ c). subst (AreSent (λ d. whole)) (sym (cond_other l.client c (l ∷ of c ls) (of c ls) n)) (sent_of c sent whole ls is h.1))
    (same_or l.client c)

none_of : (c : ℕ) (sent : ℕ → List Line) (ls : List Line) → sent c ≡ [] → AreSent sent ls → of c ls ≡ []
none_of c sent [] none h = refl
none_of c sent (l ∷ ls) none h = ⊎_elim
    (λ (e : l.client ≡ c). absurd (some-ne-none l (sym h.0 ∙ ap (λ ys. get_elem? ys l.seq) (ap sent e ∙ none))))
    (λ (n : l.client ≢ c). cond_other l.client c (l ∷ of c ls) (of c ls) n ∙ none_of c sent ls none h.1)
    (same_or l.client c)

pub books_learn : (books : List Book) (pass : ℕ) (b : Book) → get_elem? books pass ≡ some b → AreBooked books → b.takes ≡ true → Learns b
books_learn books pass b at h may =
    let me = (h.fits pass b at).1 may in
    let lines = h.right pass b at in
    record {
      runs = λ c told. subst (IsRun c 0) (sym (me.2 c told).1) (h.runs c);
      sent = λ c told. sent_of c h.sent (lines_in_pass c b.known) b.lines (me.2 c told).1 lines;
      stray = λ c none. none_of c h.sent b.lines (me.1 c none).1 lines;
      noted_too = λ c told. (me.2 c told).2;
    }
