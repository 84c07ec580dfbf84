-- What a post, a take and a taking in leave of the books of their ends.
use Rattle.std.proofs.Common.{◌≡◌, ℕ, zero, suc, ◌+◌, ◌-◌, ◌<◌, ◌≤◌, Bool, true, false, cond, ltb, ◌⊎◌, ⊎_elim, List}
use Rattle.std.proofs.Common.{[], ◌∷◌, ◌++◌, length, take, sym, refl, ap, ◌∙◌, subst, length-append, arith}
use Rattle.std.proofs.Math.Seq.{take-append_seam}
use Rattle.std.proofs.lemmas.Bool.{cases_order, le-ltb, lt-ltb}
use Rattle.std.proofs.lemmas.List.{append-nil}
use Rattle.lwp_types.specs.declared.call.Line.{Line}
use Rattle.event_gate.specs.declared.gauge_rule.GaugeView.{GaugeView}
use Rattle.event_gate.specs.declared.marks.Marks.{Marks}
use Rattle.event_gate.specs.declared.view.Told.{Told}
use Rattle.event_gate.specs.declared.view.View.{View}
use Rattle.event_gate.specs.Book.{Learns, posters_book}
use Rattle.event_gate.specs.Gauge.{after_announce, after_aim, after_enroll, after_find, after_redeem, after_tell, after_withdraw}
use Rattle.event_gate.specs.Gauge.{at_work, marks_lowered, marks_raised, opening, posts_each, starting}
use Rattle.event_gate.specs.Port.{Accounts, IsNumbered, Sees, after_take, after_take_in, is_noted, of}
use Rattle.atomic_table.specs.Seated.{TableId}
use Rattle.event_gate.specs.Ends.{IsOpen, IsOpenGauge, IsTakersBook, PortId, new_taking, noted_below, taking}
use Rattle.event_gate.proofs.BookLearns.{accounts_learnt, left_lines}
use Rattle.event_gate.proofs.Lines.{noted_else, noted_last, of_moved}

-- a poster's seat has announced these lines, and has what marks it has
pub at_its_work : (c : ℕ) (sent : List Line) (v : GaugeView) (m : Marks) → v ≡ at_work c sent m → v ≡ at_work c sent v.marks
at_its_work c sent v m e = e ∙ ap (at_work c sent) (sym (ap (λ (y : GaugeView). y.marks) e))

pub announced_more : (c : ℕ) (sent : List Line) (l : Line) (m : Marks) (n : ℕ)
    → after_announce (at_work c sent m) l n ≡ at_work c (sent ++ l ∷ []) (marks_raised m n)
announced_more c sent l m n = let e : length sent + 1 ≡ length (sent ++ l ∷ []) = sym (length-append sent (l ∷ [])) in
    λ k. record opening { announced = e k; book = posters_book c (sent ++ l ∷ []); marks = marks_raised m n }

pub withdrawn_again : (c : ℕ) (sent : List Line) (l : Line) (m : Marks) (n : ℕ)
    → after_withdraw (after_announce (at_work c sent m) l n) ≡ at_work c sent (marks_lowered (marks_raised m n))
withdrawn_again c sent l m n =
    let e : (length sent + 1) - 1 ≡ length sent = omega arith in
    let size : length (sent ++ l ∷ []) - 1 ≡ length sent = (let n = length-append sent (l ∷ []) in omega (arith, n)) in
    let rest : take (length (sent ++ l ∷ []) - 1) (sent ++ l ∷ []) ≡ sent = ap (λ n. take n (sent ++ l ∷ [])) size ∙ take-append_seam sent (l ∷ []) in
    λ k. record opening { announced = e k; book = posters_book c (rest k); marks = marks_lowered (marks_raised m n) }

-- the first of numbered lines are numbered
numbered_first : (n : ℕ) (xs ys : List Line) → IsNumbered n (xs ++ ys) → IsNumbered n xs
numbered_first n [] ys h = tt
numbered_first n (x ∷ xs) ys h = (h.0, h.1, numbered_first (suc n) xs ys h.2)

pub book_taken : (v : View) (g : GaugeView) (x : Line) (queued : List Line) → IsTakersBook v g → Sees v (x ∷ queued)
    → IsTakersBook (after_take v x) (after_redeem g x)
book_taken v g x queued h sees = record {
  tickets = (let n = length-append v.taken (x ∷ []) in let t = h.tickets in omega (arith, n, t));
  takes = h.takes;
  lines_are = ap (λ ls. ls ++ x ∷ []) h.lines_are;
  noted_are = h.noted_are;
  known_are = h.known_are;
  numbered = λ c. numbered_first 0 (of c (v.taken ++ x ∷ [])) (of c queued) (subst (IsNumbered 0) (sym (of_moved c v.taken queued x)) (sees.numbered c));
}

pub book_found : (v : View) (g : GaugeView) (n : ℕ) → IsTakersBook v g → IsTakersBook v (after_find g n)
book_found v g n h = record {
  tickets = h.tickets;
  takes = h.takes;
  lines_are = h.lines_are;
  noted_are = h.noted_are;
  known_are = h.known_are;
  numbered = h.numbered;
}

-- the seat of a poster that has posted just what its view says
pub book_told : (v u : View) (g : GaugeView) (m : Marks) → IsTakersBook v g → IsTakersBook (after_take_in v u) (after_tell g (at_work u.client u.posted m))
book_told v u g m h = record {
  tickets = (let t = h.tickets in omega (arith, t));
  takes = h.takes;
  lines_are = append-nil g.book.lines ∙ h.lines_are;
  noted_are = h.noted_are;
  known_are = ap (λ ts. record { client = u.client; posted = u.posted } ∷ ts) h.known_are;
  numbered = h.numbered;
}

-- and what that tells of the lines that are left
pub sees_left : (v : View) (g : GaugeView) → IsTakersBook v g → Learns g.book → Sees v (left_lines v.known v.taken)
sees_left v g h learnt =
    let numbered : (c : ℕ) → IsNumbered 0 (of c g.book.lines) = λ c. subst (λ ls. IsNumbered 0 (of c ls)) (sym h.lines_are) (h.numbered c) in
    subst (λ (y : List ℕ × List Told × List Line). Accounts y.0 y.1 y.2 (left_lines y.1 y.2))
    (λ k. (h.noted_are k, h.known_are k, h.lines_are k)) (accounts_learnt g.book learnt numbered)

pub gauge_opens : IsOpenGauge [] starting
unfolding noted_below
gauge_opens = record {
  tickets = refl;
  finds = refl;
  found = refl;
  takes = refl;
  lines_are = refl;
  noted_are = refl;
  known_are = refl;
  room = refl;
  distinct = refl;
}

abbrev as_one : Bool → ℕ
as_one b = cond b 1 0

-- there are 256 clients, of which fewer than that are noted before one more is
noted_more_below : (n c : ℕ) (noted : List ℕ) → is_noted c noted ≡ false → noted_below n (noted ++ c ∷ []) ≡ noted_below n noted + cond (ltb c n) 1 0
unfolding noted_below
noted_more_below zero c noted new = let none = ap as_one (le-ltb c 0 (omega arith)) in omega (arith, none)
noted_more_below (suc d) c noted new =
    let r = noted_more_below d c noted new in
    ⊎_elim
    (λ (e : c ≡ d).
    let a = ap as_one (subst (λ (x : ℕ). is_noted x (noted ++ c ∷ []) ≡ true) e (noted_last c noted)) in
    let b = ap as_one (subst (λ (x : ℕ). is_noted x noted ≡ false) e new) in
    let k = ap as_one (le-ltb c d (omega (arith, e))) in
    let m = ap as_one (lt-ltb c (suc d) (omega (arith, e))) in
    omega (arith, r, a, b, k, m))
    (λ (o : (c < d) ⊎ (d < c)). ⊎_elim
    (λ (lt : c < d).
    let a = ap as_one (noted_else d c noted (λ e. omega (arith, e, lt))) in
    let k = ap as_one (lt-ltb c d lt) in
    let m = ap as_one (lt-ltb c (suc d) (omega (arith, lt))) in
    omega (arith, r, a, k, m))
    (λ (gt : d < c).
    let a = ap as_one (noted_else d c noted (λ e. omega (arith, e, gt))) in
    let k = ap as_one (le-ltb c d (omega (arith, gt))) in
    let m = ap as_one (le-ltb c (suc d) (omega (arith, gt))) in
    omega (arith, r, a, k, m)) o)
    (cases_order c d)

at_most : (n : ℕ) (noted : List ℕ) → noted_below n noted ≤ n
unfolding noted_below
at_most zero noted = omega arith
at_most (suc d) noted = let r = at_most d noted in let b = one_at_most (is_noted d noted) in omega (arith, r, b)
  where
    one_at_most : (b : Bool) → cond b 1 0 ≤ 1
    one_at_most true = omega arith
    one_at_most false = omega arith

few_below : (n c : ℕ) (noted : List ℕ) → length noted ≡ noted_below n noted → is_noted c noted ≡ false → c < n → length noted < n
few_below n c noted distinct new small =
    let more = noted_more_below n c noted new in
    let m = ap as_one (lt-ltb c n small) in
    let most = at_most n (noted ++ c ∷ []) in
    omega (arith, more, m, most, distinct)

distinct_more : (n c : ℕ) (noted : List ℕ) → length noted ≡ noted_below n noted → is_noted c noted ≡ false → c < n
    → length (noted ++ c ∷ []) ≡ noted_below n (noted ++ c ∷ [])
distinct_more n c noted distinct new small =
    let more = noted_more_below n c noted new in
    let m = ap as_one (lt-ltb c n small) in
    let size = length-append noted (c ∷ []) in
    omega (arith, more, m, size, distinct)

pub few_noted : (noted : List ℕ) (g : GaugeView) (c : ℕ) → IsOpenGauge noted g → is_noted c noted ≡ false → c < 256 → length noted < 256
few_noted noted g c h new small = few_below 256 c noted h.distinct new small

-- so there is room for one poster more
pub room_spared : (noted : List ℕ) (g : GaugeView) (c : ℕ) → IsOpenGauge noted g → is_noted c noted ≡ false → c < 256 → posts_each ≤ g.marks.room
room_spared noted g c h new small = let few = few_noted noted g c h new small in let r = h.room in omega (arith, few, r)

pub gauge_enrolls : (noted : List ℕ) (g : GaugeView) (c : ℕ) → is_noted c noted ≡ false → c < 256 → IsOpenGauge noted g
    → IsOpenGauge (noted ++ c ∷ []) (after_enroll (after_aim g c))
gauge_enrolls noted g c new small h = record {
  room = (let spare = room_spared noted g c h new small in let r = h.room in let n = length-append noted (c ∷ []) in omega (arith, spare, r, n));
  distinct = distinct_more 256 c noted h.distinct new small;
  tickets = h.tickets;
  finds = h.finds;
  found = h.found;
  takes = h.takes;
  lines_are = h.lines_are;
  noted_are = ap (λ ns. ns ++ c ∷ []) h.noted_are;
  known_are = h.known_are;
}

pub book_opens : (gauge : TableId) (noted : List ℕ) (v : View) (g : GaugeView) → IsOpen gauge noted v → IsOpenGauge noted g → IsTakersBook v g
book_opens gauge noted v g o h = record {
  tickets = h.tickets ∙ sym (ap length o.taken_are);
  takes = h.takes;
  lines_are = h.lines_are ∙ sym o.taken_are;
  noted_are = h.noted_are ∙ sym o.noted_are;
  known_are = h.known_are ∙ sym o.known_are;
  numbered = λ c. subst (λ ls. IsNumbered 0 (of c ls)) (sym o.taken_are) tt;
}

pub taking_opens : (port : PortId) (event : ℕ) (gauge : TableId) (noted : List ℕ) (v : View) (g : GaugeView) → IsOpen gauge noted v
    → IsOpenGauge noted g → taking port event v g ≡ new_taking port event noted
taking_opens port event gauge noted v g o h =
    λ k. record { port = port; event = event; taken = o.taken_are k; finds = h.finds k; found = h.found k; noted = o.noted_are k; known = o.known_are k }

-- what the taker's end is when a pass came in
pub taken_in : (port : PortId) (event : ℕ) (v u w : View) (g h x : GaugeView) (client : ℕ) → w ≡ after_take_in v u → h ≡ after_tell g x → u.client ≡ client
    → taking port event w h ≡ record (taking port event v g) { known = record { client = client; posted = u.posted } ∷ v.known }
taken_in port event v u w g h x client rule told is = (λ k. taking port event (rule k) (told k))
    ∙ (λ k. record (taking port event v g) { known = record { client = is k; posted = u.posted } ∷ v.known })
