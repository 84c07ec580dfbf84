-- What a taker's finds tell: where it finds nothing, nobody else has a ticket, whatever its step is.
use Rattle.std.proofs.Common.{◌≡◌, ◌≢◌, ℕ, zero, suc, ◌+◌, ◌<◌, ◌≤◌, ◌%◌, ◌^◌, Bool, true, false, true≢false, List, []}
use Rattle.std.proofs.Common.{◌∷◌, ◌++◌, length, set, sym, refl, ap, ◌∙◌, subst, ◌⊎◌, inl, inr, ⊎_elim, arith}
use mathlib.Core.Option.{Option, some, none, some-injective, some-ne-none}
use lib.ListN.{get_elem?}
use Rattle.atomic_table.proofs.Lists.{at_map, at_set, set_else}
use Rattle.lwp_types.specs.declared.call.Line.{Line}
use Rattle.event_gate.specs.Book.{AreBooked}
use Rattle.event_gate.specs.declared.gauge_rule.GaugeView.{GaugeView}
use Rattle.event_gate.specs.Gauge.{AreLate, FindsAreTrue, IsGauge, IsLate, after_find, announced_of, books_of}
use Rattle.event_gate.specs.Gauge.{opening, posts_in_all, room_of, starting, tickets_of, total}
use Rattle.event_gate.proofs.FindLaws.{part, two_parts}
use Rattle.event_gate.proofs.Lines.{at_new, bool_cases, same_or}

-- a seat has another view: it is beside each other taker as it must be, and each other seat beside it
pub late_set : (views : List GaugeView) (seat : ℕ) (w : GaugeView)
    → ((i : ℕ) (t : GaugeView) → get_elem? views i ≡ some t → t.book.takes ≡ true → IsLate t w)
    → ((j : ℕ) (u : GaugeView) → j ≢ seat → get_elem? views j ≡ some u → w.book.takes ≡ true → IsLate w u)
    → (w.book.takes ≡ true → IsLate w w) → AreLate views → AreLate (set views seat w)
late_set views seat w before beside own h i j t u at_i takes at_j = ⊎_elim
    (λ (x : (i ≡ seat) × (w ≡ t)).
    let may : w.book.takes ≡ true = ap (λ (y : GaugeView). y.book.takes) x.1 ∙ takes in
    ⊎_elim
    (λ (y : (j ≡ seat) × (w ≡ u)). subst (λ (z : GaugeView × GaugeView). IsLate z.0 z.1) (λ k. (x.1 k, y.1 k)) (own may))
    (λ (y : (j ≢ seat) × (get_elem? views j ≡ some u)). subst (λ (z : GaugeView). IsLate z u) x.1 (beside j u y.0 y.1 may))
    (at_set views seat j w u at_j))
    (λ (x : (i ≢ seat) × (get_elem? views i ≡ some t)). ⊎_elim
    (λ (y : (j ≡ seat) × (w ≡ u)). subst (IsLate t) y.1 (before i t x.1 takes))
    (λ (y : (j ≢ seat) × (get_elem? views j ≡ some u)). h i j t u x.1 takes y.1)
    (at_set views seat j w u at_j))
    (at_set views seat i w t at_i)

-- a step that leaves its seat's finds and stamp as they were, and the tickets that it may have
pub late_seat : (views : List GaugeView) (seat : ℕ) (v w : GaugeView) → get_elem? views seat ≡ some v → AreLate views
    → w.book.takes ≡ v.book.takes → w.finds ≡ v.finds → w.marks.stamp ≡ v.marks.stamp
    → ((i : ℕ) (t : GaugeView) → get_elem? views i ≡ some t → t.book.takes ≡ true → w.book.takes ≡ false → 0 < w.tickets → t.finds ≤ w.marks.stamp)
    → AreLate (set views seat w)
late_seat views seat v w at h takes finds stamp tickets = late_set views seat w
    (λ i t a may. let l = (h i seat t v a may at).0 in ((omega (arith, l, stamp)), tickets i t a may))
    (λ j u apart a may. let l = h seat j v u at (sym takes ∙ may) a in
    ((let k = l.0 in omega (arith, k, finds)), λ idly some_left. let k = l.1 idly some_left in omega (arith, k, finds)))
    (λ may. let l = (h seat seat v v at (sym takes ∙ may) at).0 in ((omega (arith, l, stamp, finds)), λ idly. absurd (true≢false (sym may ∙ idly))))
    h

-- and has no ticket where it had none
pub late_kept : (views : List GaugeView) (seat : ℕ) (v w : GaugeView) → get_elem? views seat ≡ some v → AreLate views
    → w.book.takes ≡ v.book.takes → w.finds ≡ v.finds → w.marks.stamp ≡ v.marks.stamp → (0 < w.tickets → 0 < v.tickets)
    → AreLate (set views seat w)
late_kept views seat v w at h takes finds stamp tickets = late_seat views seat v w at h takes finds stamp
    (λ i t a may idly some_left. let k = (h i seat t v a may at).1 (sym takes ∙ idly) (tickets some_left) in omega (arith, k, stamp))

-- the number of finds of the seat k
finds_in : Option GaugeView → ℕ
finds_in (some v) = v.finds
finds_in none = 0

pub finds_at : List GaugeView → ℕ → ℕ
finds_at views k = finds_in (get_elem? views k)

the_taker : (views : List GaugeView) (h : AreBooked (books_of views)) (i : ℕ) (t : GaugeView) → get_elem? views i ≡ some t → t.book.takes ≡ true → i ≡ h.taker
the_taker views h i t a may = ((h.fits i t.book (at_map (λ (v : GaugeView). v.book) views i t a)).1 may).0

finds_of_taker : (views : List GaugeView) (h : AreBooked (books_of views)) (i : ℕ) (t : GaugeView) → get_elem? views i ≡ some t
    → t.book.takes ≡ true → finds_at views h.taker ≡ t.finds
unfolding finds_at finds_in
finds_of_taker views h i t a may = ap finds_in (ap (get_elem? views) (sym (the_taker views h i t a may)) ∙ a)

-- a seat announces a post, stamped with the taker's finds
pub late_raised : (views : List GaugeView) (seat : ℕ) (v w : GaugeView) → get_elem? views seat ≡ some v → AreLate views → (b : AreBooked (books_of views))
    → w.book.takes ≡ v.book.takes → w.finds ≡ v.finds → w.marks.stamp ≡ finds_at views b.taker → AreLate (set views seat w)
late_raised views seat v w at h b takes finds stamp = late_set views seat w
    (λ i t a may. let e = finds_of_taker views b i t a may in ((omega (arith, e, stamp)), λ idly some_left. omega (arith, e, stamp)))
    (λ j u apart a may. let l = h seat j v u at (sym takes ∙ may) a in
    ((let k = l.0 in omega (arith, k, finds)), λ idly some_left. let k = l.1 idly some_left in omega (arith, k, finds)))
    (λ may. let e = finds_of_taker views b seat v at (sym takes ∙ may) in ((omega (arith, e, stamp, finds)), λ idly. absurd (true≢false (sym may ∙ idly))))
    h

-- the taker finds that it has all tickets
pub late_found : (views : List GaugeView) (seat : ℕ) (v : GaugeView) (n : ℕ) → get_elem? views seat ≡ some v → AreLate views
    → v.book.takes ≡ true → total tickets_of views ≡ v.tickets
    → AreLate (set views seat (after_find v n))
late_found views seat v n at h may all = late_set views seat (after_find v n)
    (λ i t a tt'. ((h i seat t v a tt' at).0, λ idly. absurd (true≢false (sym may ∙ idly))))
    (λ j u apart a tt'. (
      (let l = (h seat j v u at may a).0 in omega (arith, l)),
      λ idly some_left. let two = two_parts tickets_of views seat j v u (λ e. apart (sym e)) at a in absurd (omega (arith, two, all, some_left)),
    ))
    (λ tt'. ((let l = (h seat seat v v at may at).0 in omega (arith, l)), λ idly. absurd (true≢false (sym may ∙ idly))))
    h

-- one seat more, which doesn't take
pub late_more : (views : List GaugeView) (w : GaugeView) → w.book.takes ≡ false → AreLate views
    → ((i : ℕ) (t : GaugeView) → get_elem? views i ≡ some t → t.book.takes ≡ true → IsLate t w) → AreLate (views ++ w ∷ [])
late_more views w idle h beside i j t u at_i takes at_j = ⊎_elim
    (λ (x : get_elem? views i ≡ some t). ⊎_elim
    (λ (y : get_elem? views j ≡ some u). h i j t u x takes y)
    (λ (y : (j ≡ length views) × (w ≡ u)). subst (IsLate t) y.1 (beside i t x takes))
    (at_new views w u j at_j))
    (λ (x : (i ≡ length views) × (w ≡ t)). absurd (true≢false (sym (ap (λ (y : GaugeView). y.book.takes) x.1 ∙ takes) ∙ idle)))
    (at_new views w t i at_i)

-- a seat that was spent
pub late_spent : (views : List GaugeView) (seat : ℕ) → AreLate views → AreLate (set views seat opening)
late_spent views seat h = late_set views seat opening (λ i t a may. ((omega arith), λ idly some_left. absurd (omega (arith, some_left))))
    (λ j u apart a may. absurd (true≢false (sym may))) (λ may. absurd (true≢false (sym may))) h

pub late_begins : AreLate (starting ∷ [])
late_begins zero zero t u a may b = subst (λ (z : GaugeView × GaugeView). IsLate z.0 z.1)
    (λ k. (some-injective starting t a k, some-injective starting u b k)) ((omega arith), λ idly. absurd (true≢false idly))
late_begins zero (suc j) t u a may b = absurd (some-ne-none u (sym b))
late_begins (suc i) j t u a may b = absurd (some-ne-none t (sym a))

-- ---- what a find tells

here : (views : List GaugeView) (i : ℕ) (v w : GaugeView) → get_elem? views i ≡ some v → get_elem? (set views i w) i ≡ some w
here [] i v w e = absurd (some-ne-none v (sym e))
here (x ∷ xs) zero v w e = refl
here (x ∷ xs) (suc i) v w e = here xs i v w e

-- all tickets are those of one seat, where no other has one
alone : (views : List GaugeView) (i : ℕ) (v : GaugeView) → get_elem? views i ≡ some v
    → ((j : ℕ) (u : GaugeView) → j ≢ i → get_elem? views j ≡ some u → u.tickets ≡ 0) → total tickets_of views ≡ v.tickets
alone [] i v at none_else = absurd (some-ne-none v (sym at))
alone (x ∷ xs) zero v at none_else =
    let rest = nothing xs (λ j u a. none_else (suc j) u (λ e. suc_not_zero j e) a) in
    let same : x.tickets ≡ v.tickets = ap tickets_of (some-injective x v at) in
    omega (arith, rest, same)
  where
    suc_not_zero : (j : ℕ) → suc j ≢ 0
    suc_not_zero j e = omega (arith, e)

    nothing : (ys : List GaugeView) → ((j : ℕ) (u : GaugeView) → get_elem? ys j ≡ some u → u.tickets ≡ 0) → total tickets_of ys ≡ 0
    nothing [] f = refl
    nothing (y ∷ ys) f = let a = f 0 y refl in let b = nothing ys (λ j u e. f (suc j) u e) in omega (arith, a, b)
alone (x ∷ xs) (suc i) v at none_else =
    let mine : x.tickets ≡ 0 = none_else 0 x (λ e. omega (arith, e)) refl in
    let rest = alone xs i v at (λ j u apart a. none_else (suc j) u (λ e. apart (omega (arith, e))) a) in
    omega (arith, mine, rest)

-- a step that gives a taker one find more
none_else : (views : List GaugeView) (i j : ℕ) (v w u : GaugeView) → AreLate views → AreLate (set views i w) → get_elem? views i ≡ some v
    → v.book.takes ≡ true → w.book.takes ≡ true → v.finds < w.finds
    → get_elem? views j ≡ some u → u.book.takes ≡ false → u.tickets ≡ 0
none_else views i j v w u h h' at may may' more a idly =
    let apart : j
    ≢ i = λ e. true≢false (sym may ∙ ap (λ (y : GaugeView). y.book.takes) (some-injective v u (sym at ∙ ap (get_elem? views) (sym e) ∙ a)) ∙ idly) in
    let was = (h i j v u at may a).0 in
    let late = (h' i j w u (here views i v w at) may' (set_else views i j w apart ∙ a)).1 idly in
    ⊎_elim (λ (e : u.tickets ≡ 0). e) (λ (n : u.tickets ≢ 0). let l = late (omega (arith, n)) in absurd (omega (arith, l, was, more))) (same_or u.tickets 0)

pub finds_are_true : FindsAreTrue
finds_are_true = record {
  others = λ words after homes after_homes views i j v w u h h' at may may' more a idly. none_else views i j v w u h.late h'.late at may may' more a idly;
  announced = λ words after homes after_homes views i v w h h' at may may' more.
      let mine : i ≡ h.books.taker = the_taker views h.books i v at may in
      h.each
      ∙ alone views i v at (λ j u apart a.
      none_else views i j v w u h.late h'.late at may may' more a (idle u (λ takes. apart (the_taker views h.books j u a takes ∙ sym mine))));
}
  where
    idle : (u : GaugeView) → (u.book.takes ≡ true → ⊥) → u.book.takes ≡ false
    idle u f = ⊎_elim (λ (e : u.book.takes ≡ true). absurd (f e)) (λ (e : u.book.takes ≡ false). e) (bool_cases u.book.takes)
