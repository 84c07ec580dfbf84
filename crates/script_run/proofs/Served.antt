-- What the inlets have given once all threads have been joined.
use Rattle.event_gate.proofs.Lines.{bool_cases, cond_same, or_other, same_or}
use Rattle.event_gate.specs.Inlet.{Intake}
use Rattle.event_gate.specs.Port.{IsNumbered, is_noted, is_told, of, lines_in_pass}
use Rattle.event_gate.specs.Shelves.{event_of}
use Rattle.event_gate.specs.Texts.{lines_from}
use Rattle.script_run.specs.Inlets.{TakesFirst, TakesNone}
use Rattle.script_run.specs.Served.{FellShort, HasLines, IsServed, clients_of, texts_of}
use Rattle.script_run.specs.Ties.{ClosedAreServed, IsKnown, all_texts, any_intake, events_of, intakes}
use Rattle.script_run.specs.declared.inlet.AnyInlet.{AnyInlet}
use Rattle.lwp_types.specs.declared.call.Line.{Line}
use Rattle.std.proofs.Common.{All, Bool, List, [], ap, arith, cond, drop, eq-eqb, eqb, false, length, length-take, ne_eqb, refl, slice_index_or}
use Rattle.std.proofs.Common.{subst, suc, sym, take, true, true≢false, zero, ℕ, ◌+◌, ◌++◌, ◌<◌, ◌∙◌, ◌∷◌, ◌≡◌, ◌≢◌, ◌≤◌, ⊎_elim, ◌||◌}
use Rattle.std.proofs.Math.Seq.{drop-length}
use Rattle.std.proofs.lemmas.List.{get_or-map, length-map, take-append-drop}
use Rattle.std.proofs.lemmas.List.Elements.{All-filter, All-map, filter_passes}
use Rattle.std.proofs.lemmas.Map.Views.{any-filter_same}
use Rattle.std.proofs.lemmas.List.FromFn.{get_or-range_with_len, length-range_with_len}
use Rattle.std.specs.List.{range_with_len}

-- ---- clients of an event

eq_of : (a b : ℕ) → eqb a b ≡ true → a ≡ b
eq_of a b e = ⊎_elim (λ (s : a ≡ b). s) (λ (n : a ≢ b). absurd (true≢false (sym e ∙ ne_eqb a b n))) (same_or a b)

pub clients_are : (events : List ℕ) (e : ℕ) → All (λ c. (c < length events) × (event_of events c ≡ e)) (clients_of events e)
clients_are events e =
    let low : All (λ c. c < length events) (range_with_len 0 (length events)) = λ k d lt.
    let n = length-range_with_len 0 (length events) in
    let g : slice_index_or (range_with_len 0 (length events)) k d ≡ 0 + k = get_or-range_with_len 0 (length events) k d (omega (arith, n, lt)) in
    omega (arith, n, g, lt) in
    let p : ℕ → Bool = λ c. eqb (event_of events c) e in
    let inside = All-filter p (λ c. c < length events) (range_with_len 0 (length events)) low in
    let pass = filter_passes p (range_with_len 0 (length events)) in
    λ k d lt. (inside k d lt, eq_of (event_of events (slice_index_or (clients_of events e) k d)) e (pass k d lt))

noted_range : (c a n : ℕ) → a ≤ c → c < a + n → is_noted c (range_with_len a n) ≡ true
noted_range c a zero low high = absurd (omega (arith, low, high))
noted_range c a (suc n) low high = ⊎_elim
    (λ (same : a ≡ c). ap (λ b. b || is_noted c (range_with_len (a + 1) n)) (eq-eqb a c same))
    (λ (other : a ≢ c). ap (λ b. b || is_noted c (range_with_len (a + 1) n)) (ne_eqb a c other)
    ∙ noted_range c (a + 1) n (omega (arith, low, other)) (omega (arith, high)))
    (same_or a c)

pub is_client : (events : List ℕ) (e c : ℕ) → c < length events → event_of events c ≡ e → is_noted c (clients_of events e) ≡ true
is_client events e c low is =
    any-filter_same (λ d. eqb d c) (λ d. eqb (event_of events d) e) true
    (λ k same. eq-eqb (event_of events k) e (ap (event_of events) (eq_of k c same) ∙ is)) (range_with_len 0 (length events))
    ∙ noted_range c 0 (length events) (omega arith) (omega (arith, low))

pub at_noted : (P : ℕ → Type 0) (c : ℕ) (noted : List ℕ) → All P noted → is_noted c noted ≡ true → P c
at_noted P c [] h e = absurd (true≢false (sym e))
at_noted P c (n ∷ ns) h e = ⊎_elim
    (λ (same : n ≡ c). subst P same (h 0 c (omega arith)))
    (λ (other : n ≢ c). at_noted P c ns (λ k d lt. h (suc k) d (omega (arith, lt))) (or_other n c (is_noted c ns) other e))
    (same_or n c)

-- ---- lines

of_first_some : (c : ℕ) (x : Line) (ls : List Line) → x.client ≡ c → of c (x ∷ ls) ≡ x ∷ of c ls
of_first_some c x ls e = cond_same x.client c (x ∷ of c ls) (of c ls) e

-- a line is among those of its client
has_line : (ls : List Line) (k : ℕ) (d : Line) → k < length ls → of (slice_index_or ls k d).client ls ≡ [] → ⊥
has_line [] k d lt e = omega (arith, lt)
has_line (x ∷ ls) zero d lt e = cc (sym (of_first_some x.client x ls refl) ∙ e)
has_line (x ∷ ls) (suc k) d lt e =
    let c : ℕ = (slice_index_or ls k d).client in
    has_line ls k d (omega (arith, lt)) (rest_of_none (eqb x.client c) x (of c ls) e)
  where
    rest_of_none : (b : Bool) (x : Line) (xs : List Line) → cond b (x ∷ xs) xs ≡ [] → xs ≡ []
    rest_of_none true x xs e = absurd (cc e)
    rest_of_none false x xs e = e

numbered_lines : (c n : ℕ) (ts : List (List ℕ)) → n + length ts ≤ 4294967295 → IsNumbered n (lines_from c n ts)
numbered_lines c n [] few = tt
numbered_lines c n (t ∷ ts) few = (refl, omega (arith, few), numbered_lines c (suc n) ts (omega (arith, few)))

numbered_take : (n k : ℕ) (ls : List Line) → IsNumbered n ls → IsNumbered n (take k ls)
numbered_take n zero ls h = tt
numbered_take n (suc k) [] h = tt
numbered_take n (suc k) (l ∷ ls) h = (h.0, h.1, numbered_take (suc n) k ls h.2)

-- ---- one inlet

pub has_lines : (events : List ℕ) (texts : List (List (List ℕ))) (all : Bool) (t : Intake) (c : ℕ) → TakesFirst t
    → is_noted c t.noted ≡ true → IsKnown texts all c t → HasLines c (texts_of texts c) all t
has_lines events texts all t c first noted h =
    let mine : List Line = of c t.taken in
    let whole : List Line = lines_in_pass c t.known in
    let rest : List Line = drop (length mine) whole in
    record {
      count = h.count;
      posted = h.posted;
      whole = h.whole;
      sole = h.sole;
      rest = rest;
      lines = ap (λ xs. xs ++ rest) (sym (first c h.told)) ∙ take-append-drop (length mine) whole ∙ h.posted;
      done = λ all_taken. ap (drop (length mine)) (at_noted (λ d. lines_in_pass d t.known ≡ of d t.taken) c t.noted all_taken noted) ∙ drop-length mine;
    }

pub served_one : (events : List ℕ) (texts : List (List (List ℕ))) (all : Bool) (t : Intake) → TakesFirst t → TakesNone t
    → t.noted ≡ clients_of events t.event
    → ((c : ℕ) → length (texts_of texts c) ≤ 20000)
    → ((c : ℕ) → c < length events → event_of events c ≡ t.event → IsKnown texts all c t)
    → IsServed events texts all t
served_one events texts all t first none clients few known =
    let who : All (λ c. (c < length events) × (event_of events c ≡ t.event)) t.noted =
    subst (All (λ c. (c < length events) × (event_of events c ≡ t.event))) (sym clients) (clients_are events t.event) in
    let is_told : All (λ c. is_told c t.known ≡ true) t.noted = λ k d lt. let w = who k d lt in (known (slice_index_or t.noted k d) w.0 w.1).told in
    record {
      told = is_told;
      mine = λ k d lt.
          let c : ℕ = (slice_index_or t.taken k d).client in
          at_noted (λ c. (c < length events) × (event_of events c ≡ t.event)) c t.noted who
          (⊎_elim (λ (yes' : is_noted c t.noted ≡ true). yes')
          (λ (not : is_noted c t.noted ≡ false). absurd (has_line t.taken k d lt (none c not))) (bool_cases (is_noted c t.noted)));
      lines = λ c low is. has_lines events texts all t c first (ap (is_noted c) clients ∙ is_client events t.event c low is) (known c low is);
      numbered = λ c. ⊎_elim
          (λ (yes' : is_noted c t.noted ≡ true).
          let w = at_noted (λ c. (c < length events) × (event_of events c ≡ t.event)) c t.noted who yes' in
          let h = known c w.0 w.1 in
          let ts : List (List ℕ) = take h.count (texts_of texts c) in
          let size : length ts ≤ 4294967295 = omega (arith, length-take h.count (texts_of texts c), few c) in
          subst (IsNumbered 0) (ap (take (length (of c t.taken))) (sym h.posted) ∙ first c h.told)
          (numbered_take 0 (length (of c t.taken)) (lines_from c 0 ts) (numbered_lines c 0 ts (omega (arith, size)))))
          (λ (not : is_noted c t.noted ≡ false). subst (IsNumbered 0) (sym (none c not)) tt)
          (bool_cases (is_noted c t.noted));
    }

-- ---- all inlets

pub few_texts : (texts : List (List (List ℕ))) (c : ℕ) → All (λ ts. length ts ≤ 20000) texts → length (texts_of texts c) ≤ 20000
few_texts [] c few = omega arith
few_texts (ts ∷ texts) zero few = few 0 [] (omega arith)
few_texts (ts ∷ texts) (suc c) few = few_texts texts c (λ k d lt. few (suc k) d (omega (arith, lt)))

pub closed_are_served : ClosedAreServed
closed_are_served o tied closed = record {
  are_for = tied.are_for;
  served = All-map (IsServed (events_of o) (all_texts o) o.all) any_intake o.inlets.items (λ k d lt.
      let inlet : AnyInlet = slice_index_or o.inlets.items k d in
      let size = length-map o.inlets.items any_intake in
      let at : slice_index_or (intakes o) k (any_intake d) ≡ any_intake inlet = get_or-map any_intake o.inlets.items k d (any_intake d) lt in
      served_one (events_of o) (all_texts o) o.all (any_intake inlet) inlet.first inlet.none
      (subst (λ (t : Intake). t.noted ≡ clients_of (events_of o) t.event) at (tied.are_for.clients k (any_intake d) (omega (arith, size, lt))))
      (λ c. few_texts (all_texts o) c tied.few)
      (λ c low is. subst (IsKnown (all_texts o) o.all c) at
      (tied.back c (omega (arith, ap length closed)) low k (any_intake d) (omega (arith, size, lt)) (ap (λ (t : Intake). t.event) at ∙ sym is))));
  short = λ not. subst (λ (n : ℕ). FellShort (events_of o) (all_texts o) n (intakes o)) (ap length closed) (tied.short not);
}
