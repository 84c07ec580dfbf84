-- What the taking in of one more pass does to the ties.
use Rattle.event_gate.proofs.Lines.{same_or}
use Rattle.event_gate.proofs.Texts.{length-lines_from}
use Rattle.event_gate.specs.Inlet.{EachInlet, Intake}
use Rattle.event_gate.specs.Port.{is_noted, is_told, lines_in_pass}
use Rattle.event_gate.specs.Shelves.{event_of}
use Rattle.script_run.proofs.Served.{is_client}
use Rattle.script_run.proofs.Ties.{IsSame, for_kept, known_again, out_kept, short_again}
use Rattle.script_run.specs.Ends.{AnyPosting, IsEnd, IsTakenIn, pass_posting}
use Rattle.script_run.specs.Inlets.{is_lane}
use Rattle.script_run.specs.Served.{FellShort, Hears, clients_of, texts_of}
use Rattle.script_run.specs.Ties.{AreTied, IsKnown, IsOut, IsWork, any_intake}
use Rattle.script_run.specs.declared.inlet.AnyInlet.{AnyInlet}
use Rattle.script_run.specs.declared.outside.Client.{Client}
use Rattle.script_run.specs.declared.poster.AnyEnd.{AnyEnd}
use Rattle.std.proofs.Common.{Bool, List, [], ap, arith, eqb, false, get_or-set_other, get_or-set_same, inl, inr, length}
use Rattle.std.proofs.Common.{length-append, length-set, length-take-le, map, ne_eqb, refl, set, slice_index_or, subst, sym}
use Rattle.std.proofs.Common.{take, true, true≢false, ℕ, ◌&&◌, ◌+◌, ◌++◌, ◌<◌, ◌∙◌, ◌∷◌, ◌≡◌, ◌≢◌, ◌⊎◌, ⊎_elim}
use Rattle.std.proofs.Math.Seq.{get_or-append_seam}
use Rattle.std.proofs.lemmas.Bool.{cases_order}
use Rattle.std.proofs.lemmas.List.{get_or-map, get_or_append_left, length-map}

-- both of two flags
first_of_both : (a b : Bool) → (a && b) ≡ true → a ≡ true
first_of_both true b e = refl
first_of_both false b e = e

second_of_both : (a b : Bool) → (a && b) ≡ true → b ≡ true
second_of_both true b e = e
second_of_both false b e = absurd (true≢false (sym e))

one_not : (a b : Bool) → (a && b) ≡ false → (a ≡ false) ⊎ (b ≡ false)
one_not true b e = inr e
one_not false b e = inl refl

-- ---- one inlet changes

-- so it is of each inlet where one alone was changed
pub each_set : (R : Intake → Intake → Type 0) (before : List Intake) (k : ℕ) (u : Intake) → ((t : Intake) → R t t) → k < length before
    → ((d : Intake) → R (slice_index_or before k d) u) → EachInlet R before (set before k u)
each_set R before k u same inside changed = (
  length-set before k u,
  λ j d lt. ⊎_elim
      (λ (e : j ≡ k).
      subst (λ (i : ℕ). R (slice_index_or before i d) (slice_index_or (set before k u) i d)) (sym e)
      (subst (R (slice_index_or before k d)) (sym (get_or-set_same before k u d inside)) (changed d)))
      (λ (n : j ≢ k). subst (R (slice_index_or before j d)) (sym (get_or-set_other before k j u d n)) (same (slice_index_or before j d)))
      (same_or j k),
)

pub taken_in_same : (t u : Intake) (p : AnyPosting) → IsTakenIn t p u → IsSame t u
taken_in_same t u p h = record {
  place = ap (λ (v : Intake). v.place) h.same;
  event = ap (λ (v : Intake). v.event) h.same;
  noted = ap (λ (v : Intake). v.noted) h.same;
}

same_here : (t : Intake) → IsSame t t
same_here t = record { place = refl; event = refl; noted = refl }

pub hears : (before : List Intake) (k : ℕ) (t u : Intake) (p : AnyPosting) → k < length before
    → ((d : Intake) → slice_index_or before k d ≡ t) → IsTakenIn t p u → EachInlet Hears before (set before k u)
hears before k t u p inside at h = each_set Hears before k u (λ v. refl) inside (λ d. subst (λ v. Hears v u) (sym (at d)) h.same)

-- ---- the client that is back

-- of the client that is back
known_mine : (texts : List (List (List ℕ))) (all : Bool) (c : ℕ) (e : AnyEnd) (t u : Intake) → IsEnd t.place c (texts_of texts c) e
    → IsTakenIn t (pass_posting e.pass) u → IsKnown texts (all && e.all) c u
known_mine texts all c e t u end h = record {
  told = subst (λ (d : ℕ). is_told d u.known ≡ true) end.client_is h.told;
  count = end.count;
  posted = subst (λ (d : ℕ). lines_in_pass d u.known ≡ (pass_posting e.pass).posted) end.client_is h.posted ∙ end.posted;
  whole = λ both. end.whole (second_of_both all e.all both);
  sole = λ lane. end.whole (end.sure (sym (ap is_lane (ap (λ (v : Intake). v.place) h.same)) ∙ lane));
}

-- fewer say that they have posted all
known_less : (texts : List (List (List ℕ))) (all more : Bool) (c : ℕ) (t : Intake) → IsKnown texts all c t → IsKnown texts (all && more) c t
known_less texts all more c t h = record {
  told = h.told;
  count = h.count;
  posted = h.posted;
  whole = λ both. h.whole (first_of_both all more both);
  sole = h.sole;
}

-- of the others
known_still : (texts : List (List (List ℕ))) (all more : Bool) (c : ℕ) (t u : Intake) (p : AnyPosting) → is_noted c t.noted ≡ true
    → eqb p.client c ≡ false → IsTakenIn t p u → IsKnown texts all c t → IsKnown texts (all && more) c u
known_still texts all more c t u p noted other h k =
    let r = h.others c noted other in
    known_less texts all more c u (known_again texts all c t u (ap (λ (v : Intake). v.place) h.same) r.0 r.1 k)

-- no other inlet has its event
one_inlet : (before : List Intake) (i j : ℕ) (d : Intake)
    → ((i j : ℕ) (d : Intake) → i < j → j < length before → (slice_index_or before i d).event < (slice_index_or before j d).event)
    → i < length before → j < length before → (slice_index_or before i d).event ≡ (slice_index_or before j d).event → i ≡ j
one_inlet before i j d rise low high e = ⊎_elim
    (λ (s : i ≡ j). s)
    (λ o. ⊎_elim
    (λ (l : i < j). let r = rise i j d l high in absurd (omega (arith, r, e)))
    (λ (l : j < i). let r = rise j i d l low in absurd (omega (arith, r, e)))
    o)
    (cases_order i j)

-- the client that is back has not posted all
short_mine : (events : List ℕ) (texts : List (List (List ℕ))) (c k : ℕ) (before : List Intake) (t u : Intake) (e : AnyEnd)
    → EachInlet IsSame before (set before k u)
    → ((i j : ℕ) (d : Intake) → i < j → j < length before → (slice_index_or before i d).event < (slice_index_or before j d).event)
    → k < length before → ((d : Intake) → (slice_index_or before k d).event ≡ event_of events c) → c < length events
    → IsEnd t.place c (texts_of texts c) e → IsTakenIn t (pass_posting e.pass) u → e.all ≡ false → FellShort events texts c (set before k u)
unfolding known_mine
short_mine events texts c k before t u e same rise inside event low end taken not = record {
  client = c;
  high = omega arith;
  low = low;
  short = λ j d there is.
      let inside' : j < length before = (let s = same.0 in omega (arith, s, there)) in
      ⊎_elim
      (λ (here : j ≡ k).
      let now : slice_index_or (set before k u) j d ≡ u = ap (λ (i : ℕ). slice_index_or (set before k u) i d) here ∙ get_or-set_same before k u d inside in
      let ts : List (List ℕ) = take end.count (texts_of texts c) in
      let size : length (lines_in_pass c u.known) ≡ length ts = ap length (known_mine texts true c e t u end taken).posted ∙ length-lines_from c 0 ts in
      let few = end.short not in
      let count : length ts ≡ end.count = length-take-le end.count (texts_of texts c) (omega (arith, few)) in
      subst (λ (v : Intake). length (lines_in_pass c v.known) < length (texts_of texts c)) (sym now) (omega (arith, size, few, count)))
      (λ (away : j ≢ k). absurd (away (one_inlet before j k d rise inside' inside (sym (same.1 j d inside').event ∙ is ∙ sym (event d)))))
      (same_or j k);
}

-- one client more is back
pub tied_back : (events : List ℕ) (texts : List (List (List ℕ))) (all : Bool) (out : List Client) (before : List Intake) (client : Client)
    (t u : Intake) (e : AnyEnd)
    → AreTied events texts all (out ++ client ∷ []) before
    → ((d : Intake) → slice_index_or before client.inlet d ≡ t)
    → IsEnd t.place (length out) (texts_of texts (length out)) e
    → IsTakenIn t (pass_posting e.pass) u
    → AreTied events texts (all && e.all) out (set before client.inlet u)
tied_back events texts all out before client t u e h at end taken =
    let c : ℕ = length out in
    let k : ℕ = client.inlet in
    let after : List Intake = set before k u in
    let size : length (out ++ client ∷ []) ≡ c + 1 = length-append out (client ∷ []) in
    let few = h.out_of in
    let last : slice_index_or (out ++ client ∷ []) c client ≡ client = get_or-append_seam out client [] client in
    let mine : IsOut events texts before c client = subst (IsOut events texts before c) last (h.at_work c client (omega (arith, size))) in
    let same : EachInlet IsSame before after =
    each_set IsSame before k u same_here mine.inside (λ d. subst (λ v. IsSame v u) (sym (at d)) (taken_in_same t u (pass_posting e.pass) taken)) in
    record {
      are_for = for_kept events before after same h.are_for;
      small = h.small;
      as_many = h.as_many;
      few = h.few;
      out_of = omega (arith, size, few);
      at_work = λ b d lt. out_kept events texts before after b (slice_index_or out b d) same
          (subst (IsOut events texts before b) (get_or_append_left out (client ∷ []) d b lt) (h.at_work b d (omega (arith, size, lt))));
      back = λ b high low j d inside is.
          let inside' : j < length before = (let s = same.0 in omega (arith, s, inside)) in
          let is' : (slice_index_or before j d).event ≡ event_of events b = sym (same.1 j d inside').event ∙ is in
          ⊎_elim
          (λ (here : j ≡ k).
          let now : slice_index_or after j d ≡ u = ap (λ (i : ℕ). slice_index_or after i d) here ∙ get_or-set_same before k u d mine.inside in
          let was : slice_index_or before j d ≡ t = ap (λ (i : ℕ). slice_index_or before i d) here ∙ at d in
          subst (IsKnown texts (all && e.all) b) (sym now) (⊎_elim
          (λ (it : c ≡ b). subst (λ (i : ℕ). IsKnown texts (all && e.all) i u) it (known_mine texts all c e t u end taken))
          (λ (other : c ≢ b).
          let event : t.event ≡ event_of events b = ap (λ (v : Intake). v.event) (sym was) ∙ is' in
          let noted : is_noted b t.noted
          ≡ true = ap (is_noted b) (subst (λ (v : Intake). v.noted ≡ clients_of events v.event) was (h.are_for.clients j d inside'))
          ∙ is_client events t.event b low (sym event) in
          known_still texts all e.all b t u (pass_posting e.pass) noted (ne_eqb (pass_posting e.pass).client b (λ q. other (sym end.client_is ∙ q))) taken
          (subst (IsKnown texts all b) was (h.back b (omega (arith, size, high, other)) low j d inside' is')))
          (same_or c b)))
          (λ (away : j ≢ k).
          let now : slice_index_or after j d ≡ slice_index_or before j d = get_or-set_other before k j u d away in
          subst (IsKnown texts (all && e.all) b) (sym now) (⊎_elim
          (λ (it : c ≡ b).
          absurd (away (one_inlet before j k d h.are_for.rise.1 inside' mine.inside (is' ∙ ap (event_of events) (sym it) ∙ sym (mine.event d)))))
          (λ (other : c ≢ b). known_less texts all e.all b (slice_index_or before j d) (h.back b (omega (arith, size, high, other)) low j d inside' is'))
          (same_or c b)))
          (same_or j k);
      short = λ not. ⊎_elim
          (λ (others : all ≡ false).
          short_again events texts (length (out ++ client ∷ [])) c before after (omega (arith, size)) same
          (λ b high low j d inside' is'. ⊎_elim
          (λ (here : j ≡ k).
          let now : slice_index_or after j d ≡ u = ap (λ (i : ℕ). slice_index_or after i d) here ∙ get_or-set_same before k u d mine.inside in
          let was : slice_index_or before j d ≡ t = ap (λ (i : ℕ). slice_index_or before i d) here ∙ at d in
          let event : t.event ≡ event_of events b = ap (λ (v : Intake). v.event) (sym was) ∙ is' in
          let noted : is_noted b t.noted
          ≡ true = ap (is_noted b) (subst (λ (v : Intake). v.noted ≡ clients_of events v.event) was (h.are_for.clients j d inside'))
          ∙ is_client events t.event b low (sym event) in
          let client_is = end.client_is in
          ap (λ (v : Intake). lines_in_pass b v.known) now
          ∙ (taken.others b noted (ne_eqb (pass_posting e.pass).client b (λ q. omega (arith, size, high, client_is, q)))).1
          ∙ sym (ap (λ (v : Intake). lines_in_pass b v.known) was))
          (λ (away : j ≢ k). ap (λ (v : Intake). lines_in_pass b v.known) (get_or-set_other before k j u d away))
          (same_or j k))
          (h.short others))
          (λ (mine' : e.all ≡ false).
          short_mine events texts c k before t u e same h.are_for.rise.1 mine.inside mine.event (omega (arith, size, few)) end taken mine')
          (one_not all e.all not);
    }

-- what the next thread brings back fits its inlet
pub end_fits : (events : List ℕ) (texts : List (List (List ℕ))) (all : Bool) (out : List Client) (before : List Intake) (client : Client)
    (t : Intake) (e : AnyEnd)
    → AreTied events texts all (out ++ client ∷ []) before
    → ((d : Intake) → slice_index_or before client.inlet d ≡ t)
    → ((place : List ℕ) (c : ℕ) (ts : List (List ℕ)) → IsWork place c ts client.work → IsEnd place c ts e)
    → IsEnd t.place (length out) (texts_of texts (length out)) e × (is_noted (pass_posting e.pass).client t.noted ≡ true)
end_fits events texts all out before client t e h at brings =
    let c : ℕ = length out in
    let size : length (out ++ client ∷ []) ≡ c + 1 = length-append out (client ∷ []) in
    let few = h.out_of in
    let mine : IsOut events texts before c client =
    subst (IsOut events texts before c) (get_or-append_seam out client [] client) (h.at_work c client (omega (arith, size))) in
    let work : IsWork t.place c (texts_of texts c) client.work = subst (λ (v : Intake). IsWork v.place c (texts_of texts c) client.work) (at t) (mine.work t) in
    let end = brings t.place c (texts_of texts c) work in
    let clients : t.noted
    ≡ clients_of events t.event = subst (λ (v : Intake). v.noted ≡ clients_of events v.event) (at t) (h.are_for.clients client.inlet t mine.inside) in
    let event : t.event ≡ event_of events c = subst (λ (v : Intake). v.event ≡ event_of events c) (at t) (mine.event t) in
    (end, ap (is_noted (pass_posting e.pass).client) clients ∙ is_client events t.event (pass_posting e.pass).client (let s = end.client_is in omega (arith, size, few, s)) (ap (event_of events) end.client_is ∙ sym event))

pub inside_of : (events : List ℕ) (texts : List (List (List ℕ))) (all : Bool) (out : List Client) (before : List Intake) (client : Client)
    → AreTied events texts all (out ++ client ∷ []) before → client.inlet < length before
inside_of events texts all out before client h =
    let size : length (out ++ client ∷ []) ≡ length out + 1 = length-append out (client ∷ []) in
    (subst (IsOut events texts before (length out)) (get_or-append_seam out client [] client) (h.at_work (length out) client (omega (arith, size)))).inside

pub hears_nothing : (inlets : List Intake) → EachInlet Hears inlets inlets
hears_nothing inlets = (refl, λ k d lt. refl)

pub hears_on : (first second third : List Intake) → EachInlet Hears first second → EachInlet Hears second third → EachInlet Hears first third
hears_on first second third a b = (
  b.0 ∙ a.0,
  λ k d lt.
      let x = a.1 k d lt in
      let u : Intake = slice_index_or third k d in
      b.1 k d (let s = a.0 in omega (arith, s, lt)) ∙ ap (λ (t : Intake). record t { known = u.known }) x,
)

-- the inlet that was looked up, as a runner's end
pub at_place : (xs : List AnyInlet) (k : ℕ) (x : AnyInlet) → k < length (map any_intake xs) → x ≡ slice_index_or xs k x → (d : Intake)
    → slice_index_or (map any_intake xs) k d ≡ any_intake x
at_place xs k x lt e d = let size = length-map xs any_intake in get_or-map any_intake xs k x d (omega (arith, size, lt)) ∙ ap any_intake (sym e)
