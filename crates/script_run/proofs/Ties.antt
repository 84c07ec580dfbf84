-- What keeps the inlets tied to the threads that post to them.
use Rattle.event_gate.specs.Inlet.{EachInlet, Intake}
use Rattle.event_gate.specs.Port.{is_told, lines_in_pass}
use Rattle.script_run.specs.Inlets.{is_lane}
use Rattle.script_run.specs.Served.{AreFor, FellShort, Gave, clients_of, texts_of}
use Rattle.event_gate.specs.Shelves.{event_of}
use Rattle.script_run.specs.Ties.{DrawsKeepTies, IsKnown, IsOut, IsWork}
use Rattle.script_run.specs.declared.outside.Client.{Client}
use Rattle.std.proofs.Common.{Bool, List, ap, arith, eqb, length, slice_index_or, subst, sym, ℕ, ◌<◌, ◌∙◌, ◌≡◌, ◌≤◌}

-- the same inlet, event and clients
pub record IsSame (t u : Intake) : Type 0 where
  pub place : u.place ≡ t.place
  pub event : u.event ≡ t.event
  pub noted : u.noted ≡ t.noted

pub for_kept : (events : List ℕ) (before after : List Intake) → EachInlet IsSame before after → AreFor events before → AreFor events after
for_kept events before after same h =
    let size : length after ≡ length before = same.0 in
    let event : (k : ℕ) (d : Intake) → k < length before
    → (slice_index_or after k d).event ≡ (slice_index_or before k d).event = λ k d lt. (same.1 k d lt).event in
    record {
      rise = (
        (λ k d lt. subst (λ (e : ℕ). e ≤ 31) (sym (event k d (omega (arith, size, lt)))) (h.rise.0 k d (omega (arith, size, lt)))),
        (λ i j d lt high.
            let a = event i d (omega (arith, size, lt, high)) in
            let b = event j d (omega (arith, size, high)) in
            let r = h.rise.1 i j d lt (omega (arith, size, high)) in
            omega (arith, a, b, r)),
      );
      clients = λ k d lt.
          let low : k < length before = omega (arith, size, lt) in
          (same.1 k d low).noted ∙ h.clients k d low ∙ ap (clients_of events) (sym (event k d low));
      found = λ k d lt.
          let f = h.found k d lt in
          (f.0, omega (arith, size, f.1), λ e. event f.0 e f.1 ∙ f.2 e);
      lanes = λ k d lt.
          let low : k < length before = omega (arith, size, lt) in
          ap is_lane (same.1 k d low).place ∙ h.lanes k d low ∙ ap (λ (cs : List ℕ). eqb (length cs) 1) (sym (same.1 k d low).noted);
    }

pub known_again : (texts : List (List (List ℕ))) (all : Bool) (c : ℕ) (t u : Intake) → u.place ≡ t.place
    → is_told c u.known ≡ is_told c t.known → lines_in_pass c u.known ≡ lines_in_pass c t.known → IsKnown texts all c t → IsKnown texts all c u
known_again texts all c t u place told lines h = record {
  told = told ∙ h.told;
  count = h.count;
  posted = lines ∙ h.posted;
  whole = h.whole;
  sole = λ lane. h.sole (sym (ap is_lane place) ∙ lane);
}

-- a client that fell short still does, where as much is known of what it has posted
pub short_again : (events : List ℕ) (texts : List (List (List ℕ))) (n m : ℕ) (before after : List Intake) → m ≤ n → EachInlet IsSame before after
    → ((c : ℕ) → n ≤ c → c < length events → (k : ℕ) (d : Intake) → k < length before
    → (slice_index_or before k d).event ≡ event_of events c
    → lines_in_pass c (slice_index_or after k d).known ≡ lines_in_pass c (slice_index_or before k d).known)
    → FellShort events texts n before → FellShort events texts m after
short_again events texts n m before after less same told h = record {
  client = h.client;
  high = (let high = h.high in omega (arith, high, less));
  low = h.low;
  short = λ k d inside is.
      let size = same.0 in
      let low : k < length before = omega (arith, size, inside) in
      let is' : (slice_index_or before k d).event ≡ event_of events h.client = sym (same.1 k d low).event ∙ is in
      let l = h.short k d low is' in
      let e = ap length (told h.client h.high h.low k d low is') in
      omega (arith, l, e);
}

pub out_kept : (events : List ℕ) (texts : List (List (List ℕ))) (before after : List Intake) (c : ℕ) (out : Client)
    → EachInlet IsSame before after → IsOut events texts before c out → IsOut events texts after c out
out_kept events texts before after c out same h = record {
  inside = (let s = same.0 in let i = h.inside in omega (arith, s, i));
  event = λ d. (same.1 out.inlet d h.inside).event ∙ h.event d;
  work = λ d. subst (λ (place : List ℕ). IsWork place c (texts_of texts c) out.work) (sym (same.1 out.inlet d h.inside).place) (h.work d);
}

gave_same : (before after : List Intake) → EachInlet Gave before after → EachInlet IsSame before after
gave_same before after gave = (
  gave.0,
  λ k d lt.
      let g = gave.1 k d lt in
      record {
        place = ap (λ (t : Intake). t.place) g.after;
        event = ap (λ (t : Intake). t.event) g.after;
        noted = ap (λ (t : Intake). t.noted) g.after;
      },
)

-- a run that takes lines, or finds none, keeps all ties
pub draws_keep_ties : DrawsKeepTies
draws_keep_ties events texts all out before after h gave =
    let same = gave_same before after gave in
    record {
      are_for = for_kept events before after same h.are_for;
      small = h.small;
      as_many = h.as_many;
      few = h.few;
      out_of = h.out_of;
      at_work = λ c d lt. out_kept events texts before after c (slice_index_or out c d) same (h.at_work c d lt);
      back = λ c high lt k d inside is.
          let size = gave.0 in
          let low : k < length before = omega (arith, size, inside) in
          let known = ap (λ (t : Intake). t.known) (gave.1 k d low).after in
          known_again texts all c (slice_index_or before k d) (slice_index_or after k d) (same.1 k d low).place (ap (is_told c) known)
          (ap (lines_in_pass c) known) (h.back c high lt k d low (sym (same.1 k d low).event ∙ is));
      short = λ not.
          let stays : length out ≤ length out = omega arith in
          short_again events texts (length out) (length out) before after stays same
          (λ c high lt k d low is. ap (lines_in_pass c) (ap (λ (t : Intake). t.known) (gave.1 k d low).after)) (h.short not);
    }
