-- How inlets and seats come about.
use Rattle.event_gate.proofs.Lines.{bool_cases, noted_more, or_other, same_or}
use Rattle.event_gate.specs.Ends.{PortId, Posting, port_place, posting}
use Rattle.event_gate.specs.Inlet.{Intake}
use Rattle.event_gate.specs.Port.{is_noted}
use Rattle.event_gate.specs.Shelves.{event_of}
use Rattle.script_run.proofs.Served.{at_noted, clients_are, is_client}
use Rattle.script_run.specs.Ends.{HasRoom, of_port, posting_of}
use Rattle.script_run.specs.Inlets.{fresh, is_lane}
use Rattle.script_run.specs.Opening.{AreOpen, AreSeated, HasSeat, HaveSeatsFrom, IsSeatAt, room_of}
use Rattle.script_run.specs.Served.{AreFor, clients_of, texts_of}
use Rattle.script_run.specs.Ties.{AreTied, IsOut, IsWork}
use Rattle.script_run.specs.declared.opening.Seat.{Seat}
use Rattle.script_run.specs.declared.outside.Client.{Client}
use Rattle.std.proofs.Common.{All, AllPairs, Bool, List, None, Option, Some, [], ap, append_assoc, arith, cond, drop, eq-eqb, eqb, false, filter}
use Rattle.std.proofs.Common.{get_or-set_other, get_or-set_same, length, length-append, length-set, map, ne_eqb, refl, set, slice_index_or}
use Rattle.std.proofs.Common.{subst, suc, sym, true, true≢false, zero, ℕ, ◌+◌, ◌++◌, ◌<◌, ◌||◌, ◌∙◌, ◌∷◌, ◌≡◌, ◌≢◌, ◌≤◌, ⊎_elim}
use Rattle.std.proofs.Math.Seq.{get_or-append_seam}
use Rattle.std.proofs.lemmas.Grind.{get_or_default_zero}
use Rattle.std.proofs.lemmas.List.{append-nil, get_or_append_left}
use Rattle.std.proofs.lemmas.List.Elements.{filter-append}
use Rattle.std.proofs.lemmas.List.FromFn.{get_or-range_with_len, length-range_with_len}
use Rattle.std.proofs.lemmas.List.Kept.{AllPairs-filter}
use Rattle.std.specs.List.{range_with_len}

-- ---- the clients of an event

range_more : (a n : ℕ) → range_with_len a (n + 1) ≡ range_with_len a n ++ (a + n) ∷ []
range_more a zero = ap (λ (k : ℕ). k ∷ []) (let e : a ≡ a + 0 = omega arith in e)
range_more a (suc n) =
    let size : suc n + 1 ≡ suc (n + 1) = omega arith in
    let last : a + 1 + n ≡ a + suc n = omega arith in
    ap (range_with_len a) size ∙ ap (λ (xs : List ℕ). a ∷ xs) (range_more (a + 1) n ∙ ap (λ (k : ℕ). range_with_len (a + 1) n ++ k ∷ []) last)

range_next : (n : ℕ) → range_with_len 0 (n + 1) ≡ range_with_len 0 n ++ n ∷ []
range_next n = range_more 0 n ∙ ap (λ (k : ℕ). range_with_len 0 n ++ k ∷ []) (let e : 0 + n ≡ n = omega arith in e)

pub one_more : (p : ℕ → Bool) (k : ℕ) (xs : List ℕ) → xs ≡ filter p (range_with_len 0 k) → p k ≡ true → xs ++ k ∷ [] ≡ filter p (range_with_len 0 (k + 1))
one_more p k xs e yes' = ap (λ ys. ys ++ k ∷ []) e
    ∙ sym (ap (filter p) (range_next k) ∙ filter-append p (range_with_len 0 k) (k ∷ []) ∙ ap (λ b. filter p (range_with_len 0 k) ++ cond b (k ∷ []) []) yes')

pub no_more : (p : ℕ → Bool) (k : ℕ) (xs : List ℕ) → xs ≡ filter p (range_with_len 0 k) → p k ≡ false → xs ≡ filter p (range_with_len 0 (k + 1))
no_more p k xs e not = e
    ∙ sym (ap (filter p) (range_next k) ∙ filter-append p (range_with_len 0 k) (k ∷ [])
    ∙ ap (λ b. filter p (range_with_len 0 k) ++ cond b (k ∷ []) []) not ∙ append-nil (filter p (range_with_len 0 k)))

pub all_apart : (events : List ℕ) (e : ℕ) → AllPairs (λ a b. a ≢ b) (clients_of events e)
all_apart events e = AllPairs-filter (λ a b. a ≢ b) (λ c. eqb (event_of events c) e) (range_with_len 0 (length events))
    (λ i j d low high same.
    let n = length-range_with_len 0 (length events) in
    let a : slice_index_or (range_with_len 0 (length events)) i d ≡ 0 + i = get_or-range_with_len 0 (length events) i d (omega (arith, n, low, high)) in
    let b : slice_index_or (range_with_len 0 (length events)) j d ≡ 0 + j = get_or-range_with_len 0 (length events) j d (omega (arith, n, high)) in
    omega (arith, a, b, same, low))

-- ---- seats at one inlet

noted_less : (b c : ℕ) (done : List ℕ) → c ≢ b → is_noted b (done ++ c ∷ []) ≡ true → is_noted b done ≡ true
noted_less b c [] other h = or_other c b false other h
noted_less b c (d ∷ done) other h = ⊎_elim
    (λ (same : d ≡ b). ap (λ t. t || is_noted b done) (eq-eqb d b same))
    (λ (n : d ≢ b). ap (λ t. t || is_noted b done) (ne_eqb d b n) ∙ noted_less b c done other (or_other d b (is_noted b (done ++ c ∷ [])) n h))
    (same_or d b)

pub seat_none : (rooms : List ℕ) (index : ℕ) (place : List ℕ) (seats : List (Option Seat)) → AreSeated rooms index place [] seats seats
seat_none rooms index place seats = record { size = refl; seated = λ c d h. absurd (true≢false (sym h)); kept = λ c d h. refl }

-- one client more gets its seat
pub seat_more : (rooms : List ℕ) (index : ℕ) (place : List ℕ) (done : List ℕ) (c : ℕ) (old new : List (Option Seat)) (seat : Seat)
    → AreSeated rooms index place done old new → c < length new → seat.inlet ≡ index → HasRoom place c (room_of rooms c) (posting_of seat.poster)
    → AreSeated rooms index place (done ++ c ∷ []) old (set new c (Some seat))
seat_more rooms index place done c old new seat h inside at ready = record {
  size = length-set new c (Some seat) ∙ h.size;
  seated = λ b d noted. ⊎_elim
      (λ (same : c ≡ b).
      subst (λ (i : ℕ). IsSeatAt index place i (room_of rooms i) (slice_index_or (set new c (Some seat)) i d)) same
      (subst (IsSeatAt index place c (room_of rooms c)) (sym (get_or-set_same new c (Some seat) d inside)) (at, ready)))
      (λ (other : c ≢ b).
      subst (IsSeatAt index place b (room_of rooms b)) (sym (get_or-set_other new c b (Some seat) d (λ e. other (sym e))))
      (h.seated b d (noted_less b c done other noted)))
      (same_or c b);
  kept = λ b d noted.
      let r = noted_more b c done noted in
      get_or-set_other new c b (Some seat) d (λ e. r.1 (sym e)) ∙ h.kept b d r.0;
}

pub few_rooms : (rooms : List ℕ) (c : ℕ) → All (λ room. room ≤ 20000) rooms → room_of rooms c ≤ 20000
few_rooms [] c few = omega arith
few_rooms (room ∷ rooms) zero few = few 0 0 (omega arith)
few_rooms (room ∷ rooms) (suc c) few = few_rooms rooms c (λ k d lt. few (suc k) d (omega (arith, lt)))

-- how far the seats of a port's clients have come
pub record IsSeating (rooms : List ℕ) (index : ℕ) (port : PortId) (clients : List ℕ) (rest : List Posting) (old new : List (Option Seat)) : Type 0 where
  pub done : List ℕ
  pub todo : List ℕ
  pub split : clients ≡ done ++ todo
  pub rest_is : rest ≡ map (posting port) todo
  pub seats : AreSeated rooms index (port_place port) done old new

pub seating_begins : (rooms : List ℕ) (index : ℕ) (port : PortId) (clients : List ℕ) (rest : List Posting) (old : List (Option Seat))
    → rest ≡ map (posting port) clients → IsSeating rooms index port clients rest old old
seating_begins rooms index port clients rest old e = record {
  done = [];
  todo = clients;
  split = refl;
  rest_is = e;
  seats = seat_none rooms index (port_place port) old;
}

first_of : (p : Posting) (ps qs : List Posting) (q : Posting) → p ∷ ps ≡ q ∷ qs → p ≡ q
first_of p ps qs q e = ap (λ xs. slice_index_or xs 0 p) e

rest_of : (p : Posting) (ps qs : List Posting) (q : Posting) → p ∷ ps ≡ q ∷ qs → ps ≡ qs
rest_of p ps qs q e = ap (λ xs. drop 1 xs) e

pub next_inside : (rooms : List ℕ) (index : ℕ) (port : PortId) (clients : List ℕ) (p : Posting) (rest : List Posting) (old new : List (Option Seat))
    → IsSeating rooms index port clients (p ∷ rest) old new → All (λ c. c < length old) clients → p.client < length new
next_inside rooms index port clients p rest old new h low = by_todo h.todo h.split h.rest_is
  where
    by_todo : (todo : List ℕ) → clients ≡ h.done ++ todo → p ∷ rest ≡ map (posting port) todo → p.client < length new
    by_todo [] split is = absurd (cc is)
    by_todo (c ∷ cs) split is =
        let at : slice_index_or (h.done ++ c ∷ cs) (length h.done) c ≡ c = get_or-append_seam h.done c cs c in
        let size : length clients ≡ length h.done + suc (length cs) = ap length split ∙ length-append h.done (c ∷ cs) in
        let l = low (length h.done) c (omega (arith, size)) in
        let here : slice_index_or clients (length h.done) c ≡ c = ap (λ xs. slice_index_or xs (length h.done) c) split ∙ at in
        let who : p.client ≡ c = ap (λ (q : Posting). q.client) (first_of p rest (map (posting port) cs) (posting port c) is) in
        let same = h.seats.size in
        omega (arith, l, here, who, same)

pub seating_goes_on : (rooms : List ℕ) (index : ℕ) (port : PortId) (clients : List ℕ) (p : Posting) (rest : List Posting)
    (old new : List (Option Seat)) (seat : Seat)
    → IsSeating rooms index port clients (p ∷ rest) old new → p.client < length new → seat.inlet ≡ index → posting_of seat.poster ≡ of_port p
    → ((c : ℕ) → room_of rooms c ≤ 20000)
    → IsSeating rooms index port clients rest old (set new p.client (Some seat))
seating_goes_on rooms index port clients p rest old new seat h inside at end few = by_todo h.todo h.split h.rest_is
  where
    by_todo : (todo : List ℕ) → clients ≡ h.done ++ todo → p ∷ rest ≡ map (posting port) todo
        → IsSeating rooms index port clients rest old (set new p.client (Some seat))
    by_todo [] split is = absurd (cc is)
    by_todo (c ∷ cs) split is =
        let who : p ≡ posting port c = first_of p rest (map (posting port) cs) (posting port c) is in
        let client : p.client ≡ c = ap (λ (q : Posting). q.client) who in
        let ends : posting_of seat.poster ≡ of_port (posting port c) = end ∙ ap of_port who in
        let ready : HasRoom (port_place port) c (room_of rooms c) (posting_of seat.poster) =
        subst (HasRoom (port_place port) c (room_of rooms c)) (sym ends)
        (record { place_is = refl; client_is = refl; posted_is = refl; room = (let f = few c in omega (arith, f)); unrefused = refl }) in
        record {
          done = h.done ++ c ∷ [];
          todo = cs;
          split = split ∙ sym (append_assoc h.done (c ∷ []) cs);
          rest_is = rest_of p rest (map (posting port) cs) (posting port c) is;
          seats = subst (λ (i : ℕ). AreSeated rooms index (port_place port) (h.done ++ c ∷ []) old (set new i (Some seat))) (sym client)
              (seat_more rooms index (port_place port) h.done c old new seat h.seats (omega (arith, inside, client)) at ready);
        }

pub seating_ends : (rooms : List ℕ) (index : ℕ) (port : PortId) (clients : List ℕ) (rest : List Posting) (old new : List (Option Seat))
    → IsSeating rooms index port clients rest old new → length rest ≡ 0 → AreSeated rooms index (port_place port) clients old new
seating_ends rooms index port clients rest old new h none = by_todo h.todo h.split (ap length h.rest_is)
  where
    by_todo : (todo : List ℕ) → clients ≡ h.done ++ todo → length rest ≡ length (map (posting port) todo)
        → AreSeated rooms index (port_place port) clients old new
    by_todo [] split is = subst (λ (cs : List ℕ). AreSeated rooms index (port_place port) cs old new) (sym (split ∙ append-nil h.done)) h.seats
    by_todo (c ∷ cs) split is = absurd (omega (arith, none, is))

-- ---- all inlets

-- a new inlet of its event
abbrev IsNew : List ℕ → Intake → Type 0
IsNew events t = t ≡ fresh t.place t.event (clients_of events t.event)

-- a client of another event isn't among them
no_client : (events : List ℕ) (e c : ℕ) → event_of events c ≢ e → is_noted c (clients_of events e) ≡ false
no_client events e c other = ⊎_elim
    (λ (y : is_noted c (clients_of events e) ≡ true).
    absurd (other (at_noted (λ b. (b < length events) × (event_of events b ≡ e)) c (clients_of events e) (clients_are events e) y).1))
    (λ (n : is_noted c (clients_of events e) ≡ false). n)
    (bool_cases (is_noted c (clients_of events e)))

seat_kept : (events : List ℕ) (rooms : List ℕ) (inlets : List Intake) (t : Intake) (c : ℕ) (seat : Option Seat)
    → HasSeat events rooms inlets c seat → HasSeat events rooms (inlets ++ t ∷ []) c seat
seat_kept events rooms inlets t c seat h =
    let size : length (inlets ++ t ∷ []) ≡ length inlets + 1 = length-append inlets (t ∷ []) in
    let same : (d : Intake)
    → slice_index_or (inlets ++ t ∷ []) h.index d ≡ slice_index_or inlets h.index d = λ d. get_or_append_left inlets (t ∷ []) d h.index h.inside in
    record {
      index = h.index;
      inside = (let i = h.inside in omega (arith, size, i));
      event = λ d. ap (λ (u : Intake). u.event) (same d) ∙ h.event d;
      at = λ d. subst (λ (u : Intake). IsSeatAt h.index u.place c (room_of rooms c) seat) (sym (same d)) (h.at d);
    }

-- a lane exactly where there is one client
abbrev IsFitting : Intake → Type 0
IsFitting t = is_lane t.place ≡ eqb (length t.noted) 1

pub open_more : (events : List ℕ) (rooms : List ℕ) (e : ℕ) (inlets : List Intake) (t : Intake) (old new : List (Option Seat))
    → AreOpen events rooms e inlets old → t ≡ fresh t.place e (clients_of events e) → is_lane t.place ≡ eqb (length (clients_of events e)) 1
    → AreSeated rooms (length inlets) t.place (clients_of events e) old new
    → AreOpen events rooms (e + 1) (inlets ++ t ∷ []) new
open_more events rooms e inlets t old new h is lane seats =
    let size : length (inlets ++ t ∷ []) ≡ length inlets + 1 = length-append inlets (t ∷ []) in
    let event : t.event ≡ e = ap (λ (u : Intake). u.event) is in
    let last : (d : Intake) → slice_index_or (inlets ++ t ∷ []) (length inlets) d ≡ t = λ d. get_or-append_seam inlets t [] d in
    let first : (k : ℕ) (d : Intake) → k < length inlets
    → slice_index_or (inlets ++ t ∷ []) k d ≡ slice_index_or inlets k d = λ k d lt. get_or_append_left inlets (t ∷ []) d k lt in
    record {
      low = λ k d lt. ⊎_elim
          (λ (it : k ≡ length inlets).
          subst (λ (i : ℕ). (slice_index_or (inlets ++ t ∷ []) i d).event < e + 1) (sym it)
          (subst (λ (u : Intake). u.event < e + 1) (sym (last d)) (omega (arith, event))))
          (λ (n : k ≢ length inlets).
          let lt' : k < length inlets = omega (arith, size, lt, n) in
          let l = h.low k d lt' in
          subst (λ (u : Intake). u.event < e + 1) (sym (first k d lt')) (omega (arith, l)))
          (same_or k (length inlets));
      rise = λ i j d low high.
          let lt : i < length inlets = omega (arith, size, low, high) in
          ⊎_elim
          (λ (it : j ≡ length inlets).
          let a : (slice_index_or (inlets ++ t ∷ []) i d).event ≡ (slice_index_or inlets i d).event = ap (λ (u : Intake). u.event) (first i d lt) in
          let b : (slice_index_or (inlets ++ t ∷ []) j d).event
          ≡ t.event = ap (λ (u : Intake). u.event) (ap (λ (k : ℕ). slice_index_or (inlets ++ t ∷ []) k d) it ∙ last d) in
          let l = h.low i d lt in
          omega (arith, a, b, l, event))
          (λ (n : j ≢ length inlets).
          let lt' : j < length inlets = omega (arith, size, high, n) in
          let a : (slice_index_or (inlets ++ t ∷ []) i d).event ≡ (slice_index_or inlets i d).event = ap (λ (u : Intake). u.event) (first i d lt) in
          let b : (slice_index_or (inlets ++ t ∷ []) j d).event ≡ (slice_index_or inlets j d).event = ap (λ (u : Intake). u.event) (first j d lt') in
          let r = h.rise i j d low lt' in
          omega (arith, a, b, r))
          (same_or j (length inlets));
      new = λ k d lt. ⊎_elim
          (λ (it : k ≡ length inlets).
          subst (λ (i : ℕ). IsNew events (slice_index_or (inlets ++ t ∷ []) i d)) (sym it)
          (subst (IsNew events) (sym (last d)) (is ∙ ap (λ (i : ℕ). fresh t.place i (clients_of events i)) (sym event))))
          (λ (n : k ≢ length inlets).
          let lt' : k < length inlets = omega (arith, size, lt, n) in
          subst (IsNew events) (sym (first k d lt')) (h.new k d lt'))
          (same_or k (length inlets));
      lanes = λ k d lt. ⊎_elim
          (λ (it : k ≡ length inlets).
          subst (λ (i : ℕ). IsFitting (slice_index_or (inlets ++ t ∷ []) i d)) (sym it)
          (subst IsFitting (sym (last d)) (lane ∙ ap (λ (cs : List ℕ). eqb (length cs) 1) (sym (ap (λ (u : Intake). u.noted) is)))))
          (λ (n : k ≢ length inlets).
          let lt' : k < length inlets = omega (arith, size, lt, n) in
          subst IsFitting (sym (first k d lt')) (h.lanes k d lt'))
          (same_or k (length inlets));
      size = seats.size ∙ h.size;
      seated = λ c d low small. ⊎_elim
          (λ (it : event_of events c ≡ e). record {
            index = length inlets;
            inside = omega (arith, size);
            event = λ u. ap (λ (v : Intake). v.event) (last u) ∙ event ∙ sym it;
            at = λ u. subst (λ (v : Intake). IsSeatAt (length inlets) v.place c (room_of rooms c) (slice_index_or new c d)) (sym (last u))
                (seats.seated c d (is_client events e c low it));
          })
          (λ (other : event_of events c ≢ e).
          seat_kept events rooms inlets t c (slice_index_or new c d)
          (subst (HasSeat events rooms inlets c) (sym (seats.kept c d (no_client events e c other))) (h.seated c d low (omega (arith, small, other)))))
          (same_or (event_of events c) e);
    }

-- before the first event nothing is open
pub open_none : (events : List ℕ) (rooms : List ℕ) (seats : List (Option Seat)) → length seats ≡ length events → AreOpen events rooms 0 [] seats
open_none events rooms seats size = record {
  low = λ k d lt. absurd (omega (arith, lt));
  rise = λ i j d low high. absurd (omega (arith, high));
  new = λ k d lt. absurd (omega (arith, lt));
  lanes = λ k d lt. absurd (omega (arith, lt));
  size = size;
  seated = λ c d low small. absurd (omega (arith, small));
}

pub open_nothing : (events : List ℕ) (rooms : List ℕ) (e : ℕ) (inlets : List Intake) (seats : List (Option Seat))
    → AreOpen events rooms e inlets seats → clients_of events e ≡ [] → AreOpen events rooms (e + 1) inlets seats
open_nothing events rooms e inlets seats h none = record {
  low = λ k d lt. let l = h.low k d lt in omega (arith, l);
  rise = h.rise;
  new = h.new;
  lanes = h.lanes;
  size = h.size;
  seated = λ c d low small. ⊎_elim
      (λ (it : event_of events c ≡ e). absurd (true≢false (sym (is_client events e c low it) ∙ ap (is_noted c) none)))
      (λ (other : event_of events c ≢ e). h.seated c d low (omega (arith, small, other)))
      (same_or (event_of events c) e);
}

-- then each event that has a client has its inlet
pub open_for : (events : List ℕ) (rooms : List ℕ) (inlets : List Intake) (seats : List (Option Seat))
    → AreOpen events rooms 32 inlets seats → All (λ e. e ≤ 31) events → AreFor events inlets
open_for events rooms inlets seats h sound = record {
  rise = ((λ k d lt. let l = h.low k d lt in omega (arith, l)), h.rise);
  clients = λ k d lt. ap (λ (t : Intake). t.noted) (h.new k d lt);
  found = λ k d lt.
      let zero_is : slice_index_or events k d ≡ event_of events k = get_or_default_zero events k d lt in
      let s = sound k 0 lt in
      let seat = h.seated k None lt (omega (arith, s)) in
      (seat.index, seat.inside, λ u. seat.event u ∙ sym zero_is);
  lanes = h.lanes;
}

-- ---- the threads

pub all_seats : (events : List ℕ) (rooms : List ℕ) (inlets : List Intake) (seats rest : List (Option Seat)) (n : ℕ)
    → AreOpen events rooms 32 inlets seats → All (λ e. e ≤ 31) events → rest ≡ seats → n ≡ 0 → HaveSeatsFrom events rooms inlets n rest
all_seats events rooms inlets seats rest n h sound same none = λ k d lt.
    let there : k < length events = (let size = ap length same in let as_many = h.size in omega (arith, size, as_many, lt)) in
    let low = sound k 0 there in
    subst (λ (c : ℕ). HasSeat events rooms inlets c (slice_index_or rest k d)) (let e : k ≡ n + k = omega (arith, none) in e)
    (subst (λ (xs : List (Option Seat)). HasSeat events rooms inlets k (slice_index_or xs k d)) (sym same) (h.seated k d there (omega (arith, low))))

pub first_seat : (events : List ℕ) (rooms : List ℕ) (inlets : List Intake) (n : ℕ) (s : Option Seat) (rest : List (Option Seat))
    → HaveSeatsFrom events rooms inlets n (s ∷ rest) → HasSeat events rooms inlets n s
first_seat events rooms inlets n s rest h = subst (λ (c : ℕ). HasSeat events rooms inlets c s) (let e : n + 0 ≡ n = omega arith in e) (h 0 s (omega arith))

pub later_seats : (events : List ℕ) (rooms : List ℕ) (inlets : List Intake) (n m : ℕ) (s : Option Seat) (rest : List (Option Seat))
    → m ≡ n + 1 → HaveSeatsFrom events rooms inlets n (s ∷ rest) → HaveSeatsFrom events rooms inlets m rest
later_seats events rooms inlets n m s rest more h = λ k d lt. subst (λ (c : ℕ). HasSeat events rooms inlets c (slice_index_or rest k d))
    (let e : n + suc k ≡ m + k = omega (arith, more) in e) (h (suc k) d (omega (arith, lt)))

pub no_vacant : (events : List ℕ) (rooms : List ℕ) (inlets : List Intake) (c : ℕ) → HasSeat events rooms inlets c None → ⊥
no_vacant events rooms inlets c h = h.at (record { place = []; event = 0; taken = []; finds = 0; noted = []; known = [] })

pub seat_ready : (events : List ℕ) (rooms : List ℕ) (inlets : List Intake) (c : ℕ) (seat : Seat) → HasSeat events rooms inlets c (Some seat)
    → HasRoom (posting_of seat.poster).place (posting_of seat.poster).client (room_of rooms c) (posting_of seat.poster)
seat_ready events rooms inlets c seat h =
    let r = (h.at (record { place = []; event = 0; taken = []; finds = 0; noted = []; known = [] })).1 in
    record { place_is = refl; client_is = refl; posted_is = r.posted_is; room = r.room; unrefused = r.unrefused }

pub out_of_seat : (events rooms : List ℕ) (texts : List (List (List ℕ))) (inlets : List Intake) (c : ℕ) (seat : Seat) (client : Client)
    → HasSeat events rooms inlets c (Some seat) → client.inlet ≡ seat.inlet
    → IsWork (posting_of seat.poster).place (posting_of seat.poster).client (texts_of texts c) client.work
    → IsOut events texts inlets c client
out_of_seat events rooms texts inlets c seat client h same work =
    let at : (d : Intake) → client.inlet ≡ h.index = λ d. same ∙ (h.at d).0 in
    let none : Intake = record { place = []; event = 0; taken = []; finds = 0; noted = []; known = [] } in
    let here : client.inlet ≡ h.index = at none in
    record {
      inside = (let i = h.inside in omega (arith, here, i));
      event = λ d. ap (λ (k : ℕ). (slice_index_or inlets k d).event) here ∙ h.event d;
      work = λ d.
          let r = (h.at d).1 in
          subst (λ (k : ℕ). IsWork (slice_index_or inlets k d).place c (texts_of texts c) client.work) (sym here)
          (subst (λ (place : List ℕ). IsWork place c (texts_of texts c) client.work) r.place_is
          (subst (λ (b : ℕ). IsWork (posting_of seat.poster).place b (texts_of texts c) client.work) r.client_is work));
    }

pub none_out : (events : List ℕ) (texts : List (List (List ℕ))) (inlets : List Intake) (out : List Client) (n : ℕ) → n ≡ 0
    → (c : ℕ) (d : Client) → c < n → IsOut events texts inlets c (slice_index_or out c d)
none_out events texts inlets out n none = λ c d lt. absurd (omega (arith, none, lt))

pub out_more : (events : List ℕ) (texts : List (List (List ℕ))) (inlets : List Intake) (n m : ℕ) (out now : List Client) (client : Client)
    → n ≡ length out → m ≡ n + 1 → now ≡ out ++ client ∷ []
    → ((c : ℕ) (d : Client) → c < n → IsOut events texts inlets c (slice_index_or out c d)) → IsOut events texts inlets n client
    → (c : ℕ) (d : Client) → c < m → IsOut events texts inlets c (slice_index_or now c d)
out_more events texts inlets n m out now client size more is before last = λ c d lt. ⊎_elim
    (λ (it : c ≡ n).
    let at : slice_index_or now c d
    ≡ client = ap (λ xs. slice_index_or xs c d) is ∙ ap (λ k. slice_index_or (out ++ client ∷ []) k d) (it ∙ size) ∙ get_or-append_seam out client [] d in
    subst (IsOut events texts inlets c) (sym at) (subst (λ (k : ℕ). IsOut events texts inlets k client) (sym it) last))
    (λ (other : c ≢ n).
    let lt' : c < n = omega (arith, lt, more, other) in
    let at : slice_index_or now c d
    ≡ slice_index_or out c d = ap (λ xs. slice_index_or xs c d) is ∙ get_or_append_left out (client ∷ []) d c (omega (arith, lt', size)) in
    subst (IsOut events texts inlets c) (sym at) (before c d lt'))
    (same_or c n)

pub all_out : (events : List ℕ) (texts : List (List (List ℕ))) (inlets : List Intake) (out : List Client)
    → AreFor events inlets → length events ≤ 16 → length texts ≡ length events → All (λ ts. length ts ≤ 20000) texts → length out ≡ length events
    → ((c : ℕ) (d : Client) → c < length out → IsOut events texts inlets c (slice_index_or out c d))
    → AreTied events texts true out inlets
all_out events texts inlets out are_for small as_many few size work = record {
  are_for = are_for;
  small = small;
  as_many = as_many;
  few = few;
  out_of = omega (arith, size);
  at_work = work;
  back = λ c high low. absurd (omega (arith, size, high, low));
  short = λ not. absurd (true≢false not);
}
