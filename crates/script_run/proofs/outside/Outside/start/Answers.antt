use Rattle.event_gate.specs.Inlet.{Intake}
use Rattle.script_run.proofs.Seats.{all_out, all_seats, first_seat, later_seats, no_vacant, none_out, open_for, out_more, out_of_seat, seat_ready}
use Rattle.script_run.proofs.outside.Outside.start.Goals as goal
use Rattle.script_run.specs.Ends.{HasRoom, posting_of}
use Rattle.script_run.specs.Inlets.{fresh}
use Rattle.script_run.specs.Opening.{AreOpen, HasSeat, HaveSeatsFrom, room_of}
use Rattle.script_run.specs.Served.{texts_of}
use Rattle.script_run.specs.Ties.{IsOut, IsWork, any_intake}
use Rattle.script_run.specs.declared.outside.Client.{Client}
use Rattle.std.proofs.Common.{All, List, [], ap, arith, length, map, refl, subst, suc, sym, vec_len, ℕ, ◌∙◌, ◌≡◌, ◌≤◌}
use Rattle.std.proofs.lemmas.List.{get_or-map, length-map}
use Rattle.std.proofs.lemmas.List.Elements.{All-map}

pub unreachable-requires : goal.unreachable-requires
unreachable-requires g c =
    let events : List ℕ = c.args.events.now in
    let rooms : List ℕ = map (λ v. length v.items) c.args.texts.now in
    let inlets : List Intake = map any_intake c.in_ok-inlets.field-0.inlets.items in
    let n : ℕ = vec_len c.loop-seat.out in
    let seats = subst (HaveSeatsFrom events rooms inlets n) c.in-Some.ensures.steps.0 c.loop-seat.invariant.2 in
    no_vacant events rooms inlets n
    (subst (HasSeat events rooms inlets n) c.in_default.is (first_seat events rooms inlets n c.in-Some.seat c.next.new.self.rest.items seats))

pub open_all-requires-clause-few : goal.open_all-requires-clause-few
open_all-requires-clause-few g c =
    subst (All (λ room. room ≤ 20000)) (sym (c.deref.ensures.value ∙ c.in_ok-rooms.ensures))
    (All-map (λ room. room ≤ 20000) (λ v. length v.items) c.args.texts.now c.requires.few)

pub start_client-requires-after_bounds : goal.start_client-requires-after_bounds
start_client-requires-after_bounds g c κs within =
    let events : List ℕ = c.args.events.now in
    let rooms : List ℕ = map (λ v. length v.items) c.args.texts.now in
    let inlets : List Intake = map any_intake c.in_ok-inlets.field-0.inlets.items in
    let n : ℕ = vec_len c.loop-seat.out in
    let h = c.loop-seat.invariant in
    let h3 = h.3 in
    let seats = subst (HaveSeatsFrom events rooms inlets n) c.in-Some.ensures.steps.0 h.2 in
    let seat = subst (HasSeat events rooms inlets n) c.in-Some-seat.is (first_seat events rooms inlets n c.in-Some.seat c.next.new.self.rest.items seats) in
    let rest : length c.loop-seat.seat-iterator.rest.items ≡ suc (length c.next.new.self.rest.items) = ap length c.in-Some.ensures.steps.0 in
    let as_many = c.requires.texts in
    let len = c.len.ensures in
    let at : room_of rooms n ≡ length c.index-texts-len.result.items =
    ap (room_of rooms) (sym len)
    ∙ get_or-map (λ v. length v.items) c.args.texts.now c.len.result _ 0 (omega (arith, h3, rest, as_many, len))
    ∙ ap (λ v. length v.items) (sym c.index-texts-len.is) in
    subst
    (λ (lines : ℕ).
    HasRoom (posting_of c.in-Some-seat.seat.poster).place (posting_of c.in-Some-seat.seat.poster).client lines (posting_of c.in-Some-seat.seat.poster))
    at
    (seat_ready events rooms inlets n c.in-Some-seat.seat seat)

pub loop-seat-preserved : goal.loop-seat-preserved
loop-seat-preserved g c =
    let events : List ℕ = c.args.events.now in
    let texts : List (List (List ℕ)) = map (λ v. v.items) c.args.texts.now in
    let rooms : List ℕ = map (λ v. length v.items) c.args.texts.now in
    let inlets : List Intake = map any_intake c.in_ok-inlets.field-0.inlets.items in
    let n : ℕ = vec_len c.loop-seat.out in
    let h = c.loop-seat.invariant in
    let h3 = h.3 in
    let h4 = h.4 in
    let h5 = h.5 in
    let seats = subst (HaveSeatsFrom events rooms inlets n) c.in-Some.ensures.steps.0 h.2 in
    let seat = subst (HasSeat events rooms inlets n) c.in-Some-seat.is (first_seat events rooms inlets n c.in-Some.seat c.next.new.self.rest.items seats) in
    let rest : length c.loop-seat.seat-iterator.rest.items ≡ suc (length c.next.new.self.rest.items) = ap length c.in-Some.ensures.steps.0 in
    let gates : length c.loop-seat.gates.rest.items ≡ suc (length c.next-in-loop-seat.new.self.rest.items) = ap length c.in-Some-next.ensures.items in
    let as_many = c.requires.texts in
    let len = c.len.ensures in
    let more = c.push_reserved.ensures.len in
    let room = c.push_reserved.ensures.capacity in
    let size = c.loop-seat.out.ok.0 in
    let at : texts_of texts n ≡ c.index-texts-len.result.items =
    ap (texts_of texts) (sym len) ∙ get_or-map (λ v. v.items) c.args.texts.now c.len.result _ [] (omega (arith, h3, rest, as_many, len))
    ∙ ap (λ v. v.items) (sym c.index-texts-len.is) in
    let client : Client = c.start_client.result in
    let work = subst
    (λ (ts : List (List ℕ)). IsWork (posting_of c.in-Some-seat.seat.poster).place (posting_of c.in-Some-seat.seat.poster).client ts client.work)
    (sym at) c.start_client.ensures.work in
    let last : IsOut events texts inlets n client = out_of_seat events rooms texts inlets n c.in-Some-seat.seat client seat c.start_client.ensures.inlet work in (
      tt,
      tt,
      later_seats events rooms inlets n (vec_len c.push_reserved.new.self) c.in-Some.seat c.next.new.self.rest.items more seats,
      omega (arith, h3, rest, more),
      omega (arith, h4, rest, gates),
      omega (arith, h5, room),
      out_more events texts inlets n (vec_len c.push_reserved.new.self) c.loop-seat.out.items c.push_reserved.new.self.items client size
          more c.push_reserved.ensures.items h.6 last,
    )

pub returns-clause-tied : goal.returns-clause-tied
returns-clause-tied g c =
    let events : List ℕ = c.args.events.now in
    let texts : List (List (List ℕ)) = map (λ v. v.items) c.args.texts.now in
    let rooms : List ℕ = map (λ v. length v.items) c.args.texts.now in
    let inlets : List Intake = map any_intake c.in_ok-inlets.field-0.inlets.items in
    let h = c.loop-seat.invariant in
    let h3 = h.3 in
    let size = c.loop-seat.out.ok.0 in
    let rest = c.loop-seat.seat-iterator.rest.ok.0 in
    let none = c.in-None.ensures.steps.0 in
    all_out events texts inlets c.loop-seat.out.items (open_for events rooms inlets c.in_ok-inlets.field-0.seats.items
    (subst (λ (rs : List ℕ). AreOpen events rs 32 inlets c.in_ok-inlets.field-0.seats.items) (c.deref.ensures.value ∙ c.in_ok-rooms.ensures)
    c.in_ok-inlets.ensures)
    c.requires.events)
    c.requires.clients
    (length-map c.args.texts.now (λ v. v.items) ∙ c.requires.texts)
    (All-map (λ ts. length ts ≤ 20000) (λ v. v.items) c.args.texts.now c.requires.few)
    (omega (arith, h3, size, rest, none))
    (λ b d lt. h.6 b d (omega (arith, lt, size)))

pub loop-seat-smaller : goal.loop-seat-smaller
loop-seat-smaller g c =
    let less = ap length c.in-Some.ensures.steps.0 in
    let before = c.loop-seat.seat-iterator.rest.ok.0 in
    let after = c.next.new.self.rest.ok.0 in
    omega (arith, less, before, after)

pub unreachable-requires-in_default-next : goal.unreachable-requires-in_default-next
unreachable-requires-in_default-next g c =
    let left = c.loop-seat.invariant.4 in
    let seats = ap length c.in-Some.ensures.steps.0 in
    let none = c.in_default-next.ensures.cases.0 in
    let size = c.loop-seat.gates.rest.ok.0 in
    omega (arith, left, seats, none, size)

pub bounds-texts-len : goal.bounds-texts-len
bounds-texts-len g c =
    let all = c.loop-seat.invariant.3 in
    let seats = ap length c.in-Some.ensures.steps.0 in
    let len = c.len.ensures in
    let as_many = c.requires.texts in
    omega (arith, all, seats, len, as_many)

pub push_reserved-requires : goal.push_reserved-requires
push_reserved-requires g c =
    let all = c.loop-seat.invariant.3 in
    let room = c.loop-seat.invariant.5 in
    let seats = ap length c.in-Some.ensures.steps.0 in
    omega (arith, all, room, seats)

pub returns-clause-events : goal.returns-clause-events
returns-clause-events g c = refl

pub returns-clause-texts : goal.returns-clause-texts
returns-clause-texts g c = refl

fresh_again : (t : Intake) (clients : List ℕ) → t ≡ fresh t.place t.event clients → t ≡ fresh t.place t.event t.noted
fresh_again t clients h = h ∙ ap (fresh t.place t.event) (sym (ap (λ (u : Intake). u.noted) h))

pub returns-clause-fresh : goal.returns-clause-fresh
returns-clause-fresh g c = λ k d lt. fresh_again _ _ (c.in_ok-inlets.ensures.new k d lt)

pub loop-seat-init : goal.loop-seat-init
loop-seat-init g c =
    let opened = c.in_ok-inlets.field-0 in
    let rest = c.into_iter-seat-iterator.ensures.into_iter_gives.0 in
    let size = ap length rest in
    let as_many = c.in_ok-inlets.ensures.size in
    let none = c.in_ok-out.ensures.len in
    let room = c.in_ok-out.ensures.capacity in
    let given = ap length c.into_iter-gates.ensures.rest in
    let gates = c.requires.gates in (
      tt,
      tt,
      all_seats c.args.events.now (map (λ v. length v.items) c.args.texts.now) (map any_intake opened.inlets.items) opened.seats.items
          c.into_iter-seat-iterator.result.rest.items (vec_len c.in_ok-out.out)
          (subst (λ (rs : List ℕ). AreOpen c.args.events.now rs 32 (map any_intake opened.inlets.items) opened.seats.items)
          (c.deref.ensures.value ∙ c.in_ok-rooms.ensures) c.in_ok-inlets.ensures)
          c.requires.events rest none,
      omega (arith, size, as_many, none),
      omega (arith, size, as_many, given, gates),
      omega (arith, room),
      none_out c.args.events.now (map (λ v. v.items) c.args.texts.now) (map any_intake opened.inlets.items) c.in_ok-out.out.items
          (vec_len c.in_ok-out.out) none,
    )
