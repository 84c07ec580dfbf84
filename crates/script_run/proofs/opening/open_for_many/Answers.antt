use Rattle.event_gate.specs.Ends.{Posting}
use Rattle.script_run.proofs.Seats.{IsSeating, next_inside, seating_begins, seating_ends, seating_goes_on}
use Rattle.script_run.proofs.Seats.{few_rooms}
use Rattle.script_run.proofs.opening.open_for_many.Goals as goal
use Rattle.script_run.specs.declared.opening.Seat.{Seat}
use Rattle.script_run.specs.declared.poster.AnyPoster.TheVariants.{Port}
use Rattle.std.proofs.Common.{List, Some, ap, arith, length, map, refl, rules, set, subst, sym, ℕ, ◌∙◌, ◌≤◌}
use Rattle.std.proofs.lemmas.List.Elements.{All-map}

pub loop-poster-init : goal.loop-poster-init
loop-poster-init g c =
    (tt, tt, seating_begins c.args.rooms.now c.args.index c.in_ok-port.port.port c.args.clients.now c.into_iter-poster-iterator.result.rest.items c.args.seats.now.items (search rules))

pub put_seat-requires : goal.put_seat-requires
put_seat-requires g c =
    let was = c.args.seats.now.ok.0 in
    let is = c.loop-poster.seats.ok.0 in
    let h = subst
    (λ (rest : List Posting).
    IsSeating c.args.rooms.now c.args.index c.in_ok-port.port.port c.args.clients.now rest c.args.seats.now.items c.loop-poster.seats.items)
    c.in-Some.ensures.steps.0 c.loop-poster.invariant.2 in
    let inside = next_inside c.args.rooms.now c.args.index c.in_ok-port.port.port c.args.clients.now c.in-Some.poster
    c.next.new.self.rest.items c.args.seats.now.items c.loop-poster.seats.items h (λ k d lt. let r = c.requires.seats k d lt in omega (arith, r, was)) in
    let client = c.client-client.ensures in
    omega (arith, inside, client, is)

pub loop-poster-preserved : goal.loop-poster-preserved
loop-poster-preserved g c =
    let was = c.args.seats.now.ok.0 in
    let p : Posting = c.in-Some.poster in
    let seat : Seat = record { inlet = c.args.index; poster = Port p } in
    let h = subst
    (λ (rest : List Posting).
    IsSeating c.args.rooms.now c.args.index c.in_ok-port.port.port c.args.clients.now rest c.args.seats.now.items c.loop-poster.seats.items)
    c.in-Some.ensures.steps.0 c.loop-poster.invariant.2 in
    let inside = next_inside c.args.rooms.now c.args.index c.in_ok-port.port.port c.args.clients.now p c.next.new.self.rest.items
    c.args.seats.now.items c.loop-poster.seats.items h (λ k d lt. let r = c.requires.seats k d lt in omega (arith, r, was)) in (
      tt,
      tt,
      subst (IsSeating c.args.rooms.now c.args.index c.in_ok-port.port.port c.args.clients.now c.next.new.self.rest.items c.args.seats.now.items)
          (ap (λ (i : ℕ). set c.loop-poster.seats.items i (Some seat)) (sym c.client-client.ensures) ∙ sym c.put_seat.ensures)
          (seating_goes_on c.args.rooms.now c.args.index c.in_ok-port.port.port c.args.clients.now p c.next.new.self.rest.items
          c.args.seats.now.items c.loop-poster.seats.items seat h inside refl refl (λ b. few_rooms c.args.rooms.now b c.requires.few)),
    )

pub returns-clause-seats : goal.returns-clause-seats
returns-clause-seats g c =
    seating_ends c.args.rooms.now c.args.index c.in_ok-port.port.port c.args.clients.now c.loop-poster.poster-iterator.rest.items
    c.args.seats.now.items c.loop-poster.seats.items c.loop-poster.invariant.2 (sym c.loop-poster.poster-iterator.rest.ok.0 ∙ c.in-None.ensures.steps.0)
