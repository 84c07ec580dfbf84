use Rattle.event_gate.specs.Inlet.{Intake}
use Rattle.script_run.proofs.Seats.{all_apart, open_more, open_nothing}
use Rattle.script_run.proofs.Served.{clients_are}
use Rattle.script_run.proofs.opening.open_event.Goals as goal
use Rattle.script_run.specs.Inlets.{fresh}
use Rattle.script_run.specs.Opening.{AreOpen, AreSeated}
use Rattle.script_run.specs.Served.{clients_of}
use Rattle.script_run.specs.Ties.{any_intake}
use Rattle.std.proofs.Common.{All, AllPairs, List, [], ap, arith, eqb, length, map, rules, subst, sym, ℕ, ◌+◌, ◌<◌, ◌∙◌, ◌∷◌, ◌≡◌, ◌≢◌}
use Rattle.std.proofs.lemmas.List.{length-map, map-append, nil_from_length}

pub returns-then-is_empty : goal.returns-then-is_empty
returns-then-is_empty g c =
    let size : length c.in_ok-clients.clients.items ≡ 0 = search rules in
    open_nothing c.args.events.now c.args.rooms.now c.args.event (map any_intake c.args.inlets.now.items) c.args.seats.now.items
    c.requires.before (sym c.in_ok-clients.ensures ∙ nil_from_length c.in_ok-clients.clients.items size)

pub open_inlet-requires-clause-distinct : goal.open_inlet-requires-clause-distinct
open_inlet-requires-clause-distinct g c =
    subst (AllPairs (λ a b. a ≢ b)) (sym (c.deref.ensures.value ∙ c.in_ok-clients.ensures)) (all_apart c.args.events.now c.args.event)

pub open_inlet-requires-clause-rooms : goal.open_inlet-requires-clause-rooms
open_inlet-requires-clause-rooms g c =
    subst (All (λ b. b < length c.args.rooms.now)) (sym (c.deref.ensures.value ∙ c.in_ok-clients.ensures))
    (λ k d lt. let w = (clients_are c.args.events.now c.args.event k d lt).0 in let s = c.requires.rooms in omega (arith, w, s))

pub returns : goal.returns
returns g c =
    let before : List Intake = map any_intake c.args.inlets.now.items in
    let t : Intake = any_intake c.in_ok-inlet.inlet in
    let clients : c.deref.result.now ≡ clients_of c.args.events.now c.args.event = c.deref.ensures.value ∙ c.in_ok-clients.ensures in
    let size : length before ≡ length c.args.inlets.now.items = length-map c.args.inlets.now.items any_intake in
    let ok = c.args.inlets.now.ok.0 in
    let len = c.len.ensures in
    let index : c.len.result ≡ length before = omega (arith, len, ok, size) in
    let is : t
    ≡ fresh t.place c.args.event (clients_of c.args.events.now c.args.event) = c.in_ok-inlet.ensures.inlet ∙ ap (fresh t.place c.args.event) clients in
    let lane = c.in_ok-inlet.ensures.lane ∙ ap (λ (cs : List ℕ). eqb (length cs) 1) clients in
    let seats : AreSeated c.args.rooms.now (length before) t.place (clients_of c.args.events.now c.args.event) c.args.seats.now.items
    c.open_inlet.new.seats.items =
    subst
    (λ (i : ℕ). AreSeated c.args.rooms.now i t.place (clients_of c.args.events.now c.args.event) c.args.seats.now.items c.open_inlet.new.seats.items) index
    (subst (λ (cs : List ℕ). AreSeated c.args.rooms.now c.len.result t.place cs c.args.seats.now.items c.open_inlet.new.seats.items) clients
    c.in_ok-inlet.ensures.seats) in
    subst (λ (inlets : List Intake). AreOpen c.args.events.now c.args.rooms.now (c.args.event + 1) inlets c.open_inlet.new.seats.items)
    (sym (ap (map any_intake) c.in_ok-push.ensures.items ∙ map-append any_intake c.args.inlets.now.items (c.in_ok-inlet.inlet ∷ [])))
    (open_more c.args.events.now c.args.rooms.now c.args.event before t c.args.seats.now.items c.open_inlet.new.seats.items c.requires.before is lane seats)
