use Rattle.script_run.proofs.Back.{at_place, end_fits, hears, inside_of, tied_back}
use Rattle.script_run.proofs.outside.Outside.take_back.Goals as goal
use Rattle.event_gate.specs.Inlet.{EachInlet}
use Rattle.script_run.specs.Served.{Hears}
use Rattle.script_run.specs.Ends.{pass_posting}
use Rattle.script_run.specs.Ties.{AreTied, all_texts, any_intake, events_of, intakes}
use Rattle.std.proofs.Common.{subst, sym, ◌&&◌}
use Rattle.std.proofs.lemmas.List.{map-set}

pub take_in-requires-clause-place : goal.take_in-requires-clause-place
take_in-requires-clause-place g c =
    let o = c.args.self.now in
    let inside = inside_of (events_of o) (all_texts o) o.all o.out.items (intakes o) c.args.client c.requires in
    (end_fits (events_of o) (all_texts o) o.all o.out.items (intakes o) c.args.client (any_intake c.index_mut.result.now) c.end-pass.result
    c.requires (at_place o.inlets.items c.args.client.inlet c.index_mut.result.now inside c.index_mut.ensures.value) c.end-pass.ensures).0.place_is

pub take_in-requires-clause-client : goal.take_in-requires-clause-client
take_in-requires-clause-client g c =
    let o = c.args.self.now in
    let inside = inside_of (events_of o) (all_texts o) o.all o.out.items (intakes o) c.args.client c.requires in
    (end_fits (events_of o) (all_texts o) o.all o.out.items (intakes o) c.args.client (any_intake c.index_mut.result.now) c.end-pass.result
    c.requires (at_place o.inlets.items c.args.client.inlet c.index_mut.result.now inside c.index_mut.ensures.value) c.end-pass.ensures).1

pub returns-clause-tied : goal.returns-clause-tied
returns-clause-tied g c =
    let o = c.args.self.now in
    let all = c.end-pass.result.all in
    let inside = inside_of (events_of o) (all_texts o) o.all o.out.items (intakes o) c.args.client c.requires in
    let at = at_place o.inlets.items c.args.client.inlet c.index_mut.result.now inside c.index_mut.ensures.value in
    let fits = end_fits (events_of o) (all_texts o) o.all o.out.items (intakes o) c.args.client (any_intake c.index_mut.result.now)
    c.end-pass.result c.requires at c.end-pass.ensures in
    subst (AreTied (events_of o) (all_texts o) (o.all && all) o.out.items) (sym (map-set any_intake o.inlets.items c.args.client.inlet c.take_in.new.self))
    (tied_back (events_of o) (all_texts o) o.all o.out.items (intakes o) c.args.client (any_intake c.index_mut.result.now)
    (any_intake c.take_in.new.self) c.end-pass.result c.requires at fits.0 c.take_in.ensures)

pub returns-clause-inlets : goal.returns-clause-inlets
returns-clause-inlets g c =
    let o = c.args.self.now in
    let inside = inside_of (events_of o) (all_texts o) o.all o.out.items (intakes o) c.args.client c.requires in
    let at = at_place o.inlets.items c.args.client.inlet c.index_mut.result.now inside c.index_mut.ensures.value in
    subst (EachInlet Hears (intakes o)) (sym (map-set any_intake o.inlets.items c.args.client.inlet c.take_in.new.self))
    (hears (intakes o) c.args.client.inlet (any_intake c.index_mut.result.now) (any_intake c.take_in.new.self)
    (pass_posting c.end-pass.result.pass) inside at c.take_in.ensures)
