use Rattle.script_run.proofs.Back.{at_place}
use Rattle.script_run.proofs.Draining.{one_gave}
use Rattle.script_run.proofs.Ties.{draws_keep_ties}
use Rattle.tests_of_inlets.proofs.three_clients.drain.Goals as goal
use Rattle.event_gate.specs.Inlet.{EachInlet}
use Rattle.script_run.specs.Served.{Gave}
use Rattle.script_run.specs.Ties.{all_texts, any_intake, events_of, intakes}
use Rattle.std.proofs.Common.{arith, length, map, set, subst, sym, ◌<◌}
use Rattle.std.proofs.lemmas.List.{length-map, map-set}

pub loop-place-preserved : goal.loop-place-preserved
loop-place-preserved g c =
    let o = c.loop-place.outside in
    let k = c.loop-place.place in
    let i = c.loop-place.invariant in
    let below = c.loop-place-test.true in
    let end = c.len-place-end.ensures in
    let same = i.1 in
    let size = o.inlets.ok.0 in
    let mapped = length-map o.inlets.items any_intake in
    let inside : k < length (intakes o) = omega (arith, below, end, same, size, mapped) in
    let at = at_place o.inlets.items k c.index_mut.result.now inside c.index_mut.ensures.value in
    let gave = one_gave (intakes o) k (any_intake c.index_mut.result.now) (any_intake c.drain_one.new.inlet) inside at c.drain_one.ensures in (
      draws_keep_ties (events_of o) (all_texts o) o.all o.out.items (intakes o) (map any_intake (set o.inlets.items k c.drain_one.new.inlet)) i.0
          (subst (EachInlet Gave (intakes o)) (sym (map-set any_intake o.inlets.items k c.drain_one.new.inlet)) gave),
      same,
    )
