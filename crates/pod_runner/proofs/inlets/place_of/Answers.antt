use Rattle.std.proofs.Common.{◌≡◌, ◌-◌, length, rules, slice_index_or}
use Rattle.pod_runner.proofs.Lives.{below-last, below-more}
use Rattle.pod_runner.proofs.inlets.place_of.Goals as goal

pub returns-then-event-clause-below : goal.returns-then-event-clause-below
returns-then-event-clause-below g c =
    let is : slice_index_or c.args.inlets.now (length c.args.inlets.now - 1) c.index-inlets-places.result ≡ c.index-inlets-places.result = search rules in
    below-last g.I.Inlet.intake c.args.inlets.now c.args.from c.args.event c.index-inlets-places.result c.requires.rise (search rules) is (search rules)

pub loop-i-preserved : goal.loop-i-preserved
loop-i-preserved g c =
    let is : slice_index_or c.args.inlets.now c.loop-i.i c.index-inlets-i.result ≡ c.index-inlets-i.result = search rules in (
      search rules,
      below-more g.I.Inlet.intake c.args.inlets.now c.args.from c.loop-i.i c.args.event c.index-inlets-i.result (search rules) is
          (search rules) c.loop-i.invariant.1,
    )
