use Rattle.std.proofs.Common.{◌≡◌, rules, slice_index_or}
use Rattle.pod_runner.proofs.Lives.{told-more, untold}
use Rattle.pod_runner.proofs.inlets.all_told.Goals as goal

pub returns-then-not-told : goal.returns-then-not-told
returns-then-not-told g c =
    let is : slice_index_or c.args.inlets.now c.loop-inlet.inlet-index c.inlet-item.result ≡ c.inlet-item.result = search rules in (
      λ h. absurd (cc),
      λ all. absurd (untold g.I.Inlet.intake c.args.inlets.now c.loop-inlet.inlet-index c.inlet-item.result (search rules) is
          (λ told. let yes_told = c.told.ensures.1 told in absurd (cc)) all),
    )

pub loop-inlet-preserved : goal.loop-inlet-preserved
loop-inlet-preserved g c =
    let is : slice_index_or c.args.inlets.now c.loop-inlet.inlet-index c.inlet-item.result ≡ c.inlet-item.result = search rules in
    told-more g.I.Inlet.intake c.args.inlets.now c.loop-inlet.inlet-index c.inlet-item.result (search rules) is
    (c.told.ensures.0 (search rules)) c.loop-inlet.invariant
