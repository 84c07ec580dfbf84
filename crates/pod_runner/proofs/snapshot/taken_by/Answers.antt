use Rattle.pod_runner.proofs.snapshot.taken_by.Goals as goal
use Rattle.pod_runner.specs.Snapshots.{taken_of}
use Rattle.std.proofs.Common.{[], ap, arith, sym, ◌++◌, ◌∙◌, ◌∷◌}
use Rattle.std.proofs.lemmas.List.FromFn.{map-range_with_len_more}

pub loop-client-preserved : goal.loop-client-preserved
loop-client-preserved c =
    let takes = c.args.takes.now in
    let client = c.loop-client.client in
    c.in_ok-push.ensures.ok ∙ ap (λ n. c.loop-client.counts ++ n ∷ []) c.count_of.ensures
    ∙ ap (λ counts. counts ++ taken_of takes client ∷ []) c.loop-client.invariant
    ∙ sym (map-range_with_len_more (taken_of takes) 0 client client (omega arith))
