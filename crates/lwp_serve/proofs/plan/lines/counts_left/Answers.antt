use Rattle.std.proofs.Common.{[], ap, sym, take, ◌++◌, ◌∙◌, ◌∷◌}
use Rattle.lwp_serve.proofs.Planning.LineLaws.{left-next}
use Rattle.pod_runner.specs.Trace.{left_counts_from}
use Rattle.lwp_serve.proofs.plan.lines.counts_left.Goals as goal

pub loop-client-preserved : goal.loop-client-preserved
loop-client-preserved g c =
    let stock = g.G.Gate.stock c.args.gate.now in
    c.in_ok-push.ensures.items
    ∙ ap (λ counts. counts ++ c.left.result ∷ []) c.loop-client.invariant
    ∙ ap (λ n. left_counts_from 0 (take c.loop-client.client c.args.clients.now) stock ++ n ∷ []) c.left.ensures
    ∙ sym (left-next c.loop-client.client c.args.clients.now stock c.loop-client-test.true)
