use Rattle.std.proofs.Common.{arith, sym, ◌∙◌}
use Rattle.script_run.proofs.ClientLaws.{counts-on}
use Rattle.script_run.proofs.clients.counts_after.Goals as goal

pub loop-client-preserved : goal.loop-client-preserved
loop-client-preserved c = c.in_ok-push.ensures.items
    ∙ counts-on c.loop-client.client c.args.texts.now c.args.played.now.takes c.loop-client.counts.items c.index-texts-client.result c.saturating_sub.result
    c.loop-client-test.true (sym c.index-texts-client.is) c.loop-client.invariant
    (omega (arith, c.saturating_sub.ensures, c.len.ensures, c.count_taken-taken.ensures))
