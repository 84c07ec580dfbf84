use Rattle.trace_page.proofs.WaitLaws.{hop_more}
use Rattle.trace_page.proofs.waits.add_hops.Goals as goal

pub loop-left-preserved : goal.loop-left-preserved
loop-left-preserved c = hop_more c.args.links.now c.args.start c.loop-left.left c.loop-left.at c.loop-left.begins c.link_at-link.result
    c.link_at.result c.link_at-link.ensures c.link_at.ensures c.loop-left-test.true c.if-next-start.false c.loop-left.out.items
    c.push.new.self.items _ c.in_ok-push.ensures.items c.loop-left.invariant
