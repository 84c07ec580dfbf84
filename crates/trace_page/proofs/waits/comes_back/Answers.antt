use Rattle.trace_page.proofs.WaitLaws.{goes_on}
use Rattle.trace_page.proofs.waits.comes_back.Goals as goal

pub loop-left-preserved : goal.loop-left-preserved
loop-left-preserved c = goes_on c.args.links.now c.args.start c.loop-left.left c.loop-left.at c.link_at-next.result c.link_at-next.ensures
    c.loop-left-test.true c.if-next-start.false c.if-links-next.false _ c.loop-left.invariant
