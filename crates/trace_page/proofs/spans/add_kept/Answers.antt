use Rattle.trace_text.proofs.Loops.{no_more, one_more}
use Rattle.trace_page.proofs.spans.add_kept.Goals as goal
use Rattle.trace_page.specs.Spans.{after}

pub loop-span-preserved : goal.loop-span-preserved
loop-span-preserved c = one_more (after c.args.change) c.loop-span.out.items _ c.args.spans.now c.loop-span.span-index c.loop-span.invariant
    c.add_after.new.out.items _ c.loop-span-test.true c.in_ok-add_after.ensures

pub returns : goal.returns
returns c = no_more (after c.args.change) c.loop-span.out.items _ c.args.spans.now c.loop-span.span-index c.loop-span.invariant c.loop-span-test.false
