use Rattle.trace_text.proofs.Loops.{no_more, one_more}
use Rattle.trace_page.proofs.steps.add_hop_shapes.Goals as goal
use Rattle.trace_page.specs.Steps.{hop_shape}

pub loop-hop-preserved : goal.loop-hop-preserved
loop-hop-preserved c = one_more (hop_shape c.args.at) c.loop-hop.out.items _ c.args.hops.now c.loop-hop.hop-index c.loop-hop.invariant
    c.add_hop_shape.new.out.items _ c.loop-hop-test.true c.in_ok-add_hop_shape.ensures

pub returns : goal.returns
returns c = no_more (hop_shape c.args.at) c.loop-hop.out.items _ c.args.hops.now c.loop-hop.hop-index c.loop-hop.invariant c.loop-hop-test.false
