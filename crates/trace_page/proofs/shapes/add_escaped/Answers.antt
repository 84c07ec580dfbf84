use Rattle.trace_text.proofs.Loops.{no_more, one_more}
use Rattle.trace_page.proofs.shapes.add_escaped.Goals as goal
use Rattle.trace_page.specs.Shapes.{escaped_byte}

pub loop-byte-preserved : goal.loop-byte-preserved
loop-byte-preserved c = one_more escaped_byte c.loop-byte.out.items _ c.args.text.now c.loop-byte.byte-index c.loop-byte.invariant
    c.add_escaped_byte.new.out.items _ c.loop-byte-test.true c.in_ok-add_escaped_byte.ensures

pub returns : goal.returns
returns c = no_more escaped_byte c.loop-byte.out.items _ c.args.text.now c.loop-byte.byte-index c.loop-byte.invariant c.loop-byte-test.false
