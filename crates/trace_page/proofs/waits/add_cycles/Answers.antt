use Rattle.trace_page.proofs.EachLaws.{no_number, one_number}
use Rattle.trace_page.proofs.waits.add_cycles.Goals as goal

pub loop-start-preserved : goal.loop-start-preserved
loop-start-preserved c =
    one_number _ c.loop-start.out.items _ c.loop-start.start _ c.loop-start.invariant c.loop-start-test.true c.add_cycle.new.out.items c.in_ok-add_cycle.ensures

pub returns : goal.returns
returns c = no_number _ c.loop-start.out.items _ c.loop-start.start _ c.loop-start.invariant c.loop-start-test.false
