use Rattle.snapshots.specs.Copies.{state_in}
use Rattle.state_text.specs.Text.{monitor_lines}
use Rattle.trace_text.proofs.Loops.{no_more, one_more}
use Rattle.state_text.proofs.parts.add_monitors.Goals as goal

pub loop-i-preserved : goal.loop-i-preserved
loop-i-preserved c =
    one_more (monitor_lines (state_in c.args.pod.now.state)) c.loop-i.out.items _ c.args.pod.now.state.monitors c.loop-i.i
    c.loop-i.invariant c.add_monitor.new.out.items c.get.result (rw c.len-i-end.ensures at c.loop-i-test.true)
    (rw c.get.ensures at c.in_ok-add_monitor.ensures)

pub returns : goal.returns
returns c =
    no_more (monitor_lines (state_in c.args.pod.now.state)) c.loop-i.out.items _ c.args.pod.now.state.monitors c.loop-i.i c.loop-i.invariant
    (rw c.len-i-end.ensures at c.loop-i-test.false)
