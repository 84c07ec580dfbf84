use Rattle.lwp_types.specs.Choice.{better_by}
use Rattle.lwp_types.specs.State.{priority_in}
use Rattle.snapshots.specs.Copies.{state_in}
use Rattle.state_text.proofs.Telling.{best_all, best_more}
use Rattle.state_text.proofs.turns.choice.Goals as goal

pub loop-i-preserved : goal.loop-i-preserved
loop-i-preserved c =
    best_more (priority_in (state_in c.args.pod.now.state)) c.loop-i.best _ c.args.pod.now.state.order c.loop-i.i c.loop-i.invariant
    c.get.result c.better.result (rw c.len-i-end.ensures at c.loop-i-test.true) (rw c.get.ensures at c.better.ensures)

pub returns : goal.returns
returns c = best_all (priority_in (state_in c.args.pod.now.state)) c.loop-i.best _ c.args.pod.now.state.order c.loop-i.i c.loop-i.invariant
    (rw c.len-i-end.ensures at c.loop-i-test.false)
