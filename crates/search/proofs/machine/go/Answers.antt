use Rattle.search.proofs.Walks.{go_within}
use Rattle.search.proofs.machine.go.Goals as goal

pub step-requires : goal.step-requires
step-requires g c = go_within (g.M.Machine.moves c.args.machine.now) (g.M.Machine.moves c.loop-step.gone)
    (g.M.Machine.core c.loop-step.gone) c.args.path.now c.loop-step.step-index
    c.loop-step-test.true c.loop-step.invariant c.requires.leads
