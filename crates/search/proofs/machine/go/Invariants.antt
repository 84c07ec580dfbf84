use Rattle.search.proofs.Walks.{Going}
use Rattle.search.proofs.machine.go.Given as goal

abbrev pub invariant-loop-step : goal.invariant-loop-step
invariant-loop-step g l = Going (g.M.Machine.moves l.machine) (g.M.Machine.moves l.gone) (g.M.Machine.core l.gone) l.path l.step-index
