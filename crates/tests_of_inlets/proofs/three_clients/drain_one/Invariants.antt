use Rattle.tests_of_inlets.proofs.three_clients.drain_one.Given as goal
use Rattle.script_run.specs.Served.{Gave}
use Rattle.script_run.specs.Ties.{any_intake}

abbrev pub invariant-loop : goal.invariant-loop
invariant-loop g l =
    (goal.iterator-loop g).can_next l.iterator'
    × (goal.iterator-loop g).is_finite l.iterator'
    × Gave (any_intake l.fn.inlet) (any_intake l.inlet)
