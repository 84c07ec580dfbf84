use Rattle.tests_of_inlets.proofs.three_clients.take_while_posting.Given as goal
use Rattle.script_run.specs.Ties.{IsTied}

abbrev pub invariant-loop : goal.invariant-loop
invariant-loop g l =
    (goal.iterator-loop g).can_next l.iterator'
    × (goal.iterator-loop g).is_finite l.iterator'
    × IsTied l.outside
