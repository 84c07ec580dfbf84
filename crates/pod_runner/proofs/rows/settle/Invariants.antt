use Rattle.std.proofs.Common.{◌≡◌, drop}
use Rattle.pod_runner.specs.Session.{after_settle}
use Rattle.pod_runner.proofs.rows.settle.Given as goal

abbrev pub invariant-loop-i : goal.invariant-loop-i
invariant-loop-i g l =
    let bodies = g.P.Program.bodies l.program in
    record l.rows { rows = after_settle bodies l.born (drop l.i l.effects) l.rows.rows }
    ≡ record l.initial.rows { rows = after_settle bodies l.born l.effects l.initial.rows.rows }
