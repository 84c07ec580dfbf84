use Rattle.monitors.proofs.requests.machine_rows.Given as goal
use Rattle.monitors.specs.MonitorTable.{machine_row}
use Rattle.monitors.specs.Requests.{request_of}
use Rattle.std.proofs.Common.{map, take, ◌≡◌}

abbrev pub invariant-loop-waiting : goal.invariant-loop-waiting
invariant-loop-waiting l = l.rows ≡ map machine_row (map request_of (take l.waiting-index l.line))
