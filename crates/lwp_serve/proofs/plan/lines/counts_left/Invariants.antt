use Rattle.std.proofs.Common.{◌≡◌, take}
use Rattle.pod_runner.specs.Trace.{left_counts_from}
use Rattle.lwp_serve.proofs.plan.lines.counts_left.Given as goal

abbrev pub invariant-loop-client : goal.invariant-loop-client
invariant-loop-client g l = l.counts.items ≡ left_counts_from 0 (take l.client l.clients) (g.G.Gate.stock l.gate)
