use Rattle.std.proofs.Common.{◌≡◌, ◌++◌, drop}
use Rattle.trace_page.specs.Steps.{hop_shapes}
use Rattle.trace_page.proofs.steps.add_hop_shapes.Given as goal

abbrev pub invariant-loop-hop : goal.invariant-loop-hop
invariant-loop-hop l = l.out.items ++ hop_shapes l.at (drop l.hop-index l.hops) ≡ l.initial.out.items ++ hop_shapes l.at l.hops
