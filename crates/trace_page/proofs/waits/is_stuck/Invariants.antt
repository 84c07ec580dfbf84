use Rattle.std.proofs.Common.{◌≡◌, drop}
use Rattle.trace_page.specs.Waits.{is_stuck}
use Rattle.trace_page.proofs.waits.is_stuck.Given as goal

abbrev pub invariant-loop-hop : goal.invariant-loop-hop
invariant-loop-hop l = is_stuck l.id (drop l.hop-index l.hops) ≡ is_stuck l.id l.hops
