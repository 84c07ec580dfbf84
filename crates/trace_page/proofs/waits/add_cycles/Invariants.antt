use Rattle.std.proofs.Common.{◌≡◌, ◌++◌, ◌-◌}
use Rattle.trace_page.specs.Waits.{cycle, cycles, each_from}
use Rattle.trace_page.proofs.waits.add_cycles.Given as goal

abbrev pub invariant-loop-start : goal.invariant-loop-start
invariant-loop-start l = l.out.items ++ each_from (λ start. cycle l.links start) l.start (l.count - l.start) ≡ l.initial.out.items ++ cycles l.links
