use Rattle.std.proofs.Common.{◌≡◌, ◌++◌, drop}
use Rattle.trace_page.specs.Spans.{bars}
use Rattle.trace_page.proofs.spans.add_bars.Given as goal

abbrev pub invariant-loop-span : goal.invariant-loop-span
invariant-loop-span l = l.out.items ++ bars l.change l.to (drop l.span-index l.spans) ≡ l.initial.out.items ++ bars l.change l.to l.spans
