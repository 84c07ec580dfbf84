use Rattle.std.proofs.Common.{◌≡◌, ◌++◌, drop}
use Rattle.trace_page.specs.Spans.{spans_after}
use Rattle.trace_page.proofs.spans.add_kept.Given as goal

abbrev pub invariant-loop-span : goal.invariant-loop-span
invariant-loop-span l = l.out.items ++ spans_after l.change (drop l.span-index l.spans) ≡ l.initial.out.items ++ spans_after l.change l.spans
