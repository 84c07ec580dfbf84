use Rattle.std.proofs.Common.{◌≡◌, drop}
use Rattle.trace_page.specs.Spans.{top_from}
use Rattle.trace_page.proofs.spans.top_level.Given as goal

abbrev pub invariant-loop-span : goal.invariant-loop-span
invariant-loop-span l = top_from l.level l.tid (drop l.span-index l.spans) ≡ top_from 0 l.tid l.spans
