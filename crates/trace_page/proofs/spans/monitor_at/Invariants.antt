use Rattle.std.proofs.Common.{◌≡◌, drop}
use Rattle.trace_page.specs.Spans.{last_from}
use Rattle.trace_page.proofs.spans.monitor_at.Given as goal

abbrev pub invariant-loop-span : goal.invariant-loop-span
invariant-loop-span l = last_from l.found l.tid l.level (drop l.span-index l.spans) ≡ last_from 18446744073709551615 l.tid l.level l.spans
