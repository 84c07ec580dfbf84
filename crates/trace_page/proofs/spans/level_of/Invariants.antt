use Rattle.std.proofs.Common.{◌≡◌, drop}
use Rattle.trace_page.specs.Spans.{level_from}
use Rattle.trace_page.proofs.spans.level_of.Given as goal

abbrev pub invariant-loop-span : goal.invariant-loop-span
invariant-loop-span l = level_from l.level l.tid l.mon (drop l.span-index l.spans) ≡ level_from 0 l.tid l.mon l.spans
