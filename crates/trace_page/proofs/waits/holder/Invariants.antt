use Rattle.std.proofs.Common.{◌≡◌, drop}
use Rattle.trace_page.specs.Waits.{holder}
use Rattle.trace_page.proofs.waits.holder.Given as goal

abbrev pub invariant-loop-span : goal.invariant-loop-span
invariant-loop-span l = holder l.mon (drop l.span-index l.spans) ≡ holder l.mon l.spans
