use Rattle.std.proofs.Common.{◌≡◌, drop}
use Rattle.trace_page.specs.Spans.{agent_of}
use Rattle.trace_page.proofs.spans.agent_of.Given as goal

abbrev pub invariant-loop-span : goal.invariant-loop-span
invariant-loop-span l = agent_of l.event (drop l.span-index l.spans) ≡ agent_of l.event l.spans
