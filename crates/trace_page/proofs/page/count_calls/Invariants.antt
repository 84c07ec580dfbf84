use Rattle.std.proofs.Common.{◌≡◌, ◌≤◌, ◌+◌, length}
use Rattle.trace_page.specs.Page.{calls_of, whole_lines}
use Rattle.trace_page.proofs.page.count_calls.Given as goal

abbrev pub invariant-loop-rest : goal.invariant-loop-rest
invariant-loop-rest l = record {
  counted : l.calls + calls_of (whole_lines l.rest) ≡ calls_of (whole_lines l.text);
  room : l.calls + length l.rest ≤ length l.text;
}

abbrev pub decreases-loop-rest : goal.decreases-loop-rest
decreases-loop-rest l = length l.rest
