use Rattle.std.proofs.Common.{◌≡◌, ◌<◌, ◌^◌, drop}
use Rattle.trace_lines.specs.Words.{value_after}
use Rattle.trace_lines.proofs.words.value_of.Given as goal

abbrev pub invariant-loop-b : goal.invariant-loop-b
invariant-loop-b l = record {
  value : value_after l.n (drop l.b-index l.digits) ≡ value_after 0 l.digits;
  small : l.n < 2 ^ 64;
}
