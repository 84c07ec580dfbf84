use Rattle.std.proofs.Common.{drop, ◌≡◌, ◌≤◌}
use Rattle.std.specs.Str.{all_ascii_digits}
use Rattle.batch.specs.Parts.{value_from}
use Rattle.batch.proofs.lines.value_at_most.Given as goal

abbrev pub invariant-loop-b : goal.invariant-loop-b
invariant-loop-b l = record {
  value : value_from l.n (drop l.b-index l.digits) ≡ value_from 0 l.digits;
  all_digits : all_ascii_digits (drop l.b-index l.digits) ≡ all_ascii_digits l.digits;
  small : l.n ≤ 16777216;
}
