use Rattle.std.proofs.Common.{◌≡◌, ◌<◌, ◌^◌, drop}
use Rattle.std.specs.Str.{all_ascii_digits}
use Rattle.script_lines.specs.Words.{value_after}
use Rattle.lwp_serve.proofs.maker.order.long_value_of.Given as goal

abbrev pub invariant-loop-b : goal.invariant-loop-b
invariant-loop-b l = record {
  value : value_after l.n (drop l.b-index l.digits) ≡ value_after 0 l.digits;
  all_digits : all_ascii_digits (drop l.b-index l.digits) ≡ all_ascii_digits l.digits;
  small : l.n < 2 ^ 64;
}
