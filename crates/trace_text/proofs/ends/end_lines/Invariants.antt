use Rattle.std.proofs.Common.{◌≡◌, ◌++◌, drop}
use Rattle.trace_text.specs.Lines.{halt_text, left_texts}
use Rattle.trace_text.proofs.ends.end_lines.Given as goal

abbrev pub invariant-loop-client : goal.invariant-loop-client
invariant-loop-client l = l.out.items ++ left_texts l.client (drop l.client l.left) ≡ halt_text l.turns l.halt ++ left_texts 0 l.left
