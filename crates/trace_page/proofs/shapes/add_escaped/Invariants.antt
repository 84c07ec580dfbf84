use Rattle.std.proofs.Common.{◌≡◌, ◌++◌, drop}
use Rattle.trace_page.specs.Shapes.{escaped_text}
use Rattle.trace_page.proofs.shapes.add_escaped.Given as goal

abbrev pub invariant-loop-byte : goal.invariant-loop-byte
invariant-loop-byte l = l.out.items ++ escaped_text (drop l.byte-index l.text) ≡ l.initial.out.items ++ escaped_text l.text
