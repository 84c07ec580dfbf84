use Rattle.std.proofs.Common.{◌≡◌, ◌++◌, drop}
use Rattle.std.specs.Prelude.{map}
use Rattle.script_advice.specs.Texts.{shown_byte}
use Rattle.script_advice.proofs.texts.add_shown.Given as goal

abbrev pub invariant-loop-byte : goal.invariant-loop-byte
invariant-loop-byte l = l.out.items ++ map shown_byte (drop l.byte-index l.bytes) ≡ l.initial.out.items ++ map shown_byte l.bytes
