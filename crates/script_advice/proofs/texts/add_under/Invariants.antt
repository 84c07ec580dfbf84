use Rattle.std.proofs.Common.{◌≡◌, ◌++◌, drop}
use Rattle.std.specs.Prelude.{map}
use Rattle.script_advice.specs.Texts.{under}
use Rattle.script_advice.proofs.texts.add_under.Given as goal

abbrev pub invariant-loop-byte : goal.invariant-loop-byte
invariant-loop-byte l = l.out.items ++ map under (drop l.byte-index l.bytes) ≡ l.initial.out.items ++ map under l.bytes
