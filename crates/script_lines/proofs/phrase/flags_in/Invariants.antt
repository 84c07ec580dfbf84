use Rattle.std.proofs.Common.{◌≡◌, drop}
use Rattle.script_lines.specs.Reading.{flags_in}
use Rattle.script_lines.proofs.phrase.flags_in.Given as goal

abbrev pub invariant-loop-flags : goal.invariant-loop-flags
invariant-loop-flags l = flags_in (drop l.flags-index l.all) l.word ≡ flags_in l.all l.word
