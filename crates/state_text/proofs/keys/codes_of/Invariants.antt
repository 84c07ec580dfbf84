use Rattle.state_text.specs.Keys.{codes_from}
use Rattle.std.proofs.Common.{drop, ◌++◌, ◌≡◌}
use Rattle.state_text.proofs.keys.codes_of.Given as goal

abbrev pub invariant-loop-i : goal.invariant-loop-i
invariant-loop-i l = l.codes.items ++ codes_from l.i (drop l.i l.keys) ≡ codes_from 0 l.keys
