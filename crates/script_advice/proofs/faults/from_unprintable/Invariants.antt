use Rattle.std.proofs.Common.{◌≡◌, length}
use Rattle.script_advice.specs.Faults.{from_unprintable}
use Rattle.script_advice.proofs.faults.from_unprintable.Given as goal

abbrev pub invariant-loop-rest : goal.invariant-loop-rest
invariant-loop-rest l = from_unprintable l.rest ≡ from_unprintable l.line

abbrev pub decreases-loop-rest : goal.decreases-loop-rest
decreases-loop-rest l = length l.rest
