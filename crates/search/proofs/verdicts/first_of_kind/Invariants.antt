use Rattle.search.specs.Verdicts.{HasNoKind}
use Rattle.search.proofs.verdicts.first_of_kind.Given as goal

abbrev pub invariant-loop-number : goal.invariant-loop-number
invariant-loop-number l = HasNoKind l.rows l.number
