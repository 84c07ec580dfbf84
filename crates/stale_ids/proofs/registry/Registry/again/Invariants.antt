use Rattle.stale_ids.proofs.CopyLemmas.{IsCopied}
use Rattle.stale_ids.proofs.registry.Registry.again.Given as goal

abbrev pub invariant-loop-at : goal.invariant-loop-at
invariant-loop-at g l = IsCopied l.self l.copy l.at
