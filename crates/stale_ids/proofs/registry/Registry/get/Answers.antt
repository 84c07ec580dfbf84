use Rattle.std.proofs.Common.{sym, ◌∙◌}
use Rattle.stale_ids.proofs.IndexLemmas.{AreRising-pairs, found_value, value_of_absent}
use Rattle.stale_ids.proofs.registry.Registry.get.Goals as goal

pub returns-in_err-at-clause-value : goal.returns-in_err-at-clause-value
returns-in_err-at-clause-value g c =
    rw (c.from_residual.ensures, ← c.self.view_is) (sym (value_of_absent _ _ _ (rw c.deref.ensures.value at c.in_err-at.ensures.absent)))

pub returns-clause-value : goal.returns-clause-value
returns-clause-value g c =
    rw (← c.self.view_is) (c.get.ensures
    ∙ sym (found_value _ _ c.self.invariant.rising c.self.invariant.full _ _ _ (rw c.deref.ensures.value at c.in_ok-at.ensures.found) c.index.ensures))

pub returns-in_err-at-clause-rising : goal.returns-in_err-at-clause-rising
returns-in_err-at-clause-rising g c =
    rw (← c.self.view_is) (AreRising-pairs c.self.inside.values.slots c.self.inside.index.items c.self.invariant.rising)

pub returns-clause-rising : goal.returns-clause-rising
returns-clause-rising g c =
    rw (← c.self.view_is) (AreRising-pairs c.self.inside.values.slots c.self.inside.index.items c.self.invariant.rising)
