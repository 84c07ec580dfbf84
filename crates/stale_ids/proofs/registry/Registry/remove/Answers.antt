use Rattle.std.proofs.Common.{sym, ◌∙◌, arith}
use Rattle.stale_ids.proofs.IndexLemmas.{value_of_absent, without_absent, found_value, found_full, found_without, found_apart, pairs-others}
use Rattle.stale_ids.proofs.IndexLemmas.{IsSound-remove, value_of-without}
use Rattle.stale_ids.specs.Index.{pairs}
use Rattle.stale_ids.proofs.registry.Registry.remove.Goals as goal

pub returns-in_err-at-clause-value : goal.returns-in_err-at-clause-value
returns-in_err-at-clause-value g c =
    rw (c.from_residual.ensures, ← c.self.view_is) (sym (value_of_absent _ _ _ (rw c.deref.ensures.value at c.in_err-at.ensures.absent)))

pub returns-in_err-at-clause-rest : goal.returns-in_err-at-clause-rest
returns-in_err-at-clause-rest g c =
    rw (← c.self.view_is, without_absent c.self.inside.values.slots c.self.inside.index.items c.args.n (rw c.deref.ensures.value at c.in_err-at.ensures.absent))

pub remove-place-requires : goal.remove-place-requires
remove-place-requires g c =
    let at = rw c.deref.ensures.value at c.in_ok-at.ensures.found in
    omega (arith, at.within)

pub remove-requires : goal.remove-requires
remove-requires g c =
    let at = rw c.deref.ensures.value at c.in_ok-at.ensures.found in
    found_full _ _ c.self.invariant.rising c.self.invariant.full _ _ _ at c.remove-place.ensures.value

pub invariant_of-self : goal.invariant_of-self
invariant_of-self g c =
    let at = rw c.deref.ensures.value at c.in_ok-at.ensures.found in
    let sound = c.self.invariant in
    let apart = found_apart _ _ sound.rising sound.full _ _ _ at c.remove-place.ensures.value in
    rw (c.remove-place.ensures.items, c.remove-place.ensures.capacity, c.remove.ensures.capacity)
    (IsSound-remove _ _ _ _ _ _ _ _ _ _ c.remove.ensures.updates.others at.within apart c.remove.ensures.len sound)

pub returns-clause-value : goal.returns-clause-value
returns-clause-value g c =
    let at = rw c.deref.ensures.value at c.in_ok-at.ensures.found in
    let sound = c.self.invariant in
    rw (← c.self.view_is) (sym (found_value _ _ sound.rising sound.full _ _ _ at c.remove-place.ensures.value ∙ c.remove.ensures.value))

pub returns-clause-rest : goal.returns-clause-rest
returns-clause-rest g c =
    let at = rw c.deref.ensures.value at c.in_ok-at.ensures.found in
    let sound = c.self.invariant in
    let es = c.self.inside.index.items in
    let slots = c.self.inside.values.slots in
    let apart = found_apart slots es sound.rising sound.full _ _ _ at c.remove-place.ensures.value in
    rw (
      ← c.self.view_is,
      c.remove-place.ensures.items,
      found_without slots es sound.rising sound.full c.args.n _ _ at c.remove-place.ensures.value,
      pairs-others slots c.remove.new.self.slots _ c.remove.ensures.updates.others _ apart,
    )

pub returns-in_err-at-clause-gone : goal.returns-in_err-at-clause-gone
returns-in_err-at-clause-gone g c =
    rw (← c.self.view_is) (value_of_absent _ _ _ (rw c.deref.ensures.value at c.in_err-at.ensures.absent))

pub returns-clause-gone : goal.returns-clause-gone
returns-clause-gone g c =
    let at = rw c.deref.ensures.value at c.in_ok-at.ensures.found in
    let sound = c.self.invariant in
    let es = c.self.inside.index.items in
    let slots = c.self.inside.values.slots in
    let apart = found_apart slots es sound.rising sound.full _ _ _ at c.remove-place.ensures.value in
    rw (
      c.remove-place.ensures.items,
      pairs-others slots c.remove.new.self.slots _ c.remove.ensures.updates.others _ apart,
      ← found_without slots es sound.rising sound.full c.args.n _ _ at c.remove-place.ensures.value,
    )
    (value_of-without c.args.n (pairs slots es))
