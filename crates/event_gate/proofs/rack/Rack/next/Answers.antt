use Rattle.std.proofs.Common.{◌<◌, ◌∙◌, ap, arith, length-set, set, slice_get, subst, sym}
use Rattle.event_gate.proofs.ShelfLaws.{found_shelf, marks_put}
use Rattle.event_gate.specs.Shelves.{after_next, after_take_from, first_left}
use Rattle.lists.specs.EventMarks.{is_marked}
use Rattle.event_gate.proofs.rack.Rack.next.Goals as goal

pub invariant_of-self : goal.invariant_of-self
invariant_of-self g c = (
  length-set _ _ _ ∙ c.self.invariant.0,
  marks_put _ _ c.self.inside.shelves.items c.from.result _ c.self.invariant.1 (omega (arith, c.self.invariant.0))
      (λ low. ap (is_marked c.with_mark.result) c.from.ensures ∙ c.with_mark.ensures.here (subst (λ k. k < 64) c.from.ensures low) ∙ c.has_next.ensures)
      (λ i other. c.with_mark.ensures.others i (λ is. other (is ∙ sym c.from.ensures))),
)

pub returns-clause-item : goal.returns-clause-item
returns-clause-item g c =
    let there = found_shelf c.self.inside.shelves.items c.from.result c.index_mut-shelf.result.now (omega (arith, c.self.invariant.0))
    c.index_mut-shelf.ensures.value in
    c.next-item.ensures.item ∙ ap (λ s. slice_get s.left 0) there ∙ (λ k. first_left (c.self.view_is k) (c.from.ensures k))

pub returns-clause-after : goal.returns-clause-after
returns-clause-after g c =
    let there = found_shelf c.self.inside.shelves.items c.from.result c.index_mut-shelf.result.now (omega (arith, c.self.invariant.0))
    c.index_mut-shelf.ensures.value in
    ap (set c.self.inside.shelves.items c.from.result) (c.next-item.ensures.after ∙ ap after_next there)
    ∙ (λ k. after_take_from (c.self.view_is k) (c.from.ensures k))
