use Rattle.std.proofs.Common.{◌<◌, ◌∙◌, ap, arith, length-set, set, subst, sym}
use Rattle.event_gate.proofs.ShelfLaws.{found_shelf, marks_put, on_err, one_more_left, set_same}
use Rattle.lists.specs.EventMarks.{is_marked}
use Rattle.std.specs.Prelude.{is_some, slice_get}
use Rattle.event_gate.proofs.rack.Rack.add.Goals as goal

pub invariant_of-self : goal.invariant_of-self
invariant_of-self g c =
    rw (
      c.in_err-add.ensures.err
          ∙ found_shelf c.self.inside.shelves.items c.from.result c.index_mut.result.now (omega (arith, c.self.invariant.0)) c.index_mut.ensures.value,
      set_same c.self.inside.shelves.items c.from.result,
    )
    c.self.invariant

pub returns-in_err-add-clause-err : goal.returns-in_err-add-clause-err
returns-in_err-add-clause-err g c =
    let there = found_shelf c.self.inside.shelves.items c.from.result c.index_mut.result.now (omega (arith, c.self.invariant.0)) c.index_mut.ensures.value in
    on_err c.from_residual.result (ap (set c.self.inside.shelves.items c.from.result) (c.in_err-add.ensures.err ∙ there)
    ∙ set_same c.self.inside.shelves.items c.from.result ∙ c.self.view_is)

pub invariant_of-self-2 : goal.invariant_of-self-2
invariant_of-self-2 g c = (
  length-set _ _ _ ∙ c.self.invariant.0,
  marks_put _ _ c.self.inside.shelves.items c.from.result _ c.self.invariant.1 (omega (arith, c.self.invariant.0))
      (λ low. ap (is_marked c.with_mark-self-inside.result) c.from.ensures
      ∙ c.with_mark-self-inside.ensures.here (subst (λ k. k < 64) c.from.ensures low)
      ∙ sym (ap (λ s. is_some (slice_get s.left 0)) c.in_ok-add.ensures.ok ∙ one_more_left c.index_mut.result.now c.args.item))
      (λ i other. c.with_mark-self-inside.ensures.others i (λ is. other (is ∙ sym c.from.ensures))),
)
