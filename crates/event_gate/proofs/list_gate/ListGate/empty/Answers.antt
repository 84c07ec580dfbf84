use Rattle.std.proofs.Common.{◌≡◌, ℕ, replicate, ap, sym, ◌∙◌, length}
use Rattle.event_gate.specs.Shelves.{Shelf, bare, left_of_client}
use Rattle.lwp_types.specs.declared.call.Line.{Line}
use Rattle.std.specs.List.{slice_index}
use Rattle.std.proofs.lemmas.List.{length-replicate}
use Rattle.event_gate.proofs.ShelfLaws.{no_counts}
use Rattle.event_gate.proofs.list_gate.ListGate.empty.Goals as goal

pub invariant_of-result : goal.invariant_of-result
invariant_of-result c =
    let zeros : c.in_ok-left.left.items ≡ replicate 256 0 = c.in_ok-left.ensures.items_if_clones_equal (λ y e. e) in (
      ap length c.in_ok-rack.ensures ∙ length-replicate {A = Shelf Line} 256 bare,
      ap length zeros ∙ length-replicate {A = ℕ} 256 0,
      λ k. ap (λ l. slice_index l k) zeros ∙ no_counts k ∙ ap (left_of_client k) (sym c.in_ok-rack.ensures),
    )
