use Rattle.state_text.proofs.Telling.{place_all, place_more}
use Rattle.state_text.specs.Text.{cycle_line}
use Rattle.std.proofs.Common.{List, ap, refl, ℕ, ◌++◌, ◌∙◌}
use Rattle.std.specs.List.{flat_map}
use Rattle.state_text.proofs.cycles.add_each.Goals as goal

pub loop-i-preserved : goal.loop-i-preserved
loop-i-preserved c =
    place_more (λ _ l. flat_map cycle_line l) (λ (n : ℕ) (cycle : List ℕ). cycle_line cycle) (λ n. refl) (λ n x xs. refl) c.loop-i.out.items
    _ c.args.found.now c.loop-i.i c.loop-i.invariant c.add_cycle.new.out.items c.index-found-i.result c.loop-i-test.true
    (c.in_ok-add_cycle.ensures ∙ ap (λ cycle. c.loop-i.out.items ++ cycle_line cycle) c.index-found-i.is)

pub returns : goal.returns
returns c =
    place_all (λ _ l. flat_map cycle_line l) (λ (n : ℕ) (cycle : List ℕ). cycle_line cycle) (λ n. refl) (λ n x xs. refl) c.loop-i.out.items
    _ c.args.found.now c.loop-i.i c.loop-i.invariant c.loop-i-test.false
