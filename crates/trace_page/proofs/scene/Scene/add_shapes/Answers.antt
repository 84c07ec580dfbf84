use Rattle.std.proofs.Common.{ap, ◌∙◌, ◌≡◌}
use Rattle.trace_text.proofs.Loops.{no_more, one_more}
use Rattle.trace_page.proofs.scene.Scene.add_shapes.Goals as goal
use Rattle.trace_page.specs.Scene.{Seen}
use Rattle.trace_page.specs.Shapes.{shape_text}

pub loop-shape-preserved : goal.loop-shape-preserved
loop-shape-preserved c =
    let same : c.as_slice-shape-items.result.now ≡ c.args.self.now.shapes = c.as_slice-shape-items.ensures.value ∙ ap (λ (s : Seen). s.shapes) c.self.view_is in
    one_more (shape_text c.args.self.now c.args.line.now) c.loop-shape.out.items _ c.args.self.now.shapes c.loop-shape.shape-index
    c.loop-shape.invariant c.add_shape.new.out.items _ (rw same at c.loop-shape-test.true) (rw same at c.in_ok-add_shape.ensures)

pub returns : goal.returns
returns c =
    let same : c.as_slice-shape-items.result.now ≡ c.args.self.now.shapes = c.as_slice-shape-items.ensures.value ∙ ap (λ (s : Seen). s.shapes) c.self.view_is in
    no_more (shape_text c.args.self.now c.args.line.now) c.loop-shape.out.items _ c.args.self.now.shapes c.loop-shape.shape-index
    c.loop-shape.invariant (rw same at c.loop-shape-test.false)
