use Rattle.std.proofs.Common.{◌≡◌, ◌++◌, drop}
use Rattle.trace_page.specs.Shapes.{shapes_text}
use Rattle.trace_page.proofs.scene.Scene.add_shapes.Given as goal

abbrev pub invariant-loop-shape : goal.invariant-loop-shape
invariant-loop-shape l = l.out.items ++ shapes_text l.self (l.line) (drop l.shape-index l.self.shapes)
    ≡ l.initial.out.items ++ shapes_text l.self l.line l.self.shapes
