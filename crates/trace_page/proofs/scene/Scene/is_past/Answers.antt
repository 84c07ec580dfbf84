use Rattle.std.proofs.Common.{refl, sym}
use Rattle.trace_page.proofs.scene.Scene.is_past.Goals as goal

pub returns-then-is_call : goal.returns-then-is_call
returns-then-is_call c = rw (sym c.self.view_is) (rw c.if-self.false (rw (sym c.if-is_call.ensures) refl))
