use Rattle.std.proofs.Common.{refl, sym, true, ◌≡◌}
use Rattle.trace_page.proofs.scene.Scene.tell.Goals as goal
use Rattle.trace_page.specs.Steps.{after_entry, is_past}

pub returns-then-is_past : goal.returns-then-is_past
unfolding after_entry
returns-then-is_past c =
    let past : is_past c.args.entry c.args.self.now ≡ true = rw (sym c.self.view_is) (sym c.if-is_past.ensures) in
    rw past (rw (sym c.self.view_is) (rw c.clear.ensures.items refl))
