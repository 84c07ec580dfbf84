use Rattle.monitors.proofs.LinkLaws.{found_lock}
use Rattle.monitors.proofs.locks.Locks.lock_of.Goals as goal
use Rattle.monitors.specs.Slots.{lock_in}
use Rattle.std.proofs.Common.{ap, sym, ◌∙◌}

pub returns-in_err-slot : goal.returns-in_err-slot
returns-in_err-slot c =
    let l = c.args.self.now in
    c.from_residual.ensures ∙ ap (lock_in l.slots.items) (rw c.key_of.ensures at c.in_err-slot.ensures)
    ∙ sym (found_lock l.slots.items l.held c.requires.tied.by_monitor c.requires.once c.args.mon)

pub returns : goal.returns
returns c =
    let l = c.args.self.now in
    (rw c.deref.ensures.value at c.lock_at.ensures) ∙ ap (lock_in l.slots.items) (rw c.key_of.ensures at c.in_ok-slot.ensures)
    ∙ sym (found_lock l.slots.items l.held c.requires.tied.by_monitor c.requires.once c.args.mon)
