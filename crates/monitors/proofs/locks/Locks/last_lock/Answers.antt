use Rattle.lwp_types.specs.MonitorRelease.{is_owned_by}
use Rattle.monitors.proofs.SlotLaws.{last_found}
use Rattle.monitors.proofs.locks.Locks.last_lock.Goals as goal
use Rattle.monitors.specs.Slots.{lock_in}
use Rattle.std.proofs.Common.{ap, sym, ◌∙◌}
use Rattle.lists.specs.ThreadIndex.{place_of}

pub returns-in_err-slot : goal.returns-in_err-slot
returns-in_err-slot c =
    let slots = c.args.self.now.slots.items in
    c.from_residual.ensures ∙ ap (lock_in slots) c.in_err-slot.ensures
    ∙ sym (last_found (is_owned_by c.args.tid) slots (place_of c.args.self.now.last c.args.tid) (c.requires.by_owner.each c.args.tid))

pub returns : goal.returns
returns c =
    let slots = c.args.self.now.slots.items in
    (rw c.deref.ensures.value at c.lock_at.ensures) ∙ ap (lock_in slots) c.in_ok-slot.ensures
    ∙ sym (last_found (is_owned_by c.args.tid) slots (place_of c.args.self.now.last c.args.tid) (c.requires.by_owner.each c.args.tid))
