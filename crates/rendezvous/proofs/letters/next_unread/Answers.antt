use Rattle.rendezvous.proofs.Chosen.{absent, none_open, open_first, open_none, present}
use Rattle.rendezvous.proofs.letters.next_unread.Goals as goal
use Rattle.std.proofs.Common.{sym, ◌∙◌}

pub returns-in_default : goal.returns-in_default
returns-in_default c = rw c.in_default.is (c.first_unread.ensures c.args.slots.now.items c.requires.filed)

pub returns-in_err-slot : goal.returns-in_err-slot
returns-in_err-slot c =
    rw (c.in-Some.is, c.from_residual.ensures)
    (none_open c.args.slots.now.items c.requires.once c.args.to c.in-Some.sender
    (absent c.args.slots.now.items c.args.directory.now c.in-Some.sender c.requires.filed (sym c.in_err-slot.ensures)))

pub returns-then-is_unread_by : goal.returns-then-is_unread_by
returns-then-is_unread_by c =
    rw c.in-Some.is
    (open_first c.args.slots.now.items c.requires.once c.args.to c.in-Some.sender c.in_ok-slot.slot
    (present c.args.slots.now.items c.args.directory.now c.in-Some.sender c.in_ok-slot.slot c.requires.filed (sym c.in_ok-slot.ensures))
    (sym c.is_unread_by.ensures ∙ c.if-is_unread_by.true))

pub returns-else-is_unread_by : goal.returns-else-is_unread_by
returns-else-is_unread_by c =
    rw c.in-Some.is
    (open_none c.args.slots.now.items c.requires.once c.args.to c.in-Some.sender c.in_ok-slot.slot
    (present c.args.slots.now.items c.args.directory.now c.in-Some.sender c.in_ok-slot.slot c.requires.filed (sym c.in_ok-slot.ensures))
    (sym c.is_unread_by.ensures ∙ c.if-is_unread_by.false))
