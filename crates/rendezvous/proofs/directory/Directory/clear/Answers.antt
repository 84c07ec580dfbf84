use Rattle.rendezvous.proofs.FiledLemmas.{IsSound-bare, items_cleared, length_cleared}
use Rattle.rendezvous.proofs.directory.Directory.clear.Goals as goal
use Rattle.std.proofs.Common.{arith, refl, ◌∙◌}

pub returns-clause-sound : goal.returns-clause-sound
returns-clause-sound c =
    let was = c.requires in
    rw (c.clear-3.ensures, c.clear-4.ensures)
    (IsSound-bare _ refl was.most c.clear-2.ensures.empty
    (items_cleared c.args.self.now.held)
    (items_cleared c.args.self.now.unread)
    (c.clear.ensures.width ∙ was.sender_cells)
    (omega (arith, c.clear.ensures.room, was.sender_room))
    (c.clear-2.ensures.width ∙ was.box_cells)
    (omega (arith, c.clear-2.ensures.room, was.box_room))
    (length_cleared c.args.self.now.held ∙ was.held_lists)
    (length_cleared c.args.self.now.unread ∙ was.unread_lists)
    was.held_limit was.unread_limit)
