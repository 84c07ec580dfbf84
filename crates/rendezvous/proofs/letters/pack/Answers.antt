use Rattle.rendezvous.proofs.SlotLemmas.{length-closed, living-closed}
use Rattle.rendezvous.proofs.TiedLemmas.{closed_fits, once_closed, tied_closed}
use Rattle.rendezvous.proofs.letters.pack.Goals as goal
use Rattle.std.proofs.Common.{ap, arith, length, ◌∙◌}
use Rattle.lists.specs.Living.{living}

pub file-requires-clause-once : goal.file-requires-clause-once
file-requires-clause-once c = rw c.close_up.ensures.items (once_closed c.args.slots.now.items c.args.directory.now _ c.requires.tied)

pub file-requires-clause-fits : goal.file-requires-clause-fits
file-requires-clause-fits c =
    omega (arith, ap length c.close_up.ensures.items, closed_fits c.args.slots.now.items c.args.directory.now _ c.requires.tied, c.clear.ensures.width)

pub returns-clause-tied : goal.returns-clause-tied
returns-clause-tied c =
    rw c.close_up.ensures.items
    (tied_closed c.args.slots.now.items c.args.directory.now _ c.requires.tied c.file.new.self _
    (rw c.close_up.ensures.items at c.file.ensures.filed) c.file.ensures.sound (c.file.ensures.width ∙ c.clear.ensures.width) c.close_up.ensures.capacity)

pub returns-clause-letters : goal.returns-clause-letters
returns-clause-letters c = ap living c.close_up.ensures.items ∙ living-closed c.args.slots.now.items

pub returns-clause-closed : goal.returns-clause-closed
returns-clause-closed c = ap length c.close_up.ensures.items ∙ length-closed c.args.slots.now.items
