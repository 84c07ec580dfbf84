use Rattle.rendezvous.proofs.TiedLemmas.{letters_received, tied_received}
use Rattle.rendezvous.proofs.letters.receive.Goals as goal

pub returns-clause-tied : goal.returns-clause-tied
returns-clause-tied c =
    rw c.receive-2.ensures.items
    (tied_received c.args.slots.now.items c.args.directory.now _ c.requires.tied c.args.slot c.requires.there c.receive.new.self _
    c.receive.ensures.filed c.receive.ensures.sound c.receive.ensures.width c.receive-2.ensures.capacity)

pub returns-clause-letters : goal.returns-clause-letters
returns-clause-letters c =
    rw c.receive-2.ensures.items (letters_received c.args.slots.now.items c.args.directory.now _ c.requires.tied c.args.slot c.requires.there)
