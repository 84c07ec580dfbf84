use Rattle.rendezvous.proofs.FiledLemmas.{some_filed}
use Rattle.rendezvous.proofs.TiedLemmas.{letters_removed, tied_removed}
use Rattle.rendezvous.proofs.letters.remove.Goals as goal

pub take-requires-clause-there : goal.take-requires-clause-there
take-requires-clause-there c = some_filed c.args.slots.now.items c.args.directory.now c.args.from c.args.slot c.requires.tied.filed c.requires.its

pub returns-clause-tied : goal.returns-clause-tied
returns-clause-tied c =
    tied_removed c.args.slots.now.items c.args.directory.now _ c.requires.tied c.args.slot c.args.from c.requires.its _
    c.empty.ensures.emptied c.take.new.self _ c.take.ensures.filed c.take.ensures.sound c.take.ensures.width c.empty.ensures.capacity

pub returns-clause-letters : goal.returns-clause-letters
returns-clause-letters c =
    letters_removed c.args.slots.now.items c.args.directory.now _ c.requires.tied c.args.slot c.args.from c.requires.its _ c.empty.ensures.emptied
