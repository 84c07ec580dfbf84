use Rattle.rendezvous.proofs.FiledLemmas.{IsFiled-boxed, IsSound-boxed}
use Rattle.rendezvous.proofs.directory.Directory.box_for.Goals as goal
use Rattle.std.proofs.Common.{sym, ◌∙◌}

pub returns-in-None-clause-sound : goal.returns-in-None-clause-sound
returns-in-None-clause-sound c = IsSound-boxed c.args.self.now c.requires.sound c.args.to c.put.new.self
    (sym c.place_of.ensures ∙ c.in-None.is) c.put.ensures.puts c.requires.room c.put.ensures.count c.put.ensures.width c.put.ensures.room

pub returns-in-None-clause-filed : goal.returns-in-None-clause-filed
returns-in-None-clause-filed c slots was =
    IsFiled-boxed c.args.self.now c.requires.sound c.args.to c.put.new.self (sym c.place_of.ensures ∙ c.in-None.is) c.put.ensures.puts slots was
