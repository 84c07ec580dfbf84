use Rattle.rendezvous.proofs.FiledLemmas.{IsFiled-taken, IsSound-taken}
use Rattle.rendezvous.proofs.directory.Directory.take.Goals as goal
use Rattle.std.proofs.Common.{arith, refl}

pub overflow_add-key : goal.overflow_add-key
overflow_add-key c = omega (arith, c.requires.slot_in, c.requires.sound.most)

pub returns-clause-sound : goal.returns-clause-sound
returns-clause-sound c = rw (c.remove.ensures, c.remove-2.ensures)
    (IsSound-taken c.args.self.now c.requires.sound _ c.args.from c.take.new.self c.take.ensures.width c.take.ensures.room)

pub returns-clause-filed : goal.returns-clause-filed
returns-clause-filed c slots once its was = rw (c.remove.ensures, c.remove-2.ensures)
    (IsFiled-taken c.args.self.now c.requires.sound _ c.args.from c.take.new.self c.take.ensures.puts c.take.ensures.count slots c.args.slot refl once its was)
