use Rattle.rendezvous.proofs.FiledLemmas.{IsFiled-received, IsSound-received}
use Rattle.rendezvous.proofs.directory.Directory.receive.Goals as goal
use Rattle.std.proofs.Common.{arith, refl}

pub overflow_add-self : goal.overflow_add-self
overflow_add-self c = omega (arith, c.requires.slot_in, c.requires.sound.most)

pub returns-clause-sound : goal.returns-clause-sound
returns-clause-sound c = rw c.remove.ensures (IsSound-received c.args.self.now c.requires.sound _)

pub returns-clause-filed : goal.returns-clause-filed
returns-clause-filed c slots letter once is was =
    rw c.remove.ensures (IsFiled-received c.args.self.now c.requires.sound _ slots c.args.slot letter refl is once was)
