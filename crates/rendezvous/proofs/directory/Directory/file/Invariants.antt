use Rattle.rendezvous.proofs.directory.Directory.file.Given as goal
use Rattle.rendezvous.specs.Kept.{IsFiled, IsSound}
use Rattle.std.proofs.Common.{take, ◌≡◌, ◌≤◌}

abbrev pub invariant-loop-slot : goal.invariant-loop-slot
invariant-loop-slot l = record {
  sound : IsSound l.self;
  filed : IsFiled (take l.slot l.slots.items) l.self;
  used : l.self.used ≤ l.slot;
  width : l.self.width ≡ l.fn.self.width;
}
