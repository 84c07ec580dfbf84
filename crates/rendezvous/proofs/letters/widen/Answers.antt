use Rattle.rendezvous.proofs.letters.widen.Goals as goal
use Rattle.std.proofs.Common.{ap, arith, length}

pub file-requires-clause-once : goal.file-requires-clause-once
file-requires-clause-once c = rw c.in_ok-reserve.ensures.items c.requires.tied.once

pub returns-clause-tied : goal.returns-clause-tied
returns-clause-tied c = record {
  filed = c.file.ensures.filed;
  sound = c.file.ensures.sound;
  once = rw c.in_ok-reserve.ensures.items c.requires.tied.once;
  within = omega (arith, ap length c.in_ok-reserve.ensures.items, c.requires.tied.within, c.requires.more, c.file.ensures.width, c.in_ok-wider.ensures.width);
  capacity_fit = omega (
    arith,
    c.in_ok-reserve.ensures.ok,
    ap length c.in_ok-reserve.ensures.items,
    c.requires.tied.within,
    c.requires.more,
    c.file.ensures.width,
    c.in_ok-wider.ensures.width,
  );
}
