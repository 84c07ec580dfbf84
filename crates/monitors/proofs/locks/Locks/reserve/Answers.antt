use Rattle.monitors.proofs.locks.Locks.reserve.Goals as goal

pub pack-requires-clause-once : goal.pack-requires-clause-once
pack-requires-clause-once c = rw c.reserve.ensures.items c.requires.once
