use Rattle.std.proofs.Common.{drop, ◌≡◌}
use Rattle.std.specs.List.{fold}
use Rattle.queue_model.specs.Stamps.{after_byte}
use Rattle.queue_model.proofs.stamp.time_after.Given as goal

abbrev pub invariant-loop-byte : goal.invariant-loop-byte
invariant-loop-byte l = fold after_byte l.time (drop l.byte-index l.bytes) ≡ fold after_byte l.start l.bytes
