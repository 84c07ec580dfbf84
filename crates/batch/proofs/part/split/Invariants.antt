use Rattle.std.proofs.Common.{All, length, ◌-◌, ◌≡◌, ◌≤◌}
use Rattle.batch.proofs.PartLaws.{all_after}
use Rattle.batch.specs.Parts.{LiesIn, parts_from, parts_of}
use Rattle.batch.proofs.part.split.Given as goal

abbrev pub invariant-loop-at : goal.invariant-loop-at
invariant-loop-at l = record {
  parts : parts_of l.bytes ≡ all_after l.parts.items (parts_from (1000 - length l.parts.items) l.bytes l.at);
  few : length l.parts.items ≤ 1000;
  within : All (LiesIn l.bytes) l.parts.items;
  at : l.at ≤ length l.bytes;
}

abbrev pub decreases-loop-at : goal.decreases-loop-at
decreases-loop-at l = length l.bytes - l.at
