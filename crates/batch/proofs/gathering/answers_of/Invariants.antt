use Rattle.std.proofs.Common.{length, map, take, vec_items, ◌≡◌}
use Rattle.batch.specs.Answers.{answers_to}
use Rattle.batch.specs.Slots.{Fit}
use Rattle.batch.proofs.gathering.answers_of.Given as goal

abbrev pub invariant-loop-number : goal.invariant-loop-number
invariant-loop-number g l = record {
  many : length l.slots.items ≡ length l.parts;
  fit : Fit (answers_to (g.J.Job.means l.job) l.bytes l.parts) l.slots.items;
  answers : map vec_items l.answers.items ≡ take l.number (answers_to (g.J.Job.means l.job) l.bytes l.parts);
}
