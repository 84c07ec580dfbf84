use Rattle.std.proofs.Common.{All, length}
use Rattle.batch.specs.Answers.{answers_to}
use Rattle.batch.specs.Working.{IsBelow, IsOf}
use Rattle.batch.proofs.working.work.Given as goal

abbrev pub invariant-loop : goal.invariant-loop
invariant-loop g l = record {
  of : All (IsOf (answers_to (g.J.Job.means l.job) l.bytes l.parts)) l.all.items;
  below : All (IsBelow (length l.parts)) l.all.items;
}
