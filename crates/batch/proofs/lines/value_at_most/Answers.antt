use Rattle.std.proofs.Common.{arith}
use Rattle.batch.proofs.LineLaws.{too_large}
use Rattle.batch.proofs.lines.value_at_most.Goals as goal

pub returns-then-n-gt-PART_MAX : goal.returns-then-n-gt-PART_MAX
returns-then-n-gt-PART_MAX c = too_large c.loop-b.n c.loop-b.b-index c.args.digits.now (omega arith) c.loop-b.invariant.value (omega arith)
