use Rattle.script_body.proofs.WalkLemmas.{passed}
use Rattle.script_body.proofs.walk.next_stmt.Goals as goal

pub loop-place-preserved-then-over : goal.loop-place-preserved-then-over
loop-place-preserved-then-over c =
    passed c.args.got.now c.args.stmts.now c.loop-place.over c.loop-place.place _ c.if-over.true c.loop-place-test.true c.loop-place.invariant
