use Rattle.replay.proofs.AheadLaws.{departs-number, last-eight, same-number}
use Rattle.std.proofs.Common.{arith}
use Rattle.replay.proofs.compared.begins_with.Goals as goal

pub returns-then-eight_at : goal.returns-then-eight_at
returns-then-eight_at c = departs-number c.args.bytes.now c.args.front.now c.loop-i.i _ _
    (omega (arith, c.loop-i-test.true, c.loop-i.invariant.0)) c.eight_at.ensures.number c.eight_at-in-loop-i.ensures.number c.if-eight_at.true

pub loop-i-preserved : goal.loop-i-preserved
loop-i-preserved c = (
  omega (arith, c.loop-i-test.true, c.loop-i.invariant.0),
  same-number c.args.bytes.now c.args.front.now c.loop-i.i _ _ c.loop-i.invariant.1 c.eight_at.ensures.bytes
      c.eight_at-in-loop-i.ensures.bytes c.if-eight_at.false,
)

pub returns : goal.returns
returns c = last-eight c.args.bytes.now c.args.front.now c.loop-i.i _ _ (omega (arith, c.if-n-lt8.false))
    (omega (arith, c.loop-i-test.false)) c.loop-i.invariant.1 c.eight_at-2.ensures.number c.eight_at-2.ensures.bytes
    c.eight_at-3.ensures.number c.eight_at-3.ensures.bytes
