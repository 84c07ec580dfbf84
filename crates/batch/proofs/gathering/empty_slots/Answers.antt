use Rattle.std.proofs.Common.{arith}
use Rattle.batch.proofs.SlotLaws.{fit-empty}
use Rattle.batch.proofs.gathering.empty_slots.Goals as goal

pub returns-clause-fit : goal.returns-clause-fit
returns-clause-fit c = λ wanted same.
    let count = c.loop.invariant.count in fit-empty wanted c.loop.slots.items (omega (arith, same, count, c.loop-test.false)) c.loop.invariant.empty
