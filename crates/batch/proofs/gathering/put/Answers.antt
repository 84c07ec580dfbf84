use Rattle.batch.proofs.SlotLaws.{fit-set}
use Rattle.batch.proofs.gathering.put.Goals as goal

pub returns-clause-fit : goal.returns-clause-fit
returns-clause-fit c = λ wanted fit is. fit-set wanted c.args.slots.now.items c.args.number c.args.answer fit is
