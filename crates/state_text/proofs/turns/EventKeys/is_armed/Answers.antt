use Rattle.state_text.proofs.Finding.{armed_by, none_holds, some_holds, unarmed}
use Rattle.std.proofs.Common.{false, true}
use Rattle.state_text.proofs.turns.EventKeys.is_armed.Goals as goal

pub returns-in_default : goal.returns-in_default
returns-in_default c = λ agents are. unarmed agents c.args.self.now are c.args.event (rw c.from-event.ensures at c.in_default.ensures)

pub returns-in-Some-next : goal.returns-in-Some-next
returns-in-Some-next c = λ agents are.
    armed_by agents c.args.self.now are c.args.event c.in-Some.field-0 (rw c.from-event.ensures at c.in-Some.ensures) false
    (some_holds agents c.args.self.now are c.args.event c.in-Some-next.field-0 (rw c.from-event.ensures at c.in-Some-next.ensures))

pub returns-in-None : goal.returns-in-None
returns-in-None c = λ agents are.
    armed_by agents c.args.self.now are c.args.event c.in-Some.field-0 (rw c.from-event.ensures at c.in-Some.ensures) true
    (none_holds agents c.args.self.now are c.args.event (rw c.from-event.ensures at c.in-None.ensures))
