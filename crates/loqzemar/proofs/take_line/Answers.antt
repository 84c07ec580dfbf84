use Rattle.loqzemar.proofs.Asking.{asked_of}
use Rattle.loqzemar.proofs.take_line.Goals as goal
use Rattle.loqzemar.specs.Asked.{armed_status, line_status}
use Rattle.std.proofs.Common.{ap}

pub returns-then-taken-clause-status : goal.returns-then-taken-clause-status
returns-then-taken-clause-status c =
    asked_of (λ x. line_status x c.args.event) c.in-Some.ensures.pod c.deref_mut.ensures.value (ap armed_status c.if-taken.ensures.taken)

pub returns-else-taken-clause-status : goal.returns-else-taken-clause-status
returns-else-taken-clause-status c =
    asked_of (λ x. line_status x c.args.event) c.in-Some.ensures.pod c.deref_mut.ensures.value (ap armed_status c.if-taken.ensures.taken)
