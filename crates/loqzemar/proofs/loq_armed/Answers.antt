use Rattle.loqzemar.proofs.Asking.{asked_of}
use Rattle.loqzemar.proofs.loq_armed.Goals as goal
use Rattle.loqzemar.specs.Asked.{armed_or}

pub returns-clause-armed : goal.returns-clause-armed
returns-clause-armed c = asked_of (λ x. armed_or c.args.armed.now x c.args.event) c.in-Some.ensures.pod c.deref.ensures c.armed.ensures
