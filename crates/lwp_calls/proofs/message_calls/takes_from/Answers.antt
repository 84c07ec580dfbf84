use Rattle.lwp_calls.proofs.Messaging.{mapped-none, mapped-some}
use Rattle.lwp_calls.proofs.message_calls.takes_from.Goals as goal
use Rattle.death_cleanup.specs.View.{state_of}
use Rattle.lwp_types.specs.State.{thread_of}
use Rattle.std.proofs.Common.{sym, ◌∙◌}

pub returns-in-Some : goal.returns-in-Some
returns-in-Some c = mapped-some _ (thread_of (state_of c.args.parts.now) c.args.tid) c.in-Some.takes (sym c.receiver.ensures ∙ c.in-Some.is)

pub returns-in-None : goal.returns-in-None
returns-in-None c = mapped-none _ (thread_of (state_of c.args.parts.now) c.args.tid) (sym c.receiver.ensures ∙ c.in-None.is)
