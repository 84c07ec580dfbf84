use Rattle.lwp_calls.proofs.Made.{Answers-is, told-alone}
use Rattle.lwp_calls.proofs.agent_calls.refuse_trap.Goals as goal
use Rattle.std.proofs.Common.{refl}

pub returns-clause-told : goal.returns-clause-told
returns-clause-told c = told-alone (Answers-is refl c.requires.step refl) c.args.tid c.done.ensures
