use Rattle.lwp_serve.proofs.plan.session.play_script.Goals as goal
use Rattle.std.proofs.Common.{rules}

pub returns-in-Err-WriteFault : goal.returns-in-Err-WriteFault
returns-in-Err-WriteFault c = search rules
