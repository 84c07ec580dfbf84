use Rattle.lwp_explore.proofs.command.ends_of_script.Goals as goal
use Rattle.lwp_explore.specs.Ends.{EndsSay}
use Rattle.lwp_explore.specs.Sessions.{world_of}
use Rattle.std.proofs.Common.{subst}
use Rattle.std.specs.Prelude.{IfOk}

pub returns : goal.returns
returns c = subst (λ s. IfOk c.ends_text.result (λ told. EndsSay (world_of s) c.args.cores told.0.items told.1))
    c.in_ok-machine.ensures.script c.ends_text.ensures
