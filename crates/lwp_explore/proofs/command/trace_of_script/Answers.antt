use Rattle.lwp_explore.proofs.command.trace_of_script.Goals as goal
use Rattle.lwp_explore.specs.Sessions.{world_of}
use Rattle.lwp_explore.specs.TraceSaid.{TraceSays}
use Rattle.script_text.specs.Script.{proc_names}
use Rattle.std.proofs.Common.{subst}
use Rattle.std.specs.Prelude.{IfOk}

pub returns : goal.returns
returns c = subst (λ s. IfOk c.trace_text.result (λ told. TraceSays (world_of s) (proc_names s) c.args.cores c.args.kind told.0.items told.1))
    c.in_ok-machine.ensures.script c.trace_text.ensures
