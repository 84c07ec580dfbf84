use Rattle.lwp_explore.proofs.CycleLaws.{if_ok}
use Rattle.lwp_explore.proofs.command.line_of_script.Goals as goal
use Rattle.lwp_explore.specs.LineSaid.{LineSays}
use Rattle.lwp_explore.specs.Sessions.{world_of}
use Rattle.script_text.specs.Script.{proc_names}
use Rattle.std.proofs.Common.{subst}

pub returns : goal.returns
returns c = if_ok _ _ c.line_text.result c.line_text.ensures (λ told said.
    subst (λ s. LineSays (world_of s) (proc_names s) c.args.line.now c.args.cores told.0.items told.1) c.in_ok-machine.ensures.script
    (said c.args.line.now c.in_ok-machine.ensures.sought))
