use Rattle.std.proofs.Common.{take, ◌≡◌}
use Rattle.script_text.specs.Script.{proc_names}
use Rattle.lwp_state.proofs.showing.proc_names.Given as goal

abbrev pub invariant-loop-proc : goal.invariant-loop-proc
invariant-loop-proc l = l.names ≡ take l.proc (proc_names l.program)
