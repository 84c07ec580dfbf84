use Rattle.std.proofs.Common.{◌≡◌, take}
use Rattle.pod_runner.proofs.playing.names_of.Given as goal

abbrev pub invariant-loop-proc : goal.invariant-loop-proc
invariant-loop-proc g l = l.names ≡ take l.proc (g.P.Program.proc_names l.program)
