use Rattle.pod_runner.specs.Run.{session_of}
use Rattle.replay.specs.Next.{NoneTold}
use Rattle.replay.proofs.replaying.told_take.Given as goal

abbrev pub invariant-loop-client : goal.invariant-loop-client
invariant-loop-client g l = NoneTold (g.C.Posted.lines l.lines) (session_of g.B.Body.next g.P.Program.bodies l.run).live.pod l.rest l.client
