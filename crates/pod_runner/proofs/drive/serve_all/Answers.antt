use Rattle.std.proofs.Common.{arith, refl}
use Rattle.pod_runner.proofs.Rounds.{events-begin, events-end, events-skip, stream}
use Rattle.pod_runner.proofs.drive.serve_all.Goals as goal

pub returns-in-None : goal.returns-in-None
returns-in-None g c =
    let s = stream (g.K.Sink.written c.args.sink.now) (g.K.Sink.written c.args.sink.now) (g.K.Sink.faults c.args.sink.now) (g.K.Sink.faults c.args.sink.now) in
    events-end g.B.Body.next g.P.Program.bodies g.P.Program.proc_names s c.args.run.now c.args.run.now (g.G.Gate.stock c.args.gate.now)
    (g.G.Gate.stock c.args.gate.now) 32 tt refl
    (events-skip g.B.Body.next g.P.Program.bodies g.P.Program.proc_names s c.args.run.now c.args.run.now (g.G.Gate.stock c.args.gate.now)
    (g.G.Gate.stock c.args.gate.now) 0 32 tt (omega arith) c.in-None.ensures.none
    (events-begin g.B.Body.next g.P.Program.bodies g.P.Program.proc_names (g.K.Sink.written c.args.sink.now)
    (g.K.Sink.faults c.args.sink.now) c.args.run.now (g.G.Gate.stock c.args.gate.now) tt c.requires.ready.sound c.requires.ready.made
    c.requires.ready.room))
