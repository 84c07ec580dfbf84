use Rattle.std.proofs.Common.{◌∙◌, sym}
use Rattle.pod_runner.proofs.Rounds.{does-none, does-take, stream}
use Rattle.pod_runner.proofs.drive.take_line.Goals as goal

pub returns-in-Some : goal.returns-in-Some
returns-in-Some g c = does-take g.B.Body.next g.P.Program.bodies g.P.Program.proc_names
    (stream (g.K.Sink.written c.args.sink.now) (g.K.Sink.written c.offer.new.sink) (g.K.Sink.faults c.args.sink.now) (g.K.Sink.faults c.offer.new.sink))
    c.args.event c.in-Some.line c.args.run.now c.offer.new.self (g.G.Gate.stock c.args.gate.now) (g.G.Gate.stock c.take.new.self) c.offer.result
    c.requires.ready.sound c.requires.wanted (sym c.take.ensures.line ∙ c.in-Some.is) c.take.ensures.after c.offer.ensures.after
    c.offer.ensures.told c.offer.ensures.made c.offer.ensures.room

pub returns-in-None : goal.returns-in-None
returns-in-None g c = does-none g.B.Body.next g.P.Program.bodies g.P.Program.proc_names (g.K.Sink.written c.args.sink.now)
    (g.K.Sink.faults c.args.sink.now) c.args.event c.args.run.now (g.G.Gate.stock c.args.gate.now) (g.G.Gate.stock c.take.new.self) tt
    c.requires.ready.sound (sym c.take.ensures.line ∙ c.in-None.is) c.take.ensures.after c.requires.ready.made c.requires.ready.room
