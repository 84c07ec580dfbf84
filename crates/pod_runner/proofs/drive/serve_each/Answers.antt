use Rattle.std.proofs.Common.{arith, refl}
use Rattle.pod_runner.proofs.Rounds.{events-end, events-more, events-part, events-skip, stream}
use Rattle.pod_runner.proofs.drive.serve_each.Goals as goal

pub loop-event-preserved : goal.loop-event-preserved
loop-event-preserved g c =
    let before = c.loop-event.invariant in
    let first = c.in-Some.ensures.first in
    let there = events-skip g.B.Body.next g.P.Program.bodies g.P.Program.proc_names
    (stream (g.K.Sink.written c.args.sink.now) (g.K.Sink.written c.loop-event.sink) (g.K.Sink.faults c.args.sink.now) (g.K.Sink.faults c.loop-event.sink))
    c.args.run.now c.loop-event.run (g.G.Gate.stock c.args.gate.now) (g.G.Gate.stock c.loop-event.gate) c.loop-event.from c.in-Some.event tt
    first.low first.before before.1 in (
      omega (arith, c.in-Some.ensures.below),
      events-more g.B.Body.next g.P.Program.bodies g.P.Program.proc_names (g.K.Sink.written c.args.sink.now)
          (g.K.Sink.written c.loop-event.sink) (g.K.Sink.written c.take_line.new.sink) (g.K.Sink.faults c.args.sink.now)
          (g.K.Sink.faults c.loop-event.sink) (g.K.Sink.faults c.take_line.new.sink)
          c.args.run.now c.loop-event.run c.take_line.new.run (g.G.Gate.stock c.args.gate.now) (g.G.Gate.stock c.loop-event.gate)
          (g.G.Gate.stock c.take_line.new.gate) c.in-Some.event tt _ there c.in_ok-take_line.ensures,
    )

pub returns-in_err-take_line : goal.returns-in_err-take_line
returns-in_err-take_line g c =
    let before = c.loop-event.invariant in
    let first = c.in-Some.ensures.first in
    let there = events-skip g.B.Body.next g.P.Program.bodies g.P.Program.proc_names
    (stream (g.K.Sink.written c.args.sink.now) (g.K.Sink.written c.loop-event.sink) (g.K.Sink.faults c.args.sink.now) (g.K.Sink.faults c.loop-event.sink))
    c.args.run.now c.loop-event.run (g.G.Gate.stock c.args.gate.now) (g.G.Gate.stock c.loop-event.gate) c.loop-event.from c.in-Some.event tt
    first.low first.before before.1 in
    events-part g.B.Body.next g.P.Program.bodies g.P.Program.proc_names (g.K.Sink.written c.args.sink.now)
    (g.K.Sink.written c.loop-event.sink) (g.K.Sink.written c.take_line.new.sink) (g.K.Sink.faults c.args.sink.now)
    (g.K.Sink.faults c.loop-event.sink) (g.K.Sink.faults c.take_line.new.sink)
    c.args.run.now c.loop-event.run c.take_line.new.run (g.G.Gate.stock c.args.gate.now) (g.G.Gate.stock c.loop-event.gate)
    (g.G.Gate.stock c.take_line.new.gate) c.in-Some.event tt c.from_residual.result _ c.from_residual.ensures.1
    (omega (arith, c.in-Some.ensures.below)) there c.in_err-take_line.ensures

pub returns : goal.returns
returns g c =
    let before = c.loop-event.invariant in
    let s = stream (g.K.Sink.written c.args.sink.now) (g.K.Sink.written c.loop-event.sink) (g.K.Sink.faults c.args.sink.now)
    (g.K.Sink.faults c.loop-event.sink) in
    events-end g.B.Body.next g.P.Program.bodies g.P.Program.proc_names s c.args.run.now c.loop-event.run (g.G.Gate.stock c.args.gate.now)
    (g.G.Gate.stock c.loop-event.gate) 32 tt refl
    (events-skip g.B.Body.next g.P.Program.bodies g.P.Program.proc_names s c.args.run.now c.loop-event.run (g.G.Gate.stock c.args.gate.now)
    (g.G.Gate.stock c.loop-event.gate) c.loop-event.from 32 tt before.0 c.in_default.ensures.none before.1)
