use Rattle.std.proofs.Common.{refl}
use Rattle.pod_runner.specs.Eager.{round}
use Rattle.pod_runner.proofs.Halts.{does-turn-lines, does-turn-then}
use Rattle.pod_runner.proofs.Rounds.{does-call, does-err, due-still, stream}
use Rattle.pod_runner.proofs.drive.turn_round.Goals as goal

pub turn-requires : goal.turn-requires
turn-requires g c = λ k. (
  (refl, tt),
  (
    c.in_ok-serve_all.ensures.ran.sound,
    due-still g.B.Body.next g.P.Program.bodies g.P.Program.proc_names
        (stream (g.K.Sink.written c.args.sink.now) (g.K.Sink.written c.serve_all.new.sink) (g.K.Sink.faults c.args.sink.now)
        (g.K.Sink.faults c.serve_all.new.sink))
        c.args.run.now c.serve_all.new.run (g.G.Gate.stock c.args.gate.now) (g.G.Gate.stock c.serve_all.new.gate) _ c.requires.due c.in_ok-serve_all.ensures,
  ),
)

pub returns-in_err-serve_all : goal.returns-in_err-serve_all
returns-in_err-serve_all g c = does-err g.B.Body.next g.P.Program.bodies g.P.Program.proc_names (Unit {0})
    (stream (g.K.Sink.written c.args.sink.now) (g.K.Sink.written c.serve_all.new.sink) (g.K.Sink.faults c.args.sink.now) (g.K.Sink.faults c.serve_all.new.sink))
    (λ planned plan. round planned plan) c.args.run.now c.serve_all.new.run (g.G.Gate.stock c.args.gate.now)
    (g.G.Gate.stock c.serve_all.new.gate) c.from_residual.result _ c.from_residual.ensures.1
    (does-turn-lines g.B.Body.next g.P.Program.bodies g.P.Program.proc_names
    (stream (g.K.Sink.written c.args.sink.now) (g.K.Sink.written c.serve_all.new.sink) (g.K.Sink.faults c.args.sink.now)
    (g.K.Sink.faults c.serve_all.new.sink))
    c.args.run.now c.serve_all.new.run (g.G.Gate.stock c.args.gate.now) (g.G.Gate.stock c.serve_all.new.gate) _ c.requires.due c.in_err-serve_all.ensures)

pub returns : goal.returns
returns g c = does-turn-then g.B.Body.next g.P.Program.bodies g.P.Program.proc_names (g.K.Sink.written c.args.sink.now)
    (g.K.Sink.written c.serve_all.new.sink) (g.K.Sink.written c.turn.new.sink) (g.K.Sink.faults c.args.sink.now)
    (g.K.Sink.faults c.serve_all.new.sink) (g.K.Sink.faults c.turn.new.sink)
    c.args.run.now c.serve_all.new.run c.turn.new.self (g.G.Gate.stock c.args.gate.now) (g.G.Gate.stock c.serve_all.new.gate) _
    c.turn.result c.requires.due c.in_ok-serve_all.ensures
    (does-call g.B.Body.next g.P.Program.bodies g.P.Program.proc_names
    (stream (g.K.Sink.written c.serve_all.new.sink) (g.K.Sink.written c.turn.new.sink) (g.K.Sink.faults c.serve_all.new.sink)
    (g.K.Sink.faults c.turn.new.sink))
    c.serve_all.new.run c.turn.new.self (g.G.Gate.stock c.serve_all.new.gate) c.turn.result
    c.in_ok-serve_all.ensures.ran.sound c.serve_all.ensures.ran.made c.turn.ensures.after c.turn.ensures.told c.turn.ensures.made c.turn.ensures.room)
