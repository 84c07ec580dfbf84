use Rattle.std.proofs.Common.{◌∙◌, sym}
use Rattle.pod_runner.specs.Eager.{round}
use Rattle.pod_runner.proofs.Rounds.{does-err, does-idle, does-idle-lines, over-on, over-stuck, stream}
use Rattle.pod_runner.proofs.drive.idle_round.Goals as goal

pub returns-in_err-serve_all-clause-does : goal.returns-in_err-serve_all-clause-does
returns-in_err-serve_all-clause-does g c = does-err g.B.Body.next g.P.Program.bodies g.P.Program.proc_names _
    (stream (g.K.Sink.written c.args.sink.now) (g.K.Sink.written c.serve_all.new.sink) (g.K.Sink.faults c.args.sink.now) (g.K.Sink.faults c.serve_all.new.sink))
    (λ planned plan. round planned plan) c.args.run.now c.serve_all.new.run (g.G.Gate.stock c.args.gate.now)
    (g.G.Gate.stock c.serve_all.new.gate) c.from_residual.result _ c.from_residual.ensures.1
    (does-idle-lines g.B.Body.next g.P.Program.bodies g.P.Program.proc_names
    (stream (g.K.Sink.written c.args.sink.now) (g.K.Sink.written c.serve_all.new.sink) (g.K.Sink.faults c.args.sink.now)
    (g.K.Sink.faults c.serve_all.new.sink))
    c.args.run.now c.serve_all.new.run (g.G.Gate.stock c.args.gate.now) (g.G.Gate.stock c.serve_all.new.gate) _ c.requires.idle c.in_err-serve_all.ensures)

pub returns-then-takes-taken-clause-does : goal.returns-then-takes-taken-clause-does
returns-then-takes-taken-clause-does g c = does-idle g.B.Body.next g.P.Program.bodies g.P.Program.proc_names
    (stream (g.K.Sink.written c.args.sink.now) (g.K.Sink.written c.serve_all.new.sink) (g.K.Sink.faults c.args.sink.now) (g.K.Sink.faults c.serve_all.new.sink))
    c.args.run.now c.serve_all.new.run (g.G.Gate.stock c.args.gate.now) (g.G.Gate.stock c.serve_all.new.gate) _ _ c.requires.idle c.in_ok-serve_all.ensures

pub returns-clause-does : goal.returns-clause-does
returns-clause-does g c = does-idle g.B.Body.next g.P.Program.bodies g.P.Program.proc_names
    (stream (g.K.Sink.written c.args.sink.now) (g.K.Sink.written c.serve_all.new.sink) (g.K.Sink.faults c.args.sink.now) (g.K.Sink.faults c.serve_all.new.sink))
    c.args.run.now c.serve_all.new.run (g.G.Gate.stock c.args.gate.now) (g.G.Gate.stock c.serve_all.new.gate) _ _ c.requires.idle c.in_ok-serve_all.ensures

pub returns-then-takes-taken-clause-over : goal.returns-then-takes-taken-clause-over
returns-then-takes-taken-clause-over g c = over-stuck g.B.Body.next g.P.Program.bodies g.P.Program.proc_names
    (stream (g.K.Sink.written c.args.sink.now) (g.K.Sink.written c.serve_all.new.sink) (g.K.Sink.faults c.args.sink.now) (g.K.Sink.faults c.serve_all.new.sink))
    c.args.run.now c.serve_all.new.run (g.G.Gate.stock c.args.gate.now) (g.G.Gate.stock c.serve_all.new.gate) _ c.requires.idle c.in_ok-serve_all.ensures
    (sym c.takes.ensures ∙ c.if-takes-taken.true ∙ c.takes-taken.ensures)

pub returns-clause-over : goal.returns-clause-over
returns-clause-over g c = over-on g.B.Body.next g.P.Program.bodies g.P.Program.proc_names
    (stream (g.K.Sink.written c.args.sink.now) (g.K.Sink.written c.serve_all.new.sink) (g.K.Sink.faults c.args.sink.now) (g.K.Sink.faults c.serve_all.new.sink))
    c.args.run.now c.serve_all.new.run (g.G.Gate.stock c.args.gate.now) (g.G.Gate.stock c.serve_all.new.gate) _ c.requires.idle c.in_ok-serve_all.ensures
    (λ same. c.if-takes-taken.false (c.takes.ensures ∙ same ∙ sym c.takes-taken.ensures))
