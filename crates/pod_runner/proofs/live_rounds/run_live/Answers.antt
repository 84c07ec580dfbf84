use Rattle.std.proofs.Common.{refl, map, rules, Ok, Err}
use Rattle.pod_runner.proofs.LiveRounds.{rounding-on, rounding-rise, rounding-same, rounding-then, rounds-answer, rounds-err}
use Rattle.pod_runner.proofs.Lives.{answers-on}
use Rattle.pod_runner.proofs.Rounds.{stream}
use Rattle.pod_runner.proofs.live_rounds.run_live.Goals as goal

pub loop-init : goal.loop-init
loop-init g c = rounding-same g.B.Body.next g.P.Program.bodies g.P.Program.proc_names (g.K.Sink.written c.args.sink.now)
    (g.K.Sink.faults c.args.sink.now) c.args.run.now (map g.I.Inlet.intake c.args.inlets.now.items) c.requires.sound

pub go_round-requires : goal.go_round-requires
go_round-requires g c = λ k. (
  (refl, tt),
  (
    c.loop.invariant.living.sound,
    rounding-rise g.B.Body.next g.P.Program.bodies g.P.Program.proc_names
        (stream (g.K.Sink.written c.args.sink.now) (g.K.Sink.written c.loop.sink) (g.K.Sink.faults c.args.sink.now) (g.K.Sink.faults c.loop.sink))
        c.args.run.now c.loop.run (map g.I.Inlet.intake c.args.inlets.now.items) (map g.I.Inlet.intake c.loop.inlets.items) c.loop.invariant c.requires.rise,
  ),
)

pub loop-preserved : goal.loop-preserved
loop-preserved g c = rounding-on g.B.Body.next g.P.Program.bodies g.P.Program.proc_names (g.K.Sink.written c.args.sink.now)
    (g.K.Sink.written c.loop.sink) (g.K.Sink.written c.go_round.new.sink) (g.K.Sink.faults c.args.sink.now) (g.K.Sink.faults c.loop.sink)
    (g.K.Sink.faults c.go_round.new.sink) c.args.run.now c.loop.run c.go_round.new.run (map g.I.Inlet.intake c.args.inlets.now.items)
    (map g.I.Inlet.intake c.loop.inlets.items) (map g.I.Inlet.intake c.go_round.new.inlets.items) c.in_ok-answer.field-0 c.loop.invariant
    c.in_ok-answer.ensures.rounds

pub returns-in_err-answer-clause-lives : goal.returns-in_err-answer-clause-lives
returns-in_err-answer-clause-lives g c = (rounds-err g.B.Body.next g.P.Program.bodies g.P.Program.proc_names _ _
    (stream (g.K.Sink.written c.args.sink.now) (g.K.Sink.written c.go_round.new.sink) (g.K.Sink.faults c.args.sink.now) (g.K.Sink.faults c.go_round.new.sink))
    c.args.run.now c.go_round.new.run (map g.I.Inlet.intake c.args.inlets.now.items) (map g.I.Inlet.intake c.go_round.new.inlets.items)
    c.from_residual.result c.in_err-answer.field-0.0 c.from_residual.ensures.1
    (rounding-then g.B.Body.next g.P.Program.bodies g.P.Program.proc_names (g.K.Sink.written c.args.sink.now) (g.K.Sink.written c.loop.sink)
    (g.K.Sink.written c.go_round.new.sink) (g.K.Sink.faults c.args.sink.now) (g.K.Sink.faults c.loop.sink)
    (g.K.Sink.faults c.go_round.new.sink) c.args.run.now c.loop.run c.go_round.new.run (map g.I.Inlet.intake c.args.inlets.now.items)
    (map g.I.Inlet.intake c.loop.inlets.items) (map g.I.Inlet.intake c.go_round.new.inlets.items) (Err c.in_err-answer.field-0.0)
    c.loop.invariant c.in_err-answer.ensures.rounds).lives).lives

pub returns-in-Some-2-clause-lives : goal.returns-in-Some-2-clause-lives
returns-in-Some-2-clause-lives g c = (rounds-answer g.B.Body.next g.P.Program.bodies g.P.Program.proc_names
    (stream (g.K.Sink.written c.args.sink.now) (g.K.Sink.written c.go_round.new.sink) (g.K.Sink.faults c.args.sink.now) (g.K.Sink.faults c.go_round.new.sink))
    c.args.run.now c.go_round.new.run (map g.I.Inlet.intake c.args.inlets.now.items) (map g.I.Inlet.intake c.go_round.new.inlets.items)
    c.in_ok-answer.field-0 c.in-Some-2.answer
    (rounding-then g.B.Body.next g.P.Program.bodies g.P.Program.proc_names (g.K.Sink.written c.args.sink.now) (g.K.Sink.written c.loop.sink)
    (g.K.Sink.written c.go_round.new.sink) (g.K.Sink.faults c.args.sink.now) (g.K.Sink.faults c.loop.sink)
    (g.K.Sink.faults c.go_round.new.sink) c.args.run.now c.loop.run c.go_round.new.run (map g.I.Inlet.intake c.args.inlets.now.items)
    (map g.I.Inlet.intake c.loop.inlets.items) (map g.I.Inlet.intake c.go_round.new.inlets.items) (Ok c.in_ok-answer.field-0)
    c.loop.invariant c.in_ok-answer.ensures.rounds)).lives

pub returns-in-Some-2-clause-looked : goal.returns-in-Some-2-clause-looked
returns-in-Some-2-clause-looked g c = (rounding-then g.B.Body.next g.P.Program.bodies g.P.Program.proc_names
    (g.K.Sink.written c.args.sink.now) (g.K.Sink.written c.loop.sink) (g.K.Sink.written c.go_round.new.sink)
    (g.K.Sink.faults c.args.sink.now) (g.K.Sink.faults c.loop.sink) (g.K.Sink.faults c.go_round.new.sink) c.args.run.now c.loop.run
    c.go_round.new.run (map g.I.Inlet.intake c.args.inlets.now.items) (map g.I.Inlet.intake c.loop.inlets.items)
    (map g.I.Inlet.intake c.go_round.new.inlets.items) (Ok c.in_ok-answer.field-0) c.loop.invariant c.in_ok-answer.ensures.rounds).looked

pub returns-in-Some-2-clause-answers : goal.returns-in-Some-2-clause-answers
returns-in-Some-2-clause-answers g c = answers-on g.B.Body.next g.P.Program.bodies g.P.Program.proc_names c.args.run.now c.loop.run
    c.go_round.new.run (map g.I.Inlet.intake c.args.inlets.now.items) (map g.I.Inlet.intake c.loop.inlets.items)
    (map g.I.Inlet.intake c.go_round.new.inlets.items) c.in-Some-2.answer c.loop.invariant.living.draws (search rules)
