use Rattle.std.proofs.Common.{[], ◌∙◌, map, sym}
use Rattle.pod_runner.specs.Run.{session_of}
use Rattle.pod_runner.proofs.Halts.{over-ended, over-spent}
use Rattle.pod_runner.proofs.LiveRounds.{rounds-answer, rounds-err, rounds-same}
use Rattle.pod_runner.proofs.Rounds.{stream}
use Rattle.pod_runner.proofs.live_rounds.go_round.Goals as goal

pub returns-in-Ended-clause-rounds : goal.returns-in-Ended-clause-rounds
returns-in-Ended-clause-rounds g c = rounds-same g.B.Body.next g.P.Program.bodies g.P.Program.proc_names (g.K.Sink.written c.args.sink.now)
    (g.K.Sink.faults c.args.sink.now) c.args.run.now (map g.I.Inlet.intake c.args.inlets.now.items) _
    (record { sound = c.requires.sound; made = c.phase.ensures.made; room = c.phase.ensures.room })

pub returns-in-Spent-clause-rounds : goal.returns-in-Spent-clause-rounds
returns-in-Spent-clause-rounds g c = rounds-same g.B.Body.next g.P.Program.bodies g.P.Program.proc_names (g.K.Sink.written c.args.sink.now)
    (g.K.Sink.faults c.args.sink.now) c.args.run.now (map g.I.Inlet.intake c.args.inlets.now.items) _
    (record { sound = c.requires.sound; made = c.phase.ensures.made; room = c.phase.ensures.room })

pub returns-in-Ended-clause-answers : goal.returns-in-Ended-clause-answers
returns-in-Ended-clause-answers g c = (
  over-ended (session_of g.B.Body.next g.P.Program.bodies c.args.run.now).live.pod c.args.run.now.turns c.args.run.now.calls
      c.in-Ended.status [] (sym c.phase.ensures.phase ∙ c.in-Ended.is),
  λ stuck. absurd (cc),
)

pub returns-in-Spent-clause-answers : goal.returns-in-Spent-clause-answers
returns-in-Spent-clause-answers g c = (
  over-spent (session_of g.B.Body.next g.P.Program.bodies c.args.run.now).live.pod c.args.run.now.turns c.args.run.now.calls []
      (sym c.phase.ensures.phase ∙ c.in-Spent.is),
  λ stuck. absurd (cc),
)

pub returns-in_ok-turn_round-in-Turn-clause-rounds : goal.returns-in_ok-turn_round-in-Turn-clause-rounds
returns-in_ok-turn_round-in-Turn-clause-rounds g c = rounds-answer g.B.Body.next g.P.Program.bodies g.P.Program.proc_names
    (stream (g.K.Sink.written c.args.sink.now) (g.K.Sink.written c.turn_round.new.sink) (g.K.Sink.faults c.args.sink.now)
    (g.K.Sink.faults c.turn_round.new.sink))
    c.args.run.now c.turn_round.new.run (map g.I.Inlet.intake c.args.inlets.now.items) (map g.I.Inlet.intake c.turn_round.new.inlets.items)
    c.in_ok-turn_round-in-Turn.field-0 _ c.in_ok-turn_round-in-Turn.ensures

pub returns-in_err-turn_round-in-Turn-clause-rounds : goal.returns-in_err-turn_round-in-Turn-clause-rounds
returns-in_err-turn_round-in-Turn-clause-rounds g c = rounds-err g.B.Body.next g.P.Program.bodies g.P.Program.proc_names (Unit {0}) _
    (stream (g.K.Sink.written c.args.sink.now) (g.K.Sink.written c.turn_round.new.sink) (g.K.Sink.faults c.args.sink.now)
    (g.K.Sink.faults c.turn_round.new.sink))
    c.args.run.now c.turn_round.new.run (map g.I.Inlet.intake c.args.inlets.now.items) (map g.I.Inlet.intake c.turn_round.new.inlets.items)
    c.from_residual.result _ c.from_residual.ensures.1 c.in_err-turn_round-in-Turn.ensures.lives
