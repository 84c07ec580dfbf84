use Rattle.std.proofs.Common.{◌∙◌, sym}
use Rattle.pod_runner.specs.Eager.{round}
use Rattle.pod_runner.specs.Run.{session_of}
use Rattle.pod_runner.proofs.Eagers.{first-same}
use Rattle.pod_runner.proofs.Ends.{over-turn}
use Rattle.pod_runner.proofs.Halts.{does-other, does-over, over-ended, over-spent}
use Rattle.pod_runner.proofs.Rounds.{does-err, does-part, stream}
use Rattle.pod_runner.proofs.drive.go_round.Goals as goal

pub returns-in-Ended-clause-does : goal.returns-in-Ended-clause-does
returns-in-Ended-clause-does g c = does-over g.B.Body.next g.P.Program.bodies g.P.Program.proc_names (g.K.Sink.written c.args.sink.now)
    (g.K.Sink.faults c.args.sink.now) c.args.run.now (g.G.Gate.stock c.args.gate.now) _ _ c.requires c.phase.ensures.made c.phase.ensures.room
    (over-ended (session_of g.B.Body.next g.P.Program.bodies c.args.run.now).live.pod c.args.run.now.turns c.args.run.now.calls
    c.in-Ended.status (g.G.Gate.stock c.args.gate.now) (sym c.phase.ensures.phase ∙ c.in-Ended.is))

pub returns-in-Ended-clause-over : goal.returns-in-Ended-clause-over
returns-in-Ended-clause-over g c = over-ended (session_of g.B.Body.next g.P.Program.bodies c.args.run.now).live.pod c.args.run.now.turns
    c.args.run.now.calls c.in-Ended.status (g.G.Gate.stock c.args.gate.now) (sym c.phase.ensures.phase ∙ c.in-Ended.is)

pub returns-in-Spent-clause-does : goal.returns-in-Spent-clause-does
returns-in-Spent-clause-does g c = does-over g.B.Body.next g.P.Program.bodies g.P.Program.proc_names (g.K.Sink.written c.args.sink.now)
    (g.K.Sink.faults c.args.sink.now) c.args.run.now (g.G.Gate.stock c.args.gate.now) _ _ c.requires c.phase.ensures.made c.phase.ensures.room
    (over-spent (session_of g.B.Body.next g.P.Program.bodies c.args.run.now).live.pod c.args.run.now.turns c.args.run.now.calls
    (g.G.Gate.stock c.args.gate.now) (sym c.phase.ensures.phase ∙ c.in-Spent.is))

pub returns-in-Spent-clause-over : goal.returns-in-Spent-clause-over
returns-in-Spent-clause-over g c = over-spent (session_of g.B.Body.next g.P.Program.bodies c.args.run.now).live.pod c.args.run.now.turns
    c.args.run.now.calls (g.G.Gate.stock c.args.gate.now) (sym c.phase.ensures.phase ∙ c.in-Spent.is)

pub returns-in_ok-turn_round-in-Turn-clause-does : goal.returns-in_ok-turn_round-in-Turn-clause-does
returns-in_ok-turn_round-in-Turn-clause-does g c = does-other g.B.Body.next g.P.Program.bodies g.P.Program.proc_names
    (stream (g.K.Sink.written c.args.sink.now) (g.K.Sink.written c.turn_round.new.sink) (g.K.Sink.faults c.args.sink.now)
    (g.K.Sink.faults c.turn_round.new.sink))
    (λ planned plan. round planned plan) c.args.run.now c.turn_round.new.run (g.G.Gate.stock c.args.gate.now)
    (g.G.Gate.stock c.turn_round.new.gate) c.in_ok-turn_round-in-Turn.field-0 _ c.in_ok-turn_round-in-Turn.ensures

pub returns-in_ok-turn_round-in-Turn-clause-over : goal.returns-in_ok-turn_round-in-Turn-clause-over
returns-in_ok-turn_round-in-Turn-clause-over g c = over-turn (session_of g.B.Body.next g.P.Program.bodies c.args.run.now).live.pod
    c.args.run.now.turns c.args.run.now.calls (g.G.Gate.stock c.args.gate.now) (sym c.phase.ensures.phase ∙ c.in-Turn.is)

pub returns-in_err-turn_round-in-Turn-clause-does : goal.returns-in_err-turn_round-in-Turn-clause-does
returns-in_err-turn_round-in-Turn-clause-does g c = does-err g.B.Body.next g.P.Program.bodies g.P.Program.proc_names _
    (stream (g.K.Sink.written c.args.sink.now) (g.K.Sink.written c.turn_round.new.sink) (g.K.Sink.faults c.args.sink.now)
    (g.K.Sink.faults c.turn_round.new.sink))
    (λ planned plan. round planned plan) c.args.run.now c.turn_round.new.run (g.G.Gate.stock c.args.gate.now)
    (g.G.Gate.stock c.turn_round.new.gate) c.from_residual.result _ c.from_residual.ensures.1
    (does-part g.B.Body.next g.P.Program.bodies g.P.Program.proc_names (Unit {0}) _
    (stream (g.K.Sink.written c.args.sink.now) (g.K.Sink.written c.turn_round.new.sink) (g.K.Sink.faults c.args.sink.now)
    (g.K.Sink.faults c.turn_round.new.sink))
    (λ planned plan. round planned plan) (λ planned plan. plan) c.args.run.now c.turn_round.new.run (g.G.Gate.stock c.args.gate.now)
    (g.G.Gate.stock c.turn_round.new.gate) _ (first-same _) c.in_err-turn_round-in-Turn.ensures)
