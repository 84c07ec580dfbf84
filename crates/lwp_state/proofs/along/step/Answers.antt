use Rattle.lwp_state.proofs.AlongLaws.{called-on, taken-on, turn-of}
use Rattle.lwp_state.specs.Along.{moment_at}
use Rattle.pod_runner.specs.Run.{session_of}
use Rattle.streams.specs.Streams.{sides}
use Rattle.std.proofs.Common.{arith, refl}
use Rattle.lwp_state.proofs.along.step.Goals as goal

pub offer-requires : goal.offer-requires
offer-requires g c = λ k. ((refl, tt), (c.requires.on.sound, c.in-Some.ensures.due))

pub turn-requires : goal.turn-requires
turn-requires g c = λ k. (
  (refl, tt),
  (
    c.requires.on.sound,
    turn-of (session_of g.B.Body.next g.P.Program.bodies c.args.run.now).live.pod.state c.args.run.now.turns c.args.run.now.calls
        c.in-None.ensures.due (omega (arith, c.in-None.ensures.more, c.requires.on.room)),
  ),
)

pub returns-in-Some : goal.returns-in-Some
returns-in-Some g c =
    taken-on g.B.Body.next g.P.Program.bodies g.P.Program.proc_names (moment_at c.args.takes.now c.args.end)
    (sides g.K.Sink.written g.K.Sink.faults c.args.sink.now c.offer.new.sink) c.args.run.now c.offer.new.self c.in-Some.took c.offer.result
    c.requires.on c.in-Some.ensures c.offer.ensures.after c.offer.ensures.told c.offer.ensures.made

pub returns-in-None : goal.returns-in-None
returns-in-None g c =
    called-on g.B.Body.next g.P.Program.bodies g.P.Program.proc_names (moment_at c.args.takes.now c.args.end)
    (sides g.K.Sink.written g.K.Sink.faults c.args.sink.now c.turn.new.sink) c.args.run.now c.turn.new.self c.turn.result
    c.requires.on c.in-None.ensures c.turn.ensures.after c.turn.ensures.told c.turn.ensures.made
