use Rattle.std.proofs.Common.{◌≡◌, Err, List, Ok, OnOk, Result, length, map, ℕ}
use Rattle.event_gate.specs.Inlet.{Intake}
use Rattle.lwp_types.specs.Poll.{Next}
use Rattle.pod_runner.specs.Inlets.{Serves}
use Rattle.pod_runner.specs.Live.{LivesOn, LooksAtAll}
use Rattle.pod_runner.specs.Run.{Played, after_step, phase_now, with_call}
use Rattle.pod_runner.specs.declared.phase.Phase.TheVariants as phase
use Rattle.pod_runner.specs.declared.phase.RunErr.{RunErr}
use Rattle.pod_runner.proofs.LiveRounds.{rounds-err}
use Rattle.pod_runner.proofs.Lives.{lives-call, lives-then}
use Rattle.pod_runner.proofs.Looks.{looks-call}
use Rattle.pod_runner.proofs.Rounds.{stream}
use Rattle.pod_runner.proofs.live_rounds.turn_round.Goals as goal
use Rattle.streams.specs.Streams.{Stream}

-- each inlet was looked at before a call that was made
looked : {B P : Type 0} (next : Next B) (bodies : P → List B) (procs : P → List (List ℕ)) (s : Stream) (old mid new : Played P)
    (before after : List Intake) (x : Unit {0}) (r : Result (Unit {0}) RunErr)
    → phase_now next bodies old ≡ phase.Turn → LivesOn next bodies procs s old mid before after (Ok x)
    → Serves next bodies (length before) old mid before after → new ≡ after_step mid (with_call mid) r
    → OnOk r (LooksAtAll next bodies old new before after)
looked next bodies procs s old mid new before after x (Ok y) due lives serves is =
    looks-call next bodies procs s old mid new before after x y due lives serves is
looked next bodies procs s old mid new before after x (Err e) due lives serves is = tt

pub returns-in_err-serve_all : goal.returns-in_err-serve_all
returns-in_err-serve_all g c = rounds-err g.B.Body.next g.P.Program.bodies g.P.Program.proc_names (Unit {0}) _
    (stream (g.K.Sink.written c.args.sink.now) (g.K.Sink.written c.serve_all.new.sink) (g.K.Sink.faults c.args.sink.now) (g.K.Sink.faults c.serve_all.new.sink))
    c.args.run.now c.serve_all.new.run (map g.I.Inlet.intake c.args.inlets.now.items) (map g.I.Inlet.intake c.serve_all.new.inlets.items)
    c.from_residual.result _ c.from_residual.ensures.1 c.in_err-serve_all.ensures.lives

pub returns : goal.returns
returns g c = record {
  lives = lives-then g.B.Body.next g.P.Program.bodies g.P.Program.proc_names (g.K.Sink.written c.args.sink.now)
      (g.K.Sink.written c.serve_all.new.sink) (g.K.Sink.written c.turn.new.sink) (g.K.Sink.faults c.args.sink.now)
      (g.K.Sink.faults c.serve_all.new.sink) (g.K.Sink.faults c.turn.new.sink) c.args.run.now c.serve_all.new.run c.turn.new.self
      (map g.I.Inlet.intake c.args.inlets.now.items) (map g.I.Inlet.intake c.serve_all.new.inlets.items)
      (map g.I.Inlet.intake c.serve_all.new.inlets.items) c.in_ok-serve_all.field-0 c.turn.result c.in_ok-serve_all.ensures.lives
      (lives-call g.B.Body.next g.P.Program.bodies g.P.Program.proc_names
      (stream (g.K.Sink.written c.serve_all.new.sink) (g.K.Sink.written c.turn.new.sink) (g.K.Sink.faults c.serve_all.new.sink)
      (g.K.Sink.faults c.turn.new.sink))
      c.serve_all.new.run c.turn.new.self (map g.I.Inlet.intake c.serve_all.new.inlets.items) c.turn.result
      c.in_ok-serve_all.ensures.lives.ran.sound c.in_ok-serve_all.ensures.lives.ran.made c.turn.ensures.after c.turn.ensures.told
      c.turn.ensures.made c.turn.ensures.room);
  looked = looked g.B.Body.next g.P.Program.bodies g.P.Program.proc_names
      (stream (g.K.Sink.written c.args.sink.now) (g.K.Sink.written c.serve_all.new.sink) (g.K.Sink.faults c.args.sink.now)
      (g.K.Sink.faults c.serve_all.new.sink))
      c.args.run.now c.serve_all.new.run c.turn.new.self (map g.I.Inlet.intake c.args.inlets.now.items)
      (map g.I.Inlet.intake c.serve_all.new.inlets.items) c.in_ok-serve_all.field-0 c.turn.result
      c.requires.due c.in_ok-serve_all.ensures.lives c.in_ok-serve_all.ensures.served c.turn.ensures.after;
}
