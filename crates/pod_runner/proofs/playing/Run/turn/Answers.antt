use Rattle.std.proofs.Common.{arith, ◌≡◌, ◌+◌, List, ℕ, false, true}
use Rattle.lwp_types.specs.Names.{null_names}
use Rattle.pod_runner.specs.Run.{Played, with_call}
use Rattle.pod_runner.specs.RunParts.{live_of, last_step_effects}
use Rattle.pod_runner.specs.Play.{play}
use Rattle.pod_runner.specs.Session.{Setting}
use Rattle.pod_runner.proofs.Rounds.{stream}
use Rattle.pod_runner.proofs.Turns.{called-step, keeps-call, made-call, room-turn, tells-step, told-after}
use Rattle.pod_runner.proofs.playing.Run.turn.Goals as goal

pub overflow_add-self : goal.overflow_add-self
overflow_add-self g c =
    let setting : Setting _ = record {
      next = g.B.Body.next;
      bodies = g.P.Program.bodies c.self.inside.program;
      params = c.self.inside.params;
      names = null_names c.self.inside.threads c.self.inside.mons c.self.inside.conds;
    } in
    let due = rw (← c.self.view_is) at c.requires.due in
    omega (
      arith,
      c.self.invariant.few,
      room-turn (play setting c.self.inside.takes c.self.inside.calls).live.pod.state c.self.inside.turns c.self.inside.calls due,
    )

pub invariant_of-self-2 : goal.invariant_of-self-2
invariant_of-self-2 g c =
    let setting : Setting _ = record {
      next = g.B.Body.next;
      bodies = g.P.Program.bodies c.self.inside.program;
      params = c.self.inside.params;
      names = null_names c.self.inside.threads c.self.inside.mons c.self.inside.conds;
    } in
    let names : List (List ℕ) = g.P.Program.proc_names c.self.inside.program in
    let sound : c.self.inside.failed ≡ false = rw (← c.self.view_is) at c.requires.sound in
    let kept = c.self.invariant in
    let due = rw (← c.self.view_is) at c.requires.due in
    let step = called-step setting names c.self.inside.procs c.self.inside.takes c.self.inside.calls c.self.inside.turns
    (live_of c.self.inside.parts) (live_of c.turn.new.self) (last_step_effects c.turn.new.self) c.turn.new.out
    kept.named kept.made (kept.now sound) c.in_ok-turn.ensures in
    keeps-call setting names c.self.inside.procs c.self.inside.takes c.self.inside.calls c.self.inside.turns (live_of c.turn.new.self)
    (last_step_effects c.turn.new.self) c.tell.new.failed c.turn.new.out kept.named kept.few kept.made due step

pub returns-clause-after : goal.returns-clause-after
returns-clause-after g c =
    let sound : c.self.inside.failed ≡ false = rw (← c.self.view_is) at c.requires.sound in
    let was : Played _ = record {
      program = c.self.inside.program;
      params = c.self.inside.params;
      names = null_names c.self.inside.threads c.self.inside.mons c.self.inside.conds;
      turns = c.self.inside.turns;
      calls = c.self.inside.calls;
      takes = c.self.inside.takes;
      failed = c.self.inside.failed;
    } in
    rw (← c.self.view_is) (told-after (stream (g.K.Sink.written c.args.sink.now) (g.K.Sink.written c.tell.new.sink) (g.K.Sink.faults
    c.args.sink.now) (g.K.Sink.faults c.tell.new.sink)) c.turn.new.out was (with_call was) c.tell.new.failed c.tell.result sound c.tell.ensures)

pub returns-clause-told : goal.returns-clause-told
returns-clause-told g c =
    let setting : Setting _ = record {
      next = g.B.Body.next;
      bodies = g.P.Program.bodies c.self.inside.program;
      params = c.self.inside.params;
      names = null_names c.self.inside.threads c.self.inside.mons c.self.inside.conds;
    } in
    let names : List (List ℕ) = g.P.Program.proc_names c.self.inside.program in
    let sound : c.self.inside.failed ≡ false = rw (← c.self.view_is) at c.requires.sound in
    let kept = c.self.invariant in
    let due = rw (← c.self.view_is) at c.requires.due in
    let step = called-step setting names c.self.inside.procs c.self.inside.takes c.self.inside.calls c.self.inside.turns
    (live_of c.self.inside.parts) (live_of c.turn.new.self) (last_step_effects c.turn.new.self) c.turn.new.out
    kept.named kept.made (kept.now sound) c.in_ok-turn.ensures in
    rw (← c.self.view_is) (tells-step names (play setting c.self.inside.takes c.self.inside.calls) (play setting c.self.inside.takes
    (c.self.inside.calls + 1)) (live_of c.turn.new.self) (last_step_effects c.turn.new.self) c.turn.new.out (stream
    (g.K.Sink.written c.args.sink.now) (g.K.Sink.written c.tell.new.sink) (g.K.Sink.faults c.args.sink.now)
    (g.K.Sink.faults c.tell.new.sink)) true c.tell.new.failed c.tell.result step c.tell.ensures)

pub returns-clause-made : goal.returns-clause-made
returns-clause-made g c =
    let setting : Setting _ = record {
      next = g.B.Body.next;
      bodies = g.P.Program.bodies c.self.inside.program;
      params = c.self.inside.params;
      names = null_names c.self.inside.threads c.self.inside.mons c.self.inside.conds;
    } in
    let kept = c.self.invariant in
    let due = rw (← c.self.view_is) at c.requires.due in
    made-call setting c.self.inside.takes c.self.inside.calls c.self.inside.turns kept.made due
