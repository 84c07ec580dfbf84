use Rattle.std.proofs.Common.{◌≡◌, ◌++◌, ◌∷◌, [], List, ℕ, false, true, refl}
use Rattle.lwp_types.specs.Names.{null_names}
use Rattle.pod_runner.specs.Run.{Played, with_took}
use Rattle.pod_runner.specs.RunParts.{live_of, last_step_effects}
use Rattle.pod_runner.specs.Play.{play}
use Rattle.pod_runner.specs.Session.{Setting}
use Rattle.pod_runner.specs.declared.session.Took.{Took}
use Rattle.pod_runner.proofs.Plays.{IsDefined-take}
use Rattle.pod_runner.proofs.Rounds.{stream}
use Rattle.pod_runner.proofs.Turns.{keeps-take, taken-step, tells-step, told-after}
use Rattle.pod_runner.proofs.playing.Run.offer.Goals as goal

pub invariant_of-self-2 : goal.invariant_of-self-2
invariant_of-self-2 g c =
    let setting : Setting _ = record {
      next = g.B.Body.next;
      bodies = g.P.Program.bodies c.self.inside.program;
      params = c.self.inside.params;
      names = null_names c.self.inside.threads c.self.inside.mons c.self.inside.conds;
    } in
    let names : List (List ℕ) = g.P.Program.proc_names c.self.inside.program in
    let sound : c.self.inside.failed ≡ false = rw (← c.self.view_is) at c.requires.sound in
    let kept = c.self.invariant in
    let took : Took = record { turn = c.self.inside.calls; line = c.args.line; event = c.args.event } in
    let step = taken-step setting names c.self.inside.procs c.self.inside.takes c.self.inside.calls c.self.inside.turns
    (live_of c.self.inside.parts) (live_of c.deliver.new.self) (last_step_effects c.deliver.new.self) c.deliver.new.out
    kept.named kept.made (kept.now sound) took refl c.in_ok-deliver.ensures in
    let may = rw (← c.self.view_is) at c.requires.wants in
    rw c.in_ok-push.ensures.ok (keeps-take setting names c.self.inside.procs c.self.inside.takes c.self.inside.calls c.self.inside.turns
    (live_of c.deliver.new.self) (last_step_effects c.deliver.new.self) c.tell.new.failed c.deliver.new.out took kept.named kept.few
    kept.made kept.room refl may step)

pub returns-clause-after : goal.returns-clause-after
returns-clause-after g c =
    let sound : c.self.inside.failed ≡ false = rw (← c.self.view_is) at c.requires.sound in
    let was : Played _ = record {
      program = c.self.inside.program;
      params = c.self.inside.params;
      names = null_names c.self.inside.threads c.self.inside.mons c.self.inside.conds;
      turns = c.self.inside.turns;
      calls = c.self.inside.calls;
      takes = c.self.inside.takes;
      failed = c.self.inside.failed;
    } in
    rw (← c.self.view_is, c.in_ok-push.ensures.ok) (told-after
    (stream (g.K.Sink.written c.args.sink.now) (g.K.Sink.written c.tell.new.sink) (g.K.Sink.faults c.args.sink.now) (g.K.Sink.faults c.tell.new.sink))
    c.deliver.new.out was (with_took was c.args.event c.args.line) c.tell.new.failed c.tell.result sound c.tell.ensures)

pub returns-clause-told : goal.returns-clause-told
returns-clause-told g c =
    let setting : Setting _ = record {
      next = g.B.Body.next;
      bodies = g.P.Program.bodies c.self.inside.program;
      params = c.self.inside.params;
      names = null_names c.self.inside.threads c.self.inside.mons c.self.inside.conds;
    } in
    let names : List (List ℕ) = g.P.Program.proc_names c.self.inside.program in
    let sound : c.self.inside.failed ≡ false = rw (← c.self.view_is) at c.requires.sound in
    let kept = c.self.invariant in
    let took : Took = record { turn = c.self.inside.calls; line = c.args.line; event = c.args.event } in
    let step = taken-step setting names c.self.inside.procs c.self.inside.takes c.self.inside.calls c.self.inside.turns
    (live_of c.self.inside.parts) (live_of c.deliver.new.self) (last_step_effects c.deliver.new.self) c.deliver.new.out
    kept.named kept.made (kept.now sound) took refl c.in_ok-deliver.ensures in
    rw (← c.self.view_is, c.in_ok-push.ensures.ok) (tells-step names (play setting c.self.inside.takes c.self.inside.calls) (play setting
    (c.self.inside.takes ++ took ∷ []) c.self.inside.calls) (live_of c.deliver.new.self) (last_step_effects
    c.deliver.new.self) c.deliver.new.out (stream (g.K.Sink.written c.args.sink.now) (g.K.Sink.written c.tell.new.sink)
    (g.K.Sink.faults c.args.sink.now) (g.K.Sink.faults c.tell.new.sink)) true c.tell.new.failed c.tell.result step c.tell.ensures)

pub returns-clause-made : goal.returns-clause-made
returns-clause-made g c =
    let setting : Setting _ = record {
      next = g.B.Body.next;
      bodies = g.P.Program.bodies c.self.inside.program;
      params = c.self.inside.params;
      names = null_names c.self.inside.threads c.self.inside.mons c.self.inside.conds;
    } in
    let kept = c.self.invariant in
    let took : Took = record { turn = c.self.inside.calls; line = c.args.line; event = c.args.event } in
    let may = rw (← c.self.view_is) at c.requires.wants in
    rw c.in_ok-push.ensures.ok (IsDefined-take setting took c.self.inside.takes c.self.inside.calls refl kept.made may)
