use Rattle.lwp_explore.proofs.StandingLaws.{call_goes, called_there, told_in}
use Rattle.lwp_explore.proofs.machine.ScriptMachine.call.Goals as goal
use Rattle.lwp_explore.specs.Standing.{IsCalled, Standing, trace_now}
use Rattle.pod_runner.specs.Run.{Tells}
use Rattle.script_session.specs.SoFar.{lines_after}
use Rattle.pod_runner.specs.declared.phase.RunErr.{RunErr}
use Rattle.std.proofs.Common.{Err, List, Ok, Option, Result, false, option_map, subst, ℕ, ◌≡◌}
use Rattle.streams.specs.Streams.{sides}

pub returns-in-Ok-clause-there : goal.returns-in-Ok-clause-there
returns-in-Ok-clause-there g c =
    let sound : c.self.inside.has_failed ≡ false = rw (← c.self.view_is) at c.requires.sound in
    let sought : Option (List ℕ) = option_map (λ line. line.now) c.self.inside.sought in
    subst (λ (s : Standing). IsCalled s (record { script = c.self.inside.posts.now; run = c.turn.new.self; sought = sought; failed = false }))
    c.self.view_is
    (called_there c.self.invariant.0 sound c.deref_mut.result.now c.turn.new.self c.deref_mut.ensures.value c.in-Ok.ensures.after sought)

pub returns-in-Ok-clause-told : goal.returns-in-Ok-clause-told
returns-in-Ok-clause-told g c =
    let stream = sides g.K.Sink.written g.K.Sink.faults c.args.sink.now c.turn.new.sink in
    let result = Ok c.in-Ok.field-0 in
    subst (λ (s : Standing). Tells stream (trace_now s) (trace_now s)
    (lines_after c.self.inside.posts.now c.turn.new.self.takes c.turn.new.self.calls) result) c.self.view_is
    (told_in c.self.invariant.0 stream c.deref_mut.result.now c.turn.new.self result c.deref_mut.ensures.value
    (call_goes c.self.inside.run.value c.deref_mut.result.now c.turn.new.self result c.deref_mut.ensures.value c.in-Ok.ensures.after)
    c.in-Ok.ensures.told)

pub returns-in-Err-clause-told : goal.returns-in-Err-clause-told
returns-in-Err-clause-told g c =
    let stream = sides g.K.Sink.written g.K.Sink.faults c.args.sink.now c.turn.new.sink in
    let result : Result (Unit {0}) RunErr = Err c.in-Err.e in
    subst (λ (s : Standing). Tells stream (trace_now s) (trace_now s)
    (lines_after c.self.inside.posts.now c.turn.new.self.takes c.turn.new.self.calls) result) c.self.view_is
    (told_in c.self.invariant.0 stream c.deref_mut.result.now c.turn.new.self result c.deref_mut.ensures.value
    (call_goes c.self.inside.run.value c.deref_mut.result.now c.turn.new.self result c.deref_mut.ensures.value c.in-Err.ensures.after)
    c.in-Err.ensures.told)
