use Rattle.event_gate.specs.Clients.{of}
use Rattle.lwp_explore.proofs.StandingLaws.{few_taken, left_of, left_taken, length_taken, told_in, took_goes, took_in, took_there}
use Rattle.lwp_explore.proofs.machine.ScriptMachine.take.Goals as goal
use Rattle.lwp_explore.specs.Cores.{count_at}
use Rattle.lwp_explore.specs.Standing.{IsTaken, Standing, trace_now}
use Rattle.pod_runner.specs.Run.{Tells}
use Rattle.pod_runner.specs.Snapshots.{taken_by}
use Rattle.script_session.specs.SoFar.{lines_after}
use Rattle.script_text.specs.Script.{lines_posted}
use Rattle.pod_runner.specs.declared.phase.RunErr.{RunErr}
use Rattle.std.proofs.Common.{Err, List, Ok, Option, Result, Some, ap, arith, false, length, option_map, slice_get, subst, sym, ℕ, ◌<◌, ◌∙◌, ◌≡◌}
use Rattle.std.proofs.lemmas.List.{get_or_default}
use Rattle.std.specs.Prelude.{slice_index}
use Rattle.streams.specs.Streams.{sides}

pub index-requires : goal.index-requires
index-requires g c =
    let sound : c.self.inside.has_failed ≡ false = rw (← c.self.view_is) at c.requires.sound in
    let within : c.args.client < length c.self.inside.posts.now.clients = rw (← c.self.view_is) at c.requires.client in
    omega (arith, within, length_taken c.self.invariant.0 sound)

pub overflow_cast-index : goal.overflow_cast-index
overflow_cast-index g c =
    let sound : c.self.inside.has_failed ≡ false = rw (← c.self.view_is) at c.requires.sound in
    let within : c.args.client < length c.self.inside.posts.now.clients = rw (← c.self.view_is) at c.requires.client in
    let at = c.index.ensures ∙ get_or_default c.self.inside.taken.items c.args.client c.index.result.now 0
    (omega (arith, within, length_taken c.self.invariant.0 sound)) in
    omega (arith, at, few_taken c.self.invariant.0 sound c.args.client within, c.self.invariant.0.posted.each c.args.client)

pub line-line-requires-clause-number : goal.line-line-requires-clause-number
line-line-requires-clause-number g c =
    let sound : c.self.inside.has_failed ≡ false = rw (← c.self.view_is) at c.requires.sound in
    let within : c.args.client < length c.self.inside.posts.now.clients = rw (← c.self.view_is) at c.requires.client in
    let script = c.self.inside.posts.now in
    let left : count_at (taken_by (length script.clients) c.self.inside.run.value.takes) c.args.client < length (of c.args.client (lines_posted script)) =
    rw (← c.self.view_is) at (left_of c.args.self.now c.args.client c.requires.may) in
    let at = c.index.ensures ∙ get_or_default c.self.inside.taken.items c.args.client c.index.result.now 0
    (omega (arith, within, length_taken c.self.invariant.0 sound)) in
    omega (arith, at, left_taken c.self.invariant.0 sound c.args.client left)

pub index_mut-requires : goal.index_mut-requires
index_mut-requires g c =
    let sound : c.self.inside.has_failed ≡ false = rw (← c.self.view_is) at c.requires.sound in
    let within : c.args.client < length c.self.inside.posts.now.clients = rw (← c.self.view_is) at c.requires.client in
    omega (arith, within, length_taken c.self.invariant.0 sound)

pub overflow_add-index_mut : goal.overflow_add-index_mut
overflow_add-index_mut g c =
    let sound : c.self.inside.has_failed ≡ false = rw (← c.self.view_is) at c.requires.sound in
    let within : c.args.client < length c.self.inside.posts.now.clients = rw (← c.self.view_is) at c.requires.client in
    let at = c.index_mut.ensures.value ∙ get_or_default c.self.inside.taken.items c.args.client c.index_mut.result.now 0
    (omega (arith, within, length_taken c.self.invariant.0 sound)) in
    omega (arith, at, few_taken c.self.invariant.0 sound c.args.client within, c.self.invariant.0.posted.each c.args.client)

pub invariant_of-self : goal.invariant_of-self
invariant_of-self g c =
    let sound : c.self.inside.has_failed ≡ false = rw (← c.self.view_is) at c.requires.sound in
    let within : c.args.client < length c.self.inside.posts.now.clients = rw (← c.self.view_is) at c.requires.client in
    let at = c.index.ensures ∙ get_or_default c.self.inside.taken.items c.args.client c.index.result.now 0
    (omega (arith, within, length_taken c.self.invariant.0 sound)) in
    let following : slice_get (of c.args.client (lines_posted c.self.inside.posts.now)) (slice_index c.self.inside.taken.items c.args.client)
    ≡ Some c.line-line.result =
    ap (slice_get (of c.args.client (lines_posted c.self.inside.posts.now))) (sym at) ∙ c.line-line.ensures in
    let counts = c.index_mut.ensures.value ∙ get_or_default c.self.inside.taken.items c.args.client c.index_mut.result.now 0
    (omega (arith, within, length_taken c.self.invariant.0 sound)) in (
      took_in c.self.invariant.0 sound c.args.client c.line-line.result c.deref_mut.result.now c.offer.new.self c.deref_mut.ensures.value
          c.event.result c.in-Ok.ensures.after c.index_mut.result.now counts within c.event.ensures following c.in-Ok.ensures.made,
      λ _. tt,
    )

pub returns-in-Ok-clause-there : goal.returns-in-Ok-clause-there
returns-in-Ok-clause-there g c =
    let sound : c.self.inside.has_failed ≡ false = rw (← c.self.view_is) at c.requires.sound in
    let within : c.args.client < length c.self.inside.posts.now.clients = rw (← c.self.view_is) at c.requires.client in
    let at = c.index.ensures ∙ get_or_default c.self.inside.taken.items c.args.client c.index.result.now 0
    (omega (arith, within, length_taken c.self.invariant.0 sound)) in
    let following : slice_get (of c.args.client (lines_posted c.self.inside.posts.now)) (slice_index c.self.inside.taken.items c.args.client)
    ≡ Some c.line-line.result =
    ap (slice_get (of c.args.client (lines_posted c.self.inside.posts.now))) (sym at) ∙ c.line-line.ensures in
    let sought : Option (List ℕ) = option_map (λ line. line.now) c.self.inside.sought in
    subst (λ (s : Standing). IsTaken s c.args.client
    (record { script = c.self.inside.posts.now; run = c.offer.new.self; sought = sought; failed = false })) c.self.view_is
    (took_there c.self.invariant.0 sound c.args.client c.line-line.result c.deref_mut.result.now c.offer.new.self c.deref_mut.ensures.value
    c.event.result c.in-Ok.ensures.after sought within c.event.ensures following)

pub returns-in-Ok-clause-told : goal.returns-in-Ok-clause-told
returns-in-Ok-clause-told g c =
    let stream = sides g.K.Sink.written g.K.Sink.faults c.args.sink.now c.offer.new.sink in
    let result = Ok c.in-Ok.field-0 in
    subst (λ (s : Standing). Tells stream (trace_now s) (trace_now s)
    (lines_after c.self.inside.posts.now c.offer.new.self.takes c.offer.new.self.calls) result) c.self.view_is
    (told_in c.self.invariant.0 stream c.deref_mut.result.now c.offer.new.self result c.deref_mut.ensures.value
    (took_goes c.self.inside.run.value c.deref_mut.result.now c.offer.new.self c.event.result c.line-line.result result
    c.deref_mut.ensures.value c.in-Ok.ensures.after) c.in-Ok.ensures.told)

pub returns-in-Err-clause-told : goal.returns-in-Err-clause-told
returns-in-Err-clause-told g c =
    let stream = sides g.K.Sink.written g.K.Sink.faults c.args.sink.now c.offer.new.sink in
    let result : Result (Unit {0}) RunErr = Err c.in-Err.e in
    subst (λ (s : Standing). Tells stream (trace_now s) (trace_now s)
    (lines_after c.self.inside.posts.now c.offer.new.self.takes c.offer.new.self.calls) result) c.self.view_is
    (told_in c.self.invariant.0 stream c.deref_mut.result.now c.offer.new.self result c.deref_mut.ensures.value
    (took_goes c.self.inside.run.value c.deref_mut.result.now c.offer.new.self c.event.result c.line-line.result result
    c.deref_mut.ensures.value c.in-Err.ensures.after) c.in-Err.ensures.told)
