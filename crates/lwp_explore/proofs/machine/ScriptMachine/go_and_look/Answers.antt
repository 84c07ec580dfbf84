use Rattle.lwp_explore.proofs.StandingLaws.{told_all}
use Rattle.lwp_explore.proofs.StepPlaces.{gone_writes}
use Rattle.lwp_explore.proofs.machine.ScriptMachine.go_and_look.Goals as goal
use Rattle.lwp_explore.specs.Cores.{after}
use Rattle.lwp_explore.specs.Lines.{has_line}
use Rattle.lwp_explore.specs.Sessions.{world_of}
use Rattle.lwp_explore.specs.Standing.{IsGone, Standing, core_now, trace_now}
use Rattle.lwp_explore.specs.Telling.{Telling}
use Rattle.lwp_explore.specs.Ways.{tail_of}
use Rattle.script_session.specs.SoFar.{lines_after}
use Rattle.script_text.specs.declared.script.Script.{Script}
use Rattle.std.proofs.Common.{Some, ap, drop, false, length, slice_get, subst, sym, ◌++◌, ◌∙◌, ◌≡◌}
use Rattle.std.specs.Prelude.{IfSome}

pub invariant_of-self-3 : goal.invariant_of-self-3
invariant_of-self-3 c =
    let sound : c.self.inside.has_failed ≡ false = rw (← c.self.view_is) at c.requires.sound in
    let trace = lines_after c.self.inside.posts.now c.self.inside.run.value.takes c.self.inside.run.value.calls in
    let known : c.in-Some.before ≡ trace =
    subst (λ o. IfSome o (λ text. text ≡ trace)) (sym c.in-Some.ensures.value) (c.self.invariant.1 sound) in
    let all : c.go.new.sink.told ≡ trace_now c.go.new.self =
    told_all c.new-sink.result.told c.go.new.sink.told trace (trace_now c.go.new.self) c.in_ok-go.ensures.told.0
    (ap (λ (s : Telling). s.told) c.new-sink.ensures ∙ known) in (
      c.self-2.invariant.0,
      λ _. subst (λ (s : Standing). c.in-Some-after.told ≡ trace_now s) (sym c.self-2.view_is) (c.in-Some-after.ensures.told ∙ all),
    )

pub returns-clause-there : goal.returns-clause-there
returns-clause-there c =
    subst (λ (y : Standing × Standing). slice_get (after (world_of y.0.script) (core_now y.0)) c.args.number ≡ Some (core_now y.1))
    (λ i. (c.self.view_is i, sym c.self-2.view_is i)) c.in_ok-go.ensures.there

pub returns-clause-marked : goal.returns-clause-marked
returns-clause-marked c =
    let sound : c.self.inside.has_failed ≡ false = rw (← c.self.view_is) at c.requires.sound in
    let trace = lines_after c.self.inside.posts.now c.self.inside.run.value.takes c.self.inside.run.value.calls in
    let known : c.in-Some.before ≡ trace =
    subst (λ o. IfSome o (λ text. text ≡ trace)) (sym c.in-Some.ensures.value) (c.self.invariant.1 sound) in
    let all : c.go.new.sink.told ≡ trace_now c.go.new.self =
    told_all c.new-sink.result.told c.go.new.sink.told trace (trace_now c.go.new.self) c.in_ok-go.ensures.told.0
    (ap (λ (s : Telling). s.told) c.new-sink.ensures ∙ known) in
    let old = c.args.self.now in
    let new = c.go.new.self in
    let gone : IsGone old c.args.number new = subst (λ (s : Standing). IsGone s c.args.number new) c.self.view_is c.in_ok-go.ensures.step in
    let same : new.script ≡ old.script = c.in_ok-go.ensures.further.script ∙ ap (λ (s : Standing). s.script) c.self.view_is in
    let before : c.in-Some.before ≡ trace_now old = known ∙ ap (λ (s : Standing). trace_now s) c.self.view_is in
    let last = c.in-Some-after.ensures.bytes ∙ (λ i. drop (length (before i)) (all i)) in
    c.in_ok-found.ensures
    ∙ ap (λ (script : Script). has_line (c.in-Some-after.lines.items ++ tail_of (world_of script) (core_now new)) c.args.sought.now) same
    ∙ gone_writes old new c.args.number c.requires.step gone c.in-Some-after.lines.items c.args.sought.now last
