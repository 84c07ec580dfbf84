use Rattle.lwp_state.proofs.AlongLaws.{at-place, calls-next, none-at, not-there, takes-next}
use Rattle.lwp_state.specs.Along.{moment_at, moment_now}
use Rattle.pod_runner.specs.Run.{setting_of}
use Rattle.pod_runner.specs.declared.session.Took.{Took}
use Rattle.std.proofs.Common.{Option, Some, ap, arith, length, slice_get, subst, sym, take, ◌∙◌, ◌≡◌}
use Rattle.std.proofs.lemmas.List.{length-take-le}
use Rattle.lwp_state.proofs.along.take_now.Goals as goal

pub returns-then-place-end : goal.returns-then-place-end
returns-then-place-end g c =
    let takes = c.args.takes.now in
    let end = c.args.end in
    let now = c.args.run.now in
    calls-next (setting_of g.B.Body.next g.P.Program.bodies now) (moment_at takes end) (moment_now now) c.requires.on.way
    (not-there (moment_at takes end) (moment_now now) (λ same calls. c.requires.more (same ∙ length-take-le end.takes takes c.requires.within) calls))
    (λ took is turn. none-at takes end.takes (length now.takes) took (omega (arith, c.takes-place.ensures, c.if-place-end.true)) is)

pub returns-then-took-calls : goal.returns-then-took-calls
returns-then-took-calls g c =
    let takes = c.args.takes.now in
    let end = c.args.end in
    let now = c.args.run.now in
    takes-next (setting_of g.B.Body.next g.P.Program.bodies now) (moment_at takes end) (moment_now now) c.get-took.result c.requires.on.way
    (subst (λ i. slice_get (take end.takes takes) i ≡ Some c.get-took.result) c.takes-place.ensures
    (at-place takes end.takes c.takes-place.result c.get-took.result c.requires.within (omega (arith, c.if-place-end.false)) c.get-took.ensures))
    (c.if-took-calls.true ∙ c.calls.ensures)

pub returns : goal.returns
returns g c =
    let takes = c.args.takes.now in
    let end = c.args.end in
    let now = c.args.run.now in
    let here = subst (λ i. slice_get (take end.takes takes) i ≡ Some c.get-took.result) c.takes-place.ensures
    (at-place takes end.takes c.takes-place.result c.get-took.result c.requires.within (omega (arith, c.if-place-end.false)) c.get-took.ensures) in
    calls-next (setting_of g.B.Body.next g.P.Program.bodies now) (moment_at takes end) (moment_now now) c.requires.on.way
    (not-there (moment_at takes end) (moment_now now) (λ same calls. c.requires.more (same ∙ length-take-le end.takes takes c.requires.within) calls))
    (λ took is turn. let one : ◌≡◌ {A = Option Took} (Some c.get-took.result) (Some took) = sym here ∙ is in let same : c.get-took.result ≡ took = cc one in
    c.if-took-calls.false (ap (λ (x : Took). x.turn) same ∙ turn ∙ sym c.calls.ensures))
