use Rattle.lwp_explore.proofs.AlongLaws.{kept_lines, leads_first, trace_put}
use Rattle.lwp_explore.proofs.CycleLaws.{if_ok}
use Rattle.lwp_explore.proofs.tracing.trace_along.Goals as goal
use Rattle.lwp_explore.specs.Along.{IsAlong}
use Rattle.lwp_explore.specs.Cores.{after}
use Rattle.lwp_explore.specs.Sessions.{world_of}
use Rattle.lwp_explore.specs.Standing.{Standing, core_now, trace_now}
use Rattle.lwp_explore.specs.Telling.{Telling}
use Rattle.pod_runner.specs.Run.{Writes}
use Rattle.search.specs.Moves.{walk}
use Rattle.std.proofs.Common.{Some, ap, drop, length, subst, sym, ◌∙◌}
use Rattle.std.specs.Prelude.{IsSome}

pub go_along-requires-clause-sound : goal.go_along-requires-clause-sound
go_along-requires-clause-sound c = ap (λ (s : Standing). s.failed) c.in_ok-here.ensures ∙ c.requires.first.sound

pub go_along-requires-clause-leads : goal.go_along-requires-clause-leads
go_along-requires-clause-leads c =
    subst (λ (s : Standing). IsSome (walk (after (world_of s.script)) (core_now s) c.args.path.now)) (sym c.in_ok-here.ensures)
    (leads_first c.args.machine.now c.args.path.now c.requires.first c.requires.leads)

pub with_tail-requires : goal.with_tail-requires
with_tail-requires c = c.in_ok-go_along.ensures.along.sound

pub returns : goal.returns
returns c =
    let s = c.args.machine.now in
    let here = c.go_along.new.machine in
    let path = c.args.path.now in
    let along = subst (λ (x : Standing). IsAlong x path here) c.in_ok-here.ensures c.in_ok-go_along.ensures.along in
    let wrote = subst (λ (x : Standing). Writes (Some c.new-sink.result.told) (Some c.go_along.new.sink.told) (trace_now x) (trace_now here))
    c.in_ok-here.ensures c.in_ok-go_along.ensures.told in
    let told = kept_lines s here path c.new-sink.result.told c.go_along.new.sink.told c.requires.first along
    (ap (λ (t : Telling). t.told) c.new-sink.ensures ∙ c.nothing-before.ensures) wrote in
    let bytes = c.in-Some.ensures.bytes ∙ ap (λ b. drop (length b) c.go_along.new.sink.told) c.nothing-before.ensures in
    if_ok _ _ c.with_tail.result c.with_tail.ensures (λ text put.
    trace_put s here path c.in-Some.lines.items text.items c.requires.first along (bytes ∙ told) put)
