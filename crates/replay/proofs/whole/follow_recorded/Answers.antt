use Rattle.std.proofs.Common.{[], ap, false, refl, subst, sym}
use Rattle.pod_runner.specs.Run.{Played}
use Rattle.replay.proofs.Peopled.{speaks}
use Rattle.replay.proofs.Steps.{going-opened}
use Rattle.replay.specs.Following.{Following}
use Rattle.replay.specs.Replayed.{asked_of, moment_of}
use Rattle.replay.specs.Walk.{Going, IsFit, Speaks, first_moment}
use Rattle.replay.proofs.whole.follow_recorded.Goals as goal

pub follow-requires : goal.follow-requires
follow-requires g c =
    let lines = g.C.Posted.lines c.args.lines.now in
    let posts = g.C.Posted.posts c.args.lines.now in
    let first : Played _ =
    record { program = c.args.program; params = c.args.params; names = c.args.env; turns = c.args.turns; calls = 0; takes = []; failed = false } in
    let asked = asked_of g.B.Body.next g.P.Program.bodies g.P.Program.proc_names first lines.clients posts in
    let sound = ap (λ (r : Played _). r.failed) c.in_ok-run.ensures in
    let clean = ap (λ (f : Following). f.step) c.new-follower.ensures in
    let allowed = sym (ap (λ (r : Played _). r.turns) c.in_ok-run.ensures) in
    let fit = subst (λ (r : Played _). IsFit (asked_of g.B.Body.next g.P.Program.bodies g.P.Program.proc_names r lines.clients posts))
    (sym c.in_ok-run.ensures) c.requires.fit in
    let peopled = subst (λ (r : Played _). Speaks (asked_of g.B.Body.next g.P.Program.bodies g.P.Program.proc_names r lines.clients posts))
    (sym c.in_ok-run.ensures)
    (speaks asked (record { bodies = c.requires.bodies; first = c.requires.procs; least = c.requires.least; most = c.requires.most })) in
    let going = subst
    (λ (r : Played _). Going (asked_of g.B.Body.next g.P.Program.bodies g.P.Program.proc_names r lines.clients posts)
    c.new-follower.result.recorded (moment_of r) lines c.new-follower.result.at c.new-follower.result.lines c.new-follower.result.ticks)
    (sym c.in_ok-run.ensures)
    (subst (λ (f : Following). Going asked f.recorded first_moment lines f.at f.lines f.ticks) (sym c.new-follower.ensures)
    (going-opened asked c.args.bytes.now c.requires.fit lines refl c.requires.left)) in
    λ k. ((refl, tt), (sound, (clean, (allowed, (fit, (peopled, going))))))
