use Rattle.lwp_state.proofs.AlongLaws.{arrived, going-first, going-on, nearer}
use Rattle.lwp_state.specs.Along.{moment_at}
use Rattle.streams.specs.Streams.{sides}
use Rattle.std.proofs.Common.{rules, ◌≡◌}
use Rattle.lwp_state.proofs.along.go_to.Goals as goal

pub loop-end-init : goal.loop-end-init
loop-end-init g c = going-first g.B.Body.next g.P.Program.bodies (moment_at c.args.takes.now c.args.end) c.args.run.now
    c.reach_of-here.result c.requires.on c.reach_of-here.ensures.takes c.reach_of-here.ensures.calls

pub loop-end-smaller : goal.loop-end-smaller
loop-end-smaller g c =
    nearer g.B.Body.next g.P.Program.bodies g.P.Program.proc_names c.args.takes.now c.args.end
    (sides g.K.Sink.written g.K.Sink.faults c.loop-end.sink c.step.new.sink) c.args.run.now c.loop-end.run c.step.new.run
    c.loop-end.here c.reach_of-here-in-loop-end.result c.requires.within c.loop-end.invariant c.in_ok-step.ensures
    c.reach_of-here-in-loop-end.ensures.takes c.reach_of-here-in-loop-end.ensures.calls

pub loop-end-preserved : goal.loop-end-preserved
loop-end-preserved g c =
    going-on g.B.Body.next g.P.Program.bodies g.P.Program.proc_names (moment_at c.args.takes.now c.args.end)
    (sides g.K.Sink.written g.K.Sink.faults c.loop-end.sink c.step.new.sink) c.args.run.now c.loop-end.run c.step.new.run
    c.loop-end.here c.reach_of-here-in-loop-end.result c.loop-end.invariant c.in_ok-step.ensures c.reach_of-here-in-loop-end.ensures.takes
    c.reach_of-here-in-loop-end.ensures.calls

pub returns : goal.returns
returns g c =
    let same : c.loop-end.here ≡ c.args.end = search rules in
    arrived g.B.Body.next g.P.Program.bodies c.args.takes.now c.args.end c.loop-end.here c.args.run.now c.loop-end.run c.requires.within
    c.loop-end.invariant same
