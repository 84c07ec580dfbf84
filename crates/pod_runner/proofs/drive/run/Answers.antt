use Rattle.std.proofs.Common.{◌≡◌, ◌∙◌, None, arith, rules, subst}
use Rattle.pod_runner.specs.Eager.{IsFirstPart}
use Rattle.pod_runner.specs.Run.{plan_now}
use Rattle.pod_runner.proofs.Eagers.{first-same}
use Rattle.pod_runner.proofs.Rounds.{going-ends, going-fails, going-falls, going-finishes, going-on, going-part, new-whole, stream}
use Rattle.pod_runner.proofs.drive.run.Goals as goal

pub returns-in_err-halt-clause-does : goal.returns-in_err-halt-clause-does
returns-in_err-halt-clause-does g c = going-fails g.B.Body.next g.P.Program.bodies g.P.Program.proc_names _ _
    (g.K.Sink.written c.args.sink.now) (g.K.Sink.written c.loop-halt.sink) (g.K.Sink.written c.go_round.new.sink)
    (g.K.Sink.faults c.args.sink.now) (g.K.Sink.faults c.loop-halt.sink) (g.K.Sink.faults c.go_round.new.sink)
    c.args.run.now c.loop-halt.run c.go_round.new.run (g.G.Gate.stock c.args.gate.now) (g.G.Gate.stock c.loop-halt.gate)
    (g.G.Gate.stock c.go_round.new.gate) _ c.from_residual.result c.from_residual.ensures.1 c.loop-halt.invariant c.in_err-halt.ensures.does

pub returns-in_err-halt-clause-begun : goal.returns-in_err-halt-clause-begun
returns-in_err-halt-clause-begun g c = λ new.
    subst (λ whole. IsFirstPart (plan_now g.B.Body.next g.P.Program.bodies c.go_round.new.run (g.G.Gate.stock c.go_round.new.gate)) whole)
    (new-whole g.B.Body.next g.P.Program.bodies g.P.Program.proc_names c.args.run.now (g.G.Gate.stock c.args.gate.now) new)
    (going-part g.B.Body.next g.P.Program.bodies g.P.Program.proc_names
    (stream (g.K.Sink.written c.args.sink.now) (g.K.Sink.written c.loop-halt.sink) (g.K.Sink.faults c.args.sink.now) (g.K.Sink.faults c.loop-halt.sink))
    (stream (g.K.Sink.written c.loop-halt.sink) (g.K.Sink.written c.go_round.new.sink) (g.K.Sink.faults c.loop-halt.sink) (g.K.Sink.faults c.go_round.new.sink))
    c.args.run.now c.loop-halt.run c.go_round.new.run (g.G.Gate.stock c.args.gate.now) (g.G.Gate.stock c.loop-halt.gate)
    (g.G.Gate.stock c.go_round.new.gate) _ c.loop-halt.invariant c.in_err-halt.ensures.does)

pub returns-in-Some-clause-does : goal.returns-in-Some-clause-does
returns-in-Some-clause-does g c = going-ends g.B.Body.next g.P.Program.bodies g.P.Program.proc_names (g.K.Sink.written c.args.sink.now)
    (g.K.Sink.written c.loop-halt.sink) (g.K.Sink.written c.go_round.new.sink) (g.K.Sink.faults c.args.sink.now)
    (g.K.Sink.faults c.loop-halt.sink) (g.K.Sink.faults c.go_round.new.sink)
    c.args.run.now c.loop-halt.run c.go_round.new.run (g.G.Gate.stock c.args.gate.now) (g.G.Gate.stock c.loop-halt.gate)
    (g.G.Gate.stock c.go_round.new.gate) c.in-Some.halt _ _ c.loop-halt.invariant c.in_ok-halt.ensures.does (c.in_ok-halt.ensures.over ∙ c.in-Some.is)

pub returns-in-Some-clause-eager : goal.returns-in-Some-clause-eager
returns-in-Some-clause-eager g c = λ new. going-finishes g.B.Body.next g.P.Program.bodies g.P.Program.proc_names
    (stream (g.K.Sink.written c.args.sink.now) (g.K.Sink.written c.loop-halt.sink) (g.K.Sink.faults c.args.sink.now) (g.K.Sink.faults c.loop-halt.sink))
    (stream (g.K.Sink.written c.loop-halt.sink) (g.K.Sink.written c.go_round.new.sink) (g.K.Sink.faults c.loop-halt.sink) (g.K.Sink.faults c.go_round.new.sink))
    c.args.run.now c.loop-halt.run c.go_round.new.run (g.G.Gate.stock c.args.gate.now) (g.G.Gate.stock c.loop-halt.gate)
    (g.G.Gate.stock c.go_round.new.gate) c.in-Some.halt _ c.loop-halt.invariant c.in_ok-halt.ensures.does (c.in_ok-halt.ensures.over ∙ c.in-Some.is)
    ∙ new-whole g.B.Body.next g.P.Program.bodies g.P.Program.proc_names c.args.run.now (g.G.Gate.stock c.args.gate.now) new

pub returns-in-Some-clause-begun : goal.returns-in-Some-clause-begun
returns-in-Some-clause-begun g c =
    λ new. subst (λ whole. IsFirstPart (plan_now g.B.Body.next g.P.Program.bodies c.go_round.new.run (g.G.Gate.stock c.go_round.new.gate)) whole)
    (going-finishes g.B.Body.next g.P.Program.bodies g.P.Program.proc_names
    (stream (g.K.Sink.written c.args.sink.now) (g.K.Sink.written c.loop-halt.sink) (g.K.Sink.faults c.args.sink.now) (g.K.Sink.faults c.loop-halt.sink))
    (stream (g.K.Sink.written c.loop-halt.sink) (g.K.Sink.written c.go_round.new.sink) (g.K.Sink.faults c.loop-halt.sink)
    (g.K.Sink.faults c.go_round.new.sink))
    c.args.run.now c.loop-halt.run c.go_round.new.run (g.G.Gate.stock c.args.gate.now) (g.G.Gate.stock c.loop-halt.gate)
    (g.G.Gate.stock c.go_round.new.gate) c.in-Some.halt _ c.loop-halt.invariant c.in_ok-halt.ensures.does (c.in_ok-halt.ensures.over ∙ c.in-Some.is)
    ∙ new-whole g.B.Body.next g.P.Program.bodies g.P.Program.proc_names c.args.run.now (g.G.Gate.stock c.args.gate.now) new)
    (first-same (plan_now g.B.Body.next g.P.Program.bodies c.go_round.new.run (g.G.Gate.stock c.go_round.new.gate)))

pub loop-halt-smaller : goal.loop-halt-smaller
loop-halt-smaller g c =
    let none : c.in_ok-halt.field-0 ≡ None = search rules in
    let fewer = going-falls g.B.Body.next g.P.Program.bodies g.P.Program.proc_names
    (stream (g.K.Sink.written c.loop-halt.sink) (g.K.Sink.written c.go_round.new.sink) (g.K.Sink.faults c.loop-halt.sink)
    (g.K.Sink.faults c.go_round.new.sink))
    c.loop-halt.run c.go_round.new.run (g.G.Gate.stock c.loop-halt.gate) (g.G.Gate.stock c.go_round.new.gate) _
    c.in_ok-halt.ensures.does (c.in_ok-halt.ensures.over ∙ none) in
    omega (arith, fewer)

pub loop-halt-preserved : goal.loop-halt-preserved
loop-halt-preserved g c =
    going-on g.B.Body.next g.P.Program.bodies g.P.Program.proc_names (g.K.Sink.written c.args.sink.now) (g.K.Sink.written c.loop-halt.sink)
    (g.K.Sink.written c.go_round.new.sink) (g.K.Sink.faults c.args.sink.now) (g.K.Sink.faults c.loop-halt.sink) (g.K.Sink.faults c.go_round.new.sink)
    c.args.run.now c.loop-halt.run c.go_round.new.run (g.G.Gate.stock c.args.gate.now) (g.G.Gate.stock c.loop-halt.gate)
    (g.G.Gate.stock c.go_round.new.gate) _ c.loop-halt.invariant c.in_ok-halt.ensures.does
