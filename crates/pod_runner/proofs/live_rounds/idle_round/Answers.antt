use Rattle.std.proofs.Common.{◌≡◌, ◌∙◌, false, length, map, rules, subst, sym, Ok}
use Rattle.std.proofs.lemmas.Bool.{false≢true}
use Rattle.event_gate.specs.Inlet.{AllTold}
use Rattle.pod_runner.proofs.LiveRounds.{rounds-err, rounds-still}
use Rattle.pod_runner.proofs.Lives.{halts-stuck, idle-still, none-comes, quiet-now}
use Rattle.pod_runner.proofs.Rounds.{stream}
use Rattle.pod_runner.proofs.live_rounds.idle_round.Goals as goal

pub returns-in_err-serve_all-clause-rounds : goal.returns-in_err-serve_all-clause-rounds
returns-in_err-serve_all-clause-rounds g c = rounds-err g.B.Body.next g.P.Program.bodies g.P.Program.proc_names (Unit {0}) _
    (stream (g.K.Sink.written c.args.sink.now) (g.K.Sink.written c.serve_all.new.sink) (g.K.Sink.faults c.args.sink.now) (g.K.Sink.faults c.serve_all.new.sink))
    c.args.run.now c.serve_all.new.run (map g.I.Inlet.intake c.args.inlets.now.items) (map g.I.Inlet.intake c.serve_all.new.inlets.items)
    c.from_residual.result _ c.from_residual.ensures.1 c.in_err-serve_all.ensures.lives

pub returns-then-takes-taken-clause-rounds : goal.returns-then-takes-taken-clause-rounds
returns-then-takes-taken-clause-rounds g c = rounds-still g.B.Body.next g.P.Program.bodies g.P.Program.proc_names
    (stream (g.K.Sink.written c.args.sink.now) (g.K.Sink.written c.serve_all.new.sink) (g.K.Sink.faults c.args.sink.now) (g.K.Sink.faults c.serve_all.new.sink))
    c.args.run.now c.serve_all.new.run (map g.I.Inlet.intake c.args.inlets.now.items) (map g.I.Inlet.intake c.serve_all.new.inlets.items)
    c.in_ok-serve_all.field-0 _ c.in_ok-serve_all.ensures.lives c.in_ok-serve_all.ensures.served.takes

pub returns-then-all_told-clause-rounds : goal.returns-then-all_told-clause-rounds
returns-then-all_told-clause-rounds g c = rounds-still g.B.Body.next g.P.Program.bodies g.P.Program.proc_names
    (stream (g.K.Sink.written c.args.sink.now) (g.K.Sink.written c.serve_all.new.sink) (g.K.Sink.faults c.args.sink.now) (g.K.Sink.faults c.serve_all.new.sink))
    c.args.run.now c.serve_all.new.run (map g.I.Inlet.intake c.args.inlets.now.items) (map g.I.Inlet.intake c.serve_all.new.inlets.items)
    c.in_ok-serve_all.field-0 _ c.in_ok-serve_all.ensures.lives c.in_ok-serve_all.ensures.served.takes

pub returns-clause-rounds : goal.returns-clause-rounds
returns-clause-rounds g c = rounds-still g.B.Body.next g.P.Program.bodies g.P.Program.proc_names
    (stream (g.K.Sink.written c.args.sink.now) (g.K.Sink.written c.serve_all.new.sink) (g.K.Sink.faults c.args.sink.now) (g.K.Sink.faults c.serve_all.new.sink))
    c.args.run.now c.serve_all.new.run (map g.I.Inlet.intake c.args.inlets.now.items) (map g.I.Inlet.intake c.serve_all.new.inlets.items)
    c.in_ok-serve_all.field-0 _ c.in_ok-serve_all.ensures.lives c.in_ok-serve_all.ensures.served.takes

pub returns-then-all_told-clause-answers : goal.returns-then-all_told-clause-answers
returns-then-all_told-clause-answers g c =
    let same : length c.serve_all.new.run.takes ≡ length c.args.run.now.takes = search rules in
    let lived = c.in_ok-serve_all.ensures.lives in
    let served = c.in_ok-serve_all.ensures.served in
    let told = subst (λ xs. AllTold (map g.I.Inlet.intake xs)) c.deref.ensures.value (c.all_told.ensures.0 (search rules)) in
    halts-stuck g.B.Body.next g.P.Program.bodies g.P.Program.proc_names c.serve_all.new.run (map g.I.Inlet.intake c.serve_all.new.inlets.items)
    (idle-still g.B.Body.next g.P.Program.bodies g.P.Program.proc_names
    (stream (g.K.Sink.written c.args.sink.now) (g.K.Sink.written c.serve_all.new.sink) (g.K.Sink.faults c.args.sink.now)
    (g.K.Sink.faults c.serve_all.new.sink))
    c.args.run.now c.serve_all.new.run (map g.I.Inlet.intake c.args.inlets.now.items)
    (map g.I.Inlet.intake c.serve_all.new.inlets.items) (Ok c.in_ok-serve_all.field-0) lived served.takes same
    ∙ c.requires.idle)
    (none-comes g.B.Body.next g.P.Program.bodies g.P.Program.proc_names
    (stream (g.K.Sink.written c.args.sink.now) (g.K.Sink.written c.serve_all.new.sink) (g.K.Sink.faults c.args.sink.now)
    (g.K.Sink.faults c.serve_all.new.sink))
    c.args.run.now c.serve_all.new.run (map g.I.Inlet.intake c.args.inlets.now.items)
    (map g.I.Inlet.intake c.serve_all.new.inlets.items) (Ok c.in_ok-serve_all.field-0) lived served same told)

pub returns-clause-answers : goal.returns-clause-answers
returns-clause-answers g c =
    let same : length c.serve_all.new.run.takes ≡ length c.args.run.now.takes = search rules in
    let lived = c.in_ok-serve_all.ensures.lives in
    let served = c.in_ok-serve_all.ensures.served in
    let untold : c.all_told.result ≡ false = search rules in
    quiet-now g.B.Body.next g.P.Program.bodies g.P.Program.proc_names
    (stream (g.K.Sink.written c.args.sink.now) (g.K.Sink.written c.serve_all.new.sink) (g.K.Sink.faults c.args.sink.now)
    (g.K.Sink.faults c.serve_all.new.sink))
    c.args.run.now c.serve_all.new.run (map g.I.Inlet.intake c.args.inlets.now.items)
    (map g.I.Inlet.intake c.serve_all.new.inlets.items) (Ok c.in_ok-serve_all.field-0) lived served same c.requires.idle
    (λ all. let answered = c.all_told.ensures.1 (subst (λ xs. AllTold (map g.I.Inlet.intake xs)) (sym c.deref.ensures.value) all) in
    absurd (false≢true (sym untold ∙ answered)))
