use Rattle.event_gate.specs.Inlet.{AllTold}
use Rattle.lwp_live.proofs.Answerings.{untold_answer, untold_same}
use Rattle.lwp_live.proofs.Rounding.{lives_same_stop}
use Rattle.lwp_live.proofs.beside.idle_round.Goals as goal
use Rattle.lwp_live.specs.Telling.{steps_of}
use Rattle.pod_runner.proofs.Lives.{halts-stuck, idle-still, none-comes, quiet-now}
use Rattle.pod_runner.proofs.Rounds.{stream}
use Rattle.script_run.specs.Ties.{any_intake}
use Rattle.std.proofs.Common.{Ok, false, length, map, rules, subst, sym, ◌∙◌, ◌≡◌}
use Rattle.std.proofs.lemmas.Bool.{false≢true}

pub returns-in_err-serve-clause-lives : goal.returns-in_err-serve-clause-lives
returns-in_err-serve-clause-lives g c = lives_same_stop g.B.Body.next g.P.Program.bodies g.P.Program.proc_names (Unit {0}) _
    (stream (g.T.Sink.written c.args.trace.now) (g.T.Sink.written c.serve.new.trace) (g.T.Sink.faults c.args.trace.now) (g.T.Sink.faults c.serve.new.trace))
    c.args.run.now c.serve.new.run (map any_intake c.args.inlets.now.items) (map any_intake c.serve.new.inlets.items) c.from_residual.result _
    c.from_residual.ensures.1 c.in_err-serve.ensures.lives

pub returns-in_err-serve-clause-told : goal.returns-in_err-serve-clause-told
returns-in_err-serve-clause-told g c =
    untold_same (steps_of g.B.Body.next g.P.Program.bodies c.args.run.now) (steps_of g.B.Body.next g.P.Program.bodies c.serve.new.run)
    c.from_residual.result _ c.from_residual.ensures.1 c.in_err-serve.ensures.told

pub returns-then-takes-taken-clause-told : goal.returns-then-takes-taken-clause-told
returns-then-takes-taken-clause-told g c = untold_answer _ _ _ _ c.in_ok-serve.ensures.told

pub returns-then-all_told-clause-told : goal.returns-then-all_told-clause-told
returns-then-all_told-clause-told g c = untold_answer _ _ _ _ c.in_ok-serve.ensures.told

pub returns-clause-told : goal.returns-clause-told
returns-clause-told g c = untold_answer _ _ _ _ c.in_ok-serve.ensures.told

pub returns-then-all_told-clause-answers : goal.returns-then-all_told-clause-answers
returns-then-all_told-clause-answers g c =
    let same : length c.serve.new.run.takes ≡ length c.args.run.now.takes = search rules in
    let lived = c.in_ok-serve.ensures.lives in
    let served = c.in_ok-serve.ensures.served in
    let told = subst (λ xs. AllTold (map any_intake xs)) c.deref.ensures.value (c.all_told.ensures.0 (search rules)) in
    halts-stuck g.B.Body.next g.P.Program.bodies g.P.Program.proc_names c.serve.new.run (map any_intake c.serve.new.inlets.items)
    (idle-still g.B.Body.next g.P.Program.bodies g.P.Program.proc_names
    (stream (g.T.Sink.written c.args.trace.now) (g.T.Sink.written c.serve.new.trace) (g.T.Sink.faults c.args.trace.now) (g.T.Sink.faults c.serve.new.trace))
    c.args.run.now c.serve.new.run (map any_intake c.args.inlets.now.items) (map any_intake c.serve.new.inlets.items) (Ok tt) lived served.takes same
    ∙ c.requires.idle)
    (none-comes g.B.Body.next g.P.Program.bodies g.P.Program.proc_names
    (stream (g.T.Sink.written c.args.trace.now) (g.T.Sink.written c.serve.new.trace) (g.T.Sink.faults c.args.trace.now) (g.T.Sink.faults c.serve.new.trace))
    c.args.run.now c.serve.new.run (map any_intake c.args.inlets.now.items) (map any_intake c.serve.new.inlets.items) (Ok tt) lived served same told)

pub returns-clause-answers : goal.returns-clause-answers
returns-clause-answers g c =
    let same : length c.serve.new.run.takes ≡ length c.args.run.now.takes = search rules in
    let lived = c.in_ok-serve.ensures.lives in
    let served = c.in_ok-serve.ensures.served in
    let untold : c.all_told.result ≡ false = search rules in
    quiet-now g.B.Body.next g.P.Program.bodies g.P.Program.proc_names
    (stream (g.T.Sink.written c.args.trace.now) (g.T.Sink.written c.serve.new.trace) (g.T.Sink.faults c.args.trace.now) (g.T.Sink.faults c.serve.new.trace))
    c.args.run.now c.serve.new.run (map any_intake c.args.inlets.now.items) (map any_intake c.serve.new.inlets.items) (Ok tt) lived served same c.requires.idle
    (λ all. let answered = c.all_told.ensures.1 (subst (λ xs. AllTold (map any_intake xs)) (sym c.deref.ensures.value) all) in absurd
    (false≢true (sym untold ∙ answered)))
