use Rattle.lwp_live.proofs.Answerings.{answering_answer, answering_err, answering_same, untold_same, untold_then}
use Rattle.lwp_live.proofs.Rounding.{lives_same_stop}
use Rattle.lwp_live.proofs.beside.go_round.Goals as goal
use Rattle.lwp_live.specs.Telling.{as_run, steps_of}
use Rattle.pod_runner.proofs.Lives.{lives-same, lives-then}
use Rattle.pod_runner.proofs.Rounds.{stream}
use Rattle.script_run.specs.Ties.{any_intake}
use Rattle.std.proofs.Common.{Err, Ok, map}

pub returns-in-Ended-clause-lives : goal.returns-in-Ended-clause-lives
returns-in-Ended-clause-lives g c = lives-same g.B.Body.next g.P.Program.bodies g.P.Program.proc_names (g.T.Sink.written c.args.trace.now)
    (g.T.Sink.faults c.args.trace.now) c.args.run.now (map any_intake c.args.inlets.now.items) tt c.requires.sound c.phase.ensures.made
    c.phase.ensures.room

pub returns-in-Spent-clause-lives : goal.returns-in-Spent-clause-lives
returns-in-Spent-clause-lives g c = lives-same g.B.Body.next g.P.Program.bodies g.P.Program.proc_names (g.T.Sink.written c.args.trace.now)
    (g.T.Sink.faults c.args.trace.now) c.args.run.now (map any_intake c.args.inlets.now.items) tt c.requires.sound c.phase.ensures.made
    c.phase.ensures.room

pub returns-in_err-serve-in-Turn-clause-told : goal.returns-in_err-serve-in-Turn-clause-told
returns-in_err-serve-in-Turn-clause-told g c = untold_same (steps_of g.B.Body.next g.P.Program.bodies c.args.run.now)
    (steps_of g.B.Body.next g.P.Program.bodies c.serve.new.run) c.from_residual.result _ c.from_residual.ensures.1
    c.in_err-serve-in-Turn.ensures.told (g.K.Sink.written c.args.answers.now) (g.K.Sink.faults c.args.answers.now)

pub returns-in_err-call-in-Turn-clause-lives : goal.returns-in_err-call-in-Turn-clause-lives
returns-in_err-call-in-Turn-clause-lives g c =
    let whole = stream (g.T.Sink.written c.args.trace.now) (g.T.Sink.written c.call.new.trace) (g.T.Sink.faults c.args.trace.now)
    (g.T.Sink.faults c.call.new.trace) in
    let before = map any_intake c.args.inlets.now.items in
    let after = map any_intake c.serve.new.inlets.items in
    lives_same_stop g.B.Body.next g.P.Program.bodies g.P.Program.proc_names (Unit {0}) _ whole c.args.run.now c.call.new.run before after
    c.from_residual-in_err-call-in-Turn.result c.in_err-call-in-Turn.field-0.0 c.from_residual-in_err-call-in-Turn.ensures.1
    (lives-then g.B.Body.next g.P.Program.bodies g.P.Program.proc_names (g.T.Sink.written c.args.trace.now) (g.T.Sink.written c.serve.new.trace)
    (g.T.Sink.written c.call.new.trace) (g.T.Sink.faults c.args.trace.now) (g.T.Sink.faults c.serve.new.trace) (g.T.Sink.faults c.call.new.trace)
    c.args.run.now c.serve.new.run c.call.new.run before after after tt (as_run {T = Unit {0}} (Err c.in_err-call-in-Turn.field-0.0))
    c.in_ok-serve-in-Turn.ensures.lives (c.in_err-call-in-Turn.ensures.lives after))

pub returns-in_err-call-in-Turn-clause-told : goal.returns-in_err-call-in-Turn-clause-told
returns-in_err-call-in-Turn-clause-told g c =
    let answers = stream (g.K.Sink.written c.args.answers.now) (g.K.Sink.written c.call.new.answers) (g.K.Sink.faults c.args.answers.now)
    (g.K.Sink.faults c.call.new.answers) in
    answering_err (Unit {0}) _ answers (steps_of g.B.Body.next g.P.Program.bodies c.args.run.now)
    (steps_of g.B.Body.next g.P.Program.bodies c.call.new.run) c.from_residual-in_err-call-in-Turn.result c.in_err-call-in-Turn.field-0.0
    c.from_residual-in_err-call-in-Turn.ensures.1
    (untold_then (g.K.Sink.written c.args.answers.now) (g.K.Sink.written c.call.new.answers) (g.K.Sink.faults c.args.answers.now)
    (g.K.Sink.faults c.call.new.answers) (steps_of g.B.Body.next g.P.Program.bodies c.args.run.now)
    (steps_of g.B.Body.next g.P.Program.bodies c.serve.new.run) (steps_of g.B.Body.next g.P.Program.bodies c.call.new.run)
    c.in_ok-serve-in-Turn.field-0 (Err c.in_err-call-in-Turn.field-0.0) c.in_ok-serve-in-Turn.ensures.told c.in_err-call-in-Turn.ensures.told)

pub returns-in_ok-call-in-Turn-clause-lives : goal.returns-in_ok-call-in-Turn-clause-lives
returns-in_ok-call-in-Turn-clause-lives g c =
    let after = map any_intake c.serve.new.inlets.items in
    lives-then g.B.Body.next g.P.Program.bodies g.P.Program.proc_names (g.T.Sink.written c.args.trace.now) (g.T.Sink.written c.serve.new.trace)
    (g.T.Sink.written c.call.new.trace) (g.T.Sink.faults c.args.trace.now) (g.T.Sink.faults c.serve.new.trace) (g.T.Sink.faults c.call.new.trace)
    c.args.run.now c.serve.new.run c.call.new.run (map any_intake c.args.inlets.now.items) after after tt (Ok tt)
    c.in_ok-serve-in-Turn.ensures.lives (c.in_ok-call-in-Turn.ensures.lives after)

pub returns-in_ok-call-in-Turn-clause-told : goal.returns-in_ok-call-in-Turn-clause-told
returns-in_ok-call-in-Turn-clause-told g c =
    let answers = stream (g.K.Sink.written c.args.answers.now) (g.K.Sink.written c.call.new.answers) (g.K.Sink.faults c.args.answers.now)
    (g.K.Sink.faults c.call.new.answers) in
    answering_answer answers (steps_of g.B.Body.next g.P.Program.bodies c.args.run.now)
    (steps_of g.B.Body.next g.P.Program.bodies c.call.new.run) c.in_ok-call-in-Turn.field-0 _
    (untold_then (g.K.Sink.written c.args.answers.now) (g.K.Sink.written c.call.new.answers) (g.K.Sink.faults c.args.answers.now)
    (g.K.Sink.faults c.call.new.answers) (steps_of g.B.Body.next g.P.Program.bodies c.args.run.now)
    (steps_of g.B.Body.next g.P.Program.bodies c.serve.new.run) (steps_of g.B.Body.next g.P.Program.bodies c.call.new.run)
    c.in_ok-serve-in-Turn.field-0 (Ok c.in_ok-call-in-Turn.field-0) c.in_ok-serve-in-Turn.ensures.told c.in_ok-call-in-Turn.ensures.told)

pub returns-in-Idle-clause-told : goal.returns-in-Idle-clause-told
returns-in-Idle-clause-told g c = c.idle_round.ensures.told (g.K.Sink.written c.args.answers.now) (g.K.Sink.faults c.args.answers.now)
