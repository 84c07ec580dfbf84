use Rattle.lwp_live.proofs.Calling.{call_cut, call_knows, call_untold, call_whole, called_of, lives_refused, turn_untold}
use Rattle.lwp_live.proofs.Rounding.{lives_stop}
use Rattle.lwp_live.proofs.beside.call.Goals as goal
use Rattle.lwp_live.specs.Answers.{told_in}
use Rattle.lwp_live.specs.Telling.{AreNotes, steps_of}
use Rattle.pod_runner.proofs.Lives.{lives-call}
use Rattle.pod_runner.proofs.Rounds.{stream}
use Rattle.pod_runner.specs.declared.phase.RunErr.TheVariants as fails
use Rattle.std.proofs.Common.{Err, Ok, [], subst, sym, ◌∙◌}

pub returns-in_err-turn-clause-lives : goal.returns-in_err-turn-clause-lives
returns-in_err-turn-clause-lives g c = λ inlets.
    let trace = stream (g.T.Sink.written c.args.trace.now) (g.T.Sink.written c.turn.new.sink) (g.T.Sink.faults c.args.trace.now)
    (g.T.Sink.faults c.turn.new.sink) in
    lives_stop g.B.Body.next g.P.Program.bodies g.P.Program.proc_names (Unit {0}) _ trace c.args.run.now c.turn.new.self inlets inlets
    c.from_residual.result _ c.from_residual.ensures.1
    (lives-call g.B.Body.next g.P.Program.bodies g.P.Program.proc_names trace c.args.run.now c.turn.new.self inlets (Err _)
    c.requires.ready.sound c.requires.ready.made c.in_err-turn.ensures.after c.in_err-turn.ensures.told c.turn.ensures.made c.turn.ensures.room)

pub returns-in_err-turn-clause-told : goal.returns-in_err-turn-clause-told
returns-in_err-turn-clause-told g c =
    let trace = stream (g.T.Sink.written c.args.trace.now) (g.T.Sink.written c.turn.new.sink) (g.T.Sink.faults c.args.trace.now)
    (g.T.Sink.faults c.turn.new.sink) in
    turn_untold g.B.Body.next g.P.Program.bodies g.P.Program.proc_names (Unit {0}) trace c.args.run.now c.turn.new.self
    c.from_residual.result _ c.from_residual.ensures.1
    (lives-call g.B.Body.next g.P.Program.bodies g.P.Program.proc_names trace c.args.run.now c.turn.new.self [] (Err _)
    c.requires.ready.sound c.requires.ready.made c.in_err-turn.ensures.after c.in_err-turn.ensures.told c.turn.ensures.made c.turn.ensures.room)
    (g.K.Sink.written c.args.answers.now) (g.K.Sink.faults c.args.answers.now)

pub returns-in_err-line-clause-lives : goal.returns-in_err-line-clause-lives
returns-in_err-line-clause-lives g c = λ inlets.
    let trace = stream (g.T.Sink.written c.args.trace.now) (g.T.Sink.written c.turn.new.sink) (g.T.Sink.faults c.args.trace.now)
    (g.T.Sink.faults c.turn.new.sink) in
    lives_stop g.B.Body.next g.P.Program.bodies g.P.Program.proc_names (Unit {0}) _ trace c.args.run.now c.turn.new.self inlets inlets
    c.from_residual-in_err-line.result fails.NoMemory c.from_residual-in_err-line.ensures.1
    (lives_refused g.B.Body.next g.P.Program.bodies g.P.Program.proc_names (Unit {0}) trace c.args.run.now c.turn.new.self inlets inlets tt
    (lives-call g.B.Body.next g.P.Program.bodies g.P.Program.proc_names trace c.args.run.now c.turn.new.self inlets (Ok tt)
    c.requires.ready.sound c.requires.ready.made c.in_ok-turn.ensures.after c.in_ok-turn.ensures.told c.turn.ensures.made c.turn.ensures.room))

pub returns-in_err-line-clause-told : goal.returns-in_err-line-clause-told
returns-in_err-line-clause-told g c =
    call_untold g.B.Body.next g.P.Program.bodies g.P.Program.proc_names c.args.run.now c.turn.new.self c.from_residual-in_err-line.result
    (called_of g.B.Body.next g.P.Program.bodies g.P.Program.proc_names c.args.run.now c.turn.new.self c.requires.ready.made c.in_ok-turn.ensures.after)
    c.from_residual-in_err-line.ensures.1 (g.K.Sink.written c.args.answers.now) (g.K.Sink.faults c.args.answers.now)

pub returns-in_err-pass-clause-lives : goal.returns-in_err-pass-clause-lives
returns-in_err-pass-clause-lives g c = λ inlets.
    let trace = stream (g.T.Sink.written c.args.trace.now) (g.T.Sink.written c.turn.new.sink) (g.T.Sink.faults c.args.trace.now)
    (g.T.Sink.faults c.turn.new.sink) in
    lives_stop g.B.Body.next g.P.Program.bodies g.P.Program.proc_names (Unit {0}) _ trace c.args.run.now c.turn.new.self inlets inlets
    c.from_residual-in_err-pass.result fails.NoMemory c.from_residual-in_err-pass.ensures.1
    (lives_refused g.B.Body.next g.P.Program.bodies g.P.Program.proc_names (Unit {0}) trace c.args.run.now c.turn.new.self inlets inlets tt
    (lives-call g.B.Body.next g.P.Program.bodies g.P.Program.proc_names trace c.args.run.now c.turn.new.self inlets (Ok tt)
    c.requires.ready.sound c.requires.ready.made c.in_ok-turn.ensures.after c.in_ok-turn.ensures.told c.turn.ensures.made c.turn.ensures.room))

pub returns-in_err-pass-clause-told : goal.returns-in_err-pass-clause-told
returns-in_err-pass-clause-told g c =
    call_untold g.B.Body.next g.P.Program.bodies g.P.Program.proc_names c.args.run.now c.turn.new.self c.from_residual-in_err-pass.result
    (called_of g.B.Body.next g.P.Program.bodies g.P.Program.proc_names c.args.run.now c.turn.new.self c.requires.ready.made c.in_ok-turn.ensures.after)
    c.from_residual-in_err-pass.ensures.1 (g.K.Sink.written c.args.answers.now) (g.K.Sink.faults c.args.answers.now)

pub returns-in-Ok-clause-lives : goal.returns-in-Ok-clause-lives
returns-in-Ok-clause-lives g c = λ inlets.
    let trace = stream (g.T.Sink.written c.args.trace.now) (g.T.Sink.written c.turn.new.sink) (g.T.Sink.faults c.args.trace.now)
    (g.T.Sink.faults c.turn.new.sink) in
    lives-call g.B.Body.next g.P.Program.bodies g.P.Program.proc_names trace c.args.run.now c.turn.new.self inlets (Ok tt)
    c.requires.ready.sound c.requires.ready.made c.in_ok-turn.ensures.after c.in_ok-turn.ensures.told c.turn.ensures.made c.turn.ensures.room

pub returns-in-Ok-clause-told : goal.returns-in-Ok-clause-told
returns-in-Ok-clause-told g c =
    let answers = stream (g.K.Sink.written c.args.answers.now) (g.K.Sink.written c.write_all.new.sink) (g.K.Sink.faults c.args.answers.now)
    (g.K.Sink.faults c.write_all.new.sink) in
    let called = called_of g.B.Body.next g.P.Program.bodies g.P.Program.proc_names c.args.run.now c.turn.new.self c.requires.ready.made
    c.in_ok-turn.ensures.after in
    call_whole g.B.Body.next g.P.Program.bodies g.P.Program.proc_names answers c.args.run.now c.turn.new.self c.made-made.result
    c.deref.result.now tt called c.made-made.ensures
    (c.deref.ensures.value ∙ c.in_ok-line.ensures (told_in (steps_of g.B.Body.next g.P.Program.bodies c.args.run.now)).known c.requires.notes)
    c.in-Ok.ensures.ok c.in-Ok.ensures.cause.same

pub returns-in-Ok-clause-notes : goal.returns-in-Ok-clause-notes
returns-in-Ok-clause-notes g c =
    let called = called_of g.B.Body.next g.P.Program.bodies g.P.Program.proc_names c.args.run.now c.turn.new.self c.requires.ready.made
    c.in_ok-turn.ensures.after in
    subst (AreNotes c.pass.new.self)
    (sym (call_knows g.B.Body.next g.P.Program.bodies g.P.Program.proc_names c.args.run.now c.turn.new.self c.made-made.result called c.made-made.ensures))
    (c.in_ok-pass.ensures (told_in (steps_of g.B.Body.next g.P.Program.bodies c.args.run.now)).known c.requires.notes)

pub returns-clause-lives : goal.returns-clause-lives
returns-clause-lives g c = λ inlets.
    let trace = stream (g.T.Sink.written c.args.trace.now) (g.T.Sink.written c.turn.new.sink) (g.T.Sink.faults c.args.trace.now)
    (g.T.Sink.faults c.turn.new.sink) in
    lives-call g.B.Body.next g.P.Program.bodies g.P.Program.proc_names trace c.args.run.now c.turn.new.self inlets (Ok tt)
    c.requires.ready.sound c.requires.ready.made c.in_ok-turn.ensures.after c.in_ok-turn.ensures.told c.turn.ensures.made c.turn.ensures.room

pub returns-clause-told : goal.returns-clause-told
returns-clause-told g c =
    let answers = stream (g.K.Sink.written c.args.answers.now) (g.K.Sink.written c.write_all.new.sink) (g.K.Sink.faults c.args.answers.now)
    (g.K.Sink.faults c.write_all.new.sink) in
    let called = called_of g.B.Body.next g.P.Program.bodies g.P.Program.proc_names c.args.run.now c.turn.new.self c.requires.ready.made
    c.in_ok-turn.ensures.after in
    call_cut g.B.Body.next g.P.Program.bodies g.P.Program.proc_names answers c.args.run.now c.turn.new.self c.made-made.result
    c.deref.result.now called c.made-made.ensures
    (c.deref.ensures.value ∙ c.in_ok-line.ensures (told_in (steps_of g.B.Body.next g.P.Program.bodies c.args.run.now)).known c.requires.notes)
    c.in-Err.ensures.err c.in-Err.ensures.cause.failed
