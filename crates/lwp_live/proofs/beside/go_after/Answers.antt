use Rattle.lwp_live.proofs.Answerings.{answering_answer, answering_err}
use Rattle.lwp_live.proofs.Rounding.{going_all, going_lives, going_on, going_rise, going_same, going_told, lives_same_stop, never_quiet}
use Rattle.lwp_live.proofs.beside.go_after.Goals as goal
use Rattle.lwp_live.specs.Telling.{steps_of}
use Rattle.pod_runner.proofs.Rounds.{stream}
use Rattle.pod_runner.specs.declared.live.Live.{Live}
use Rattle.script_run.specs.Ties.{any_intake}
use Rattle.std.proofs.Common.{Err, Ok, Option, map, refl}

pub loop-init : goal.loop-init
loop-init g c = going_same g.B.Body.next g.P.Program.bodies g.P.Program.proc_names (g.T.Sink.written c.args.trace.now)
    (g.K.Sink.written c.args.answers.now) (g.T.Sink.faults c.args.trace.now) (g.K.Sink.faults c.args.answers.now) c.args.run.now
    (map any_intake c.args.inlets.now.items) c.args.notes.now c.requires.sound c.requires.notes

pub go_round-requires : goal.go_round-requires
go_round-requires g c =
    let trace = stream (g.T.Sink.written c.args.trace.now) (g.T.Sink.written c.loop.trace) (g.T.Sink.faults c.args.trace.now) (g.T.Sink.faults c.loop.trace) in
    let answers = stream (g.K.Sink.written c.args.answers.now) (g.K.Sink.written c.loop.answers) (g.K.Sink.faults c.args.answers.now)
    (g.K.Sink.faults c.loop.answers) in λ k. (
      (refl, tt),
      (
        c.loop.invariant.living.sound,
        (
          going_rise g.B.Body.next g.P.Program.bodies g.P.Program.proc_names trace answers c.args.run.now c.loop.run
              (map any_intake c.args.inlets.now.items) (map any_intake c.loop.inlets.items) c.loop.notes c.loop.invariant c.requires.rise,
          c.loop.invariant.notes_are,
        ),
      ),
    )

pub returns-in_err-go_round-clause-lives : goal.returns-in_err-go_round-clause-lives
returns-in_err-go_round-clause-lives g c =
    let trace = stream (g.T.Sink.written c.args.trace.now) (g.T.Sink.written c.loop.trace) (g.T.Sink.faults c.args.trace.now) (g.T.Sink.faults c.loop.trace) in
    let answers = stream (g.K.Sink.written c.args.answers.now) (g.K.Sink.written c.loop.answers) (g.K.Sink.faults c.args.answers.now)
    (g.K.Sink.faults c.loop.answers) in
    lives_same_stop g.B.Body.next g.P.Program.bodies g.P.Program.proc_names (Option Live) _
    (stream (g.T.Sink.written c.args.trace.now) (g.T.Sink.written c.go_round.new.trace) (g.T.Sink.faults c.args.trace.now)
    (g.T.Sink.faults c.go_round.new.trace))
    c.args.run.now c.go_round.new.run (map any_intake c.args.inlets.now.items) (map any_intake c.go_round.new.inlets.items)
    c.from_residual.result c.in_err-go_round.field-0.0 c.from_residual.ensures.1
    (going_lives g.B.Body.next g.P.Program.bodies g.P.Program.proc_names (Option Live) trace answers (g.T.Sink.written c.go_round.new.trace)
    (g.T.Sink.faults c.go_round.new.trace) c.args.run.now c.loop.run c.go_round.new.run (map any_intake c.args.inlets.now.items)
    (map any_intake c.loop.inlets.items) (map any_intake c.go_round.new.inlets.items) c.loop.notes (Err c.in_err-go_round.field-0.0)
    c.loop.invariant c.in_err-go_round.ensures.lives)

pub returns-in_err-go_round-clause-told : goal.returns-in_err-go_round-clause-told
returns-in_err-go_round-clause-told g c =
    let trace = stream (g.T.Sink.written c.args.trace.now) (g.T.Sink.written c.loop.trace) (g.T.Sink.faults c.args.trace.now) (g.T.Sink.faults c.loop.trace) in
    let answers = stream (g.K.Sink.written c.args.answers.now) (g.K.Sink.written c.loop.answers) (g.K.Sink.faults c.args.answers.now)
    (g.K.Sink.faults c.loop.answers) in
    answering_err _ _
    (stream (g.K.Sink.written c.args.answers.now) (g.K.Sink.written c.go_round.new.answers) (g.K.Sink.faults c.args.answers.now)
    (g.K.Sink.faults c.go_round.new.answers))
    (steps_of g.B.Body.next g.P.Program.bodies c.args.run.now) (steps_of g.B.Body.next g.P.Program.bodies c.go_round.new.run)
    c.from_residual.result c.in_err-go_round.field-0.0 c.from_residual.ensures.1
    (going_told g.B.Body.next g.P.Program.bodies g.P.Program.proc_names trace answers (g.K.Sink.written c.go_round.new.answers)
    (g.K.Sink.faults c.go_round.new.answers) c.args.run.now c.loop.run c.go_round.new.run (map any_intake c.args.inlets.now.items)
    (map any_intake c.loop.inlets.items) c.loop.notes (Err c.in_err-go_round.field-0.0) c.loop.invariant c.in_err-go_round.ensures.told)

pub loop-preserved : goal.loop-preserved
loop-preserved g c =
    let trace = stream (g.T.Sink.written c.args.trace.now) (g.T.Sink.written c.loop.trace) (g.T.Sink.faults c.args.trace.now) (g.T.Sink.faults c.loop.trace) in
    let answers = stream (g.K.Sink.written c.args.answers.now) (g.K.Sink.written c.loop.answers) (g.K.Sink.faults c.args.answers.now)
    (g.K.Sink.faults c.loop.answers) in
    going_on g.B.Body.next g.P.Program.bodies g.P.Program.proc_names trace answers (g.T.Sink.written c.go_round.new.trace)
    (g.K.Sink.written c.go_round.new.answers) (g.T.Sink.faults c.go_round.new.trace) (g.K.Sink.faults c.go_round.new.answers)
    c.args.run.now c.loop.run c.go_round.new.run (map any_intake c.args.inlets.now.items) (map any_intake c.loop.inlets.items)
    (map any_intake c.go_round.new.inlets.items) c.loop.notes c.go_round.new.notes c.in_ok-go_round.field-0 c.loop.invariant
    c.in_ok-go_round.ensures.lives c.in_ok-go_round.ensures.told c.in_ok-go_round.ensures.notes

pub returns-in-Some-Halt-clause-lives : goal.returns-in-Some-Halt-clause-lives
returns-in-Some-Halt-clause-lives g c =
    let trace = stream (g.T.Sink.written c.args.trace.now) (g.T.Sink.written c.loop.trace) (g.T.Sink.faults c.args.trace.now) (g.T.Sink.faults c.loop.trace) in
    let answers = stream (g.K.Sink.written c.args.answers.now) (g.K.Sink.written c.loop.answers) (g.K.Sink.faults c.args.answers.now)
    (g.K.Sink.faults c.loop.answers) in
    going_lives g.B.Body.next g.P.Program.bodies g.P.Program.proc_names (Option Live) trace answers (g.T.Sink.written c.go_round.new.trace)
    (g.T.Sink.faults c.go_round.new.trace) c.args.run.now c.loop.run c.go_round.new.run (map any_intake c.args.inlets.now.items)
    (map any_intake c.loop.inlets.items) (map any_intake c.go_round.new.inlets.items) c.loop.notes (Ok c.in_ok-go_round.field-0)
    c.loop.invariant c.in_ok-go_round.ensures.lives

pub returns-in-Some-Halt-clause-told : goal.returns-in-Some-Halt-clause-told
returns-in-Some-Halt-clause-told g c =
    let trace = stream (g.T.Sink.written c.args.trace.now) (g.T.Sink.written c.loop.trace) (g.T.Sink.faults c.args.trace.now) (g.T.Sink.faults c.loop.trace) in
    let answers = stream (g.K.Sink.written c.args.answers.now) (g.K.Sink.written c.loop.answers) (g.K.Sink.faults c.args.answers.now)
    (g.K.Sink.faults c.loop.answers) in
    answering_answer
    (stream (g.K.Sink.written c.args.answers.now) (g.K.Sink.written c.go_round.new.answers) (g.K.Sink.faults c.args.answers.now)
    (g.K.Sink.faults c.go_round.new.answers))
    (steps_of g.B.Body.next g.P.Program.bodies c.args.run.now) (steps_of g.B.Body.next g.P.Program.bodies c.go_round.new.run)
    c.in_ok-go_round.field-0 _
    (going_told g.B.Body.next g.P.Program.bodies g.P.Program.proc_names trace answers (g.K.Sink.written c.go_round.new.answers)
    (g.K.Sink.faults c.go_round.new.answers) c.args.run.now c.loop.run c.go_round.new.run (map any_intake c.args.inlets.now.items)
    (map any_intake c.loop.inlets.items) c.loop.notes (Ok c.in_ok-go_round.field-0) c.loop.invariant c.in_ok-go_round.ensures.told)
