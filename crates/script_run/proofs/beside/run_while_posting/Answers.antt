use Rattle.std.proofs.Common.{Err, Ok, ◌∙◌}
use Rattle.script_run.specs.Ties.{intakes}
use Rattle.script_run.proofs.BesideLaws.{goes-answer, goes-err, went-handed, went-of, went-then}
use Rattle.pod_runner.proofs.Rounds.{stream}
use Rattle.script_run.proofs.beside.run_while_posting.Goals as goal

pub returns-in_err-go_live-clause-goes : goal.returns-in_err-go_live-clause-goes
returns-in_err-go_live-clause-goes g c = goes-err _ _
    (stream (g.K.Sink.written c.args.sink.now) (g.K.Sink.written c.go_live.new.sink) (g.K.Sink.faults c.args.sink.now) (g.K.Sink.faults c.go_live.new.sink))
    c.args.played.now c.go_live.new.played (intakes c.args.outside.now) (intakes c.go_live.new.outside) c.from_residual.result
    c.in_err-go_live.field-0.0 c.from_residual.ensures.1
    (went-then (g.K.Sink.written c.args.sink.now) (g.K.Sink.written c.loop.sink) (g.K.Sink.written c.go_live.new.sink)
    (g.K.Sink.faults c.args.sink.now) (g.K.Sink.faults c.loop.sink) (g.K.Sink.faults c.go_live.new.sink) c.args.played.now c.loop.played
    c.go_live.new.played (intakes c.args.outside.now) (intakes c.loop.outside) (intakes c.go_live.new.outside)
    (Err c.in_err-go_live.field-0.0) c.loop.invariant.0 c.in_err-go_live.ensures.goes)

pub returns-in-Halt-clause-goes : goal.returns-in-Halt-clause-goes
returns-in-Halt-clause-goes g c = goes-answer
    (stream (g.K.Sink.written c.args.sink.now) (g.K.Sink.written c.go_live.new.sink) (g.K.Sink.faults c.args.sink.now) (g.K.Sink.faults c.go_live.new.sink))
    c.args.played.now c.go_live.new.played (intakes c.args.outside.now) (intakes c.go_live.new.outside) c.in_ok-go_live.field-0 _
    (went-then (g.K.Sink.written c.args.sink.now) (g.K.Sink.written c.loop.sink) (g.K.Sink.written c.go_live.new.sink)
    (g.K.Sink.faults c.args.sink.now) (g.K.Sink.faults c.loop.sink) (g.K.Sink.faults c.go_live.new.sink) c.args.played.now c.loop.played
    c.go_live.new.played (intakes c.args.outside.now) (intakes c.loop.outside) (intakes c.go_live.new.outside)
    (Ok c.in_ok-go_live.field-0) c.loop.invariant.0 c.in_ok-go_live.ensures.goes)

pub returns-in-Quiet-clause-goes : goal.returns-in-Quiet-clause-goes
returns-in-Quiet-clause-goes g c = goes-answer
    (stream (g.K.Sink.written c.args.sink.now) (g.K.Sink.written c.go_live.new.sink) (g.K.Sink.faults c.args.sink.now) (g.K.Sink.faults c.go_live.new.sink))
    c.args.played.now c.go_live.new.played (intakes c.args.outside.now) (intakes c.go_live.new.outside) c.in_ok-go_live.field-0 _
    (went-then (g.K.Sink.written c.args.sink.now) (g.K.Sink.written c.loop.sink) (g.K.Sink.written c.go_live.new.sink)
    (g.K.Sink.faults c.args.sink.now) (g.K.Sink.faults c.loop.sink) (g.K.Sink.faults c.go_live.new.sink) c.args.played.now c.loop.played
    c.go_live.new.played (intakes c.args.outside.now) (intakes c.loop.outside) (intakes c.go_live.new.outside)
    (Ok c.in_ok-go_live.field-0) c.loop.invariant.0 c.in_ok-go_live.ensures.goes)

pub loop-preserved : goal.loop-preserved
loop-preserved g c = (
  went-handed (g.K.Sink.written c.args.sink.now) (g.K.Sink.written c.go_live.new.sink) (g.K.Sink.written c.rest.new.sink)
      (g.K.Sink.faults c.args.sink.now) (g.K.Sink.faults c.go_live.new.sink) (g.K.Sink.faults c.rest.new.sink) c.args.played.now
      c.go_live.new.played (intakes c.args.outside.now) (intakes c.go_live.new.outside) c.rest.ensures.same c.rest.ensures.cause
      (went-of
      (stream (g.K.Sink.written c.args.sink.now) (g.K.Sink.written c.go_live.new.sink) (g.K.Sink.faults c.args.sink.now)
      (g.K.Sink.faults c.go_live.new.sink))
      c.args.played.now c.go_live.new.played (intakes c.args.outside.now) (intakes c.go_live.new.outside) c.in_ok-go_live.field-0
      (went-then (g.K.Sink.written c.args.sink.now) (g.K.Sink.written c.loop.sink) (g.K.Sink.written c.go_live.new.sink)
      (g.K.Sink.faults c.args.sink.now) (g.K.Sink.faults c.loop.sink) (g.K.Sink.faults c.go_live.new.sink) c.args.played.now
      c.loop.played c.go_live.new.played (intakes c.args.outside.now) (intakes c.loop.outside) (intakes c.go_live.new.outside)
      (Ok c.in_ok-go_live.field-0) c.loop.invariant.0 c.in_ok-go_live.ensures.goes)),
  c.go_live.ensures.tied,
  record { events = c.go_live.ensures.same.events ∙ c.loop.invariant.2.events; texts = c.go_live.ensures.same.texts ∙ c.loop.invariant.2.texts },
)
