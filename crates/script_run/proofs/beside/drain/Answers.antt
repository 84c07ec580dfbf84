use Rattle.script_run.specs.Ties.{all_texts, events_of, intakes}
use Rattle.pod_runner.proofs.Rounds.{stream}
use Rattle.script_run.proofs.BesideLaws.{goes-answer, goes-err, never-quiet, told-gave}
use Rattle.script_run.proofs.beside.drain.Goals as goal

pub returns-in_err-halt-clause-goes : goal.returns-in_err-halt-clause-goes
returns-in_err-halt-clause-goes g c = goes-err _ _
    (stream (g.K.Sink.written c.args.sink.now) (g.K.Sink.written c.go_live.new.sink) (g.K.Sink.faults c.args.sink.now) (g.K.Sink.faults c.go_live.new.sink))
    c.args.played.now c.go_live.new.played (intakes c.args.outside.now) (intakes c.go_live.new.outside) c.from_residual.result
    c.in_err-halt.field-0.0 c.from_residual.ensures.1 c.in_err-halt.ensures.goes

pub unreachable-requires : goal.unreachable-requires
unreachable-requires g c = never-quiet c.go_live.new.played (intakes c.args.outside.now) (intakes c.go_live.new.outside)
    c.in_ok-halt.field-0 c.in-Quiet.is c.in_ok-halt.ensures.answers
    (told-gave (events_of c.args.outside.now) (all_texts c.args.outside.now) c.args.outside.now.all (intakes c.args.outside.now)
    (intakes c.go_live.new.outside) (c.closed_are_served.ensures c.args.outside.now c.requires.tied c.requires.closed) c.go_live.ensures.gave)

pub returns-clause-goes : goal.returns-clause-goes
returns-clause-goes g c = goes-answer
    (stream (g.K.Sink.written c.args.sink.now) (g.K.Sink.written c.go_live.new.sink) (g.K.Sink.faults c.args.sink.now) (g.K.Sink.faults c.go_live.new.sink))
    c.args.played.now c.go_live.new.played (intakes c.args.outside.now) (intakes c.go_live.new.outside) c.in_ok-halt.field-0 _ c.in_ok-halt.ensures.goes
