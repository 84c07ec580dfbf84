use Rattle.std.proofs.Common.{map, rules}
use Rattle.script_run.specs.Ties.{any_intake, intakes}
use Rattle.script_run.proofs.BesideLaws.{gave-drawn, goes-live}
use Rattle.pod_runner.proofs.Rounds.{stream}
use Rattle.pod_runner.specs.Live.{may_lose}
use Rattle.script_run.proofs.beside.go_live.Goals as goal

pub returns-clause-goes : goal.returns-clause-goes
returns-clause-goes g c =
    goes-live
    (stream (g.K.Sink.written c.args.sink.now) (g.K.Sink.written c.run_live.new.sink) (g.K.Sink.faults c.args.sink.now)
    (g.K.Sink.faults c.run_live.new.sink))
    c.args.played.now c.run_live.new.run
    (intakes c.args.outside.now) (map any_intake c.run_live.new.inlets.items) c.run_live.result
    c.run_live.ensures.lives

pub returns-clause-tied : goal.returns-clause-tied
returns-clause-tied g c = c.draws_keep_ties.ensures _ _ _ _ (intakes c.args.outside.now) (map any_intake c.run_live.new.inlets.items) c.requires.tied
    (gave-drawn c.args.played.now c.run_live.new.run (intakes c.args.outside.now) (map any_intake c.run_live.new.inlets.items)
    (may_lose c.run_live.result) c.run_live.ensures.lives.draws)

pub run_live-requires : goal.run_live-requires
run_live-requires g c κs = (search rules, (search rules, c.requires.tied.are_for.rise.1))
