use Rattle.std.proofs.Common.{refl}
use Rattle.streams.specs.Streams.{sides}
use Rattle.lwp_state.proofs.PlanLaws.{plan-shown, plan-unread}
use Rattle.lwp_state.proofs.planning.state_after_plan.Goals as goal

pub returns-in-Ok : goal.returns-in-Ok
returns-in-Ok g c = plan-shown c.args.calls (sides g.S.Source.left g.S.Source.faults c.args.source.now c.read_whole.new.source)
    (sides g.K.Sink.written g.K.Sink.faults c.args.sink.now c.show_plan.new.sink) c.in-Ok.script c.show_plan.result
    c.in-Ok.ensures.read c.show_plan.ensures

pub returns-in-Err : goal.returns-in-Err
returns-in-Err g c = plan-unread c.args.calls (sides g.S.Source.left g.S.Source.faults c.args.source.now c.read_whole.new.source)
    (sides g.K.Sink.written g.K.Sink.faults c.args.sink.now c.args.sink.now) c.in-Err.end c.unread.result
    c.unread.ensures (refl, refl) c.in-Err.ensures.not_read
