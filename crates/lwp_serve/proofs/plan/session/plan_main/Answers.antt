use Rattle.lwp_serve.proofs.Planning.PlanLaws.{plan-ran}
use Rattle.script_session.proofs.SaidLaws.{session-of}
use Rattle.lwp_serve.specs.Plan.Plan.{RunSays}
use Rattle.lwp_serve.proofs.plan.session.plan_main.Goals as goal

pub returns-in-Ok : goal.returns-in-Ok
returns-in-Ok g c =
    session-of (λ script. RunSays c.args.turns script (record {
      old = g.K.Sink.written c.args.sink.now;
      new = g.K.Sink.written c.play_script.new.sink;
      faults_old = g.K.Sink.faults c.args.sink.now;
      faults_new = g.K.Sink.faults c.play_script.new.sink;
    }) c.play_script.result)
    (record {
      old = g.S.Source.left c.args.source.now;
      new = g.S.Source.left c.read_whole.new.source;
      faults_old = g.S.Source.faults c.args.source.now;
      faults_new = g.S.Source.faults c.read_whole.new.source;
    })
    (record {
      old = g.K.Sink.written c.args.sink.now;
      new = g.K.Sink.written c.play_script.new.sink;
      faults_old = g.K.Sink.faults c.args.sink.now;
      faults_new = g.K.Sink.faults c.play_script.new.sink;
    })
    c.play_script.result c.in-Ok.script
    c.in-Ok.ensures.read c.play_script.ensures.status (plan-ran c.args.turns c.in-Ok.script (record {
      old = g.K.Sink.written c.args.sink.now;
      new = g.K.Sink.written c.play_script.new.sink;
      faults_old = g.K.Sink.faults c.args.sink.now;
      faults_new = g.K.Sink.faults c.play_script.new.sink;
    }) c.play_script.result c.play_script.result.end c.play_script.ensures.says)
    c.play_script.ensures.says
