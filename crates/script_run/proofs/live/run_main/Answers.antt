use Rattle.script_run.proofs.LiveLaws.{live-ran}
use Rattle.script_session.proofs.SaidLaws.{session-of}
use Rattle.script_run.specs.Live.{LiveSays, PostsSay}
use Rattle.script_run.proofs.live.run_main.Goals as goal

pub returns-in-Ok-clause-session : goal.returns-in-Ok-clause-session
returns-in-Ok-clause-session g c =
    session-of (λ script. LiveSays c.args.turns script (record {
      old = g.K.Sink.written c.args.sink.now;
      new = g.K.Sink.written c.play_live.new.sink;
      faults_old = g.K.Sink.faults c.args.sink.now;
      faults_new = g.K.Sink.faults c.play_live.new.sink;
    }) c.play_live.result.session)
    (record {
      old = g.S.Source.left c.args.source.now;
      new = g.S.Source.left c.read_whole.new.source;
      faults_old = g.S.Source.faults c.args.source.now;
      faults_new = g.S.Source.faults c.read_whole.new.source;
    })
    (record {
      old = g.K.Sink.written c.args.sink.now;
      new = g.K.Sink.written c.play_live.new.sink;
      faults_old = g.K.Sink.faults c.args.sink.now;
      faults_new = g.K.Sink.faults c.play_live.new.sink;
    })
    c.play_live.result.session c.in-Ok.script
    c.in-Ok.ensures.read c.play_live.ensures.played.status (live-ran c.args.turns c.in-Ok.script (record {
      old = g.K.Sink.written c.args.sink.now;
      new = g.K.Sink.written c.play_live.new.sink;
      faults_old = g.K.Sink.faults c.args.sink.now;
      faults_new = g.K.Sink.faults c.play_live.new.sink;
    }) c.play_live.result.session c.play_live.result.session.end c.play_live.ensures.played.says)
    c.play_live.ensures.played.says

pub returns-in-Ok-clause-posted : goal.returns-in-Ok-clause-posted
returns-in-Ok-clause-posted g c =
    session-of (λ script e. LiveSays c.args.turns script (record {
      old = g.K.Sink.written c.args.sink.now;
      new = g.K.Sink.written c.play_live.new.sink;
      faults_old = g.K.Sink.faults c.args.sink.now;
      faults_new = g.K.Sink.faults c.play_live.new.sink;
    }) c.play_live.result.session e
    × PostsSay script c.play_live.result.posted e)
    (record {
      old = g.S.Source.left c.args.source.now;
      new = g.S.Source.left c.read_whole.new.source;
      faults_old = g.S.Source.faults c.args.source.now;
      faults_new = g.S.Source.faults c.read_whole.new.source;
    })
    (record {
      old = g.K.Sink.written c.args.sink.now;
      new = g.K.Sink.written c.play_live.new.sink;
      faults_old = g.K.Sink.faults c.args.sink.now;
      faults_new = g.K.Sink.faults c.play_live.new.sink;
    })
    c.play_live.result.session c.in-Ok.script
    c.in-Ok.ensures.read c.play_live.ensures.played.status (live-ran c.args.turns c.in-Ok.script (record {
      old = g.K.Sink.written c.args.sink.now;
      new = g.K.Sink.written c.play_live.new.sink;
      faults_old = g.K.Sink.faults c.args.sink.now;
      faults_new = g.K.Sink.faults c.play_live.new.sink;
    }) c.play_live.result.session c.play_live.result.session.end c.play_live.ensures.played.says)
    (c.play_live.ensures.played.says, c.play_live.ensures.posted)
