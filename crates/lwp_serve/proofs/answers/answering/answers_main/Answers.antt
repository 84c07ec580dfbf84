use Rattle.lwp_serve.proofs.AnswerLaws.AnswerLaws.{answers-ran}
use Rattle.lwp_serve.proofs.answers.answering.answers_main.Goals as goal
use Rattle.lwp_serve.specs.Answers.Answers.{AnswersSay}
use Rattle.script_session.proofs.SaidLaws.{session-of}

pub returns-in-Ok : goal.returns-in-Ok
returns-in-Ok g c =
    session-of (λ script. AnswersSay c.args.client c.args.turns script (record {
      old = g.K.Sink.written c.args.sink.now;
      new = g.K.Sink.written c.play_answers.new.sink;
      faults_old = g.K.Sink.faults c.args.sink.now;
      faults_new = g.K.Sink.faults c.play_answers.new.sink;
    }) c.play_answers.result)
    (record {
      old = g.S.Source.left c.args.source.now;
      new = g.S.Source.left c.read_whole.new.source;
      faults_old = g.S.Source.faults c.args.source.now;
      faults_new = g.S.Source.faults c.read_whole.new.source;
    })
    (record {
      old = g.K.Sink.written c.args.sink.now;
      new = g.K.Sink.written c.play_answers.new.sink;
      faults_old = g.K.Sink.faults c.args.sink.now;
      faults_new = g.K.Sink.faults c.play_answers.new.sink;
    })
    c.play_answers.result c.in-Ok.script
    c.in-Ok.ensures.read c.play_answers.ensures.status (answers-ran c.args.client c.args.turns c.in-Ok.script (record {
      old = g.K.Sink.written c.args.sink.now;
      new = g.K.Sink.written c.play_answers.new.sink;
      faults_old = g.K.Sink.faults c.args.sink.now;
      faults_new = g.K.Sink.faults c.play_answers.new.sink;
    }) c.play_answers.result c.play_answers.result.end c.play_answers.ensures.says)
    c.play_answers.ensures.says
