use Rattle.std.proofs.Common.{rules}
use Rattle.lwp_serve.proofs.BatchLaws.EndLaws.{batch-of, says-cut, says-whole}
use Rattle.script_session.specs.declared.session.SessionEnd.TheVariants as end
use Rattle.streams.specs.Streams.{Stream}
use Rattle.lwp_serve.proofs.batches.many.batch_main.Goals as goal

pub returns-in-Ok-write_all : goal.returns-in-Ok-write_all
returns-in-Ok-write_all g c =
    let source : Stream = record {
      old = g.S.Source.left c.args.source.now;
      new = g.S.Source.left c.read_input.new.source;
      faults_old = g.S.Source.faults c.args.source.now;
      faults_new = g.S.Source.faults c.read_input.new.source;
    } in
    let sink : Stream = record {
      old = g.K.Sink.written c.args.sink.now;
      new = g.K.Sink.written c.write_all.new.sink;
      faults_old = g.K.Sink.faults c.args.sink.now;
      faults_new = g.K.Sink.faults c.write_all.new.sink;
    } in
    batch-of c.args.turns source sink end.Reported c.unread-in-Ok-write_all.result c.unread-in-Ok-write_all.ensures
    (says-whole c.args.turns source sink c.in-Ok.input.text.items c.in-Ok.input.parts.items c.deref-3.result.now c.in-Ok.ensures.same
    c.in-Ok.ensures.up c.in-Ok.ensures.input
    (search rules) c.in-Ok-write_all.ensures.cause.same c.in-Ok-write_all.ensures.ok)

pub returns : goal.returns
returns g c =
    let source : Stream = record {
      old = g.S.Source.left c.args.source.now;
      new = g.S.Source.left c.read_input.new.source;
      faults_old = g.S.Source.faults c.args.source.now;
      faults_new = g.S.Source.faults c.read_input.new.source;
    } in
    let sink : Stream = record {
      old = g.K.Sink.written c.args.sink.now;
      new = g.K.Sink.written c.write_all.new.sink;
      faults_old = g.K.Sink.faults c.args.sink.now;
      faults_new = g.K.Sink.faults c.write_all.new.sink;
    } in
    batch-of c.args.turns source sink end.WriteFault c.unread-in-Err-write_all.result c.unread-in-Err-write_all.ensures
    (says-cut c.args.turns source sink c.in-Ok.input.text.items c.in-Ok.input.parts.items c.deref-3.result.now c.in-Ok.ensures.same
    c.in-Ok.ensures.up c.in-Ok.ensures.input
    (search rules) c.in-Err-write_all.ensures.cause.failed c.in-Err-write_all.ensures.err)
