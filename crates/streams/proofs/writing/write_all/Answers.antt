use Rattle.streams.proofs.WriteLaws.{on_err, rest_cut}
use Rattle.streams.proofs.writing.write_all.Goals as goal

pub returns-in_err-write_rest-clause-err : goal.returns-in_err-write_rest-clause-err
returns-in_err-write_rest-clause-err g c = on_err c.from_residual-in_err-write_rest.result _
    (rest_cut (g.K.Sink.written c.args.sink.now) (g.K.Sink.written c.write.new.self) (g.K.Sink.written c.write_rest.new.sink)
    c.in_ok-done.done c.args.bytes.now c.in_ok-done.ensures.bound c.in_ok-done.ensures.ok c.in_err-write_rest.ensures.err)
