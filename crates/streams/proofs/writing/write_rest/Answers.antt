use Rattle.std.proofs.Common.{arith, length-drop, ◌∙◌}
use Rattle.streams.proofs.WriteLaws.{told_on}
use Rattle.streams.proofs.writing.write_rest.Goals as goal

pub loop-done-preserved : goal.loop-done-preserved
loop-done-preserved g c = record {
  inside = omega (arith, c.in_ok-done.ensures.bound, length-drop c.loop-done.done c.args.bytes.now);
  told = told_on (g.K.Sink.written c.args.sink.now) (g.K.Sink.written c.loop-done.sink) (g.K.Sink.written c.write.new.self) c.loop-done.done
      c.in_ok-done.field-0 c.args.bytes.now c.loop-done.invariant.told c.in_ok-done.ensures.ok;
  same = c.in_ok-done.ensures.cause.same ∙ c.loop-done.invariant.same;
}
