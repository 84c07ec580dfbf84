use Rattle.std.proofs.Common.{◌≡◌, ◌≤◌, ◌-◌, length, take}
use Rattle.lwp_types.specs.Streams.{after_append}
use Rattle.streams.proofs.writing.write_rest.Given as goal

abbrev pub invariant-loop-done : goal.invariant-loop-done
invariant-loop-done g l = record {
  inside : l.done ≤ length l.bytes;
  told : g.K.Sink.written l.sink ≡ after_append (g.K.Sink.written l.initial.sink) (take l.done l.bytes);
  same : g.K.Sink.faults l.sink ≡ g.K.Sink.faults l.initial.sink;
}

abbrev pub decreases-loop-done : goal.decreases-loop-done
decreases-loop-done g l = length l.bytes - l.done
