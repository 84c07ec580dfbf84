-- What is known of the standard streams.
use Rattle.std.specs.Io.Buffered.{writer_buffer, writer_contents, writer_inner}
use Rattle.std.specs.Prelude.{Bool, List, Option, true, ℕ, ◌≡◌}
use Rattle.streams.specs.declared.std_streams.GatheringSink.{GatheringSink}
use Rattle.streams.specs.declared.std_streams.ReaderSource.{ReaderSource}
use Rattle.streams.specs.declared.until_fault.UntilFault.{UntilFault}

-- how many reads have failed
abbrev pub read_faults : {R : Type 0} → ReaderSource R → ℕ
read_faults source = source.faults

-- what the reader below will give from here on, if it tells
abbrev pub source_remaining : {R : Type 0} → (R → Option (List ℕ)) → ReaderSource R → Option (List ℕ)
source_remaining remaining source = remaining source.reader

-- a writer that is given no byte any more
abbrev pub after_close : {W : Type 0} → UntilFault W → UntilFault W
after_close writer = record writer { is_closed = true }

-- how many writes have failed
abbrev pub write_faults : {W : Type 0} → GatheringSink W → ℕ
write_faults sink = sink.faults

-- the bytes that were taken and aren't written yet
abbrev pub gathered_bytes : {W : Type 0} → GatheringSink W → List ℕ
gathered_bytes sink = writer_buffer sink.out

-- a write has failed, so none comes any more
abbrev pub is_closed : {W : Type 0} → GatheringSink W → Bool
is_closed sink = (writer_inner sink.out).is_closed

-- the writer below is as it was: nothing was written to it
abbrev pub IsLeft : {W : Type 0} → GatheringSink W → GatheringSink W → Type 0
IsLeft old new = writer_inner new.out ≡ writer_inner old.out

-- what reached the writer below, if it tells, and after it what is gathered
abbrev pub sink_contents : {W : Type 0} → (W → Option (List ℕ)) → GatheringSink W → Option (List ℕ)
sink_contents contents sink = writer_contents (λ w. contents w.out) sink.out
