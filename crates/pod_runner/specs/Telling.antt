-- How the lines of a step are written. Callers see the trace alone.
use Rattle.lwp_types.specs.Streams.{after_append}
use Rattle.pod_runner.specs.declared.phase.RunErr.{RunErr}
use Rattle.pod_runner.specs.declared.phase.RunErr.TheVariants as fails
use Rattle.std.specs.Prelude.{Bool, Err, List, Ok, Result, false, ℕ, ◌≡◌, ◌≤◌}
use Rattle.streams.specs.Streams.{IsFaultless, IsFaulty, Stream}
use Rattle.streams.specs.Writing.{AppendsPart}

-- all bytes were written, and the run hasn't failed; or a write failed before the last, and the run is as it was
abbrev pub Told : {T : Type 0} → Stream → List ℕ → Bool → Bool → Result T RunErr → Type 0
Told stream bytes old new (Ok x) = (stream.new ≡ after_append stream.old bytes) × IsFaultless stream × (new ≡ false)
Told stream bytes old new (Err fails.NoMemory) = ⊥
Told stream bytes old new (Err fails.WriteFault) = AppendsPart stream.old stream.new bytes
    × (IsFaulty stream × (stream.faults_old ≤ stream.faults_new))
    × (new ≡ old)
