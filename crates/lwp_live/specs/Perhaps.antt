-- A sink that may not be there.
use Rattle.std.specs.Prelude.{List, None, Option, Some, ℕ}

-- the faults of a sink, if it is there
abbrev pub faults_in : {K : Type 0} → (K → ℕ) → Option K → ℕ
faults_in faults None = 0
faults_in faults (Some sink) = faults sink

-- what was written to a sink, if it is there and tells
abbrev pub written_in : {K : Type 0} → (K → Option (List ℕ)) → Option K → Option (List ℕ)
written_in written None = None
written_in written (Some sink) = written sink
