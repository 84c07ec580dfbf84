-- How inlets are served between two calls. Callers see the session alone.
use Rattle.event_gate.specs.Inlet.{Intake, IsInletTaken, IsInletTold}
use Rattle.pod_events.specs.Events.{is_takeable}
use Rattle.lwp_types.specs.Poll.{Next}
use Rattle.pod_runner.specs.Live.{IsWanted, LivesOn, LooksAtAll, looks}
use Rattle.pod_runner.specs.Run.{Played, phase_now, session_of}
use Rattle.pod_runner.specs.declared.phase.Phase.TheVariants as phase
use Rattle.pod_runner.specs.declared.phase.RunErr.{RunErr}
use Rattle.std.specs.List.{slice_index_or}
use Rattle.streams.specs.Streams.{Stream}
use Rattle.std.specs.Prelude.{List, OnOk, Result, length, true, ℕ, ◌<◌, ◌≡◌, ◌≢◌, ◌≤◌, ◌⊎◌}

-- somebody may run, or no line was taken
abbrev pub IsCalm : {B P : Type 0} → Next B → (P → List B) → Played P → Played P → Type 0
IsCalm next bodies old new = (phase_now next bodies old ≡ phase.Turn) ⊎ (length new.takes ≡ length old.takes)

-- lines were taken, and no call was made
pub record Takes {B P : Type 0} (next : Next B) (bodies : P → List B) (old new : Played P) : Type 0 where
  pub still : new.calls ≡ old.calls
  pub more : length old.takes ≤ length new.takes
  -- somebody may run still
  pub turn : phase_now next bodies old ≡ phase.Turn → phase_now next bodies new ≡ phase.Turn
  -- as long as somebody may run, no event waits that didn't; a line that wakes the first one may make trapped events
  -- wait
  pub fewer : IsCalm next bodies old new → (e : ℕ)
      → is_takeable (session_of next bodies new).live.pod e ≡ true
      → is_takeable (session_of next bodies old).live.pod e ≡ true

-- an inlet whose event waits still was looked at; and if no line was taken at all, it was found empty
pub record IsSeen {B P : Type 0} (next : Next B) (bodies : P → List B) (old new : Played P)
    (t u : Intake) : Type 0 where
  pub looked : phase_now next bodies old ≡ phase.Turn → IsWanted next bodies new u → looks t < looks u
  pub found : length new.takes ≡ length old.takes → IsWanted next bodies new u
      → (t.finds < u.finds) × (IsInletTold u → IsInletTaken u)

-- the inlet at this place was served, and no other
pub record ServesAt {B P : Type 0} (next : Next B) (bodies : P → List B) (i : ℕ)
    (old new : Played P) (before after : List Intake) : Type 0 where
  pub takes : Takes next bodies old new
  pub seen : (d : Intake) → IsSeen next bodies old new (slice_index_or before i d) (slice_index_or after i d)
  pub others : (k : ℕ) (d : Intake) → k ≢ i → slice_index_or after k d ≡ slice_index_or before k d

-- so many inlets were served, from the first on, and no other
pub record Serves {B P : Type 0} (next : Next B) (bodies : P → List B) (n : ℕ) (old new : Played P)
    (before after : List Intake) : Type 0 where
  pub takes : Takes next bodies old new
  pub seen : (k : ℕ) (d : Intake) → k < n → k < length before
      → IsSeen next bodies old new (slice_index_or before k d) (slice_index_or after k d)
  pub others : (k : ℕ) (d : Intake) → n ≤ k → slice_index_or after k d ≡ slice_index_or before k d

-- the inlets from one place on, up to another, have events below this one
abbrev pub AreBelow : List Intake → ℕ → ℕ → ℕ → Type 0
AreBelow inlets from to e = (k : ℕ) (d : Intake) → from ≤ k → k < to → (slice_index_or inlets k d).event < e

-- a run went on by what its inlets gave, and without an error each inlet was looked at as often as it has to be
pub record RoundsOn {B P T : Type 0} (next : Next B) (bodies : P → List B)
    (proc_names : P → List (List ℕ)) (stream : Stream)
    (old new : Played P) (before after : List Intake) (result : Result T RunErr) : Type 0 where
  pub lives : LivesOn next bodies proc_names stream old new before after result
  pub looked : OnOk result (LooksAtAll next bodies old new before after)
