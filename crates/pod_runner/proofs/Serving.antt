-- Inlets are served one after the other: how far that has come.
use Rattle.std.proofs.Common.{◌≡◌, ◌≤◌, List, Ok, length, map, ℕ}
use Rattle.event_gate.specs.Inlet.{Intake}
use Rattle.lwp_types.specs.Poll.{Next}
use Rattle.pod_runner.specs.Inlets.{Serves}
use Rattle.pod_runner.specs.Live.{LivesOn}
use Rattle.pod_runner.specs.Run.{Played}
use Rattle.streams.specs.Streams.{Stream}

-- the inlets were served up to a place. A loop's invariant that is a record by name keeps each goal of the function short.
pub record Serving {B P I : Type 0} (next : Next B) (bodies : P → List B) (proc_names : P → List (List ℕ)) (intake : I → Intake)
    (stream : Stream) (i : ℕ) (old new : Played P) (before after : List I) : Type 0 where
  pub within : i ≤ length after
  pub same : length after ≡ length before
  pub lives : LivesOn {T = Unit {0}} next bodies proc_names stream old new (map intake before) (map intake after) (Ok tt)
  pub serves : Serves next bodies i old new (map intake before) (map intake after)
