-- A session as a plain value.
use Rattle.pod_events.specs.Copies.{events_in}
use Rattle.pod_runner.specs.Session.{Live}
use Rattle.pod_runner.specs.declared.session.Row.{Row}
use Rattle.pod_runner.specs.declared.session.Took.{Took}
use Rattle.snapshots.specs.declared.session.Snapshot.{Snapshot}
use Rattle.snapshots.specs.declared.session.ThreadNote.{ThreadNote}
use Rattle.std.specs.List.{count_by, range_with_len}
use Rattle.std.specs.Prelude.{List, None, Some, if◌then◌else◌, map, ℕ, ◌==◌, ◌≡◌}

-- what is noted of a live thread
abbrev pub note_of : {B : Type 0} → Row B → ThreadNote
note_of row = record {
  tid = row.tid;
  proc = row.proc;
  answer = row.answer;
  last = if row.called then Some row.call else None;
}

-- how many of these takes were lines of client c
abbrev pub taken_of : List Took → ℕ → ℕ
taken_of takes c = count_by (λ took. took.line.client == c) takes

-- how many of these takes were lines of each client below a number
abbrev pub taken_by : ℕ → List Took → List ℕ
taken_by clients takes = map (taken_of takes) (range_with_len 0 clients)

-- a snapshot tells how a session stands after these takes and calls, of so many clients
pub record IsSnapshot {B : Type 0} (clients : ℕ) (takes : List Took) (made : ℕ) (live : Live B)
    (snap : Snapshot) : Type 0 where
  pub pod : events_in snap.pod ≡ live.pod
  pub threads : snap.threads ≡ map note_of live.rows
  pub calls : snap.calls ≡ made
  pub taken : snap.taken ≡ taken_by clients takes
