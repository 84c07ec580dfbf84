-- How a pod stands, and its text.
use Rattle.c_pods.specs.declared.held_pod.HeldPod.{HeldPod}
use Rattle.c_pods.specs.declared.origins.Began.{Began}
use Rattle.lwp_types.specs.State.{State, ThreadRow}
use Rattle.lwp_types.specs.Unblock.{zero_answer}
use Rattle.pod_events.specs.Events.{EventState}
use Rattle.snapshots.specs.declared.pod.PodCopy.{PodCopy}
use Rattle.snapshots.specs.declared.pod.StateCopy.{StateCopy}
use Rattle.snapshots.specs.declared.pod.ThreadCopy.{ThreadCopy}
use Rattle.snapshots.specs.declared.session.Snapshot.{Snapshot}
use Rattle.snapshots.specs.declared.session.ThreadNote.{ThreadNote}
use Rattle.state_text.specs.Text.{state_text}
use Rattle.std.specs.Prelude.{List, None, [], map, true, ℕ}

-- a thread's row as a plain value
abbrev pub copy_of_row : ThreadRow → ThreadCopy
copy_of_row row = record {
  number = row.number;
  priority = row.priority;
  flags = row.flags;
  suspended = row.suspended;
  block = row.block;
  marks = row.marks;
}

-- the machine's state
abbrev pub copy_of_state : State → StateCopy
copy_of_state s = record {
  threads = map copy_of_row s.threads;
  order = s.order;
  timers = s.timers;
  letters = s.letters;
  monitors = s.monitors;
  locks = s.locks;
  requests = s.requests;
  conditions = s.conditions;
  waits = s.waits;
  agents = s.agents;
  now = s.now;
  maxpri = s.maxpri;
  status = s.status;
  ended = s.ended;
  births = s.births;
  monitor_births = s.monitor_births;
  condition_births = s.condition_births;
  limit = s.limit;
  procs = s.procs;
  next_registration = s.next_registration;
  next_pattern = s.next_pattern;
}

-- the pod, with the events that it keeps for itself
abbrev pub copy_of : EventState → PodCopy
copy_of es = record {
  state = copy_of_state es.state;
  trapped = es.trapped;
  pending = es.pending;
  reports = es.reports;
}

-- what is noted of a thread: the procedure that it began in
abbrev pub note_of : Began → ThreadNote
note_of began = record { tid = began.tid; proc = began.proc; answer = zero_answer; last = None }

-- how a pod stands, after the calls that were made; it has no clients
abbrev pub snapshot_of : HeldPod → Snapshot
snapshot_of held = record {
  pod = copy_of held.pod;
  threads = map note_of held.origins.entries;
  calls = held.calls;
  taken = [];
}

-- its state as a text
unfoldable pub text_of_state : HeldPod → List ℕ
text_of_state held = state_text true held.names [] (snapshot_of held)
