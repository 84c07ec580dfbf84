-- The state that a copy equals.
use Rattle.lwp_types.specs.State.{State, ThreadRow}
use Rattle.snapshots.specs.declared.pod.StateCopy.{StateCopy}
use Rattle.snapshots.specs.declared.pod.ThreadCopy.{ThreadCopy}
use Rattle.std.specs.Prelude.{map}

-- a thread's row
abbrev pub row_in : ThreadCopy → ThreadRow
row_in copy = record {
  number = copy.number;
  priority = copy.priority;
  flags = copy.flags;
  suspended = copy.suspended;
  block = copy.block;
  marks = copy.marks;
}

-- the machine's state
abbrev pub state_in : StateCopy → State
state_in copy = record {
  threads = map row_in copy.threads;
  order = copy.order;
  timers = copy.timers;
  letters = copy.letters;
  monitors = copy.monitors;
  locks = copy.locks;
  requests = copy.requests;
  conditions = copy.conditions;
  waits = copy.waits;
  agents = copy.agents;
  now = copy.now;
  maxpri = copy.maxpri;
  status = copy.status;
  ended = copy.ended;
  births = copy.births;
  monitor_births = copy.monitor_births;
  condition_births = copy.condition_births;
  limit = copy.limit;
  procs = copy.procs;
  next_registration = copy.next_registration;
  next_pattern = copy.next_pattern;
}
