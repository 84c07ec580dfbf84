-- The parts as the machine's state.
use Rattle.conditions.specs.ConditionTable as cond
use Rattle.death_cleanup.specs.declared.parts.Parts.{Parts}
use Rattle.death_cleanup.specs.declared.rows.Kind.{Kind}
use Rattle.death_cleanup.specs.declared.rows.Kind.TheVariants as kind
use Rattle.death_cleanup.specs.declared.rows.ThreadRec.{ThreadRec}
use Rattle.lwp_types.specs.State.{State, ThreadRow}
use Rattle.monitors.specs.MonitorTable as mon
use Rattle.pod_sched.specs.Schedule as sched
use Rattle.pod_sched.specs.Schedule.{newcomer}
use Rattle.pod_sched.specs.declared.rows.Known.{Known}
use Rattle.std.specs.List.{find}
use Rattle.std.specs.Prelude.{List, [], false, map, unwrap_or, ℕ, ◌∷◌}

-- what the scheduler knows of thread t; who has left it had priority p, and isn't suspended
abbrev pub known_of : ℕ → List Known → ℕ → Known
known_of p known t = unwrap_or (find (sched.is_of t) known) (newcomer t p false)

-- a thread of the machine
abbrev pub row_of : Known → ℕ → ThreadRec → ThreadRow
row_of known t rec = record {
  number = t;
  priority = known.prio;
  flags = rec.flags;
  suspended = known.suspended;
  block = rec.block;
  marks = rec.stack;
}

-- a thread's row in front of others; an agent has none
abbrev pub row_onto : Known → ℕ → Kind → List ThreadRow → List ThreadRow
row_onto known t (kind.Thread rec) rows = row_of known t rec ∷ rows
row_onto known t kind.Agent rows = rows

-- the threads, in the order of birth
abbrev pub rows_of : ℕ → List Known → List (ℕ × Kind) → List ThreadRow
rows_of p known [] = []
rows_of p known (live ∷ living) = row_onto (known_of p known live.0) live.0 live.1 (rows_of p known living)

-- the machine's state that the parts are
abbrev pub state_of : Parts → State
state_of parts = record {
  threads = rows_of parts.last_prio parts.sched.threads parts.ids.live;
  order = parts.sched.order;
  timers = parts.sched.timers;
  letters = parts.mail.letters;
  monitors = parts.mons.monitors;
  locks = parts.mons.locks;
  requests = map mon.machine_row parts.mons.requests;
  conditions = parts.conds.conditions;
  waits = map cond.machine_row parts.conds.waits;
  agents = parts.agents.agents;
  now = parts.sched.now;
  maxpri = parts.sched.maxpri;
  status = parts.exit;
  ended = parts.ended;
  births = parts.ids.births;
  monitor_births = parts.mons.births;
  condition_births = parts.conds.births;
  limit = parts.ids.limit;
  procs = parts.procs;
  next_registration = parts.registration;
  next_pattern = parts.pattern;
}
