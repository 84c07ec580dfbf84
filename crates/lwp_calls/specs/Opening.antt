-- What a pod is made from.
use Rattle.agents.specs.Roster.{no_agents}
use Rattle.conditions.specs.ConditionTable as condition
use Rattle.death_cleanup.specs.Named.{no_names}
use Rattle.death_cleanup.specs.declared.parts.Parts.{Parts}
use Rattle.lwp_types.specs.declared.call.PodParams.{PodParams}
use Rattle.rendezvous.specs.MessageTable.{no_messages}
use Rattle.monitors.specs.MonitorTable as monitor
use Rattle.pod_sched.specs.Schedule.{empty_schedule}
use Rattle.stale_ids.specs.Register.{empty_register}
use Rattle.std.specs.Prelude.{None, false}

-- the parts of a pod with nobody in it, and room for nobody
abbrev pub no_thread : PodParams → Parts
no_thread params = record {
  ids = empty_register params.births;
  sched = empty_schedule params.maxpri;
  mail = no_messages;
  mons = monitor.empty_table params.births;
  conds = condition.empty_table params.births;
  agents = no_agents;
  exit = 0;
  ended = false;
  procs = params.procs;
  registration = 0;
  pattern = 1073741824;
  dying = None;
  last_prio = 0;
  named = no_names;
}
