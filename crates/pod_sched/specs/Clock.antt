-- The turns and the clock together. No public clause cites this module.
use Rattle.lwp_types.specs.Counts.{timers_of}
use Rattle.pod_sched.specs.Schedule.{Schedule, is_of}
use Rattle.pod_sched.specs.declared.rows.Known.{Known}
use Rattle.std.specs.List.{count_by}
use Rattle.std.specs.Prelude.{List, ℕ, ◌≤◌}
use Rattle.pod_sched.specs.Timers.Clock.{Clock}

-- the turns with this clock are what a contract of `Sched` sees
abbrev pub with_clock : Clock → Schedule → Schedule
with_clock c s = record s { timers = c.timers; now = c.now }

-- each timer is of a known thread, which has no other; and there is a place for one of each
pub record IsTimed (threads : List Known) (c : Clock) (places : ℕ) : Type 0 where
  pub owned : (t : ℕ) → timers_of c.timers t ≤ count_by (is_of t) threads
  pub roomy : places ≤ c.places
