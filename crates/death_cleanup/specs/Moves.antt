-- What single changes make of the parts.
use Rattle.conditions.specs.ConditionTable as cond
use Rattle.conditions.specs.declared.waits.WaitRec.{WaitRec}
use Rattle.death_cleanup.specs.declared.parts.Parts.{Parts}
use Rattle.death_cleanup.specs.declared.rows.Kind.{Kind}
use Rattle.death_cleanup.specs.declared.rows.Kind.TheVariants as kind
use Rattle.lwp_types.specs.Messages.{receivers_of, without_letter}
use Rattle.lwp_types.specs.Monitors.{is_owned_by_other}
use Rattle.lwp_types.specs.State.{Outcome, State, and_then, for_each, still}
use Rattle.lwp_types.specs.Unblock.{nonexist, unblock}
use Rattle.lwp_types.specs.declared.rows.Block.{Block}
use Rattle.lwp_types.specs.declared.rows.Mark.{Mark}
use Rattle.lwp_types.specs.declared.rows.Block.TheVariants as block
use Rattle.monitors.specs.MonitorTable as mon
use Rattle.monitors.specs.MonitorTable.{MonitorTable}
use Rattle.pod_sched.specs.Schedule as sched
use Rattle.rendezvous.specs.MessageTable as mail
use Rattle.stale_ids.specs.Register.{after_remove}
use Rattle.stale_ids.specs.Register.{value_of}
use Rattle.std.specs.Prelude.{IsTrue, List, None, Option, Some, [], false, if◌then◌else◌, length, map, ℕ, ◌<◌, ◌==◌, ◌≡◌, ◌≤◌}

-- the record of a thread with another block
abbrev pub kind_with_block : Block → Kind → Kind
kind_with_block b (kind.Thread rec) = kind.Thread (record rec { block = b })
kind_with_block b kind.Agent = kind.Agent

-- a pair of the registry, with another block where it is that of t
abbrev pub pair_with_block : ℕ → Block → ℕ × Kind → ℕ × Kind
pair_with_block t b live = (live.0, if live.0 == t then kind_with_block b live.1 else live.1)

-- the parts once thread t goes on
abbrev pub after_wake : Parts → ℕ → Parts
after_wake parts t = record parts {
  ids = record parts.ids { live = map (pair_with_block t block.Not) parts.ids.live };
  sched = sched.after_unblock parts.sched t;
}

-- the parts once thread t begins to die
abbrev pub after_withdraw : Parts → ℕ → Parts
after_withdraw parts t = record parts {
  ids = record parts.ids { live = map (pair_with_block t block.Not) parts.ids.live };
  sched = sched.after_leave parts.sched t;
  conds = cond.after_forget parts.conds t;
  mons = mon.after_forget parts.mons t;
  mail = mail.after_forget parts.mail t;
  dying = Some t;
  last_prio = sched.priority_in parts.sched t;
}

-- the parts once the dying thread t is gone
abbrev pub after_bury : Parts → ℕ → Parts
after_bury parts t = record parts { ids = after_remove parts.ids t; dying = None }

-- an agent that is listed no more ends: the threads that wait for it by name go on, and its letter goes
abbrev pub agent_over : ℕ → State → Outcome
agent_over a s = and_then (for_each (unblock nonexist) (receivers_of s a) s)
    (λ now. still (record now { letters = without_letter a now.letters }))

-- the marks of who lives there; an agent has none
abbrev pub kind_marks : Option Kind → List Mark
kind_marks (Some (kind.Thread rec)) = rec.stack
kind_marks _ = []

-- the marks of thread t in the registry
abbrev pub stack_of : ℕ → List (ℕ × Kind) → List Mark
stack_of t living = kind_marks (value_of t living)

-- the record of a thread with other marks
abbrev pub kind_with_marks : List Mark → Kind → Kind
kind_with_marks ms (kind.Thread rec) = kind.Thread (record rec { stack = ms })
kind_with_marks ms kind.Agent = kind.Agent

-- a pair of the registry, with other marks where it is that of t
abbrev pub pair_with_stack : ℕ → List Mark → ℕ × Kind → ℕ × Kind
pair_with_stack t ms live = (live.0, if live.0 == t then kind_with_marks ms live.1 else live.1)

-- the parts in which t has other marks
abbrev pub after_set_stack : Parts → ℕ → List Mark → Parts
after_set_stack parts t ms = record parts {
  ids = record parts.ids { live = map (pair_with_stack t ms) parts.ids.live };
}

-- the parts once this thread, which waited on a condition of monitor m, waits to enter m
abbrev pub after_ask : Parts → ℕ → WaitRec → Parts
after_ask parts m w = record parts {
  ids = record parts.ids { live = map (pair_with_block w.tid (block.Entering m)) parts.ids.live };
  mons = mon.after_request parts.mons (record { mon = m; tid = w.tid; prio = w.prio; depth = w.depth });
}

-- the parts once this thread is woken by a signal of its condition, which is one of monitor m
abbrev pub after_signal : Parts → ℕ → WaitRec → Parts
after_signal parts m w = after_ask (record parts { conds = cond.after_wake parts.conds (Some w) }) m w

-- the thread that waited so can wait to enter m: another holds m, it has no request yet, and there is a place for one
pub record MayAsk (t : MonitorTable) (m : ℕ) (w : WaitRec) : Type 0 where
  pub held : IsTrue (is_owned_by_other t.locks w.tid m)
  pub nowhere : mon.has_request t w.tid ≡ false
  pub least : 1 ≤ w.depth
  pub most : w.depth ≤ 65535
  pub room : length t.requests < t.places
