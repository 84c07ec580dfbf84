-- A pod in which much hangs on its first thread, for the test of a death.
use Rattle.death_cleanup.specs.Named.{NameNote}
use Rattle.death_cleanup.specs.declared.parts.Parts.{Parts}
use Rattle.death_cleanup.specs.declared.rows.Awaited.TheVariants as awaited
use Rattle.death_cleanup.specs.declared.rows.Kind.{Kind}
use Rattle.death_cleanup.specs.declared.rows.Kind.TheVariants as kind
use Rattle.lwp_types.specs.Agents.{deliver}
use Rattle.lwp_types.specs.State.{State, opening}
use Rattle.lwp_types.specs.Step.{step}
use Rattle.lwp_types.specs.declared.call.Call.{Call}
use Rattle.lwp_types.specs.declared.call.Call.TheVariants as call
use Rattle.lwp_types.specs.declared.call.ExitCall.TheVariants as exit
use Rattle.lwp_types.specs.declared.call.Flags.{Flags}
use Rattle.lwp_types.specs.declared.call.Mode.TheVariants as mode
use Rattle.lwp_types.specs.declared.rows.Block.{Block}
use Rattle.lwp_types.specs.declared.rows.Block.TheVariants as block
use Rattle.lwp_types.specs.declared.rows.Mark.{Mark}
use Rattle.lwp_types.specs.declared.rows.Mark.TheVariants as mark
use Rattle.agents.specs.Roster.{Roster}
use Rattle.conditions.specs.ConditionTable.{ConditionTable}
use Rattle.monitors.specs.MonitorTable.{MonitorTable}
use Rattle.pod_sched.specs.Schedule.{Schedule}
use Rattle.pod_sched.specs.declared.rows.Known.{Known}
use Rattle.rendezvous.specs.MessageTable.{MessageTable}
use Rattle.stale_ids.specs.Register.{Register}
use Rattle.std.specs.List.{fold}
use Rattle.std.specs.Prelude.{List, None, Some, [], false, true, ℕ, ◌∷◌}

-- how all its threads are created
abbrev pub plain : Flags
plain = record { suspended = false; nolastrites = false; server = false }

-- what its threads call: the first has the turn until it lowers its priority, and then the others
abbrev pub calls : List Call
calls = call.Create 0 5 plain
    ∷ call.Create 0 5 plain
    ∷ call.Create 0 5 plain
    ∷ call.Create 0 5 plain
    ∷ call.Create 0 5 plain
    ∷ call.Create 0 5 plain
    ∷ call.Create 0 5 plain
    ∷ call.MonCreate
    ∷ call.MonCreate
    ∷ call.MonCreate
    ∷ call.Enter 0
    ∷ call.Enter 1
    ∷ call.Enter 2
    ∷ call.CvCreate 2
    ∷ call.OnExit (exit.Note [])
    ∷ call.OnExit (exit.Reply 2 [])
    ∷ call.OnExit (exit.Resume 0)
    ∷ call.OnExit (exit.Notify 0)
    ∷ call.OnExit (exit.SetExit 7)
    ∷ call.Agent 3
    ∷ call.SetPri 0 1
    ∷ call.Send 0 9 []
    ∷ call.Send 0 9 []
    ∷ call.Recv (Some 0) mode.Block
    ∷ call.Join 0
    ∷ call.Join 0
    ∷ call.Enter 0
    ∷ call.Enter 1
    ∷ call.Recv (Some 1) mode.Poll
    ∷ call.Wait 0
    ∷ []

-- the state after calls
abbrev pub after_calls : State → List Call → State
after_calls s cs = fold (λ now c. (step now c).after) s cs

-- the state before the death: all wait, and an event was delivered
abbrev pub waiting : State
waiting = (deliver (after_calls (opening (record { maxpri = 9; births = 100; procs = 1 })) calls) 3 []).after

-- the marks of the first thread
abbrev pub stack : List Mark
stack = mark.Frame ∷ mark.Exit 0 (exit.Note []) ∷ mark.Exit 1 (exit.Reply 2 [])
    ∷ mark.Exit 2 (exit.Resume 0) ∷ mark.Exit 3 (exit.Notify 0) ∷ mark.Exit 4 (exit.SetExit 7) ∷ []

-- a thread that waits so
abbrev pub thread : Block → List Mark → Kind
thread b ms = kind.Thread (record { flags = plain; block = b; stack = ms })

-- the same state in parts

abbrev pub ids : Register Kind
ids = record {
  live = (0, thread (block.Waiting 0) stack)
      ∷ (1, thread block.Sending (mark.Frame ∷ []))
      ∷ (2, thread block.Sending (mark.Frame ∷ []))
      ∷ (3, thread (block.Receiving (Some 0)) (mark.Frame ∷ []))
      ∷ (4, thread (block.Joining 0) (mark.Frame ∷ []))
      ∷ (5, thread (block.Joining 0) (mark.Frame ∷ []))
      ∷ (6, thread (block.Entering 0) (mark.Frame ∷ []))
      ∷ (7, thread (block.Entering 1) (mark.Frame ∷ []))
      ∷ (8, kind.Agent)
      ∷ [];
  births = 9;
  limit = 100;
  places = 9;
}

abbrev pub known_thread : ℕ → ℕ → Known
known_thread t p = record { tid = t; prio = p; suspended = false; blocked = true }

abbrev pub sched : Schedule
sched = record {
  threads = known_thread 0 1 ∷ known_thread 1 5 ∷ known_thread 2 5 ∷ known_thread 3 5
      ∷ known_thread 4 5 ∷ known_thread 5 5 ∷ known_thread 6 5 ∷ known_thread 7 5 ∷ [];
  order = [];
  timers = [];
  now = 0;
  maxpri = 9;
  places = 8;
}

abbrev pub mail : MessageTable
mail = record {
  letters = record { from = 1; to = 0; text = []; room = 9; received = true }
      ∷ record { from = 2; to = 0; text = []; room = 9; received = false }
      ∷ record { from = 8; to = 0; text = []; room = 240; received = false }
      ∷ [];
  places = 9;
}

abbrev pub mons : MonitorTable
mons = record {
  monitors = 0 ∷ 1 ∷ 2 ∷ [];
  births = 3;
  limit = 100;
  locks = record { mon = 0; owner = 0; depth = 1 } ∷ record { mon = 1; owner = 0; depth = 1 } ∷ [];
  requests = record { mon = 0; tid = 6; prio = 5; depth = 1 } ∷ record { mon = 1; tid = 7; prio = 5; depth = 1 } ∷ [];
  places = 8;
}

abbrev pub conds : ConditionTable
conds = record {
  conditions = record { number = 0; mon = 2 } ∷ [];
  births = 1;
  limit = 100;
  waits = record { cond = 0; tid = 0; prio = 1; depth = 1 } ∷ [];
  places = 8;
}

abbrev pub agents : Roster
agents = record { agents = record { number = 8; event = 3; owner = 0; holding = true } ∷ []; places = 1 }

abbrev pub name_note : NameNote
name_note = record {
  waits = record { what = awaited.Death; of = 0; tid = 4 }
      ∷ record { what = awaited.Death; of = 0; tid = 5 } ∷ record { what = awaited.Letter; of = 0; tid = 3 } ∷ [];
  places = 16;
}

abbrev pub parts : Parts
parts = record {
  ids = ids;
  sched = sched;
  mail = mail;
  mons = mons;
  conds = conds;
  agents = agents;
  exit = 0;
  ended = false;
  procs = 1;
  registration = 5;
  pattern = 1073741824;
  dying = None;
  last_prio = 0;
  named = name_note;
}
