-- Traps: a line of a trapped event becomes an exception in the thread that makes the next call.
use Rattle.trace_text.specs.declared.ends.Halt.TheVariants.{Ended, Spent, Stuck}
use Rattle.std.specs.Prelude.{None, Some, [], codes, ◌∷◌}
use Rattle.worked_rows.specs.Words.{Row, line, named, plain, pod, posted, procedure, serving, speaking, took}
use Rattle.script_text.specs.declared.script.ExitStmt.TheVariants as exit_stmt
use Rattle.script_text.specs.declared.script.Who.TheVariants as who
use Rattle.script_text.specs.declared.script.Stmt.TheVariants as stmt
use Rattle.script_lines.specs.declared.table.Test.TheVariants as test
use Rattle.lwp_types.specs.declared.call.Mode.TheVariants as mode
use Rattle.lwp_types.specs.declared.call.Pattern.TheVariants as pattern
use Rattle.lwp_types.specs.declared.call.Func.TheVariants as func

-- A trap is caught: the thread makes no call, and goes on after its handler. Of the next trap it dies.
--   lwp 1 / pod 1
--   client 0 5
--   proc main / handle 5 - 0 / skip caught / trap 5 / say one
--   post 0 x / post 0 y
abbrev pub the_trap : Row
the_trap = record {
  script = posted (5 ∷ []) (line 0 0 (codes "x") ∷ line 0 1 (codes "y") ∷ [])
      (speaking (codes "one" ∷ []) (pod 1 (named (codes "main" ∷ []) [] [] [])
      (procedure 0 (stmt.Handle (pattern.Num 5) func.Nothing 0 ∷ stmt.Skip test.Caught ∷ stmt.Trap 5 ∷ stmt.Say 0 ∷ [])
      ∷ [])));
  turns = 100000;
  trace = codes "t0: handle 5 - 0\nt0 = 0\nt0: trap 5\nt0 = 0\nevent 5 client 0 seq 0 x\nt0 trap 5\nt0 caught 5\nevent 5 client 0 seq 1 y\nt0 trap 5\nt0 dies\npod ends 0\n";
  halt = Ended 0;
  calls = 4;
  takes = took 2 5 (line 0 0 (codes "x")) ∷ took 3 5 (line 0 1 (codes "y")) ∷ [];
}

-- A trap whose handler gives a value lets the thread make its call.
--   lwp 1 / pod 1
--   client 0 5
--   proc main / handle 5 sum 2 / trap 5 / trap 5
--   post 0 x
abbrev pub the_trap_sum : Row
the_trap_sum = record {
  script = posted (5 ∷ []) (line 0 0 (codes "x") ∷ [])
      (pod 1 (named (codes "main" ∷ []) [] [] [])
      (procedure 0 (stmt.Handle (pattern.Num 5) func.Sum 2 ∷ stmt.Trap 5 ∷ stmt.Trap 5 ∷ [])
      ∷ []));
  turns = 100000;
  trace =
      codes "t0: handle 5 sum 2\nt0 = 0\nt0: trap 5\nt0 = 0\nevent 5 client 0 seq 0 x\nt0 trap 5\nt0: trap 5\nt0 ! LE_INUSE\nt0: return\nt0 dies\npod ends 0\n";
  halt = Ended 0;
  calls = 4;
  takes = took 2 5 (line 0 0 (codes "x")) ∷ [];
}

-- The handler gives a value by the other function.
--   lwp 1 / pod 1
--   client 0 5
--   proc main / handle 5 give 7 / trap 5 / say one
--   post 0 x
abbrev pub a_trap_that_gives : Row
a_trap_that_gives = record {
  script = posted (5 ∷ []) (line 0 0 (codes "x") ∷ [])
      (speaking (codes "one" ∷ []) (pod 1 (named (codes "main" ∷ []) [] [] [])
      (procedure 0 (stmt.Handle (pattern.Num 5) func.Give 7 ∷ stmt.Trap 5 ∷ stmt.Say 0 ∷ [])
      ∷ [])));
  turns = 100000;
  trace = codes "t0: handle 5 give 7\nt0 = 0\nt0: trap 5\nt0 = 0\nevent 5 client 0 seq 0 x\nt0 trap 5\nt0: say one\nt0 = 0\nt0: return\nt0 dies\npod ends 0\n";
  halt = Ended 0;
  calls = 4;
  takes = took 2 5 (line 0 0 (codes "x")) ∷ [];
}

-- A trap is to be raised, and then a line of another event wakes a thread that goes first: it is raised there.
--   lwp 1 / pod 2
--   client 0 5 / client 1 6
--   proc main / agent h 6 / create a w 2 - / setpri self 1 / recv h wait / handle 5 give 1 / trap 5 / reply h ok /
--     say m
--   proc w / agent g 6 / recv g wait / say w
--   post 0 x / post 0 z / post 1 y / post 1 q
abbrev pub in_who_is_chosen_then : Row
in_who_is_chosen_then = record {
  script = posted (5 ∷ 6 ∷ []) (line 0 0 (codes "x") ∷ line 0 1 (codes "z") ∷ line 1 0 (codes "y")
      ∷ line 1 1 (codes "q") ∷ [])
      (speaking (codes "ok" ∷ codes "m" ∷ codes "w" ∷ [])
      (pod 2 (named (codes "main" ∷ codes "w" ∷ []) (codes "h" ∷ codes "a" ∷ codes "g" ∷ []) [] [])
      (procedure 0 (stmt.Agent 0 6 ∷ stmt.Create 1 1 2 plain ∷ stmt.SetPri who.Me 1
      ∷ stmt.Recv (Some (who.Named 0)) mode.Block ∷ stmt.Handle (pattern.Num 5) func.Give 1
      ∷ stmt.Trap 5 ∷ stmt.Reply (who.Named 0) 0 ∷ stmt.Say 1 ∷ [])
      ∷ procedure 1 (stmt.Agent 2 6 ∷ stmt.Recv (Some (who.Named 2)) mode.Block ∷ stmt.Say 2 ∷ [])
      ∷ [])));
  turns = 100000;
  trace = codes "t0: agent 6\nt0 = t1\nevent 6 client 1 seq 0 y\nt0: create w 2 -\nt0 = t2\nt0: setpri self 1\nt0 = 2\nt2: agent 6\nt2 = t3\nt2: recv t3 wait\nt0: recv t1 wait\nt0 = letter t1 240 y\nt0: handle 5 give 1\nt0 = 0\nt0: trap 5\nt0 = 0\nevent 5 client 0 seq 0 x\nt0 trap 5\nt0: reply t1 ok\nt0 = 0\nevent 5 client 0 seq 1 z\nevent 6 client 1 seq 1 q\nalso t3\nt2 = letter t3 240 q\nt2 trap 5\nt2 dies\nt0: say m\nt0 = 0\nt0: return\nt0 dies\npod ends 0\n";
  halt = Ended 0;
  calls = 12;
  takes = took 1 6 (line 1 0 (codes "y")) ∷ took 8 5 (line 0 0 (codes "x"))
      ∷ took 9 5 (line 0 1 (codes "z")) ∷ took 9 6 (line 1 1 (codes "q")) ∷ [];
}

-- A trap is caught two frames below: the exit procedures of those above run first.
--   lwp 1 / pod 1
--   client 0 5
--   proc main / handle all - 0 / skip caught / call one / say end
--   proc one / onexit note a / call two
--   proc two / onexit note b / trap 5 / say never
--   post 0 x
abbrev pub below_two_frames : Row
below_two_frames = record {
  script = posted (5 ∷ []) (line 0 0 (codes "x") ∷ [])
      (speaking (codes "end" ∷ codes "a" ∷ codes "b" ∷ codes "never" ∷ [])
      (pod 1 (named (codes "main" ∷ codes "one" ∷ codes "two" ∷ []) [] [] [])
      (procedure 0 (stmt.Handle pattern.All func.Nothing 0 ∷ stmt.Skip test.Caught ∷ stmt.CallProc 1 ∷ stmt.Say 0 ∷ [])
      ∷ procedure 1 (stmt.OnExit (exit_stmt.Note 1) ∷ stmt.CallProc 2 ∷ [])
      ∷ procedure 2 (stmt.OnExit (exit_stmt.Note 2) ∷ stmt.Trap 5 ∷ stmt.Say 3 ∷ [])
      ∷ [])));
  turns = 100000;
  trace = codes "t0: handle all - 0\nt0 = 0\nt0: call one\nt0 = 0\nt0: onexit note a\nt0 = 0\nt0: call two\nt0 = 0\nt0: onexit note b\nt0 = 1\nt0: trap 5\nt0 = 0\nevent 5 client 0 seq 0 x\nt0 trap 5\nexit x1 note b = 0\nexit x0 note a = 0\nt0 caught 5\nt0: say end\nt0 = 0\nt0: return\nt0 dies\npod ends 0\n";
  halt = Ended 0;
  calls = 9;
  takes = took 6 5 (line 0 0 (codes "x")) ∷ [];
}

-- Polled, a thread takes the answer of its last call; then the trap is caught, and the call isn't made. The name is set
-- all the same.
--   lwp 1 / pod 2
--   client 0 5
--   proc main / setpri self 1 / handle 5 - 0 / skip caught / create a w 2 - / destroy a
--   proc w / handle 5 give 0 / trap 5 / setpri self 1 / say w
--   post 0 x / post 0 y
abbrev pub a_name_is_set_though_nothing_is_called : Row
a_name_is_set_though_nothing_is_called = record {
  script = posted (5 ∷ []) (line 0 0 (codes "x") ∷ line 0 1 (codes "y") ∷ [])
      (speaking (codes "w" ∷ []) (pod 2 (named (codes "main" ∷ codes "w" ∷ []) (codes "a" ∷ []) [] [])
      (procedure 0 (stmt.SetPri who.Me 1 ∷ stmt.Handle (pattern.Num 5) func.Nothing 0
      ∷ stmt.Skip test.Caught ∷ stmt.Create 0 1 2 plain ∷ stmt.Destroy (who.Named 0) ∷ [])
      ∷ procedure 1 (stmt.Handle (pattern.Num 5) func.Give 0 ∷ stmt.Trap 5 ∷ stmt.SetPri who.Me 1 ∷ stmt.Say 0 ∷ [])
      ∷ [])));
  turns = 100000;
  trace = codes "t0: setpri self 1\nt0 = 2\nt0: handle 5 - 0\nt0 = 0\nt0: create w 2 -\nt0 = t1\nt1: handle 5 give 0\nt1 = 0\nt1: trap 5\nt1 = 0\nevent 5 client 0 seq 0 x\nt1 trap 5\nt1: setpri self 1\nt1 = 2\nevent 5 client 0 seq 1 y\nt0 trap 5\nt0 caught 5\nt0: destroy t1\nt1 dies\nt0 = 0\nt0: return\nt0 dies\npod ends 0\n";
  halt = Ended 0;
  calls = 9;
  takes = took 5 5 (line 0 0 (codes "x")) ∷ took 6 5 (line 0 1 (codes "y")) ∷ [];
}

-- A handler that was set by the call before catches the trap: the thread goes on after it, at the statement that it
-- was about to call.
--   lwp 1 / pod 1
--   client 0 5
--   proc main / handle 5 give 0 / trap 5 / handle 5 - 0 / say one / say two
--   post 0 x / post 0 y
abbrev pub caught_by_the_handler_set_last : Row
caught_by_the_handler_set_last = record {
  script = posted (5 ∷ []) (line 0 0 (codes "x") ∷ line 0 1 (codes "y") ∷ [])
      (speaking (codes "one" ∷ codes "two" ∷ []) (pod 1 (named (codes "main" ∷ []) [] [] [])
      (procedure 0 (stmt.Handle (pattern.Num 5) func.Give 0 ∷ stmt.Trap 5
      ∷ stmt.Handle (pattern.Num 5) func.Nothing 0 ∷ stmt.Say 0 ∷ stmt.Say 1 ∷ [])
      ∷ [])));
  turns = 100000;
  trace = codes "t0: handle 5 give 0\nt0 = 0\nt0: trap 5\nt0 = 0\nevent 5 client 0 seq 0 x\nt0 trap 5\nt0: handle 5 - 0\nt0 = 0\nevent 5 client 0 seq 1 y\nt0 trap 5\nt0 caught 5\nt0: say one\nt0 = 0\nt0: say two\nt0 = 0\nt0: return\nt0 dies\npod ends 0\n";
  halt = Ended 0;
  calls = 7;
  takes = took 2 5 (line 0 0 (codes "x")) ∷ took 3 5 (line 0 1 (codes "y")) ∷ [];
}

-- With no handler the thread dies, and its exit procedures run.
--   lwp 1 / pod 1
--   client 0 5
--   proc main / onexit note bye / trap 5 / say one
--   post 0 x
abbrev pub exits_of_an_unheard_trap : Row
exits_of_an_unheard_trap = record {
  script = posted (5 ∷ []) (line 0 0 (codes "x") ∷ [])
      (speaking (codes "bye" ∷ codes "one" ∷ []) (pod 1 (named (codes "main" ∷ []) [] [] [])
      (procedure 0 (stmt.OnExit (exit_stmt.Note 0) ∷ stmt.Trap 5 ∷ stmt.Say 1 ∷ [])
      ∷ [])));
  turns = 100000;
  trace = codes "t0: onexit note bye\nt0 = 0\nt0: trap 5\nt0 = 0\nevent 5 client 0 seq 0 x\nt0 trap 5\nexit x0 note bye = 0\nt0 dies\npod ends 0\n";
  halt = Ended 0;
  calls = 3;
  takes = took 2 5 (line 0 0 (codes "x")) ∷ [];
}

-- Who joins a thread goes on where a trap kills it.
--   lwp 1 / pod 1
--   client 0 5
--   proc main / create a w 1 - / join a / say up
--   proc w / trap 5 / say never
--   post 0 x
abbrev pub joined_until_a_trap : Row
joined_until_a_trap = record {
  script = posted (5 ∷ []) (line 0 0 (codes "x") ∷ [])
      (speaking (codes "up" ∷ codes "never" ∷ []) (pod 1 (named (codes "main" ∷ codes "w" ∷ []) (codes "a" ∷ []) [] [])
      (procedure 0 (stmt.Create 0 1 1 plain ∷ stmt.Join (who.Named 0) ∷ stmt.Say 0 ∷ [])
      ∷ procedure 1 (stmt.Trap 5 ∷ stmt.Say 1 ∷ [])
      ∷ [])));
  turns = 100000;
  trace = codes "t0: create w 1 -\nt0 = t1\nt0: join t1\nt1: trap 5\nt1 = 0\nevent 5 client 0 seq 0 x\nt1 trap 5\nt0 = 0\nt1 dies\nt0: say up\nt0 = 0\nt0: return\nt0 dies\npod ends 0\n";
  halt = Ended 0;
  calls = 6;
  takes = took 3 5 (line 0 0 (codes "x")) ∷ [];
}

-- A trap kills the last thread but a server: the pod ends in that turn.
--   lwp 1 / pod 1
--   client 0 5
--   proc main / create s v 1 v / yield self / trap 5 / say m
--   proc v / recv any wait
--   post 0 x
abbrev pub a_trap_leaves_servers_alone : Row
a_trap_leaves_servers_alone = record {
  script = posted (5 ∷ []) (line 0 0 (codes "x") ∷ [])
      (speaking (codes "m" ∷ []) (pod 1 (named (codes "main" ∷ codes "v" ∷ []) (codes "s" ∷ []) [] [])
      (procedure 0 (stmt.Create 0 1 1 serving ∷ stmt.Yield who.Me ∷ stmt.Trap 5 ∷ stmt.Say 0 ∷ [])
      ∷ procedure 1 (stmt.Recv None mode.Block ∷ [])
      ∷ [])));
  turns = 100000;
  trace = codes "t0: create v 1 v\nt0 = t1\nt0: yield self\nt0 = 0\nt1: recv any wait\nt0: trap 5\nt0 = 0\nevent 5 client 0 seq 0 x\nt0 trap 5\nt0 dies\npod ends 0\n";
  halt = Ended 0;
  calls = 5;
  takes = took 4 5 (line 0 0 (codes "x")) ∷ [];
}

-- A trap that is caught is a turn, too.
--   lwp 1 / pod 1
--   client 0 5
--   proc main / handle 5 - 0 / skip caught / trap 5 / say one
--   post 0 x / post 0 y
abbrev pub a_trap_counts_as_a_turn : Row
a_trap_counts_as_a_turn = record {
  script = posted (5 ∷ []) (line 0 0 (codes "x") ∷ line 0 1 (codes "y") ∷ [])
      (speaking (codes "one" ∷ []) (pod 1 (named (codes "main" ∷ []) [] [] [])
      (procedure 0 (stmt.Handle (pattern.Num 5) func.Nothing 0 ∷ stmt.Skip test.Caught ∷ stmt.Trap 5 ∷ stmt.Say 0 ∷ [])
      ∷ [])));
  turns = 3;
  trace = codes "t0: handle 5 - 0\nt0 = 0\nt0: trap 5\nt0 = 0\nevent 5 client 0 seq 0 x\nt0 trap 5\nt0 caught 5\nspent 3\nleft client 0 1\n";
  halt = Spent;
  calls = 3;
  takes = took 2 5 (line 0 0 (codes "x")) ∷ [];
}

-- There is no such event for agents, or it is trapped, or it has an agent; an Agent of a trapped event is refused.
--   lwp 1 / pod 1
--   proc main / trap 0 / trap 32 / agent g 5 / trap 5 / trap 31 / agent h 31 / trap 31 / trap 1 / agent i 2
abbrev pub what_no_trap_takes : Row
what_no_trap_takes = record {
  script = pod 1 (named (codes "main" ∷ []) (codes "g" ∷ codes "h" ∷ codes "i" ∷ []) [] [])
      (procedure 0 (stmt.Trap 0 ∷ stmt.Trap 32 ∷ stmt.Agent 0 5 ∷ stmt.Trap 5 ∷ stmt.Trap 31
      ∷ stmt.Agent 1 31 ∷ stmt.Trap 31 ∷ stmt.Trap 1 ∷ stmt.Agent 2 2 ∷ [])
      ∷ []);
  turns = 100000;
  trace = codes "t0: trap 0\nt0 ! LE_INVALIDARG\nt0: trap 32\nt0 ! LE_INVALIDARG\nt0: agent 5\nt0 = t1\nt0: trap 5\nt0 ! LE_INUSE\nt0: trap 31\nt0 = 0\nt0: agent 31\nt0 ! LE_INUSE\nt0: trap 31\nt0 ! LE_INUSE\nt0: trap 1\nt0 = 0\nt0: agent 2\nt0 = t2\nt0: return\nt0 dies\npod ends 0\n";
  halt = Ended 0;
  calls = 10;
  takes = [];
}

-- An event whose agent has gone can be trapped.
--   lwp 1 / pod 1
--   client 0 5
--   proc main / agent g 5 / destroy g / trap 5 / say m
--   post 0 x / post 0 y
abbrev pub trapped_behind_an_agent : Row
trapped_behind_an_agent = record {
  script = posted (5 ∷ []) (line 0 0 (codes "x") ∷ line 0 1 (codes "y") ∷ [])
      (speaking (codes "m" ∷ []) (pod 1 (named (codes "main" ∷ []) (codes "g" ∷ []) [] [])
      (procedure 0 (stmt.Agent 0 5 ∷ stmt.Destroy (who.Named 0) ∷ stmt.Trap 5 ∷ stmt.Say 0 ∷ [])
      ∷ [])));
  turns = 100000;
  trace = codes "t0: agent 5\nt0 = t1\nevent 5 client 0 seq 0 x\nt0: destroy t1\nt0 = 0\nt0: trap 5\nt0 = 0\nevent 5 client 0 seq 1 y\nt0 trap 5\nt0 dies\npod ends 0\n";
  halt = Ended 0;
  calls = 4;
  takes = took 1 5 (line 0 0 (codes "x")) ∷ took 3 5 (line 0 1 (codes "y")) ∷ [];
}

-- Where nobody may run, no line of a trapped event is taken: the session is stuck.
--   lwp 1 / pod 1
--   client 0 5
--   proc main / handle 5 give 0 / trap 5 / recv any wait
--   post 0 x / post 0 y
abbrev pub no_trap_where_nobody_may_run : Row
no_trap_where_nobody_may_run = record {
  script = posted (5 ∷ []) (line 0 0 (codes "x") ∷ line 0 1 (codes "y") ∷ [])
      (pod 1 (named (codes "main" ∷ []) [] [] [])
      (procedure 0 (stmt.Handle (pattern.Num 5) func.Give 0 ∷ stmt.Trap 5 ∷ stmt.Recv None mode.Block ∷ [])
      ∷ []));
  turns = 100000;
  trace = codes "t0: handle 5 give 0\nt0 = 0\nt0: trap 5\nt0 = 0\nevent 5 client 0 seq 0 x\nt0 trap 5\nt0: recv any wait\nstuck\nleft client 0 1\n";
  halt = Stuck;
  calls = 3;
  takes = took 2 5 (line 0 0 (codes "x")) ∷ [];
}

-- The clock ticks before a trap is taken, and before whatever the thread does next.
--   lwp 1 / pod 1
--   client 0 5 / client 1 0
--   proc main / handle all - 0 / skip caught / trap 5 / sleep 1 / say up
--   post 0 x / post 1 a / post 1 a / post 1 a / post 1 a / post 1 a
abbrev pub ticks_beside_a_trap : Row
ticks_beside_a_trap = record {
  script = posted (5 ∷ 0 ∷ []) (line 0 0 (codes "x") ∷ line 1 0 (codes "a") ∷ line 1 1 (codes "a")
      ∷ line 1 2 (codes "a") ∷ line 1 3 (codes "a") ∷ line 1 4 (codes "a") ∷ [])
      (speaking (codes "up" ∷ []) (pod 1 (named (codes "main" ∷ []) [] [] [])
      (procedure 0 (stmt.Handle pattern.All func.Nothing 0 ∷ stmt.Skip test.Caught ∷ stmt.Trap 5
      ∷ stmt.Sleep 1 ∷ stmt.Say 0 ∷ [])
      ∷ [])));
  turns = 100000;
  trace = codes "tick 1 client 1 seq 0 a\nt0: handle all - 0\nt0 = 0\ntick 2 client 1 seq 1 a\nt0: trap 5\nt0 = 0\ntick 3 client 1 seq 2 a\nevent 5 client 0 seq 0 x\nt0 trap 5\nt0 caught 5\ntick 4 client 1 seq 3 a\nt0: sleep 1\ntick 5 client 1 seq 4 a\nt0 = 0\nt0: say up\nt0 = 0\nt0: return\nt0 dies\npod ends 0\n";
  halt = Ended 0;
  calls = 6;
  takes = took 0 0 (line 1 0 (codes "a")) ∷ took 1 0 (line 1 1 (codes "a"))
      ∷ took 2 0 (line 1 2 (codes "a")) ∷ took 2 5 (line 0 0 (codes "x"))
      ∷ took 3 0 (line 1 3 (codes "a")) ∷ took 4 0 (line 1 4 (codes "a")) ∷ [];
}
