-- Events of the outside, as messages of agents to their owners.
use Rattle.trace_text.specs.declared.ends.Halt.TheVariants.{Ended, Spent, Stuck}
use Rattle.std.specs.Prelude.{None, Some, [], codes, ◌++◌, ◌∷◌}
use Rattle.worked_rows.specs.Words.{Row, limited, line, longest_x, longest_y, named, plain, pod, posted, procedure, speaking, took}
use Rattle.script_text.specs.declared.script.Who.TheVariants as who
use Rattle.script_lines.specs.declared.table.Test.TheVariants as test
use Rattle.script_text.specs.declared.script.ExitStmt.TheVariants as exit_stmt
use Rattle.script_text.specs.declared.script.Stmt.TheVariants as stmt
use Rattle.lwp_types.specs.declared.call.Mode.TheVariants as mode

-- Without a reply the agent holds its message, and the second line is left.
--   lwp 1 / pod 1
--   client 0 5
--   proc main / agent g 5 / recv g wait / recv g wait
--   post 0 one / post 0 two
abbrev pub agent_without_reply : Row
agent_without_reply = record {
  script = posted (5 ∷ []) (line 0 0 (codes "one") ∷ line 0 1 (codes "two") ∷ [])
      (pod 1 (named (codes "main" ∷ []) (codes "g" ∷ []) [] [])
      (procedure 0 (stmt.Agent 0 5 ∷ stmt.Recv (Some (who.Named 0)) mode.Block
      ∷ stmt.Recv (Some (who.Named 0)) mode.Block ∷ [])
      ∷ []));
  turns = 100000;
  trace = codes "t0: agent 5\nt0 = t1\nevent 5 client 0 seq 0 one\nt0: recv t1 wait\nt0 = letter t1 240 one\nt0: recv t1 wait\nstuck\nleft client 0 1\n";
  halt = Stuck;
  calls = 3;
  takes = took 1 5 (line 0 0 (codes "one")) ∷ [];
}

-- With just as many turns as it takes: stuck, and not spent.
abbrev pub agent_without_reply_exact_turns : Row
agent_without_reply_exact_turns = record agent_without_reply { turns = 3 }

-- The reply lets the next line in, before the next call.
--   lwp 1 / pod 1
--   client 0 5
--   proc main / agent g 5 / recv g wait / reply g ok / recv g wait / reply g ok
--   post 0 one / post 0 two
abbrev pub reply_and_next_event : Row
reply_and_next_event = record {
  script = posted (5 ∷ []) (line 0 0 (codes "one") ∷ line 0 1 (codes "two") ∷ [])
      (speaking (codes "ok" ∷ codes "ok" ∷ []) (pod 1 (named (codes "main" ∷ []) (codes "g" ∷ []) [] [])
      (procedure 0 (stmt.Agent 0 5 ∷ stmt.Recv (Some (who.Named 0)) mode.Block ∷ stmt.Reply (who.Named 0) 0
      ∷ stmt.Recv (Some (who.Named 0)) mode.Block ∷ stmt.Reply (who.Named 0) 1 ∷ [])
      ∷ [])));
  turns = 100000;
  trace = codes "t0: agent 5\nt0 = t1\nevent 5 client 0 seq 0 one\nt0: recv t1 wait\nt0 = letter t1 240 one\nt0: reply t1 ok\nt0 = 0\nevent 5 client 0 seq 1 two\nt0: recv t1 wait\nt0 = letter t1 240 two\nt0: reply t1 ok\nt0 = 0\nt0: return\nt0 dies\npod ends 0\n";
  halt = Ended 0;
  calls = 6;
  takes = took 1 5 (line 0 0 (codes "one")) ∷ took 3 5 (line 0 1 (codes "two")) ∷ [];
}

-- Two clients of one event: their lines come in the order of the script.
--   lwp 1 / pod 1
--   client 0 5 / client 1 5
--   proc main / agent g 5 / recv g wait / reply g ok / recv g wait / reply g ok
--   post 0 a / post 1 b
abbrev pub two_clients_one_event : Row
two_clients_one_event = record {
  script = posted (5 ∷ 5 ∷ []) (line 0 0 (codes "a") ∷ line 1 0 (codes "b") ∷ [])
      (speaking (codes "ok" ∷ codes "ok" ∷ []) (pod 1 (named (codes "main" ∷ []) (codes "g" ∷ []) [] [])
      (procedure 0 (stmt.Agent 0 5 ∷ stmt.Recv (Some (who.Named 0)) mode.Block ∷ stmt.Reply (who.Named 0) 0
      ∷ stmt.Recv (Some (who.Named 0)) mode.Block ∷ stmt.Reply (who.Named 0) 1 ∷ [])
      ∷ [])));
  turns = 100000;
  trace = codes "t0: agent 5\nt0 = t1\nevent 5 client 0 seq 0 a\nt0: recv t1 wait\nt0 = letter t1 240 a\nt0: reply t1 ok\nt0 = 0\nevent 5 client 1 seq 0 b\nt0: recv t1 wait\nt0 = letter t1 240 b\nt0: reply t1 ok\nt0 = 0\nt0: return\nt0 dies\npod ends 0\n";
  halt = Ended 0;
  calls = 6;
  takes = took 1 5 (line 0 0 (codes "a")) ∷ took 3 5 (line 1 0 (codes "b")) ∷ [];
}

-- A line is taken while the pod is busy.
--   lwp 1 / pod 1
--   client 0 5
--   proc main / agent g 5 / call loop / reply g ok
--   proc loop / recv g poll / skip ok / again
--   post 0 one / post 0 two
abbrev pub loop_then_reply_on_plan : Row
loop_then_reply_on_plan = record {
  script = posted (5 ∷ []) (line 0 0 (codes "one") ∷ line 0 1 (codes "two") ∷ [])
      (speaking (codes "ok" ∷ []) (pod 1 (named (codes "main" ∷ codes "loop" ∷ []) (codes "g" ∷ []) [] [])
      (procedure 0 (stmt.Agent 0 5 ∷ stmt.CallProc 1 ∷ stmt.Reply (who.Named 0) 0 ∷ [])
      ∷ procedure 1 (stmt.Recv (Some (who.Named 0)) mode.Poll ∷ stmt.Skip test.Fine ∷ stmt.Again ∷ [])
      ∷ [])));
  turns = 6;
  trace = codes "t0: agent 5\nt0 = t1\nevent 5 client 0 seq 0 one\nt0: call loop\nt0 = 0\nt0: recv t1 poll\nt0 = letter t1 240 one\nt0: return\nt0 = 0\nt0: reply t1 ok\nt0 = 0\nevent 5 client 0 seq 1 two\nt0: return\nt0 dies\npod ends 0\n";
  halt = Ended 0;
  calls = 6;
  takes = took 1 5 (line 0 0 (codes "one")) ∷ took 5 5 (line 0 1 (codes "two")) ∷ [];
}

-- With one turn fewer nothing is taken any more.
abbrev pub loop_then_reply_one_turn_fewer : Row
loop_then_reply_one_turn_fewer = record loop_then_reply_on_plan {
  turns = 5;
  trace = codes "t0: agent 5\nt0 = t1\nevent 5 client 0 seq 0 one\nt0: call loop\nt0 = 0\nt0: recv t1 poll\nt0 = letter t1 240 one\nt0: return\nt0 = 0\nt0: reply t1 ok\nt0 = 0\nspent 5\nleft client 0 1\n";
  halt = Spent;
  calls = 5;
  takes = took 1 5 (line 0 0 (codes "one")) ∷ [];
}

-- Lines wait until there is an agent.
--   lwp 1 / pod 1
--   client 0 5
--   proc main / say early / agent g 5 / say late / recv any wait
--   post 0 hi
abbrev pub an_event_waits_for_its_agent : Row
an_event_waits_for_its_agent = record {
  script = posted (5 ∷ []) (line 0 0 (codes "hi") ∷ [])
      (speaking (codes "early" ∷ codes "late" ∷ []) (pod 1 (named (codes "main" ∷ []) (codes "g" ∷ []) [] [])
      (procedure 0 (stmt.Say 0 ∷ stmt.Agent 0 5 ∷ stmt.Say 1 ∷ stmt.Recv None mode.Block ∷ [])
      ∷ [])));
  turns = 100000;
  trace = codes "t0: say early\nt0 = 0\nt0: agent 5\nt0 = t1\nevent 5 client 0 seq 0 hi\nt0: say late\nt0 = 0\nt0: recv any wait\nt0 = letter t1 240 hi\nt0: return\nt0 dies\npod ends 0\n";
  halt = Ended 0;
  calls = 5;
  takes = took 2 5 (line 0 0 (codes "hi")) ∷ [];
}

-- A line is taken with its delivery, whether or not somebody reads it.
--   lwp 1 / pod 1
--   client 0 5
--   proc main / agent g 5
--   post 0 one / post 0 two
abbrev pub taken_though_nobody_reads : Row
taken_though_nobody_reads = record {
  script = posted (5 ∷ []) (line 0 0 (codes "one") ∷ line 0 1 (codes "two") ∷ [])
      (pod 1 (named (codes "main" ∷ []) (codes "g" ∷ []) [] [])
      (procedure 0 (stmt.Agent 0 5 ∷ [])
      ∷ []));
  turns = 100000;
  trace = codes "t0: agent 5\nt0 = t1\nevent 5 client 0 seq 0 one\nt0: return\nt0 dies\npod ends 0\nleft client 0 1\n";
  halt = Ended 0;
  calls = 2;
  takes = took 1 5 (line 0 0 (codes "one")) ∷ [];
}

-- What is left is counted for each client, where something is.
--   lwp 1 / pod 1
--   client 0 5 / client 1 6 / client 2 7
--   proc main / agent g 6
--   post 0 a / post 1 b / post 2 c / post 2 d
abbrev pub left_of_each_client : Row
left_of_each_client = record {
  script = posted (5 ∷ 6 ∷ 7 ∷ [])
      (line 0 0 (codes "a") ∷ line 1 0 (codes "b") ∷ line 2 0 (codes "c") ∷ line 2 1 (codes "d") ∷ [])
      (pod 1 (named (codes "main" ∷ []) (codes "g" ∷ []) [] [])
      (procedure 0 (stmt.Agent 0 6 ∷ [])
      ∷ []));
  turns = 100000;
  trace = codes "t0: agent 6\nt0 = t1\nevent 6 client 1 seq 0 b\nt0: return\nt0 dies\npod ends 0\nleft client 0 1\nleft client 2 2\n";
  halt = Ended 0;
  calls = 2;
  takes = took 1 6 (line 1 0 (codes "b")) ∷ [];
}

-- Of two events that can be delivered at once the lower comes first.
--   lwp 1 / pod 1
--   client 0 9 / client 1 4
--   proc main / agent g 9 / agent h 4 / call p / recv any wait
--   proc p / recv g wait / recv h wait / onexit reply g a / onexit reply h b
--   post 0 one / post 0 two / post 1 uno / post 1 due
abbrev pub events_in_rising_order : Row
events_in_rising_order = record {
  script = posted (9 ∷ 4 ∷ []) (line 0 0 (codes "one") ∷ line 0 1 (codes "two")
      ∷ line 1 0 (codes "uno") ∷ line 1 1 (codes "due") ∷ [])
      (speaking (codes "a" ∷ codes "b" ∷ [])
      (pod 1 (named (codes "main" ∷ codes "p" ∷ []) (codes "g" ∷ codes "h" ∷ []) [] [])
      (procedure 0 (stmt.Agent 0 9 ∷ stmt.Agent 1 4 ∷ stmt.CallProc 1 ∷ stmt.Recv None mode.Block ∷ [])
      ∷ procedure 1 (stmt.Recv (Some (who.Named 0)) mode.Block ∷ stmt.Recv (Some (who.Named 1)) mode.Block
      ∷ stmt.OnExit (exit_stmt.Reply (who.Named 0) 0)
      ∷ stmt.OnExit (exit_stmt.Reply (who.Named 1) 1) ∷ [])
      ∷ [])));
  turns = 100000;
  trace = codes "t0: agent 9\nt0 = t1\nevent 9 client 0 seq 0 one\nt0: agent 4\nt0 = t2\nevent 4 client 1 seq 0 uno\nt0: call p\nt0 = 0\nt0: recv t1 wait\nt0 = letter t1 240 one\nt0: recv t2 wait\nt0 = letter t2 240 uno\nt0: onexit reply t1 a\nt0 = 0\nt0: onexit reply t2 b\nt0 = 1\nt0: return\nexit x1 reply t2 b = 0\nexit x0 reply t1 a = 0\nt0 = 0\nevent 4 client 1 seq 1 due\nevent 9 client 0 seq 1 two\nt0: recv any wait\nt0 = letter t2 240 due\nt0: return\nt0 dies\npod ends 0\n";
  halt = Ended 0;
  calls = 10;
  takes = took 1 9 (line 0 0 (codes "one")) ∷ took 2 4 (line 1 0 (codes "uno")) ∷ took 8 4 (line 1 1 (codes "due"))
      ∷ took 8 9 (line 0 1 (codes "two")) ∷ [];
}

-- All lists: threads, agents, monitors, conditions, senders, receivers, and who waits.
--   lwp 1 / pod 1
--   proc main / moncreate m / cvcreate c m / create a w 1 - / agent g 5 / yield self / threads / agents / monitors /
--     conditions / senders / receivers / monwaiters m / cvwaiters c
--   proc w / recv first wait
abbrev pub lists_of_ids : Row
lists_of_ids = record {
  script = pod 1 (named (codes "main" ∷ codes "w" ∷ []) (codes "a" ∷ codes "g" ∷ []) (codes "m" ∷ []) (codes "c" ∷ []))
      (procedure 0 (stmt.MonCreate 0 ∷ stmt.CvCreate 0 0 ∷ stmt.Create 0 1 1 plain ∷ stmt.Agent 1 5 ∷ stmt.Yield who.Me
      ∷ stmt.Threads ∷ stmt.Agents ∷ stmt.Monitors ∷ stmt.Conds ∷ stmt.Senders ∷ stmt.Receivers ∷ stmt.MonWaiters 0
      ∷ stmt.CvWaiters 0 ∷ [])
      ∷ procedure 1 (stmt.Recv (Some who.First) mode.Block ∷ [])
      ∷ []);
  turns = 100000;
  trace = codes "t0: moncreate\nt0 = m0\nt0: cvcreate m0\nt0 = c0\nt0: create w 1 -\nt0 = t1\nt0: agent 5\nt0 = t2\nt0: yield self\nt0 = 0\nt1: recv t0 wait\nt0: threads\nt0 = ids t0 t1\nt0: agents\nt0 = ids t2\nt0: monitors\nt0 = ids m0\nt0: conditions\nt0 = ids c0\nt0: senders\nt0 = ids\nt0: receivers\nt0 = ids t1\nt0: monwaiters m0\nt0 = ids\nt0: cvwaiters c0\nt0 = ids\nt0: return\nt1 ! LE_NONEXIST\nt0 dies\nt1: return\nt1 dies\npod ends 0\n";
  halt = Ended 0;
  calls = 16;
  takes = [];
}

-- A thread that waits for the agent is refused as its owner dies.
--   lwp 1 / pod 1
--   proc main / create a w 1 - / yield self / recv g wait
--   proc w / agent g 5 / yield self
abbrev pub agent_dies_with_owner : Row
agent_dies_with_owner = record {
  script = pod 1 (named (codes "main" ∷ codes "w" ∷ []) (codes "a" ∷ codes "g" ∷ []) [] [])
      (procedure 0 (stmt.Create 0 1 1 plain ∷ stmt.Yield who.Me ∷ stmt.Recv (Some (who.Named 1)) mode.Block ∷ [])
      ∷ procedure 1 (stmt.Agent 1 5 ∷ stmt.Yield who.Me ∷ [])
      ∷ []);
  turns = 100000;
  trace = codes "t0: create w 1 -\nt0 = t1\nt0: yield self\nt0 = 0\nt1: agent 5\nt1 = t2\nt1: yield self\nt1 = 0\nt0: recv t2 wait\nt1: return\nt0 ! LE_NONEXIST\nt1 dies\nt0: return\nt0 dies\npod ends 0\n";
  halt = Ended 0;
  calls = 7;
  takes = [];
}

-- Events are 1 to 32, and any number of agents may have the same; the list has the agents of all threads. The agent of
-- event 32 that outlives the first thread hears of its death.
--   lwp 1 / pod 1
--   proc main / agent a 0 / agent b 33 / agent c 1 / agent d 32 / agent e 1 / create f w 1 - / yield self / agents
--   proc w / agent g 2 / agent h 32 / yield self
abbrev pub events_at_both_ends : Row
events_at_both_ends = record {
  script = pod 1 (named (codes "main" ∷ codes "w" ∷ [])
      (codes "a" ∷ codes "b" ∷ codes "c" ∷ codes "d" ∷ codes "e" ∷ codes "f" ∷ codes "g" ∷ codes "h" ∷ []) [] [])
      (procedure 0 (stmt.Agent 0 0 ∷ stmt.Agent 1 33 ∷ stmt.Agent 2 1 ∷ stmt.Agent 3 32
      ∷ stmt.Agent 4 1 ∷ stmt.Create 5 1 1 plain
      ∷ stmt.Yield who.Me ∷ stmt.Agents ∷ [])
      ∷ procedure 1 (stmt.Agent 6 2 ∷ stmt.Agent 7 32 ∷ stmt.Yield who.Me ∷ [])
      ∷ []);
  turns = 100000;
  trace = codes "t0: agent 0\nt0 ! LE_INVALIDARG\nt0: agent 33\nt0 ! LE_INVALIDARG\nt0: agent 1\nt0 = t1\nt0: agent 32\nt0 = t2\nt0: agent 1\nt0 = t3\nt0: create w 1 -\nt0 = t4\nt0: yield self\nt0 = 0\nt4: agent 2\nt4 = t5\nt4: agent 32\nt4 = t6\nt4: yield self\nt4 = 0\nt0: agents\nt0 = ids t1 t2 t3 t5 t6\nt0: return\nt0 dies\nrites t0 to t6\nt4: return\nt4 dies\npod ends 0\n";
  halt = Ended 0;
  calls = 13;
  takes = [];
}

-- No such event, then no births left.
--   lwp 1 / pod 1 / limit births 2
--   proc main / agent a 3 / agent b 33 / agent c 3
abbrev pub agent_is_refused_in_order : Row
agent_is_refused_in_order = record {
  script = limited 2 (pod 1 (named (codes "main" ∷ []) (codes "a" ∷ codes "b" ∷ codes "c" ∷ []) [] [])
      (procedure 0 (stmt.Agent 0 3 ∷ stmt.Agent 1 33 ∷ stmt.Agent 2 3 ∷ [])
      ∷ []));
  turns = 100000;
  trace = codes "t0: agent 3\nt0 = t1\nt0: agent 33\nt0 ! LE_INVALIDARG\nt0: agent 3\nt0 ! LE_NOROOM\nt0: return\nt0 dies\npod ends 0\n";
  halt = Ended 0;
  calls = 4;
  takes = [];
}

-- An agent is replied to once its letter was received, and once only.
--   lwp 1 / pod 1
--   client 0 5
--   proc main / agent g 5 / reply g x / recv g poll / reply g x / reply g x / recv g poll
--   post 0 hi
abbrev pub a_reply_before_the_letter : Row
a_reply_before_the_letter = record {
  script = posted (5 ∷ []) (line 0 0 (codes "hi") ∷ [])
      (speaking (codes "x" ∷ codes "x" ∷ codes "x" ∷ []) (pod 1 (named (codes "main" ∷ []) (codes "g" ∷ []) [] [])
      (procedure 0 (stmt.Agent 0 5 ∷ stmt.Reply (who.Named 0) 0 ∷ stmt.Recv (Some (who.Named 0)) mode.Poll
      ∷ stmt.Reply (who.Named 0) 1 ∷ stmt.Reply (who.Named 0) 2
      ∷ stmt.Recv (Some (who.Named 0)) mode.Poll ∷ [])
      ∷ [])));
  turns = 100000;
  trace = codes "t0: agent 5\nt0 = t1\nevent 5 client 0 seq 0 hi\nt0: reply t1 x\nt0 ! LE_NOWAIT\nt0: recv t1 poll\nt0 = letter t1 240 hi\nt0: reply t1 x\nt0 = 0\nt0: reply t1 x\nt0 ! LE_NOWAIT\nt0: recv t1 poll\nt0 ! LE_TIMEOUT\nt0: return\nt0 dies\npod ends 0\n";
  halt = Ended 0;
  calls = 7;
  takes = took 1 5 (line 0 0 (codes "hi")) ∷ [];
}

-- An agent has room for every text.
--   lwp 1 / pod 1
--   client 0 31
--   proc main / agent g 31 / recv g wait / reply g yy..y
--   post 0 xx..x
abbrev pub the_longest_reply_to_an_agent : Row
the_longest_reply_to_an_agent = record {
  script = posted (31 ∷ []) (line 0 0 longest_x ∷ [])
      (speaking (longest_y ∷ []) (pod 1 (named (codes "main" ∷ []) (codes "g" ∷ []) [] [])
      (procedure 0 (stmt.Agent 0 31 ∷ stmt.Recv (Some (who.Named 0)) mode.Block ∷ stmt.Reply (who.Named 0) 0 ∷ [])
      ∷ [])));
  turns = 100000;
  trace = codes "t0: agent 31\nt0 = t1\nevent 31 client 0 seq 0 "
      ++ (longest_x
      ++ (codes "\nt0: recv t1 wait\nt0 = letter t1 240 "
      ++ (longest_x
      ++ (codes "\nt0: reply t1 " ++ (longest_y ++ codes "\nt0 = 0\nt0: return\nt0 dies\npod ends 0\n")))));
  halt = Ended 0;
  calls = 4;
  takes = took 1 31 (line 0 0 longest_x) ∷ [];
}

-- The message of a destroyed agent is gone; the next line comes to the next agent of the event.
--   lwp 1 / pod 1
--   client 0 5
--   proc main / agent g 5 / senders / destroy g / senders / recv any poll / agents / agent h 5 / recv any poll
--   post 0 one / post 0 two
abbrev pub a_destroyed_agent_takes_its_letter : Row
a_destroyed_agent_takes_its_letter = record {
  script = posted (5 ∷ []) (line 0 0 (codes "one") ∷ line 0 1 (codes "two") ∷ [])
      (pod 1 (named (codes "main" ∷ []) (codes "g" ∷ codes "h" ∷ []) [] [])
      (procedure 0 (stmt.Agent 0 5 ∷ stmt.Senders ∷ stmt.Destroy (who.Named 0) ∷ stmt.Senders ∷ stmt.Recv None mode.Poll
      ∷ stmt.Agents ∷ stmt.Agent 1 5 ∷ stmt.Recv None mode.Poll ∷ [])
      ∷ []));
  turns = 100000;
  trace = codes "t0: agent 5\nt0 = t1\nevent 5 client 0 seq 0 one\nt0: senders\nt0 = ids t1\nt0: destroy t1\nt0 = 0\nt0: senders\nt0 = ids\nt0: recv any poll\nt0 ! LE_TIMEOUT\nt0: agents\nt0 = ids\nt0: agent 5\nt0 = t2\nevent 5 client 0 seq 1 two\nt0: recv any poll\nt0 = letter t2 240 two\nt0: return\nt0 dies\npod ends 0\n";
  halt = Ended 0;
  calls = 9;
  takes = took 1 5 (line 0 0 (codes "one")) ∷ took 7 5 (line 0 1 (codes "two")) ∷ [];
}

-- A thread may wait for the agent of another, and waits until that ends.
--   lwp 1 / pod 1
--   client 0 5
--   proc main / agent g 5 / create a r 1 - / create b d 1 - / yield self / recv any poll
--   proc r / recv g wait
--   proc d / destroy g
--   post 0 hi
abbrev pub a_destroyed_agent_refuses_who_waits : Row
a_destroyed_agent_refuses_who_waits = record {
  script = posted (5 ∷ []) (line 0 0 (codes "hi") ∷ [])
      (pod 1 (named (codes "main" ∷ codes "r" ∷ codes "d" ∷ []) (codes "g" ∷ codes "a" ∷ codes "b" ∷ []) [] [])
      (procedure 0 (stmt.Agent 0 5 ∷ stmt.Create 1 1 1 plain ∷ stmt.Create 2 2 1 plain ∷ stmt.Yield who.Me
      ∷ stmt.Recv None mode.Poll ∷ [])
      ∷ procedure 1 (stmt.Recv (Some (who.Named 0)) mode.Block ∷ [])
      ∷ procedure 2 (stmt.Destroy (who.Named 0) ∷ [])
      ∷ []));
  turns = 100000;
  trace = codes "t0: agent 5\nt0 = t1\nevent 5 client 0 seq 0 hi\nt0: create r 1 -\nt0 = t2\nt0: create d 1 -\nt0 = t3\nt0: yield self\nt0 = 0\nt2: recv t1 wait\nt3: destroy t1\nt2 ! LE_NONEXIST\nt3 = 0\nt3: return\nt3 dies\nt0: recv any poll\nt0 ! LE_TIMEOUT\nt0: return\nt0 dies\nt2: return\nt2 dies\npod ends 0\n";
  halt = Ended 0;
  calls = 10;
  takes = took 1 5 (line 0 0 (codes "hi")) ∷ [];
}

-- The message dies with its owner; the next line comes to another thread's agent.
--   lwp 1 / pod 1
--   client 0 5
--   proc main / create a o 1 - / yield self / agent g 5 / recv any wait
--   proc o / agent h 5 / recv any wait
--   post 0 one / post 0 two
abbrev pub an_owner_dies_with_a_message : Row
an_owner_dies_with_a_message = record {
  script = posted (5 ∷ []) (line 0 0 (codes "one") ∷ line 0 1 (codes "two") ∷ [])
      (pod 1 (named (codes "main" ∷ codes "o" ∷ []) (codes "a" ∷ codes "g" ∷ codes "h" ∷ []) [] [])
      (procedure 0 (stmt.Create 0 1 1 plain ∷ stmt.Yield who.Me ∷ stmt.Agent 1 5 ∷ stmt.Recv None mode.Block ∷ [])
      ∷ procedure 1 (stmt.Agent 2 5 ∷ stmt.Recv None mode.Block ∷ [])
      ∷ []));
  turns = 100000;
  trace = codes "t0: create o 1 -\nt0 = t1\nt0: yield self\nt0 = 0\nt1: agent 5\nt1 = t2\nevent 5 client 0 seq 0 one\nt1: recv any wait\nt1 = letter t2 240 one\nt1: return\nt1 dies\nt0: agent 5\nt0 = t3\nevent 5 client 0 seq 1 two\nt0: recv any wait\nt0 = letter t3 240 two\nt0: return\nt0 dies\npod ends 0\n";
  halt = Ended 0;
  calls = 8;
  takes = took 3 5 (line 0 0 (codes "one")) ∷ took 6 5 (line 0 1 (codes "two")) ∷ [];
}

-- One mailbox has the letters of both, in the order of their coming.
--   lwp 1 / pod 1
--   client 0 5
--   proc main / create a s 1 - / yield self / agent g 5 / senders / recv any wait / recv any wait / reply a one /
--     reply g two
--   proc s / send first 9 hi
--   post 0 ho
abbrev pub letters_of_threads_and_agents : Row
letters_of_threads_and_agents = record {
  script = posted (5 ∷ []) (line 0 0 (codes "ho") ∷ [])
      (speaking (codes "one" ∷ codes "two" ∷ codes "hi" ∷ [])
      (pod 1 (named (codes "main" ∷ codes "s" ∷ []) (codes "a" ∷ codes "g" ∷ []) [] [])
      (procedure 0 (stmt.Create 0 1 1 plain ∷ stmt.Yield who.Me ∷ stmt.Agent 1 5 ∷ stmt.Senders
      ∷ stmt.Recv None mode.Block
      ∷ stmt.Recv None mode.Block ∷ stmt.Reply (who.Named 0) 0 ∷ stmt.Reply (who.Named 1) 1
      ∷ [])
      ∷ procedure 1 (stmt.Send who.First 9 2 ∷ [])
      ∷ [])));
  turns = 100000;
  trace = codes "t0: create s 1 -\nt0 = t1\nt0: yield self\nt0 = 0\nt1: send t0 9 hi\nt0: agent 5\nt0 = t2\nevent 5 client 0 seq 0 ho\nt0: senders\nt0 = ids t1 t2\nt0: recv any wait\nt0 = letter t1 9 hi\nt0: recv any wait\nt0 = letter t2 240 ho\nt0: reply t1 one\nt1 = reply one\nt0 = 0\nt0: reply t2 two\nt0 = 0\nt0: return\nt0 dies\nt1: return\nt1 dies\npod ends 0\n";
  halt = Ended 0;
  calls = 11;
  takes = took 4 5 (line 0 0 (codes "ho")) ∷ [];
}

-- A line is taken where all agents of its event are idle, and becomes a letter of each.
--   lwp 1 / pod 1
--   client 0 5
--   proc main / create a w 1 - / yield self / agent g 5 / yield self / recv g wait / reply g ok
--   proc w / agent h 5 / recv h wait / yield self / reply h ok / recv h wait / reply h ok
--   post 0 one / post 0 two
abbrev pub several_agents : Row
several_agents = record {
  script = posted (5 ∷ []) (line 0 0 (codes "one") ∷ line 0 1 (codes "two") ∷ [])
      (speaking (codes "ok" ∷ []) (pod 1
      (named (codes "main" ∷ codes "w" ∷ []) (codes "a" ∷ codes "g" ∷ codes "h" ∷ []) [] [])
      (procedure 0 (stmt.Create 0 1 1 plain ∷ stmt.Yield who.Me ∷ stmt.Agent 1 5 ∷ stmt.Yield who.Me
      ∷ stmt.Recv (Some (who.Named 1)) mode.Block ∷ stmt.Reply (who.Named 1) 0 ∷ [])
      ∷ procedure 1 (stmt.Agent 2 5 ∷ stmt.Recv (Some (who.Named 2)) mode.Block ∷ stmt.Yield who.Me
      ∷ stmt.Reply (who.Named 2) 0 ∷ stmt.Recv (Some (who.Named 2)) mode.Block ∷ stmt.Reply (who.Named 2) 0 ∷ [])
      ∷ [])));
  turns = 100000;
  trace = codes "t0: create w 1 -\nt0 = t1\nt0: yield self\nt0 = 0\nt1: agent 5\nt1 = t2\nevent 5 client 0 seq 0 one\nt1: recv t2 wait\nt1 = letter t2 240 one\nt1: yield self\nt1 = 0\nt0: agent 5\nt0 = t3\nt0: yield self\nt0 = 0\nt1: reply t2 ok\nt1 = 0\nevent 5 client 0 seq 1 two\nalso t3\nt1: recv t2 wait\nt1 = letter t2 240 two\nt1: reply t2 ok\nt1 = 0\nt1: return\nt1 dies\nt0: recv t3 wait\nt0 = letter t3 240 two\nt0: reply t3 ok\nt0 = 0\nt0: return\nt0 dies\npod ends 0\n";
  halt = Ended 0;
  calls = 14;
  takes = took 3 5 (line 0 0 (codes "one")) ∷ took 8 5 (line 0 1 (codes "two")) ∷ [];
}

-- An owner of two agents has a letter of each; the event waits for both replies.
--   lwp 1 / pod 1
--   client 0 5
--   proc main / agent g 5 / agent h 5 / recv any wait / reply g ok / recv any wait / recv any wait / reply h ok /
--     reply g ok
--   post 0 x / post 0 y
abbrev pub two_agents_of_one_owner : Row
two_agents_of_one_owner = record {
  script = posted (5 ∷ []) (line 0 0 (codes "x") ∷ line 0 1 (codes "y") ∷ [])
      (speaking (codes "ok" ∷ []) (pod 1 (named (codes "main" ∷ []) (codes "g" ∷ codes "h" ∷ []) [] [])
      (procedure 0 (stmt.Agent 0 5 ∷ stmt.Agent 1 5 ∷ stmt.Recv None mode.Block
      ∷ stmt.Reply (who.Named 0) 0 ∷ stmt.Recv None mode.Block ∷ stmt.Recv None mode.Block
      ∷ stmt.Reply (who.Named 1) 0 ∷ stmt.Reply (who.Named 0) 0 ∷ [])
      ∷ [])));
  turns = 100000;
  trace = codes "t0: agent 5\nt0 = t1\nevent 5 client 0 seq 0 x\nt0: agent 5\nt0 = t2\nt0: recv any wait\nt0 = letter t1 240 x\nt0: reply t1 ok\nt0 = 0\nevent 5 client 0 seq 1 y\nalso t2\nt0: recv any wait\nt0 = letter t1 240 y\nt0: recv any wait\nt0 = letter t2 240 y\nt0: reply t2 ok\nt0 = 0\nt0: reply t1 ok\nt0 = 0\nt0: return\nt0 dies\npod ends 0\n";
  halt = Ended 0;
  calls = 9;
  takes = took 1 5 (line 0 0 (codes "x")) ∷ took 4 5 (line 0 1 (codes "y")) ∷ [];
}

-- Of two owners one waits: it goes on in the midst of the delivery, after its own agent's part of it.
--   lwp 1 / pod 1
--   client 0 5
--   proc main / agent g 5 / recv g wait / create a w 1 - / yield self / reply g ok / recv g wait / reply g ok
--   proc w / agent h 5 / recv h wait / reply h ok
--   post 0 x / post 0 y
abbrev pub an_owner_waits_for_the_second : Row
an_owner_waits_for_the_second = record {
  script = posted (5 ∷ []) (line 0 0 (codes "x") ∷ line 0 1 (codes "y") ∷ [])
      (speaking (codes "ok" ∷ []) (pod 1
      (named (codes "main" ∷ codes "w" ∷ []) (codes "g" ∷ codes "a" ∷ codes "h" ∷ []) [] [])
      (procedure 0 (stmt.Agent 0 5 ∷ stmt.Recv (Some (who.Named 0)) mode.Block
      ∷ stmt.Create 1 1 1 plain ∷ stmt.Yield who.Me ∷ stmt.Reply (who.Named 0) 0
      ∷ stmt.Recv (Some (who.Named 0)) mode.Block ∷ stmt.Reply (who.Named 0) 0 ∷ [])
      ∷ procedure 1 (stmt.Agent 2 5 ∷ stmt.Recv (Some (who.Named 2)) mode.Block ∷ stmt.Reply (who.Named 2) 0 ∷ [])
      ∷ [])));
  turns = 100000;
  trace = codes "t0: agent 5\nt0 = t1\nevent 5 client 0 seq 0 x\nt0: recv t1 wait\nt0 = letter t1 240 x\nt0: create w 1 -\nt0 = t2\nt0: yield self\nt0 = 0\nt2: agent 5\nt2 = t3\nt2: recv t3 wait\nt0: reply t1 ok\nt0 = 0\nevent 5 client 0 seq 1 y\nalso t3\nt2 = letter t3 240 y\nt0: recv t1 wait\nt0 = letter t1 240 y\nt0: reply t1 ok\nt0 = 0\nt0: return\nt0 dies\nt2: reply t3 ok\nt2 = 0\nt2: return\nt2 dies\npod ends 0\n";
  halt = Ended 0;
  calls = 12;
  takes = took 1 5 (line 0 0 (codes "x")) ∷ took 7 5 (line 0 1 (codes "y")) ∷ [];
}
