-- Several agents of one event: whom a line reaches, and when the next one is taken.
use Rattle.trace_text.specs.declared.ends.Halt.TheVariants.{Ended, Stuck}
use Rattle.lwp_types.specs.Agents.{new_agent}
use Rattle.lwp_types.specs.State.{State, opening_thread}
use Rattle.lwp_types.specs.declared.call.Line.{Line}
use Rattle.pod_runner.specs.Due.{numbers_to}
use Rattle.std.specs.Prelude.{None, Some, [], codes, map, ℕ, ◌+◌, ◌∷◌}
use Rattle.worked_rows.specs.Limits.{alone}
use Rattle.worked_rows.specs.Words.{Row, line, named, plain, pod, posted, procedure, speaking, took}
use Rattle.script_text.specs.declared.script.Who.TheVariants as who
use Rattle.script_text.specs.declared.script.Stmt.TheVariants as stmt
use Rattle.lwp_types.specs.declared.call.Mode.TheVariants as mode
use Rattle.lwp_types.specs.declared.rows.Block.TheVariants as block

-- the lines of client 0, whose event is 5
abbrev pub x_line : Line
x_line = line 0 0 (codes "x")

abbrev pub y_line : Line
y_line = line 0 1 (codes "y")

abbrev pub z_line : Line
z_line = line 0 2 (codes "z")

-- An owner waits for its second agent by name. The first one's letter doesn't wake it, the second's does.
--   lwp 1 / pod 1
--   client 0 5
--   proc main / agent g 5 / recv g wait / create a w 1 - / yield self / reply g ok / yield self / recv g wait /
--     reply g ok
--   proc w / agent h 5 / agent i 5 / recv i wait / recv h poll / reply i ok / reply h ok
--   post 0 x / post 0 y
abbrev pub blocked_on_its_second_agent : Row
blocked_on_its_second_agent = record {
  script = posted (5 ∷ []) (x_line ∷ y_line ∷ [])
      (speaking (codes "ok" ∷ []) (pod 1
      (named (codes "main" ∷ codes "w" ∷ []) (codes "g" ∷ codes "a" ∷ codes "h" ∷ codes "i" ∷ []) [] [])
      (procedure 0 (stmt.Agent 0 5 ∷ stmt.Recv (Some (who.Named 0)) mode.Block
      ∷ stmt.Create 1 1 1 plain ∷ stmt.Yield who.Me ∷ stmt.Reply (who.Named 0) 0
      ∷ stmt.Yield who.Me ∷ stmt.Recv (Some (who.Named 0)) mode.Block ∷ stmt.Reply (who.Named 0) 0 ∷ [])
      ∷ procedure 1 (stmt.Agent 2 5 ∷ stmt.Agent 3 5 ∷ stmt.Recv (Some (who.Named 3)) mode.Block
      ∷ stmt.Recv (Some (who.Named 2)) mode.Poll ∷ stmt.Reply (who.Named 3) 0 ∷ stmt.Reply (who.Named 2) 0 ∷ [])
      ∷ [])));
  turns = 100000;
  trace = codes "t0: agent 5\nt0 = t1\nevent 5 client 0 seq 0 x\nt0: recv t1 wait\nt0 = letter t1 240 x\nt0: create w 1 -\nt0 = t2\nt0: yield self\nt0 = 0\nt2: agent 5\nt2 = t3\nt2: agent 5\nt2 = t4\nt2: recv t4 wait\nt0: reply t1 ok\nt0 = 0\nevent 5 client 0 seq 1 y\nalso t3\nalso t4\nt2 = letter t4 240 y\nt0: yield self\nt0 = 0\nt2: recv t3 poll\nt2 = letter t3 240 y\nt2: reply t4 ok\nt2 = 0\nt2: reply t3 ok\nt2 = 0\nt2: return\nt2 dies\nt0: recv t1 wait\nt0 = letter t1 240 y\nt0: reply t1 ok\nt0 = 0\nt0: return\nt0 dies\npod ends 0\n";
  halt = Ended 0;
  calls = 16;
  takes = took 1 5 x_line ∷ took 8 5 y_line ∷ [];
}

-- Two owners have a letter each, and the first dies by what it does next. The event then waits for the other alone, and
-- the next line is for the agent that is left.
--   lwp 1 / pod 1
--   client 0 5
--   proc main / agent g 5 / recv g wait / create a w 1 - / yield self / reply g ok
--   proc w / agent h 5 / recv h wait / reply h ok / recv h wait / reply h ok
--   post 0 x / post 0 y / post 0 z
abbrev pub an_owner_that_dies_next : Row
an_owner_that_dies_next = record {
  script = posted (5 ∷ []) (x_line ∷ y_line ∷ z_line ∷ [])
      (speaking (codes "ok" ∷ []) (pod 1
      (named (codes "main" ∷ codes "w" ∷ []) (codes "g" ∷ codes "a" ∷ codes "h" ∷ []) [] [])
      (procedure 0 (stmt.Agent 0 5 ∷ stmt.Recv (Some (who.Named 0)) mode.Block
      ∷ stmt.Create 1 1 1 plain ∷ stmt.Yield who.Me ∷ stmt.Reply (who.Named 0) 0 ∷ [])
      ∷ procedure 1 (stmt.Agent 2 5 ∷ stmt.Recv (Some (who.Named 2)) mode.Block
      ∷ stmt.Reply (who.Named 2) 0 ∷ stmt.Recv (Some (who.Named 2)) mode.Block ∷ stmt.Reply (who.Named 2) 0 ∷ [])
      ∷ [])));
  turns = 100000;
  trace = codes "t0: agent 5\nt0 = t1\nevent 5 client 0 seq 0 x\nt0: recv t1 wait\nt0 = letter t1 240 x\nt0: create w 1 -\nt0 = t2\nt0: yield self\nt0 = 0\nt2: agent 5\nt2 = t3\nt2: recv t3 wait\nt0: reply t1 ok\nt0 = 0\nevent 5 client 0 seq 1 y\nalso t3\nt2 = letter t3 240 y\nt0: return\nt0 dies\nt2: reply t3 ok\nt2 = 0\nevent 5 client 0 seq 2 z\nt2: recv t3 wait\nt2 = letter t3 240 z\nt2: reply t3 ok\nt2 = 0\nt2: return\nt2 dies\npod ends 0\n";
  halt = Ended 0;
  calls = 12;
  takes = took 1 5 x_line ∷ took 7 5 y_line ∷ took 9 5 z_line ∷ [];
}

-- An agent that is born while another of its event holds a message doesn't arm the event: the next line waits for the
-- reply.
--   lwp 1 / pod 1
--   client 0 5
--   proc main / agent g 5 / agent h 5 / say m / recv g wait / reply g ok / recv any wait
--   post 0 x / post 0 y
abbrev pub born_beside_one_that_holds : Row
born_beside_one_that_holds = record {
  script = posted (5 ∷ []) (x_line ∷ y_line ∷ [])
      (speaking (codes "ok" ∷ codes "m" ∷ []) (pod 1 (named (codes "main" ∷ []) (codes "g" ∷ codes "h" ∷ []) [] [])
      (procedure 0 (stmt.Agent 0 5 ∷ stmt.Agent 1 5 ∷ stmt.Say 1
      ∷ stmt.Recv (Some (who.Named 0)) mode.Block ∷ stmt.Reply (who.Named 0) 0 ∷ stmt.Recv None mode.Block ∷ [])
      ∷ [])));
  turns = 100000;
  trace = codes "t0: agent 5\nt0 = t1\nevent 5 client 0 seq 0 x\nt0: agent 5\nt0 = t2\nt0: say m\nt0 = 0\nt0: recv t1 wait\nt0 = letter t1 240 x\nt0: reply t1 ok\nt0 = 0\nevent 5 client 0 seq 1 y\nalso t2\nt0: recv any wait\nt0 = letter t1 240 y\nt0: return\nt0 dies\npod ends 0\n";
  halt = Ended 0;
  calls = 7;
  takes = took 1 5 x_line ∷ took 5 5 y_line ∷ [];
}

-- Two agents hold a message: a reply to one of them takes no line, and the reply to the other does.
--   lwp 1 / pod 1
--   client 0 5
--   proc main / agent g 5 / agent h 5 / recv g wait / reply g ok / recv any wait / recv any wait / reply h ok / say m /
--     reply g ok
--   post 0 x / post 0 y / post 0 z
abbrev pub a_reply_to_one_of_two : Row
a_reply_to_one_of_two = record {
  script = posted (5 ∷ []) (x_line ∷ y_line ∷ z_line ∷ [])
      (speaking (codes "ok" ∷ codes "m" ∷ []) (pod 1 (named (codes "main" ∷ []) (codes "g" ∷ codes "h" ∷ []) [] [])
      (procedure 0 (stmt.Agent 0 5 ∷ stmt.Agent 1 5 ∷ stmt.Recv (Some (who.Named 0)) mode.Block
      ∷ stmt.Reply (who.Named 0) 0 ∷ stmt.Recv None mode.Block ∷ stmt.Recv None mode.Block
      ∷ stmt.Reply (who.Named 1) 0 ∷ stmt.Say 1 ∷ stmt.Reply (who.Named 0) 0 ∷ [])
      ∷ [])));
  turns = 100000;
  trace = codes "t0: agent 5\nt0 = t1\nevent 5 client 0 seq 0 x\nt0: agent 5\nt0 = t2\nt0: recv t1 wait\nt0 = letter t1 240 x\nt0: reply t1 ok\nt0 = 0\nevent 5 client 0 seq 1 y\nalso t2\nt0: recv any wait\nt0 = letter t1 240 y\nt0: recv any wait\nt0 = letter t2 240 y\nt0: reply t2 ok\nt0 = 0\nt0: say m\nt0 = 0\nt0: reply t1 ok\nt0 = 0\nevent 5 client 0 seq 2 z\nalso t2\nt0: return\nt0 dies\npod ends 0\n";
  halt = Ended 0;
  calls = 10;
  takes = took 1 5 x_line ∷ took 4 5 y_line ∷ took 9 5 z_line ∷ [];
}

-- An owner of three agents of one event has three letters of one line, in the order of the agents' births.
--   lwp 1 / pod 1
--   client 0 5
--   proc main / agent g 5 / agent h 5 / agent i 5 / recv g wait / reply g ok / recv any wait / recv any wait /
--     recv any wait / senders / recv any poll
--   post 0 x / post 0 y
abbrev pub three_agents_of_one_owner : Row
three_agents_of_one_owner = record {
  script = posted (5 ∷ []) (x_line ∷ y_line ∷ [])
      (speaking (codes "ok" ∷ []) (pod 1 (named (codes "main" ∷ []) (codes "g" ∷ codes "h" ∷ codes "i" ∷ []) [] [])
      (procedure 0 (stmt.Agent 0 5 ∷ stmt.Agent 1 5 ∷ stmt.Agent 2 5
      ∷ stmt.Recv (Some (who.Named 0)) mode.Block ∷ stmt.Reply (who.Named 0) 0
      ∷ stmt.Recv None mode.Block ∷ stmt.Recv None mode.Block ∷ stmt.Recv None mode.Block
      ∷ stmt.Senders ∷ stmt.Recv None mode.Poll ∷ [])
      ∷ [])));
  turns = 100000;
  trace = codes "t0: agent 5\nt0 = t1\nevent 5 client 0 seq 0 x\nt0: agent 5\nt0 = t2\nt0: agent 5\nt0 = t3\nt0: recv t1 wait\nt0 = letter t1 240 x\nt0: reply t1 ok\nt0 = 0\nevent 5 client 0 seq 1 y\nalso t2\nalso t3\nt0: recv any wait\nt0 = letter t1 240 y\nt0: recv any wait\nt0 = letter t2 240 y\nt0: recv any wait\nt0 = letter t3 240 y\nt0: senders\nt0 = ids t1 t2 t3\nt0: recv any poll\nt0 ! LE_TIMEOUT\nt0: return\nt0 dies\npod ends 0\n";
  halt = Ended 0;
  calls = 11;
  takes = took 1 5 x_line ∷ took 5 5 y_line ∷ [];
}

-- One of two agents holds a message and is destroyed, and its letter with it. The event waits for nobody then.
--   lwp 1 / pod 1
--   client 0 5
--   proc main / agent g 5 / agent h 5 / destroy g / recv any wait / reply h ok
--   post 0 x / post 0 y
abbrev pub destroyed_while_it_holds : Row
destroyed_while_it_holds = record {
  script = posted (5 ∷ []) (x_line ∷ y_line ∷ [])
      (speaking (codes "ok" ∷ []) (pod 1 (named (codes "main" ∷ []) (codes "g" ∷ codes "h" ∷ []) [] [])
      (procedure 0 (stmt.Agent 0 5 ∷ stmt.Agent 1 5 ∷ stmt.Destroy (who.Named 0)
      ∷ stmt.Recv None mode.Block ∷ stmt.Reply (who.Named 1) 0 ∷ [])
      ∷ [])));
  turns = 100000;
  trace = codes "t0: agent 5\nt0 = t1\nevent 5 client 0 seq 0 x\nt0: agent 5\nt0 = t2\nt0: destroy t1\nt0 = 0\nevent 5 client 0 seq 1 y\nt0: recv any wait\nt0 = letter t2 240 y\nt0: reply t2 ok\nt0 = 0\nt0: return\nt0 dies\npod ends 0\n";
  halt = Ended 0;
  calls = 6;
  takes = took 1 5 x_line ∷ took 3 5 y_line ∷ [];
}

-- The other way round, the event still waits for the reply.
--   lwp 1 / pod 1
--   client 0 5
--   proc main / agent g 5 / agent h 5 / destroy h / say m / recv g wait / reply g ok
--   post 0 x / post 0 y
abbrev pub destroyed_beside_one_that_holds : Row
destroyed_beside_one_that_holds = record {
  script = posted (5 ∷ []) (x_line ∷ y_line ∷ [])
      (speaking (codes "ok" ∷ codes "m" ∷ []) (pod 1 (named (codes "main" ∷ []) (codes "g" ∷ codes "h" ∷ []) [] [])
      (procedure 0 (stmt.Agent 0 5 ∷ stmt.Agent 1 5 ∷ stmt.Destroy (who.Named 1) ∷ stmt.Say 1
      ∷ stmt.Recv (Some (who.Named 0)) mode.Block ∷ stmt.Reply (who.Named 0) 0 ∷ [])
      ∷ [])));
  turns = 100000;
  trace = codes "t0: agent 5\nt0 = t1\nevent 5 client 0 seq 0 x\nt0: agent 5\nt0 = t2\nt0: destroy t2\nt0 = 0\nt0: say m\nt0 = 0\nt0: recv t1 wait\nt0 = letter t1 240 x\nt0: reply t1 ok\nt0 = 0\nevent 5 client 0 seq 1 y\nt0: return\nt0 dies\npod ends 0\n";
  halt = Ended 0;
  calls = 7;
  takes = took 1 5 x_line ∷ took 6 5 y_line ∷ [];
}

-- An owner waits for its agent, but another agent of the event holds its message for good: the session is stuck, with a
-- line left.
--   lwp 1 / pod 1
--   client 0 5
--   proc main / agent g 5 / create a w 1 - / join a
--   proc w / agent h 5 / recv h wait
--   post 0 x / post 0 y
abbrev pub stuck_beside_one_that_holds : Row
stuck_beside_one_that_holds = record {
  script = posted (5 ∷ []) (x_line ∷ y_line ∷ [])
      (pod 1 (named (codes "main" ∷ codes "w" ∷ []) (codes "g" ∷ codes "a" ∷ codes "h" ∷ []) [] [])
      (procedure 0 (stmt.Agent 0 5 ∷ stmt.Create 1 1 1 plain ∷ stmt.Join (who.Named 1) ∷ [])
      ∷ procedure 1 (stmt.Agent 2 5 ∷ stmt.Recv (Some (who.Named 2)) mode.Block ∷ [])
      ∷ []));
  turns = 100000;
  trace = codes "t0: agent 5\nt0 = t1\nevent 5 client 0 seq 0 x\nt0: create w 1 -\nt0 = t2\nt0: join t2\nt2: agent 5\nt2 = t3\nt2: recv t3 wait\nstuck\nleft client 0 1\n";
  halt = Stuck;
  calls = 5;
  takes = took 1 5 x_line ∷ [];
}

-- No client has event 32, so no message comes. Its agent is there all the same, until it is destroyed.
--   lwp 1 / pod 1
--   proc main / agent g 32 / ping g / recv g poll / reply g ok / create a w 1 - / recv g wait / ping g
--   proc w / destroy g
abbrev pub an_agent_of_event_32 : Row
an_agent_of_event_32 = record {
  script = speaking (codes "ok" ∷ []) (pod 1 (named (codes "main" ∷ codes "w" ∷ []) (codes "g" ∷ codes "a" ∷ []) [] [])
      (procedure 0 (stmt.Agent 0 32 ∷ stmt.Ping (who.Named 0)
      ∷ stmt.Recv (Some (who.Named 0)) mode.Poll ∷ stmt.Reply (who.Named 0) 0
      ∷ stmt.Create 1 1 1 plain ∷ stmt.Recv (Some (who.Named 0)) mode.Block ∷ stmt.Ping (who.Named 0) ∷ [])
      ∷ procedure 1 (stmt.Destroy (who.Named 0) ∷ [])
      ∷ []));
  turns = 100000;
  trace = codes "t0: agent 32\nt0 = t1\nt0: ping t1\nt0 = 0\nt0: recv t1 poll\nt0 ! LE_TIMEOUT\nt0: reply t1 ok\nt0 ! LE_NOWAIT\nt0: create w 1 -\nt0 = t2\nt0: recv t1 wait\nt2: destroy t1\nt0 ! LE_NONEXIST\nt2 = 0\nt2: return\nt2 dies\nt0: ping t1\nt0 ! LE_NONEXIST\nt0: return\nt0 dies\npod ends 0\n";
  halt = Ended 0;
  calls = 10;
  takes = [];
}

-- The clock is no agent's event, and 32 is the last.
--   lwp 1 / pod 1
--   proc main / agent a 0 / agent b 33 / agent c 4294967295 / agent d 32 / agents
abbrev pub events_that_no_agent_has : Row
events_that_no_agent_has = record {
  script = pod 1 (named (codes "main" ∷ []) (codes "a" ∷ codes "b" ∷ codes "c" ∷ codes "d" ∷ []) [] [])
      (procedure 0 (stmt.Agent 0 0 ∷ stmt.Agent 1 33 ∷ stmt.Agent 2 4294967295 ∷ stmt.Agent 3 32 ∷ stmt.Agents ∷ [])
      ∷ []);
  turns = 100000;
  trace = codes "t0: agent 0\nt0 ! LE_INVALIDARG\nt0: agent 33\nt0 ! LE_INVALIDARG\nt0: agent 4294967295\nt0 ! LE_INVALIDARG\nt0: agent 32\nt0 = t1\nt0: agents\nt0 = ids t1\nt0: return\nt0 dies\npod ends 0\n";
  halt = Ended 0;
  calls = 6;
  takes = [];
}

-- Each event waits for its own agents alone.
--   lwp 1 / pod 1
--   client 0 5 / client 1 3
--   proc main / agent g 5 / agent h 3 / agent i 3 / recv h wait / reply h ok
--   post 0 x / post 1 a / post 1 b
abbrev pub agents_of_two_events : Row
agents_of_two_events = record {
  script = posted (5 ∷ 3 ∷ []) (x_line ∷ line 1 0 (codes "a") ∷ line 1 1 (codes "b") ∷ [])
      (speaking (codes "ok" ∷ []) (pod 1 (named (codes "main" ∷ []) (codes "g" ∷ codes "h" ∷ codes "i" ∷ []) [] [])
      (procedure 0 (stmt.Agent 0 5 ∷ stmt.Agent 1 3 ∷ stmt.Agent 2 3
      ∷ stmt.Recv (Some (who.Named 1)) mode.Block ∷ stmt.Reply (who.Named 1) 0 ∷ [])
      ∷ [])));
  turns = 100000;
  trace = codes "t0: agent 5\nt0 = t1\nevent 5 client 0 seq 0 x\nt0: agent 3\nt0 = t2\nevent 3 client 1 seq 0 a\nt0: agent 3\nt0 = t3\nt0: recv t2 wait\nt0 = letter t2 240 a\nt0: reply t2 ok\nt0 = 0\nevent 3 client 1 seq 1 b\nalso t3\nt0: return\nt0 dies\npod ends 0\n";
  halt = Ended 0;
  calls = 6;
  takes = took 1 5 x_line ∷ took 2 3 (line 1 0 (codes "a")) ∷ took 5 3 (line 1 1 (codes "b")) ∷ [];
}

-- the first thread has so many agents, all of one event
abbrev pub with_agents : ℕ → State
with_agents n = record alone { agents = map (λ k. new_agent (k + 1) 7 0) (numbers_to n); births = n + 1 }

-- and it waits for a letter of anybody
abbrev pub waiting_with_agents : ℕ → State
waiting_with_agents n = record (with_agents n) {
  threads = record (opening_thread 1) { block = block.Receiving None } ∷ [];
  order = [];
}
