-- Last rites: deaths are reported to the agents of event 32.
use Rattle.trace_text.specs.declared.ends.Halt.TheVariants.{Ended}
use Rattle.std.specs.Prelude.{None, Some, [], codes, ◌∷◌}
use Rattle.worked_rows.specs.Words.{Row, line, marked, named, plain, pod, posted, procedure, serving, speaking, took}
use Rattle.script_text.specs.declared.script.Who.TheVariants as who
use Rattle.script_text.specs.declared.script.Stmt.TheVariants as stmt
use Rattle.lwp_types.specs.declared.call.Mode.TheVariants as mode

-- Two threads die, and the death of the one that isn't marked is reported.
--   lwp 1 / pod 1
--   proc main / agent g 32 / create a w 1 - / create b w 1 n / yield self / recv g wait / reply g ok / recv g poll
--   proc w / say hi
abbrev pub the_last_rites : Row
the_last_rites = record {
  script = speaking (codes "ok" ∷ codes "hi" ∷ [])
      (pod 1 (named (codes "main" ∷ codes "w" ∷ []) (codes "g" ∷ codes "a" ∷ codes "b" ∷ []) [] [])
      (procedure 0 (stmt.Agent 0 32 ∷ stmt.Create 1 1 1 plain ∷ stmt.Create 2 1 1 marked
      ∷ stmt.Yield who.Me ∷ stmt.Recv (Some (who.Named 0)) mode.Block
      ∷ stmt.Reply (who.Named 0) 0 ∷ stmt.Recv (Some (who.Named 0)) mode.Poll ∷ [])
      ∷ procedure 1 (stmt.Say 1 ∷ [])
      ∷ []));
  turns = 100000;
  trace = codes "t0: agent 32\nt0 = t1\nt0: create w 1 -\nt0 = t2\nt0: create w 1 n\nt0 = t3\nt0: yield self\nt0 = 0\nt2: say hi\nt2 = 0\nt2: return\nt2 dies\nrites t2 to t1\nt3: say hi\nt3 = 0\nt3: return\nt3 dies\nt0: recv t1 wait\nt0 = letter t1 240 t2\nt0: reply t1 ok\nt0 = 0\nt0: recv t1 poll\nt0 ! LE_TIMEOUT\nt0: return\nt0 dies\npod ends 0\n";
  halt = Ended 0;
  calls = 12;
  takes = [];
}

-- Reports wait for the reply to the one before, in the order of the deaths.
--   lwp 1 / pod 1
--   proc main / agent g 32 / create a w 1 - / create b w 1 - / create c w 1 - / yield self / recv g wait / reply g ok /
--     recv g wait / reply g ok / recv g wait / reply g ok
--   proc w
abbrev pub reports_in_order : Row
reports_in_order = record {
  script = speaking (codes "ok" ∷ codes "ok" ∷ codes "ok" ∷ [])
      (pod 1 (named (codes "main" ∷ codes "w" ∷ []) (codes "g" ∷ codes "a" ∷ codes "b" ∷ codes "c" ∷ []) [] [])
      (procedure 0 (stmt.Agent 0 32 ∷ stmt.Create 1 1 1 plain ∷ stmt.Create 2 1 1 plain
      ∷ stmt.Create 3 1 1 plain ∷ stmt.Yield who.Me ∷ stmt.Recv (Some (who.Named 0)) mode.Block
      ∷ stmt.Reply (who.Named 0) 0 ∷ stmt.Recv (Some (who.Named 0)) mode.Block
      ∷ stmt.Reply (who.Named 0) 1 ∷ stmt.Recv (Some (who.Named 0)) mode.Block ∷ stmt.Reply (who.Named 0) 2 ∷ [])
      ∷ procedure 1 []
      ∷ []));
  turns = 100000;
  trace = codes "t0: agent 32\nt0 = t1\nt0: create w 1 -\nt0 = t2\nt0: create w 1 -\nt0 = t3\nt0: create w 1 -\nt0 = t4\nt0: yield self\nt0 = 0\nt2: return\nt2 dies\nrites t2 to t1\nt3: return\nt3 dies\nt4: return\nt4 dies\nt0: recv t1 wait\nt0 = letter t1 240 t2\nt0: reply t1 ok\nt0 = 0\nrites t3 to t1\nt0: recv t1 wait\nt0 = letter t1 240 t3\nt0: reply t1 ok\nt0 = 0\nrites t4 to t1\nt0: recv t1 wait\nt0 = letter t1 240 t4\nt0: reply t1 ok\nt0 = 0\nt0: return\nt0 dies\npod ends 0\n";
  halt = Ended 0;
  calls = 15;
  takes = [];
}

-- Where the last agent of event 32 ends, the reports that wait go with it; the next one hears of later deaths alone.
--   lwp 1 / pod 1
--   proc main / agent g 32 / create a w 1 - / create b w 1 - / yield self / destroy g / agent h 32 / create c w 1 - /
--     yield self / recv h wait
--   proc w
abbrev pub reports_go_with_the_last_agent : Row
reports_go_with_the_last_agent = record {
  script = pod 1 (named (codes "main" ∷ codes "w" ∷ [])
      (codes "g" ∷ codes "a" ∷ codes "b" ∷ codes "h" ∷ codes "c" ∷ []) [] [])
      (procedure 0 (stmt.Agent 0 32 ∷ stmt.Create 1 1 1 plain ∷ stmt.Create 2 1 1 plain
      ∷ stmt.Yield who.Me ∷ stmt.Destroy (who.Named 0) ∷ stmt.Agent 3 32
      ∷ stmt.Create 4 1 1 plain ∷ stmt.Yield who.Me ∷ stmt.Recv (Some (who.Named 3)) mode.Block ∷ [])
      ∷ procedure 1 []
      ∷ []);
  turns = 100000;
  trace = codes "t0: agent 32\nt0 = t1\nt0: create w 1 -\nt0 = t2\nt0: create w 1 -\nt0 = t3\nt0: yield self\nt0 = 0\nt2: return\nt2 dies\nrites t2 to t1\nt3: return\nt3 dies\nt0: destroy t1\nt0 = 0\nt0: agent 32\nt0 = t4\nt0: create w 1 -\nt0 = t5\nt0: yield self\nt0 = 0\nt5: return\nt5 dies\nrites t5 to t4\nt0: recv t4 wait\nt0 = letter t4 240 t5\nt0: return\nt0 dies\npod ends 0\n";
  halt = Ended 0;
  calls = 13;
  takes = [];
}

-- A death is reported to each agent of event 32, and an owner that waits goes on.
--   lwp 1 / pod 1
--   proc main / agent g 32 / create s v 1 - / create a w 1 - / yield self / recv g wait
--   proc v / agent h 32 / recv h wait / say got
--   proc w
abbrev pub reported_to_two_agents : Row
reported_to_two_agents = record {
  script = speaking (codes "got" ∷ []) (pod 1
      (named (codes "main" ∷ codes "v" ∷ codes "w" ∷ []) (codes "g" ∷ codes "s" ∷ codes "a" ∷ codes "h" ∷ []) [] [])
      (procedure 0 (stmt.Agent 0 32 ∷ stmt.Create 1 1 1 plain ∷ stmt.Create 2 2 1 plain
      ∷ stmt.Yield who.Me ∷ stmt.Recv (Some (who.Named 0)) mode.Block ∷ [])
      ∷ procedure 1 (stmt.Agent 3 32 ∷ stmt.Recv (Some (who.Named 3)) mode.Block ∷ stmt.Say 0 ∷ [])
      ∷ procedure 2 []
      ∷ []));
  turns = 100000;
  trace = codes "t0: agent 32\nt0 = t1\nt0: create v 1 -\nt0 = t2\nt0: create w 1 -\nt0 = t3\nt0: yield self\nt0 = 0\nt2: agent 32\nt2 = t4\nt2: recv t4 wait\nt3: return\nt3 dies\nrites t3 to t1\nrites t3 to t4\nt2 = letter t4 240 t3\nt0: recv t1 wait\nt0 = letter t1 240 t3\nt0: return\nt0 dies\nt2: say got\nt2 = 0\nt2: return\nt2 dies\npod ends 0\n";
  halt = Ended 0;
  calls = 11;
  takes = [];
}

-- Thread 0 is reported like any other, after the reply to the report before.
--   lwp 1 / pod 1
--   proc main / create s v 1 - / create a w 1 - / yield self / say m
--   proc v / agent g 32 / recv g wait / reply g ok / recv g wait / reply g ok / recv g poll
--   proc w
abbrev pub the_first_thread_is_reported : Row
the_first_thread_is_reported = record {
  script = speaking (codes "m" ∷ codes "ok" ∷ codes "ok" ∷ [])
      (pod 1 (named (codes "main" ∷ codes "v" ∷ codes "w" ∷ []) (codes "s" ∷ codes "a" ∷ codes "g" ∷ []) [] [])
      (procedure 0 (stmt.Create 0 1 1 plain ∷ stmt.Create 1 2 1 plain ∷ stmt.Yield who.Me ∷ stmt.Say 0 ∷ [])
      ∷ procedure 1 (stmt.Agent 2 32 ∷ stmt.Recv (Some (who.Named 2)) mode.Block
      ∷ stmt.Reply (who.Named 2) 1 ∷ stmt.Recv (Some (who.Named 2)) mode.Block
      ∷ stmt.Reply (who.Named 2) 2 ∷ stmt.Recv (Some (who.Named 2)) mode.Poll ∷ [])
      ∷ procedure 2 []
      ∷ []));
  turns = 100000;
  trace = codes "t0: create v 1 -\nt0 = t1\nt0: create w 1 -\nt0 = t2\nt0: yield self\nt0 = 0\nt1: agent 32\nt1 = t3\nt1: recv t3 wait\nt2: return\nt2 dies\nrites t2 to t3\nt1 = letter t3 240 t2\nt0: say m\nt0 = 0\nt0: return\nt0 dies\nt1: reply t3 ok\nt1 = 0\nrites t0 to t3\nt1: recv t3 wait\nt1 = letter t3 240 t0\nt1: reply t3 ok\nt1 = 0\nt1: recv t3 poll\nt1 ! LE_TIMEOUT\nt1: return\nt1 dies\npod ends 0\n";
  halt = Ended 0;
  calls = 13;
  takes = [];
}

-- Who is destroyed is reported, unless it is marked; the report comes after the answer.
--   lwp 1 / pod 1
--   proc main / agent g 32 / create a w 1 n / create b w 1 - / destroy a / destroy b / recv g wait
--   proc w
abbrev pub destroyed_and_reported : Row
destroyed_and_reported = record {
  script = pod 1 (named (codes "main" ∷ codes "w" ∷ []) (codes "g" ∷ codes "a" ∷ codes "b" ∷ []) [] [])
      (procedure 0 (stmt.Agent 0 32 ∷ stmt.Create 1 1 1 marked ∷ stmt.Create 2 1 1 plain
      ∷ stmt.Destroy (who.Named 1) ∷ stmt.Destroy (who.Named 2) ∷ stmt.Recv (Some (who.Named 0)) mode.Block ∷ [])
      ∷ procedure 1 []
      ∷ []);
  turns = 100000;
  trace = codes "t0: agent 32\nt0 = t1\nt0: create w 1 n\nt0 = t2\nt0: create w 1 -\nt0 = t3\nt0: destroy t2\nt2 dies\nt0 = 0\nt0: destroy t3\nt3 dies\nt0 = 0\nrites t3 to t1\nt0: recv t1 wait\nt0 = letter t1 240 t3\nt0: return\nt0 dies\npod ends 0\n";
  halt = Ended 0;
  calls = 7;
  takes = [];
}

-- A death that ends the pod is reported to nobody.
--   lwp 1 / pod 1
--   proc main / create s v 1 v / yield self
--   proc v / agent g 32 / recv g wait
abbrev pub an_ended_pod_reports_nothing : Row
an_ended_pod_reports_nothing = record {
  script = pod 1 (named (codes "main" ∷ codes "v" ∷ []) (codes "s" ∷ codes "g" ∷ []) [] [])
      (procedure 0 (stmt.Create 0 1 1 serving ∷ stmt.Yield who.Me ∷ [])
      ∷ procedure 1 (stmt.Agent 1 32 ∷ stmt.Recv (Some (who.Named 1)) mode.Block ∷ [])
      ∷ []);
  turns = 100000;
  trace = codes "t0: create v 1 v\nt0 = t1\nt0: yield self\nt0 = 0\nt1: agent 32\nt1 = t2\nt1: recv t2 wait\nt0: return\nt0 dies\npod ends 0\n";
  halt = Ended 0;
  calls = 5;
  takes = [];
}

-- A thread is destroyed that another joins: the joiner goes on, and one death is reported.
--   lwp 1 / pod 1
--   proc main / agent g 32 / create a w 1 - / create b j 1 - / yield self / destroy a / recv g wait / reply g ok
--   proc w / recv any wait
--   proc j / join a / say up
abbrev pub destroyed_beside_its_joiner : Row
destroyed_beside_its_joiner = record {
  script = speaking (codes "ok" ∷ codes "up" ∷ [])
      (pod 1 (named (codes "main" ∷ codes "w" ∷ codes "j" ∷ []) (codes "g" ∷ codes "a" ∷ codes "b" ∷ []) [] [])
      (procedure 0 (stmt.Agent 0 32 ∷ stmt.Create 1 1 1 plain ∷ stmt.Create 2 2 1 plain
      ∷ stmt.Yield who.Me ∷ stmt.Destroy (who.Named 1)
      ∷ stmt.Recv (Some (who.Named 0)) mode.Block ∷ stmt.Reply (who.Named 0) 0 ∷ [])
      ∷ procedure 1 (stmt.Recv None mode.Block ∷ [])
      ∷ procedure 2 (stmt.Join (who.Named 1) ∷ stmt.Say 1 ∷ [])
      ∷ []));
  turns = 100000;
  trace = codes "t0: agent 32\nt0 = t1\nt0: create w 1 -\nt0 = t2\nt0: create j 1 -\nt0 = t3\nt0: yield self\nt0 = 0\nt2: recv any wait\nt3: join t2\nt0: destroy t2\nt3 = 0\nt2 dies\nt0 = 0\nrites t2 to t1\nt0: recv t1 wait\nt0 = letter t1 240 t2\nt0: reply t1 ok\nt0 = 0\nt0: return\nt0 dies\nt3: say up\nt3 = 0\nt3: return\nt3 dies\npod ends 0\n";
  halt = Ended 0;
  calls = 12;
  takes = [];
}

-- A thread that a trap kills is reported in the same turn.
--   lwp 1 / pod 1
--   client 0 5
--   proc main / agent g 32 / create a w 1 - / recv g wait
--   proc w / trap 5 / say never
--   post 0 x
abbrev pub a_death_by_a_trap : Row
a_death_by_a_trap = record {
  script = posted (5 ∷ []) (line 0 0 (codes "x") ∷ [])
      (speaking (codes "never" ∷ []) (pod 1 (named (codes "main" ∷ codes "w" ∷ []) (codes "g" ∷ codes "a" ∷ []) [] [])
      (procedure 0 (stmt.Agent 0 32 ∷ stmt.Create 1 1 1 plain ∷ stmt.Recv (Some (who.Named 0)) mode.Block ∷ [])
      ∷ procedure 1 (stmt.Trap 5 ∷ stmt.Say 0 ∷ [])
      ∷ [])));
  turns = 100000;
  trace = codes "t0: agent 32\nt0 = t1\nt0: create w 1 -\nt0 = t2\nt0: recv t1 wait\nt2: trap 5\nt2 = 0\nevent 5 client 0 seq 0 x\nt2 trap 5\nt2 dies\nrites t2 to t1\nt0 = letter t1 240 t2\nt0: return\nt0 dies\npod ends 0\n";
  halt = Ended 0;
  calls = 6;
  takes = took 4 5 (line 0 0 (codes "x")) ∷ [];
}
