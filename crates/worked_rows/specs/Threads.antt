-- Threads: how they are created, told apart, ordered, suspended and joined.
use Rattle.trace_text.specs.declared.ends.Halt.TheVariants.{Ended, Stuck}
use Rattle.std.specs.Prelude.{Some, [], codes, false, true, ◌∷◌}
use Rattle.worked_rows.specs.Words.{Row, asleep, limited, named, plain, pod, procedure, speaking}
use Rattle.script_text.specs.declared.script.Who.TheVariants as who
use Rattle.script_lines.specs.declared.table.Test.TheVariants as test
use Rattle.script_text.specs.declared.script.Stmt.TheVariants as stmt
use Rattle.lwp_types.specs.declared.call.Mode.TheVariants as mode

-- One thread creates another of its own priority and lets it run first.
--   lwp 1 / pod 1
--   proc main / create a worker 1 - / yield self
--   proc worker / say hi
abbrev pub first_run : Row
first_run = record {
  script = speaking (codes "hi" ∷ []) (pod 1 (named (codes "main" ∷ codes "worker" ∷ []) (codes "a" ∷ []) [] [])
      (procedure 0 (stmt.Create 0 1 1 plain ∷ stmt.Yield who.Me ∷ [])
      ∷ procedure 1 (stmt.Say 0 ∷ [])
      ∷ []));
  turns = 100000;
  trace = codes "t0: create worker 1 -\nt0 = t1\nt0: yield self\nt0 = 0\nt1: say hi\nt1 = 0\nt1: return\nt1 dies\nt0: return\nt0 dies\npod ends 0\n";
  halt = Ended 0;
  calls = 5;
  takes = [];
}

-- The other has nothing to say: a procedure without statements returns.
--   lwp 1 / pod 1
--   proc main / create a worker 1 - / yield self
--   proc worker
abbrev pub mission_script : Row
mission_script = record {
  script = pod 1 (named (codes "main" ∷ codes "worker" ∷ []) (codes "a" ∷ []) [] [])
      (procedure 0 (stmt.Create 0 1 1 plain ∷ stmt.Yield who.Me ∷ [])
      ∷ procedure 1 []
      ∷ []);
  turns = 100000;
  trace = codes "t0: create worker 1 -\nt0 = t1\nt0: yield self\nt0 = 0\nt1: return\nt1 dies\nt0: return\nt0 dies\npod ends 0\n";
  halt = Ended 0;
  calls = 4;
  takes = [];
}

-- A procedure without statements makes one call, its return.
--   lwp 1 / pod 3
--   proc main
abbrev pub empty_procedure : Row
empty_procedure = record {
  script = pod 3 (named (codes "main" ∷ []) [] [] [])
      (procedure 0 []
      ∷ []);
  turns = 100000;
  trace = codes "t0: return\nt0 dies\npod ends 0\n";
  halt = Ended 0;
  calls = 1;
  takes = [];
}

-- Priority 0 and one above the greatest are refused.
--   lwp 1 / pod 2
--   proc main / create a w 0 - / create b w 2 - / create c w 3 -
--   proc w
abbrev pub priorities_at_both_ends : Row
priorities_at_both_ends = record {
  script = pod 2 (named (codes "main" ∷ codes "w" ∷ []) (codes "a" ∷ codes "b" ∷ codes "c" ∷ []) [] [])
      (procedure 0 (stmt.Create 0 1 0 plain ∷ stmt.Create 1 1 2 plain ∷ stmt.Create 2 1 3 plain ∷ [])
      ∷ procedure 1 []
      ∷ []);
  turns = 100000;
  trace = codes "t0: create w 0 -\nt0 ! LE_ILLPRIO\nt0: create w 2 -\nt0 = t1\nt0: create w 3 -\nt0 ! LE_ILLPRIO\nt0: return\nt0 dies\nt1: return\nt1 dies\npod ends 0\n";
  halt = Ended 0;
  calls = 5;
  takes = [];
}

-- A thread that was preempted goes on before the others of its priority.
--   lwp 1 / pod 2
--   proc main / create a w 1 - / create b x 1 - / setpri self 1 / say back
--   proc w / setpri first 2 / say mid
--   proc x / say last
abbrev pub preemption_keeps_place : Row
preemption_keeps_place = record {
  script = speaking (codes "back" ∷ codes "mid" ∷ codes "last" ∷ [])
      (pod 2 (named (codes "main" ∷ codes "w" ∷ codes "x" ∷ []) (codes "a" ∷ codes "b" ∷ []) [] [])
      (procedure 0 (stmt.Create 0 1 1 plain ∷ stmt.Create 1 2 1 plain ∷ stmt.SetPri who.Me 1 ∷ stmt.Say 0 ∷ [])
      ∷ procedure 1 (stmt.SetPri who.First 2 ∷ stmt.Say 1 ∷ [])
      ∷ procedure 2 (stmt.Say 2 ∷ [])
      ∷ []));
  turns = 100000;
  trace = codes "t0: create w 1 -\nt0 = t1\nt0: create x 1 -\nt0 = t2\nt0: setpri self 1\nt0 = 2\nt1: setpri t0 2\nt1 = 1\nt0: say back\nt0 = 0\nt0: return\nt0 dies\nt1: say mid\nt1 = 0\nt1: return\nt1 dies\nt2: say last\nt2 = 0\nt2: return\nt2 dies\npod ends 0\n";
  halt = Ended 0;
  calls = 10;
  takes = [];
}

-- A yield to another lets that one run, and then the caller before the rest.
--   lwp 1 / pod 1
--   proc main / create a w 1 - / create b w 1 - / yield b / say two
--   proc w / say run
abbrev pub yield_to_one : Row
yield_to_one = record {
  script = speaking (codes "two" ∷ codes "run" ∷ [])
      (pod 1 (named (codes "main" ∷ codes "w" ∷ []) (codes "a" ∷ codes "b" ∷ []) [] [])
      (procedure 0 (stmt.Create 0 1 1 plain ∷ stmt.Create 1 1 1 plain ∷ stmt.Yield (who.Named 1) ∷ stmt.Say 0 ∷ [])
      ∷ procedure 1 (stmt.Say 1 ∷ [])
      ∷ []));
  turns = 100000;
  trace = codes "t0: create w 1 -\nt0 = t1\nt0: create w 1 -\nt0 = t2\nt0: yield t2\nt0 = 0\nt2: say run\nt2 = 0\nt2: return\nt2 dies\nt0: say two\nt0 = 0\nt0: return\nt0 dies\nt1: say run\nt1 = 0\nt1: return\nt1 dies\npod ends 0\n";
  halt = Ended 0;
  calls = 9;
  takes = [];
}

-- Both joiners are answered at the death; the suspended one runs when it is resumed.
--   lwp 1 / pod 1
--   proc main / create a w 1 - / create b j 1 - / create c j 1 - / yield self / suspend c / yield self / resume c
--   proc w / yield self
--   proc j / join a / say up
abbrev pub two_joiners : Row
two_joiners = record {
  script = speaking (codes "up" ∷ [])
      (pod 1 (named (codes "main" ∷ codes "w" ∷ codes "j" ∷ []) (codes "a" ∷ codes "b" ∷ codes "c" ∷ []) [] [])
      (procedure 0 (stmt.Create 0 1 1 plain ∷ stmt.Create 1 2 1 plain ∷ stmt.Create 2 2 1 plain ∷ stmt.Yield who.Me
      ∷ stmt.Suspend (who.Named 2) ∷ stmt.Yield who.Me ∷ stmt.Resume (who.Named 2) ∷ [])
      ∷ procedure 1 (stmt.Yield who.Me ∷ [])
      ∷ procedure 2 (stmt.Join (who.Named 0) ∷ stmt.Say 0 ∷ [])
      ∷ []));
  turns = 100000;
  trace = codes "t0: create w 1 -\nt0 = t1\nt0: create j 1 -\nt0 = t2\nt0: create j 1 -\nt0 = t3\nt0: yield self\nt0 = 0\nt1: yield self\nt1 = 0\nt2: join t1\nt3: join t1\nt0: suspend t3\nt0 = 0\nt0: yield self\nt0 = 0\nt1: return\nt2 = 0\nt3 = 0\nt1 dies\nt0: resume t3\nt0 = 0\nt0: return\nt0 dies\nt2: say up\nt2 = 0\nt2: return\nt2 dies\nt3: say up\nt3 = 0\nt3: return\nt3 dies\npod ends 0\n";
  halt = Ended 0;
  calls = 16;
  takes = [];
}

-- The number of a dead thread is refused, and the next thread has another.
--   lwp 1 / pod 1
--   proc main / create a w 1 - / destroy a / create b w 1 - / destroy a
--   proc w
abbrev pub stale_id : Row
stale_id = record {
  script = pod 1 (named (codes "main" ∷ codes "w" ∷ []) (codes "a" ∷ codes "b" ∷ []) [] [])
      (procedure 0 (stmt.Create 0 1 1 plain ∷ stmt.Destroy (who.Named 0) ∷ stmt.Create 1 1 1 plain
      ∷ stmt.Destroy (who.Named 0)
      ∷ [])
      ∷ procedure 1 []
      ∷ []);
  turns = 100000;
  trace = codes "t0: create w 1 -\nt0 = t1\nt0: destroy t1\nt1 dies\nt0 = 0\nt0: create w 1 -\nt0 = t2\nt0: destroy t1\nt0 ! LE_NONEXIST\nt0: return\nt0 dies\nt2: return\nt2 dies\npod ends 0\n";
  halt = Ended 0;
  calls = 6;
  takes = [];
}

-- Priorities 1 and 255 are granted, 0 and 256 refused.
--   lwp 1 / pod 255
--   proc main / create a w 255 - / create b w 256 - / create c w 1 - / create d w 0 -
--   proc w
abbrev pub greatest_priority_of_all : Row
greatest_priority_of_all = record {
  script = pod 255 (named (codes "main" ∷ codes "w" ∷ []) (codes "a" ∷ codes "b" ∷ codes "c" ∷ codes "d" ∷ []) [] [])
      (procedure 0 (stmt.Create 0 1 255 plain ∷ stmt.Create 1 1 256 plain ∷ stmt.Create 2 1 1 plain
      ∷ stmt.Create 3 1 0 plain ∷ [])
      ∷ procedure 1 []
      ∷ []);
  turns = 100000;
  trace = codes "t0: create w 255 -\nt0 = t1\nt0: create w 256 -\nt0 ! LE_ILLPRIO\nt0: create w 1 -\nt0 = t2\nt0: create w 0 -\nt0 ! LE_ILLPRIO\nt0: return\nt0 dies\nt1: return\nt1 dies\nt2: return\nt2 dies\npod ends 0\n";
  halt = Ended 0;
  calls = 7;
  takes = [];
}

-- No such procedure comes before no such priority, and that before no births left. The first create names a procedure
-- that isn't there.
--   lwp 1 / pod 1 / limit births 1
--   proc main / create a nowhere 0 - / create b w 2 - / create c w 1 -
--   proc w
abbrev pub create_is_refused_in_order : Row
create_is_refused_in_order = record {
  script = limited 1 (pod 1 (named (codes "main" ∷ codes "nowhere" ∷ codes "w" ∷ [])
      (codes "a" ∷ codes "b" ∷ codes "c" ∷ []) [] [])
      (procedure 0 (stmt.Create 0 1 0 plain ∷ stmt.Create 1 2 2 plain ∷ stmt.Create 2 2 1 plain ∷ [])
      ∷ procedure 2 []
      ∷ []));
  turns = 100000;
  trace =
      codes "t0: create none 0 -\nt0 ! LE_INVALIDARG\nt0: create w 2 -\nt0 ! LE_ILLPRIO\nt0: create w 1 -\nt0 ! LE_NOROOM\nt0: return\nt0 dies\npod ends 0\n";
  halt = Ended 0;
  calls = 4;
  takes = [];
}

-- With two births allowed one thread can be created.
--   lwp 1 / pod 1 / limit births 2
--   proc main / create a w 1 - / create b w 1 -
--   proc w
abbrev pub last_birth : Row
last_birth = record {
  script = limited 2 (pod 1 (named (codes "main" ∷ codes "w" ∷ []) (codes "a" ∷ codes "b" ∷ []) [] [])
      (procedure 0 (stmt.Create 0 1 1 plain ∷ stmt.Create 1 1 1 plain ∷ [])
      ∷ procedure 1 []
      ∷ []));
  turns = 100000;
  trace = codes "t0: create w 1 -\nt0 = t1\nt0: create w 1 -\nt0 ! LE_NOROOM\nt0: return\nt0 dies\nt1: return\nt1 dies\npod ends 0\n";
  halt = Ended 0;
  calls = 4;
  takes = [];
}

-- Threads and agents share the births, and a birth isn't given back.
--   lwp 1 / pod 1 / limit births 2
--   proc main / agent g 1 / create a w 1 - / destroy g / create b w 1 - / agent h 1
--   proc w
abbrev pub an_agent_is_a_birth : Row
an_agent_is_a_birth = record {
  script = limited 2 (pod 1 (named (codes "main" ∷ codes "w" ∷ [])
      (codes "g" ∷ codes "a" ∷ codes "b" ∷ codes "h" ∷ []) [] [])
      (procedure 0 (stmt.Agent 0 1 ∷ stmt.Create 1 1 1 plain ∷ stmt.Destroy (who.Named 0) ∷ stmt.Create 2 1 1 plain
      ∷ stmt.Agent 3 1 ∷ [])
      ∷ procedure 1 []
      ∷ []));
  turns = 100000;
  trace = codes "t0: agent 1\nt0 = t1\nt0: create w 1 -\nt0 ! LE_NOROOM\nt0: destroy t1\nt0 = 0\nt0: create w 1 -\nt0 ! LE_NOROOM\nt0: agent 1\nt0 ! LE_NOROOM\nt0: return\nt0 dies\npod ends 0\n";
  halt = Ended 0;
  calls = 6;
  takes = [];
}

-- A thread that is created suspended runs when it is resumed, and then last.
--   lwp 1 / pod 1
--   proc main / create a w 1 s / yield self / say one / resume a / yield self / say two
--   proc w / say hi
abbrev pub created_suspended : Row
created_suspended = record {
  script = speaking (codes "one" ∷ codes "two" ∷ codes "hi" ∷ [])
      (pod 1 (named (codes "main" ∷ codes "w" ∷ []) (codes "a" ∷ []) [] [])
      (procedure 0 (stmt.Create 0 1 1 asleep ∷ stmt.Yield who.Me ∷ stmt.Say 0 ∷ stmt.Resume (who.Named 0)
      ∷ stmt.Yield who.Me ∷ stmt.Say 1 ∷ [])
      ∷ procedure 1 (stmt.Say 2 ∷ [])
      ∷ []));
  turns = 100000;
  trace = codes "t0: create w 1 s\nt0 = t1\nt0: yield self\nt0 = 0\nt0: say one\nt0 = 0\nt0: resume t1\nt0 = 0\nt0: yield self\nt0 = 0\nt1: say hi\nt1 = 0\nt1: return\nt1 dies\nt0: say two\nt0 = 0\nt0: return\nt0 dies\npod ends 0\n";
  halt = Ended 0;
  calls = 9;
  takes = [];
}

-- Flags print as they are written; who is created suspended stays out of the order.
--   lwp 1 / pod 1
--   proc main / create a w 1 sn / create b w 1 snv / create c w 1 nv / create d w 1 n / create e w 1 sv
--   proc w
abbrev pub flags_in_all_forms : Row
flags_in_all_forms = record {
  script = pod 1 (named (codes "main" ∷ codes "w" ∷ [])
      (codes "a" ∷ codes "b" ∷ codes "c" ∷ codes "d" ∷ codes "e" ∷ []) [] [])
      (procedure 0 (stmt.Create 0 1 1 (record { suspended = true; nolastrites = true; server = false })
      ∷ stmt.Create 1 1 1 (record { suspended = true; nolastrites = true; server = true })
      ∷ stmt.Create 2 1 1 (record { suspended = false; nolastrites = true; server = true })
      ∷ stmt.Create 3 1 1 (record { suspended = false; nolastrites = true; server = false })
      ∷ stmt.Create 4 1 1 (record { suspended = true; nolastrites = false; server = true }) ∷ [])
      ∷ procedure 1 []
      ∷ []);
  turns = 100000;
  trace = codes "t0: create w 1 sn\nt0 = t1\nt0: create w 1 snv\nt0 = t2\nt0: create w 1 nv\nt0 = t3\nt0: create w 1 n\nt0 = t4\nt0: create w 1 sv\nt0 = t5\nt0: return\nt0 dies\nt3: return\nt3 dies\nt4: return\nt4 dies\nstuck\n";
  halt = Stuck;
  calls = 8;
  takes = [];
}

-- A ping finds threads and agents until they end; a name that means nobody is refused.
--   lwp 1 / pod 1
--   proc main / create a w 1 - / agent g 3 / ping a / ping g / ping self / ping first / ping none / ping b /
--     destroy g / ping g / destroy a / ping a
--   proc w
abbrev pub ping_finds_threads_and_agents : Row
ping_finds_threads_and_agents = record {
  script = pod 1 (named (codes "main" ∷ codes "w" ∷ []) (codes "a" ∷ codes "g" ∷ codes "b" ∷ []) [] [])
      (procedure 0 (stmt.Create 0 1 1 plain ∷ stmt.Agent 1 3 ∷ stmt.Ping (who.Named 0) ∷ stmt.Ping (who.Named 1)
      ∷ stmt.Ping who.Me ∷ stmt.Ping who.First ∷ stmt.Ping who.Nobody ∷ stmt.Ping (who.Named 2)
      ∷ stmt.Destroy (who.Named 1) ∷ stmt.Ping (who.Named 1) ∷ stmt.Destroy (who.Named 0) ∷ stmt.Ping (who.Named 0)
      ∷ [])
      ∷ procedure 1 []
      ∷ []);
  turns = 100000;
  trace = codes "t0: create w 1 -\nt0 = t1\nt0: agent 3\nt0 = t2\nt0: ping t1\nt0 = 0\nt0: ping t2\nt0 = 0\nt0: ping self\nt0 = 0\nt0: ping self\nt0 = 0\nt0: ping none\nt0 ! LE_NONEXIST\nt0: ping none\nt0 ! LE_NONEXIST\nt0: destroy t2\nt0 = 0\nt0: ping t2\nt0 ! LE_NONEXIST\nt0: destroy t1\nt1 dies\nt0 = 0\nt0: ping t1\nt0 ! LE_NONEXIST\nt0: return\nt0 dies\npod ends 0\n";
  halt = Ended 0;
  calls = 13;
  takes = [];
}

-- Who destroys itself is answered nothing; nobody can't be destroyed.
--   lwp 1 / pod 1
--   proc main / destroy none / create a w 1 - / yield self / say left
--   proc w / destroy self / say never
abbrev pub destroying_itself : Row
destroying_itself = record {
  script = speaking (codes "left" ∷ codes "never" ∷ [])
      (pod 1 (named (codes "main" ∷ codes "w" ∷ []) (codes "a" ∷ []) [] [])
      (procedure 0 (stmt.Destroy who.Nobody ∷ stmt.Create 0 1 1 plain ∷ stmt.Yield who.Me ∷ stmt.Say 0 ∷ [])
      ∷ procedure 1 (stmt.Destroy who.Me ∷ stmt.Say 1 ∷ [])
      ∷ []));
  turns = 100000;
  trace = codes "t0: destroy none\nt0 ! LE_NONEXIST\nt0: create w 1 -\nt0 = t1\nt0: yield self\nt0 = 0\nt1: destroy self\nt1 dies\nt0: say left\nt0 = 0\nt0: return\nt0 dies\npod ends 0\n";
  halt = Ended 0;
  calls = 6;
  takes = [];
}

-- A thread is told its own number; the first thread is one like the others.
--   lwp 1 / pod 1
--   proc main / self / create a w 1 - / yield self / say never
--   proc w / self / destroy first / say on
abbrev pub the_first_thread_may_die_first : Row
the_first_thread_may_die_first = record {
  script = speaking (codes "never" ∷ codes "on" ∷ [])
      (pod 1 (named (codes "main" ∷ codes "w" ∷ []) (codes "a" ∷ []) [] [])
      (procedure 0 (stmt.Me ∷ stmt.Create 0 1 1 plain ∷ stmt.Yield who.Me ∷ stmt.Say 0 ∷ [])
      ∷ procedure 1 (stmt.Me ∷ stmt.Destroy who.First ∷ stmt.Say 1 ∷ [])
      ∷ []));
  turns = 100000;
  trace = codes "t0: self\nt0 = t0\nt0: create w 1 -\nt0 = t1\nt0: yield self\nt0 = 0\nt1: self\nt1 = t1\nt1: destroy t0\nt0 dies\nt1 = 0\nt1: say on\nt1 = 0\nt1: return\nt1 dies\npod ends 0\n";
  halt = Ended 0;
  calls = 7;
  takes = [];
}

-- The list has the live threads, suspended or not, and no agent.
--   lwp 1 / pod 1
--   proc main / create a w 1 - / agent g 7 / create b w 1 s / threads / destroy a / create c w 1 - / threads
--   proc w
abbrev pub threads_in_birth_order : Row
threads_in_birth_order = record {
  script = pod 1 (named (codes "main" ∷ codes "w" ∷ []) (codes "a" ∷ codes "g" ∷ codes "b" ∷ codes "c" ∷ []) [] [])
      (procedure 0 (stmt.Create 0 1 1 plain ∷ stmt.Agent 1 7 ∷ stmt.Create 2 1 1 asleep ∷ stmt.Threads
      ∷ stmt.Destroy (who.Named 0) ∷ stmt.Create 3 1 1 plain ∷ stmt.Threads ∷ [])
      ∷ procedure 1 []
      ∷ []);
  turns = 100000;
  trace = codes "t0: create w 1 -\nt0 = t1\nt0: agent 7\nt0 = t2\nt0: create w 1 s\nt0 = t3\nt0: threads\nt0 = ids t0 t1 t3\nt0: destroy t1\nt1 dies\nt0 = 0\nt0: create w 1 -\nt0 = t4\nt0: threads\nt0 = ids t0 t3 t4\nt0: return\nt0 dies\nt4: return\nt4 dies\nstuck\n";
  halt = Stuck;
  calls = 9;
  takes = [];
}

-- Each call that takes a thread refuses a dead one.
--   lwp 1 / pod 1
--   proc main / create a w 1 - / destroy a / destroy a / ping a / yield a / setpri a 1 / suspend a / resume a /
--     join a / send a 1 x / recv a wait / reply a x
--   proc w
abbrev pub calls_that_name_the_dead : Row
calls_that_name_the_dead = record {
  script = speaking (codes "x" ∷ codes "x" ∷ []) (pod 1 (named (codes "main" ∷ codes "w" ∷ []) (codes "a" ∷ []) [] [])
      (procedure 0 (stmt.Create 0 1 1 plain ∷ stmt.Destroy (who.Named 0)
      ∷ stmt.Destroy (who.Named 0) ∷ stmt.Ping (who.Named 0)
      ∷ stmt.Yield (who.Named 0) ∷ stmt.SetPri (who.Named 0) 1 ∷ stmt.Suspend (who.Named 0)
      ∷ stmt.Resume (who.Named 0) ∷ stmt.Join (who.Named 0) ∷ stmt.Send (who.Named 0) 1 0
      ∷ stmt.Recv (Some (who.Named 0)) mode.Block ∷ stmt.Reply (who.Named 0) 1 ∷ [])
      ∷ procedure 1 []
      ∷ []));
  turns = 100000;
  trace = codes "t0: create w 1 -\nt0 = t1\nt0: destroy t1\nt1 dies\nt0 = 0\nt0: destroy t1\nt0 ! LE_NONEXIST\nt0: ping t1\nt0 ! LE_NONEXIST\nt0: yield t1\nt0 ! LE_NONEXIST\nt0: setpri t1 1\nt0 ! LE_NONEXIST\nt0: suspend t1\nt0 ! LE_NONEXIST\nt0: resume t1\nt0 ! LE_NONEXIST\nt0: join t1\nt0 ! LE_NONEXIST\nt0: send t1 1 x\nt0 ! LE_NONEXIST\nt0: recv t1 wait\nt0 ! LE_NONEXIST\nt0: reply t1 x\nt0 ! LE_NONEXIST\nt0: return\nt0 dies\npod ends 0\n";
  halt = Ended 0;
  calls = 13;
  takes = [];
}

-- An agent isn't a thread: it can't be yielded to, given a priority, suspended, resumed, joined or sent to.
--   lwp 1 / pod 1
--   proc main / agent g 1 / yield g / setpri g 1 / suspend g / resume g / join g / send g 1 x / ping g
abbrev pub calls_that_take_no_agent : Row
calls_that_take_no_agent = record {
  script = speaking (codes "x" ∷ []) (pod 1 (named (codes "main" ∷ []) (codes "g" ∷ []) [] [])
      (procedure 0 (stmt.Agent 0 1 ∷ stmt.Yield (who.Named 0) ∷ stmt.SetPri (who.Named 0) 1 ∷ stmt.Suspend (who.Named 0)
      ∷ stmt.Resume (who.Named 0) ∷ stmt.Join (who.Named 0) ∷ stmt.Send (who.Named 0) 1 0
      ∷ stmt.Ping (who.Named 0) ∷ [])
      ∷ []));
  turns = 100000;
  trace = codes "t0: agent 1\nt0 = t1\nt0: yield t1\nt0 ! LE_NONEXIST\nt0: setpri t1 1\nt0 ! LE_NONEXIST\nt0: suspend t1\nt0 ! LE_NONEXIST\nt0: resume t1\nt0 ! LE_NONEXIST\nt0: join t1\nt0 ! LE_NONEXIST\nt0: send t1 1 x\nt0 ! LE_NONEXIST\nt0: ping t1\nt0 = 0\nt0: return\nt0 dies\npod ends 0\n";
  halt = Ended 0;
  calls = 9;
  takes = [];
}

-- Nobody, another priority (also where suspended), then a suspended and a blocked thread.
--   lwp 1 / pod 2
--   proc main / create a w 1 - / create b w 2 s / create c j 2 - / create d w 1 s / yield self / yield none /
--     yield a / yield d / yield b / yield c
--   proc w
--   proc j / join first
abbrev pub yield_is_refused_in_order : Row
yield_is_refused_in_order = record {
  script = pod 2 (named (codes "main" ∷ codes "w" ∷ codes "j" ∷ [])
      (codes "a" ∷ codes "b" ∷ codes "c" ∷ codes "d" ∷ []) [] [])
      (procedure 0 (stmt.Create 0 1 1 plain ∷ stmt.Create 1 1 2 asleep ∷ stmt.Create 2 2 2 plain
      ∷ stmt.Create 3 1 1 asleep
      ∷ stmt.Yield who.Me ∷ stmt.Yield who.Nobody ∷ stmt.Yield (who.Named 0) ∷ stmt.Yield (who.Named 3)
      ∷ stmt.Yield (who.Named 1) ∷ stmt.Yield (who.Named 2) ∷ [])
      ∷ procedure 1 []
      ∷ procedure 2 (stmt.Join who.First ∷ [])
      ∷ []);
  turns = 100000;
  trace = codes "t0: create w 1 -\nt0 = t1\nt0: create w 2 s\nt0 = t2\nt0: create j 2 -\nt0 = t3\nt0: create w 1 s\nt0 = t4\nt0: yield self\nt0 = 0\nt3: join t0\nt0: yield none\nt0 ! LE_NONEXIST\nt0: yield t1\nt0 ! LE_ILLPRIO\nt0: yield t4\nt0 ! LE_ILLPRIO\nt0: yield t2\nt0 ! LE_INVALIDARG\nt0: yield t3\nt0 ! LE_INVALIDARG\nt0: return\nt3 = 0\nt0 dies\nt3: return\nt3 dies\nt1: return\nt1 dies\nstuck\n";
  halt = Stuck;
  calls = 14;
  takes = [];
}

-- The first of the priority goes last; the caller itself where it is the first.
--   lwp 1 / pod 2
--   proc main / create a w 1 - / create b w 1 - / resched 1 / resched 2
--   proc w / self
abbrev pub resched_moves_the_first : Row
resched_moves_the_first = record {
  script = pod 2 (named (codes "main" ∷ codes "w" ∷ []) (codes "a" ∷ codes "b" ∷ []) [] [])
      (procedure 0 (stmt.Create 0 1 1 plain ∷ stmt.Create 1 1 1 plain ∷ stmt.Resched 1 ∷ stmt.Resched 2 ∷ [])
      ∷ procedure 1 (stmt.Me ∷ [])
      ∷ []);
  turns = 100000;
  trace = codes "t0: create w 1 -\nt0 = t1\nt0: create w 1 -\nt0 = t2\nt0: resched 1\nt0 = 0\nt0: resched 2\nt0 = 0\nt0: return\nt0 dies\nt2: self\nt2 = t2\nt2: return\nt2 dies\nt1: self\nt1 = t1\nt1: return\nt1 dies\npod ends 0\n";
  halt = Ended 0;
  calls = 9;
  takes = [];
}

-- To reschedule one's own priority lets the next of it run.
--   lwp 1 / pod 1
--   proc main / create a w 1 - / resched 1 / say late
--   proc w / say early
abbrev pub resched_lets_an_equal_run : Row
resched_lets_an_equal_run = record {
  script = speaking (codes "late" ∷ codes "early" ∷ [])
      (pod 1 (named (codes "main" ∷ codes "w" ∷ []) (codes "a" ∷ []) [] [])
      (procedure 0 (stmt.Create 0 1 1 plain ∷ stmt.Resched 1 ∷ stmt.Say 0 ∷ [])
      ∷ procedure 1 (stmt.Say 1 ∷ [])
      ∷ []));
  turns = 100000;
  trace = codes "t0: create w 1 -\nt0 = t1\nt0: resched 1\nt0 = 0\nt1: say early\nt1 = 0\nt1: return\nt1 dies\nt0: say late\nt0 = 0\nt0: return\nt0 dies\npod ends 0\n";
  halt = Ended 0;
  calls = 6;
  takes = [];
}

-- No such priority, and then one above the caller's own; where nobody has the priority nothing moves.
--   lwp 1 / pod 3
--   proc main / setpri self 2 / resched 0 / resched 4 / resched 3 / resched 1 / resched 2
abbrev pub resched_is_refused_in_order : Row
resched_is_refused_in_order = record {
  script = pod 3 (named (codes "main" ∷ []) [] [] [])
      (procedure 0 (stmt.SetPri who.Me 2 ∷ stmt.Resched 0 ∷ stmt.Resched 4 ∷ stmt.Resched 3
      ∷ stmt.Resched 1 ∷ stmt.Resched 2 ∷ [])
      ∷ []);
  turns = 100000;
  trace = codes "t0: setpri self 2\nt0 = 3\nt0: resched 0\nt0 ! LE_ILLPRIO\nt0: resched 4\nt0 ! LE_ILLPRIO\nt0: resched 3\nt0 ! LE_INVALIDARG\nt0: resched 1\nt0 = 0\nt0: resched 2\nt0 = 0\nt0: return\nt0 dies\npod ends 0\n";
  halt = Ended 0;
  calls = 7;
  takes = [];
}

-- Nobody comes before a priority that there isn't.
--   lwp 1 / pod 3
--   proc main / setpri none 0 / setpri self 0 / setpri self 4 / setpri self 3 / setpri self 1
abbrev pub setpri_is_refused_in_order : Row
setpri_is_refused_in_order = record {
  script = pod 3 (named (codes "main" ∷ []) [] [] [])
      (procedure 0 (stmt.SetPri who.Nobody 0 ∷ stmt.SetPri who.Me 0 ∷ stmt.SetPri who.Me 4 ∷ stmt.SetPri who.Me 3
      ∷ stmt.SetPri who.Me 1 ∷ [])
      ∷ []);
  turns = 100000;
  trace = codes "t0: setpri none 0\nt0 ! LE_NONEXIST\nt0: setpri self 0\nt0 ! LE_ILLPRIO\nt0: setpri self 4\nt0 ! LE_ILLPRIO\nt0: setpri self 3\nt0 = 3\nt0: setpri self 1\nt0 = 3\nt0: return\nt0 dies\npod ends 0\n";
  halt = Ended 0;
  calls = 6;
  takes = [];
}

-- To set the priority that a thread has leaves it in its place.
--   lwp 1 / pod 1
--   proc main / create a w 1 - / setpri self 1 / say still
--   proc w
abbrev pub setpri_to_the_same : Row
setpri_to_the_same = record {
  script = speaking (codes "still" ∷ []) (pod 1 (named (codes "main" ∷ codes "w" ∷ []) (codes "a" ∷ []) [] [])
      (procedure 0 (stmt.Create 0 1 1 plain ∷ stmt.SetPri who.Me 1 ∷ stmt.Say 0 ∷ [])
      ∷ procedure 1 []
      ∷ []));
  turns = 100000;
  trace = codes "t0: create w 1 -\nt0 = t1\nt0: setpri self 1\nt0 = 1\nt0: say still\nt0 = 0\nt0: return\nt0 dies\nt1: return\nt1 dies\npod ends 0\n";
  halt = Ended 0;
  calls = 5;
  takes = [];
}

-- A thread whose priority changes is the last of its new priority.
--   lwp 1 / pod 2
--   proc main / create a w 1 - / create b w 2 - / setpri a 2 / yield self
--   proc w / self
abbrev pub setpri_goes_last : Row
setpri_goes_last = record {
  script = pod 2 (named (codes "main" ∷ codes "w" ∷ []) (codes "a" ∷ codes "b" ∷ []) [] [])
      (procedure 0 (stmt.Create 0 1 1 plain ∷ stmt.Create 1 1 2 plain ∷ stmt.SetPri (who.Named 0) 2
      ∷ stmt.Yield who.Me ∷ [])
      ∷ procedure 1 (stmt.Me ∷ [])
      ∷ []);
  turns = 100000;
  trace = codes "t0: create w 1 -\nt0 = t1\nt0: create w 2 -\nt0 = t2\nt0: setpri t1 2\nt0 = 1\nt0: yield self\nt0 = 0\nt2: self\nt2 = t2\nt2: return\nt2 dies\nt1: self\nt1 = t1\nt1: return\nt1 dies\nt0: return\nt0 dies\npod ends 0\n";
  halt = Ended 0;
  calls = 9;
  takes = [];
}

-- A suspended thread's priority changes, and it stays out of the order.
--   lwp 1 / pod 2
--   proc main / create a w 1 s / setpri a 2 / yield self / resume a / say on / yield self
--   proc w / say up
abbrev pub setpri_of_a_suspended_thread : Row
setpri_of_a_suspended_thread = record {
  script = speaking (codes "on" ∷ codes "up" ∷ []) (pod 2 (named (codes "main" ∷ codes "w" ∷ []) (codes "a" ∷ []) [] [])
      (procedure 0 (stmt.Create 0 1 1 asleep ∷ stmt.SetPri (who.Named 0) 2 ∷ stmt.Yield who.Me
      ∷ stmt.Resume (who.Named 0)
      ∷ stmt.Say 0 ∷ stmt.Yield who.Me ∷ [])
      ∷ procedure 1 (stmt.Say 1 ∷ [])
      ∷ []));
  turns = 100000;
  trace = codes "t0: create w 1 s\nt0 = t1\nt0: setpri t1 2\nt0 = 1\nt0: yield self\nt0 = 0\nt0: resume t1\nt0 = 0\nt0: say on\nt0 = 0\nt0: yield self\nt0 = 0\nt1: say up\nt1 = 0\nt1: return\nt1 dies\nt0: return\nt0 dies\npod ends 0\n";
  halt = Ended 0;
  calls = 9;
  takes = [];
}

-- It may stay or grow, up to 255, and no thread's priority changes with it.
--   lwp 1 / pod 3
--   proc main / setmaxpri 2 / setmaxpri 3 / create a w 4 - / setmaxpri 255 / setmaxpri 256 / setmaxpri 254 /
--     create b w 255 - / setpri self 4
--   proc w / say high
abbrev pub the_greatest_priority_only_grows : Row
the_greatest_priority_only_grows = record {
  script = speaking (codes "high" ∷ [])
      (pod 3 (named (codes "main" ∷ codes "w" ∷ []) (codes "a" ∷ codes "b" ∷ []) [] [])
      (procedure 0 (stmt.SetMaxPri 2 ∷ stmt.SetMaxPri 3 ∷ stmt.Create 0 1 4 plain
      ∷ stmt.SetMaxPri 255 ∷ stmt.SetMaxPri 256
      ∷ stmt.SetMaxPri 254 ∷ stmt.Create 1 1 255 plain ∷ stmt.SetPri who.Me 4 ∷ [])
      ∷ procedure 1 (stmt.Say 0 ∷ [])
      ∷ []));
  turns = 100000;
  trace = codes "t0: setmaxpri 2\nt0 ! LE_ILLPRIO\nt0: setmaxpri 3\nt0 = 0\nt0: create w 4 -\nt0 ! LE_ILLPRIO\nt0: setmaxpri 255\nt0 = 0\nt0: setmaxpri 256\nt0 ! LE_ILLPRIO\nt0: setmaxpri 254\nt0 ! LE_ILLPRIO\nt0: create w 255 -\nt0 = t1\nt1: say high\nt1 = 0\nt1: return\nt1 dies\nt0: setpri self 4\nt0 = 3\nt0: return\nt0 dies\npod ends 0\n";
  halt = Ended 0;
  calls = 11;
  takes = [];
}

-- Nobody can't be suspended, resumed or joined, and nobody joins itself.
--   lwp 1 / pod 1
--   proc main / suspend none / resume none / join none / join self
abbrev pub suspend_resume_and_join_of_nobody : Row
suspend_resume_and_join_of_nobody = record {
  script = pod 1 (named (codes "main" ∷ []) [] [] [])
      (procedure 0 (stmt.Suspend who.Nobody ∷ stmt.Resume who.Nobody ∷ stmt.Join who.Nobody ∷ stmt.Join who.Me ∷ [])
      ∷ []);
  turns = 100000;
  trace = codes "t0: suspend none\nt0 ! LE_NONEXIST\nt0: resume none\nt0 ! LE_NONEXIST\nt0: join none\nt0 ! LE_NONEXIST\nt0: join self\nt0 ! LE_INVALIDARG\nt0: return\nt0 dies\npod ends 0\n";
  halt = Ended 0;
  calls = 5;
  takes = [];
}

-- A thread that suspends itself is answered 0, which it learns when it is resumed.
--   lwp 1 / pod 1
--   proc main / create a w 1 - / suspend self / skip is 0 / say never / say again
--   proc w / resume first / say then
abbrev pub suspending_itself : Row
suspending_itself = record {
  script = speaking (codes "never" ∷ codes "again" ∷ codes "then" ∷ [])
      (pod 1 (named (codes "main" ∷ codes "w" ∷ []) (codes "a" ∷ []) [] [])
      (procedure 0 (stmt.Create 0 1 1 plain ∷ stmt.Suspend who.Me ∷ stmt.Skip (test.Value 0) ∷ stmt.Say 0
      ∷ stmt.Say 1 ∷ [])
      ∷ procedure 1 (stmt.Resume who.First ∷ stmt.Say 2 ∷ [])
      ∷ []));
  turns = 100000;
  trace = codes "t0: create w 1 -\nt0 = t1\nt0: suspend self\nt0 = 0\nt1: resume t0\nt1 = 0\nt1: say then\nt1 = 0\nt1: return\nt1 dies\nt0: say again\nt0 = 0\nt0: return\nt0 dies\npod ends 0\n";
  halt = Ended 0;
  calls = 7;
  takes = [];
}

-- Suspensions don't add up.
--   lwp 1 / pod 1
--   proc main / create a w 1 - / suspend a / suspend a / resume a / yield self
--   proc w / say on
abbrev pub suspended_twice_resumed_once : Row
suspended_twice_resumed_once = record {
  script = speaking (codes "on" ∷ []) (pod 1 (named (codes "main" ∷ codes "w" ∷ []) (codes "a" ∷ []) [] [])
      (procedure 0 (stmt.Create 0 1 1 plain ∷ stmt.Suspend (who.Named 0)
      ∷ stmt.Suspend (who.Named 0) ∷ stmt.Resume (who.Named 0)
      ∷ stmt.Yield who.Me ∷ [])
      ∷ procedure 1 (stmt.Say 0 ∷ [])
      ∷ []));
  turns = 100000;
  trace = codes "t0: create w 1 -\nt0 = t1\nt0: suspend t1\nt0 = 0\nt0: suspend t1\nt0 = 0\nt0: resume t1\nt0 = 0\nt0: yield self\nt0 = 0\nt1: say on\nt1 = 0\nt1: return\nt1 dies\nt0: return\nt0 dies\npod ends 0\n";
  halt = Ended 0;
  calls = 8;
  takes = [];
}

-- A thread that isn't suspended keeps its place.
--   lwp 1 / pod 1
--   proc main / create a w 1 - / create b w 1 - / resume a / resume self / yield self
--   proc w / self
abbrev pub resuming_who_runs : Row
resuming_who_runs = record {
  script = pod 1 (named (codes "main" ∷ codes "w" ∷ []) (codes "a" ∷ codes "b" ∷ []) [] [])
      (procedure 0 (stmt.Create 0 1 1 plain ∷ stmt.Create 1 1 1 plain ∷ stmt.Resume (who.Named 0) ∷ stmt.Resume who.Me
      ∷ stmt.Yield who.Me ∷ [])
      ∷ procedure 1 (stmt.Me ∷ [])
      ∷ []);
  turns = 100000;
  trace = codes "t0: create w 1 -\nt0 = t1\nt0: create w 1 -\nt0 = t2\nt0: resume t1\nt0 = 0\nt0: resume self\nt0 = 0\nt0: yield self\nt0 = 0\nt1: self\nt1 = t1\nt1: return\nt1 dies\nt2: self\nt2 = t2\nt2: return\nt2 dies\nt0: return\nt0 dies\npod ends 0\n";
  halt = Ended 0;
  calls = 10;
  takes = [];
}

-- A blocked thread that is resumed goes on waiting.
--   lwp 1 / pod 1
--   proc main / create a j 1 - / yield self / suspend a / resume a / yield self / say alone
--   proc j / join first / say free
abbrev pub resumed_while_blocked : Row
resumed_while_blocked = record {
  script = speaking (codes "alone" ∷ codes "free" ∷ [])
      (pod 1 (named (codes "main" ∷ codes "j" ∷ []) (codes "a" ∷ []) [] [])
      (procedure 0 (stmt.Create 0 1 1 plain ∷ stmt.Yield who.Me ∷ stmt.Suspend (who.Named 0) ∷ stmt.Resume (who.Named 0)
      ∷ stmt.Yield who.Me ∷ stmt.Say 0 ∷ [])
      ∷ procedure 1 (stmt.Join who.First ∷ stmt.Say 1 ∷ [])
      ∷ []));
  turns = 100000;
  trace = codes "t0: create j 1 -\nt0 = t1\nt0: yield self\nt0 = 0\nt1: join t0\nt0: suspend t1\nt0 = 0\nt0: resume t1\nt0 = 0\nt0: yield self\nt0 = 0\nt0: say alone\nt0 = 0\nt0: return\nt1 = 0\nt0 dies\nt1: say free\nt1 = 0\nt1: return\nt1 dies\npod ends 0\n";
  halt = Ended 0;
  calls = 10;
  takes = [];
}
