-- The clock: threads that sleep, and receives that wait for so many ticks.
use Rattle.trace_text.specs.declared.ends.Halt.TheVariants.{Ended, Stuck}
use Rattle.std.specs.Prelude.{None, Some, [], codes, ◌∷◌}
use Rattle.worked_rows.specs.Words.{Row, line, named, plain, pod, posted, procedure, speaking, took}
use Rattle.script_text.specs.declared.script.Who.TheVariants as who
use Rattle.script_text.specs.declared.script.Stmt.TheVariants as stmt
use Rattle.lwp_types.specs.declared.call.Mode.TheVariants as mode

-- A thread sleeps for two ticks, of three.
--   lwp 1 / pod 1
--   client 0 0
--   proc main / sleep 2 / say up
--   post 0 a / post 0 b / post 0 c
abbrev pub sleep : Row
sleep = record {
  script = posted (0 ∷ []) (line 0 0 (codes "a") ∷ line 0 1 (codes "b") ∷ line 0 2 (codes "c") ∷ [])
      (speaking (codes "up" ∷ []) (pod 1 (named (codes "main" ∷ []) [] [] [])
      (procedure 0 (stmt.Sleep 2 ∷ stmt.Say 0 ∷ [])
      ∷ [])));
  turns = 100000;
  trace = codes "tick 1 client 0 seq 0 a\nt0: sleep 2\ntick 2 client 0 seq 1 b\ntick 3 client 0 seq 2 c\nt0 = 0\nt0: say up\nt0 = 0\nt0: return\nt0 dies\npod ends 0\n";
  halt = Ended 0;
  calls = 3;
  takes = took 0 0 (line 0 0 (codes "a")) ∷ took 1 0 (line 0 1 (codes "b")) ∷ took 1 0 (line 0 2 (codes "c")) ∷ [];
}

-- A receive waits for two ticks in vain, for five and is sent a letter, and for none.
--   lwp 1 / pod 1
--   client 0 0
--   proc main / create a w 1 - / recv any 2 / recv any 5 / recv any 0
--   proc w / sleep 2 / send first 3 hi
--   post 0 a / post 0 b / post 0 c / post 0 d / post 0 e
abbrev pub timed_receive : Row
timed_receive = record {
  script = posted (0 ∷ []) (line 0 0 (codes "a") ∷ line 0 1 (codes "b") ∷ line 0 2 (codes "c")
      ∷ line 0 3 (codes "d") ∷ line 0 4 (codes "e") ∷ [])
      (speaking (codes "hi" ∷ []) (pod 1 (named (codes "main" ∷ codes "w" ∷ []) (codes "a" ∷ []) [] [])
      (procedure 0 (stmt.Create 0 1 1 plain ∷ stmt.Recv None (mode.Until 2)
      ∷ stmt.Recv None (mode.Until 5) ∷ stmt.Recv None (mode.Until 0) ∷ [])
      ∷ procedure 1 (stmt.Sleep 2 ∷ stmt.Send who.First 3 0 ∷ [])
      ∷ [])));
  turns = 100000;
  trace = codes "tick 1 client 0 seq 0 a\nt0: create w 1 -\nt0 = t1\ntick 2 client 0 seq 1 b\nt0: recv any 2\ntick 3 client 0 seq 2 c\nt1: sleep 2\ntick 4 client 0 seq 3 d\nt0 ! LE_TIMEOUT\ntick 5 client 0 seq 4 e\nt1 = 0\nt0: recv any 5\nt1: send t0 3 hi\nt0 = letter t1 3 hi\nt0: recv any 0\nt0 ! LE_TIMEOUT\nt0: return\nt1 ! LE_NONEXIST\nt0 dies\nt1: return\nt1 dies\npod ends 0\n";
  halt = Ended 0;
  calls = 8;
  takes = took 0 0 (line 0 0 (codes "a")) ∷ took 1 0 (line 0 1 (codes "b"))
      ∷ took 2 0 (line 0 2 (codes "c")) ∷ took 3 0 (line 0 3 (codes "d")) ∷ took 3 0 (line 0 4 (codes "e")) ∷ [];
}

-- Nobody sleeps for no tick; and where no tick is left, a thread that sleeps is stuck.
--   lwp 1 / pod 1
--   client 0 0
--   proc main / sleep 0 / sleep 1 / sleep 1
--   post 0 a / post 0 b
abbrev pub no_tick_left : Row
no_tick_left = record {
  script = posted (0 ∷ []) (line 0 0 (codes "a") ∷ line 0 1 (codes "b") ∷ [])
      (pod 1 (named (codes "main" ∷ []) [] [] [])
      (procedure 0 (stmt.Sleep 0 ∷ stmt.Sleep 1 ∷ stmt.Sleep 1 ∷ [])
      ∷ []));
  turns = 100000;
  trace = codes "tick 1 client 0 seq 0 a\nt0: sleep 0\nt0 = 0\ntick 2 client 0 seq 1 b\nt0: sleep 1\nstuck\n";
  halt = Stuck;
  calls = 2;
  takes = took 0 0 (line 0 0 (codes "a")) ∷ took 1 0 (line 0 1 (codes "b")) ∷ [];
}

-- Those that one tick wakes go on in the order in which they began to wait.
--   lwp 1 / pod 1
--   client 0 0
--   proc main / create a w 1 - / create b x 1 - / sleep 4
--   proc w / sleep 3
--   proc x / recv any 2
--   post 0 a / post 0 b / post 0 c / post 0 d / post 0 e / post 0 f / post 0 g
abbrev pub due_at_once : Row
due_at_once = record {
  script = posted (0 ∷ []) (line 0 0 (codes "a") ∷ line 0 1 (codes "b") ∷ line 0 2 (codes "c")
      ∷ line 0 3 (codes "d") ∷ line 0 4 (codes "e") ∷ line 0 5 (codes "f") ∷ line 0 6 (codes "g") ∷ [])
      (pod 1 (named (codes "main" ∷ codes "w" ∷ codes "x" ∷ []) (codes "a" ∷ codes "b" ∷ []) [] [])
      (procedure 0 (stmt.Create 0 1 1 plain ∷ stmt.Create 1 2 1 plain ∷ stmt.Sleep 4 ∷ [])
      ∷ procedure 1 (stmt.Sleep 3 ∷ [])
      ∷ procedure 2 (stmt.Recv None (mode.Until 2) ∷ [])
      ∷ []));
  turns = 100000;
  trace = codes "tick 1 client 0 seq 0 a\nt0: create w 1 -\nt0 = t1\ntick 2 client 0 seq 1 b\nt0: create x 1 -\nt0 = t2\ntick 3 client 0 seq 2 c\nt0: sleep 4\ntick 4 client 0 seq 3 d\nt1: sleep 3\ntick 5 client 0 seq 4 e\nt2: recv any 2\ntick 6 client 0 seq 5 f\ntick 7 client 0 seq 6 g\nt0 = 0\nt1 = 0\nt2 ! LE_TIMEOUT\nt0: return\nt0 dies\nt1: return\nt1 dies\nt2: return\nt2 dies\npod ends 0\n";
  halt = Ended 0;
  calls = 8;
  takes = took 0 0 (line 0 0 (codes "a")) ∷ took 1 0 (line 0 1 (codes "b"))
      ∷ took 2 0 (line 0 2 (codes "c")) ∷ took 3 0 (line 0 3 (codes "d"))
      ∷ took 4 0 (line 0 4 (codes "e")) ∷ took 5 0 (line 0 5 (codes "f")) ∷ took 5 0 (line 0 6 (codes "g")) ∷ [];
}

-- A thread that has a letter in time isn't timed out later.
--   lwp 1 / pod 1
--   client 0 0
--   proc main / create a w 1 - / recv any 2 / reply a ok
--   proc w / send first 3 hi
--   post 0 a / post 0 b / post 0 c / post 0 d
abbrev pub a_letter_in_time : Row
a_letter_in_time = record {
  script = posted (0 ∷ []) (line 0 0 (codes "a") ∷ line 0 1 (codes "b") ∷ line 0 2 (codes "c")
      ∷ line 0 3 (codes "d") ∷ [])
      (speaking (codes "ok" ∷ codes "hi" ∷ []) (pod 1 (named (codes "main" ∷ codes "w" ∷ []) (codes "a" ∷ []) [] [])
      (procedure 0 (stmt.Create 0 1 1 plain ∷ stmt.Recv None (mode.Until 2) ∷ stmt.Reply (who.Named 0) 0 ∷ [])
      ∷ procedure 1 (stmt.Send who.First 3 1 ∷ [])
      ∷ [])));
  turns = 100000;
  trace = codes "tick 1 client 0 seq 0 a\nt0: create w 1 -\nt0 = t1\ntick 2 client 0 seq 1 b\nt0: recv any 2\ntick 3 client 0 seq 2 c\nt1: send t0 3 hi\nt0 = letter t1 3 hi\ntick 4 client 0 seq 3 d\nt0: reply t1 ok\nt1 = reply ok\nt0 = 0\nt0: return\nt0 dies\nt1: return\nt1 dies\npod ends 0\n";
  halt = Ended 0;
  calls = 6;
  takes = took 0 0 (line 0 0 (codes "a")) ∷ took 1 0 (line 0 1 (codes "b"))
      ∷ took 2 0 (line 0 2 (codes "c")) ∷ took 3 0 (line 0 3 (codes "d")) ∷ [];
}

-- Nor is one that waits by name for a thread that dies before.
--   lwp 1 / pod 1
--   client 0 0
--   proc main / create a w 1 - / recv a 2
--   proc w
--   post 0 a / post 0 b / post 0 c / post 0 d
abbrev pub a_death_in_time : Row
a_death_in_time = record {
  script = posted (0 ∷ []) (line 0 0 (codes "a") ∷ line 0 1 (codes "b") ∷ line 0 2 (codes "c")
      ∷ line 0 3 (codes "d") ∷ [])
      (pod 1 (named (codes "main" ∷ codes "w" ∷ []) (codes "a" ∷ []) [] [])
      (procedure 0 (stmt.Create 0 1 1 plain ∷ stmt.Recv (Some (who.Named 0)) (mode.Until 2) ∷ [])
      ∷ procedure 1 []
      ∷ []));
  turns = 100000;
  trace = codes "tick 1 client 0 seq 0 a\nt0: create w 1 -\nt0 = t1\ntick 2 client 0 seq 1 b\nt0: recv t1 2\ntick 3 client 0 seq 2 c\nt1: return\nt0 ! LE_NONEXIST\nt1 dies\ntick 4 client 0 seq 3 d\nt0: return\nt0 dies\npod ends 0\n";
  halt = Ended 0;
  calls = 4;
  takes = took 0 0 (line 0 0 (codes "a")) ∷ took 1 0 (line 0 1 (codes "b"))
      ∷ took 2 0 (line 0 2 (codes "c")) ∷ took 3 0 (line 0 3 (codes "d")) ∷ [];
}

-- A sleeper that is suspended is woken, and runs once it is resumed; one that is destroyed is woken no more.
--   lwp 1 / pod 1
--   client 0 0
--   proc main / create a w 1 - / create b w 1 - / yield self / suspend a / destroy b / sleep 1 / resume a
--   proc w / sleep 4
--   post 0 a / post 0 b / post 0 c / post 0 d / post 0 e / post 0 f / post 0 g / post 0 h / post 0 i
abbrev pub suspended_and_destroyed_asleep : Row
suspended_and_destroyed_asleep = record {
  script = posted (0 ∷ []) (line 0 0 (codes "a") ∷ line 0 1 (codes "b") ∷ line 0 2 (codes "c")
      ∷ line 0 3 (codes "d") ∷ line 0 4 (codes "e") ∷ line 0 5 (codes "f") ∷ line 0 6 (codes "g")
      ∷ line 0 7 (codes "h") ∷ line 0 8 (codes "i") ∷ [])
      (pod 1 (named (codes "main" ∷ codes "w" ∷ []) (codes "a" ∷ codes "b" ∷ []) [] [])
      (procedure 0 (stmt.Create 0 1 1 plain ∷ stmt.Create 1 1 1 plain ∷ stmt.Yield who.Me
      ∷ stmt.Suspend (who.Named 0) ∷ stmt.Destroy (who.Named 1) ∷ stmt.Sleep 1 ∷ stmt.Resume (who.Named 0) ∷ [])
      ∷ procedure 1 (stmt.Sleep 4 ∷ [])
      ∷ []));
  turns = 100000;
  trace = codes "tick 1 client 0 seq 0 a\nt0: create w 1 -\nt0 = t1\ntick 2 client 0 seq 1 b\nt0: create w 1 -\nt0 = t2\ntick 3 client 0 seq 2 c\nt0: yield self\nt0 = 0\ntick 4 client 0 seq 3 d\nt1: sleep 4\ntick 5 client 0 seq 4 e\nt2: sleep 4\ntick 6 client 0 seq 5 f\nt0: suspend t1\nt0 = 0\ntick 7 client 0 seq 6 g\nt0: destroy t2\nt2 dies\nt0 = 0\ntick 8 client 0 seq 7 h\nt1 = 0\nt0: sleep 1\ntick 9 client 0 seq 8 i\nt0 = 0\nt0: resume t1\nt0 = 0\nt0: return\nt0 dies\nt1: return\nt1 dies\npod ends 0\n";
  halt = Ended 0;
  calls = 11;
  takes = took 0 0 (line 0 0 (codes "a")) ∷ took 1 0 (line 0 1 (codes "b"))
      ∷ took 2 0 (line 0 2 (codes "c")) ∷ took 3 0 (line 0 3 (codes "d"))
      ∷ took 4 0 (line 0 4 (codes "e")) ∷ took 5 0 (line 0 5 (codes "f"))
      ∷ took 6 0 (line 0 6 (codes "g")) ∷ took 7 0 (line 0 7 (codes "h")) ∷ took 8 0 (line 0 8 (codes "i")) ∷ [];
}

-- The clock comes before all other events; and a letter that is there is received at once.
--   lwp 1 / pod 1
--   client 0 5 / client 1 0
--   proc main / agent g 5 / recv g 9 / reply g ok
--   post 0 x / post 1 a / post 1 b
abbrev pub the_clock_comes_first : Row
the_clock_comes_first = record {
  script = posted (5 ∷ 0 ∷ []) (line 0 0 (codes "x") ∷ line 1 0 (codes "a") ∷ line 1 1 (codes "b") ∷ [])
      (speaking (codes "ok" ∷ []) (pod 1 (named (codes "main" ∷ []) (codes "g" ∷ []) [] [])
      (procedure 0 (stmt.Agent 0 5 ∷ stmt.Recv (Some (who.Named 0)) (mode.Until 9) ∷ stmt.Reply (who.Named 0) 0 ∷ [])
      ∷ [])));
  turns = 100000;
  trace = codes "tick 1 client 1 seq 0 a\nt0: agent 5\nt0 = t1\ntick 2 client 1 seq 1 b\nevent 5 client 0 seq 0 x\nt0: recv t1 9\nt0 = letter t1 240 x\nt0: reply t1 ok\nt0 = 0\nt0: return\nt0 dies\npod ends 0\n";
  halt = Ended 0;
  calls = 4;
  takes = took 0 0 (line 1 0 (codes "a")) ∷ took 1 0 (line 1 1 (codes "b")) ∷ took 1 5 (line 0 0 (codes "x")) ∷ [];
}
