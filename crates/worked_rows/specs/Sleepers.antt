-- Sleepers, and receives that wait for so many ticks, among all else that goes on.
use Rattle.trace_text.specs.declared.ends.Halt.TheVariants.{Ended, Spent, Stuck}
use Rattle.lwp_types.specs.State.{State, opening_thread}
use Rattle.lwp_types.specs.declared.call.Line.{Line}
use Rattle.lwp_types.specs.declared.rows.Block.TheVariants as block
use Rattle.pod_runner.specs.Due.{numbers_to}
use Rattle.pod_runner.specs.declared.session.Took.{Took}
use Rattle.std.specs.Prelude.{List, None, Some, [], codes, map, ℕ, ◌∷◌}
use Rattle.worked_rows.specs.Limits.{alone}
use Rattle.worked_rows.specs.Words.{Row, line, named, plain, pod, posted, procedure, serving, speaking, took}
use Rattle.script_text.specs.declared.script.ExitStmt.TheVariants as exit_stmt
use Rattle.script_text.specs.declared.script.Who.TheVariants as who
use Rattle.script_text.specs.declared.script.Stmt.TheVariants as stmt
use Rattle.script_lines.specs.declared.table.Test.TheVariants as test
use Rattle.lwp_types.specs.declared.call.Mode.TheVariants as mode
use Rattle.lwp_types.specs.declared.call.Pattern.TheVariants as pattern
use Rattle.lwp_types.specs.declared.call.Func.TheVariants as func

-- the line of client 0 with this number
abbrev pub x_line : ℕ → Line
x_line seq = line 0 seq (codes "x")

-- so many lines of client 0
abbrev pub beats : ℕ → List Line
beats n = map (λ seq. x_line seq) (numbers_to n)

-- one of them is taken for the clock after so many calls
abbrev pub beat : ℕ → ℕ → Took
beat turn seq = took turn 0 (x_line seq)

-- Who sleeps for no tick stays where it is, and needs no clock.
--   lwp 1 / pod 1
--   proc main / create a w 1 - / sleep 0 / say m
--   proc w / say w
abbrev pub a_sleep_of_none_moves_nobody : Row
a_sleep_of_none_moves_nobody = record {
  script = speaking (codes "m" ∷ codes "w" ∷ []) (pod 1 (named (codes "main" ∷ codes "w" ∷ []) (codes "a" ∷ []) [] [])
      (procedure 0 (stmt.Create 0 1 1 plain ∷ stmt.Sleep 0 ∷ stmt.Say 0 ∷ [])
      ∷ procedure 1 (stmt.Say 1 ∷ [])
      ∷ []));
  turns = 100000;
  trace = codes "t0: create w 1 -\nt0 = t1\nt0: sleep 0\nt0 = 0\nt0: say m\nt0 = 0\nt0: return\nt0 dies\nt1: say w\nt1 = 0\nt1: return\nt1 dies\npod ends 0\n";
  halt = Ended 0;
  calls = 6;
  takes = [];
}

-- Timers due at one tick are answered in order of arrival; the later thread has the greater priority, and runs first.
--   lwp 1 / pod 2
--   client 0 0
--   proc main / create a w 1 - / sleep 2 / sleep 1
--   proc w / sleep 3
--   post 0 x, six times
abbrev pub arrival_before_priority : Row
arrival_before_priority = record {
  script = posted (0 ∷ []) (beats 6)
      (pod 2 (named (codes "main" ∷ codes "w" ∷ []) (codes "a" ∷ []) [] [])
      (procedure 0 (stmt.Create 0 1 1 plain ∷ stmt.Sleep 2 ∷ stmt.Sleep 1 ∷ [])
      ∷ procedure 1 (stmt.Sleep 3 ∷ [])
      ∷ []));
  turns = 100000;
  trace = codes "tick 1 client 0 seq 0 x\nt0: create w 1 -\nt0 = t1\ntick 2 client 0 seq 1 x\nt0: sleep 2\ntick 3 client 0 seq 2 x\nt1: sleep 3\ntick 4 client 0 seq 3 x\nt0 = 0\ntick 5 client 0 seq 4 x\nt0: sleep 1\ntick 6 client 0 seq 5 x\nt1 = 0\nt0 = 0\nt0: return\nt0 dies\nt1: return\nt1 dies\npod ends 0\n";
  halt = Ended 0;
  calls = 6;
  takes = beat 0 0 ∷ beat 1 1 ∷ beat 2 2 ∷ beat 3 3 ∷ beat 3 4 ∷ beat 4 5 ∷ [];
}

-- Each timer has its own tick, whichever came before.
--   lwp 1 / pod 2
--   client 0 0
--   proc main / create a w 1 - / sleep 4
--   proc w / sleep 1 / say w
--   post 0 x, six times
abbrev pub a_later_arrival_is_due_first : Row
a_later_arrival_is_due_first = record {
  script = posted (0 ∷ []) (beats 6)
      (speaking (codes "w" ∷ []) (pod 2 (named (codes "main" ∷ codes "w" ∷ []) (codes "a" ∷ []) [] [])
      (procedure 0 (stmt.Create 0 1 1 plain ∷ stmt.Sleep 4 ∷ [])
      ∷ procedure 1 (stmt.Sleep 1 ∷ stmt.Say 0 ∷ [])
      ∷ [])));
  turns = 100000;
  trace = codes "tick 1 client 0 seq 0 x\nt0: create w 1 -\nt0 = t1\ntick 2 client 0 seq 1 x\nt0: sleep 4\ntick 3 client 0 seq 2 x\nt1: sleep 1\ntick 4 client 0 seq 3 x\nt1 = 0\ntick 5 client 0 seq 4 x\nt1: say w\nt1 = 0\ntick 6 client 0 seq 5 x\nt0 = 0\nt0: return\nt0 dies\nt1: return\nt1 dies\npod ends 0\n";
  halt = Ended 0;
  calls = 6;
  takes = beat 0 0 ∷ beat 1 1 ∷ beat 2 2 ∷ beat 3 3 ∷ beat 3 4 ∷ beat 4 5 ∷ [];
}

-- Whom a tick wakes runs at once, where its priority is greater than that of who ran before.
--   lwp 1 / pod 2
--   client 0 0
--   proc main / create a w 1 - / sleep 3 / say up
--   proc w / say a / say b / say c
--   post 0 x, five times
abbrev pub a_tick_wakes_a_greater_priority : Row
a_tick_wakes_a_greater_priority = record {
  script = posted (0 ∷ []) (beats 5)
      (speaking (codes "up" ∷ codes "a" ∷ codes "b" ∷ codes "c" ∷ [])
      (pod 2 (named (codes "main" ∷ codes "w" ∷ []) (codes "a" ∷ []) [] [])
      (procedure 0 (stmt.Create 0 1 1 plain ∷ stmt.Sleep 3 ∷ stmt.Say 0 ∷ [])
      ∷ procedure 1 (stmt.Say 1 ∷ stmt.Say 2 ∷ stmt.Say 3 ∷ [])
      ∷ [])));
  turns = 100000;
  trace = codes "tick 1 client 0 seq 0 x\nt0: create w 1 -\nt0 = t1\ntick 2 client 0 seq 1 x\nt0: sleep 3\ntick 3 client 0 seq 2 x\nt1: say a\nt1 = 0\ntick 4 client 0 seq 3 x\nt1: say b\nt1 = 0\ntick 5 client 0 seq 4 x\nt0 = 0\nt0: say up\nt0 = 0\nt0: return\nt0 dies\nt1: say c\nt1 = 0\nt1: return\nt1 dies\npod ends 0\n";
  halt = Ended 0;
  calls = 8;
  takes = beat 0 0 ∷ beat 1 1 ∷ beat 2 2 ∷ beat 3 3 ∷ beat 4 4 ∷ [];
}

-- The clock ticks before each call, and a sleep counts from then; ticks that nobody needed are left.
--   lwp 1 / pod 1
--   client 0 0
--   proc main / say a / sleep 1
--   post 0 x, six times
abbrev pub ticks_while_nobody_sleeps : Row
ticks_while_nobody_sleeps = record {
  script = posted (0 ∷ []) (beats 6)
      (speaking (codes "a" ∷ []) (pod 1 (named (codes "main" ∷ []) [] [] [])
      (procedure 0 (stmt.Say 0 ∷ stmt.Sleep 1 ∷ [])
      ∷ [])));
  turns = 100000;
  trace = codes "tick 1 client 0 seq 0 x\nt0: say a\nt0 = 0\ntick 2 client 0 seq 1 x\nt0: sleep 1\ntick 3 client 0 seq 2 x\nt0 = 0\ntick 4 client 0 seq 3 x\nt0: return\nt0 dies\npod ends 0\nleft client 0 2\n";
  halt = Ended 0;
  calls = 3;
  takes = beat 0 0 ∷ beat 1 1 ∷ beat 2 2 ∷ beat 2 3 ∷ [];
}

-- Two clients may have the clock: their lines are ticks in the order of the script.
--   lwp 1 / pod 1
--   client 0 0 / client 1 0
--   proc main / sleep 2
--   post 1 c / post 0 a / post 1 d
abbrev pub two_clients_on_the_clock : Row
two_clients_on_the_clock = record {
  script = posted (0 ∷ 0 ∷ []) (line 1 0 (codes "c") ∷ line 0 0 (codes "a") ∷ line 1 1 (codes "d") ∷ [])
      (pod 1 (named (codes "main" ∷ []) [] [] [])
      (procedure 0 (stmt.Sleep 2 ∷ [])
      ∷ []));
  turns = 100000;
  trace = codes "tick 1 client 1 seq 0 c\nt0: sleep 2\ntick 2 client 0 seq 0 a\ntick 3 client 1 seq 1 d\nt0 = 0\nt0: return\nt0 dies\npod ends 0\n";
  halt = Ended 0;
  calls = 2;
  takes = took 0 0 (line 1 0 (codes "c")) ∷ took 1 0 (line 0 0 (codes "a")) ∷ took 1 0 (line 1 1 (codes "d")) ∷ [];
}

-- A sleeper is woken before a line of an event is delivered at the same boundary, wherever they stand in the script.
--   lwp 1 / pod 1
--   client 0 5 / client 1 0
--   proc main / create a w 1 - / sleep 2
--   proc w / agent g 5 / recv g poll
--   post 0 hi / post 1 x, four times
abbrev pub the_clock_before_an_agent : Row
the_clock_before_an_agent = record {
  script = posted (5 ∷ 0 ∷ []) (line 0 0 (codes "hi") ∷ line 1 0 (codes "x") ∷ line 1 1 (codes "x")
      ∷ line 1 2 (codes "x") ∷ line 1 3 (codes "x") ∷ [])
      (pod 1 (named (codes "main" ∷ codes "w" ∷ []) (codes "a" ∷ codes "g" ∷ []) [] [])
      (procedure 0 (stmt.Create 0 1 1 plain ∷ stmt.Sleep 2 ∷ [])
      ∷ procedure 1 (stmt.Agent 1 5 ∷ stmt.Recv (Some (who.Named 1)) mode.Poll ∷ [])
      ∷ []));
  turns = 100000;
  trace = codes "tick 1 client 1 seq 0 x\nt0: create w 1 -\nt0 = t1\ntick 2 client 1 seq 1 x\nt0: sleep 2\ntick 3 client 1 seq 2 x\nt1: agent 5\nt1 = t2\ntick 4 client 1 seq 3 x\nt0 = 0\nevent 5 client 0 seq 0 hi\nt1: recv t2 poll\nt1 = letter t2 240 hi\nt1: return\nt1 dies\nt0: return\nt0 dies\npod ends 0\n";
  halt = Ended 0;
  calls = 6;
  takes = took 0 0 (line 1 0 (codes "x")) ∷ took 1 0 (line 1 1 (codes "x"))
      ∷ took 2 0 (line 1 2 (codes "x")) ∷ took 3 0 (line 1 3 (codes "x")) ∷ took 3 5 (line 0 0 (codes "hi")) ∷ [];
}

-- A sleeper can be pinged, and be given another priority; it runs by it once it is woken.
--   lwp 1 / pod 2
--   client 0 0
--   proc main / create a v 1 - / create b w 1 - / sleep 3 / ping b / setpri b 2
--   proc v / sleep 6 / say v
--   proc w / sleep 5 / say w
--   post 0 x, ten times
abbrev pub a_priority_that_changes_asleep : Row
a_priority_that_changes_asleep = record {
  script = posted (0 ∷ []) (beats 10)
      (speaking (codes "v" ∷ codes "w" ∷ [])
      (pod 2 (named (codes "main" ∷ codes "v" ∷ codes "w" ∷ []) (codes "a" ∷ codes "b" ∷ []) [] [])
      (procedure 0 (stmt.Create 0 1 1 plain ∷ stmt.Create 1 2 1 plain ∷ stmt.Sleep 3
      ∷ stmt.Ping (who.Named 1) ∷ stmt.SetPri (who.Named 1) 2 ∷ [])
      ∷ procedure 1 (stmt.Sleep 6 ∷ stmt.Say 0 ∷ [])
      ∷ procedure 2 (stmt.Sleep 5 ∷ stmt.Say 1 ∷ [])
      ∷ [])));
  turns = 100000;
  trace = codes "tick 1 client 0 seq 0 x\nt0: create v 1 -\nt0 = t1\ntick 2 client 0 seq 1 x\nt0: create w 1 -\nt0 = t2\ntick 3 client 0 seq 2 x\nt0: sleep 3\ntick 4 client 0 seq 3 x\nt1: sleep 6\ntick 5 client 0 seq 4 x\nt2: sleep 5\ntick 6 client 0 seq 5 x\nt0 = 0\ntick 7 client 0 seq 6 x\nt0: ping t2\nt0 = 0\ntick 8 client 0 seq 7 x\nt0: setpri t2 2\nt0 = 1\ntick 9 client 0 seq 8 x\nt0: return\nt0 dies\ntick 10 client 0 seq 9 x\nt1 = 0\nt2 = 0\nt2: say w\nt2 = 0\nt2: return\nt2 dies\nt1: say v\nt1 = 0\nt1: return\nt1 dies\npod ends 0\n";
  halt = Ended 0;
  calls = 12;
  takes = beat 0 0 ∷ beat 1 1 ∷ beat 2 2 ∷ beat 3 3 ∷ beat 4 4 ∷ beat 5 5 ∷ beat 5 6 ∷ beat 6 7
      ∷ beat 7 8 ∷ beat 8 9 ∷ [];
}

-- A sleeper that is destroyed is woken by no tick.
--   lwp 1 / pod 1
--   client 0 0
--   proc main / create a w 1 - / yield self / destroy a / sleep 1
--   proc w / sleep 2
--   post 0 x, six times
abbrev pub destroyed_asleep : Row
destroyed_asleep = record {
  script = posted (0 ∷ []) (beats 6)
      (pod 1 (named (codes "main" ∷ codes "w" ∷ []) (codes "a" ∷ []) [] [])
      (procedure 0 (stmt.Create 0 1 1 plain ∷ stmt.Yield who.Me ∷ stmt.Destroy (who.Named 0) ∷ stmt.Sleep 1 ∷ [])
      ∷ procedure 1 (stmt.Sleep 2 ∷ [])
      ∷ []));
  turns = 100000;
  trace = codes "tick 1 client 0 seq 0 x\nt0: create w 1 -\nt0 = t1\ntick 2 client 0 seq 1 x\nt0: yield self\nt0 = 0\ntick 3 client 0 seq 2 x\nt1: sleep 2\ntick 4 client 0 seq 3 x\nt0: destroy t1\nt1 dies\nt0 = 0\ntick 5 client 0 seq 4 x\nt0: sleep 1\ntick 6 client 0 seq 5 x\nt0 = 0\nt0: return\nt0 dies\npod ends 0\n";
  halt = Ended 0;
  calls = 6;
  takes = beat 0 0 ∷ beat 1 1 ∷ beat 2 2 ∷ beat 3 3 ∷ beat 4 4 ∷ beat 5 5 ∷ [];
}

-- A sleeper that is suspended is answered at its tick, and runs once it is resumed.
--   lwp 1 / pod 1
--   client 0 0
--   proc main / create a w 1 - / yield self / suspend a / sleep 1 / resume a
--   proc w / sleep 2 / say up
--   post 0 x, six times
abbrev pub suspended_past_its_tick : Row
suspended_past_its_tick = record {
  script = posted (0 ∷ []) (beats 6)
      (speaking (codes "up" ∷ []) (pod 1 (named (codes "main" ∷ codes "w" ∷ []) (codes "a" ∷ []) [] [])
      (procedure 0 (stmt.Create 0 1 1 plain ∷ stmt.Yield who.Me ∷ stmt.Suspend (who.Named 0)
      ∷ stmt.Sleep 1 ∷ stmt.Resume (who.Named 0) ∷ [])
      ∷ procedure 1 (stmt.Sleep 2 ∷ stmt.Say 0 ∷ [])
      ∷ [])));
  turns = 100000;
  trace = codes "tick 1 client 0 seq 0 x\nt0: create w 1 -\nt0 = t1\ntick 2 client 0 seq 1 x\nt0: yield self\nt0 = 0\ntick 3 client 0 seq 2 x\nt1: sleep 2\ntick 4 client 0 seq 3 x\nt0: suspend t1\nt0 = 0\ntick 5 client 0 seq 4 x\nt1 = 0\nt0: sleep 1\ntick 6 client 0 seq 5 x\nt0 = 0\nt0: resume t1\nt0 = 0\nt0: return\nt0 dies\nt1: say up\nt1 = 0\nt1: return\nt1 dies\npod ends 0\n";
  halt = Ended 0;
  calls = 9;
  takes = beat 0 0 ∷ beat 1 1 ∷ beat 2 2 ∷ beat 3 3 ∷ beat 4 4 ∷ beat 5 5 ∷ [];
}

-- A sleeper that is suspended and resumed sleeps on until its tick.
--   lwp 1 / pod 1
--   client 0 0
--   proc main / create a w 1 - / yield self / suspend a / resume a
--   proc w / sleep 4
--   post 0 x, seven times
abbrev pub resumed_before_its_tick : Row
resumed_before_its_tick = record {
  script = posted (0 ∷ []) (beats 7)
      (pod 1 (named (codes "main" ∷ codes "w" ∷ []) (codes "a" ∷ []) [] [])
      (procedure 0 (stmt.Create 0 1 1 plain ∷ stmt.Yield who.Me ∷ stmt.Suspend (who.Named 0)
      ∷ stmt.Resume (who.Named 0) ∷ [])
      ∷ procedure 1 (stmt.Sleep 4 ∷ [])
      ∷ []));
  turns = 100000;
  trace = codes "tick 1 client 0 seq 0 x\nt0: create w 1 -\nt0 = t1\ntick 2 client 0 seq 1 x\nt0: yield self\nt0 = 0\ntick 3 client 0 seq 2 x\nt1: sleep 4\ntick 4 client 0 seq 3 x\nt0: suspend t1\nt0 = 0\ntick 5 client 0 seq 4 x\nt0: resume t1\nt0 = 0\ntick 6 client 0 seq 5 x\nt0: return\nt0 dies\ntick 7 client 0 seq 6 x\nt1 = 0\nt1: return\nt1 dies\npod ends 0\n";
  halt = Ended 0;
  calls = 7;
  takes = beat 0 0 ∷ beat 1 1 ∷ beat 2 2 ∷ beat 3 3 ∷ beat 4 4 ∷ beat 5 5 ∷ beat 6 6 ∷ [];
}

-- Who joins a sleeper waits until it has slept and died.
--   lwp 1 / pod 1
--   client 0 0
--   proc main / create a w 1 - / join a / say up
--   proc w / sleep 2
--   post 0 x, five times
abbrev pub joined_asleep : Row
joined_asleep = record {
  script = posted (0 ∷ []) (beats 5)
      (speaking (codes "up" ∷ []) (pod 1 (named (codes "main" ∷ codes "w" ∷ []) (codes "a" ∷ []) [] [])
      (procedure 0 (stmt.Create 0 1 1 plain ∷ stmt.Join (who.Named 0) ∷ stmt.Say 0 ∷ [])
      ∷ procedure 1 (stmt.Sleep 2 ∷ [])
      ∷ [])));
  turns = 100000;
  trace = codes "tick 1 client 0 seq 0 x\nt0: create w 1 -\nt0 = t1\ntick 2 client 0 seq 1 x\nt0: join t1\ntick 3 client 0 seq 2 x\nt1: sleep 2\ntick 4 client 0 seq 3 x\ntick 5 client 0 seq 4 x\nt1 = 0\nt1: return\nt0 = 0\nt1 dies\nt0: say up\nt0 = 0\nt0: return\nt0 dies\npod ends 0\n";
  halt = Ended 0;
  calls = 6;
  takes = beat 0 0 ∷ beat 1 1 ∷ beat 2 2 ∷ beat 3 3 ∷ beat 3 4 ∷ [];
}

-- A sleeper keeps its monitor: who wants to enter waits until it has gone on and left.
--   lwp 1 / pod 1
--   client 0 0
--   proc main / moncreate m / create a w 1 - / enter m / sleep 2 / monexit m
--   proc w / enter m
--   post 0 x, six times
abbrev pub asleep_with_a_monitor : Row
asleep_with_a_monitor = record {
  script = posted (0 ∷ []) (beats 6)
      (pod 1 (named (codes "main" ∷ codes "w" ∷ []) (codes "a" ∷ []) (codes "m" ∷ []) [])
      (procedure 0 (stmt.MonCreate 0 ∷ stmt.Create 0 1 1 plain ∷ stmt.Enter 0 ∷ stmt.Sleep 2 ∷ stmt.MonExit 0 ∷ [])
      ∷ procedure 1 (stmt.Enter 0 ∷ [])
      ∷ []));
  turns = 100000;
  trace = codes "tick 1 client 0 seq 0 x\nt0: moncreate\nt0 = m0\ntick 2 client 0 seq 1 x\nt0: create w 1 -\nt0 = t1\ntick 3 client 0 seq 2 x\nt0: enter m0\nt0 = 0\ntick 4 client 0 seq 3 x\nt0: sleep 2\ntick 5 client 0 seq 4 x\nt1: enter m0\ntick 6 client 0 seq 5 x\nt0 = 0\nt0: monexit m0\nt1 = 0\nt0 = 0\nt0: return\nt0 dies\nt1: return\nt1 dies\npod ends 0\n";
  halt = Ended 0;
  calls = 8;
  takes = beat 0 0 ∷ beat 1 1 ∷ beat 2 2 ∷ beat 3 3 ∷ beat 4 4 ∷ beat 5 5 ∷ [];
}

-- A sleeper is a live thread that nobody can yield to and that receives nothing; a letter waits for it.
--   lwp 1 / pod 1
--   proc main / create a w 1 - / yield self / yield a / threads / receivers / send a 3 hi
--   proc w / sleep 1
abbrev pub what_others_see_of_a_sleeper : Row
what_others_see_of_a_sleeper = record {
  script = speaking (codes "hi" ∷ []) (pod 1 (named (codes "main" ∷ codes "w" ∷ []) (codes "a" ∷ []) [] [])
      (procedure 0 (stmt.Create 0 1 1 plain ∷ stmt.Yield who.Me ∷ stmt.Yield (who.Named 0)
      ∷ stmt.Threads ∷ stmt.Receivers ∷ stmt.Send (who.Named 0) 3 0 ∷ [])
      ∷ procedure 1 (stmt.Sleep 1 ∷ [])
      ∷ []));
  turns = 100000;
  trace = codes "t0: create w 1 -\nt0 = t1\nt0: yield self\nt0 = 0\nt1: sleep 1\nt0: yield t1\nt0 ! LE_INVALIDARG\nt0: threads\nt0 = ids t0 t1\nt0: receivers\nt0 = ids\nt0: send t1 3 hi\nstuck\n";
  halt = Stuck;
  calls = 7;
  takes = [];
}

-- A sleep in a procedure that was called: it goes on there, and what is raised then leaves it as ever.
--   lwp 1 / pod 1
--   client 0 0
--   proc main / handle 7 - 0 / skip caught / call p / say up
--   proc p / onexit note bye / sleep 2 / raise 7
--   post 0 x, six times
abbrev pub asleep_in_a_called_procedure : Row
asleep_in_a_called_procedure = record {
  script = posted (0 ∷ []) (beats 6)
      (speaking (codes "up" ∷ codes "bye" ∷ []) (pod 1 (named (codes "main" ∷ codes "p" ∷ []) [] [] [])
      (procedure 0 (stmt.Handle (pattern.Num 7) func.Nothing 0 ∷ stmt.Skip test.Caught
      ∷ stmt.CallProc 1 ∷ stmt.Say 0 ∷ [])
      ∷ procedure 1 (stmt.OnExit (exit_stmt.Note 1) ∷ stmt.Sleep 2 ∷ stmt.Raise 7 ∷ [])
      ∷ [])));
  turns = 100000;
  trace = codes "tick 1 client 0 seq 0 x\nt0: handle 7 - 0\nt0 = 0\ntick 2 client 0 seq 1 x\nt0: call p\nt0 = 0\ntick 3 client 0 seq 2 x\nt0: onexit note bye\nt0 = 0\ntick 4 client 0 seq 3 x\nt0: sleep 2\ntick 5 client 0 seq 4 x\ntick 6 client 0 seq 5 x\nt0 = 0\nt0: raise 7\nexit x0 note bye = 0\nt0 caught 7\nt0: say up\nt0 = 0\nt0: return\nt0 dies\npod ends 0\n";
  halt = Ended 0;
  calls = 7;
  takes = beat 0 0 ∷ beat 1 1 ∷ beat 2 2 ∷ beat 3 3 ∷ beat 4 4 ∷ beat 4 5 ∷ [];
}

-- The exit procedures of a sleeper run as it is destroyed, those of the procedure in which it sleeps first.
--   lwp 1 / pod 1
--   proc main / create a w 1 - / yield self / destroy a
--   proc w / onexit note one / call p
--   proc p / onexit note two / sleep 9
abbrev pub exits_of_a_sleeper : Row
exits_of_a_sleeper = record {
  script = speaking (codes "one" ∷ codes "two" ∷ [])
      (pod 1 (named (codes "main" ∷ codes "w" ∷ codes "p" ∷ []) (codes "a" ∷ []) [] [])
      (procedure 0 (stmt.Create 0 1 1 plain ∷ stmt.Yield who.Me ∷ stmt.Destroy (who.Named 0) ∷ [])
      ∷ procedure 1 (stmt.OnExit (exit_stmt.Note 0) ∷ stmt.CallProc 2 ∷ [])
      ∷ procedure 2 (stmt.OnExit (exit_stmt.Note 1) ∷ stmt.Sleep 9 ∷ [])
      ∷ []));
  turns = 100000;
  trace = codes "t0: create w 1 -\nt0 = t1\nt0: yield self\nt0 = 0\nt1: onexit note one\nt1 = 0\nt1: call p\nt1 = 0\nt1: onexit note two\nt1 = 1\nt1: sleep 9\nt0: destroy t1\nexit x1 note two = 0\nexit x0 note one = 0\nt1 dies\nt0 = 0\nt0: return\nt0 dies\npod ends 0\n";
  halt = Ended 0;
  calls = 8;
  takes = [];
}

-- At the boundary of its tick a receive is timed out, and a letter that is sent right after is there for the next.
--   lwp 1 / pod 1
--   client 0 0
--   proc main / create a w 1 - / recv any 1 / recv any poll
--   proc w / send first 3 hi
--   post 0 x, three times
abbrev pub a_letter_behind_the_due : Row
a_letter_behind_the_due = record {
  script = posted (0 ∷ []) (beats 3)
      (speaking (codes "hi" ∷ []) (pod 1 (named (codes "main" ∷ codes "w" ∷ []) (codes "a" ∷ []) [] [])
      (procedure 0 (stmt.Create 0 1 1 plain ∷ stmt.Recv None (mode.Until 1) ∷ stmt.Recv None mode.Poll ∷ [])
      ∷ procedure 1 (stmt.Send who.First 3 0 ∷ [])
      ∷ [])));
  turns = 100000;
  trace = codes "tick 1 client 0 seq 0 x\nt0: create w 1 -\nt0 = t1\ntick 2 client 0 seq 1 x\nt0: recv any 1\ntick 3 client 0 seq 2 x\nt0 ! LE_TIMEOUT\nt1: send t0 3 hi\nt0: recv any poll\nt0 = letter t1 3 hi\nt0: return\nt1 ! LE_NONEXIST\nt0 dies\nt1: return\nt1 dies\npod ends 0\n";
  halt = Ended 0;
  calls = 6;
  takes = beat 0 0 ∷ beat 1 1 ∷ beat 2 2 ∷ [];
}

-- A receive that was answered in time leaves no timer: at what would have been its tick, another receive goes on
-- waiting.
--   lwp 1 / pod 1
--   client 0 0
--   proc main / create a w 1 - / recv any 4 / reply a ok / recv any wait
--   proc w / send first 3 hi / sleep 2 / send first 3 yo
--   post 0 x, eight times
abbrev pub an_answered_receive_has_no_timer : Row
an_answered_receive_has_no_timer = record {
  script = posted (0 ∷ []) (beats 8)
      (speaking (codes "ok" ∷ codes "hi" ∷ codes "yo" ∷ [])
      (pod 1 (named (codes "main" ∷ codes "w" ∷ []) (codes "a" ∷ []) [] [])
      (procedure 0 (stmt.Create 0 1 1 plain ∷ stmt.Recv None (mode.Until 4)
      ∷ stmt.Reply (who.Named 0) 0 ∷ stmt.Recv None mode.Block ∷ [])
      ∷ procedure 1 (stmt.Send who.First 3 1 ∷ stmt.Sleep 2 ∷ stmt.Send who.First 3 2 ∷ [])
      ∷ [])));
  turns = 100000;
  trace = codes "tick 1 client 0 seq 0 x\nt0: create w 1 -\nt0 = t1\ntick 2 client 0 seq 1 x\nt0: recv any 4\ntick 3 client 0 seq 2 x\nt1: send t0 3 hi\nt0 = letter t1 3 hi\ntick 4 client 0 seq 3 x\nt0: reply t1 ok\nt1 = reply ok\nt0 = 0\ntick 5 client 0 seq 4 x\nt0: recv any wait\ntick 6 client 0 seq 5 x\nt1: sleep 2\ntick 7 client 0 seq 6 x\ntick 8 client 0 seq 7 x\nt1 = 0\nt1: send t0 3 yo\nt0 = letter t1 3 yo\nt0: return\nt1 ! LE_NONEXIST\nt0 dies\nt1: return\nt1 dies\npod ends 0\n";
  halt = Ended 0;
  calls = 9;
  takes = beat 0 0 ∷ beat 1 1 ∷ beat 2 2 ∷ beat 3 3 ∷ beat 4 4 ∷ beat 5 5 ∷ beat 6 6 ∷ beat 6 7 ∷ [];
}

-- A receive that names a thread is timed out though a letter of another has come; that letter is there for the next.
--   lwp 1 / pod 1
--   client 0 0
--   proc main / create a w 1 - / create b v 1 - / recv a 3 / recv any poll
--   proc w / sleep 9
--   proc v / send first 3 hi
--   post 0 x, six times
abbrev pub a_letter_of_another : Row
a_letter_of_another = record {
  script = posted (0 ∷ []) (beats 6)
      (speaking (codes "hi" ∷ []) (pod 1
      (named (codes "main" ∷ codes "w" ∷ codes "v" ∷ []) (codes "a" ∷ codes "b" ∷ []) [] [])
      (procedure 0 (stmt.Create 0 1 1 plain ∷ stmt.Create 1 2 1 plain
      ∷ stmt.Recv (Some (who.Named 0)) (mode.Until 3) ∷ stmt.Recv None mode.Poll ∷ [])
      ∷ procedure 1 (stmt.Sleep 9 ∷ [])
      ∷ procedure 2 (stmt.Send who.First 3 0 ∷ [])
      ∷ [])));
  turns = 100000;
  trace = codes "tick 1 client 0 seq 0 x\nt0: create w 1 -\nt0 = t1\ntick 2 client 0 seq 1 x\nt0: create v 1 -\nt0 = t2\ntick 3 client 0 seq 2 x\nt0: recv t1 3\ntick 4 client 0 seq 3 x\nt1: sleep 9\ntick 5 client 0 seq 4 x\nt2: send t0 3 hi\ntick 6 client 0 seq 5 x\nt0 ! LE_TIMEOUT\nt0: recv any poll\nt0 = letter t2 3 hi\nt0: return\nt2 ! LE_NONEXIST\nt0 dies\nt2: return\nt2 dies\nstuck\n";
  halt = Stuck;
  calls = 8;
  takes = beat 0 0 ∷ beat 1 1 ∷ beat 2 2 ∷ beat 3 3 ∷ beat 4 4 ∷ beat 5 5 ∷ [];
}

-- A receive that names an agent is refused as the agent ends, and its timer is gone.
--   lwp 1 / pod 1
--   client 0 0
--   proc main / agent g 5 / create a w 1 - / recv g 4 / recv any wait
--   proc w / destroy g
--   post 0 x, seven times
abbrev pub an_agent_ends_first : Row
an_agent_ends_first = record {
  script = posted (0 ∷ []) (beats 7)
      (pod 1 (named (codes "main" ∷ codes "w" ∷ []) (codes "g" ∷ codes "a" ∷ []) [] [])
      (procedure 0 (stmt.Agent 0 5 ∷ stmt.Create 1 1 1 plain
      ∷ stmt.Recv (Some (who.Named 0)) (mode.Until 4) ∷ stmt.Recv None mode.Block ∷ [])
      ∷ procedure 1 (stmt.Destroy (who.Named 0) ∷ [])
      ∷ []));
  turns = 100000;
  trace = codes "tick 1 client 0 seq 0 x\nt0: agent 5\nt0 = t1\ntick 2 client 0 seq 1 x\nt0: create w 1 -\nt0 = t2\ntick 3 client 0 seq 2 x\nt0: recv t1 4\ntick 4 client 0 seq 3 x\nt2: destroy t1\nt0 ! LE_NONEXIST\nt2 = 0\ntick 5 client 0 seq 4 x\nt2: return\nt2 dies\ntick 6 client 0 seq 5 x\nt0: recv any wait\ntick 7 client 0 seq 6 x\nstuck\n";
  halt = Stuck;
  calls = 6;
  takes = beat 0 0 ∷ beat 1 1 ∷ beat 2 2 ∷ beat 3 3 ∷ beat 4 4 ∷ beat 5 5 ∷ beat 6 6 ∷ [];
}

-- As many ticks as a number can say: a receive may still be answered, a sleep comes to no end.
--   lwp 1 / pod 1
--   client 0 0
--   proc main / create a w 1 - / recv any 4294967295 / sleep 4294967295
--   proc w / send first 3 hi
--   post 0 x, five times
abbrev pub the_greatest_ticks : Row
the_greatest_ticks = record {
  script = posted (0 ∷ []) (beats 5)
      (speaking (codes "hi" ∷ []) (pod 1 (named (codes "main" ∷ codes "w" ∷ []) (codes "a" ∷ []) [] [])
      (procedure 0 (stmt.Create 0 1 1 plain ∷ stmt.Recv None (mode.Until 4294967295) ∷ stmt.Sleep 4294967295 ∷ [])
      ∷ procedure 1 (stmt.Send who.First 3 0 ∷ [])
      ∷ [])));
  turns = 100000;
  trace = codes "tick 1 client 0 seq 0 x\nt0: create w 1 -\nt0 = t1\ntick 2 client 0 seq 1 x\nt0: recv any 4294967295\ntick 3 client 0 seq 2 x\nt1: send t0 3 hi\nt0 = letter t1 3 hi\ntick 4 client 0 seq 3 x\nt0: sleep 4294967295\ntick 5 client 0 seq 4 x\nstuck\n";
  halt = Stuck;
  calls = 4;
  takes = beat 0 0 ∷ beat 1 1 ∷ beat 2 2 ∷ beat 3 3 ∷ beat 4 4 ∷ [];
}

-- A receive for so many ticks is refused as any other before it waits; for no tick it is timed out at once.
--   lwp 1 / pod 1
--   proc main / create a w 1 - / recv none 3 / recv self 3 / recv a 0
--   proc w
abbrev pub a_limit_and_its_refusals : Row
a_limit_and_its_refusals = record {
  script = pod 1 (named (codes "main" ∷ codes "w" ∷ []) (codes "a" ∷ []) [] [])
      (procedure 0 (stmt.Create 0 1 1 plain ∷ stmt.Recv (Some who.Nobody) (mode.Until 3)
      ∷ stmt.Recv (Some who.Me) (mode.Until 3) ∷ stmt.Recv (Some (who.Named 0)) (mode.Until 0) ∷ [])
      ∷ procedure 1 []
      ∷ []);
  turns = 100000;
  trace = codes "t0: create w 1 -\nt0 = t1\nt0: recv none 3\nt0 ! LE_NONEXIST\nt0: recv self 3\nt0 ! LE_INVALIDARG\nt0: recv t1 0\nt0 ! LE_TIMEOUT\nt0: return\nt0 dies\nt1: return\nt1 dies\npod ends 0\n";
  halt = Ended 0;
  calls = 6;
  takes = [];
}

-- A pod ends with the last thread that is no server, whatever ticks a server waits for.
--   lwp 1 / pod 1
--   client 0 0
--   proc main / create a w 1 v / yield self
--   proc w / sleep 9
--   post 0 x, five times
abbrev pub a_death_beside_a_sleeping_server : Row
a_death_beside_a_sleeping_server = record {
  script = posted (0 ∷ []) (beats 5)
      (pod 1 (named (codes "main" ∷ codes "w" ∷ []) (codes "a" ∷ []) [] [])
      (procedure 0 (stmt.Create 0 1 1 serving ∷ stmt.Yield who.Me ∷ [])
      ∷ procedure 1 (stmt.Sleep 9 ∷ [])
      ∷ []));
  turns = 100000;
  trace = codes "tick 1 client 0 seq 0 x\nt0: create w 1 v\nt0 = t1\ntick 2 client 0 seq 1 x\nt0: yield self\nt0 = 0\ntick 3 client 0 seq 2 x\nt1: sleep 9\ntick 4 client 0 seq 3 x\nt0: return\nt0 dies\npod ends 0\nleft client 0 1\n";
  halt = Ended 0;
  calls = 4;
  takes = beat 0 0 ∷ beat 1 1 ∷ beat 2 2 ∷ beat 3 3 ∷ [];
}

-- Where only servers live, a pod ends as the last of them falls asleep.
--   lwp 1 / pod 1
--   client 0 0
--   proc main / create a w 1 v
--   proc w / sleep 1
--   post 0 x, five times
abbrev pub a_server_falls_asleep : Row
a_server_falls_asleep = record {
  script = posted (0 ∷ []) (beats 5)
      (pod 1 (named (codes "main" ∷ codes "w" ∷ []) (codes "a" ∷ []) [] [])
      (procedure 0 (stmt.Create 0 1 1 serving ∷ [])
      ∷ procedure 1 (stmt.Sleep 1 ∷ [])
      ∷ []));
  turns = 100000;
  trace = codes "tick 1 client 0 seq 0 x\nt0: create w 1 v\nt0 = t1\ntick 2 client 0 seq 1 x\nt0: return\nt0 dies\ntick 3 client 0 seq 2 x\nt1: sleep 1\npod ends 0\nleft client 0 2\n";
  halt = Ended 0;
  calls = 3;
  takes = beat 0 0 ∷ beat 1 1 ∷ beat 2 2 ∷ [];
}

-- A session is spent though somebody sleeps; the ticks that are left are told.
--   lwp 1 / pod 1
--   client 0 0
--   proc main / create a w 1 - / sleep 9
--   proc w / say up / again
--   post 0 x, five times
abbrev pub spent_beside_a_sleeper : Row
spent_beside_a_sleeper = record {
  script = posted (0 ∷ []) (beats 5)
      (speaking (codes "up" ∷ []) (pod 1 (named (codes "main" ∷ codes "w" ∷ []) (codes "a" ∷ []) [] [])
      (procedure 0 (stmt.Create 0 1 1 plain ∷ stmt.Sleep 9 ∷ [])
      ∷ procedure 1 (stmt.Say 0 ∷ stmt.Again ∷ [])
      ∷ [])));
  turns = 3;
  trace = codes "tick 1 client 0 seq 0 x\nt0: create w 1 -\nt0 = t1\ntick 2 client 0 seq 1 x\nt0: sleep 9\ntick 3 client 0 seq 2 x\nt1: say up\nt1 = 0\nspent 3\nleft client 0 2\n";
  halt = Spent;
  calls = 3;
  takes = beat 0 0 ∷ beat 1 1 ∷ beat 2 2 ∷ [];
}

-- While all sleep the clock ticks on, though no call is allowed any more; the session is spent as soon as somebody may
-- run.
--   lwp 1 / pod 1
--   client 0 0
--   proc main / sleep 2
--   post 0 x, four times
abbrev pub ticks_behind_the_last_turn : Row
ticks_behind_the_last_turn = record {
  script = posted (0 ∷ []) (beats 4)
      (pod 1 (named (codes "main" ∷ []) [] [] [])
      (procedure 0 (stmt.Sleep 2 ∷ [])
      ∷ []));
  turns = 1;
  trace = codes "tick 1 client 0 seq 0 x\nt0: sleep 2\ntick 2 client 0 seq 1 x\ntick 3 client 0 seq 2 x\nt0 = 0\nspent 1\nleft client 0 1\n";
  halt = Spent;
  calls = 1;
  takes = beat 0 0 ∷ beat 1 1 ∷ beat 1 2 ∷ [];
}

-- A sleeper is stuck once no tick is left, whatever lines are left of an event that has no agent.
--   lwp 1 / pod 1
--   client 0 0 / client 1 5
--   proc main / sleep 3
--   post 0 x / post 1 a / post 1 b
abbrev pub stuck_with_lines_of_another_event : Row
stuck_with_lines_of_another_event = record {
  script = posted (0 ∷ 5 ∷ []) (line 0 0 (codes "x") ∷ line 1 0 (codes "a") ∷ line 1 1 (codes "b") ∷ [])
      (pod 1 (named (codes "main" ∷ []) [] [] [])
      (procedure 0 (stmt.Sleep 3 ∷ [])
      ∷ []));
  turns = 100000;
  trace = codes "tick 1 client 0 seq 0 x\nt0: sleep 3\nstuck\nleft client 1 2\n";
  halt = Stuck;
  calls = 1;
  takes = beat 0 0 ∷ [];
}

-- states

-- a pod with its first thread alone, whose clock has ticked so often
abbrev pub at_time : ℕ → State
at_time n = record alone { now = n }

-- a pod whose first and only thread sleeps until then
abbrev pub asleep_until : ℕ → ℕ → State
asleep_until due n = record alone {
  threads = record (opening_thread 1) { block = block.Sleeping } ∷ [];
  order = [];
  timers = record { tid = 0; due = due } ∷ [];
  now = n;
}
