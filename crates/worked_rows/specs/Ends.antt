-- How a session ends: the pod by itself or by its servers, a stuck pod, and the turns allowed.
use Rattle.trace_text.specs.declared.ends.Halt.TheVariants.{Ended, Spent, Stuck}
use Rattle.std.specs.Prelude.{None, Some, [], codes, false, true, ◌∷◌}
use Rattle.worked_rows.specs.Threads.{first_run}
use Rattle.worked_rows.specs.Words.{Row, asleep, line, named, plain, pod, posted, procedure, serving, speaking, took}
use Rattle.script_text.specs.declared.script.Who.TheVariants as who
use Rattle.script_text.specs.declared.script.ExitStmt.TheVariants as exit_stmt
use Rattle.script_text.specs.declared.script.Stmt.TheVariants as stmt
use Rattle.lwp_types.specs.declared.call.Mode.TheVariants as mode

-- Five calls within five turns: the pod ends.
abbrev pub first_run_exact_turns : Row
first_run_exact_turns = record first_run { turns = 5 }

-- The last call isn't made any more.
abbrev pub first_run_one_turn_fewer : Row
first_run_one_turn_fewer = record first_run {
  turns = 4;
  trace = codes "t0: create worker 1 -\nt0 = t1\nt0: yield self\nt0 = 0\nt1: say hi\nt1 = 0\nt1: return\nt1 dies\nspent 4\n";
  halt = Spent;
  calls = 4;
}

-- A procedure without an end makes as many calls as it may.
--   lwp 1 / pod 1
--   proc main / yield self / again
abbrev pub budgets_spent : Row
budgets_spent = record {
  script = pod 1 (named (codes "main" ∷ []) [] [] [])
      (procedure 0 (stmt.Yield who.Me ∷ stmt.Again ∷ [])
      ∷ []);
  turns = 10;
  trace = codes "t0: yield self\nt0 = 0\nt0: yield self\nt0 = 0\nt0: yield self\nt0 = 0\nt0: yield self\nt0 = 0\nt0: yield self\nt0 = 0\nt0: yield self\nt0 = 0\nt0: yield self\nt0 = 0\nt0: yield self\nt0 = 0\nt0: yield self\nt0 = 0\nt0: yield self\nt0 = 0\nspent 10\n";
  halt = Spent;
  calls = 10;
  takes = [];
}

-- Nine words and a return take ten turns.
--   lwp 1 / pod 1
--   proc main / say x / say x / say x / say x / say x / say x / say x / say x / say x
abbrev pub budgets_nine10 : Row
budgets_nine10 = record {
  script = speaking
      (codes "x" ∷ codes "x" ∷ codes "x" ∷ codes "x" ∷ codes "x" ∷ codes "x" ∷ codes "x" ∷ codes "x" ∷ codes "x" ∷ [])
      (pod 1 (named (codes "main" ∷ []) [] [] [])
      (procedure 0 (stmt.Say 0 ∷ stmt.Say 1 ∷ stmt.Say 2 ∷ stmt.Say 3
      ∷ stmt.Say 4 ∷ stmt.Say 5 ∷ stmt.Say 6 ∷ stmt.Say 7
      ∷ stmt.Say 8 ∷ [])
      ∷ []));
  turns = 10;
  trace = codes "t0: say x\nt0 = 0\nt0: say x\nt0 = 0\nt0: say x\nt0 = 0\nt0: say x\nt0 = 0\nt0: say x\nt0 = 0\nt0: say x\nt0 = 0\nt0: say x\nt0 = 0\nt0: say x\nt0 = 0\nt0: say x\nt0 = 0\nt0: return\nt0 dies\npod ends 0\n";
  halt = Ended 0;
  calls = 10;
  takes = [];
}

-- One turn fewer: all words, and no return.
abbrev pub budgets_nine9 : Row
budgets_nine9 = record budgets_nine10 {
  turns = 9;
  trace = codes "t0: say x\nt0 = 0\nt0: say x\nt0 = 0\nt0: say x\nt0 = 0\nt0: say x\nt0 = 0\nt0: say x\nt0 = 0\nt0: say x\nt0 = 0\nt0: say x\nt0 = 0\nt0: say x\nt0 = 0\nt0: say x\nt0 = 0\nspent 9\n";
  halt = Spent;
  calls = 9;
}

-- The last turn allowed leaves nobody to run: that is stuck, and not spent.
--   lwp 1 / pod 1
--   proc main / recv any wait
abbrev pub budgets_stuck : Row
budgets_stuck = record {
  script = pod 1 (named (codes "main" ∷ []) [] [] [])
      (procedure 0 (stmt.Recv None mode.Block ∷ [])
      ∷ []);
  turns = 1;
  trace = codes "t0: recv any wait\nstuck\n";
  halt = Stuck;
  calls = 1;
  takes = [];
}

-- A pod that is told to end runs no exit procedure.
--   lwp 1 / pod 1
--   proc main / onexit note x / podexit 7
abbrev pub pod_exit : Row
pod_exit = record {
  script = speaking (codes "x" ∷ []) (pod 1 (named (codes "main" ∷ []) [] [] [])
      (procedure 0 (stmt.OnExit (exit_stmt.Note 0) ∷ stmt.PodExit 7 ∷ [])
      ∷ []));
  turns = 100000;
  trace = codes "t0: onexit note x\nt0 = 0\nt0: podexit 7\npod ends 7\n";
  halt = Ended 7;
  calls = 2;
  takes = [];
}

-- The status is 0 at first; 99 is the greatest, for both calls.
--   lwp 1 / pod 1
--   proc main / getexit / setexit 100 / getexit / setexit 99 / getexit / podexit 100 / getexit
abbrev pub statuses_at_both_ends : Row
statuses_at_both_ends = record {
  script = pod 1 (named (codes "main" ∷ []) [] [] [])
      (procedure 0 (stmt.GetExit ∷ stmt.SetExit 100 ∷ stmt.GetExit ∷ stmt.SetExit 99 ∷ stmt.GetExit ∷ stmt.PodExit 100
      ∷ stmt.GetExit ∷ [])
      ∷ []);
  turns = 100000;
  trace = codes "t0: getexit\nt0 = 0\nt0: setexit 100\nt0 ! LE_INVALIDARG\nt0: getexit\nt0 = 0\nt0: setexit 99\nt0 = 0\nt0: getexit\nt0 = 99\nt0: podexit 100\nt0 ! LE_INVALIDARG\nt0: getexit\nt0 = 99\nt0: return\nt0 dies\npod ends 99\n";
  halt = Ended 99;
  calls = 8;
  takes = [];
}

-- The pod ends at once, though others could still run, and the caller isn't answered.
--   lwp 1 / pod 1
--   proc main / create a w 1 - / setexit 5 / podexit 99
--   proc w / say never
abbrev pub podexit_whoever_lives : Row
podexit_whoever_lives = record {
  script = speaking (codes "never" ∷ []) (pod 1 (named (codes "main" ∷ codes "w" ∷ []) (codes "a" ∷ []) [] [])
      (procedure 0 (stmt.Create 0 1 1 plain ∷ stmt.SetExit 5 ∷ stmt.PodExit 99 ∷ [])
      ∷ procedure 1 (stmt.Say 0 ∷ [])
      ∷ []));
  turns = 100000;
  trace = codes "t0: create w 1 -\nt0 = t1\nt0: setexit 5\nt0 = 0\nt0: podexit 99\npod ends 99\n";
  halt = Ended 99;
  calls = 3;
  takes = [];
}

-- The status of the last call counts, also where it is 0.
--   lwp 1 / pod 1
--   proc main / setexit 7 / podexit 0
abbrev pub podexit_with_0 : Row
podexit_with_0 = record {
  script = pod 1 (named (codes "main" ∷ []) [] [] [])
      (procedure 0 (stmt.SetExit 7 ∷ stmt.PodExit 0 ∷ [])
      ∷ []);
  turns = 100000;
  trace = codes "t0: setexit 7\nt0 = 0\nt0: podexit 0\npod ends 0\n";
  halt = Ended 0;
  calls = 2;
  takes = [];
}

-- A server that suspends itself is answered first, and then the pod ends.
--   lwp 1 / pod 1
--   proc main / create a w 1 v
--   proc w / suspend self / say never
abbrev pub a_server_suspends_itself : Row
a_server_suspends_itself = record {
  script = speaking (codes "never" ∷ []) (pod 1 (named (codes "main" ∷ codes "w" ∷ []) (codes "a" ∷ []) [] [])
      (procedure 0 (stmt.Create 0 1 1 serving ∷ [])
      ∷ procedure 1 (stmt.Suspend who.Me ∷ stmt.Say 0 ∷ [])
      ∷ []));
  turns = 100000;
  trace = codes "t0: create w 1 v\nt0 = t1\nt0: return\nt0 dies\nt1: suspend self\nt1 = 0\npod ends 0\n";
  halt = Ended 0;
  calls = 3;
  takes = [];
}

-- A server that waits is not waited for, whatever its agent could still be brought.
--   lwp 1 / pod 1
--   client 0 5
--   proc main / create a w 1 v
--   proc w / agent g 5 / recv g wait / recv g wait
--   post 0 one / post 0 two
abbrev pub servers_alone : Row
servers_alone = record {
  script = posted (5 ∷ []) (line 0 0 (codes "one") ∷ line 0 1 (codes "two") ∷ [])
      (pod 1 (named (codes "main" ∷ codes "w" ∷ []) (codes "a" ∷ codes "g" ∷ []) [] [])
      (procedure 0 (stmt.Create 0 1 1 serving ∷ [])
      ∷ procedure 1
      (stmt.Agent 1 5 ∷ stmt.Recv (Some (who.Named 1)) mode.Block ∷ stmt.Recv (Some (who.Named 1)) mode.Block ∷ [])
      ∷ []));
  turns = 100000;
  trace = codes "t0: create w 1 v\nt0 = t1\nt0: return\nt0 dies\nt1: agent 5\nt1 = t2\nevent 5 client 0 seq 0 one\nt1: recv t2 wait\nt1 = letter t2 240 one\nt1: recv t2 wait\npod ends 0\nleft client 0 1\n";
  halt = Ended 0;
  calls = 5;
  takes = took 3 5 (line 0 0 (codes "one")) ∷ [];
}

-- The pod ends with its last thread that isn't a server.
--   lwp 1 / pod 1
--   proc main / create a w 1 sv
--   proc w / say never
abbrev pub a_suspended_server_is_not_waited_for : Row
a_suspended_server_is_not_waited_for = record {
  script = speaking (codes "never" ∷ []) (pod 1 (named (codes "main" ∷ codes "w" ∷ []) (codes "a" ∷ []) [] [])
      (procedure 0 (stmt.Create 0 1 1 (record { suspended = true; nolastrites = false; server = true }) ∷ [])
      ∷ procedure 1 (stmt.Say 0 ∷ [])
      ∷ []));
  turns = 100000;
  trace = codes "t0: create w 1 sv\nt0 = t1\nt0: return\nt0 dies\npod ends 0\n";
  halt = Ended 0;
  calls = 2;
  takes = [];
}

-- A server that may run goes on, also where it is the last.
--   lwp 1 / pod 1
--   proc main / create a w 1 v
--   proc w / say on
abbrev pub a_server_that_may_run : Row
a_server_that_may_run = record {
  script = speaking (codes "on" ∷ []) (pod 1 (named (codes "main" ∷ codes "w" ∷ []) (codes "a" ∷ []) [] [])
      (procedure 0 (stmt.Create 0 1 1 serving ∷ [])
      ∷ procedure 1 (stmt.Say 0 ∷ [])
      ∷ []));
  turns = 100000;
  trace = codes "t0: create w 1 v\nt0 = t1\nt0: return\nt0 dies\nt1: say on\nt1 = 0\nt1: return\nt1 dies\npod ends 0\n";
  halt = Ended 0;
  calls = 4;
  takes = [];
}

-- A suspended thread that isn't a server keeps the pod from ending, for good.
--   lwp 1 / pod 1
--   proc main / create a w 1 sv / create b w 1 s
--   proc w / say never
abbrev pub a_suspended_thread_keeps_the_pod : Row
a_suspended_thread_keeps_the_pod = record {
  script = speaking (codes "never" ∷ [])
      (pod 1 (named (codes "main" ∷ codes "w" ∷ []) (codes "a" ∷ codes "b" ∷ []) [] [])
      (procedure 0 (stmt.Create 0 1 1 (record { suspended = true; nolastrites = false; server = true })
      ∷ stmt.Create 1 1 1 asleep
      ∷ [])
      ∷ procedure 1 (stmt.Say 0 ∷ [])
      ∷ []));
  turns = 100000;
  trace = codes "t0: create w 1 sv\nt0 = t1\nt0: create w 1 s\nt0 = t2\nt0: return\nt0 dies\nstuck\n";
  halt = Stuck;
  calls = 3;
  takes = [];
}

-- Two threads wait for each other's death.
--   lwp 1 / pod 1
--   proc main / create a j 1 - / join a
--   proc j / join first
abbrev pub threads_that_join_each_other : Row
threads_that_join_each_other = record {
  script = pod 1 (named (codes "main" ∷ codes "j" ∷ []) (codes "a" ∷ []) [] [])
      (procedure 0 (stmt.Create 0 1 1 plain ∷ stmt.Join (who.Named 0) ∷ [])
      ∷ procedure 1 (stmt.Join who.First ∷ [])
      ∷ []);
  turns = 100000;
  trace = codes "t0: create j 1 -\nt0 = t1\nt0: join t1\nt1: join t0\nstuck\n";
  halt = Stuck;
  calls = 3;
  takes = [];
}
