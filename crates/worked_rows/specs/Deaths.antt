-- What a death does, step by step.
use Rattle.trace_text.specs.declared.ends.Halt.TheVariants.{Ended}
use Rattle.std.specs.Prelude.{None, Some, [], codes, ◌∷◌}
use Rattle.worked_rows.specs.Words.{Row, named, plain, pod, procedure, speaking}
use Rattle.script_text.specs.declared.script.Who.TheVariants as who
use Rattle.script_text.specs.declared.script.ExitStmt.TheVariants as exit_stmt
use Rattle.script_text.specs.declared.script.Stmt.TheVariants as stmt
use Rattle.lwp_types.specs.declared.call.Mode.TheVariants as mode
use Rattle.lwp_types.specs.declared.call.Pattern.TheVariants as pattern
use Rattle.lwp_types.specs.declared.call.Func.TheVariants as func

-- A thread that waited on a condition doesn't own its monitor as it dies.
--   lwp 1 / pod 1
--   proc main / moncreate m / cvcreate c m / create a w 1 - / yield self / destroy a
--   proc w / enter m / onexit monexit m / wait c
abbrev pub destroyed_while_waiting : Row
destroyed_while_waiting = record {
  script = pod 1 (named (codes "main" ∷ codes "w" ∷ []) (codes "a" ∷ []) (codes "m" ∷ []) (codes "c" ∷ []))
      (procedure 0 (stmt.MonCreate 0 ∷ stmt.CvCreate 0 0 ∷ stmt.Create 0 1 1 plain ∷ stmt.Yield who.Me
      ∷ stmt.Destroy (who.Named 0) ∷ [])
      ∷ procedure 1 (stmt.Enter 0 ∷ stmt.OnExit (exit_stmt.MonExit 0) ∷ stmt.Wait 0 ∷ [])
      ∷ []);
  turns = 100000;
  trace = codes "t0: moncreate\nt0 = m0\nt0: cvcreate m0\nt0 = c0\nt0: create w 1 -\nt0 = t1\nt0: yield self\nt0 = 0\nt1: enter m0\nt1 = 0\nt1: onexit monexit m0\nt1 = 0\nt1: wait c0\nt0: destroy t1\nexit x0 monexit m0 ! LE_INVALIDARG\nt1 dies\nt0 = 0\nt0: return\nt0 dies\npod ends 0\n";
  halt = Ended 0;
  calls = 9;
  takes = [];
}

-- The letter of a destroyed sender is gone before it was received.
--   lwp 1 / pod 1
--   proc main / create a s 1 - / yield self / senders / destroy a / senders / recv any poll
--   proc s / send first 9 hi
abbrev pub its_own_letter : Row
its_own_letter = record {
  script = speaking (codes "hi" ∷ []) (pod 1 (named (codes "main" ∷ codes "s" ∷ []) (codes "a" ∷ []) [] [])
      (procedure 0 (stmt.Create 0 1 1 plain ∷ stmt.Yield who.Me ∷ stmt.Senders
      ∷ stmt.Destroy (who.Named 0) ∷ stmt.Senders
      ∷ stmt.Recv None mode.Poll ∷ [])
      ∷ procedure 1 (stmt.Send who.First 9 0 ∷ [])
      ∷ []));
  turns = 100000;
  trace = codes "t0: create s 1 -\nt0 = t1\nt0: yield self\nt0 = 0\nt1: send t0 9 hi\nt0: senders\nt0 = ids t1\nt0: destroy t1\nt1 dies\nt0 = 0\nt0: senders\nt0 = ids\nt0: recv any poll\nt0 ! LE_TIMEOUT\nt0: return\nt0 dies\npod ends 0\n";
  halt = Ended 0;
  calls = 8;
  takes = [];
}

-- The letter was received before its sender was destroyed: there is nobody to reply to.
--   lwp 1 / pod 1
--   proc main / create a s 1 - / yield self / recv any wait / destroy a / senders / reply a x
--   proc s / send first 9 hi
abbrev pub its_received_letter : Row
its_received_letter = record {
  script = speaking (codes "x" ∷ codes "hi" ∷ []) (pod 1 (named (codes "main" ∷ codes "s" ∷ []) (codes "a" ∷ []) [] [])
      (procedure 0 (stmt.Create 0 1 1 plain ∷ stmt.Yield who.Me ∷ stmt.Recv None mode.Block ∷ stmt.Destroy (who.Named 0)
      ∷ stmt.Senders ∷ stmt.Reply (who.Named 0) 0 ∷ [])
      ∷ procedure 1 (stmt.Send who.First 9 1 ∷ [])
      ∷ []));
  turns = 100000;
  trace = codes "t0: create s 1 -\nt0 = t1\nt0: yield self\nt0 = 0\nt1: send t0 9 hi\nt0: recv any wait\nt0 = letter t1 9 hi\nt0: destroy t1\nt1 dies\nt0 = 0\nt0: senders\nt0 = ids\nt0: reply t1 x\nt0 ! LE_NONEXIST\nt0: return\nt0 dies\npod ends 0\n";
  halt = Ended 0;
  calls = 8;
  takes = [];
}

-- A destroyed waiter is no longer woken.
--   lwp 1 / pod 1
--   proc main / moncreate m / cvcreate c m / create a w 1 - / create b w 1 - / yield self / destroy a / cvwaiters c /
--     enter m / notify c / monwaiters m / monexit m
--   proc w / enter m / wait c / monexit m
abbrev pub its_wait : Row
its_wait = record {
  script = pod 1 (named (codes "main" ∷ codes "w" ∷ []) (codes "a" ∷ codes "b" ∷ []) (codes "m" ∷ []) (codes "c" ∷ []))
      (procedure 0 (stmt.MonCreate 0 ∷ stmt.CvCreate 0 0 ∷ stmt.Create 0 1 1 plain
      ∷ stmt.Create 1 1 1 plain ∷ stmt.Yield who.Me
      ∷ stmt.Destroy (who.Named 0) ∷ stmt.CvWaiters 0 ∷ stmt.Enter 0 ∷ stmt.Notify 0 ∷ stmt.MonWaiters 0
      ∷ stmt.MonExit 0 ∷ [])
      ∷ procedure 1 (stmt.Enter 0 ∷ stmt.Wait 0 ∷ stmt.MonExit 0 ∷ [])
      ∷ []);
  turns = 100000;
  trace = codes "t0: moncreate\nt0 = m0\nt0: cvcreate m0\nt0 = c0\nt0: create w 1 -\nt0 = t1\nt0: create w 1 -\nt0 = t2\nt0: yield self\nt0 = 0\nt1: enter m0\nt1 = 0\nt1: wait c0\nt2: enter m0\nt2 = 0\nt2: wait c0\nt0: destroy t1\nt1 dies\nt0 = 0\nt0: cvwaiters c0\nt0 = ids t2\nt0: enter m0\nt0 = 0\nt0: notify c0\nt0 = 0\nt0: monwaiters m0\nt0 = ids t2\nt0: monexit m0\nt2 = 0\nt0 = 0\nt0: return\nt0 dies\nt2: monexit m0\nt2 = 0\nt2: return\nt2 dies\npod ends 0\n";
  halt = Ended 0;
  calls = 18;
  takes = [];
}

-- A destroyed requester doesn't get the monitor.
--   lwp 1 / pod 1
--   proc main / moncreate m / enter m / create a e 1 - / yield self / monwaiters m / destroy a / monwaiters m /
--     monexit m / condenter m
--   proc e / enter m
abbrev pub its_entry_request : Row
its_entry_request = record {
  script = pod 1 (named (codes "main" ∷ codes "e" ∷ []) (codes "a" ∷ []) (codes "m" ∷ []) [])
      (procedure 0 (stmt.MonCreate 0 ∷ stmt.Enter 0 ∷ stmt.Create 0 1 1 plain ∷ stmt.Yield who.Me ∷ stmt.MonWaiters 0
      ∷ stmt.Destroy (who.Named 0) ∷ stmt.MonWaiters 0 ∷ stmt.MonExit 0 ∷ stmt.CondEnter 0 ∷ [])
      ∷ procedure 1 (stmt.Enter 0 ∷ [])
      ∷ []);
  turns = 100000;
  trace = codes "t0: moncreate\nt0 = m0\nt0: enter m0\nt0 = 0\nt0: create e 1 -\nt0 = t1\nt0: yield self\nt0 = 0\nt1: enter m0\nt0: monwaiters m0\nt0 = ids t1\nt0: destroy t1\nt1 dies\nt0 = 0\nt0: monwaiters m0\nt0 = ids\nt0: monexit m0\nt0 = 0\nt0: condenter m0\nt0 = 0\nt0: return\nt0 dies\npod ends 0\n";
  halt = Ended 0;
  calls = 11;
  takes = [];
}

-- A destroyed joiner is no longer answered.
--   lwp 1 / pod 1
--   proc main / create a j 1 - / create b w 1 - / yield self / destroy a / say done
--   proc j / join b
--   proc w / yield self / say last
abbrev pub its_join : Row
its_join = record {
  script = speaking (codes "done" ∷ codes "last" ∷ [])
      (pod 1 (named (codes "main" ∷ codes "j" ∷ codes "w" ∷ []) (codes "a" ∷ codes "b" ∷ []) [] [])
      (procedure 0 (stmt.Create 0 1 1 plain ∷ stmt.Create 1 2 1 plain ∷ stmt.Yield who.Me ∷ stmt.Destroy (who.Named 0)
      ∷ stmt.Say 0 ∷ [])
      ∷ procedure 1 (stmt.Join (who.Named 1) ∷ [])
      ∷ procedure 2 (stmt.Yield who.Me ∷ stmt.Say 1 ∷ [])
      ∷ []));
  turns = 100000;
  trace = codes "t0: create j 1 -\nt0 = t1\nt0: create w 1 -\nt0 = t2\nt0: yield self\nt0 = 0\nt1: join t2\nt2: yield self\nt2 = 0\nt0: destroy t1\nt1 dies\nt0 = 0\nt0: say done\nt0 = 0\nt0: return\nt0 dies\nt2: say last\nt2 = 0\nt2: return\nt2 dies\npod ends 0\n";
  halt = Ended 0;
  calls = 10;
  takes = [];
}

-- A waiter that was woken, and is destroyed before it has the monitor, gives up its turn.
--   lwp 1 / pod 1
--   proc main / moncreate m / cvcreate c m / create a w 1 - / yield self / enter m / notify c / monwaiters m /
--     destroy a / monwaiters m / monexit m / mondestroy m
--   proc w / enter m / enter m / onexit notify c / wait c
abbrev pub a_woken_waiter : Row
a_woken_waiter = record {
  script = pod 1 (named (codes "main" ∷ codes "w" ∷ []) (codes "a" ∷ []) (codes "m" ∷ []) (codes "c" ∷ []))
      (procedure 0 (stmt.MonCreate 0 ∷ stmt.CvCreate 0 0 ∷ stmt.Create 0 1 1 plain ∷ stmt.Yield who.Me ∷ stmt.Enter 0
      ∷ stmt.Notify 0 ∷ stmt.MonWaiters 0 ∷ stmt.Destroy (who.Named 0) ∷ stmt.MonWaiters 0 ∷ stmt.MonExit 0
      ∷ stmt.MonDestroy 0 ∷ [])
      ∷ procedure 1 (stmt.Enter 0 ∷ stmt.Enter 0 ∷ stmt.OnExit (exit_stmt.Notify 0) ∷ stmt.Wait 0 ∷ [])
      ∷ []);
  turns = 100000;
  trace = codes "t0: moncreate\nt0 = m0\nt0: cvcreate m0\nt0 = c0\nt0: create w 1 -\nt0 = t1\nt0: yield self\nt0 = 0\nt1: enter m0\nt1 = 0\nt1: enter m0\nt1 = 1\nt1: onexit notify c0\nt1 = 0\nt1: wait c0\nt0: enter m0\nt0 = 0\nt0: notify c0\nt0 = 0\nt0: monwaiters m0\nt0 = ids t1\nt0: destroy t1\nexit x0 notify c0 ! LE_NOTOWNED\nt1 dies\nt0 = 0\nt0: monwaiters m0\nt0 = ids\nt0: monexit m0\nt0 = 0\nt0: mondestroy m0\nt0 = 0\nt0: return\nt0 dies\npod ends 0\n";
  halt = Ended 0;
  calls = 16;
  takes = [];
}

-- The sender of a letter that was received learns of the death.
--   lwp 1 / pod 1
--   proc main / create a w 1 - / send a 10 hi
--   proc w / recv any wait
abbrev pub death_with_received_letter : Row
death_with_received_letter = record {
  script = speaking (codes "hi" ∷ []) (pod 1 (named (codes "main" ∷ codes "w" ∷ []) (codes "a" ∷ []) [] [])
      (procedure 0 (stmt.Create 0 1 1 plain ∷ stmt.Send (who.Named 0) 10 0 ∷ [])
      ∷ procedure 1 (stmt.Recv None mode.Block ∷ [])
      ∷ []));
  turns = 100000;
  trace = codes "t0: create w 1 -\nt0 = t1\nt0: send t1 10 hi\nt1: recv any wait\nt1 = letter t0 10 hi\nt1: return\nt0 ! LE_NONEXIST\nt1 dies\nt0: return\nt0 dies\npod ends 0\n";
  halt = Ended 0;
  calls = 5;
  takes = [];
}

-- All its exit procedures run, over all frames, the last set first.
--   lwp 1 / pod 1
--   proc main / create a p 1 - / yield self / destroy a
--   proc p / onexit note a / call q
--   proc q / onexit note b / handle all - 0 / onexit note c / yield self
abbrev pub exits_of_all_frames : Row
exits_of_all_frames = record {
  script = speaking (codes "a" ∷ codes "b" ∷ codes "c" ∷ [])
      (pod 1 (named (codes "main" ∷ codes "p" ∷ codes "q" ∷ []) (codes "a" ∷ []) [] [])
      (procedure 0 (stmt.Create 0 1 1 plain ∷ stmt.Yield who.Me ∷ stmt.Destroy (who.Named 0) ∷ [])
      ∷ procedure 1 (stmt.OnExit (exit_stmt.Note 0) ∷ stmt.CallProc 2 ∷ [])
      ∷ procedure 2 (stmt.OnExit (exit_stmt.Note 1) ∷ stmt.Handle pattern.All func.Nothing 0
      ∷ stmt.OnExit (exit_stmt.Note 2) ∷ stmt.Yield who.Me ∷ [])
      ∷ []));
  turns = 100000;
  trace = codes "t0: create p 1 -\nt0 = t1\nt0: yield self\nt0 = 0\nt1: onexit note a\nt1 = 0\nt1: call q\nt1 = 0\nt1: onexit note b\nt1 = 1\nt1: handle all - 0\nt1 = 0\nt1: onexit note c\nt1 = 2\nt1: yield self\nt1 = 0\nt0: destroy t1\nexit x2 note c = 0\nexit x1 note b = 0\nexit x0 note a = 0\nt1 dies\nt0 = 0\nt0: return\nt0 dies\npod ends 0\n";
  halt = Ended 0;
  calls = 10;
  takes = [];
}

-- Its monitors are released whole, the last acquired first.
--   lwp 1 / pod 1
--   proc main / moncreate m / moncreate n / enter m / enter n / enter m / create a e 1 - / create b f 1 - /
--     yield self
--   proc e / enter m / monexit m / monexit m
--   proc f / enter n
abbrev pub locks_last_acquired_first : Row
locks_last_acquired_first = record {
  script = pod 1 (named (codes "main" ∷ codes "e" ∷ codes "f" ∷ []) (codes "a" ∷ codes "b" ∷ [])
      (codes "m" ∷ codes "n" ∷ []) [])
      (procedure 0 (stmt.MonCreate 0 ∷ stmt.MonCreate 1 ∷ stmt.Enter 0 ∷ stmt.Enter 1 ∷ stmt.Enter 0
      ∷ stmt.Create 0 1 1 plain
      ∷ stmt.Create 1 2 1 plain ∷ stmt.Yield who.Me ∷ [])
      ∷ procedure 1 (stmt.Enter 0 ∷ stmt.MonExit 0 ∷ stmt.MonExit 0 ∷ [])
      ∷ procedure 2 (stmt.Enter 1 ∷ [])
      ∷ []);
  turns = 100000;
  trace = codes "t0: moncreate\nt0 = m0\nt0: moncreate\nt0 = m1\nt0: enter m0\nt0 = 0\nt0: enter m1\nt0 = 0\nt0: enter m0\nt0 = 1\nt0: create e 1 -\nt0 = t1\nt0: create f 1 -\nt0 = t2\nt0: yield self\nt0 = 0\nt1: enter m0\nt2: enter m1\nt0: return\nt2 = 0\nt1 = 0\nt0 dies\nt2: return\nt2 dies\nt1: monexit m0\nt1 = 0\nt1: monexit m0\nt1 ! LE_INVALIDARG\nt1: return\nt1 dies\npod ends 0\n";
  halt = Ended 0;
  calls = 15;
  takes = [];
}

-- Its agents end in the order of their births, whatever their events, and refuse each thread that waits for them.
--   lwp 1 / pod 1
--   proc main / create a o 1 - / create b r 1 - / create c q 1 - / yield self / join a
--   proc o / agent g 5 / agent h 4 / yield self
--   proc r / recv h wait
--   proc q / recv g wait
abbrev pub agents_in_birth_order : Row
agents_in_birth_order = record {
  script = pod 1 (named (codes "main" ∷ codes "o" ∷ codes "r" ∷ codes "q" ∷ [])
      (codes "a" ∷ codes "b" ∷ codes "c" ∷ codes "g" ∷ codes "h" ∷ []) [] [])
      (procedure 0 (stmt.Create 0 1 1 plain ∷ stmt.Create 1 2 1 plain ∷ stmt.Create 2 3 1 plain ∷ stmt.Yield who.Me
      ∷ stmt.Join (who.Named 0) ∷ [])
      ∷ procedure 1 (stmt.Agent 3 5 ∷ stmt.Agent 4 4 ∷ stmt.Yield who.Me ∷ [])
      ∷ procedure 2 (stmt.Recv (Some (who.Named 4)) mode.Block ∷ [])
      ∷ procedure 3 (stmt.Recv (Some (who.Named 3)) mode.Block ∷ [])
      ∷ []);
  turns = 100000;
  trace = codes "t0: create o 1 -\nt0 = t1\nt0: create r 1 -\nt0 = t2\nt0: create q 1 -\nt0 = t3\nt0: yield self\nt0 = 0\nt1: agent 5\nt1 = t4\nt1: agent 4\nt1 = t5\nt1: yield self\nt1 = 0\nt2: recv t5 wait\nt3: recv t4 wait\nt0: join t1\nt1: return\nt3 ! LE_NONEXIST\nt2 ! LE_NONEXIST\nt0 = 0\nt1 dies\nt3: return\nt3 dies\nt2: return\nt2 dies\nt0: return\nt0 dies\npod ends 0\n";
  halt = Ended 0;
  calls = 14;
  takes = [];
}

-- Its senders are refused in the order of sending, received or not.
--   lwp 1 / pod 1
--   proc main / create a s 1 - / create b s 1 - / create c s 1 - / yield a / yield c / yield b / recv c wait
--   proc s / send first 9 hi
abbrev pub senders_in_send_order : Row
senders_in_send_order = record {
  script = speaking (codes "hi" ∷ [])
      (pod 1 (named (codes "main" ∷ codes "s" ∷ []) (codes "a" ∷ codes "b" ∷ codes "c" ∷ []) [] [])
      (procedure 0 (stmt.Create 0 1 1 plain ∷ stmt.Create 1 1 1 plain ∷ stmt.Create 2 1 1 plain
      ∷ stmt.Yield (who.Named 0)
      ∷ stmt.Yield (who.Named 2) ∷ stmt.Yield (who.Named 1) ∷ stmt.Recv (Some (who.Named 2)) mode.Block ∷ [])
      ∷ procedure 1 (stmt.Send who.First 9 0 ∷ [])
      ∷ []));
  turns = 100000;
  trace = codes "t0: create s 1 -\nt0 = t1\nt0: create s 1 -\nt0 = t2\nt0: create s 1 -\nt0 = t3\nt0: yield t1\nt0 = 0\nt1: send t0 9 hi\nt0: yield t3\nt0 = 0\nt3: send t0 9 hi\nt0: yield t2\nt0 = 0\nt2: send t0 9 hi\nt0: recv t3 wait\nt0 = letter t3 9 hi\nt0: return\nt1 ! LE_NONEXIST\nt3 ! LE_NONEXIST\nt2 ! LE_NONEXIST\nt0 dies\nt1: return\nt1 dies\nt3: return\nt3 dies\nt2: return\nt2 dies\npod ends 0\n";
  halt = Ended 0;
  calls = 14;
  takes = [];
}

-- Those that wait for its letter by name are refused in the order of birth, whichever began first.
--   lwp 1 / pod 1
--   proc main / create a n 1 - / create b n 1 - / yield b / yield a
--   proc n / recv first wait
abbrev pub named_receivers_in_birth_order : Row
named_receivers_in_birth_order = record {
  script = pod 1 (named (codes "main" ∷ codes "n" ∷ []) (codes "a" ∷ codes "b" ∷ []) [] [])
      (procedure 0 (stmt.Create 0 1 1 plain ∷ stmt.Create 1 1 1 plain ∷ stmt.Yield (who.Named 1)
      ∷ stmt.Yield (who.Named 0) ∷ [])
      ∷ procedure 1 (stmt.Recv (Some who.First) mode.Block ∷ [])
      ∷ []);
  turns = 100000;
  trace = codes "t0: create n 1 -\nt0 = t1\nt0: create n 1 -\nt0 = t2\nt0: yield t2\nt0 = 0\nt2: recv t0 wait\nt0: yield t1\nt0 = 0\nt1: recv t0 wait\nt0: return\nt1 ! LE_NONEXIST\nt2 ! LE_NONEXIST\nt0 dies\nt1: return\nt1 dies\nt2: return\nt2 dies\npod ends 0\n";
  halt = Ended 0;
  calls = 9;
  takes = [];
}

-- Those that have joined it are answered 0, in the order of birth.
--   lwp 1 / pod 1
--   proc main / create a j 1 - / create b j 1 - / yield b / yield a
--   proc j / join first
abbrev pub joiners_in_birth_order : Row
joiners_in_birth_order = record {
  script = pod 1 (named (codes "main" ∷ codes "j" ∷ []) (codes "a" ∷ codes "b" ∷ []) [] [])
      (procedure 0 (stmt.Create 0 1 1 plain ∷ stmt.Create 1 1 1 plain ∷ stmt.Yield (who.Named 1)
      ∷ stmt.Yield (who.Named 0) ∷ [])
      ∷ procedure 1 (stmt.Join who.First ∷ [])
      ∷ []);
  turns = 100000;
  trace = codes "t0: create j 1 -\nt0 = t1\nt0: create j 1 -\nt0 = t2\nt0: yield t2\nt0 = 0\nt2: join t0\nt0: yield t1\nt0 = 0\nt1: join t0\nt0: return\nt1 = 0\nt2 = 0\nt0 dies\nt1: return\nt1 dies\nt2: return\nt2 dies\npod ends 0\n";
  halt = Ended 0;
  calls = 9;
  takes = [];
}

-- One death with everything: exit procedure, monitor, agent, sender, named receiver, joiner, in this order.
--   lwp 1 / pod 1
--   proc main / moncreate m / enter m / agent g 5 / onexit note bye / create a e 1 - / create b r 1 - /
--     create c s 1 - / create d n 1 - / create f j 1 - / yield self
--   proc e / enter m
--   proc r / recv g wait
--   proc s / send first 9 hi
--   proc n / recv first wait
--   proc j / join first
abbrev pub all_at_once : Row
all_at_once = record {
  script = speaking (codes "bye" ∷ codes "hi" ∷ [])
      (pod 1 (named (codes "main" ∷ codes "e" ∷ codes "r" ∷ codes "s" ∷ codes "n" ∷ codes "j" ∷ [])
      (codes "g" ∷ codes "a" ∷ codes "b" ∷ codes "c" ∷ codes "d" ∷ codes "f" ∷ []) (codes "m" ∷ []) [])
      (procedure 0 (stmt.MonCreate 0 ∷ stmt.Enter 0 ∷ stmt.Agent 0 5 ∷ stmt.OnExit (exit_stmt.Note 0)
      ∷ stmt.Create 1 1 1 plain ∷ stmt.Create 2 2 1 plain ∷ stmt.Create 3 3 1 plain ∷ stmt.Create 4 4 1 plain
      ∷ stmt.Create 5 5 1 plain ∷ stmt.Yield who.Me ∷ [])
      ∷ procedure 1 (stmt.Enter 0 ∷ [])
      ∷ procedure 2 (stmt.Recv (Some (who.Named 0)) mode.Block ∷ [])
      ∷ procedure 3 (stmt.Send who.First 9 1 ∷ [])
      ∷ procedure 4 (stmt.Recv (Some who.First) mode.Block ∷ [])
      ∷ procedure 5 (stmt.Join who.First ∷ [])
      ∷ []));
  turns = 100000;
  trace = codes "t0: moncreate\nt0 = m0\nt0: enter m0\nt0 = 0\nt0: agent 5\nt0 = t1\nt0: onexit note bye\nt0 = 0\nt0: create e 1 -\nt0 = t2\nt0: create r 1 -\nt0 = t3\nt0: create s 1 -\nt0 = t4\nt0: create n 1 -\nt0 = t5\nt0: create j 1 -\nt0 = t6\nt0: yield self\nt0 = 0\nt2: enter m0\nt3: recv t1 wait\nt4: send t0 9 hi\nt5: recv t0 wait\nt6: join t0\nt0: return\nexit x0 note bye = 0\nt2 = 0\nt3 ! LE_NONEXIST\nt4 ! LE_NONEXIST\nt5 ! LE_NONEXIST\nt6 = 0\nt0 dies\nt2: return\nt2 dies\nt3: return\nt3 dies\nt4: return\nt4 dies\nt5: return\nt5 dies\nt6: return\nt6 dies\npod ends 0\n";
  halt = Ended 0;
  calls = 21;
  takes = [];
}

-- The order is by these kinds, and not by who came first.
--   lwp 1 / pod 1
--   proc main / moncreate m / enter m / agent g 5 / create f j 1 - / create d n 1 - / create c s 1 - /
--     create b r 1 - / create a e 1 - / yield self
--   proc e / enter m
--   proc r / recv g wait
--   proc s / send first 9 hi
--   proc n / recv first wait
--   proc j / join first
abbrev pub the_same_in_another_order : Row
the_same_in_another_order = record {
  script = speaking (codes "hi" ∷ [])
      (pod 1 (named (codes "main" ∷ codes "j" ∷ codes "n" ∷ codes "s" ∷ codes "r" ∷ codes "e" ∷ [])
      (codes "g" ∷ codes "f" ∷ codes "d" ∷ codes "c" ∷ codes "b" ∷ codes "a" ∷ []) (codes "m" ∷ []) [])
      (procedure 0 (stmt.MonCreate 0 ∷ stmt.Enter 0 ∷ stmt.Agent 0 5 ∷ stmt.Create 1 1 1 plain ∷ stmt.Create 2 2 1 plain
      ∷ stmt.Create 3 3 1 plain ∷ stmt.Create 4 4 1 plain ∷ stmt.Create 5 5 1 plain ∷ stmt.Yield who.Me ∷ [])
      ∷ procedure 5 (stmt.Enter 0 ∷ [])
      ∷ procedure 4 (stmt.Recv (Some (who.Named 0)) mode.Block ∷ [])
      ∷ procedure 3 (stmt.Send who.First 9 0 ∷ [])
      ∷ procedure 2 (stmt.Recv (Some who.First) mode.Block ∷ [])
      ∷ procedure 1 (stmt.Join who.First ∷ [])
      ∷ []));
  turns = 100000;
  trace = codes "t0: moncreate\nt0 = m0\nt0: enter m0\nt0 = 0\nt0: agent 5\nt0 = t1\nt0: create j 1 -\nt0 = t2\nt0: create n 1 -\nt0 = t3\nt0: create s 1 -\nt0 = t4\nt0: create r 1 -\nt0 = t5\nt0: create e 1 -\nt0 = t6\nt0: yield self\nt0 = 0\nt2: join t0\nt3: recv t0 wait\nt4: send t0 9 hi\nt5: recv t1 wait\nt6: enter m0\nt0: return\nt6 = 0\nt5 ! LE_NONEXIST\nt4 ! LE_NONEXIST\nt3 ! LE_NONEXIST\nt2 = 0\nt0 dies\nt6: return\nt6 dies\nt5: return\nt5 dies\nt4: return\nt4 dies\nt3: return\nt3 dies\nt2: return\nt2 dies\npod ends 0\n";
  halt = Ended 0;
  calls = 20;
  takes = [];
}
