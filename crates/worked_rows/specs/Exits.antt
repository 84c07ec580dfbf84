-- Exit procedures: when they run, in which order, and what each of the eight comes to.
use Rattle.trace_text.specs.declared.ends.Halt.TheVariants.{Ended, Stuck}
use Rattle.std.specs.Prelude.{None, [], codes, ◌∷◌}
use Rattle.worked_rows.specs.Words.{Row, asleep, named, plain, pod, procedure, speaking}
use Rattle.script_text.specs.declared.script.Who.TheVariants as who
use Rattle.script_lines.specs.declared.table.Test.TheVariants as test
use Rattle.script_text.specs.declared.script.ExitStmt.TheVariants as exit_stmt
use Rattle.script_text.specs.declared.script.Stmt.TheVariants as stmt
use Rattle.lwp_types.specs.declared.call.Mode.TheVariants as mode
use Rattle.lwp_types.specs.declared.call.Pattern.TheVariants as pattern
use Rattle.lwp_types.specs.declared.call.Func.TheVariants as func

-- A raise runs the exit procedures of the frames that it leaves, last set first.
--   lwp 1 / pod 1
--   proc main / handle all - 0 / skip caught / call one / raise 9
--   proc one / onexit note a / call two
--   proc two / onexit note b / onexit note c / raise 7
abbrev pub raise_through_two_frames : Row
raise_through_two_frames = record {
  script = speaking (codes "a" ∷ codes "b" ∷ codes "c" ∷ [])
      (pod 1 (named (codes "main" ∷ codes "one" ∷ codes "two" ∷ []) [] [] [])
      (procedure 0 (stmt.Handle pattern.All func.Nothing 0 ∷ stmt.Skip test.Caught ∷ stmt.CallProc 1
      ∷ stmt.Raise 9 ∷ [])
      ∷ procedure 1 (stmt.OnExit (exit_stmt.Note 0) ∷ stmt.CallProc 2 ∷ [])
      ∷ procedure 2 (stmt.OnExit (exit_stmt.Note 1) ∷ stmt.OnExit (exit_stmt.Note 2) ∷ stmt.Raise 7 ∷ [])
      ∷ []));
  turns = 100000;
  trace = codes "t0: handle all - 0\nt0 = 0\nt0: call one\nt0 = 0\nt0: onexit note a\nt0 = 0\nt0: call two\nt0 = 0\nt0: onexit note b\nt0 = 1\nt0: onexit note c\nt0 = 2\nt0: raise 7\nexit x2 note c = 0\nexit x1 note b = 0\nexit x0 note a = 0\nt0 caught 7\nt0: raise 9\nt0 ! LE_NONEXIST\nt0: return\nt0 dies\npod ends 0\n";
  halt = Ended 0;
  calls = 9;
  takes = [];
}

-- At a death, an exit procedure may still reply to a letter.
--   lwp 1 / pod 1
--   proc main / create a w 1 - / send a 3 hi
--   proc w / recv any wait / onexit reply sender yes
abbrev pub exit_that_replies : Row
exit_that_replies = record {
  script = speaking (codes "hi" ∷ codes "yes" ∷ [])
      (pod 1 (named (codes "main" ∷ codes "w" ∷ []) (codes "a" ∷ []) [] [])
      (procedure 0 (stmt.Create 0 1 1 plain ∷ stmt.Send (who.Named 0) 3 0 ∷ [])
      ∷ procedure 1 (stmt.Recv None mode.Block ∷ stmt.OnExit (exit_stmt.Reply who.Sender 1) ∷ [])
      ∷ []));
  turns = 100000;
  trace = codes "t0: create w 1 -\nt0 = t1\nt0: send t1 3 hi\nt1: recv any wait\nt1 = letter t0 3 hi\nt1: onexit reply t0 yes\nt1 = 0\nt1: return\nt0 = reply yes\nexit x0 reply t0 yes = 0\nt1 dies\nt0: return\nt0 dies\npod ends 0\n";
  halt = Ended 0;
  calls = 6;
  takes = [];
}

-- A return runs those of its own frame, and no others.
--   lwp 1 / pod 1
--   proc main / onexit note main / call p / say on
--   proc p / onexit note one / onexit note two
abbrev pub at_a_return : Row
at_a_return = record {
  script = speaking (codes "main" ∷ codes "on" ∷ codes "one" ∷ codes "two" ∷ [])
      (pod 1 (named (codes "main" ∷ codes "p" ∷ []) [] [] [])
      (procedure 0 (stmt.OnExit (exit_stmt.Note 0) ∷ stmt.CallProc 1 ∷ stmt.Say 1 ∷ [])
      ∷ procedure 1 (stmt.OnExit (exit_stmt.Note 2) ∷ stmt.OnExit (exit_stmt.Note 3) ∷ [])
      ∷ []));
  turns = 100000;
  trace = codes "t0: onexit note main\nt0 = 0\nt0: call p\nt0 = 0\nt0: onexit note one\nt0 = 1\nt0: onexit note two\nt0 = 2\nt0: return\nexit x2 note two = 0\nexit x1 note one = 0\nt0 = 0\nt0: say on\nt0 = 0\nt0: return\nexit x0 note main = 0\nt0 dies\npod ends 0\n";
  halt = Ended 0;
  calls = 7;
  takes = [];
}

-- A catch leaves the exit procedures of the handler's own frame, also those set after it.
--   lwp 1 / pod 1
--   proc main / onexit note a / handle all - 0 / skip caught / onexit note c / skip caught / call p / say after
--   proc p / onexit note b / raise 5
abbrev pub those_of_the_handlers_frame_stay : Row
those_of_the_handlers_frame_stay = record {
  script = speaking (codes "a" ∷ codes "c" ∷ codes "after" ∷ codes "b" ∷ [])
      (pod 1 (named (codes "main" ∷ codes "p" ∷ []) [] [] [])
      (procedure 0 (stmt.OnExit (exit_stmt.Note 0) ∷ stmt.Handle pattern.All func.Nothing 0 ∷ stmt.Skip test.Caught
      ∷ stmt.OnExit (exit_stmt.Note 1) ∷ stmt.Skip test.Caught ∷ stmt.CallProc 1
      ∷ stmt.Say 2 ∷ [])
      ∷ procedure 1 (stmt.OnExit (exit_stmt.Note 3) ∷ stmt.Raise 5 ∷ [])
      ∷ []));
  turns = 100000;
  trace = codes "t0: onexit note a\nt0 = 0\nt0: handle all - 0\nt0 = 0\nt0: onexit note c\nt0 = 1\nt0: call p\nt0 = 0\nt0: onexit note b\nt0 = 2\nt0: raise 5\nexit x2 note b = 0\nt0 caught 5\nt0: say after\nt0 = 0\nt0: return\nexit x1 note c = 0\nexit x0 note a = 0\nt0 dies\npod ends 0\n";
  halt = Ended 0;
  calls = 8;
  takes = [];
}

-- A raise that leaves no frame runs nothing; the exit procedure is the last mark then.
--   lwp 1 / pod 1
--   proc main / handle 1 - 0 / skip caught / onexit note x / skip caught / raise 1 / unhandle
abbrev pub a_raise_within_one_frame : Row
a_raise_within_one_frame = record {
  script = speaking (codes "x" ∷ []) (pod 1 (named (codes "main" ∷ []) [] [] [])
      (procedure 0 (stmt.Handle (pattern.Num 1) func.Nothing 0 ∷ stmt.Skip test.Caught ∷ stmt.OnExit (exit_stmt.Note 0)
      ∷ stmt.Skip test.Caught ∷ stmt.Raise 1 ∷ stmt.Unhandle ∷ [])
      ∷ []));
  turns = 100000;
  trace = codes "t0: handle 1 - 0\nt0 = 0\nt0: onexit note x\nt0 = 0\nt0: raise 1\nt0 caught 1\nt0: unhandle\nt0 ! LE_INVALIDARG\nt0: return\nexit x0 note x = 0\nt0 dies\npod ends 0\n";
  halt = Ended 0;
  calls = 5;
  takes = [];
}

-- A notification that is caught unwinds as a raise does; one that is answered doesn't.
--   lwp 1 / pod 1
--   proc main / handle 2 give 8 / handle 3 - 0 / skip caught / call p / say end
--   proc p / onexit note x / excnotify 2 / excnotify 3
abbrev pub a_caught_notification : Row
a_caught_notification = record {
  script = speaking (codes "end" ∷ codes "x" ∷ []) (pod 1 (named (codes "main" ∷ codes "p" ∷ []) [] [] [])
      (procedure 0 (stmt.Handle (pattern.Num 2) func.Give 8
      ∷ stmt.Handle (pattern.Num 3) func.Nothing 0 ∷ stmt.Skip test.Caught
      ∷ stmt.CallProc 1 ∷ stmt.Say 0 ∷ [])
      ∷ procedure 1 (stmt.OnExit (exit_stmt.Note 1) ∷ stmt.ExcNotify 2 ∷ stmt.ExcNotify 3 ∷ [])
      ∷ []));
  turns = 100000;
  trace = codes "t0: handle 2 give 8\nt0 = 0\nt0: handle 3 - 0\nt0 = 0\nt0: call p\nt0 = 0\nt0: onexit note x\nt0 = 0\nt0: excnotify 2\nt0 = 8\nt0: excnotify 3\nexit x0 note x = 0\nt0 caught 3\nt0: say end\nt0 = 0\nt0: return\nt0 dies\npod ends 0\n";
  halt = Ended 0;
  calls = 8;
  takes = [];
}

-- Registrations are counted over all threads, and not given twice.
--   lwp 1 / pod 1
--   proc main / onexit note a / create b w 1 - / yield self / onexit note c
--   proc w / onexit note b
abbrev pub numbers_over_all_threads : Row
numbers_over_all_threads = record {
  script = speaking (codes "a" ∷ codes "c" ∷ codes "b" ∷ [])
      (pod 1 (named (codes "main" ∷ codes "w" ∷ []) (codes "b" ∷ []) [] [])
      (procedure 0 (stmt.OnExit (exit_stmt.Note 0) ∷ stmt.Create 0 1 1 plain ∷ stmt.Yield who.Me
      ∷ stmt.OnExit (exit_stmt.Note 1) ∷ [])
      ∷ procedure 1 (stmt.OnExit (exit_stmt.Note 2) ∷ [])
      ∷ []));
  turns = 100000;
  trace = codes "t0: onexit note a\nt0 = 0\nt0: create w 1 -\nt0 = t1\nt0: yield self\nt0 = 0\nt1: onexit note b\nt1 = 1\nt1: return\nexit x1 note b = 0\nt1 dies\nt0: onexit note c\nt0 = 2\nt0: return\nexit x2 note c = 0\nexit x0 note a = 0\nt0 dies\npod ends 0\n";
  halt = Ended 0;
  calls = 7;
  takes = [];
}

-- What a name means counts as the exit procedure is set, and not as it runs.
--   lwp 1 / pod 1
--   proc main / create a w 1 s / onexit resume a / create a w 1 s / ping a
--   proc w
abbrev pub names_as_they_were : Row
names_as_they_were = record {
  script = pod 1 (named (codes "main" ∷ codes "w" ∷ []) (codes "a" ∷ []) [] [])
      (procedure 0 (stmt.Create 0 1 1 asleep ∷ stmt.OnExit (exit_stmt.Resume (who.Named 0)) ∷ stmt.Create 0 1 1 asleep
      ∷ stmt.Ping (who.Named 0) ∷ [])
      ∷ procedure 1 []
      ∷ []);
  turns = 100000;
  trace = codes "t0: create w 1 s\nt0 = t1\nt0: onexit resume t1\nt0 = 0\nt0: create w 1 s\nt0 = t2\nt0: ping t2\nt0 = 0\nt0: return\nexit x0 resume t1 = 0\nt0 dies\nt1: return\nt1 dies\nstuck\n";
  halt = Stuck;
  calls = 6;
  takes = [];
}

-- An exit procedure that names a dead thread is refused as it runs.
--   lwp 1 / pod 1
--   proc main / create a w 1 - / onexit resume a / onexit reply a x / destroy a
--   proc w
abbrev pub an_exit_may_name_the_dead : Row
an_exit_may_name_the_dead = record {
  script = speaking (codes "x" ∷ []) (pod 1 (named (codes "main" ∷ codes "w" ∷ []) (codes "a" ∷ []) [] [])
      (procedure 0 (stmt.Create 0 1 1 plain ∷ stmt.OnExit (exit_stmt.Resume (who.Named 0))
      ∷ stmt.OnExit (exit_stmt.Reply (who.Named 0) 0) ∷ stmt.Destroy (who.Named 0) ∷ [])
      ∷ procedure 1 []
      ∷ []));
  turns = 100000;
  trace = codes "t0: create w 1 -\nt0 = t1\nt0: onexit resume t1\nt0 = 0\nt0: onexit reply t1 x\nt0 = 1\nt0: destroy t1\nt1 dies\nt0 = 0\nt0: return\nexit x1 reply t1 x ! LE_NONEXIST\nexit x0 resume t1 ! LE_NONEXIST\nt0 dies\npod ends 0\n";
  halt = Ended 0;
  calls = 5;
  takes = [];
}

-- Each call that names something is refused where there is no such thing.
--   lwp 1 / pod 1
--   proc main / onexit monexit m / onexit monbreak m / onexit notify c / onexit broadcast c / onexit reply none x /
--     onexit resume none / onexit setexit 100
abbrev pub what_is_not_there : Row
what_is_not_there = record {
  script = speaking (codes "x" ∷ []) (pod 1 (named (codes "main" ∷ []) [] (codes "m" ∷ []) (codes "c" ∷ []))
      (procedure 0 (stmt.OnExit (exit_stmt.MonExit 0) ∷ stmt.OnExit (exit_stmt.MonBreak 0)
      ∷ stmt.OnExit (exit_stmt.Notify 0)
      ∷ stmt.OnExit (exit_stmt.Broadcast 0) ∷ stmt.OnExit (exit_stmt.Reply who.Nobody 0)
      ∷ stmt.OnExit (exit_stmt.Resume who.Nobody) ∷ stmt.OnExit (exit_stmt.SetExit 100) ∷ [])
      ∷ []));
  turns = 100000;
  trace = codes "t0: onexit monexit none\nt0 = 0\nt0: onexit monbreak none\nt0 = 1\nt0: onexit notify none\nt0 = 2\nt0: onexit broadcast none\nt0 = 3\nt0: onexit reply none x\nt0 = 4\nt0: onexit resume none\nt0 = 5\nt0: onexit setexit 100\nt0 = 6\nt0: return\nexit x6 setexit 100 ! LE_INVALIDARG\nexit x5 resume none ! LE_NONEXIST\nexit x4 reply none x ! LE_NONEXIST\nexit x3 broadcast none ! LE_NONEXIST\nexit x2 notify none ! LE_NONEXIST\nexit x1 monbreak none ! LE_NONEXIST\nexit x0 monexit none ! LE_NONEXIST\nt0 dies\npod ends 0\n";
  halt = Ended 0;
  calls = 8;
  takes = [];
}

-- Without the monitor, without a lock and without a letter.
--   lwp 1 / pod 1
--   proc main / moncreate m / cvcreate c m / onexit monexit m / onexit monbreak m / onexit notify c /
--     onexit broadcast c / onexit reply self x
abbrev pub what_is_not_held : Row
what_is_not_held = record {
  script = speaking (codes "x" ∷ []) (pod 1 (named (codes "main" ∷ []) [] (codes "m" ∷ []) (codes "c" ∷ []))
      (procedure 0 (stmt.MonCreate 0 ∷ stmt.CvCreate 0 0 ∷ stmt.OnExit (exit_stmt.MonExit 0)
      ∷ stmt.OnExit (exit_stmt.MonBreak 0)
      ∷ stmt.OnExit (exit_stmt.Notify 0) ∷ stmt.OnExit (exit_stmt.Broadcast 0)
      ∷ stmt.OnExit (exit_stmt.Reply who.Me 0) ∷ [])
      ∷ []));
  turns = 100000;
  trace = codes "t0: moncreate\nt0 = m0\nt0: cvcreate m0\nt0 = c0\nt0: onexit monexit m0\nt0 = 0\nt0: onexit monbreak m0\nt0 = 1\nt0: onexit notify c0\nt0 = 2\nt0: onexit broadcast c0\nt0 = 3\nt0: onexit reply self x\nt0 = 4\nt0: return\nexit x4 reply t0 x ! LE_NOWAIT\nexit x3 broadcast c0 ! LE_NOTOWNED\nexit x2 notify c0 ! LE_NOTOWNED\nexit x1 monbreak m0 ! LE_NOTOWNED\nexit x0 monexit m0 ! LE_INVALIDARG\nt0 dies\npod ends 0\n";
  halt = Ended 0;
  calls = 8;
  takes = [];
}

-- Wakes by a notify and a broadcast, a thread resumed, a status set, a note, and the monitor handed on.
--   lwp 1 / pod 1
--   proc main / moncreate m / cvcreate c m / create a w 1 - / create b w 1 - / create d s 1 s / yield self / enter m /
--     onexit monexit m / onexit broadcast c / onexit notify c / onexit resume d / onexit setexit 3 / onexit note
--   proc w / enter m / wait c / monexit m
--   proc s / say up
abbrev pub carried_out : Row
carried_out = record {
  script = speaking ([] ∷ codes "up" ∷ []) (pod 1 (named (codes "main" ∷ codes "w" ∷ codes "s" ∷ [])
      (codes "a" ∷ codes "b" ∷ codes "d" ∷ []) (codes "m" ∷ []) (codes "c" ∷ []))
      (procedure 0 (stmt.MonCreate 0 ∷ stmt.CvCreate 0 0 ∷ stmt.Create 0 1 1 plain ∷ stmt.Create 1 1 1 plain
      ∷ stmt.Create 2 2 1 asleep ∷ stmt.Yield who.Me ∷ stmt.Enter 0 ∷ stmt.OnExit (exit_stmt.MonExit 0)
      ∷ stmt.OnExit (exit_stmt.Broadcast 0) ∷ stmt.OnExit (exit_stmt.Notify 0)
      ∷ stmt.OnExit (exit_stmt.Resume (who.Named 2)) ∷ stmt.OnExit (exit_stmt.SetExit 3)
      ∷ stmt.OnExit (exit_stmt.Note 0) ∷ [])
      ∷ procedure 1 (stmt.Enter 0 ∷ stmt.Wait 0 ∷ stmt.MonExit 0 ∷ [])
      ∷ procedure 2 (stmt.Say 1 ∷ [])
      ∷ []));
  turns = 100000;
  trace = codes "t0: moncreate\nt0 = m0\nt0: cvcreate m0\nt0 = c0\nt0: create w 1 -\nt0 = t1\nt0: create w 1 -\nt0 = t2\nt0: create s 1 s\nt0 = t3\nt0: yield self\nt0 = 0\nt1: enter m0\nt1 = 0\nt1: wait c0\nt2: enter m0\nt2 = 0\nt2: wait c0\nt0: enter m0\nt0 = 0\nt0: onexit monexit m0\nt0 = 0\nt0: onexit broadcast c0\nt0 = 1\nt0: onexit notify c0\nt0 = 2\nt0: onexit resume t3\nt0 = 3\nt0: onexit setexit 3\nt0 = 4\nt0: onexit note\nt0 = 5\nt0: return\nexit x5 note = 0\nexit x4 setexit 3 = 0\nexit x3 resume t3 = 0\nexit x2 notify c0 = 0\nexit x1 broadcast c0 = 0\nt1 = 0\nexit x0 monexit m0 = 0\nt0 dies\nt3: say up\nt3 = 0\nt3: return\nt3 dies\nt1: monexit m0\nt2 = 0\nt1 = 0\nt1: return\nt1 dies\nt2: monexit m0\nt2 = 0\nt2: return\nt2 dies\npod ends 3\n";
  halt = Ended 3;
  calls = 24;
  takes = [];
}

-- One level less each time; a level too many is refused. The thread that waits has the monitor in between.
--   lwp 1 / pod 1
--   proc main / moncreate m / create a e 1 - / call p / monexit m
--   proc p / enter m / enter m / onexit monexit m / onexit monexit m / onexit monexit m / yield self
--   proc e / enter m / monexit m
abbrev pub leaving_twice : Row
leaving_twice = record {
  script = pod 1 (named (codes "main" ∷ codes "e" ∷ codes "p" ∷ []) (codes "a" ∷ []) (codes "m" ∷ []) [])
      (procedure 0 (stmt.MonCreate 0 ∷ stmt.Create 0 1 1 plain ∷ stmt.CallProc 2 ∷ stmt.MonExit 0 ∷ [])
      ∷ procedure 2 (stmt.Enter 0 ∷ stmt.Enter 0 ∷ stmt.OnExit (exit_stmt.MonExit 0) ∷ stmt.OnExit (exit_stmt.MonExit 0)
      ∷ stmt.OnExit (exit_stmt.MonExit 0) ∷ stmt.Yield who.Me ∷ [])
      ∷ procedure 1 (stmt.Enter 0 ∷ stmt.MonExit 0 ∷ [])
      ∷ []);
  turns = 100000;
  trace = codes "t0: moncreate\nt0 = m0\nt0: create e 1 -\nt0 = t1\nt0: call p\nt0 = 0\nt0: enter m0\nt0 = 0\nt0: enter m0\nt0 = 1\nt0: onexit monexit m0\nt0 = 0\nt0: onexit monexit m0\nt0 = 1\nt0: onexit monexit m0\nt0 = 2\nt0: yield self\nt0 = 0\nt1: enter m0\nt0: return\nexit x2 monexit m0 = 0\nt1 = 0\nexit x1 monexit m0 = 0\nexit x0 monexit m0 ! LE_INVALIDARG\nt0 = 0\nt0: monexit m0\nt0 ! LE_INVALIDARG\nt0: return\nt0 dies\nt1: monexit m0\nt1 = 0\nt1: return\nt1 dies\npod ends 0\n";
  halt = Ended 0;
  calls = 15;
  takes = [];
}

-- A lock of another thread is broken, and passes to the one that waits.
--   lwp 1 / pod 1
--   proc main / moncreate m / create a o 1 - / create b e 1 - / onexit monbreak m / yield self
--   proc o / enter m / yield self / monexit m
--   proc e / enter m / monexit m
abbrev pub breaking_anothers_lock : Row
breaking_anothers_lock = record {
  script = pod 1 (named (codes "main" ∷ codes "o" ∷ codes "e" ∷ []) (codes "a" ∷ codes "b" ∷ []) (codes "m" ∷ []) [])
      (procedure 0 (stmt.MonCreate 0 ∷ stmt.Create 0 1 1 plain ∷ stmt.Create 1 2 1 plain
      ∷ stmt.OnExit (exit_stmt.MonBreak 0)
      ∷ stmt.Yield who.Me ∷ [])
      ∷ procedure 1 (stmt.Enter 0 ∷ stmt.Yield who.Me ∷ stmt.MonExit 0 ∷ [])
      ∷ procedure 2 (stmt.Enter 0 ∷ stmt.MonExit 0 ∷ [])
      ∷ []);
  turns = 100000;
  trace = codes "t0: moncreate\nt0 = m0\nt0: create o 1 -\nt0 = t1\nt0: create e 1 -\nt0 = t2\nt0: onexit monbreak m0\nt0 = 0\nt0: yield self\nt0 = 0\nt1: enter m0\nt1 = 0\nt1: yield self\nt1 = 0\nt2: enter m0\nt0: return\nt2 = 0\nexit x0 monbreak m0 = 0\nt0 dies\nt1: monexit m0\nt1 ! LE_INVALIDARG\nt1: return\nt1 dies\nt2: monexit m0\nt2 = 0\nt2: return\nt2 dies\npod ends 0\n";
  halt = Ended 0;
  calls = 13;
  takes = [];
}

-- The reply is refused, and then the sender, as its receiver dies.
--   lwp 1 / pod 1
--   proc main / create a w 1 - / send a 2 hi
--   proc w / recv any wait / onexit reply sender yes
abbrev pub a_reply_that_is_too_long : Row
a_reply_that_is_too_long = record {
  script = speaking (codes "hi" ∷ codes "yes" ∷ [])
      (pod 1 (named (codes "main" ∷ codes "w" ∷ []) (codes "a" ∷ []) [] [])
      (procedure 0 (stmt.Create 0 1 1 plain ∷ stmt.Send (who.Named 0) 2 0 ∷ [])
      ∷ procedure 1 (stmt.Recv None mode.Block ∷ stmt.OnExit (exit_stmt.Reply who.Sender 1) ∷ [])
      ∷ []));
  turns = 100000;
  trace = codes "t0: create w 1 -\nt0 = t1\nt0: send t1 2 hi\nt1: recv any wait\nt1 = letter t0 2 hi\nt1: onexit reply t0 yes\nt1 = 0\nt1: return\nexit x0 reply t0 yes ! LE_INVALIDARG\nt0 ! LE_NONEXIST\nt1 dies\nt0: return\nt0 dies\npod ends 0\n";
  halt = Ended 0;
  calls = 6;
  takes = [];
}

-- A suspended thread that dies isn't resumed by its own exit procedure, which is answered 0 all the same.
--   lwp 1 / pod 1
--   proc main / create a w 1 - / yield self / destroy a / threads
--   proc w / onexit resume self / suspend self
abbrev pub resuming_itself : Row
resuming_itself = record {
  script = pod 1 (named (codes "main" ∷ codes "w" ∷ []) (codes "a" ∷ []) [] [])
      (procedure 0 (stmt.Create 0 1 1 plain ∷ stmt.Yield who.Me ∷ stmt.Destroy (who.Named 0) ∷ stmt.Threads ∷ [])
      ∷ procedure 1 (stmt.OnExit (exit_stmt.Resume who.Me) ∷ stmt.Suspend who.Me ∷ [])
      ∷ []);
  turns = 100000;
  trace = codes "t0: create w 1 -\nt0 = t1\nt0: yield self\nt0 = 0\nt1: onexit resume self\nt1 = 0\nt1: suspend self\nt1 = 0\nt0: destroy t1\nexit x0 resume t1 = 0\nt1 dies\nt0 = 0\nt0: threads\nt0 = ids t0\nt0: return\nt0 dies\npod ends 0\n";
  halt = Ended 0;
  calls = 7;
  takes = [];
}

-- The status that the last exit procedure sets is the pod's.
--   lwp 1 / pod 1
--   proc main / onexit setexit 99 / onexit setexit 4
abbrev pub a_status_by_an_exit : Row
a_status_by_an_exit = record {
  script = pod 1 (named (codes "main" ∷ []) [] [] [])
      (procedure 0 (stmt.OnExit (exit_stmt.SetExit 99) ∷ stmt.OnExit (exit_stmt.SetExit 4) ∷ [])
      ∷ []);
  turns = 100000;
  trace =
      codes "t0: onexit setexit 99\nt0 = 0\nt0: onexit setexit 4\nt0 = 1\nt0: return\nexit x1 setexit 4 = 0\nexit x0 setexit 99 = 0\nt0 dies\npod ends 99\n";
  halt = Ended 99;
  calls = 3;
  takes = [];
}
