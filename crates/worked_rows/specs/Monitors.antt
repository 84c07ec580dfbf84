-- Monitors, which their owners may enter again.
use Rattle.trace_text.specs.declared.ends.Halt.TheVariants.{Ended}
use Rattle.std.specs.Prelude.{[], codes, ◌∷◌}
use Rattle.worked_rows.specs.Words.{Row, limited, named, plain, pod, procedure}
use Rattle.script_text.specs.declared.script.Who.TheVariants as who
use Rattle.script_text.specs.declared.script.Stmt.TheVariants as stmt

-- Another thread breaks the lock, and the owner's own exit is refused.
--   lwp 1 / pod 1
--   proc main / moncreate m / create a w 1 - / enter m / yield self / monexit m
--   proc w / monbreak m / monbreak m
abbrev pub breaking_a_lock : Row
breaking_a_lock = record {
  script = pod 1 (named (codes "main" ∷ codes "w" ∷ []) (codes "a" ∷ []) (codes "m" ∷ []) [])
      (procedure 0 (stmt.MonCreate 0 ∷ stmt.Create 0 1 1 plain ∷ stmt.Enter 0 ∷ stmt.Yield who.Me ∷ stmt.MonExit 0 ∷ [])
      ∷ procedure 1 (stmt.MonBreak 0 ∷ stmt.MonBreak 0 ∷ [])
      ∷ []);
  turns = 100000;
  trace = codes "t0: moncreate\nt0 = m0\nt0: create w 1 -\nt0 = t1\nt0: enter m0\nt0 = 0\nt0: yield self\nt0 = 0\nt1: monbreak m0\nt1 = 0\nt1: monbreak m0\nt1 ! LE_NOTOWNED\nt1: return\nt1 dies\nt0: monexit m0\nt0 ! LE_INVALIDARG\nt0: return\nt0 dies\npod ends 0\n";
  halt = Ended 0;
  calls = 9;
  takes = [];
}

-- A conditional entry is refused where an entry waits; a monitor in use can't be destroyed.
--   lwp 1 / pod 1
--   proc main / moncreate m / create a w 1 - / enter m / enter m / yield self / monexit m / monexit m / mondestroy m /
--     enter m
--   proc w / condenter m / mondestroy m / enter m / monexit m
abbrev pub monitor_requests : Row
monitor_requests = record {
  script = pod 1 (named (codes "main" ∷ codes "w" ∷ []) (codes "a" ∷ []) (codes "m" ∷ []) [])
      (procedure 0 (stmt.MonCreate 0 ∷ stmt.Create 0 1 1 plain ∷ stmt.Enter 0 ∷ stmt.Enter 0
      ∷ stmt.Yield who.Me ∷ stmt.MonExit 0
      ∷ stmt.MonExit 0 ∷ stmt.MonDestroy 0 ∷ stmt.Enter 0 ∷ [])
      ∷ procedure 1 (stmt.CondEnter 0 ∷ stmt.MonDestroy 0 ∷ stmt.Enter 0 ∷ stmt.MonExit 0 ∷ [])
      ∷ []);
  turns = 100000;
  trace = codes "t0: moncreate\nt0 = m0\nt0: create w 1 -\nt0 = t1\nt0: enter m0\nt0 = 0\nt0: enter m0\nt0 = 1\nt0: yield self\nt0 = 0\nt1: condenter m0\nt1 ! LE_INUSE\nt1: mondestroy m0\nt1 ! LE_INUSE\nt1: enter m0\nt0: monexit m0\nt0 = 0\nt0: monexit m0\nt1 = 0\nt0 = 0\nt0: mondestroy m0\nt0 ! LE_INUSE\nt0: enter m0\nt1: monexit m0\nt0 = 0\nt1 = 0\nt1: return\nt1 dies\nt0: return\nt0 dies\npod ends 0\n";
  halt = Ended 0;
  calls = 15;
  takes = [];
}

-- Each call that takes a monitor refuses one that never was, and one that was destroyed.
--   lwp 1 / pod 1
--   proc main / enter m / condenter m / monexit m / monbreak m / mondestroy m / monwaiters m / cvcreate c m /
--     moncreate m / mondestroy m / enter m / condenter m / monexit m / monbreak m / mondestroy m / monwaiters m /
--     cvcreate c m
abbrev pub no_such_monitor : Row
no_such_monitor = record {
  script = pod 1 (named (codes "main" ∷ []) [] (codes "m" ∷ []) (codes "c" ∷ []))
      (procedure 0 (stmt.Enter 0 ∷ stmt.CondEnter 0 ∷ stmt.MonExit 0 ∷ stmt.MonBreak 0
      ∷ stmt.MonDestroy 0 ∷ stmt.MonWaiters 0
      ∷ stmt.CvCreate 0 0 ∷ stmt.MonCreate 0 ∷ stmt.MonDestroy 0 ∷ stmt.Enter 0 ∷ stmt.CondEnter 0 ∷ stmt.MonExit 0
      ∷ stmt.MonBreak 0 ∷ stmt.MonDestroy 0 ∷ stmt.MonWaiters 0 ∷ stmt.CvCreate 0 0 ∷ [])
      ∷ []);
  turns = 100000;
  trace = codes "t0: enter none\nt0 ! LE_NONEXIST\nt0: condenter none\nt0 ! LE_NONEXIST\nt0: monexit none\nt0 ! LE_NONEXIST\nt0: monbreak none\nt0 ! LE_NONEXIST\nt0: mondestroy none\nt0 ! LE_NONEXIST\nt0: monwaiters none\nt0 ! LE_NONEXIST\nt0: cvcreate none\nt0 ! LE_NONEXIST\nt0: moncreate\nt0 = m0\nt0: mondestroy m0\nt0 = 0\nt0: enter m0\nt0 ! LE_NONEXIST\nt0: condenter m0\nt0 ! LE_NONEXIST\nt0: monexit m0\nt0 ! LE_NONEXIST\nt0: monbreak m0\nt0 ! LE_NONEXIST\nt0: mondestroy m0\nt0 ! LE_NONEXIST\nt0: monwaiters m0\nt0 ! LE_NONEXIST\nt0: cvcreate m0\nt0 ! LE_NONEXIST\nt0: return\nt0 dies\npod ends 0\n";
  halt = Ended 0;
  calls = 17;
  takes = [];
}

-- The owner is told how often it had entered, and the monitor is in use until it has left as often.
--   lwp 1 / pod 1
--   proc main / moncreate m / monexit m / monbreak m / condenter m / enter m / condenter m / monexit m / monexit m /
--     mondestroy m / monexit m / monexit m / mondestroy m
abbrev pub entered_again_and_again : Row
entered_again_and_again = record {
  script = pod 1 (named (codes "main" ∷ []) [] (codes "m" ∷ []) [])
      (procedure 0 (stmt.MonCreate 0 ∷ stmt.MonExit 0 ∷ stmt.MonBreak 0 ∷ stmt.CondEnter 0
      ∷ stmt.Enter 0 ∷ stmt.CondEnter 0
      ∷ stmt.MonExit 0 ∷ stmt.MonExit 0 ∷ stmt.MonDestroy 0 ∷ stmt.MonExit 0 ∷ stmt.MonExit 0 ∷ stmt.MonDestroy 0
      ∷ [])
      ∷ []);
  turns = 100000;
  trace = codes "t0: moncreate\nt0 = m0\nt0: monexit m0\nt0 ! LE_INVALIDARG\nt0: monbreak m0\nt0 ! LE_NOTOWNED\nt0: condenter m0\nt0 = 0\nt0: enter m0\nt0 = 1\nt0: condenter m0\nt0 = 2\nt0: monexit m0\nt0 = 0\nt0: monexit m0\nt0 = 0\nt0: mondestroy m0\nt0 ! LE_INUSE\nt0: monexit m0\nt0 = 0\nt0: monexit m0\nt0 ! LE_INVALIDARG\nt0: mondestroy m0\nt0 = 0\nt0: return\nt0 dies\npod ends 0\n";
  halt = Ended 0;
  calls = 13;
  takes = [];
}

-- Nobody leaves a monitor for its owner; a thread that waits has it at the owner's death.
--   lwp 1 / pod 1
--   proc main / moncreate m / enter m / create a w 1 - / yield self
--   proc w / monexit m / condenter m / enter m
abbrev pub anothers_lock : Row
anothers_lock = record {
  script = pod 1 (named (codes "main" ∷ codes "w" ∷ []) (codes "a" ∷ []) (codes "m" ∷ []) [])
      (procedure 0 (stmt.MonCreate 0 ∷ stmt.Enter 0 ∷ stmt.Create 0 1 1 plain ∷ stmt.Yield who.Me ∷ [])
      ∷ procedure 1 (stmt.MonExit 0 ∷ stmt.CondEnter 0 ∷ stmt.Enter 0 ∷ [])
      ∷ []);
  turns = 100000;
  trace = codes "t0: moncreate\nt0 = m0\nt0: enter m0\nt0 = 0\nt0: create w 1 -\nt0 = t1\nt0: yield self\nt0 = 0\nt1: monexit m0\nt1 ! LE_INVALIDARG\nt1: condenter m0\nt1 ! LE_INUSE\nt1: enter m0\nt0: return\nt1 = 0\nt0 dies\nt1: return\nt1 dies\npod ends 0\n";
  halt = Ended 0;
  calls = 9;
  takes = [];
}

-- Of those who wait the first of the greatest priority enters next, and the others later.
--   lwp 1 / pod 3
--   proc main / moncreate m / enter m / create a w 1 - / create b w 2 - / create c w 2 - / setpri self 1 /
--     monwaiters m / monexit m
--   proc w / enter m / monexit m
abbrev pub the_greatest_priority_enters_next : Row
the_greatest_priority_enters_next = record {
  script = pod 3 (named (codes "main" ∷ codes "w" ∷ []) (codes "a" ∷ codes "b" ∷ codes "c" ∷ []) (codes "m" ∷ []) [])
      (procedure 0 (stmt.MonCreate 0 ∷ stmt.Enter 0 ∷ stmt.Create 0 1 1 plain
      ∷ stmt.Create 1 1 2 plain ∷ stmt.Create 2 1 2 plain
      ∷ stmt.SetPri who.Me 1 ∷ stmt.MonWaiters 0 ∷ stmt.MonExit 0 ∷ [])
      ∷ procedure 1 (stmt.Enter 0 ∷ stmt.MonExit 0 ∷ [])
      ∷ []);
  turns = 100000;
  trace = codes "t0: moncreate\nt0 = m0\nt0: enter m0\nt0 = 0\nt0: create w 1 -\nt0 = t1\nt0: create w 2 -\nt0 = t2\nt0: create w 2 -\nt0 = t3\nt0: setpri self 1\nt0 = 3\nt2: enter m0\nt3: enter m0\nt1: enter m0\nt0: monwaiters m0\nt0 = ids t2 t3 t1\nt0: monexit m0\nt2 = 0\nt0 = 0\nt2: monexit m0\nt3 = 0\nt2 = 0\nt2: return\nt2 dies\nt3: monexit m0\nt1 = 0\nt3 = 0\nt3: return\nt3 dies\nt0: return\nt0 dies\nt1: monexit m0\nt1 = 0\nt1: return\nt1 dies\npod ends 0\n";
  halt = Ended 0;
  calls = 18;
  takes = [];
}

-- A break ends every level of the owner's, and the one that waits enters at once, at the first level.
--   lwp 1 / pod 1
--   proc main / moncreate m / enter m / enter m / create a e 1 - / create b w 1 - / yield self / monexit m
--   proc e / enter m / monexit m / monexit m
--   proc w / monbreak m
abbrev pub a_broken_lock_passes_on : Row
a_broken_lock_passes_on = record {
  script = pod 1 (named (codes "main" ∷ codes "e" ∷ codes "w" ∷ []) (codes "a" ∷ codes "b" ∷ []) (codes "m" ∷ []) [])
      (procedure 0 (stmt.MonCreate 0 ∷ stmt.Enter 0 ∷ stmt.Enter 0 ∷ stmt.Create 0 1 1 plain ∷ stmt.Create 1 2 1 plain
      ∷ stmt.Yield who.Me ∷ stmt.MonExit 0 ∷ [])
      ∷ procedure 1 (stmt.Enter 0 ∷ stmt.MonExit 0 ∷ stmt.MonExit 0 ∷ [])
      ∷ procedure 2 (stmt.MonBreak 0 ∷ [])
      ∷ []);
  turns = 100000;
  trace = codes "t0: moncreate\nt0 = m0\nt0: enter m0\nt0 = 0\nt0: enter m0\nt0 = 1\nt0: create e 1 -\nt0 = t1\nt0: create w 1 -\nt0 = t2\nt0: yield self\nt0 = 0\nt1: enter m0\nt2: monbreak m0\nt1 = 0\nt2 = 0\nt2: return\nt2 dies\nt0: monexit m0\nt0 ! LE_INVALIDARG\nt0: return\nt0 dies\nt1: monexit m0\nt1 = 0\nt1: monexit m0\nt1 ! LE_INVALIDARG\nt1: return\nt1 dies\npod ends 0\n";
  halt = Ended 0;
  calls = 14;
  takes = [];
}

-- The lists: monitors in birth order, and the threads that wait to enter, FIFO.
--   lwp 1 / pod 1
--   proc main / moncreate m / moncreate n / moncreate o / mondestroy n / monitors / enter m / create a w 1 - /
--     create b w 1 - / yield self / monwaiters m / monwaiters o
--   proc w / enter m
abbrev pub monitors_and_their_waiters : Row
monitors_and_their_waiters = record {
  script = pod 1 (named (codes "main" ∷ codes "w" ∷ []) (codes "a" ∷ codes "b" ∷ [])
      (codes "m" ∷ codes "n" ∷ codes "o" ∷ []) [])
      (procedure 0 (stmt.MonCreate 0 ∷ stmt.MonCreate 1 ∷ stmt.MonCreate 2 ∷ stmt.MonDestroy 1
      ∷ stmt.Monitors ∷ stmt.Enter 0
      ∷ stmt.Create 0 1 1 plain ∷ stmt.Create 1 1 1 plain ∷ stmt.Yield who.Me ∷ stmt.MonWaiters 0
      ∷ stmt.MonWaiters 2 ∷ [])
      ∷ procedure 1 (stmt.Enter 0 ∷ [])
      ∷ []);
  turns = 100000;
  trace = codes "t0: moncreate\nt0 = m0\nt0: moncreate\nt0 = m1\nt0: moncreate\nt0 = m2\nt0: mondestroy m1\nt0 = 0\nt0: monitors\nt0 = ids m0 m2\nt0: enter m0\nt0 = 0\nt0: create w 1 -\nt0 = t1\nt0: create w 1 -\nt0 = t2\nt0: yield self\nt0 = 0\nt1: enter m0\nt2: enter m0\nt0: monwaiters m0\nt0 = ids t1 t2\nt0: monwaiters m2\nt0 = ids\nt0: return\nt1 = 0\nt0 dies\nt1: return\nt2 = 0\nt1 dies\nt2: return\nt2 dies\npod ends 0\n";
  halt = Ended 0;
  calls = 16;
  takes = [];
}

-- The limit holds for each kind by itself, and what is destroyed was born all the same.
--   lwp 1 / pod 1 / limit births 2
--   proc main / moncreate m / moncreate n / mondestroy m / moncreate o / cvcreate c n / cvcreate d n / cvdestroy c /
--     cvcreate e n / cvcreate f m
abbrev pub births_of_monitors_and_conditions : Row
births_of_monitors_and_conditions = record {
  script = limited 2 (pod 1 (named (codes "main" ∷ []) [] (codes "m" ∷ codes "n" ∷ codes "o" ∷ [])
      (codes "c" ∷ codes "d" ∷ codes "e" ∷ codes "f" ∷ []))
      (procedure 0 (stmt.MonCreate 0 ∷ stmt.MonCreate 1 ∷ stmt.MonDestroy 0 ∷ stmt.MonCreate 2 ∷ stmt.CvCreate 0 1
      ∷ stmt.CvCreate 1 1 ∷ stmt.CvDestroy 0 ∷ stmt.CvCreate 2 1 ∷ stmt.CvCreate 3 0 ∷ [])
      ∷ []));
  turns = 100000;
  trace = codes "t0: moncreate\nt0 = m0\nt0: moncreate\nt0 = m1\nt0: mondestroy m0\nt0 = 0\nt0: moncreate\nt0 ! LE_NOROOM\nt0: cvcreate m1\nt0 = c0\nt0: cvcreate m1\nt0 = c1\nt0: cvdestroy c0\nt0 = 0\nt0: cvcreate m1\nt0 ! LE_NOROOM\nt0: cvcreate m0\nt0 ! LE_NONEXIST\nt0: return\nt0 dies\npod ends 0\n";
  halt = Ended 0;
  calls = 10;
  takes = [];
}

-- A monitor stays held while its owner is suspended.
--   lwp 1 / pod 1
--   proc main / moncreate m / enter m / create a w 1 - / suspend self / monexit m
--   proc w / condenter m / resume first / enter m / monexit m
abbrev pub a_suspended_owner : Row
a_suspended_owner = record {
  script = pod 1 (named (codes "main" ∷ codes "w" ∷ []) (codes "a" ∷ []) (codes "m" ∷ []) [])
      (procedure 0 (stmt.MonCreate 0 ∷ stmt.Enter 0 ∷ stmt.Create 0 1 1 plain ∷ stmt.Suspend who.Me
      ∷ stmt.MonExit 0 ∷ [])
      ∷ procedure 1 (stmt.CondEnter 0 ∷ stmt.Resume who.First ∷ stmt.Enter 0 ∷ stmt.MonExit 0 ∷ [])
      ∷ []);
  turns = 100000;
  trace = codes "t0: moncreate\nt0 = m0\nt0: enter m0\nt0 = 0\nt0: create w 1 -\nt0 = t1\nt0: suspend self\nt0 = 0\nt1: condenter m0\nt1 ! LE_INUSE\nt1: resume t0\nt1 = 0\nt1: enter m0\nt0: monexit m0\nt1 = 0\nt0 = 0\nt0: return\nt0 dies\nt1: monexit m0\nt1 = 0\nt1: return\nt1 dies\npod ends 0\n";
  halt = Ended 0;
  calls = 11;
  takes = [];
}
