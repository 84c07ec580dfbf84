-- Conditions, each of one monitor.
use Rattle.trace_text.specs.declared.ends.Halt.TheVariants.{Ended, Stuck}
use Rattle.std.specs.Prelude.{[], codes, ◌∷◌}
use Rattle.worked_rows.specs.Words.{Row, named, plain, pod, procedure}
use Rattle.script_text.specs.declared.script.Who.TheVariants as who
use Rattle.script_text.specs.declared.script.Stmt.TheVariants as stmt

-- A wait asks for the monitor that was acquired last.
--   lwp 1 / pod 1
--   proc main / moncreate m / moncreate n / cvcreate c m / enter m / enter n / wait c
abbrev pub condition_of_outer_monitor : Row
condition_of_outer_monitor = record {
  script = pod 1 (named (codes "main" ∷ []) [] (codes "m" ∷ codes "n" ∷ []) (codes "c" ∷ []))
      (procedure 0 (stmt.MonCreate 0 ∷ stmt.MonCreate 1 ∷ stmt.CvCreate 0 0 ∷ stmt.Enter 0
      ∷ stmt.Enter 1 ∷ stmt.Wait 0 ∷ [])
      ∷ []);
  turns = 100000;
  trace = codes "t0: moncreate\nt0 = m0\nt0: moncreate\nt0 = m1\nt0: cvcreate m0\nt0 = c0\nt0: enter m0\nt0 = 0\nt0: enter m1\nt0 = 0\nt0: wait c0\nt0 ! LE_NOTOWNED\nt0: return\nt0 dies\npod ends 0\n";
  halt = Ended 0;
  calls = 7;
  takes = [];
}

-- Each call that takes a condition refuses one that never was, and one that was destroyed.
--   lwp 1 / pod 1
--   proc main / wait c / notify c / broadcast c / cvsend c none / cvdestroy c / cvwaiters c / moncreate m /
--     cvcreate c m / cvdestroy c / wait c / notify c / broadcast c / cvsend c none / cvdestroy c / cvwaiters c
abbrev pub no_such_condition : Row
no_such_condition = record {
  script = pod 1 (named (codes "main" ∷ []) [] (codes "m" ∷ []) (codes "c" ∷ []))
      (procedure 0 (stmt.Wait 0 ∷ stmt.Notify 0 ∷ stmt.Broadcast 0 ∷ stmt.CvSend 0 who.Nobody ∷ stmt.CvDestroy 0
      ∷ stmt.CvWaiters 0 ∷ stmt.MonCreate 0 ∷ stmt.CvCreate 0 0 ∷ stmt.CvDestroy 0 ∷ stmt.Wait 0 ∷ stmt.Notify 0
      ∷ stmt.Broadcast 0 ∷ stmt.CvSend 0 who.Nobody ∷ stmt.CvDestroy 0 ∷ stmt.CvWaiters 0 ∷ [])
      ∷ []);
  turns = 100000;
  trace = codes "t0: wait none\nt0 ! LE_NONEXIST\nt0: notify none\nt0 ! LE_NONEXIST\nt0: broadcast none\nt0 ! LE_NONEXIST\nt0: cvsend none none\nt0 ! LE_NONEXIST\nt0: cvdestroy none\nt0 ! LE_NONEXIST\nt0: cvwaiters none\nt0 ! LE_NONEXIST\nt0: moncreate\nt0 = m0\nt0: cvcreate m0\nt0 = c0\nt0: cvdestroy c0\nt0 = 0\nt0: wait c0\nt0 ! LE_NONEXIST\nt0: notify c0\nt0 ! LE_NONEXIST\nt0: broadcast c0\nt0 ! LE_NONEXIST\nt0: cvsend c0 none\nt0 ! LE_NONEXIST\nt0: cvdestroy c0\nt0 ! LE_NONEXIST\nt0: cvwaiters c0\nt0 ! LE_NONEXIST\nt0: return\nt0 dies\npod ends 0\n";
  halt = Ended 0;
  calls = 16;
  takes = [];
}

-- Without its monitor a condition is of no use; with it, waking nobody is fine.
--   lwp 1 / pod 1
--   proc main / moncreate m / cvcreate c m / wait c / notify c / broadcast c / cvsend c none / enter m / notify c /
--     broadcast c / cvwaiters c
abbrev pub without_the_lock : Row
without_the_lock = record {
  script = pod 1 (named (codes "main" ∷ []) [] (codes "m" ∷ []) (codes "c" ∷ []))
      (procedure 0 (stmt.MonCreate 0 ∷ stmt.CvCreate 0 0 ∷ stmt.Wait 0 ∷ stmt.Notify 0 ∷ stmt.Broadcast 0
      ∷ stmt.CvSend 0 who.Nobody ∷ stmt.Enter 0 ∷ stmt.Notify 0 ∷ stmt.Broadcast 0 ∷ stmt.CvWaiters 0 ∷ [])
      ∷ []);
  turns = 100000;
  trace = codes "t0: moncreate\nt0 = m0\nt0: cvcreate m0\nt0 = c0\nt0: wait c0\nt0 ! LE_NOTOWNED\nt0: notify c0\nt0 ! LE_NOTOWNED\nt0: broadcast c0\nt0 ! LE_NOTOWNED\nt0: cvsend c0 none\nt0 ! LE_NOTOWNED\nt0: enter m0\nt0 = 0\nt0: notify c0\nt0 = 0\nt0: broadcast c0\nt0 = 0\nt0: cvwaiters c0\nt0 = ids\nt0: return\nt0 dies\npod ends 0\n";
  halt = Ended 0;
  calls = 11;
  takes = [];
}

-- To enter an outer monitor once more doesn't make it the last acquired.
--   lwp 1 / pod 1
--   proc main / moncreate m / moncreate n / cvcreate c m / cvcreate d n / enter m / enter n / enter m / wait c /
--     notify c / broadcast c / cvsend c self / notify d / monexit n / notify c
abbrev pub the_lock_acquired_last : Row
the_lock_acquired_last = record {
  script = pod 1 (named (codes "main" ∷ []) [] (codes "m" ∷ codes "n" ∷ []) (codes "c" ∷ codes "d" ∷ []))
      (procedure 0 (stmt.MonCreate 0 ∷ stmt.MonCreate 1 ∷ stmt.CvCreate 0 0 ∷ stmt.CvCreate 1 1
      ∷ stmt.Enter 0 ∷ stmt.Enter 1
      ∷ stmt.Enter 0 ∷ stmt.Wait 0 ∷ stmt.Notify 0 ∷ stmt.Broadcast 0 ∷ stmt.CvSend 0 who.Me ∷ stmt.Notify 1
      ∷ stmt.MonExit 1 ∷ stmt.Notify 0 ∷ [])
      ∷ []);
  turns = 100000;
  trace = codes "t0: moncreate\nt0 = m0\nt0: moncreate\nt0 = m1\nt0: cvcreate m0\nt0 = c0\nt0: cvcreate m1\nt0 = c1\nt0: enter m0\nt0 = 0\nt0: enter m1\nt0 = 0\nt0: enter m0\nt0 = 1\nt0: wait c0\nt0 ! LE_NOTOWNED\nt0: notify c0\nt0 ! LE_NOTOWNED\nt0: broadcast c0\nt0 ! LE_NOTOWNED\nt0: cvsend c0 self\nt0 ! LE_NOTOWNED\nt0: notify c1\nt0 = 0\nt0: monexit m1\nt0 = 0\nt0: notify c0\nt0 = 0\nt0: return\nt0 dies\npod ends 0\n";
  halt = Ended 0;
  calls = 15;
  takes = [];
}

-- Nobody, then one who doesn't wait on this condition: the caller, a waiter on another, one that was woken already.
--   lwp 1 / pod 1
--   proc main / moncreate m / cvcreate c m / cvcreate d m / create a w 1 - / yield self / enter m / cvsend c none /
--     cvsend c self / cvsend d a / cvsend c a / cvsend c a / monexit m
--   proc w / enter m / wait c / monexit m
abbrev pub cvsend_is_refused_in_order : Row
cvsend_is_refused_in_order = record {
  script = pod 1 (named (codes "main" ∷ codes "w" ∷ []) (codes "a" ∷ []) (codes "m" ∷ []) (codes "c" ∷ codes "d" ∷ []))
      (procedure 0 (stmt.MonCreate 0 ∷ stmt.CvCreate 0 0 ∷ stmt.CvCreate 1 0
      ∷ stmt.Create 0 1 1 plain ∷ stmt.Yield who.Me
      ∷ stmt.Enter 0 ∷ stmt.CvSend 0 who.Nobody ∷ stmt.CvSend 0 who.Me ∷ stmt.CvSend 1 (who.Named 0)
      ∷ stmt.CvSend 0 (who.Named 0) ∷ stmt.CvSend 0 (who.Named 0) ∷ stmt.MonExit 0 ∷ [])
      ∷ procedure 1 (stmt.Enter 0 ∷ stmt.Wait 0 ∷ stmt.MonExit 0 ∷ [])
      ∷ []);
  turns = 100000;
  trace = codes "t0: moncreate\nt0 = m0\nt0: cvcreate m0\nt0 = c0\nt0: cvcreate m0\nt0 = c1\nt0: create w 1 -\nt0 = t1\nt0: yield self\nt0 = 0\nt1: enter m0\nt1 = 0\nt1: wait c0\nt0: enter m0\nt0 = 0\nt0: cvsend c0 none\nt0 ! LE_NONEXIST\nt0: cvsend c0 self\nt0 ! LE_NOWAIT\nt0: cvsend c1 t1\nt0 ! LE_NOWAIT\nt0: cvsend c0 t1\nt0 = 0\nt0: cvsend c0 t1\nt0 ! LE_NOWAIT\nt0: monexit m0\nt1 = 0\nt0 = 0\nt0: return\nt0 dies\nt1: monexit m0\nt1 = 0\nt1: return\nt1 dies\npod ends 0\n";
  halt = Ended 0;
  calls = 17;
  takes = [];
}

-- The conditions of a destroyed monitor are gone, and no others.
--   lwp 1 / pod 1
--   proc main / moncreate m / moncreate n / cvcreate c m / cvcreate d n / cvcreate e m / conditions / mondestroy m /
--     conditions / cvwaiters c / cvwaiters d / cvcreate f m
abbrev pub conditions_go_with_their_monitor : Row
conditions_go_with_their_monitor = record {
  script = pod 1 (named (codes "main" ∷ []) [] (codes "m" ∷ codes "n" ∷ [])
      (codes "c" ∷ codes "d" ∷ codes "e" ∷ codes "f" ∷ []))
      (procedure 0 (stmt.MonCreate 0 ∷ stmt.MonCreate 1 ∷ stmt.CvCreate 0 0 ∷ stmt.CvCreate 1 1
      ∷ stmt.CvCreate 2 0 ∷ stmt.Conds
      ∷ stmt.MonDestroy 0 ∷ stmt.Conds ∷ stmt.CvWaiters 0 ∷ stmt.CvWaiters 1 ∷ stmt.CvCreate 3 0 ∷ [])
      ∷ []);
  turns = 100000;
  trace = codes "t0: moncreate\nt0 = m0\nt0: moncreate\nt0 = m1\nt0: cvcreate m0\nt0 = c0\nt0: cvcreate m1\nt0 = c1\nt0: cvcreate m0\nt0 = c2\nt0: conditions\nt0 = ids c0 c1 c2\nt0: mondestroy m0\nt0 = 0\nt0: conditions\nt0 = ids c1\nt0: cvwaiters c0\nt0 ! LE_NONEXIST\nt0: cvwaiters c1\nt0 = ids\nt0: cvcreate m0\nt0 ! LE_NONEXIST\nt0: return\nt0 dies\npod ends 0\n";
  halt = Ended 0;
  calls = 12;
  takes = [];
}

-- Neither a condition that somebody waits on can be destroyed, nor its monitor.
--   lwp 1 / pod 1
--   proc main / moncreate m / cvcreate c m / create a w 1 - / yield self / mondestroy m / cvdestroy c / cvwaiters c /
--     destroy a / cvdestroy c / mondestroy m
--   proc w / enter m / wait c
abbrev pub in_use_while_waited_on : Row
in_use_while_waited_on = record {
  script = pod 1 (named (codes "main" ∷ codes "w" ∷ []) (codes "a" ∷ []) (codes "m" ∷ []) (codes "c" ∷ []))
      (procedure 0 (stmt.MonCreate 0 ∷ stmt.CvCreate 0 0 ∷ stmt.Create 0 1 1 plain
      ∷ stmt.Yield who.Me ∷ stmt.MonDestroy 0
      ∷ stmt.CvDestroy 0 ∷ stmt.CvWaiters 0 ∷ stmt.Destroy (who.Named 0) ∷ stmt.CvDestroy 0 ∷ stmt.MonDestroy 0 ∷ [])
      ∷ procedure 1 (stmt.Enter 0 ∷ stmt.Wait 0 ∷ [])
      ∷ []);
  turns = 100000;
  trace = codes "t0: moncreate\nt0 = m0\nt0: cvcreate m0\nt0 = c0\nt0: create w 1 -\nt0 = t1\nt0: yield self\nt0 = 0\nt1: enter m0\nt1 = 0\nt1: wait c0\nt0: mondestroy m0\nt0 ! LE_INUSE\nt0: cvdestroy c0\nt0 ! LE_INUSE\nt0: cvwaiters c0\nt0 = ids t1\nt0: destroy t1\nt1 dies\nt0 = 0\nt0: cvdestroy c0\nt0 = 0\nt0: mondestroy m0\nt0 = 0\nt0: return\nt0 dies\npod ends 0\n";
  halt = Ended 0;
  calls = 13;
  takes = [];
}

-- A wait gives up three levels and takes back three; a priority that changed decides who enters next.
--   lwp 1 / pod 2
--   proc main / moncreate m / cvcreate c m / create a w 2 - / yield self / enter m / create b e 2 - / create d e 2 - /
--     yield self / notify c / setpri b 1 / monexit m
--   proc w / enter m / enter m / enter m / wait c / monexit m / monexit m / monexit m
--   proc e / enter m / monexit m
abbrev pub depth_comes_back : Row
depth_comes_back = record {
  script = pod 2 (named (codes "main" ∷ codes "w" ∷ codes "e" ∷ [])
      (codes "a" ∷ codes "b" ∷ codes "d" ∷ []) (codes "m" ∷ []) (codes "c" ∷ []))
      (procedure 0 (stmt.MonCreate 0 ∷ stmt.CvCreate 0 0 ∷ stmt.Create 0 1 2 plain ∷ stmt.Yield who.Me ∷ stmt.Enter 0
      ∷ stmt.Create 1 2 2 plain ∷ stmt.Create 2 2 2 plain ∷ stmt.Yield who.Me ∷ stmt.Notify 0
      ∷ stmt.SetPri (who.Named 1) 1 ∷ stmt.MonExit 0 ∷ [])
      ∷ procedure 1
      (stmt.Enter 0 ∷ stmt.Enter 0 ∷ stmt.Enter 0 ∷ stmt.Wait 0 ∷ stmt.MonExit 0 ∷ stmt.MonExit 0 ∷ stmt.MonExit 0
      ∷ [])
      ∷ procedure 2 (stmt.Enter 0 ∷ stmt.MonExit 0 ∷ [])
      ∷ []);
  turns = 100000;
  trace = codes "t0: moncreate\nt0 = m0\nt0: cvcreate m0\nt0 = c0\nt0: create w 2 -\nt0 = t1\nt0: yield self\nt0 = 0\nt1: enter m0\nt1 = 0\nt1: enter m0\nt1 = 1\nt1: enter m0\nt1 = 2\nt1: wait c0\nt0: enter m0\nt0 = 0\nt0: create e 2 -\nt0 = t2\nt0: create e 2 -\nt0 = t3\nt0: yield self\nt0 = 0\nt2: enter m0\nt3: enter m0\nt0: notify c0\nt0 = 0\nt0: setpri t2 1\nt0 = 2\nt0: monexit m0\nt3 = 0\nt0 = 0\nt0: return\nt0 dies\nt3: monexit m0\nt1 = 0\nt3 = 0\nt3: return\nt3 dies\nt1: monexit m0\nt1 = 0\nt1: monexit m0\nt1 = 0\nt1: monexit m0\nt2 = 0\nt1 = 0\nt1: return\nt1 dies\nt2: monexit m0\nt2 = 0\nt2: return\nt2 dies\npod ends 0\n";
  halt = Ended 0;
  calls = 26;
  takes = [];
}

-- The first of the greatest priority is woken; the monitor then goes by priority, too.
--   lwp 1 / pod 3
--   proc main / moncreate m / cvcreate c m / create a w 2 - / create b w 3 - / create d w 3 - / setpri self 1 /
--     enter m / cvwaiters c / notify c / monwaiters m / notify c / monwaiters m / cvwaiters c / notify c /
--     monwaiters m / monexit m
--   proc w / enter m / wait c / monexit m
abbrev pub notify_wakes_the_greatest_priority : Row
notify_wakes_the_greatest_priority = record {
  script = pod 3 (named (codes "main" ∷ codes "w" ∷ []) (codes "a" ∷ codes "b" ∷ codes "d" ∷ [])
      (codes "m" ∷ []) (codes "c" ∷ []))
      (procedure 0 (stmt.MonCreate 0 ∷ stmt.CvCreate 0 0 ∷ stmt.Create 0 1 2 plain ∷ stmt.Create 1 1 3 plain
      ∷ stmt.Create 2 1 3 plain ∷ stmt.SetPri who.Me 1 ∷ stmt.Enter 0 ∷ stmt.CvWaiters 0 ∷ stmt.Notify 0
      ∷ stmt.MonWaiters 0 ∷ stmt.Notify 0 ∷ stmt.MonWaiters 0 ∷ stmt.CvWaiters 0 ∷ stmt.Notify 0 ∷ stmt.MonWaiters 0
      ∷ stmt.MonExit 0 ∷ [])
      ∷ procedure 1 (stmt.Enter 0 ∷ stmt.Wait 0 ∷ stmt.MonExit 0 ∷ [])
      ∷ []);
  turns = 100000;
  trace = codes "t0: moncreate\nt0 = m0\nt0: cvcreate m0\nt0 = c0\nt0: create w 2 -\nt0 = t1\nt0: create w 3 -\nt0 = t2\nt0: create w 3 -\nt0 = t3\nt0: setpri self 1\nt0 = 3\nt2: enter m0\nt2 = 0\nt2: wait c0\nt3: enter m0\nt3 = 0\nt3: wait c0\nt1: enter m0\nt1 = 0\nt1: wait c0\nt0: enter m0\nt0 = 0\nt0: cvwaiters c0\nt0 = ids t2 t3 t1\nt0: notify c0\nt0 = 0\nt0: monwaiters m0\nt0 = ids t2\nt0: notify c0\nt0 = 0\nt0: monwaiters m0\nt0 = ids t2 t3\nt0: cvwaiters c0\nt0 = ids t1\nt0: notify c0\nt0 = 0\nt0: monwaiters m0\nt0 = ids t2 t3 t1\nt0: monexit m0\nt2 = 0\nt0 = 0\nt2: monexit m0\nt3 = 0\nt2 = 0\nt2: return\nt2 dies\nt3: monexit m0\nt1 = 0\nt3 = 0\nt3: return\nt3 dies\nt1: monexit m0\nt1 = 0\nt1: return\nt1 dies\nt0: return\nt0 dies\npod ends 0\n";
  halt = Ended 0;
  calls = 29;
  takes = [];
}

-- A waiter whose priority has changed since counts by the new one, at its old place.
--   lwp 1 / pod 2
--   proc main / moncreate m / cvcreate c m / create a w 2 - / create b w 2 - / create d w 1 - / setpri self 1 /
--     enter m / setpri a 1 / setpri d 2 / notify c / monwaiters m / cvwaiters c / notify c / monwaiters m /
--     monexit m
--   proc w / enter m / wait c / monexit m
abbrev pub notify_by_present_priority : Row
notify_by_present_priority = record {
  script = pod 2 (named (codes "main" ∷ codes "w" ∷ []) (codes "a" ∷ codes "b" ∷ codes "d" ∷ [])
      (codes "m" ∷ []) (codes "c" ∷ []))
      (procedure 0 (stmt.MonCreate 0 ∷ stmt.CvCreate 0 0 ∷ stmt.Create 0 1 2 plain ∷ stmt.Create 1 1 2 plain
      ∷ stmt.Create 2 1 1 plain ∷ stmt.SetPri who.Me 1 ∷ stmt.Enter 0 ∷ stmt.SetPri (who.Named 0) 1
      ∷ stmt.SetPri (who.Named 2) 2 ∷ stmt.Notify 0 ∷ stmt.MonWaiters 0 ∷ stmt.CvWaiters 0 ∷ stmt.Notify 0
      ∷ stmt.MonWaiters 0 ∷ stmt.MonExit 0 ∷ [])
      ∷ procedure 1 (stmt.Enter 0 ∷ stmt.Wait 0 ∷ stmt.MonExit 0 ∷ [])
      ∷ []);
  turns = 100000;
  trace = codes "t0: moncreate\nt0 = m0\nt0: cvcreate m0\nt0 = c0\nt0: create w 2 -\nt0 = t1\nt0: create w 2 -\nt0 = t2\nt0: create w 1 -\nt0 = t3\nt0: setpri self 1\nt0 = 2\nt1: enter m0\nt1 = 0\nt1: wait c0\nt2: enter m0\nt2 = 0\nt2: wait c0\nt3: enter m0\nt3 = 0\nt3: wait c0\nt0: enter m0\nt0 = 0\nt0: setpri t1 1\nt0 = 2\nt0: setpri t3 2\nt0 = 1\nt0: notify c0\nt0 = 0\nt0: monwaiters m0\nt0 = ids t2\nt0: cvwaiters c0\nt0 = ids t1 t3\nt0: notify c0\nt0 = 0\nt0: monwaiters m0\nt0 = ids t2 t3\nt0: monexit m0\nt2 = 0\nt0 = 0\nt2: monexit m0\nt3 = 0\nt2 = 0\nt2: return\nt2 dies\nt3: monexit m0\nt3 = 0\nt3: return\nt3 dies\nt0: return\nt0 dies\nstuck\n";
  halt = Stuck;
  calls = 26;
  takes = [];
}

-- A broadcast wakes all in the order of their arrival; the greatest priority then enters first.
--   lwp 1 / pod 2
--   proc main / moncreate m / cvcreate c m / create a w 1 - / setpri self 1 / create b w 2 - / enter m / broadcast c /
--     monwaiters m / cvwaiters c / monexit m
--   proc w / enter m / wait c / monexit m
abbrev pub broadcast_in_arrival_order : Row
broadcast_in_arrival_order = record {
  script = pod 2 (named (codes "main" ∷ codes "w" ∷ []) (codes "a" ∷ codes "b" ∷ []) (codes "m" ∷ []) (codes "c" ∷ []))
      (procedure 0 (stmt.MonCreate 0 ∷ stmt.CvCreate 0 0 ∷ stmt.Create 0 1 1 plain ∷ stmt.SetPri who.Me 1
      ∷ stmt.Create 1 1 2 plain ∷ stmt.Enter 0 ∷ stmt.Broadcast 0 ∷ stmt.MonWaiters 0 ∷ stmt.CvWaiters 0
      ∷ stmt.MonExit 0 ∷ [])
      ∷ procedure 1 (stmt.Enter 0 ∷ stmt.Wait 0 ∷ stmt.MonExit 0 ∷ [])
      ∷ []);
  turns = 100000;
  trace = codes "t0: moncreate\nt0 = m0\nt0: cvcreate m0\nt0 = c0\nt0: create w 1 -\nt0 = t1\nt0: setpri self 1\nt0 = 2\nt1: enter m0\nt1 = 0\nt1: wait c0\nt0: create w 2 -\nt0 = t2\nt2: enter m0\nt2 = 0\nt2: wait c0\nt0: enter m0\nt0 = 0\nt0: broadcast c0\nt0 = 0\nt0: monwaiters m0\nt0 = ids t1 t2\nt0: cvwaiters c0\nt0 = ids\nt0: monexit m0\nt2 = 0\nt0 = 0\nt2: monexit m0\nt1 = 0\nt2 = 0\nt2: return\nt2 dies\nt0: return\nt0 dies\nt1: monexit m0\nt1 = 0\nt1: return\nt1 dies\npod ends 0\n";
  halt = Ended 0;
  calls = 19;
  takes = [];
}

-- A woken thread comes after those who wait to enter already.
--   lwp 1 / pod 1
--   proc main / moncreate m / cvcreate c m / create a w 1 - / yield self / enter m / create b e 1 - / yield self /
--     notify c / monwaiters m / monexit m
--   proc w / enter m / wait c / monexit m
--   proc e / enter m / monexit m
abbrev pub the_woken_come_last : Row
the_woken_come_last = record {
  script = pod 1 (named (codes "main" ∷ codes "w" ∷ codes "e" ∷ []) (codes "a" ∷ codes "b" ∷ [])
      (codes "m" ∷ []) (codes "c" ∷ []))
      (procedure 0 (stmt.MonCreate 0 ∷ stmt.CvCreate 0 0 ∷ stmt.Create 0 1 1 plain ∷ stmt.Yield who.Me ∷ stmt.Enter 0
      ∷ stmt.Create 1 2 1 plain ∷ stmt.Yield who.Me ∷ stmt.Notify 0 ∷ stmt.MonWaiters 0 ∷ stmt.MonExit 0 ∷ [])
      ∷ procedure 1 (stmt.Enter 0 ∷ stmt.Wait 0 ∷ stmt.MonExit 0 ∷ [])
      ∷ procedure 2 (stmt.Enter 0 ∷ stmt.MonExit 0 ∷ [])
      ∷ []);
  turns = 100000;
  trace = codes "t0: moncreate\nt0 = m0\nt0: cvcreate m0\nt0 = c0\nt0: create w 1 -\nt0 = t1\nt0: yield self\nt0 = 0\nt1: enter m0\nt1 = 0\nt1: wait c0\nt0: enter m0\nt0 = 0\nt0: create e 1 -\nt0 = t2\nt0: yield self\nt0 = 0\nt2: enter m0\nt0: notify c0\nt0 = 0\nt0: monwaiters m0\nt0 = ids t2 t1\nt0: monexit m0\nt2 = 0\nt0 = 0\nt0: return\nt0 dies\nt2: monexit m0\nt1 = 0\nt2 = 0\nt2: return\nt2 dies\nt1: monexit m0\nt1 = 0\nt1: return\nt1 dies\npod ends 0\n";
  halt = Ended 0;
  calls = 18;
  takes = [];
}

-- A thread that waits to enter has the monitor as its owner begins to wait, however deep that was.
--   lwp 1 / pod 1
--   proc main / moncreate m / cvcreate c m / enter m / enter m / create a e 1 - / yield self / wait c / monexit m /
--     monexit m
--   proc e / enter m / notify c / monexit m
abbrev pub a_wait_hands_the_monitor_on : Row
a_wait_hands_the_monitor_on = record {
  script = pod 1 (named (codes "main" ∷ codes "e" ∷ []) (codes "a" ∷ []) (codes "m" ∷ []) (codes "c" ∷ []))
      (procedure 0 (stmt.MonCreate 0 ∷ stmt.CvCreate 0 0 ∷ stmt.Enter 0 ∷ stmt.Enter 0 ∷ stmt.Create 0 1 1 plain
      ∷ stmt.Yield who.Me ∷ stmt.Wait 0 ∷ stmt.MonExit 0 ∷ stmt.MonExit 0 ∷ [])
      ∷ procedure 1 (stmt.Enter 0 ∷ stmt.Notify 0 ∷ stmt.MonExit 0 ∷ [])
      ∷ []);
  turns = 100000;
  trace = codes "t0: moncreate\nt0 = m0\nt0: cvcreate m0\nt0 = c0\nt0: enter m0\nt0 = 0\nt0: enter m0\nt0 = 1\nt0: create e 1 -\nt0 = t1\nt0: yield self\nt0 = 0\nt1: enter m0\nt0: wait c0\nt1 = 0\nt1: notify c0\nt1 = 0\nt1: monexit m0\nt0 = 0\nt1 = 0\nt1: return\nt1 dies\nt0: monexit m0\nt0 = 0\nt0: monexit m0\nt0 = 0\nt0: return\nt0 dies\npod ends 0\n";
  halt = Ended 0;
  calls = 14;
  takes = [];
}

-- A wait gives up the condition's monitor alone; the outer one is held meanwhile, and isn't the last acquired
-- afterwards.
--   lwp 1 / pod 1
--   proc main / moncreate m / moncreate n / cvcreate c n / create a w 1 - / yield self / condenter m / enter n /
--     notify c / monexit n
--   proc w / enter m / enter n / wait c / notify c / monexit n / monexit m
abbrev pub a_wait_gives_up_one_monitor : Row
a_wait_gives_up_one_monitor = record {
  script = pod 1 (named (codes "main" ∷ codes "w" ∷ []) (codes "a" ∷ []) (codes "m" ∷ codes "n" ∷ []) (codes "c" ∷ []))
      (procedure 0 (stmt.MonCreate 0 ∷ stmt.MonCreate 1 ∷ stmt.CvCreate 0 1
      ∷ stmt.Create 0 1 1 plain ∷ stmt.Yield who.Me
      ∷ stmt.CondEnter 0 ∷ stmt.Enter 1 ∷ stmt.Notify 0 ∷ stmt.MonExit 1 ∷ [])
      ∷ procedure 1 (stmt.Enter 0 ∷ stmt.Enter 1 ∷ stmt.Wait 0 ∷ stmt.Notify 0 ∷ stmt.MonExit 1 ∷ stmt.MonExit 0 ∷ [])
      ∷ []);
  turns = 100000;
  trace = codes "t0: moncreate\nt0 = m0\nt0: moncreate\nt0 = m1\nt0: cvcreate m1\nt0 = c0\nt0: create w 1 -\nt0 = t1\nt0: yield self\nt0 = 0\nt1: enter m0\nt1 = 0\nt1: enter m1\nt1 = 0\nt1: wait c0\nt0: condenter m0\nt0 ! LE_INUSE\nt0: enter m1\nt0 = 0\nt0: notify c0\nt0 = 0\nt0: monexit m1\nt1 = 0\nt0 = 0\nt0: return\nt0 dies\nt1: notify c0\nt1 = 0\nt1: monexit m1\nt1 = 0\nt1: monexit m0\nt1 = 0\nt1: return\nt1 dies\npod ends 0\n";
  halt = Ended 0;
  calls = 17;
  takes = [];
}

-- A suspended waiter is woken and has its monitor, but doesn't run.
--   lwp 1 / pod 1
--   proc main / moncreate m / cvcreate c m / create a w 1 - / yield self / suspend a / enter m / notify c /
--     monexit m / condenter m
--   proc w / enter m / wait c / monexit m
abbrev pub a_suspended_waiter : Row
a_suspended_waiter = record {
  script = pod 1 (named (codes "main" ∷ codes "w" ∷ []) (codes "a" ∷ []) (codes "m" ∷ []) (codes "c" ∷ []))
      (procedure 0 (stmt.MonCreate 0 ∷ stmt.CvCreate 0 0 ∷ stmt.Create 0 1 1 plain ∷ stmt.Yield who.Me
      ∷ stmt.Suspend (who.Named 0) ∷ stmt.Enter 0 ∷ stmt.Notify 0 ∷ stmt.MonExit 0 ∷ stmt.CondEnter 0 ∷ [])
      ∷ procedure 1 (stmt.Enter 0 ∷ stmt.Wait 0 ∷ stmt.MonExit 0 ∷ [])
      ∷ []);
  turns = 100000;
  trace = codes "t0: moncreate\nt0 = m0\nt0: cvcreate m0\nt0 = c0\nt0: create w 1 -\nt0 = t1\nt0: yield self\nt0 = 0\nt1: enter m0\nt1 = 0\nt1: wait c0\nt0: suspend t1\nt0 = 0\nt0: enter m0\nt0 = 0\nt0: notify c0\nt0 = 0\nt0: monexit m0\nt1 = 0\nt0 = 0\nt0: condenter m0\nt0 ! LE_INUSE\nt0: return\nt0 dies\nstuck\n";
  halt = Stuck;
  calls = 12;
  takes = [];
}
