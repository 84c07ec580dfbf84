-- What the statements of a procedure mean that make no call, what names mean, and how texts are printed.
use Rattle.trace_text.specs.declared.ends.Halt.TheVariants.{Ended}
use Rattle.std.specs.Prelude.{None, Some, [], codes, ◌++◌, ◌∷◌}
use Rattle.worked_rows.specs.Words.{Row, limited, longest_x, named, plain, pod, procedure, speaking}
use Rattle.script_text.specs.declared.script.Who.TheVariants as who
use Rattle.script_lines.specs.declared.table.Test.TheVariants as test
use Rattle.script_text.specs.declared.script.ExitStmt.TheVariants as exit_stmt
use Rattle.script_text.specs.declared.script.Stmt.TheVariants as stmt
use Rattle.lwp_types.specs.declared.call.Mode.TheVariants as mode
use Rattle.lwp_types.specs.declared.call.Pattern.TheVariants as pattern
use Rattle.lwp_types.specs.declared.call.Func.TheVariants as func

-- Each of the four conditions, met and not met; the last answer counts until the next call.
--   lwp 1 / pod 1
--   proc main / getexit / skip is 0 / say never / setexit 100 / skip ok / skip is 0 / skip err / say never /
--     setexit 7 / skip caught / skip ok / say never / getexit / skip is 7 / say never / skip is 8 / skip err /
--     say yes
abbrev pub skip_by_the_last_answer : Row
skip_by_the_last_answer = record {
  script = speaking (codes "never" ∷ codes "never" ∷ codes "never" ∷ codes "never" ∷ codes "yes" ∷ []) (pod
      1 (named (codes "main" ∷ []) [] [] [])
      (procedure 0 (stmt.GetExit ∷ stmt.Skip (test.Value 0) ∷ stmt.Say 0 ∷ stmt.SetExit 100 ∷ stmt.Skip test.Fine
      ∷ stmt.Skip (test.Value 0) ∷ stmt.Skip test.Refused ∷ stmt.Say 1 ∷ stmt.SetExit 7
      ∷ stmt.Skip test.Caught ∷ stmt.Skip test.Fine ∷ stmt.Say 2 ∷ stmt.GetExit
      ∷ stmt.Skip (test.Value 7) ∷ stmt.Say 3 ∷ stmt.Skip (test.Value 8) ∷ stmt.Skip test.Refused
      ∷ stmt.Say 4 ∷ [])
      ∷ []));
  turns = 100000;
  trace = codes "t0: getexit\nt0 = 0\nt0: setexit 100\nt0 ! LE_INVALIDARG\nt0: setexit 7\nt0 = 0\nt0: getexit\nt0 = 7\nt0: say yes\nt0 = 0\nt0: return\nt0 dies\npod ends 7\n";
  halt = Ended 7;
  calls = 6;
  takes = [];
}

-- A skip may pass over a skip.
--   lwp 1 / pod 1
--   proc main / say a / skip ok / skip ok / say b
abbrev pub a_skip_over_a_skip : Row
a_skip_over_a_skip = record {
  script = speaking (codes "a" ∷ codes "b" ∷ []) (pod 1 (named (codes "main" ∷ []) [] [] [])
      (procedure 0 (stmt.Say 0 ∷ stmt.Skip test.Fine ∷ stmt.Skip test.Fine ∷ stmt.Say 1 ∷ [])
      ∷ []));
  turns = 100000;
  trace = codes "t0: say a\nt0 = 0\nt0: say b\nt0 = 0\nt0: return\nt0 dies\npod ends 0\n";
  halt = Ended 0;
  calls = 3;
  takes = [];
}

-- Before the first call the last answer is 0.
--   lwp 1 / pod 1
--   proc main / skip is 0 / say never / say yes / call p
--   proc p / skip is 1 / skip is 0 / say never / say in
abbrev pub a_skip_at_the_start : Row
a_skip_at_the_start = record {
  script = speaking (codes "never" ∷ codes "yes" ∷ codes "never" ∷ codes "in" ∷ [])
      (pod 1 (named (codes "main" ∷ codes "p" ∷ []) [] [] [])
      (procedure 0 (stmt.Skip (test.Value 0) ∷ stmt.Say 0 ∷ stmt.Say 1 ∷ stmt.CallProc 1 ∷ [])
      ∷ procedure 1 (stmt.Skip (test.Value 1) ∷ stmt.Skip (test.Value 0) ∷ stmt.Say 2 ∷ stmt.Say 3 ∷ [])
      ∷ []));
  turns = 100000;
  trace = codes "t0: say yes\nt0 = 0\nt0: call p\nt0 = 0\nt0: say in\nt0 = 0\nt0: return\nt0 = 0\nt0: return\nt0 dies\npod ends 0\n";
  halt = Ended 0;
  calls = 5;
  takes = [];
}

-- Where a skip passes over the last statement, the procedure returns.
--   lwp 1 / pod 1
--   proc main / say a / skip ok / say never
abbrev pub a_skip_past_the_end : Row
a_skip_past_the_end = record {
  script = speaking (codes "a" ∷ codes "never" ∷ []) (pod 1 (named (codes "main" ∷ []) [] [] [])
      (procedure 0 (stmt.Say 0 ∷ stmt.Skip test.Fine ∷ stmt.Say 1 ∷ [])
      ∷ []));
  turns = 100000;
  trace = codes "t0: say a\nt0 = 0\nt0: return\nt0 dies\npod ends 0\n";
  halt = Ended 0;
  calls = 2;
  takes = [];
}

-- The number of a thread isn't a value; it is neither refused nor caught.
--   lwp 1 / pod 1
--   proc main / self / skip is 0 / skip ok / say never / say yes
abbrev pub an_id_is_no_value : Row
an_id_is_no_value = record {
  script = speaking (codes "never" ∷ codes "yes" ∷ []) (pod 1 (named (codes "main" ∷ []) [] [] [])
      (procedure 0 (stmt.Me ∷ stmt.Skip (test.Value 0) ∷ stmt.Skip test.Fine ∷ stmt.Say 0 ∷ stmt.Say 1
      ∷ [])
      ∷ []));
  turns = 100000;
  trace = codes "t0: self\nt0 = t0\nt0: say yes\nt0 = 0\nt0: return\nt0 dies\npod ends 0\n";
  halt = Ended 0;
  calls = 3;
  takes = [];
}

-- A loop that is left by a skip over its end.
--   lwp 1 / pod 1 / limit births 3
--   proc main / create a w 1 - / skip err / again
--   proc w
abbrev pub again_until_skipped : Row
again_until_skipped = record {
  script = limited 3 (pod 1 (named (codes "main" ∷ codes "w" ∷ []) (codes "a" ∷ []) [] [])
      (procedure 0 (stmt.Create 0 1 1 plain ∷ stmt.Skip test.Refused ∷ stmt.Again ∷ [])
      ∷ procedure 1 []
      ∷ []));
  turns = 100000;
  trace = codes "t0: create w 1 -\nt0 = t1\nt0: create w 1 -\nt0 = t2\nt0: create w 1 -\nt0 ! LE_NOROOM\nt0: return\nt0 dies\nt1: return\nt1 dies\nt2: return\nt2 dies\npod ends 0\n";
  halt = Ended 0;
  calls = 6;
  takes = [];
}

-- A thread goes on after the handler that caught, and a refused one doesn't count.
--   lwp 1 / pod 1
--   proc main / handle 0 - 0 / handle 5 - 0 / skip caught / raise 5 / say end
abbrev pub a_refused_handle_has_no_place : Row
a_refused_handle_has_no_place = record {
  script = speaking (codes "end" ∷ []) (pod 1 (named (codes "main" ∷ []) [] [] [])
      (procedure 0 (stmt.Handle (pattern.Num 0) func.Nothing 0 ∷ stmt.Handle (pattern.Num 5) func.Nothing 0
      ∷ stmt.Skip test.Caught ∷ stmt.Raise 5 ∷ stmt.Say 0 ∷ [])
      ∷ []));
  turns = 100000;
  trace =
      codes "t0: handle 0 - 0\nt0 ! LE_INVALIDARG\nt0: handle 5 - 0\nt0 = 0\nt0: raise 5\nt0 caught 5\nt0: say end\nt0 = 0\nt0: return\nt0 dies\npod ends 0\n";
  halt = Ended 0;
  calls = 5;
  takes = [];
}

-- Nor does one that was removed.
--   lwp 1 / pod 1
--   proc main / handle 1 - 0 / skip caught / handle 2 - 0 / skip caught / unhandle / skip caught / raise 1 / say end
abbrev pub a_removed_handler_has_no_place : Row
a_removed_handler_has_no_place = record {
  script = speaking (codes "end" ∷ []) (pod 1 (named (codes "main" ∷ []) [] [] [])
      (procedure 0 (stmt.Handle (pattern.Num 1) func.Nothing 0 ∷ stmt.Skip test.Caught
      ∷ stmt.Handle (pattern.Num 2) func.Nothing 0 ∷ stmt.Skip test.Caught ∷ stmt.Unhandle ∷ stmt.Skip test.Caught
      ∷ stmt.Raise 1 ∷ stmt.Say 0 ∷ [])
      ∷ []));
  turns = 100000;
  trace = codes "t0: handle 1 - 0\nt0 = 0\nt0: handle 2 - 0\nt0 = 0\nt0: unhandle\nt0 = 0\nt0: raise 1\nt0 caught 1\nt0: say end\nt0 = 0\nt0: return\nt0 dies\npod ends 0\n";
  halt = Ended 0;
  calls = 6;
  takes = [];
}

-- Without a skip a thread does once more what follows the handler.
--   lwp 1 / pod 1
--   proc main / handle 1 - 0 / raise 1
abbrev pub caught_without_a_skip : Row
caught_without_a_skip = record {
  script = pod 1 (named (codes "main" ∷ []) [] [] [])
      (procedure 0 (stmt.Handle (pattern.Num 1) func.Nothing 0 ∷ stmt.Raise 1 ∷ [])
      ∷ []);
  turns = 100000;
  trace = codes "t0: handle 1 - 0\nt0 = 0\nt0: raise 1\nt0 caught 1\nt0: raise 1\nt0 ! LE_NONEXIST\nt0: return\nt0 dies\npod ends 0\n";
  halt = Ended 0;
  calls = 4;
  takes = [];
}

-- The created thread runs first and doesn't find its own name.
--   lwp 1 / pod 2
--   proc main / setpri self 1 / create a w 2 - / ping a
--   proc w / ping a
abbrev pub a_name_is_set_as_its_thread_goes_on : Row
a_name_is_set_as_its_thread_goes_on = record {
  script = pod 2 (named (codes "main" ∷ codes "w" ∷ []) (codes "a" ∷ []) [] [])
      (procedure 0 (stmt.SetPri who.Me 1 ∷ stmt.Create 0 1 2 plain ∷ stmt.Ping (who.Named 0) ∷ [])
      ∷ procedure 1 (stmt.Ping (who.Named 0) ∷ [])
      ∷ []);
  turns = 100000;
  trace = codes "t0: setpri self 1\nt0 = 2\nt0: create w 2 -\nt0 = t1\nt1: ping none\nt1 ! LE_NONEXIST\nt1: return\nt1 dies\nt0: ping t1\nt0 ! LE_NONEXIST\nt0: return\nt0 dies\npod ends 0\n";
  halt = Ended 0;
  calls = 6;
  takes = [];
}

-- A name means the last thread that it was given to; a refused create leaves it.
--   lwp 1 / pod 1
--   proc main / create a w 1 - / create a w 2 - / ping a / create a w 1 - / destroy a / threads / agent a 1 / ping a
--   proc w
abbrev pub a_name_is_set_anew : Row
a_name_is_set_anew = record {
  script = pod 1 (named (codes "main" ∷ codes "w" ∷ []) (codes "a" ∷ []) [] [])
      (procedure 0 (stmt.Create 0 1 1 plain ∷ stmt.Create 0 1 2 plain ∷ stmt.Ping (who.Named 0)
      ∷ stmt.Create 0 1 1 plain
      ∷ stmt.Destroy (who.Named 0) ∷ stmt.Threads ∷ stmt.Agent 0 1 ∷ stmt.Ping (who.Named 0) ∷ [])
      ∷ procedure 1 []
      ∷ []);
  turns = 100000;
  trace = codes "t0: create w 1 -\nt0 = t1\nt0: create w 2 -\nt0 ! LE_ILLPRIO\nt0: ping t1\nt0 = 0\nt0: create w 1 -\nt0 = t2\nt0: destroy t2\nt2 dies\nt0 = 0\nt0: threads\nt0 = ids t0 t1\nt0: agent 1\nt0 = t3\nt0: ping t3\nt0 = 0\nt0: return\nt0 dies\nt1: return\nt1 dies\npod ends 0\n";
  halt = Ended 0;
  calls = 10;
  takes = [];
}

-- Threads, monitors and conditions have names of their own kind, and all threads share them.
--   lwp 1 / pod 1
--   proc main / moncreate x / cvcreate x x / create x w 1 - / yield self
--   proc w / enter x / notify x / ping x
abbrev pub names_of_three_kinds : Row
names_of_three_kinds = record {
  script = pod 1 (named (codes "main" ∷ codes "w" ∷ []) (codes "x" ∷ []) (codes "x" ∷ []) (codes "x" ∷ []))
      (procedure 0 (stmt.MonCreate 0 ∷ stmt.CvCreate 0 0 ∷ stmt.Create 0 1 1 plain ∷ stmt.Yield who.Me ∷ [])
      ∷ procedure 1 (stmt.Enter 0 ∷ stmt.Notify 0 ∷ stmt.Ping (who.Named 0) ∷ [])
      ∷ []);
  turns = 100000;
  trace = codes "t0: moncreate\nt0 = m0\nt0: cvcreate m0\nt0 = c0\nt0: create w 1 -\nt0 = t1\nt0: yield self\nt0 = 0\nt1: enter m0\nt1 = 0\nt1: notify c0\nt1 = 0\nt1: ping self\nt1 = 0\nt1: return\nt1 dies\nt0: return\nt0 dies\npod ends 0\n";
  halt = Ended 0;
  calls = 9;
  takes = [];
}

-- The sender is that of the letter that this thread has received last.
--   lwp 1 / pod 1
--   proc main / create a r 1 - / ping sender / send a 9 hi / ping sender
--   proc r / recv any wait / ping sender / reply sender ok / ping sender / recv any poll / ping sender
abbrev pub each_thread_has_its_sender : Row
each_thread_has_its_sender = record {
  script = speaking (codes "hi" ∷ codes "ok" ∷ []) (pod 1 (named (codes "main" ∷ codes "r" ∷ []) (codes "a" ∷ []) [] [])
      (procedure 0 (stmt.Create 0 1 1 plain ∷ stmt.Ping who.Sender ∷ stmt.Send (who.Named 0) 9 0 ∷ stmt.Ping who.Sender
      ∷ [])
      ∷ procedure 1 (stmt.Recv None mode.Block ∷ stmt.Ping who.Sender ∷ stmt.Reply who.Sender 1 ∷ stmt.Ping who.Sender
      ∷ stmt.Recv None mode.Poll ∷ stmt.Ping who.Sender ∷ [])
      ∷ []));
  turns = 100000;
  trace = codes "t0: create r 1 -\nt0 = t1\nt0: ping none\nt0 ! LE_NONEXIST\nt0: send t1 9 hi\nt1: recv any wait\nt1 = letter t0 9 hi\nt1: ping t0\nt1 = 0\nt1: reply t0 ok\nt0 = reply ok\nt1 = 0\nt1: ping t0\nt1 = 0\nt1: recv any poll\nt1 ! LE_TIMEOUT\nt1: ping t0\nt1 = 0\nt1: return\nt1 dies\nt0: ping none\nt0 ! LE_NONEXIST\nt0: return\nt0 dies\npod ends 0\n";
  halt = Ended 0;
  calls = 12;
  takes = [];
}

-- The caller's own number prints as `self` in what it calls, by whatever word it was named.
--   lwp 1 / pod 1
--   proc main / ping first / setpri first 1 / create a w 1 - / yield self
--   proc w / ping a / onexit resume a / recv a poll / ping first
abbrev pub the_caller_prints_as_self : Row
the_caller_prints_as_self = record {
  script = pod 1 (named (codes "main" ∷ codes "w" ∷ []) (codes "a" ∷ []) [] [])
      (procedure 0 (stmt.Ping who.First ∷ stmt.SetPri who.First 1 ∷ stmt.Create 0 1 1 plain ∷ stmt.Yield who.Me ∷ [])
      ∷ procedure 1 (stmt.Ping (who.Named 0) ∷ stmt.OnExit (exit_stmt.Resume (who.Named 0))
      ∷ stmt.Recv (Some (who.Named 0)) mode.Poll ∷ stmt.Ping who.First ∷ [])
      ∷ []);
  turns = 100000;
  trace = codes "t0: ping self\nt0 = 0\nt0: setpri self 1\nt0 = 1\nt0: create w 1 -\nt0 = t1\nt0: yield self\nt0 = 0\nt1: ping self\nt1 = 0\nt1: onexit resume self\nt1 = 0\nt1: recv self poll\nt1 ! LE_INVALIDARG\nt1: ping t0\nt1 = 0\nt1: return\nexit x0 resume t1 = 0\nt1 dies\nt0: return\nt0 dies\npod ends 0\n";
  halt = Ended 0;
  calls = 10;
  takes = [];
}

-- Texts as they are: empty, with spaces before and within, and of 240 bytes.
--   lwp 1 / pod 1
--   proc main / say / say  two / say a  b / say xx..x
abbrev pub texts : Row
texts = record {
  script = speaking ([] ∷ codes " two" ∷ codes "a  b" ∷ longest_x ∷ []) (pod 1 (named (codes "main" ∷ []) [] [] [])
      (procedure 0 (stmt.Say 0 ∷ stmt.Say 1 ∷ stmt.Say 2 ∷ stmt.Say 3 ∷ [])
      ∷ []));
  turns = 100000;
  trace = codes "t0: say\nt0 = 0\nt0: say  two\nt0 = 0\nt0: say a  b\nt0 = 0\nt0: say "
      ++ (longest_x ++ codes "\nt0 = 0\nt0: return\nt0 dies\npod ends 0\n");
  halt = Ended 0;
  calls = 5;
  takes = [];
}
