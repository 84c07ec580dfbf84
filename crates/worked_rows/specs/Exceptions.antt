-- Procedures, handlers and exceptions.
use Rattle.trace_text.specs.declared.ends.Halt.TheVariants.{Ended}
use Rattle.std.specs.Prelude.{[], codes, ◌∷◌}
use Rattle.worked_rows.specs.Words.{Row, named, plain, pod, procedure, speaking}
use Rattle.script_text.specs.declared.script.Who.TheVariants as who
use Rattle.script_lines.specs.declared.table.Test.TheVariants as test
use Rattle.script_text.specs.declared.script.ExitStmt.TheVariants as exit_stmt
use Rattle.script_text.specs.declared.script.Stmt.TheVariants as stmt
use Rattle.lwp_types.specs.declared.call.Pattern.TheVariants as pattern
use Rattle.lwp_types.specs.declared.call.Func.TheVariants as func

-- A handler that adds; handlers removed; a pattern of one's own; an exception that there isn't.
--   lwp 1 / pod 1
--   proc main / handle 7 sum 5 / bound 7 / excnotify 7 / unhandle / unhandle / uniqpatt / raise 0
abbrev pub functions_of_handlers : Row
functions_of_handlers = record {
  script = pod 1 (named (codes "main" ∷ []) [] [] [])
      (procedure 0 (stmt.Handle (pattern.Num 7) func.Sum 5 ∷ stmt.Bound 7 ∷ stmt.ExcNotify 7
      ∷ stmt.Unhandle ∷ stmt.Unhandle
      ∷ stmt.UniqPatt ∷ stmt.Raise 0 ∷ [])
      ∷ []);
  turns = 100000;
  trace = codes "t0: handle 7 sum 5\nt0 = 0\nt0: bound 7\nt0 = bound sum 5\nt0: excnotify 7\nt0 = 12\nt0: unhandle\nt0 = 0\nt0: unhandle\nt0 ! LE_NONEXIST\nt0: uniqpatt\nt0 = 1073741824\nt0: raise 0\nt0 ! LE_INVALIDARG\nt0: return\nt0 dies\npod ends 0\n";
  halt = Ended 0;
  calls = 8;
  takes = [];
}

-- Patterns are 1 to 2147483647, for each of the four calls.
--   lwp 1 / pod 1
--   proc main / handle 0 - 0 / handle 2147483648 - 0 / handle 1 give 6 / handle 2147483647 give 7 / raise 0 /
--     raise 2147483648 / excnotify 0 / excnotify 2147483648 / bound 0 / bound 2147483648 / excnotify 1 /
--     excnotify 2147483647
abbrev pub patterns_at_both_ends : Row
patterns_at_both_ends = record {
  script = pod 1 (named (codes "main" ∷ []) [] [] [])
      (procedure 0 (stmt.Handle (pattern.Num 0) func.Nothing 0 ∷ stmt.Handle (pattern.Num 2147483648) func.Nothing 0
      ∷ stmt.Handle (pattern.Num 1) func.Give 6 ∷ stmt.Handle (pattern.Num 2147483647) func.Give 7 ∷ stmt.Raise 0
      ∷ stmt.Raise 2147483648 ∷ stmt.ExcNotify 0 ∷ stmt.ExcNotify 2147483648 ∷ stmt.Bound 0 ∷ stmt.Bound 2147483648
      ∷ stmt.ExcNotify 1 ∷ stmt.ExcNotify 2147483647 ∷ [])
      ∷ []);
  turns = 100000;
  trace = codes "t0: handle 0 - 0\nt0 ! LE_INVALIDARG\nt0: handle 2147483648 - 0\nt0 ! LE_INVALIDARG\nt0: handle 1 give 6\nt0 = 0\nt0: handle 2147483647 give 7\nt0 = 0\nt0: raise 0\nt0 ! LE_INVALIDARG\nt0: raise 2147483648\nt0 ! LE_INVALIDARG\nt0: excnotify 0\nt0 ! LE_INVALIDARG\nt0: excnotify 2147483648\nt0 ! LE_INVALIDARG\nt0: bound 0\nt0 ! LE_INVALIDARG\nt0: bound 2147483648\nt0 ! LE_INVALIDARG\nt0: excnotify 1\nt0 = 6\nt0: excnotify 2147483647\nt0 = 7\nt0: return\nt0 dies\npod ends 0\n";
  halt = Ended 0;
  calls = 13;
  takes = [];
}

-- With no handler, and with one of another number.
--   lwp 1 / pod 1
--   proc main / raise 1 / excnotify 1 / bound 1 / handle 2 - 0 / raise 1 / excnotify 1 / bound 1
abbrev pub no_handler_matches : Row
no_handler_matches = record {
  script = pod 1 (named (codes "main" ∷ []) [] [] [])
      (procedure 0 (stmt.Raise 1 ∷ stmt.ExcNotify 1 ∷ stmt.Bound 1
      ∷ stmt.Handle (pattern.Num 2) func.Nothing 0 ∷ stmt.Raise 1
      ∷ stmt.ExcNotify 1 ∷ stmt.Bound 1 ∷ [])
      ∷ []);
  turns = 100000;
  trace = codes "t0: raise 1\nt0 ! LE_NONEXIST\nt0: excnotify 1\nt0 ! LE_NONEXIST\nt0: bound 1\nt0 ! LE_NONEXIST\nt0: handle 2 - 0\nt0 = 0\nt0: raise 1\nt0 ! LE_NONEXIST\nt0: excnotify 1\nt0 ! LE_NONEXIST\nt0: bound 1\nt0 ! LE_NONEXIST\nt0: return\nt0 dies\npod ends 0\n";
  halt = Ended 0;
  calls = 8;
  takes = [];
}

-- A notification is answered the argument, or the sum of argument and number, which may need more than 32 bits; or it
-- is caught.
--   lwp 1 / pod 1
--   proc main / handle 5 give 9 / excnotify 5 / handle all sum 4294967295 / excnotify 2147483647 / excnotify 5 /
--     handle 6 - 3 / skip caught / excnotify 6 / bound 6
abbrev pub notified_by_function : Row
notified_by_function = record {
  script = pod 1 (named (codes "main" ∷ []) [] [] [])
      (procedure 0 (stmt.Handle (pattern.Num 5) func.Give 9 ∷ stmt.ExcNotify 5
      ∷ stmt.Handle pattern.All func.Sum 4294967295
      ∷ stmt.ExcNotify 2147483647 ∷ stmt.ExcNotify 5 ∷ stmt.Handle (pattern.Num 6) func.Nothing 3
      ∷ stmt.Skip test.Caught ∷ stmt.ExcNotify 6 ∷ stmt.Bound 6 ∷ [])
      ∷ []);
  turns = 100000;
  trace = codes "t0: handle 5 give 9\nt0 = 0\nt0: excnotify 5\nt0 = 9\nt0: handle all sum 4294967295\nt0 = 0\nt0: excnotify 2147483647\nt0 = 6442450942\nt0: excnotify 5\nt0 = 4294967300\nt0: handle 6 - 3\nt0 = 0\nt0: excnotify 6\nt0 caught 6\nt0: bound 6\nt0 = bound sum 4294967295\nt0: return\nt0 dies\npod ends 0\n";
  halt = Ended 0;
  calls = 9;
  takes = [];
}

-- Of all handlers that match the one set last is found; each that is removed uncovers the one before.
--   lwp 1 / pod 1
--   proc main / handle 1 give 10 / handle 2 give 20 / handle all give 30 / handle 2 give 40 / excnotify 1 /
--     excnotify 2 / bound 3 / unhandle / excnotify 2 / unhandle / excnotify 2 / excnotify 1 / excnotify 3
abbrev pub the_last_that_matches : Row
the_last_that_matches = record {
  script = pod 1 (named (codes "main" ∷ []) [] [] [])
      (procedure 0 (stmt.Handle (pattern.Num 1) func.Give 10 ∷ stmt.Handle (pattern.Num 2) func.Give 20
      ∷ stmt.Handle pattern.All func.Give 30 ∷ stmt.Handle (pattern.Num 2) func.Give 40 ∷ stmt.ExcNotify 1
      ∷ stmt.ExcNotify 2 ∷ stmt.Bound 3 ∷ stmt.Unhandle ∷ stmt.ExcNotify 2 ∷ stmt.Unhandle ∷ stmt.ExcNotify 2
      ∷ stmt.ExcNotify 1 ∷ stmt.ExcNotify 3 ∷ [])
      ∷ []);
  turns = 100000;
  trace = codes "t0: handle 1 give 10\nt0 = 0\nt0: handle 2 give 20\nt0 = 0\nt0: handle all give 30\nt0 = 0\nt0: handle 2 give 40\nt0 = 0\nt0: excnotify 1\nt0 = 30\nt0: excnotify 2\nt0 = 40\nt0: bound 3\nt0 = bound give 30\nt0: unhandle\nt0 = 0\nt0: excnotify 2\nt0 = 30\nt0: unhandle\nt0 = 0\nt0: excnotify 2\nt0 = 20\nt0: excnotify 1\nt0 = 10\nt0: excnotify 3\nt0 ! LE_NONEXIST\nt0: return\nt0 dies\npod ends 0\n";
  halt = Ended 0;
  calls = 14;
  takes = [];
}

-- The last mark may be a frame or an exit procedure, and then no handler is removed.
--   lwp 1 / pod 1
--   proc main / unhandle / handle all - 0 / onexit note x / unhandle / call p
--   proc p / unhandle
abbrev pub unhandle_is_refused : Row
unhandle_is_refused = record {
  script = speaking (codes "x" ∷ []) (pod 1 (named (codes "main" ∷ codes "p" ∷ []) [] [] [])
      (procedure 0 (stmt.Unhandle ∷ stmt.Handle pattern.All func.Nothing 0 ∷ stmt.OnExit (exit_stmt.Note 0)
      ∷ stmt.Unhandle ∷ stmt.CallProc 1 ∷ [])
      ∷ procedure 1 (stmt.Unhandle ∷ [])
      ∷ []));
  turns = 100000;
  trace = codes "t0: unhandle\nt0 ! LE_NONEXIST\nt0: handle all - 0\nt0 = 0\nt0: onexit note x\nt0 = 0\nt0: unhandle\nt0 ! LE_INVALIDARG\nt0: call p\nt0 = 0\nt0: unhandle\nt0 ! LE_NONEXIST\nt0: return\nt0 = 0\nt0: return\nexit x0 note x = 0\nt0 dies\npod ends 0\n";
  halt = Ended 0;
  calls = 8;
  takes = [];
}

-- Patterns are given one after the other, to all threads.
--   lwp 1 / pod 1
--   proc main / uniqpatt / uniqpatt / create a w 1 - / yield self / uniqpatt
--   proc w / uniqpatt
abbrev pub patterns_given_once : Row
patterns_given_once = record {
  script = pod 1 (named (codes "main" ∷ codes "w" ∷ []) (codes "a" ∷ []) [] [])
      (procedure 0 (stmt.UniqPatt ∷ stmt.UniqPatt ∷ stmt.Create 0 1 1 plain ∷ stmt.Yield who.Me ∷ stmt.UniqPatt ∷ [])
      ∷ procedure 1 (stmt.UniqPatt ∷ [])
      ∷ []);
  turns = 100000;
  trace = codes "t0: uniqpatt\nt0 = 1073741824\nt0: uniqpatt\nt0 = 1073741825\nt0: create w 1 -\nt0 = t1\nt0: yield self\nt0 = 0\nt1: uniqpatt\nt1 = 1073741826\nt1: return\nt1 dies\nt0: uniqpatt\nt0 = 1073741827\nt0: return\nt0 dies\npod ends 0\n";
  halt = Ended 0;
  calls = 8;
  takes = [];
}

-- A thread finds its own handlers alone.
--   lwp 1 / pod 1
--   proc main / handle all give 1 / create a w 1 - / yield self / excnotify 9
--   proc w / excnotify 9
abbrev pub handlers_of_another_thread : Row
handlers_of_another_thread = record {
  script = pod 1 (named (codes "main" ∷ codes "w" ∷ []) (codes "a" ∷ []) [] [])
      (procedure 0 (stmt.Handle pattern.All func.Give 1 ∷ stmt.Create 0 1 1 plain
      ∷ stmt.Yield who.Me ∷ stmt.ExcNotify 9 ∷ [])
      ∷ procedure 1 (stmt.ExcNotify 9 ∷ [])
      ∷ []);
  turns = 100000;
  trace = codes "t0: handle all give 1\nt0 = 0\nt0: create w 1 -\nt0 = t1\nt0: yield self\nt0 = 0\nt1: excnotify 9\nt1 ! LE_NONEXIST\nt1: return\nt1 dies\nt0: excnotify 9\nt0 = 1\nt0: return\nt0 dies\npod ends 0\n";
  halt = Ended 0;
  calls = 7;
  takes = [];
}

-- A called procedure begins anew each time; a return in its midst leaves it.
--   lwp 1 / pod 1
--   proc main / call p / say back / call p
--   proc p / say in / return / say never
abbrev pub called_and_returned : Row
called_and_returned = record {
  script = speaking (codes "back" ∷ codes "in" ∷ codes "never" ∷ [])
      (pod 1 (named (codes "main" ∷ codes "p" ∷ []) [] [] [])
      (procedure 0 (stmt.CallProc 1 ∷ stmt.Say 0 ∷ stmt.CallProc 1 ∷ [])
      ∷ procedure 1 (stmt.Say 1 ∷ stmt.Return ∷ stmt.Say 2 ∷ [])
      ∷ []));
  turns = 100000;
  trace = codes "t0: call p\nt0 = 0\nt0: say in\nt0 = 0\nt0: return\nt0 = 0\nt0: say back\nt0 = 0\nt0: call p\nt0 = 0\nt0: say in\nt0 = 0\nt0: return\nt0 = 0\nt0: return\nt0 dies\npod ends 0\n";
  halt = Ended 0;
  calls = 8;
  takes = [];
}

-- A call of a procedure that isn't there is refused. No text spells such a script.
--   lwp 1 / pod 1
--   proc main / call nowhere / say on
abbrev pub no_such_procedure : Row
no_such_procedure = record {
  script = speaking (codes "on" ∷ []) (pod 1 (named (codes "main" ∷ codes "nowhere" ∷ []) [] [] [])
      (procedure 0 (stmt.CallProc 1 ∷ stmt.Say 0 ∷ [])
      ∷ []));
  turns = 100000;
  trace = codes "t0: call none\nt0 ! LE_INVALIDARG\nt0: say on\nt0 = 0\nt0: return\nt0 dies\npod ends 0\n";
  halt = Ended 0;
  calls = 3;
  takes = [];
}

-- A raise leaves the frame of the called procedure, and its handlers with it.
--   lwp 1 / pod 1
--   proc main / handle 7 - 0 / skip caught / call p / say after / bound 8 / bound 7
--   proc p / handle 8 - 0 / raise 7
abbrev pub caught_in_the_frame_below : Row
caught_in_the_frame_below = record {
  script = speaking (codes "after" ∷ []) (pod 1 (named (codes "main" ∷ codes "p" ∷ []) [] [] [])
      (procedure 0 (stmt.Handle (pattern.Num 7) func.Nothing 0 ∷ stmt.Skip test.Caught ∷ stmt.CallProc 1
      ∷ stmt.Say 0 ∷ stmt.Bound 8 ∷ stmt.Bound 7 ∷ [])
      ∷ procedure 1 (stmt.Handle (pattern.Num 8) func.Nothing 0 ∷ stmt.Raise 7 ∷ [])
      ∷ []));
  turns = 100000;
  trace = codes "t0: handle 7 - 0\nt0 = 0\nt0: call p\nt0 = 0\nt0: handle 8 - 0\nt0 = 0\nt0: raise 7\nt0 caught 7\nt0: say after\nt0 = 0\nt0: bound 8\nt0 ! LE_NONEXIST\nt0: bound 7\nt0 ! LE_NONEXIST\nt0: return\nt0 dies\npod ends 0\n";
  halt = Ended 0;
  calls = 8;
  takes = [];
}

-- The frames below that of the handler stay, and are returned to.
--   lwp 1 / pod 1
--   proc main / call p / say last
--   proc p / handle 4 - 0 / skip caught / call q / say here
--   proc q / call r / say never
--   proc r / raise 4
abbrev pub caught_in_the_middle : Row
caught_in_the_middle = record {
  script = speaking (codes "last" ∷ codes "here" ∷ codes "never" ∷ [])
      (pod 1 (named (codes "main" ∷ codes "p" ∷ codes "q" ∷ codes "r" ∷ []) [] [] [])
      (procedure 0 (stmt.CallProc 1 ∷ stmt.Say 0 ∷ [])
      ∷ procedure 1 (stmt.Handle (pattern.Num 4) func.Nothing 0 ∷ stmt.Skip test.Caught ∷ stmt.CallProc 2 ∷ stmt.Say 1
      ∷ [])
      ∷ procedure 2 (stmt.CallProc 3 ∷ stmt.Say 2 ∷ [])
      ∷ procedure 3 (stmt.Raise 4 ∷ [])
      ∷ []));
  turns = 100000;
  trace = codes "t0: call p\nt0 = 0\nt0: handle 4 - 0\nt0 = 0\nt0: call q\nt0 = 0\nt0: call r\nt0 = 0\nt0: raise 4\nt0 caught 4\nt0: say here\nt0 = 0\nt0: return\nt0 = 0\nt0: say last\nt0 = 0\nt0: return\nt0 dies\npod ends 0\n";
  halt = Ended 0;
  calls = 9;
  takes = [];
}

-- A catch removes the handler and the later ones of its frame, and leaves the earlier.
--   lwp 1 / pod 1
--   proc main / handle 1 give 1 / handle 2 - 0 / skip caught / handle 3 - 0 / skip caught / raise 2 / bound 1 /
--     bound 2 / bound 3 / unhandle / unhandle
abbrev pub earlier_handlers_stay : Row
earlier_handlers_stay = record {
  script = pod 1 (named (codes "main" ∷ []) [] [] [])
      (procedure 0 (stmt.Handle (pattern.Num 1) func.Give 1
      ∷ stmt.Handle (pattern.Num 2) func.Nothing 0 ∷ stmt.Skip test.Caught
      ∷ stmt.Handle (pattern.Num 3) func.Nothing 0 ∷ stmt.Skip test.Caught ∷ stmt.Raise 2 ∷ stmt.Bound 1
      ∷ stmt.Bound 2 ∷ stmt.Bound 3 ∷ stmt.Unhandle ∷ stmt.Unhandle ∷ [])
      ∷ []);
  turns = 100000;
  trace = codes "t0: handle 1 give 1\nt0 = 0\nt0: handle 2 - 0\nt0 = 0\nt0: handle 3 - 0\nt0 = 0\nt0: raise 2\nt0 caught 2\nt0: bound 1\nt0 = bound give 1\nt0: bound 2\nt0 ! LE_NONEXIST\nt0: bound 3\nt0 ! LE_NONEXIST\nt0: unhandle\nt0 = 0\nt0: unhandle\nt0 ! LE_NONEXIST\nt0: return\nt0 dies\npod ends 0\n";
  halt = Ended 0;
  calls = 10;
  takes = [];
}

-- Each handler of a frame has its own place to go on from.
--   lwp 1 / pod 1
--   proc main / handle 1 - 0 / skip caught / handle 2 - 0 / skip caught / handle 3 - 0 / skip caught / call p /
--     say end
--   proc p / raise 3
abbrev pub caught_by_the_third_of_a_frame : Row
caught_by_the_third_of_a_frame = record {
  script = speaking (codes "end" ∷ []) (pod 1 (named (codes "main" ∷ codes "p" ∷ []) [] [] [])
      (procedure 0 (stmt.Handle (pattern.Num 1) func.Nothing 0 ∷ stmt.Skip test.Caught
      ∷ stmt.Handle (pattern.Num 2) func.Nothing 0 ∷ stmt.Skip test.Caught
      ∷ stmt.Handle (pattern.Num 3) func.Nothing 0 ∷ stmt.Skip test.Caught ∷ stmt.CallProc 1
      ∷ stmt.Say 0 ∷ [])
      ∷ procedure 1 (stmt.Raise 3 ∷ [])
      ∷ []));
  turns = 100000;
  trace = codes "t0: handle 1 - 0\nt0 = 0\nt0: handle 2 - 0\nt0 = 0\nt0: handle 3 - 0\nt0 = 0\nt0: call p\nt0 = 0\nt0: raise 3\nt0 caught 3\nt0: say end\nt0 = 0\nt0: return\nt0 dies\npod ends 0\n";
  halt = Ended 0;
  calls = 7;
  takes = [];
}

-- A return takes the handlers that the procedure has set, and no others.
--   lwp 1 / pod 1
--   proc main / handle 1 give 1 / call p / bound 1 / bound 2
--   proc p / handle 2 give 2 / handle 1 give 3 / bound 1
abbrev pub handlers_go_with_their_frame : Row
handlers_go_with_their_frame = record {
  script = pod 1 (named (codes "main" ∷ codes "p" ∷ []) [] [] [])
      (procedure 0 (stmt.Handle (pattern.Num 1) func.Give 1 ∷ stmt.CallProc 1 ∷ stmt.Bound 1 ∷ stmt.Bound 2 ∷ [])
      ∷ procedure 1
      (stmt.Handle (pattern.Num 2) func.Give 2 ∷ stmt.Handle (pattern.Num 1) func.Give 3 ∷ stmt.Bound 1 ∷ [])
      ∷ []);
  turns = 100000;
  trace = codes "t0: handle 1 give 1\nt0 = 0\nt0: call p\nt0 = 0\nt0: handle 2 give 2\nt0 = 0\nt0: handle 1 give 3\nt0 = 0\nt0: bound 1\nt0 = bound give 3\nt0: return\nt0 = 0\nt0: bound 1\nt0 = bound give 1\nt0: bound 2\nt0 ! LE_NONEXIST\nt0: return\nt0 dies\npod ends 0\n";
  halt = Ended 0;
  calls = 9;
  takes = [];
}
