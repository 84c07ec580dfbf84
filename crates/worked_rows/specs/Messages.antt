-- Messages: a sender waits for its reply.
use Rattle.trace_text.specs.declared.ends.Halt.TheVariants.{Ended, Stuck}
use Rattle.std.specs.Prelude.{None, Some, [], codes, ◌++◌, ◌∷◌}
use Rattle.worked_rows.specs.Words.{Row, asleep, longest_x, longest_y, named, plain, pod, procedure, serving, speaking}
use Rattle.script_text.specs.declared.script.Who.TheVariants as who
use Rattle.script_text.specs.declared.script.Stmt.TheVariants as stmt
use Rattle.lwp_types.specs.declared.call.Mode.TheVariants as mode

-- A letter is chosen by its sender; a poll doesn't wait; a second reply is refused.
--   lwp 1 / pod 1
--   proc main / create a w 1 - / create b w 1 - / yield self / recv b wait / reply b ok / recv any poll /
--     reply a yes / recv any poll / reply a no
--   proc w / send first 3 hi
abbrev pub receive_by_name_and_poll : Row
receive_by_name_and_poll = record {
  script = speaking (codes "ok" ∷ codes "yes" ∷ codes "no" ∷ codes "hi" ∷ [])
      (pod 1 (named (codes "main" ∷ codes "w" ∷ []) (codes "a" ∷ codes "b" ∷ []) [] [])
      (procedure 0 (stmt.Create 0 1 1 plain ∷ stmt.Create 1 1 1 plain ∷ stmt.Yield who.Me
      ∷ stmt.Recv (Some (who.Named 1)) mode.Block ∷ stmt.Reply (who.Named 1) 0 ∷ stmt.Recv None mode.Poll
      ∷ stmt.Reply (who.Named 0) 1 ∷ stmt.Recv None mode.Poll ∷ stmt.Reply (who.Named 0) 2
      ∷ [])
      ∷ procedure 1 (stmt.Send who.First 3 3 ∷ [])
      ∷ []));
  turns = 100000;
  trace = codes "t0: create w 1 -\nt0 = t1\nt0: create w 1 -\nt0 = t2\nt0: yield self\nt0 = 0\nt1: send t0 3 hi\nt2: send t0 3 hi\nt0: recv t2 wait\nt0 = letter t2 3 hi\nt0: reply t2 ok\nt2 = reply ok\nt0 = 0\nt0: recv any poll\nt0 = letter t1 3 hi\nt0: reply t1 yes\nt1 = reply yes\nt0 = 0\nt0: recv any poll\nt0 ! LE_TIMEOUT\nt0: reply t1 no\nt0 ! LE_NOWAIT\nt0: return\nt0 dies\nt2: return\nt2 dies\nt1: return\nt1 dies\npod ends 0\n";
  halt = Ended 0;
  calls = 14;
  takes = [];
}

-- A reply may be as long as the room, and no longer.
--   lwp 1 / pod 1
--   proc main / create a w 1 - / recv any wait / reply a abcd / reply a abc
--   proc w / send first 3 hi
abbrev pub reply_of_the_room : Row
reply_of_the_room = record {
  script = speaking (codes "abcd" ∷ codes "abc" ∷ codes "hi" ∷ [])
      (pod 1 (named (codes "main" ∷ codes "w" ∷ []) (codes "a" ∷ []) [] [])
      (procedure 0 (stmt.Create 0 1 1 plain ∷ stmt.Recv None mode.Block ∷ stmt.Reply (who.Named 0) 0
      ∷ stmt.Reply (who.Named 0) 1 ∷ [])
      ∷ procedure 1 (stmt.Send who.First 3 2 ∷ [])
      ∷ []));
  turns = 100000;
  trace = codes "t0: create w 1 -\nt0 = t1\nt0: recv any wait\nt1: send t0 3 hi\nt0 = letter t1 3 hi\nt0: reply t1 abcd\nt0 ! LE_INVALIDARG\nt0: reply t1 abc\nt1 = reply abc\nt0 = 0\nt0: return\nt0 dies\nt1: return\nt1 dies\npod ends 0\n";
  halt = Ended 0;
  calls = 7;
  takes = [];
}

-- Nobody, and then oneself.
--   lwp 1 / pod 1
--   proc main / send none 5 hi / send self 5 hi
abbrev pub send_is_refused_in_order : Row
send_is_refused_in_order = record {
  script = speaking (codes "hi" ∷ codes "hi" ∷ []) (pod 1 (named (codes "main" ∷ []) [] [] [])
      (procedure 0 (stmt.Send who.Nobody 5 0 ∷ stmt.Send who.Me 5 1 ∷ [])
      ∷ []));
  turns = 100000;
  trace = codes "t0: send none 5 hi\nt0 ! LE_NONEXIST\nt0: send self 5 hi\nt0 ! LE_INVALIDARG\nt0: return\nt0 dies\npod ends 0\n";
  halt = Ended 0;
  calls = 3;
  takes = [];
}

-- Nobody, then oneself; a poll with no letter times out, by name and by any.
--   lwp 1 / pod 1
--   proc main / create a w 1 s / recv none poll / recv none wait / recv self poll / recv self wait / recv any poll /
--     recv a poll
--   proc w
abbrev pub recv_is_refused_in_order : Row
recv_is_refused_in_order = record {
  script = pod 1 (named (codes "main" ∷ codes "w" ∷ []) (codes "a" ∷ []) [] [])
      (procedure 0 (stmt.Create 0 1 1 asleep ∷ stmt.Recv (Some who.Nobody) mode.Poll
      ∷ stmt.Recv (Some who.Nobody) mode.Block
      ∷ stmt.Recv (Some who.Me) mode.Poll ∷ stmt.Recv (Some who.Me) mode.Block ∷ stmt.Recv None mode.Poll
      ∷ stmt.Recv (Some (who.Named 0)) mode.Poll ∷ [])
      ∷ procedure 1 []
      ∷ []);
  turns = 100000;
  trace = codes "t0: create w 1 s\nt0 = t1\nt0: recv none poll\nt0 ! LE_NONEXIST\nt0: recv none wait\nt0 ! LE_NONEXIST\nt0: recv self poll\nt0 ! LE_INVALIDARG\nt0: recv self wait\nt0 ! LE_INVALIDARG\nt0: recv any poll\nt0 ! LE_TIMEOUT\nt0: recv t1 poll\nt0 ! LE_TIMEOUT\nt0: return\nt0 dies\nstuck\n";
  halt = Stuck;
  calls = 8;
  takes = [];
}

-- Nobody; then no letter, one that wasn't received, or a letter of oneself; then a text that is too long.
--   lwp 1 / pod 1
--   proc main / create a w 1 - / reply none x / reply a x / yield self / reply a x / recv any wait / reply self x /
--     reply a long / reply a ok / reply a ok
--   proc w / send first 2 hi
abbrev pub reply_is_refused_in_order : Row
reply_is_refused_in_order = record {
  script = speaking
      (codes "x" ∷ codes "x" ∷ codes "x" ∷ codes "x" ∷ codes "long" ∷ codes "ok" ∷ codes "ok" ∷ codes "hi" ∷ [])
      (pod 1 (named (codes "main" ∷ codes "w" ∷ []) (codes "a" ∷ []) [] [])
      (procedure 0 (stmt.Create 0 1 1 plain ∷ stmt.Reply who.Nobody 0 ∷ stmt.Reply (who.Named 0) 1
      ∷ stmt.Yield who.Me ∷ stmt.Reply (who.Named 0) 2 ∷ stmt.Recv None mode.Block
      ∷ stmt.Reply who.Me 3 ∷ stmt.Reply (who.Named 0) 4
      ∷ stmt.Reply (who.Named 0) 5 ∷ stmt.Reply (who.Named 0) 6 ∷ [])
      ∷ procedure 1 (stmt.Send who.First 2 7 ∷ [])
      ∷ []));
  turns = 100000;
  trace = codes "t0: create w 1 -\nt0 = t1\nt0: reply none x\nt0 ! LE_NONEXIST\nt0: reply t1 x\nt0 ! LE_NOWAIT\nt0: yield self\nt0 = 0\nt1: send t0 2 hi\nt0: reply t1 x\nt0 ! LE_NOWAIT\nt0: recv any wait\nt0 = letter t1 2 hi\nt0: reply self x\nt0 ! LE_NOWAIT\nt0: reply t1 long\nt0 ! LE_INVALIDARG\nt0: reply t1 ok\nt1 = reply ok\nt0 = 0\nt0: reply t1 ok\nt0 ! LE_NOWAIT\nt0: return\nt0 dies\nt1: return\nt1 dies\npod ends 0\n";
  halt = Ended 0;
  calls = 13;
  takes = [];
}

-- A sender with no room takes the empty reply alone; empty texts print nothing.
--   lwp 1 / pod 1
--   proc main / create a w 1 - / recv any wait / reply sender x / reply sender
--   proc w / send first 0 / say done
abbrev pub room_for_nothing : Row
room_for_nothing = record {
  script = speaking (codes "x" ∷ [] ∷ [] ∷ codes "done" ∷ [])
      (pod 1 (named (codes "main" ∷ codes "w" ∷ []) (codes "a" ∷ []) [] [])
      (procedure 0 (stmt.Create 0 1 1 plain ∷ stmt.Recv None mode.Block ∷ stmt.Reply who.Sender 0
      ∷ stmt.Reply who.Sender 1 ∷ [])
      ∷ procedure 1 (stmt.Send who.First 0 2 ∷ stmt.Say 3 ∷ [])
      ∷ []));
  turns = 100000;
  trace = codes "t0: create w 1 -\nt0 = t1\nt0: recv any wait\nt1: send t0 0\nt0 = letter t1 0\nt0: reply t1 x\nt0 ! LE_INVALIDARG\nt0: reply t1\nt1 = reply\nt0 = 0\nt0: return\nt0 dies\nt1: say done\nt1 = 0\nt1: return\nt1 dies\npod ends 0\n";
  halt = Ended 0;
  calls = 8;
  takes = [];
}

-- Texts of 240 bytes, with room for a reply of 240.
--   lwp 1 / pod 1
--   proc main / create a w 1 - / recv any wait / reply a yy..y
--   proc w / send first 240 xx..x
abbrev pub room_for_the_longest : Row
room_for_the_longest = record {
  script = speaking (longest_y ∷ longest_x ∷ []) (pod 1 (named (codes "main" ∷ codes "w" ∷ []) (codes "a" ∷ []) [] [])
      (procedure 0 (stmt.Create 0 1 1 plain ∷ stmt.Recv None mode.Block ∷ stmt.Reply (who.Named 0) 0 ∷ [])
      ∷ procedure 1 (stmt.Send who.First 240 1 ∷ [])
      ∷ []));
  turns = 100000;
  trace = codes "t0: create w 1 -\nt0 = t1\nt0: recv any wait\nt1: send t0 240 "
      ++ (longest_x
      ++ (codes "\nt0 = letter t1 240 "
      ++ (longest_x
      ++ (codes "\nt0: reply t1 "
      ++ (longest_y
      ++ (codes "\nt1 = reply "
      ++ (longest_y ++ codes "\nt0 = 0\nt0: return\nt0 dies\nt1: return\nt1 dies\npod ends 0\n")))))));
  halt = Ended 0;
  calls = 6;
  takes = [];
}

-- Who waits for one sender by name isn't woken by another.
--   lwp 1 / pod 1
--   proc main / create a w 1 - / create b w 1 - / recv b wait / recv any wait / reply a one / reply b two
--   proc w / send first 9 hi
abbrev pub a_letter_of_another_waits : Row
a_letter_of_another_waits = record {
  script = speaking (codes "one" ∷ codes "two" ∷ codes "hi" ∷ [])
      (pod 1 (named (codes "main" ∷ codes "w" ∷ []) (codes "a" ∷ codes "b" ∷ []) [] [])
      (procedure 0 (stmt.Create 0 1 1 plain ∷ stmt.Create 1 1 1 plain ∷ stmt.Recv (Some (who.Named 1)) mode.Block
      ∷ stmt.Recv None mode.Block ∷ stmt.Reply (who.Named 0) 0 ∷ stmt.Reply (who.Named 1) 1
      ∷ [])
      ∷ procedure 1 (stmt.Send who.First 9 2 ∷ [])
      ∷ []));
  turns = 100000;
  trace = codes "t0: create w 1 -\nt0 = t1\nt0: create w 1 -\nt0 = t2\nt0: recv t2 wait\nt1: send t0 9 hi\nt2: send t0 9 hi\nt0 = letter t2 9 hi\nt0: recv any wait\nt0 = letter t1 9 hi\nt0: reply t1 one\nt1 = reply one\nt0 = 0\nt0: reply t2 two\nt2 = reply two\nt0 = 0\nt0: return\nt0 dies\nt1: return\nt1 dies\nt2: return\nt2 dies\npod ends 0\n";
  halt = Ended 0;
  calls = 11;
  takes = [];
}

-- Letters are received in the order of their sending; the list of senders keeps those that were received.
--   lwp 1 / pod 1
--   proc main / create a w 1 - / create b w 1 - / create c w 1 - / yield self / senders / recv any wait /
--     recv c wait / senders / recv any wait / recv any poll / reply b / senders
--   proc w / send first 9 hi
abbrev pub letters_in_send_order : Row
letters_in_send_order = record {
  script = speaking ([] ∷ codes "hi" ∷ [])
      (pod 1 (named (codes "main" ∷ codes "w" ∷ []) (codes "a" ∷ codes "b" ∷ codes "c" ∷ []) [] [])
      (procedure 0 (stmt.Create 0 1 1 plain ∷ stmt.Create 1 1 1 plain ∷ stmt.Create 2 1 1 plain
      ∷ stmt.Yield who.Me ∷ stmt.Senders
      ∷ stmt.Recv None mode.Block ∷ stmt.Recv (Some (who.Named 2)) mode.Block ∷ stmt.Senders
      ∷ stmt.Recv None mode.Block ∷ stmt.Recv None mode.Poll ∷ stmt.Reply (who.Named 1) 0 ∷ stmt.Senders ∷ [])
      ∷ procedure 1 (stmt.Send who.First 9 1 ∷ [])
      ∷ []));
  turns = 100000;
  trace = codes "t0: create w 1 -\nt0 = t1\nt0: create w 1 -\nt0 = t2\nt0: create w 1 -\nt0 = t3\nt0: yield self\nt0 = 0\nt1: send t0 9 hi\nt2: send t0 9 hi\nt3: send t0 9 hi\nt0: senders\nt0 = ids t1 t2 t3\nt0: recv any wait\nt0 = letter t1 9 hi\nt0: recv t3 wait\nt0 = letter t3 9 hi\nt0: senders\nt0 = ids t1 t2 t3\nt0: recv any wait\nt0 = letter t2 9 hi\nt0: recv any poll\nt0 ! LE_TIMEOUT\nt0: reply t2\nt2 = reply\nt0 = 0\nt0: senders\nt0 = ids t1 t3\nt0: return\nt1 ! LE_NONEXIST\nt3 ! LE_NONEXIST\nt0 dies\nt2: return\nt2 dies\nt1: return\nt1 dies\nt3: return\nt3 dies\npod ends 0\n";
  halt = Ended 0;
  calls = 19;
  takes = [];
}

-- The list of receivers has those who wait for the caller by name.
--   lwp 1 / pod 1
--   proc main / create a n 1 - / create b y 1 - / create c n 1 - / yield self / receivers
--   proc n / recv first wait
--   proc y / recv any wait
abbrev pub receivers_name_the_caller : Row
receivers_name_the_caller = record {
  script = pod 1 (named (codes "main" ∷ codes "n" ∷ codes "y" ∷ []) (codes "a" ∷ codes "b" ∷ codes "c" ∷ []) [] [])
      (procedure 0 (stmt.Create 0 1 1 plain ∷ stmt.Create 1 2 1 plain ∷ stmt.Create 2 1 1 plain ∷ stmt.Yield who.Me
      ∷ stmt.Receivers ∷ [])
      ∷ procedure 1 (stmt.Recv (Some who.First) mode.Block ∷ [])
      ∷ procedure 2 (stmt.Recv None mode.Block ∷ [])
      ∷ []);
  turns = 100000;
  trace = codes "t0: create n 1 -\nt0 = t1\nt0: create y 1 -\nt0 = t2\nt0: create n 1 -\nt0 = t3\nt0: yield self\nt0 = 0\nt1: recv t0 wait\nt2: recv any wait\nt3: recv t0 wait\nt0: receivers\nt0 = ids t1 t3\nt0: return\nt1 ! LE_NONEXIST\nt3 ! LE_NONEXIST\nt0 dies\nt1: return\nt1 dies\nt3: return\nt3 dies\nstuck\n";
  halt = Stuck;
  calls = 11;
  takes = [];
}

-- A suspended receiver has its letter, and doesn't run.
--   lwp 1 / pod 1
--   proc main / create a r 1 - / yield self / suspend a / send a 9 hi
--   proc r / recv any wait / reply sender ok
abbrev pub a_suspended_receiver : Row
a_suspended_receiver = record {
  script = speaking (codes "hi" ∷ codes "ok" ∷ []) (pod 1 (named (codes "main" ∷ codes "r" ∷ []) (codes "a" ∷ []) [] [])
      (procedure 0 (stmt.Create 0 1 1 plain ∷ stmt.Yield who.Me ∷ stmt.Suspend (who.Named 0)
      ∷ stmt.Send (who.Named 0) 9 0 ∷ [])
      ∷ procedure 1 (stmt.Recv None mode.Block ∷ stmt.Reply who.Sender 1 ∷ [])
      ∷ []));
  turns = 100000;
  trace = codes "t0: create r 1 -\nt0 = t1\nt0: yield self\nt0 = 0\nt1: recv any wait\nt0: suspend t1\nt0 = 0\nt0: send t1 9 hi\nt1 = letter t0 9 hi\nstuck\n";
  halt = Stuck;
  calls = 5;
  takes = [];
}

-- A server answers one sender after the other; each goes on with its own reply.
--   lwp 1 / pod 1
--   proc main / create s r 1 v / create a w 1 - / send s 9 one / say done
--   proc w / send s 9 two
--   proc r / recv any wait / reply sender got / again
abbrev pub a_request_and_its_reply : Row
a_request_and_its_reply = record {
  script = speaking (codes "one" ∷ codes "done" ∷ codes "two" ∷ codes "got" ∷ [])
      (pod 1 (named (codes "main" ∷ codes "r" ∷ codes "w" ∷ []) (codes "s" ∷ codes "a" ∷ []) [] [])
      (procedure 0 (stmt.Create 0 1 1 serving ∷ stmt.Create 1 2 1 plain ∷ stmt.Send (who.Named 0) 9 0
      ∷ stmt.Say 1 ∷ [])
      ∷ procedure 2 (stmt.Send (who.Named 0) 9 2 ∷ [])
      ∷ procedure 1 (stmt.Recv None mode.Block ∷ stmt.Reply who.Sender 3 ∷ stmt.Again ∷ [])
      ∷ []));
  turns = 100000;
  trace = codes "t0: create r 1 v\nt0 = t1\nt0: create w 1 -\nt0 = t2\nt0: send t1 9 one\nt1: recv any wait\nt1 = letter t0 9 one\nt1: reply t0 got\nt0 = reply got\nt1 = 0\nt1: recv any wait\nt2: send t1 9 two\nt1 = letter t2 9 two\nt0: say done\nt0 = 0\nt0: return\nt0 dies\nt1: reply t2 got\nt2 = reply got\nt1 = 0\nt1: recv any wait\nt2: return\nt2 dies\npod ends 0\n";
  halt = Ended 0;
  calls = 12;
  takes = [];
}
