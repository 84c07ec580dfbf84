-- The line server: sessions, which serve a client each, and the store.
use Rattle.trace_text.specs.declared.ends.Halt.TheVariants.{Ended}
use Rattle.std.specs.Prelude.{None, [], codes, ◌∷◌}
use Rattle.worked_rows.specs.Words.{Row, built_in, limited, line, named, plain, pod, posted, procedure, serving, speaking, took, with_natives}
use Rattle.script_text.specs.declared.script.Who.TheVariants as who
use Rattle.script_text.specs.declared.script.Stmt.TheVariants as stmt
use Rattle.script_text.specs.declared.script.NativeKind.TheVariants as native
use Rattle.lwp_types.specs.declared.call.Mode.TheVariants as mode

-- Two clients, one store: a key of the one isn't there for the other.
--   lwp 1 / pod 1
--   client 0 1 / client 1 2
--   native db store
--   native s session 1 db
--   native u session 2 db
--   proc main / create db db 1 v / create a s 1 - / create b u 1 - / join a / join b
--   post 0 get k / post 1 put k zz / post 0 what / post 0 quit / post 1 quit
abbrev pub answers_apart : Row
answers_apart = record {
  script = posted (1 ∷ 2 ∷ []) (line 0 0 (codes "get k") ∷ line 1 0 (codes "put k zz")
      ∷ line 0 1 (codes "what") ∷ line 0 2 (codes "quit")
      ∷ line 1 1 (codes "quit") ∷ [])
      (with_natives (built_in 0 native.Store ∷ built_in 1 (native.Session 1 0) ∷ built_in 2 (native.Session 2 0) ∷ [])
      (pod 1 (named (codes "db" ∷ codes "s" ∷ codes "u" ∷ codes "main" ∷ [])
      (codes "db" ∷ codes "a" ∷ codes "b" ∷ []) [] [])
      (procedure 3 (stmt.Create 0 0 1 serving ∷ stmt.Create 1 1 1 plain ∷ stmt.Create 2 2 1 plain
      ∷ stmt.Join (who.Named 1)
      ∷ stmt.Join (who.Named 2) ∷ [])
      ∷ [])));
  turns = 100000;
  trace = codes "t0: create db 1 v\nt0 = t1\nt0: create s 1 -\nt0 = t2\nt0: create u 1 -\nt0 = t3\nt0: join t2\nt1: recv any wait\nt2: agent 1\nt2 = t4\nevent 1 client 0 seq 0 get k\nt2: recv t4 wait\nt2 = letter t4 240 get k\nt2: send t1 240 get k\nt1 = letter t2 240 get k\nt3: agent 2\nt3 = t5\nevent 2 client 1 seq 0 put k zz\nt3: recv t5 wait\nt3 = letter t5 240 put k zz\nt3: send t1 240 put k zz\nt1: reply t2 none\nt2 = reply none\nt1 = 0\nt1: recv any wait\nt1 = letter t3 240 put k zz\nt1: reply t3 ok\nt3 = reply ok\nt1 = 0\nt1: recv any wait\nt2: reply t4 none\nt2 = 0\nevent 1 client 0 seq 1 what\nt2: recv t4 wait\nt2 = letter t4 240 what\nt2: reply t4 bad\nt2 = 0\nevent 1 client 0 seq 2 quit\nt2: recv t4 wait\nt2 = letter t4 240 quit\nt2: reply t4 bye\nt2 = 0\nt2: return\nt0 = 0\nt2 dies\nt3: reply t5 ok\nt3 = 0\nevent 2 client 1 seq 1 quit\nt3: recv t5 wait\nt3 = letter t5 240 quit\nt3: reply t5 bye\nt3 = 0\nt3: return\nt3 dies\nt0: join t3\nt0 ! LE_NONEXIST\nt0: return\nt0 dies\npod ends 0\n";
  halt = Ended 0;
  calls = 27;
  takes = took 6 1 (line 0 0 (codes "get k")) ∷ took 9 2 (line 1 0 (codes "put k zz"))
      ∷ took 16 1 (line 0 1 (codes "what"))
      ∷ took 18 1 (line 0 2 (codes "quit")) ∷ took 22 2 (line 1 1 (codes "quit")) ∷ [];
}

-- What isn't a command is answered at once, and the store isn't asked.
--   lwp 1 / pod 1
--   client 0 3
--   native s session 3 db
--   proc main / create a s 1 - / join a
--   post 0 / post 0 put / post 0 put  / post 0 put k  / post 0 get / post 0 get k x / post 0 del k  / post 0 PUT k v /
--     post 0 put K v / post 0 put k-v / post 0 get abcdefghijklmnopq / post 0  get k / post 0 quit  / post 0 quit
abbrev pub bad_commands : Row
bad_commands = record {
  script = posted (3 ∷ []) (line 0 0 [] ∷ line 0 1 (codes "put") ∷ line 0 2 (codes "put ") ∷ line 0 3 (codes "put k ")
      ∷ line 0 4 (codes "get") ∷ line 0 5 (codes "get k x") ∷ line 0 6 (codes "del k ") ∷ line 0 7 (codes "PUT k v")
      ∷ line 0 8 (codes "put K v") ∷ line 0 9 (codes "put k-v") ∷ line 0 10 (codes "get abcdefghijklmnopq")
      ∷ line 0 11 (codes " get k") ∷ line 0 12 (codes "quit ") ∷ line 0 13 (codes "quit") ∷ [])
      (with_natives (built_in 0 (native.Session 3 0) ∷ [])
      (pod 1 (named (codes "s" ∷ codes "main" ∷ []) (codes "db" ∷ codes "a" ∷ []) [] [])
      (procedure 1 (stmt.Create 1 0 1 plain ∷ stmt.Join (who.Named 1) ∷ [])
      ∷ [])));
  turns = 100000;
  trace = codes "t0: create s 1 -\nt0 = t1\nt0: join t1\nt1: agent 3\nt1 = t2\nevent 3 client 0 seq 0\nt1: recv t2 wait\nt1 = letter t2 240\nt1: reply t2 bad\nt1 = 0\nevent 3 client 0 seq 1 put\nt1: recv t2 wait\nt1 = letter t2 240 put\nt1: reply t2 bad\nt1 = 0\nevent 3 client 0 seq 2 put \nt1: recv t2 wait\nt1 = letter t2 240 put \nt1: reply t2 bad\nt1 = 0\nevent 3 client 0 seq 3 put k \nt1: recv t2 wait\nt1 = letter t2 240 put k \nt1: reply t2 bad\nt1 = 0\nevent 3 client 0 seq 4 get\nt1: recv t2 wait\nt1 = letter t2 240 get\nt1: reply t2 bad\nt1 = 0\nevent 3 client 0 seq 5 get k x\nt1: recv t2 wait\nt1 = letter t2 240 get k x\nt1: reply t2 bad\nt1 = 0\nevent 3 client 0 seq 6 del k \nt1: recv t2 wait\nt1 = letter t2 240 del k \nt1: reply t2 bad\nt1 = 0\nevent 3 client 0 seq 7 PUT k v\nt1: recv t2 wait\nt1 = letter t2 240 PUT k v\nt1: reply t2 bad\nt1 = 0\nevent 3 client 0 seq 8 put K v\nt1: recv t2 wait\nt1 = letter t2 240 put K v\nt1: reply t2 bad\nt1 = 0\nevent 3 client 0 seq 9 put k-v\nt1: recv t2 wait\nt1 = letter t2 240 put k-v\nt1: reply t2 bad\nt1 = 0\nevent 3 client 0 seq 10 get abcdefghijklmnopq\nt1: recv t2 wait\nt1 = letter t2 240 get abcdefghijklmnopq\nt1: reply t2 bad\nt1 = 0\nevent 3 client 0 seq 11  get k\nt1: recv t2 wait\nt1 = letter t2 240  get k\nt1: reply t2 bad\nt1 = 0\nevent 3 client 0 seq 12 quit \nt1: recv t2 wait\nt1 = letter t2 240 quit \nt1: reply t2 bad\nt1 = 0\nevent 3 client 0 seq 13 quit\nt1: recv t2 wait\nt1 = letter t2 240 quit\nt1: reply t2 bye\nt1 = 0\nt1: return\nt0 = 0\nt1 dies\nt0: return\nt0 dies\npod ends 0\n";
  halt = Ended 0;
  calls = 33;
  takes = took 3 3 (line 0 0 []) ∷ took 5 3 (line 0 1 (codes "put")) ∷ took 7 3 (line 0 2 (codes "put "))
      ∷ took 9 3 (line 0 3 (codes "put k ")) ∷ took 11 3 (line 0 4 (codes "get"))
      ∷ took 13 3 (line 0 5 (codes "get k x")) ∷ took 15 3 (line 0 6 (codes "del k "))
      ∷ took 17 3 (line 0 7 (codes "PUT k v")) ∷ took 19 3 (line 0 8 (codes "put K v"))
      ∷ took 21 3 (line 0 9 (codes "put k-v")) ∷ took 23 3 (line 0 10 (codes "get abcdefghijklmnopq"))
      ∷ took 25 3 (line 0 11 (codes " get k")) ∷ took 27 3 (line 0 12 (codes "quit "))
      ∷ took 29 3 (line 0 13 (codes "quit")) ∷ [];
}

-- A command whose store was never there, and then one whose store has died.
--   lwp 1 / pod 1
--   client 0 3
--   native s session 3 db
--   proc main / create a s 1 - / yield a / create db w 1 - / ping db / yield a / destroy db / join a
--   proc w / recv any wait
--   post 0 put abcdefghijklmnop v / post 0 del k_9 / post 0 quit
abbrev pub down_without_a_store : Row
down_without_a_store = record {
  script = posted (3 ∷ []) (line 0 0 (codes "put abcdefghijklmnop v") ∷ line 0 1 (codes "del k_9")
      ∷ line 0 2 (codes "quit") ∷ [])
      (with_natives (built_in 0 (native.Session 3 0) ∷ [])
      (pod 1 (named (codes "s" ∷ codes "main" ∷ codes "w" ∷ []) (codes "db" ∷ codes "a" ∷ []) [] [])
      (procedure 1 (stmt.Create 1 0 1 plain ∷ stmt.Yield (who.Named 1) ∷ stmt.Create 0 2 1 plain
      ∷ stmt.Ping (who.Named 0)
      ∷ stmt.Yield (who.Named 1) ∷ stmt.Destroy (who.Named 0) ∷ stmt.Join (who.Named 1) ∷ [])
      ∷ procedure 2 (stmt.Recv None mode.Block ∷ [])
      ∷ [])));
  turns = 100000;
  trace = codes "t0: create s 1 -\nt0 = t1\nt0: yield t1\nt0 = 0\nt1: agent 3\nt1 = t2\nevent 3 client 0 seq 0 put abcdefghijklmnop v\nt1: recv t2 wait\nt1 = letter t2 240 put abcdefghijklmnop v\nt1: send none 240 put abcdefghijklmnop v\nt1 ! LE_NONEXIST\nt1: reply t2 down\nt1 = 0\nevent 3 client 0 seq 1 del k_9\nt1: recv t2 wait\nt1 = letter t2 240 del k_9\nt1: send none 240 del k_9\nt1 ! LE_NONEXIST\nt1: reply t2 down\nt1 = 0\nevent 3 client 0 seq 2 quit\nt1: recv t2 wait\nt1 = letter t2 240 quit\nt1: reply t2 bye\nt1 = 0\nt1: return\nt1 dies\nt0: create w 1 -\nt0 = t3\nt0: ping t3\nt0 = 0\nt0: yield t1\nt0 ! LE_NONEXIST\nt0: destroy t3\nt3 dies\nt0 = 0\nt0: join t1\nt0 ! LE_NONEXIST\nt0: return\nt0 dies\npod ends 0\n";
  halt = Ended 0;
  calls = 18;
  takes = took 3 3 (line 0 0 (codes "put abcdefghijklmnop v")) ∷ took 6 3 (line 0 1 (codes "del k_9"))
      ∷ took 9 3 (line 0 2 (codes "quit")) ∷ [];
}

-- The store dies with the command unanswered.
--   lwp 1 / pod 1
--   client 0 3
--   native s session 3 db
--   proc main / create db w 1 - / create a s 1 - / join a
--   proc w / recv any wait
--   post 0 get k / post 0 quit
abbrev pub down_at_the_stores_death : Row
down_at_the_stores_death = record {
  script = posted (3 ∷ []) (line 0 0 (codes "get k") ∷ line 0 1 (codes "quit") ∷ [])
      (with_natives (built_in 0 (native.Session 3 0) ∷ [])
      (pod 1 (named (codes "s" ∷ codes "main" ∷ codes "w" ∷ []) (codes "db" ∷ codes "a" ∷ []) [] [])
      (procedure 1 (stmt.Create 0 2 1 plain ∷ stmt.Create 1 0 1 plain ∷ stmt.Join (who.Named 1) ∷ [])
      ∷ procedure 2 (stmt.Recv None mode.Block ∷ [])
      ∷ [])));
  turns = 100000;
  trace = codes "t0: create w 1 -\nt0 = t1\nt0: create s 1 -\nt0 = t2\nt0: join t2\nt1: recv any wait\nt2: agent 3\nt2 = t3\nevent 3 client 0 seq 0 get k\nt2: recv t3 wait\nt2 = letter t3 240 get k\nt2: send t1 240 get k\nt1 = letter t2 240 get k\nt1: return\nt2 ! LE_NONEXIST\nt1 dies\nt2: reply t3 down\nt2 = 0\nevent 3 client 0 seq 1 quit\nt2: recv t3 wait\nt2 = letter t3 240 quit\nt2: reply t3 bye\nt2 = 0\nt2: return\nt0 = 0\nt2 dies\nt0: return\nt0 dies\npod ends 0\n";
  halt = Ended 0;
  calls = 13;
  takes = took 5 3 (line 0 0 (codes "get k")) ∷ took 9 3 (line 0 1 (codes "quit")) ∷ [];
}

-- A session that can have no agent returns.
--   lwp 1 / pod 1 / limit births 2
--   client 0 3
--   native s session 3 db
--   proc main / create a s 1 - / join a
--   post 0 quit
abbrev pub a_session_without_an_agent : Row
a_session_without_an_agent = record {
  script = posted (3 ∷ []) (line 0 0 (codes "quit") ∷ [])
      (limited 2 (with_natives (built_in 0 (native.Session 3 0) ∷ [])
      (pod 1 (named (codes "s" ∷ codes "main" ∷ []) (codes "db" ∷ codes "a" ∷ []) [] [])
      (procedure 1 (stmt.Create 1 0 1 plain ∷ stmt.Join (who.Named 1) ∷ [])
      ∷ []))));
  turns = 100000;
  trace = codes "t0: create s 1 -\nt0 = t1\nt0: join t1\nt1: agent 3\nt1 ! LE_NOROOM\nt1: return\nt0 = 0\nt1 dies\nt0: return\nt0 dies\npod ends 0\nleft client 0 1\n";
  halt = Ended 0;
  calls = 5;
  takes = [];
}

-- Every command; an empty value, a value that begins with a space, and a key that is put again.
--   lwp 1 / pod 1
--   native st store
--   proc main / create db st 1 v / send db 240 get k / send db 240 put k v w / send db 240 get k / send db 240 put k /
--     send db 240 get k / send db 240 put k  x / send db 240 get k / send db 240 del k / send db 240 del k /
--     send db 240 get k / send db 240 put k  / send db 240 quit
abbrev pub commands_of_the_store : Row
commands_of_the_store = record {
  script = with_natives (built_in 0 native.Store ∷ [])
      (speaking
      (codes "get k" ∷ codes "put k v w" ∷ codes "get k" ∷ codes "put k" ∷ codes "get k"
      ∷ codes "put k  x" ∷ codes "get k" ∷ codes "del k" ∷ codes "del k" ∷ codes "get k"
      ∷ codes "put k " ∷ codes "quit" ∷ [])
      (pod 1 (named (codes "st" ∷ codes "main" ∷ []) (codes "db" ∷ []) [] [])
      (procedure 1 (stmt.Create 0 0 1 serving ∷ stmt.Send (who.Named 0) 240 0
      ∷ stmt.Send (who.Named 0) 240 1 ∷ stmt.Send (who.Named 0) 240 2
      ∷ stmt.Send (who.Named 0) 240 3 ∷ stmt.Send (who.Named 0) 240 4
      ∷ stmt.Send (who.Named 0) 240 5 ∷ stmt.Send (who.Named 0) 240 6
      ∷ stmt.Send (who.Named 0) 240 7 ∷ stmt.Send (who.Named 0) 240 8
      ∷ stmt.Send (who.Named 0) 240 9 ∷ stmt.Send (who.Named 0) 240 10
      ∷ stmt.Send (who.Named 0) 240 11 ∷ [])
      ∷ [])));
  turns = 100000;
  trace = codes "t0: create st 1 v\nt0 = t1\nt0: send t1 240 get k\nt1: recv any wait\nt1 = letter t0 240 get k\nt1: reply t0 none\nt0 = reply none\nt1 = 0\nt1: recv any wait\nt0: send t1 240 put k v w\nt1 = letter t0 240 put k v w\nt1: reply t0 ok\nt0 = reply ok\nt1 = 0\nt1: recv any wait\nt0: send t1 240 get k\nt1 = letter t0 240 get k\nt1: reply t0 is v w\nt0 = reply is v w\nt1 = 0\nt1: recv any wait\nt0: send t1 240 put k\nt1 = letter t0 240 put k\nt1: reply t0 ok\nt0 = reply ok\nt1 = 0\nt1: recv any wait\nt0: send t1 240 get k\nt1 = letter t0 240 get k\nt1: reply t0 is\nt0 = reply is\nt1 = 0\nt1: recv any wait\nt0: send t1 240 put k  x\nt1 = letter t0 240 put k  x\nt1: reply t0 ok\nt0 = reply ok\nt1 = 0\nt1: recv any wait\nt0: send t1 240 get k\nt1 = letter t0 240 get k\nt1: reply t0 is  x\nt0 = reply is  x\nt1 = 0\nt1: recv any wait\nt0: send t1 240 del k\nt1 = letter t0 240 del k\nt1: reply t0 ok\nt0 = reply ok\nt1 = 0\nt1: recv any wait\nt0: send t1 240 del k\nt1 = letter t0 240 del k\nt1: reply t0 none\nt0 = reply none\nt1 = 0\nt1: recv any wait\nt0: send t1 240 get k\nt1 = letter t0 240 get k\nt1: reply t0 none\nt0 = reply none\nt1 = 0\nt1: recv any wait\nt0: send t1 240 put k \nt1 = letter t0 240 put k \nt1: reply t0 bad\nt0 = reply bad\nt1 = 0\nt1: recv any wait\nt0: send t1 240 quit\nt1 = letter t0 240 quit\nt1: reply t0 bad\nt0 = reply bad\nt1 = 0\nt1: recv any wait\nt0: return\nt0 dies\npod ends 0\n";
  halt = Ended 0;
  calls = 39;
  takes = [];
}

-- Another sender's keys aren't there.
--   lwp 1 / pod 1
--   native st store
--   proc main / create db st 1 v / send db 240 put k a / create x w 1 - / join x / send db 240 get k
--   proc w / send db 240 get k / send db 240 put k b
abbrev pub a_table_for_each_sender : Row
a_table_for_each_sender = record {
  script = with_natives (built_in 0 native.Store ∷ [])
      (speaking (codes "put k a" ∷ codes "get k" ∷ codes "get k" ∷ codes "put k b" ∷ [])
      (pod 1 (named (codes "st" ∷ codes "main" ∷ codes "w" ∷ []) (codes "db" ∷ codes "x" ∷ []) [] [])
      (procedure 1 (stmt.Create 0 0 1 serving ∷ stmt.Send (who.Named 0) 240 0 ∷ stmt.Create 1 2 1 plain
      ∷ stmt.Join (who.Named 1) ∷ stmt.Send (who.Named 0) 240 1 ∷ [])
      ∷ procedure 2 (stmt.Send (who.Named 0) 240 2 ∷ stmt.Send (who.Named 0) 240 3 ∷ [])
      ∷ [])));
  turns = 100000;
  trace = codes "t0: create st 1 v\nt0 = t1\nt0: send t1 240 put k a\nt1: recv any wait\nt1 = letter t0 240 put k a\nt1: reply t0 ok\nt0 = reply ok\nt1 = 0\nt1: recv any wait\nt0: create w 1 -\nt0 = t2\nt0: join t2\nt2: send t1 240 get k\nt1 = letter t2 240 get k\nt1: reply t2 none\nt2 = reply none\nt1 = 0\nt1: recv any wait\nt2: send t1 240 put k b\nt1 = letter t2 240 put k b\nt1: reply t2 ok\nt2 = reply ok\nt1 = 0\nt1: recv any wait\nt2: return\nt0 = 0\nt2 dies\nt0: send t1 240 get k\nt1 = letter t0 240 get k\nt1: reply t0 is a\nt0 = reply is a\nt1 = 0\nt1: recv any wait\nt0: return\nt0 dies\npod ends 0\n";
  halt = Ended 0;
  calls = 18;
  takes = [];
}

-- A reply that is too long for its sender is made once more, empty; the put is done all the same.
--   lwp 1 / pod 1
--   native st store
--   proc main / create db st 1 v / send db 1 put k v / send db 4 get k
abbrev pub a_reply_without_room : Row
a_reply_without_room = record {
  script = with_natives (built_in 0 native.Store ∷ [])
      (speaking (codes "put k v" ∷ codes "get k" ∷ [])
      (pod 1 (named (codes "st" ∷ codes "main" ∷ []) (codes "db" ∷ []) [] [])
      (procedure 1 (stmt.Create 0 0 1 serving ∷ stmt.Send (who.Named 0) 1 0
      ∷ stmt.Send (who.Named 0) 4 1 ∷ [])
      ∷ [])));
  turns = 100000;
  trace = codes "t0: create st 1 v\nt0 = t1\nt0: send t1 1 put k v\nt1: recv any wait\nt1 = letter t0 1 put k v\nt1: reply t0 ok\nt1 ! LE_INVALIDARG\nt1: reply t0\nt0 = reply\nt1 = 0\nt1: recv any wait\nt0: send t1 4 get k\nt1 = letter t0 4 get k\nt1: reply t0 is v\nt0 = reply is v\nt1 = 0\nt1: recv any wait\nt0: return\nt0 dies\npod ends 0\n";
  halt = Ended 0;
  calls = 10;
  takes = [];
}
