-- The line server at work: three clients, a session for each, one store. Each client asks for thirteen keys in turn, to
-- be put, got and deleted, and quits. The store is of greater priority and replies at once; the sessions take turns, a
-- request each.
use Rattle.lwp_types.specs.declared.call.Line.{Line}
use Rattle.pod_runner.specs.Due.{numbers_to}
use Rattle.pod_runner.specs.declared.session.Took.{Took}
use Rattle.trace_text.specs.declared.ends.Halt.TheVariants.{Ended, Spent}
use Rattle.std.specs.Fmt.{decimal}
use Rattle.std.specs.List.{flat_map}
use Rattle.std.specs.Prelude.{List, [], codes, if◌then◌else◌, map, nat_lt, slice_index_or, suc, zero, ℕ, ◌%◌, ◌*◌, ◌++◌, ◌+◌, ◌-◌, ◌/◌, ◌==◌, ◌∷◌}
use Rattle.worked_rows.specs.Words.{Row, built_in, line, named, plain, pod, posted, procedure, serving, took, with_natives}
use Rattle.script_text.specs.declared.script.Who.TheVariants as who
use Rattle.script_text.specs.declared.script.Stmt.TheVariants as stmt
use Rattle.script_text.specs.declared.script.NativeKind.TheVariants as native

-- how many clients there are, and how many lines each has before it quits
abbrev pub clients : ℕ
clients = 3

abbrev pub requests : ℕ
requests = 39

-- pieces of text in a row
abbrev pub joined : List (List ℕ) → List ℕ
joined pieces = flat_map (λ piece. piece) pieces

-- the command of a client's line number k, one for every client: put, get and del, of key after key
abbrev pub command : ℕ → List ℕ
command k = joined (slice_index_or (codes "put k" ∷ codes "get k" ∷ codes "del k" ∷ []) (k % 3) []
    ∷ decimal (k / 3)
    ∷ (if k % 3 == 0 then codes " v" ++ decimal (k / 3) else [])
    ∷ [])

-- how it is replied to
abbrev pub reply : ℕ → List ℕ
reply k = if k % 3 == 1 then codes "is v" ++ decimal (k / 3) else codes "ok"

-- line number k of a client, its last being `quit`
abbrev pub text : ℕ → List ℕ
text k = if nat_lt k requests then command k else codes "quit"

-- line number k of client c, as it is posted
abbrev pub posted_line : ℕ → ℕ → Line
posted_line c k = line c k (text k)

-- The store is t1, the session of client c is t(c + 2), and its agent is t(c + 5).

-- the session of a client
abbrev pub session : ℕ → List ℕ
session c = codes "t" ++ decimal (c + 2)

-- its agent
abbrev pub agent : ℕ → List ℕ
agent c = codes "t" ++ decimal (c + 5)

-- the session makes its agent
abbrev pub opens : ℕ → List ℕ
opens c = joined (session c ∷ codes ": agent " ∷ decimal (c + 1) ∷ codes "\n" ∷ session c
    ∷ codes " = " ∷ agent c ∷ codes "\n" ∷ [])

-- a line of the client is taken, and received by its session
abbrev pub hears : ℕ → ℕ → List ℕ
hears c k = joined (codes "event " ∷ decimal (c + 1) ∷ codes " client " ∷ decimal c ∷ codes " seq "
    ∷ decimal k ∷ codes " " ∷ text k ∷ codes "\n"
    ∷ session c ∷ codes ": recv " ∷ agent c ∷ codes " wait\n"
    ∷ session c ∷ codes " = letter " ∷ agent c ∷ codes " 240 " ∷ text k ∷ codes "\n"
    ∷ [])

-- the session sends it to the store, which replies and waits for the next
abbrev pub asks : ℕ → ℕ → List ℕ
asks c k = joined (session c ∷ codes ": send t1 240 " ∷ text k ∷ codes "\nt1 = letter " ∷ session c
    ∷ codes " 240 " ∷ text k ∷ codes "\n"
    ∷ codes "t1: reply " ∷ session c ∷ codes " " ∷ reply k ∷ codes "\n" ∷ session c
    ∷ codes " = reply " ∷ reply k ∷ codes "\nt1 = 0\n"
    ∷ codes "t1: recv any wait\n"
    ∷ [])

-- the session replies to its agent
abbrev pub answers : ℕ → List ℕ → List ℕ
answers c said = joined (session c ∷ codes ": reply " ∷ agent c ∷ codes " " ∷ said ∷ codes "\n"
    ∷ session c ∷ codes " = 0\n" ∷ [])

-- what a session has to do before it hears line number k
abbrev pub before : ℕ → ℕ → List ℕ
before c zero = opens c
before c (suc k) = answers c (reply k)

-- each session in turn replies, hears the next line and asks the store
abbrev pub round : ℕ → List ℕ
round k = flat_map (λ c. before c k ++ (hears c k ++ asks c k)) (numbers_to clients)

-- the first thread, which waits for the sessions one after the other, waits for the next, if there is one
abbrev pub main_goes_on : ℕ → List ℕ
main_goes_on c = if c == clients - 1 then [] else joined (codes "t0: join " ∷ session (c + 1) ∷ codes "\n" ∷ [])

-- a session hears `quit`, says `bye`, and is gone
abbrev pub quits : ℕ → List ℕ
quits c = joined (before c requests
    ∷ hears c requests
    ∷ answers c (codes "bye")
    ∷ session c ∷ codes ": return\nt0 = 0\n" ∷ session c ∷ codes " dies\n"
    ∷ main_goes_on c
    ∷ [])

-- the first thread creates the others and waits for the first session; the store waits for letters
abbrev pub begins : List ℕ
begins =
    codes "t0: create db 2 v\nt0 = t1\nt0: create s0 1 -\nt0 = t2\nt0: create s1 1 -\nt0 = t3\nt0: create s2 1 -\nt0 = t4\nt0: join t2\nt1: recv any wait\n"

-- it returns, and with it the last thread that isn't a server is gone
abbrev pub ends : List ℕ
ends = codes "t0: return\nt0 dies\npod ends 0\n"

-- the whole trace, with this at its end
abbrev pub whole : List ℕ → List ℕ
whole end = joined (begins ∷ flat_map round (numbers_to requests) ∷ flat_map quits (numbers_to clients) ∷ end ∷ [])

-- after how many calls a line is taken: six to begin with, five for each session and round, and then that which lets it
-- in
abbrev pub turn : ℕ → ℕ → ℕ
turn c k = 6 + 5 * (3 * k + c) + 1

-- the lines in the order in which they are taken
abbrev pub taken : List Took
taken = flat_map (λ k. map (λ c. took (turn c k) (c + 1) (posted_line c k)) (numbers_to clients))
    (numbers_to (requests + 1))

-- Three sessions and one store; each client is answered `ok`, `is vI`, `ok` for each key, and `bye`.
--   lwp 1 / pod 2
--   client 0 1 / client 1 2 / client 2 3
--   native db store
--   native s0 session 1 db
--   native s1 session 2 db
--   native s2 session 3 db
--   proc main / create db db 2 v / create a s0 1 - / create b s1 1 - / create c s2 1 - / join a / join b / join c
--   post 0 put k0 v0 / post 0 get k0 / post 0 del k0, and so on up to k12 / post 0 quit
--   and as many for the clients 1 and 2, alike
abbrev pub line_server : Row
line_server = record {
  script = posted (1 ∷ 2 ∷ 3 ∷ [])
      (flat_map (λ c. map (posted_line c) (numbers_to (requests + 1))) (numbers_to clients))
      (with_natives (built_in 0 native.Store ∷ built_in 1 (native.Session 1 0)
      ∷ built_in 2 (native.Session 2 0) ∷ built_in 3 (native.Session 3 0) ∷ [])
      (pod 2 (named (codes "db" ∷ codes "s0" ∷ codes "s1" ∷ codes "s2" ∷ codes "main" ∷ [])
      (codes "db" ∷ codes "a" ∷ codes "b" ∷ codes "c" ∷ []) [] [])
      (procedure 4 (stmt.Create 0 0 2 serving ∷ stmt.Create 1 1 1 plain ∷ stmt.Create 2 2 1 plain
      ∷ stmt.Create 3 3 1 plain
      ∷ stmt.Join (who.Named 1) ∷ stmt.Join (who.Named 2) ∷ stmt.Join (who.Named 3) ∷ [])
      ∷ [])));
  turns = 100000;
  trace = whole ends;
  halt = Ended 0;
  calls = 606;
  takes = taken;
}

-- With just as many turns as it takes.
abbrev pub line_server_exact_turns : Row
line_server_exact_turns = record line_server { turns = 606 }

-- With one turn fewer: the first thread doesn't return any more.
abbrev pub line_server_one_turn_fewer : Row
line_server_one_turn_fewer = record line_server {
  turns = 605;
  trace = whole (codes "spent 605\n");
  halt = Spent;
  calls = 605;
}
