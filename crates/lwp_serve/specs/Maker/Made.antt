-- The script that is made: a store, a session for each client, and the lines that the clients post.
use Rattle.std.specs.Prelude.{ℕ, zero, suc, ◌+◌, ◌*◌, List, [], ◌++◌, codes}
use Rattle.std.specs.Fmt.{decimal}
use Rattle.lwp_serve.specs.Maker.Draws.{next, draw_below}
use Rattle.lwp_serve.specs.declared.maker.script.ClientLine.{ClientLine}
use Rattle.lwp_serve.specs.declared.maker.script.ClientLine.TheVariants as line

-- the texts of the numbers below n, one after the other
abbrev pub each : (ℕ → List ℕ) → ℕ → List ℕ
each text zero = []
each text (suc n) = each text n ++ text n

-- ---- Before the posts.

-- a line that stands once for client c, whose event is c + 1
abbrev pub client_line : ClientLine → ℕ → List ℕ
client_line line.Client c = codes "client " ++ (decimal c ++ (codes " " ++ (decimal (c + 1) ++ codes "\n")))
client_line line.Native c = codes "native s" ++ (decimal c ++ (codes " session " ++ (decimal (c + 1) ++ codes " db\n")))
client_line line.Create c = codes "create a" ++ (decimal c ++ (codes " s" ++ (decimal c ++ codes " 1 -\n")))
client_line line.Join c = codes "join a" ++ (decimal c ++ codes "\n")
client_line line.Quit c = codes "post " ++ (decimal c ++ codes " quit\n")

-- the pod, its clients, the store, and a session for each client
abbrev pub declarations : ℕ → List ℕ
declarations threads = codes "lwp 1\npod 2\n"
    ++ (each (client_line line.Client) threads ++ (codes "native db store\n" ++ each (client_line line.Native) threads))

-- the one procedure: it starts the store and the sessions, and waits for the end of each session
abbrev pub procedure : ℕ → List ℕ
procedure threads = codes "proc main\ncreate db db 2 v\n"
    ++ (each (client_line line.Create) threads ++ each (client_line line.Join) threads)

-- ---- Posts.

-- a command by its kind, with key k and value i
abbrev pub command : ℕ → ℕ → ℕ → List ℕ
command zero k i = codes "put k" ++ (decimal k ++ (codes " v" ++ decimal i))
command (suc zero) k i = codes "get k" ++ decimal k
command (suc (suc zero)) k i = codes "del k" ++ decimal k
command (suc (suc (suc n))) k i = codes "bogus"

-- line i of client c, from this state: a key is drawn from 50, and then a kind from 4
abbrev pub post_line : ℕ → ℕ → ℕ → List ℕ
post_line x i c = codes "post "
    ++ (decimal c ++ (codes " " ++ (command (draw_below 4 (next (next x))) (draw_below 50 (next x)) i ++ codes "\n")))

-- the state after n posts: two numbers are drawn for each
abbrev pub past : ℕ → ℕ → ℕ
past x zero = x
past x (suc n) = next (next (past x n))

-- line i of each client
abbrev pub round : ℕ → ℕ → ℕ → List ℕ
round threads x i = each (λ c. post_line (past x c) i c) threads

-- the lines below n of each client: first line 0 of every client, then line 1, and so on
abbrev pub rounds : ℕ → ℕ → ℕ → List ℕ
rounds seed threads n = each (λ i. round threads (past seed (i * threads)) i) n

-- ---- The whole text.

-- the script that is made from a seed, with so many clients, each of which posts so many lines and then quits
unfoldable pub made_script : ℕ → ℕ → ℕ → List ℕ
made_script seed threads lines = declarations threads
    ++ (procedure threads ++ (rounds seed threads lines ++ each (client_line line.Quit) threads))
