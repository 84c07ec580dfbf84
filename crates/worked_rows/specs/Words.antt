-- What a worked row says, and the words that its script is written in.
use Rattle.lwp_serve.specs.Plan.Planned.{calls_of, halt_of, takes_of, trace_of}
use Rattle.lwp_types.specs.declared.call.Flags.{Flags}
use Rattle.lwp_types.specs.declared.call.Line.{Line}
use Rattle.pod_runner.specs.declared.session.Took.{Took}
use Rattle.trace_text.specs.declared.ends.Halt.{Halt}
use Rattle.script_text.specs.declared.script.Names.{Names}
use Rattle.script_text.specs.declared.script.Native.{Native}
use Rattle.script_text.specs.declared.script.NativeKind.{NativeKind}
use Rattle.script_text.specs.declared.script.Post.{Post}
use Rattle.script_text.specs.declared.script.Proc.{Proc}
use Rattle.script_text.specs.declared.script.Script.{Script}
use Rattle.script_text.specs.declared.script.Stmt.{Stmt}
use Rattle.std.specs.Prelude.{List, Some, [], false, length, map, replicate, true, ℕ, ◌++◌, ◌+◌, ◌∷◌, ◌≡◌}

-- a script, the turns that it is given, and what is to come of it: the whole trace, the end, the number of calls, the
-- lines taken
pub record Row : Type 0 where
  pub script : Script
  pub turns : ℕ
  pub trace : List ℕ
  pub halt : Halt
  pub calls : ℕ
  pub takes : List Took

-- the definitions come to just that
abbrev pub IsWorked : Row → Type 0
IsWorked row = (trace_of row.script row.turns ≡ row.trace)
    × (halt_of row.script row.turns ≡ Some row.halt)
    × (calls_of row.script row.turns ≡ row.calls)
    × (takes_of row.script row.turns ≡ row.takes)

-- the names of procedures, threads, monitors and conditions; elsewhere each is its place in its list, counted from 0
abbrev pub named : List (List ℕ) → List (List ℕ) → List (List ℕ) → List (List ℕ) → Names
named procs threads mons conds = record { procs = procs; threads = threads; mons = mons; conds = conds }

-- a procedure of statements, by the place of its name
abbrev pub procedure : ℕ → List Stmt → Proc
procedure name stmts = record { name = name; stmts = stmts }

-- a built-in procedure, by the place of its name
abbrev pub built_in : ℕ → NativeKind → Native
built_in name kind = record { name = name; kind = kind }

-- a pod with this greatest priority and these procedures, as many births as there may ever be, and nobody outside
abbrev pub pod : ℕ → Names → List Proc → Script
pod maxpri names procs = record {
  maxpri = maxpri;
  births = 4294967295;
  clients = [];
  natives = [];
  procs = procs;
  posts = [];
  names = names;
  texts = [];
}

-- a script with these texts; elsewhere each is its place among them, counted from 0
abbrev pub speaking : List (List ℕ) → Script → Script
speaking texts script = record script { texts = texts }

-- a script with fewer births allowed
abbrev pub limited : ℕ → Script → Script
limited births script = record script { births = births }

-- a script with these built-in procedures
abbrev pub with_natives : List Native → Script → Script
with_natives natives script = record script { natives = natives }

-- these lines as posts, whose texts stand from a place on
abbrev pub posts_from : ℕ → List Line → List Post
posts_from n [] = []
posts_from n (l ∷ ls) = record { client = l.client; seq = l.seq; text = n } ∷ posts_from (n + 1) ls

-- a script with the event of each client, and the lines that they post
abbrev pub posted : List ℕ → List Line → Script → Script
posted clients lines script = record script {
  clients = clients;
  posts = posts_from (length script.texts) lines;
  texts = script.texts ++ map (λ l. l.text) lines;
}

-- no flag
abbrev pub plain : Flags
plain = record { suspended = false; nolastrites = false; server = false }

-- created to die unreported
abbrev pub marked : Flags
marked = record { suspended = false; nolastrites = true; server = false }

-- created suspended
abbrev pub asleep : Flags
asleep = record { suspended = true; nolastrites = false; server = false }

-- a server
abbrev pub serving : Flags
serving = record { suspended = false; nolastrites = false; server = true }

-- a line of a client: its number among the clients, its own among the client's lines, and its text
abbrev pub line : ℕ → ℕ → List ℕ → Line
line client seq text = record { client = client; seq = seq; text = text }

-- a line that was taken after so many calls, for this event
abbrev pub took : ℕ → ℕ → Line → Took
took turn event line = record { turn = turn; line = line; event = event }

-- the longest text of one letter
abbrev pub longest_x : List ℕ
longest_x = replicate 240 120

-- the longest text of another letter
abbrev pub longest_y : List ℕ
longest_y = replicate 240 121
