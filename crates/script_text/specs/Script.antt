-- What is read off a script.
use Rattle.lwp_types.specs.declared.call.Line.{Line}
use Rattle.lwp_types.specs.declared.call.PodParams.{PodParams}
use Rattle.script_text.specs.declared.script.Post.{Post}
use Rattle.script_text.specs.declared.script.Proc.{Proc}
use Rattle.script_text.specs.declared.script.Script.{Script}
use Rattle.script_text.specs.declared.script.Stmt.{Stmt}
use Rattle.lists.specs.Texts.{text_at}
use Rattle.std.specs.Prelude.{List, None, Option, Some, [], if◌then◌else◌, length, map, slice_get, slice_index_or, suc, ℕ, ◌++◌, ◌==◌, ◌∷◌}

-- a line that a client posts, with its text
abbrev pub line_of : List (List ℕ) → Post → Line
line_of texts post = record { client = post.client; seq = post.seq; text = text_at texts post.text }

-- the lines that the clients post, in the order of the text
abbrev pub lines_posted : Script → List Line
lines_posted script = map (line_of script.texts) script.posts

-- the procedures by number: first those of statements, then the built-in ones; each is its name's place
abbrev pub proc_places : Script → List ℕ
proc_places script = map (λ p. p.name) script.procs ++ map (λ n. n.name) script.natives

-- where a number first stands in a list, or the length
abbrev pub place_in : ℕ → List ℕ → ℕ
place_in n [] = 0
place_in n (m ∷ ms) = if m == n then 0 else suc (place_in n ms)

-- the number of the procedure with this name
abbrev pub proc_number : Script → ℕ → ℕ
proc_number script name = place_in name (proc_places script)

-- how the procedures are called, by number
abbrev pub proc_names : Script → List (List ℕ)
proc_names script = map (λ place. slice_index_or script.names.procs place []) (proc_places script)

-- the statements of a procedure that was found
abbrev pub stmts_of : Option Proc → List Stmt
stmts_of None = []
stmts_of (Some p) = p.stmts

-- the statements of a procedure, by its number; a built-in one has none
abbrev pub stmts_at : Script → ℕ → List Stmt
stmts_at script number = stmts_of (slice_get script.procs number)

-- what the pod of a script is made with
abbrev pub params_of : Script → PodParams
params_of script = record { maxpri = script.maxpri; births = script.births; procs = length (proc_places script) }
