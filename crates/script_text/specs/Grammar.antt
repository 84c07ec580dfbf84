-- The order of lines, and the texts that are scripts.
use Rattle.std.specs.Prelude.{◌≡◌, ℕ, ◌<◌, ◌≤◌, Bool, true, false, not, ◌&&◌, ◌||◌, ◌==◌, nat_le, nat_lt}
use Rattle.std.specs.Prelude.{List, [], ◌∷◌, ◌++◌, length, fold, IsTrue, slice_index_or, if◌then◌else◌}
use Rattle.std.specs.List.{flat_map, AllByRecursion}
use Rattle.script_lines.specs.declared.table.Role.{Role}
use Rattle.script_lines.specs.declared.table.Role.TheVariants as role
use Rattle.script_text.specs.declared.stage.Stage.{Stage}
use Rattle.script_text.specs.declared.stage.Stage.TheVariants as stage
use Rattle.script_text.specs.declared.reader.Declared.{Declared}
use Rattle.script_text.specs.declared.script.Script.{Script}
use Rattle.script_lines.specs.Phrase.{Phrase}
use Rattle.script_lines.specs.Line.{phrase_text, IsLine, with_newline}
use Rattle.script_lines.specs.Table.{role_of, starts, starts_any}
use Rattle.script_text.specs.Meaning.{contains_name, enter, draft_of, script_of}

-- ---- The order of lines.

-- the first statement of a procedure says how it goes on; the later ones change nothing
abbrev pub stage_behind_first : Stage → Stage → Stage
stage_behind_first first stage.Proc = first
stage_behind_first first s = s

-- what may come after a line of this role
abbrev pub stage_after : Stage → Role → Stage
stage_after s role.Header = stage.Header
stage_after s role.Pod = stage.Pod
stage_after s role.Limit = stage.Clients
stage_after s role.Client = stage.Clients
stage_after s role.Native = stage.Natives
stage_after s role.Proc = stage.Proc
stage_after s role.Post = stage.Posts
stage_after s role.Statement = stage_behind_first stage.Calling s
stage_after s role.Skip = stage_behind_first stage.Skipping s
stage_after s role.Again = stage.Ended

-- what may come after these lines
abbrev pub stage_of : List Phrase → Stage
stage_of lines = fold (λ s p. stage_after s (role_of p.op)) stage.Start lines

-- The header comes first and once, then the pod, then at most one limit, then clients, then built-in procedures; then
-- procedures, each followed by its statements; then posts. An `again` ends a procedure whose first statement makes a
-- call.
abbrev pub follows : Stage → Role → Bool
follows stage.Start role.Header = true
follows stage.Header role.Pod = true
follows stage.Pod role.Limit = true
follows stage.Pod role.Client = true
follows stage.Pod role.Native = true
follows stage.Pod role.Proc = true
follows stage.Clients role.Client = true
follows stage.Clients role.Native = true
follows stage.Clients role.Proc = true
follows stage.Natives role.Native = true
follows stage.Natives role.Proc = true
follows stage.Proc role.Proc = true
follows stage.Proc role.Statement = true
follows stage.Proc role.Skip = true
follows stage.Proc role.Post = true
follows stage.Calling role.Proc = true
follows stage.Calling role.Statement = true
follows stage.Calling role.Skip = true
follows stage.Calling role.Again = true
follows stage.Calling role.Post = true
follows stage.Skipping role.Proc = true
follows stage.Skipping role.Statement = true
follows stage.Skipping role.Skip = true
follows stage.Skipping role.Post = true
follows stage.Ended role.Proc = true
follows stage.Ended role.Post = true
follows stage.Posts role.Post = true
follows _ _ = false

-- the procedures declared so far, and those of one more line
abbrev pub declares : Role → Declared → Phrase → Declared
declares role.Proc d p = record d { procs = enter d.procs p.procedure }
declares role.Native d p = record d { natives = enter d.natives p.procedure }
declares _ d p = d

-- no procedures
abbrev pub nothing : Declared
nothing = record { procs = []; natives = [] }

-- the procedures that these lines declare: those of statements, and the built-in ones
abbrev pub declared_of : List Phrase → Declared
declared_of lines = fold (λ d p. declares (role_of p.op) d p) nothing lines

-- a procedure is declared: one of statements, or of any kind where that will do
abbrev pub has : Declared → Bool → List ℕ → Bool
has d any w = contains_name d.procs w || (any && contains_name d.natives w)

-- how many lines each client posts in these lines, by client
abbrev pub posted_of : List Phrase → List ℕ
posted_of lines = (draft_of lines).posted

-- version 1; a greatest priority from 1 to 255; some birth is allowed; clients count from 0; a procedure that isn't
-- declared yet; a client that is declared posts at most 20,000 lines
abbrev pub keeps_rule : Declared → List ℕ → Role → Phrase → Bool
keeps_rule d posted role.Header p = p.number == 1
keeps_rule d posted role.Pod p = nat_le 1 p.number && nat_le p.number 255
keeps_rule d posted role.Limit p = nat_le 1 p.number
keeps_rule d posted role.Client p = p.client == length posted
keeps_rule d posted role.Native p = not (has d true p.procedure)
keeps_rule d posted role.Proc p = not (has d true p.procedure)
keeps_rule d posted role.Post p = nat_lt (slice_index_or posted p.client 20000) 20000
keeps_rule d posted _ p = true

-- whether a line may stand at this stage, where these procedures are declared and the clients have posted so many lines
abbrev pub may_stand_at : Stage → Declared → List ℕ → Phrase → Bool
may_stand_at s d posted p = follows s (role_of p.op) && keeps_rule d posted (role_of p.op) p

-- whether a line may stand after these lines
abbrev pub may_stand : List Phrase → Phrase → Bool
may_stand before p = may_stand_at (stage_of before) (declared_of before) (posted_of before) p

-- each line may stand after those before it
abbrev pub AllStand : List Phrase → List Phrase → Type 0
AllStand before [] = Unit {0}
AllStand before (p ∷ ps) = IsTrue (may_stand before p) × AllStand (before ++ p ∷ []) ps

-- a line starts no procedure, or a declared one
abbrev pub is_declared : Declared → Phrase → Bool
is_declared d p = if starts p.op then has d (starts_any p.op) p.procedure else true

-- ---- A script.

-- lines one after the other
abbrev pub spelling : List Phrase → List ℕ
spelling lines = flat_map (λ p. with_newline (phrase_text p)) lines

-- The text is these lines, which keep every rule, and the script is what they say. A procedure may be declared after
-- the line that starts it.
pub record SpelledBy (text : List ℕ) (script : Script) (lines : List Phrase) : Type 0 where
  pub text_is : text ≡ spelling lines
  pub short : length text ≤ 16777216
  pub are_lines : AllByRecursion IsLine lines
  pub stand : AllStand [] lines
  pub declared : AllByRecursion (λ p. IsTrue (is_declared (declared_of lines) p)) lines
  pub some : 0 < length (script_of lines).procs
  pub script_is : script ≡ script_of lines

-- the text is a spelling of the script
abbrev pub Spells : List ℕ → Script → Type 0
Spells text script = (lines : List Phrase) × SpelledBy text script lines
