-- A line that says or posts a text, where it may stand.
use Rattle.std.proofs.Common.{◌≡◌, ℕ, ◌+◌, true, ◌&&◌, List, length, Some, refl}
use Rattle.std.specs.Prelude.{nat_lt, slice_index_or}
use Rattle.std.proofs.lemmas.List.{append-nil}
use Rattle.script_lines.specs.declared.table.Role.TheVariants as role
use Rattle.script_lines.specs.Line.{posting, saying}
use Rattle.script_lines.specs.Table.{row_of}
use Rattle.script_text.specs.declared.draft.Draft.{Draft}
use Rattle.script_text.specs.declared.reader.Declared.{Declared}
use Rattle.script_text.specs.declared.reader.Reader.{Reader}
use Rattle.script_text.specs.declared.script.Stmt.TheVariants as stmt
use Rattle.script_text.specs.declared.stage.Stage.{Stage}
use Rattle.script_text.specs.Grammar.{follows, may_stand_at, stage_after}
use Rattle.script_text.specs.Meaning.{after_add, with_post, with_statement, with_text}
use Rattle.script_text.specs.Track.{after_take}

pub added_said : (d : Draft) (text : List ℕ)
    → after_add d (saying text) ≡ record (with_text d text) { current = with_statement (Some (stmt.Say (length d.script.texts))) d.current }
unfolding row_of
added_said d text = refl

pub added_posted : (d : Draft) (client : ℕ) (text : List ℕ) → after_add d (posting client text) ≡ with_post client (length d.script.texts) (with_text d text)
unfolding row_of
added_posted d client text = refl

pub taken_said : (r : Reader) (text : List ℕ)
    → after_take r (saying text) ≡ record r { count = r.count + 1; stage = stage_after r.stage role.Statement; draft = after_add r.draft (saying text) }
unfolding row_of
taken_said r text = rw (append-nil r.mentions) refl

pub taken_posted : (r : Reader) (client : ℕ) (text : List ℕ)
    → after_take r (posting client text)
    ≡ record r { count = r.count + 1; stage = stage_after r.stage role.Post; draft = after_add r.draft (posting client text) }
unfolding row_of
taken_posted r client text = rw (append-nil r.mentions) refl

pub may_say : (s : Stage) (d : Declared) (posted text : List ℕ) → follows s role.Statement ≡ true → may_stand_at s d posted (saying text) ≡ true
unfolding row_of
may_say s d posted text f = rw f refl

pub may_post : (s : Stage) (d : Declared) (posted : List ℕ) (client : ℕ) (text : List ℕ)
    → (follows s role.Post && nat_lt (slice_index_or posted client 20000) 20000) ≡ true → may_stand_at s d posted (posting client text) ≡ true
unfolding row_of
may_post s d posted client text f = f
