-- The table of lines: how each kind of line begins, the part that it plays in a script, and its slots. A new kind of
-- line is one row.
use Rattle.std.specs.Prelude.{ℕ, suc, ◌+◌, Bool, true, ◌&&◌, ◌||◌, List, [], ◌∷◌, nat_le, get_or, map, take, drop, Option, Some, None, codes, if◌then◌else◌}
use Rattle.std.specs.List.{list_any}
use Rattle.std.specs.Str.{bytes_eq}
use denote.Enum.Bare.{sameb}
use denote.Enum.Declared.{tag_of}
use denote.Ref.{Bor}
use Rattle.script_lines.specs.contracts.table.Op.{the_type}
use Rattle.script_lines.specs.contracts.table.Role.{the_type as role_type}
use Rattle.script_lines.specs.contracts.table.Kind.{the_type as kind_type}
use Rattle.script_lines.specs.declared.table.Op.{Op}
use Rattle.script_lines.specs.declared.table.Op.TheVariants as op
use Rattle.script_lines.specs.declared.table.Role.{Role}
use Rattle.script_lines.specs.declared.table.Role.TheVariants as role
use Rattle.script_lines.specs.declared.table.Kind.{Kind}
use Rattle.script_lines.specs.declared.table.Kind.TheVariants as kind
use Rattle.script_lines.specs.Words.{reach}

-- a row of the table: an operation, the word or the two words with which its line begins, the part that the line plays,
-- and its slots after these words
pub record Row : Type 0 where
  pub op : Op
  pub key : List ℕ
  pub role : Role
  pub slots : List Kind

abbrev pub row : Op → List ℕ → Role → List Kind → Row
row o key r slots = record { op = o; key = key; role = r; slots = slots }

-- the table, in the order of the operations, which is that of the first letters
abbrev pub rows : List Row
rows =
    row op.Agent (codes "agent") role.Statement (kind.Thread ∷ kind.Number ∷ []) ∷
    row op.Agents (codes "agents") role.Statement [] ∷
    row op.Again (codes "again") role.Again [] ∷
    row op.Broadcast (codes "broadcast") role.Statement (kind.Condition ∷ []) ∷
    row op.Bound (codes "bound") role.Statement (kind.Number ∷ []) ∷
    row op.Create (codes "create") role.Statement (kind.Thread ∷ kind.Procedure ∷ kind.Priority ∷ kind.Flags ∷ []) ∷
    row op.Client (codes "client") role.Client (kind.Client ∷ kind.Event ∷ []) ∷
    row op.CvCreate (codes "cvcreate") role.Statement (kind.Condition ∷ kind.Monitor ∷ []) ∷
    row op.CondEnter (codes "condenter") role.Statement (kind.Monitor ∷ []) ∷
    row op.CvDestroy (codes "cvdestroy") role.Statement (kind.Condition ∷ []) ∷
    row op.CvSend (codes "cvsend") role.Statement (kind.Condition ∷ kind.Who ∷ []) ∷
    row op.CvWaiters (codes "cvwaiters") role.Statement (kind.Condition ∷ []) ∷
    row op.Conditions (codes "conditions") role.Statement [] ∷
    row op.CallProc (codes "call") role.Statement (kind.Procedure ∷ []) ∷
    row op.Destroy (codes "destroy") role.Statement (kind.Who ∷ []) ∷
    row op.Enter (codes "enter") role.Statement (kind.Monitor ∷ []) ∷
    row op.ExcNotify (codes "excnotify") role.Statement (kind.Number ∷ []) ∷
    row op.GetExit (codes "getexit") role.Statement [] ∷
    row op.Handle (codes "handle") role.Statement (kind.Pattern ∷ kind.Func ∷ kind.Number ∷ []) ∷
    row op.Join (codes "join") role.Statement (kind.Who ∷ []) ∷
    row op.Lwp (codes "lwp") role.Header (kind.Number ∷ []) ∷
    row op.Limit (codes "limit births") role.Limit (kind.Number ∷ []) ∷
    row op.MonCreate (codes "moncreate") role.Statement (kind.Monitor ∷ []) ∷
    row op.MonDestroy (codes "mondestroy") role.Statement (kind.Monitor ∷ []) ∷
    row op.MonExit (codes "monexit") role.Statement (kind.Monitor ∷ []) ∷
    row op.MonBreak (codes "monbreak") role.Statement (kind.Monitor ∷ []) ∷
    row op.MonWaiters (codes "monwaiters") role.Statement (kind.Monitor ∷ []) ∷
    row op.Monitors (codes "monitors") role.Statement [] ∷
    row op.Native (codes "native") role.Native (kind.Procedure ∷ kind.Built ∷ []) ∷
    row op.Notify (codes "notify") role.Statement (kind.Condition ∷ []) ∷
    row op.ExitMonExit (codes "onexit monexit") role.Statement (kind.Monitor ∷ []) ∷
    row op.ExitMonBreak (codes "onexit monbreak") role.Statement (kind.Monitor ∷ []) ∷
    row op.ExitNotify (codes "onexit notify") role.Statement (kind.Condition ∷ []) ∷
    row op.ExitBroadcast (codes "onexit broadcast") role.Statement (kind.Condition ∷ []) ∷
    row op.ExitReply (codes "onexit reply") role.Statement (kind.Who ∷ kind.Text ∷ []) ∷
    row op.ExitResume (codes "onexit resume") role.Statement (kind.Who ∷ []) ∷
    row op.ExitSetExit (codes "onexit setexit") role.Statement (kind.Number ∷ []) ∷
    row op.ExitNote (codes "onexit note") role.Statement (kind.Text ∷ []) ∷
    row op.Post (codes "post") role.Post (kind.Client ∷ kind.Text ∷ []) ∷
    row op.Pod (codes "pod") role.Pod (kind.Number ∷ []) ∷
    row op.Proc (codes "proc") role.Proc (kind.Procedure ∷ []) ∷
    row op.Ping (codes "ping") role.Statement (kind.Who ∷ []) ∷
    row op.PodExit (codes "podexit") role.Statement (kind.Number ∷ []) ∷
    row op.Resume (codes "resume") role.Statement (kind.Who ∷ []) ∷
    row op.Resched (codes "resched") role.Statement (kind.Priority ∷ []) ∷
    row op.Recv (codes "recv") role.Statement (kind.Source ∷ kind.Mode ∷ []) ∷
    row op.Reply (codes "reply") role.Statement (kind.Who ∷ kind.Text ∷ []) ∷
    row op.Receivers (codes "receivers") role.Statement [] ∷
    row op.Return (codes "return") role.Statement [] ∷
    row op.Raise (codes "raise") role.Statement (kind.Number ∷ []) ∷
    row op.Say (codes "say") role.Statement (kind.Text ∷ []) ∷
    row op.Send (codes "send") role.Statement (kind.Who ∷ kind.Room ∷ kind.Text ∷ []) ∷
    row op.Skip (codes "skip") role.Skip (kind.Test ∷ []) ∷
    row op.Suspend (codes "suspend") role.Statement (kind.Who ∷ []) ∷
    row op.SetPri (codes "setpri") role.Statement (kind.Who ∷ kind.Priority ∷ []) ∷
    row op.SetMaxPri (codes "setmaxpri") role.Statement (kind.Number ∷ []) ∷
    row op.Me (codes "self") role.Statement [] ∷
    row op.SetExit (codes "setexit") role.Statement (kind.Number ∷ []) ∷
    row op.Senders (codes "senders") role.Statement [] ∷
    row op.Sleep (codes "sleep") role.Statement (kind.Number ∷ []) ∷
    row op.Threads (codes "threads") role.Statement [] ∷
    row op.Trap (codes "trap") role.Statement (kind.Number ∷ []) ∷
    row op.Unhandle (codes "unhandle") role.Statement [] ∷
    row op.UniqPatt (codes "uniqpatt") role.Statement [] ∷
    row op.Wait (codes "wait") role.Statement (kind.Condition ∷ []) ∷
    row op.Yield (codes "yield") role.Statement (kind.Who ∷ []) ∷
    []

-- all operations, in the order of the table
abbrev pub all_ops : List Op
all_ops = map (λ r. r.op) rows

-- the row of an operation is the one at its number; closed, since open it puts the whole table into each goal on a phrase
unfoldable pub row_of : Op → Row
row_of o = get_or rows (tag_of the_type o) (row o [] role.Again [])

-- how the line begins
abbrev pub key_of : Op → List ℕ
key_of o = (row_of o).key

-- the part that the line plays
abbrev pub role_of : Op → Role
role_of o = (row_of o).role

-- the slots after the key
abbrev pub slots_of : Op → List Kind
slots_of o = (row_of o).slots

-- one of these slots is of this kind
abbrev pub has : Kind → List Kind → Bool
has k ks = list_any (λ j. sameb kind_type j k) ks

-- the line ends with a text
abbrev pub says : Op → Bool
says o = has kind.Text (slots_of o)

-- the line gives a thread a priority, or speaks of one
abbrev pub ranks : Op → Bool
ranks o = has kind.Priority (slots_of o)

-- the line starts a procedure that some line must declare: it is a statement that names one
abbrev pub starts : Op → Bool
starts o = sameb role_type (role_of o) role.Statement && has kind.Procedure (slots_of o)

-- the procedure that it starts may be a built-in one: it is that of a new thread
abbrev pub starts_any : Op → Bool
starts_any o = starts o && has kind.Thread (slots_of o)

-- ---- From the beginning of a line to its row.

-- the operation of the first of these rows with this key
abbrev pub op_in : List Row → List ℕ → Option Op
op_in [] w = None
op_in (r ∷ rs) w = if bytes_eq r.key w then Some r.op else op_in rs w

-- the operation with this key
unfoldable pub op_at : List ℕ → Option Op
op_at w = op_in rows w

-- the letter with which a key begins
abbrev pub first_letter : List ℕ → ℕ
first_letter [] = 0
first_letter (b ∷ bs) = b

-- the letters of these rows rise, from this one on
abbrev pub rises : ℕ → List Row → Bool
rises b [] = true
rises b (r ∷ rs) = nat_le b (first_letter r.key) && rises (first_letter r.key) rs

-- a row of the table as the code has it
abbrev pub table_row : Op × Bor (List ℕ) × Role × Bor (List Kind) → Row
table_row r = row r.0 r.1.now r.2 r.3.now

-- a first word that is no key without the second
abbrev pub is_half : List ℕ → Bool
is_half w = bytes_eq w (codes "limit") || bytes_eq w (codes "onexit")

-- how long the first word is, or the first two where both are the key
abbrev pub key_length : List ℕ → ℕ
key_length line = if is_half (take (reach 32 line) line)
    then suc (reach 32 line) + reach 32 (drop (suc (reach 32 line)) line)
    else reach 32 line
