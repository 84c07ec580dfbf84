-- How lines are written: each kind of line by its key and a word for each of its slots.
use Rattle.std.specs.Prelude.{ℕ, Bool, List, [], ◌∷◌, ◌++◌, Option, Some, None, codes, if◌then◌else◌}
use Rattle.std.specs.List.{flat_map}
use Rattle.script_lines.specs.declared.table.Kind.{Kind}
use Rattle.script_lines.specs.declared.table.Kind.TheVariants as kind
use Rattle.script_lines.specs.declared.table.Op.{Op}
use Rattle.script_lines.specs.declared.table.Op.TheVariants as op
use Rattle.script_lines.specs.Table.{all_ops, key_of, slots_of}
use Rattle.script_advice.specs.Near.{one_apart, or_else, two_apart}

-- what the number of a line is called
abbrev pub number_word : Op → List ℕ
number_word op.Lwp = codes "1"
number_word op.Pod = codes "P"
number_word op.SetMaxPri = codes "P"
number_word op.Raise = codes "P"
number_word op.ExcNotify = codes "P"
number_word op.Bound = codes "P"
number_word op.Handle = codes "ARG"
number_word op.Agent = codes "E"
number_word op.Trap = codes "E"
number_word _ = codes "N"

-- what the priority of a line is called
abbrev pub priority_word : Op → List ℕ
priority_word op.Create = codes "PRIO"
priority_word _ = codes "P"

-- what the procedure of a line is called
abbrev pub procedure_word : Op → List ℕ
procedure_word op.Proc = codes "NAME"
procedure_word op.Native = codes "NAME"
procedure_word _ = codes "PROC"

-- the word that describes a slot
unfoldable pub slot_word : Op → Kind → List ℕ
slot_word o kind.Thread = codes "NAME"
slot_word o kind.Who = codes "T"
slot_word o kind.Source = codes "T|any"
slot_word o kind.Procedure = procedure_word o
slot_word o kind.Monitor = codes "M"
slot_word o kind.Condition = codes "C"
slot_word o kind.Number = number_word o
slot_word o kind.Priority = priority_word o
slot_word o kind.Room = codes "ROOM"
slot_word o kind.Client = codes "C"
slot_word o kind.Event = codes "E"
slot_word o kind.Flags = codes "FLAGS"
slot_word o kind.Mode = codes "MODE"
slot_word o kind.Pattern = codes "PATTERN"
slot_word o kind.Func = codes "FUNC"
slot_word o kind.Test = codes "COND"
slot_word o kind.Built = codes "store|session E T"
slot_word o kind.Text = codes "TEXT"

-- the form of a line: its key, and a word for each slot after a space
abbrev pub form : Op → List ℕ
form o = key_of o ++ flat_map (λ k. 32 ∷ slot_word o k) (slots_of o)

-- the first of these kinds whose key is near
abbrev pub first_op : (List ℕ → Bool) → List Op → Option Op
first_op near [] = None
first_op near (o ∷ os) = if near (key_of o) then Some o else first_op near os

-- the first kind whose key is one edit away from these words, or else the first whose key is two away
abbrev pub nearest_op : List ℕ → Option Op
nearest_op w = or_else (first_op (λ v. one_apart v w) all_ops) (first_op (λ v. two_apart v w) all_ops)
