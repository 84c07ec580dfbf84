-- The first wrong word of a line, and what is wrong with it.
use Rattle.std.specs.Prelude.{ℕ, Bool, true, false, ◌&&◌, ◌||◌, ◌==◌, nat_le, List, [], ◌∷◌, length, take, drop, Option, Some, None, if◌then◌else◌}
use Rattle.std.specs.Char.{is_ascii_digit}
use Rattle.std.specs.List.{list_all, list_any}
use Rattle.lwp_types.specs.TextFields.{is_printable, is_text}
use Rattle.script_lines.specs.declared.table.Kind.{Kind}
use Rattle.script_lines.specs.declared.table.Kind.TheVariants as kind
use Rattle.script_lines.specs.contracts.table.Kind.{the_type as kind_type}
use denote.Enum.Bare.{sameb}
use Rattle.script_lines.specs.declared.table.Op.{Op}
use Rattle.script_lines.specs.Reading.{first_word}
use Rattle.script_lines.specs.Table.{is_half, key_length, op_at, slots_of}
use Rattle.script_lines.specs.Words.{reach}
use Rattle.script_advice.specs.Near.{behind_first, or_else}
use Rattle.script_advice.specs.Slots.{fits, is_built, is_test}
use Rattle.script_advice.specs.declared.faults.Fault.{Fault}
use Rattle.script_advice.specs.declared.faults.What.{What}
use Rattle.script_advice.specs.declared.faults.What.TheVariants as what

-- a fault of what is left of the line: it is told by how much that is
abbrev pub fault_at : List ℕ → What → Fault
fault_at rest w = record { left = length rest; what = w }

-- ---- A word that may not stand where it does.

-- a letter from `A` to `Z`
abbrev pub is_upper : ℕ → Bool
is_upper b = nat_le 65 b && nat_le b 90

-- A word that is empty stands between two spaces. One with an upper-case letter is told by that, and any other by what
-- it isn't.
abbrev pub what_of : What → List ℕ → What
what_of other [] = what.Space
what_of other (b ∷ bs) = if list_any is_upper (b ∷ bs) then what.UpperCase else other

-- the fault of a first word that may not stand where it does
abbrev pub wrong : What → List ℕ → Option Fault
wrong other words = Some (fault_at words (what_of other (first_word words)))

-- ---- The slots.

-- a slot that a number may fill by itself
abbrev pub takes_number : Kind → Bool
takes_number kind.Number = true
takes_number kind.Priority = true
takes_number kind.Room = true
takes_number kind.Client = true
takes_number kind.Event = true
takes_number kind.Mode = true
takes_number kind.Pattern = true
takes_number _ = false

-- digits with a zero in front that could be left out
abbrev pub is_padded : List ℕ → Bool
is_padded [] = false
is_padded (d ∷ []) = false
is_padded (d ∷ e ∷ ds) = d == 48 && list_all is_ascii_digit (d ∷ e ∷ ds)

-- what is wrong with a word in a slot that it doesn't fill
unfoldable pub slot_what : Kind → List ℕ → What
slot_what k w = if takes_number k && is_padded w then what.Zero else what.Slot k

-- the fault of a slot that a word fills
abbrev pub word_fault : Kind → List ℕ → Option Fault
word_fault k [] = Some (fault_at [] what.Lacking)
word_fault k (b ∷ words) = if fits k (first_word words) then None
    else wrong (slot_what k (first_word words)) words

-- the fault of a text, which may be wanting
abbrev pub text_fault : List ℕ → Option Fault
text_fault [] = None
text_fault (b ∷ []) = Some (fault_at [] what.Space)
text_fault (b ∷ c ∷ text) = if is_text (c ∷ text) then None else Some (fault_at (c ∷ text) (what.Slot kind.Text))

-- the fault of all that is left, which has to be good
abbrev pub rest_fault : Kind → (List ℕ → Bool) → List ℕ → Option Fault
rest_fault k good [] = Some (fault_at [] what.Lacking)
rest_fault k good (b ∷ words) = if good words then None else wrong (what.Slot k) words

-- the fault of a slot
abbrev pub slot_fault : Kind → List ℕ → Option Fault
slot_fault kind.Text rest = text_fault rest
slot_fault kind.Test rest = rest_fault kind.Test is_test rest
slot_fault kind.Built rest = rest_fault kind.Built is_built rest
slot_fault k rest = word_fault k rest

-- what is left after a space and a word
abbrev pub behind_word : List ℕ → List ℕ
behind_word [] = []
behind_word (b ∷ words) = drop (reach 32 words) words

-- what is left after a slot: a text, a condition and what a built-in procedure is take all
abbrev pub behind_slot : Kind → List ℕ → List ℕ
behind_slot kind.Text rest = []
behind_slot kind.Test rest = []
behind_slot kind.Built rest = []
behind_slot k rest = behind_word rest

-- the fault of what follows all slots
abbrev pub end_fault : List ℕ → Option Fault
end_fault [] = None
end_fault (b ∷ words) = wrong what.More words

-- the first fault in these slots, which what is left has to fill
abbrev pub slots_fault : List Kind → List ℕ → Option Fault
slots_fault [] rest = end_fault rest
slots_fault (k ∷ ks) rest = or_else (slot_fault k rest) (slots_fault ks (behind_slot k rest))

-- ---- The line.

-- a byte with which comments begin elsewhere
abbrev pub opens_comment : ℕ → Bool
opens_comment b = b == 35 || b == 45 || b == 47 || b == 59

-- the fault of what follows a first word that needs a second one
abbrev pub second_fault : List ℕ → Option Fault
second_fault [] = Some (fault_at [] what.Lacking)
second_fault (b ∷ words) = wrong what.Unknown words

-- the fault of a line that begins as none does
abbrev pub front_fault : List ℕ → Option Fault
front_fault [] = Some (fault_at [] what.Blank)
front_fault (b ∷ bs) =
    if opens_comment b then Some (fault_at (b ∷ bs) what.Comment)
    else if is_half (first_word (b ∷ bs)) then second_fault (drop (reach 32 (b ∷ bs)) (b ∷ bs))
    else wrong what.Unknown (b ∷ bs)

-- the kind of the line, by its key
unfoldable pub op_of : List ℕ → Option Op
op_of line = op_at (take (key_length line) line)

-- the fault of a line of this kind, or of none
abbrev pub form_fault : Option Op → List ℕ → Option Fault
form_fault None line = front_fault line
form_fault (Some o) line = slots_fault (slots_of o) (drop (key_length line) line)

-- the bytes from the first on that isn't printable
abbrev pub from_unprintable : List ℕ → List ℕ
from_unprintable [] = []
from_unprintable (b ∷ bs) = if nat_le 32 b && nat_le b 126 then from_unprintable bs else b ∷ bs

-- what the first byte is, which isn't printable
abbrev pub byte_what : List ℕ → What
byte_what [] = what.Byte
byte_what (b ∷ bs) = if b == 9 then what.Tab else if b == 13 then what.Return else what.Byte

-- the first fault of a line, if its form has one
unfoldable pub fault_of : List ℕ → Option Fault
fault_of line =
    if is_printable line then form_fault (op_of line) line
    else Some (fault_at (from_unprintable line) (byte_what (from_unprintable line)))

-- ---- Words that are told of lines whose form is right.

-- the key of the line
abbrev pub key_at : List ℕ → List ℕ
key_at line = take (key_length line) line

-- what is left from the first slot of this kind on
abbrev pub from_slot : Kind → List Kind → List ℕ → List ℕ
from_slot k [] rest = []
from_slot k (j ∷ js) rest = if sameb kind_type j k then behind_first rest else from_slot k js (behind_slot j rest)

-- what is left of a line of this kind from the first slot of that kind on; nothing, where it has no such slot
abbrev pub slot_at : Op → Kind → List ℕ → List ℕ
slot_at o k line = from_slot k (slots_of o) (drop (key_length line) line)
