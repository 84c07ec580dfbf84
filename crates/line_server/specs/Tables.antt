-- What one client has put into a store, and what it is told.
use Rattle.line_server.specs.Commands.{Command, Del, Get, Put, command_of}
use Rattle.lwp_types.specs.State.{is_empty}
use Rattle.std.specs.BTreeMap.{insert_entry, is_at}
use Rattle.std.specs.Cmp.Lexicographic.{slice_cmp}
use Rattle.std.specs.List.{before_first, list_any}
use Rattle.std.specs.Map.{lookup, remove_entry}
use Rattle.std.specs.declared.cmp.Ordering.{Ordering}
use Rattle.std.specs.Ordering.{nat_cmp}
use Rattle.std.specs.Prelude.{Bool, List, None, Option, Some, [], codes, if◌then◌else◌, is_none, is_some, length, nat_le, ℕ, ◌&&◌, ◌++◌, ◌∷◌}
use Rattle.std.specs.Str.{bytes_eq}

-- keys are in the order of their bytes
abbrev pub key_cmp : List ℕ → List ℕ → Ordering
key_cmp a b = slice_cmp nat_cmp a b

-- a table: each key in order, and what a get of it is told
abbrev pub Table : Type 0
Table = List (List ℕ × List ℕ)

-- what is kept for a key, if it is there
abbrev pub at_key : List ℕ → Table → Option (List ℕ)
at_key key table = lookup (is_at (key_cmp key)) table

-- what a get is told of a value
abbrev pub value_reply : List ℕ → List ℕ
value_reply value = codes "is" ++ (if is_empty value then [] else 32 ∷ value)

-- what a command is replied to, and the table then
pub record ServedTable : Type 0 where
  pub reply : List ℕ
  pub table : Table

-- a get is told the value, or that there is none
abbrev pub get_reply : Option (List ℕ) → List ℕ
get_reply None = codes "none"
get_reply (Some text) = text

-- a put of a new key into a table of 100 keys is refused; any other is done, and a new key goes to its place in the
-- order
abbrev pub served_put : List ℕ → List ℕ → Table → ServedTable
served_put key value table = if nat_le 100 (length table) && is_none (at_key key table)
    then record { reply = codes "full"; table = table }
    else record { reply = codes "ok"; table = insert_entry key_cmp table key (value_reply value) }

-- a del takes the key out, and tells whether it was there
abbrev pub served_del : List ℕ → Table → ServedTable
served_del key table = record {
  reply = if is_some (at_key key table) then codes "ok" else codes "none";
  table = remove_entry (is_at (key_cmp key)) table;
}

-- a command, done on a table
abbrev pub served_command : Option Command → Table → ServedTable
served_command None table = record { reply = codes "bad"; table = table }
served_command (Some (Put key value)) table = served_put key value table
served_command (Some (Get key)) table = record { reply = get_reply (at_key key table); table = table }
served_command (Some (Del key)) table = served_del key table

-- a text, read and done on a table
abbrev pub served_text : List ℕ → Table → ServedTable
served_text text table = served_command (command_of text) table

-- ---- a client's lines in turn

-- what texts are told in turn, with this table at first
abbrev pub replies : Table → List (List ℕ) → List (List ℕ)
replies table [] = []
replies table (text ∷ texts) = (served_text text table).reply ∷ replies (served_text text table).table texts

-- the line by which a client ends
abbrev pub is_quit : List ℕ → Bool
is_quit text = bytes_eq text (codes "quit")

-- what a client's lines are answered, up to and with the first `quit`
abbrev pub line_answers : List (List ℕ) → List (List ℕ)
line_answers texts = replies [] (before_first is_quit texts)
    ++ (if list_any is_quit texts then codes "bye" ∷ [] else [])
