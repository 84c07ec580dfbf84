-- What a client may ask a store for.
use Rattle.std.specs.List.{prefix_len}
use Rattle.std.specs.Prelude.{Bool, List, None, Option, Some, [], codes, drop, if◌then◌else◌, nat_le, take, ℕ, ◌&&◌, ◌==◌, ◌||◌, ◌∷◌}
use Rattle.std.specs.Str.{bytes_eq}

-- what a text may ask for
pub data Command : Type 0 where
  Put : List ℕ → List ℕ → Command
  Get : List ℕ → Command
  Del : List ℕ → Command

-- a byte that may stand in a key: a letter from `a` to `z`, a digit, or `_`
abbrev pub is_key_byte : ℕ → Bool
is_key_byte b = (nat_le 97 b && nat_le b 122) || ((nat_le 48 b && nat_le b 57) || (b == 95))

-- a key has this length at least and at most
abbrev pub is_key_length : ℕ → Bool
is_key_length n = nat_le 1 n && nat_le n 16

-- the length of the key that a text begins with: that of all bytes up to the first that may not stand in one
abbrev pub key_len : List ℕ → ℕ
key_len text = prefix_len is_key_byte text

-- after the key of a put: nothing, or a space and a value that isn't empty
abbrev pub put_command : List ℕ → List ℕ → Option Command
put_command key [] = Some (Put key [])
put_command key (s ∷ []) = None
put_command key (s ∷ b ∷ bs) = if s == 32 then Some (Put key (b ∷ bs)) else None

-- after the key of any other command: nothing
abbrev pub alone : Command → List ℕ → Option Command
alone command [] = Some command
alone command (b ∷ bs) = None

-- what a word asks for, by its key and what follows that
abbrev pub command_by : List ℕ → List ℕ → List ℕ → Option Command
command_by word key behind = if bytes_eq word (codes "put ") then put_command key behind
    else if bytes_eq word (codes "get ") then alone (Get key) behind
    else if bytes_eq word (codes "del ") then alone (Del key) behind
    else None

-- what a word and the text after it ask for; the key has to have the length of one
abbrev pub command_by_word : List ℕ → List ℕ → Option Command
command_by_word word text = if is_key_length (key_len text)
    then command_by word (take (key_len text) text) (drop (key_len text) text)
    else None

-- what a text asks for, if it is a command: its first four bytes are the word
abbrev pub command_of : List ℕ → Option Command
command_of text = command_by_word (take 4 text) (drop 4 text)
