-- Messages as a plain list of letters, and what each of its calls makes of it.
use Rattle.lwp_types.specs.Messages.{is_letter_of, is_to, letters_of, with_reception, next_letter, without_letter}
use Rattle.lwp_types.specs.declared.call.LwpErr.{LwpErr}
use Rattle.lwp_types.specs.declared.rows.Letter.{Letter}
use Rattle.std.specs.List.{find, list_any}
use Rattle.std.specs.Prelude.{Bool, List, None, Option, Some, [], if◌then◌else◌, max, nat_lt, ℕ, ◌++◌, ◌∷◌, ◌≤◌}
use Rattle.lwp_types.specs.declared.call.LwpErr.TheVariants as error

-- all that there is of messages
pub record MessageTable : Type 0 where
  -- the letters that aren't replied to, in the order of their sending
  pub letters : List Letter
  -- how many letters it can hold without asking for memory
  pub places : ℕ

-- which letter is meant

-- the letter for t that was sent first
abbrev pub first_to : List Letter → ℕ → Option Letter
first_to letters t = find (is_to t) letters

-- a letter of x is there
abbrev pub has_letter_of : List Letter → ℕ → Bool
has_letter_of letters x = list_any (is_letter_of x) letters

-- the messages after each call

-- no letter, and room for none
abbrev pub no_messages : MessageTable
no_messages = record { letters = []; places = 0 }

-- places for n letters at least
abbrev pub after_reserve : MessageTable → ℕ → MessageTable
after_reserve m n = record m { places = max m.places n }

-- one letter more, the last
abbrev pub after_post : MessageTable → Letter → MessageTable
after_post m letter = record m { letters = m.letters ++ letter ∷ [] }

-- the letter that was found counts as received
abbrev pub with_found_received : Option Letter → List Letter → List Letter
with_found_received None letters = letters
with_found_received (Some letter) letters = with_reception letter.from letters

-- t receives the next letter, of this sender or of any
abbrev pub after_take : MessageTable → ℕ → Option ℕ → MessageTable
after_take m t from = record m { letters = with_found_received (next_letter m.letters t from) m.letters }

-- the letter of x is done with
abbrev pub after_forget : MessageTable → ℕ → MessageTable
after_forget m x = record m { letters = without_letter x m.letters }

-- why a reply of so many bytes is refused: there is nothing to reply to, or the reply is too long for it
abbrev pub refusal : Option Letter → ℕ → Option LwpErr
refusal None len = Some error.NoWait
refusal (Some letter) len = if nat_lt letter.room len then Some error.InvalidArg else None

-- the letter that was found is taken out
abbrev pub without_found : Option Letter → List Letter → List Letter
without_found None letters = letters
without_found (Some letter) letters = without_letter letter.from letters

-- the first letter for t is taken out
abbrev pub after_pop : MessageTable → ℕ → MessageTable
after_pop m t = record m { letters = without_found (first_to m.letters t) m.letters }

-- laws

-- nobody has sent two letters that are there still
pub record IsOnePerSender (letters : List Letter) : Type 0 where
  pub at_most_one : (x : ℕ) → letters_of letters x ≤ 1
