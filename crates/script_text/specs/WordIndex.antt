-- What an index says.
use Rattle.std.specs.Cmp.Lexicographic.{slice_cmp}
use Rattle.std.specs.Map.{lookup, update}
use Rattle.std.specs.Ordering.{is_eq, nat_cmp}
use Rattle.std.specs.Prelude.{List, None, Option, Some, Vec, [], if◌then◌else◌, map, nat_le, ℕ, ◌≡◌}
use Rattle.std.specs.Str.{bytes_eq}
use Rattle.script_text.specs.PackedWords.{word_number}

-- what a contract sees of an index: its entries in order
pub record Numbered : Type 0 where
  -- by the numbers of words that have one: those below 2 ^ 64, and the others
  pub short : List (ℕ × ℕ)
  pub wide : List (ℕ × ℕ)
  -- by the bytes of the others
  pub long : List (List ℕ × ℕ)

-- no word has a number
abbrev pub bare : Numbered
bare = record { short = []; wide = []; long = [] }

-- the entry under a word's number
abbrev pub at_digits : Numbered → ℕ → Option ℕ
at_digits i digits = if nat_le digits 18446744073709551615 then lookup (λ key. is_eq (nat_cmp digits key)) i.short
    else lookup (λ key. is_eq (nat_cmp digits key)) i.wide

-- the entry under a word, by its number if it has one and else by its bytes
abbrev pub entry_under : Numbered → List ℕ → Option ℕ → Option ℕ
entry_under i word (Some digits) = at_digits i digits
entry_under i word None = lookup (λ key. is_eq (slice_cmp nat_cmp word key)) i.long

-- the number under a word
abbrev pub number_of : Numbered → List ℕ → Option ℕ
number_of i word = entry_under i word (word_number word)

-- the word has this number now, or none, and every other word what it had
abbrev pub Puts : Numbered → Numbered → List ℕ → Option ℕ → Type 0
Puts old new word number = (w : List ℕ) → number_of new w ≡ update bytes_eq (number_of old) word number w

-- entries whose keys are read as lists
abbrev pub entries_by_key : {A : Type 0} → List (Vec ℕ A × ℕ) → List (List ℕ × ℕ)
entries_by_key entries = map (λ e. (e.0.items, e.1)) entries
