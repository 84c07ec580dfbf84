-- The slots: each has a letter or is empty, and those that have one have the letters in the order of their sending. No
-- public clause cites this module.
use Rattle.lwp_types.specs.Messages.{is_letter_of, is_open, is_to, letters_of}
use Rattle.lwp_types.specs.State.{passes}
use Rattle.lwp_types.specs.declared.rows.Letter.{Letter}
use Rattle.std.specs.List.{find}
use Rattle.std.specs.Prelude.{Bool, List, None, Option, Some, [], if◌then◌else◌, length, slice_index_or}
use Rattle.std.specs.Prelude.{slice_set, suc, true, ℕ, ◌&&◌, ◌++◌, ◌<◌, ◌∷◌, ◌≡◌, ◌≢◌, ◌≤◌}
use Rattle.lists.specs.Living.{living}

-- what the slot has
abbrev pub slot_at : List (Option Letter) → ℕ → Option Letter
slot_at slots i = slice_index_or slots i None

-- the numbers of the slots whose letter passes, where the first slot has number n
abbrev pub keys_from : ℕ → (Letter → Bool) → List (Option Letter) → List ℕ
keys_from n p [] = []
keys_from n p (o ∷ slots) = if passes p o then n ∷ keys_from (suc n) p slots else keys_from (suc n) p slots

-- the letter is for t, and nobody has received it
abbrev pub is_unread_by : ℕ → Letter → Bool
is_unread_by t letter = is_to t letter && is_open None letter

-- the letter that was found, if it passes
abbrev pub letter_if : (Letter → Bool) → Option Letter → Option Letter
letter_if p None = None
letter_if p (Some letter) = if p letter then Some letter else None

-- t has received the letter
abbrev pub is_held_by : ℕ → Letter → Bool
is_held_by t letter = is_to t letter && letter.received

-- nobody has two letters
abbrev pub IsOnce : List (Option Letter) → Type 0
IsOnce slots = (x : ℕ) → letters_of (living slots) x ≤ 1

-- the letter in that slot passes, and is the first that does
pub record IsFirstAt (p : Letter → Bool) (slots : List (Option Letter)) (i : ℕ) : Type 0 where
  pub within : i < length slots
  pub passed : passes p (slot_at slots i) ≡ true
  pub first : find p (living slots) ≡ slot_at slots i

-- where the first letter that passes lies, if there is one
abbrev pub IsFirstIn : (Letter → Bool) → List (Option Letter) → Option ℕ → Type 0
IsFirstIn p slots None = find p (living slots) ≡ None
IsFirstIn p slots (Some i) = IsFirstAt p slots i

-- where the letter of x lies, if there is one
abbrev pub IsSlotOf : List (Option Letter) → ℕ → Option ℕ → Type 0
IsSlotOf slots x None = letters_of (living slots) x ≡ 0
IsSlotOf slots x (Some i) = passes (is_letter_of x) (slot_at slots i) ≡ true

-- one slot is empty that had a letter; the last one is gone
pub record IsEmptied (old new : List (Option Letter)) (i : ℕ) : Type 0 where
  pub last : suc i ≡ length old → new ++ None ∷ [] ≡ slice_set old i None
  pub inner : suc i ≢ length old → new ≡ slice_set old i None
