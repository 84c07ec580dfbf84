-- How far a source has been read, of which no more than so many bytes may be.
use Rattle.std.specs.Prelude.{List, None, Option, Some, drop, take, ℕ, ◌≡◌, ◌≤◌}

-- what is left of what is told, after so many of its bytes
abbrev pub left_after : ℕ → Option (List ℕ) → Option (List ℕ)
left_after n None = None
left_after n (Some told) = Some (drop n told)

-- some bytes were taken from its front, and at most so many
abbrev pub IsReadWithin : ℕ → Option (List ℕ) → Option (List ℕ) → Type 0
IsReadWithin most old new = (n : ℕ) × (n ≤ most) × (new ≡ left_after n old)

-- all were taken, or of more bytes so many
abbrev pub IsReadUp : ℕ → Option (List ℕ) → Option (List ℕ) → Type 0
IsReadUp most old new = new ≡ left_after most old

-- these are the bytes that there were, or of more bytes the first; where nothing is told, some bytes
abbrev pub HasFront : ℕ → Option (List ℕ) → List ℕ → Type 0
HasFront most None bytes = Unit {0}
HasFront most (Some told) bytes = bytes ≡ take most told
