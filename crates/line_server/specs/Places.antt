-- Where a key stands among entries in order.
use Rattle.line_server.specs.Tables.{Table, key_cmp}
use Rattle.std.specs.List.Sorted.{IsStrictlySortedBy}
use Rattle.std.specs.Map.{keys_of}
use Rattle.std.specs.Prelude.{List, MatchResult, Result, length, slice_index_or, ℕ, ◌<◌, ◌≡◌, ◌≤◌}
use Rattle.std.specs.declared.cmp.Ordering.TheVariants.{Equal, Greater, Less}

-- each key is below those after it
abbrev pub AreInOrder : Table → Type 0
AreInOrder es = IsStrictlySortedBy key_cmp (keys_of es)

-- the key stands there
pub record IsKeyAt (key : List ℕ) (es : Table) (i : ℕ) : Type 0 where
  pub within : i < length es
  pub here : (d : List ℕ × List ℕ) → key_cmp key (slice_index_or es i d).0 ≡ Equal

-- the key belongs there: it is above the keys before that place, and below the others
pub record IsGapAt (key : List ℕ) (es : Table) (i : ℕ) : Type 0 where
  pub within : i ≤ length es
  pub above : (j : ℕ) (d : List ℕ × List ℕ) → j < i → key_cmp key (slice_index_or es j d).0 ≡ Greater
  pub below : (j : ℕ) (d : List ℕ × List ℕ) → i ≤ j → j < length es → key_cmp key (slice_index_or es j d).0 ≡ Less

-- where the key stands, or else where it belongs
abbrev pub IsPlace : List ℕ → Table → Result ℕ ℕ → Type 0
IsPlace key es r = MatchResult r (IsKeyAt key es) (IsGapAt key es)
