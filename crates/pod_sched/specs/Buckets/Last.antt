-- The last of some lists that has anybody, and its first.
use Rattle.std.specs.Prelude.{IsTrue, MatchOption, None, Option, Some, is_some, ℕ, ◌<◌, ◌≡◌, ◌≤◌}

-- of the lists from one number to below another this one has anybody, and no later one
pub record IsLast {A : Type 0} (firsts : ℕ → Option A) (from to n : ℕ) : Type 0 where
  pub not_before : from ≤ n
  pub below : n < to
  pub has_some : IsTrue (is_some (firsts n))
  pub none_later : (m : ℕ) → n < m → m < to → firsts m ≡ None

-- none of them has anybody
abbrev pub NoFirst : {A : Type 0} → (ℕ → Option A) → ℕ → ℕ → Type 0
NoFirst firsts from to = (m : ℕ) → from ≤ m → m < to → firsts m ≡ None

-- only lists from 1 to this one have anybody
pub record AreWithin {A : Type 0} (firsts : ℕ → Option A) (most : ℕ) : Type 0 where
  pub none_at_zero : firsts 0 ≡ None
  pub none_above : (m : ℕ) → most < m → m < 256 → firsts m ≡ None

-- the last that has anybody is found, and nothing exactly where none has
abbrev pub FindsLast : {A : Type 0} → (ℕ → Option A) → ℕ → ℕ → Option ℕ → Type 0
FindsLast firsts from to found = MatchOption found (NoFirst firsts from to) (IsLast firsts from to)

-- it is the first of the last of 256 lists that has anybody
pub record IsOfLast {A : Type 0} (firsts : ℕ → Option A) (x : A) : Type 0 where
  pub list : ℕ
  pub below : list < 256
  pub is_first : firsts list ≡ Some x
  pub none_later : (m : ℕ) → list < m → m < 256 → firsts m ≡ None

-- that is given, and nothing exactly where none has anybody
abbrev pub GivesLast : {A : Type 0} → (ℕ → Option A) → Option A → Type 0
GivesLast firsts given = MatchOption given (NoFirst firsts 0 256) (IsOfLast firsts)
