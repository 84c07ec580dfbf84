-- An index: the numbers of the agents under each key, by which they are looked for. No public clause cites this module.
use Rattle.agents.specs.declared.index.Entry.{Entry}
use Rattle.std.specs.List.{AllByRecursion, filter}
use Rattle.std.specs.Prelude.{Bool, List, [], drop, false, length, map, nat_le, nat_lt, slice_index_or}
use Rattle.std.specs.Prelude.{suc, take, true, ℕ, ◌&&◌, ◌<◌, ◌==◌, ◌||◌, ◌∷◌, ◌≡◌, ◌≢◌, ◌≤◌}

-- what a contract sees of an index
pub record Entries : Type 0 where
  pub entries : List Entry
  pub room : ℕ

-- the entry stands under this key
abbrev pub is_under : ℕ → Entry → Bool
is_under k e = e.key == k

-- the numbers under a key, from the least
abbrev pub numbers_under : ℕ → List Entry → List ℕ
numbers_under k es = map (λ e. e.number) (filter (is_under k) es)

-- of two entries the second has the greater key, or under the same key the greater number
pub record IsBefore (e f : Entry) : Type 0 where
  pub key : e.key ≤ f.key
  pub number : e.key ≡ f.key → e.number < f.number

-- each entry stands before all that come after it
abbrev pub AreOrdered : List Entry → Type 0
AreOrdered [] = Unit {0}
AreOrdered (e ∷ es) = AllByRecursion (IsBefore e) es × AreOrdered es

-- the entry stands under a lesser key
abbrev pub is_below : ℕ → Entry → Bool
is_below k e = nat_lt e.key k

-- the entry stands under a lesser key, or under this one
abbrev pub is_up_to : ℕ → Entry → Bool
is_up_to k e = nat_le e.key k

-- the entry stands before that of number n under key k
abbrev pub is_before : ℕ → ℕ → Entry → Bool
is_before k n e = nat_lt e.key k || (e.key == k && nat_lt e.number n)

-- the entries before this place pass the test, and the others don't
pub record IsCut (p : Entry → Bool) (es : List Entry) (i : ℕ) : Type 0 where
  pub within : i ≤ length es
  pub before : AllByRecursion (λ e. p e ≡ true) (take i es)
  pub behind : AllByRecursion (λ e. p e ≡ false) (drop i es)

-- the entry before this place, if there is one, stands under a lesser key
abbrev pub IsPastLesser : ℕ → List Entry → ℕ → Type 0
IsPastLesser k es i = (j : ℕ) (d : Entry) → suc j ≡ i → (slice_index_or es j d).key < k

-- under this key stand these numbers from now on, and under the others what stood there
pub record Puts (before after : List Entry) (k : ℕ) (numbers : List ℕ) : Type 0 where
  pub here : numbers_under k after ≡ numbers
  pub others : (j : ℕ) → j ≢ k → numbers_under j after ≡ numbers_under j before
