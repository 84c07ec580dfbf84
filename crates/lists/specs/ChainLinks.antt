-- How the links spell out the lists. No public clause cites this module.
use Rattle.lists.specs.ChainLists.{Lists}
use Rattle.lists.specs.declared.chain_links.Link.{Link}
use Rattle.std.specs.List.{AllByRecursion, range_with_len}
use Rattle.std.specs.Prelude.{List, [], if◌then◌else◌, length, map, slice_index_or, suc, zero, ℕ, ◌<◌, ◌==◌, ◌∷◌, ◌≡◌, ◌≢◌, ◌≤◌}

-- what a read past the links gives
abbrev pub no_link : Link
no_link = record { next = 0; prev = 0 }

-- the place after a place
abbrev pub next_of : List Link → ℕ → ℕ
next_of links at = (slice_index_or links at no_link).next

-- the place before a place
abbrev pub prev_of : List Link → ℕ → ℕ
prev_of links at = (slice_index_or links at no_link).prev

-- one value is written, and all else is as it was
pub record Writes (old new : ℕ → ℕ) (at to : ℕ) : Type 0 where
  pub here : new at ≡ to
  pub others : (x : ℕ) → x ≢ at → new x ≡ old x

-- two places lead where the other one did, and all else is as it was
pub record Crosses (next prev next' prev' : ℕ → ℕ) (a b : ℕ) : Type 0 where
  pub first : next' a ≡ next b
  pub second : next' b ≡ next a
  pub others : (x : ℕ) → x ≢ a → x ≢ b → next' x ≡ next x
  pub back_second : prev' (next a) ≡ b
  pub back_first : next b ≢ next a → prev' (next b) ≡ a
  pub back_others : (x : ℕ) → x ≢ next a → x ≢ next b → prev' x ≡ prev x

-- below the limit the two lead back from each other
pub record IsWound (next prev : ℕ → ℕ) (limit : ℕ) : Type 0 where
  pub next_in : (x : ℕ) → x < limit → next x < limit
  pub prev_in : (x : ℕ) → x < limit → prev x < limit
  pub there : (x : ℕ) → x < limit → prev (next x) ≡ x
  pub back : (x : ℕ) → x < limit → next (prev x) ≡ x

-- further places, each of which leads to itself
pub record Grows (old new : List Link) : Type 0 where
  pub kept : (x : ℕ) → x < length old → slice_index_or new x no_link ≡ slice_index_or old x no_link
  pub alone : (x : ℕ) → length old ≤ x → x < length new → slice_index_or new x no_link ≡ record { next = x; prev = x }

-- the way from a place leads over these, in this order, to the end
abbrev pub Spells : (ℕ → ℕ) → ℕ → List ℕ → ℕ → Type 0
Spells next at [] end = at ≡ end
Spells next at (k ∷ keys) end = (at ≡ k) × Spells next (next k) keys end

-- what is met on the way from a place to the end, in so many steps at most
abbrev pub walk : (ℕ → ℕ) → ℕ → ℕ → ℕ → List ℕ
walk next zero at end = []
walk next (suc steps) at end = if at == end then [] else at ∷ walk next steps (next at) end

-- the ring through the head of a list is of these keys
pub record IsRing (next : ℕ → ℕ) (heads list : ℕ) (keys : List ℕ) : Type 0 where
  pub closes : Spells next (next list) keys list
  pub are_keys : AllByRecursion (λ k. heads ≤ k) keys

module _ (links : List Link) where
  -- the keys of a list
  unfoldable pub keys_of : ℕ → List ℕ
  keys_of list = walk (next_of links) (length links) (next_of links list) list

  module _ (heads : ℕ) where
    -- what a contract sees
    abbrev pub lists_of : Lists
    lists_of = record { lists = map keys_of (range_with_len 0 heads); limit = length links }

    pub record IsSound : Type 0 where
      pub few : heads ≤ length links
      pub wound : IsWound (next_of links) (prev_of links) (length links)
      pub rings : (list : ℕ) → list < heads → IsRing (next_of links) heads list (keys_of list)
