-- What a contract sees of `Buckets`, and the order that each call leaves.
use Rattle.lists.specs.ChainLists.{before, without}
use Rattle.std.specs.List.{find}
use Rattle.std.specs.Prelude.{Bool, List, Option, [], length, replicate, slice_index_or, slice_set, ℕ, ◌++◌, ◌-◌, ◌==◌, ◌∷◌}

pub record Order : Type 0 where
  -- the number of priorities, and of the first key
  pub levels : ℕ
  -- the keys from first to last
  pub order : List ℕ
  -- the priority of each key, from the first key on
  pub prios : List ℕ

-- the priority of a key
abbrev pub prio_in : List ℕ → ℕ → ℕ → ℕ
prio_in prios levels key = slice_index_or prios (key - levels) 0

abbrev pub prio_of : Order → ℕ → ℕ
prio_of v key = prio_in v.prios v.levels key

-- the key is of this priority
abbrev pub is_of_prio : List ℕ → ℕ → ℕ → ℕ → Bool
is_of_prio prios levels p key = prio_in prios levels key == p

-- no key
abbrev pub empty_order : ℕ → Order
empty_order levels = record { levels = levels; order = []; prios = [] }

-- there are so many keys at least
abbrev pub with_keys : Order → ℕ → Order
with_keys v keys = record v { prios = v.prios ++ replicate (keys - length v.prios) 0 }

-- the key is out of the run queue
abbrev pub after_take : Order → ℕ → Order
after_take v key = record v { order = without key v.order }

-- the key is out of the run queue, and of this priority
abbrev pub after_reassign : Order → ℕ → ℕ → Order
after_reassign v key p = record v { order = without key v.order; prios = slice_set v.prios (key - v.levels) p }

-- the key is last, and of this priority
abbrev pub after_put_last : Order → ℕ → ℕ → Order
after_put_last v key p = record v {
  order = without key v.order ++ key ∷ [];
  prios = slice_set v.prios (key - v.levels) p;
}

-- the key is right before the other
abbrev pub after_put_before : Order → ℕ → ℕ → Order
after_put_before v key other = record v { order = before key other (without key v.order) }

-- the first of this priority
abbrev pub first_of : Order → ℕ → Option ℕ
first_of v p = find (is_of_prio v.prios v.levels p) v.order
