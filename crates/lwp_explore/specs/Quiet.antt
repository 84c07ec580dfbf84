-- The cores from which a call is the only step, by the rows of a search.
use Rattle.search.specs.declared.found.Row.{Row}
use Rattle.std.specs.List.{range_with_len}
use Rattle.std.specs.Option.{option_map_or}
use Rattle.std.specs.Prelude.{Bool, List, None, Option, Some, false, if◌then◌else◌, length, map, not, option_and_then, slice_get, slice_index_or, ℕ, ◌&&◌, ◌/◌, ◌==◌}

-- a core with the number of such a kind
abbrev pub is_calm : Option ℕ → Bool
is_calm kind = option_map_or (λ n. n / 2 == 1) kind false

-- the core of this number is one
abbrev pub is_quiet : List Row → ℕ → Bool
is_quiet rows i = option_map_or (λ row. is_calm row.kind) (slice_get rows i) false

-- where the call leads from such a core, if such a core is there too
abbrev pub next_if : List Row → Option ℕ → Option ℕ
next_if rows None = None
next_if rows (Some j) = if is_quiet rows j then Some j else None

abbrev pub quiet_next : List Row → List (Option ℕ) → ℕ → Option ℕ
quiet_next rows lasts i = if is_quiet rows i then next_if rows (slice_index_or lasts i None) else None

-- so from each core
abbrev pub quiet_nexts : List Row → List (Option ℕ) → List (Option ℕ)
quiet_nexts rows lasts = map (quiet_next rows lasts) (range_with_len 0 (length rows))

-- the number of a core's kind, if it has one; one from which a call is the only step has one only if calls lead back to it
abbrev pub kind_at : List Row → List Bool → ℕ → Option ℕ
kind_at rows rounds i = if is_quiet rows i && not (slice_index_or rounds i false) then None else option_and_then (λ row. row.kind) (slice_get rows i)

-- so of each core
abbrev pub kinds_at : List Row → List Bool → List (Option ℕ)
kinds_at rows rounds = map (kind_at rows rounds) (range_with_len 0 (length rows))
