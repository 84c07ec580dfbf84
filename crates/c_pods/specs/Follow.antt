-- The lines of a step compared with a recorded trace.
use Rattle.c_pods.specs.declared.following.Followed.{Followed}
use Rattle.c_pods.specs.declared.following.Place.{Place}
use Rattle.std.specs.Prelude.{Bool, List, None, Option, Some, [], drop, false, if◌then◌else◌, slice_get, true, ℕ, ◌+◌, ◌==◌, ◌∷◌}

-- one more, but for the greatest number that there is room for
abbrev pub counted : ℕ → ℕ
counted n = if n == 18446744073709551615 then n else n + 1

-- where a line of the trace begins, after a byte of a line that has so many bytes before it
abbrev pub place_after : ℕ → ℕ → Place → Place
place_after b n here = if b == 10 then record { at = here.at + (n + 1); line = counted here.line } else here

-- how many bytes a line has by then
abbrev pub width_after : ℕ → ℕ → ℕ
width_after b n = if b == 10 then 0 else n + 1

-- bytes of lines compared with what is left of the trace, where so many bytes of a line that begins there are the same so far: they are all the
-- same, and the trace goes on after them; or a line differs
abbrev pub follow : List ℕ → List ℕ → ℕ → Place → Followed
follow [] trace n here = record { same = true; place = record { at = here.at + n; line = here.line } }
follow (b ∷ bs) [] n here = record { same = false; place = here }
follow (b ∷ bs) (t ∷ trace) n here = if b == t then follow bs trace (width_after b n) (place_after b n here)
    else record { same = false; place = here }

-- it is this byte
abbrev pub is_byte : ℕ → Option ℕ → Bool
is_byte b None = false
is_byte b (Some t) = b == t

-- there is this byte at a place
abbrev pub has_byte : List ℕ → ℕ → ℕ → Bool
has_byte bytes at b = is_byte b (slice_get bytes at)

-- lines compared with a trace, from a place of it on
abbrev pub follow_from : List ℕ → List ℕ → Place → Followed
follow_from lines trace here = follow lines (drop here.at trace) 0 here
