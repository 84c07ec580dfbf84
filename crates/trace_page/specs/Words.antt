-- What the words ask for.
use Rattle.std.specs.Prelude.{List, None, Option, Some, [], bytes_eq, codes, if◌then◌else◌, min, nat_lt, ℕ, ◌+◌, ◌-◌, ◌==◌, ◌||◌, ◌∷◌}
use Rattle.trace_lines.specs.Words.{whole_number}
use Rattle.trace_page.specs.declared.words.Range.{Range}
use Rattle.trace_page.specs.declared.words.Range.TheVariants as range
use Rattle.trace_page.specs.declared.words.Window.{Window}

-- the number of a call, if it is one
abbrev pub call_by : Option ℕ → Option ℕ
call_by None = None
call_by (Some n) = if (n == 0) || nat_lt 4294967295 n then None else Some n

-- the number of a call that a word writes
abbrev pub call_of : List ℕ → Option ℕ
call_of word = call_by (whole_number word)

-- the calls from this one to that one, and of more than 5,000 the first 5,000
abbrev pub from_to : ℕ → ℕ → Option Window
from_to from to = if nat_lt to from then None
    else Some (record { base = from - 1; last = if nat_lt to (from + 4999) then to else from + 4999 })

abbrev pub calls_by : Option Window → Option Range
calls_by None = None
calls_by (Some window) = Some (range.Calls window)

-- from the one call to the other
abbrev pub range_by : Option ℕ → Option ℕ → Option Range
range_by None to = None
range_by (Some from) None = None
range_by (Some from) (Some to) = calls_by (from_to from to)

-- so many calls at the end, and of more than 5,000 the last 5,000
abbrev pub last_by : Option ℕ → Option Range
last_by None = None
last_by (Some count) = Some (range.Last (min count 5000))

unfoldable pub pair_of : List ℕ → List ℕ → Option Range
pair_of first second = if bytes_eq first (codes "--last") then last_by (call_of second)
    else range_by (call_of first) (call_of second)

-- the calls that the words ask for: without words the first 5,000
abbrev pub range_of : List (List ℕ) → Option Range
range_of [] = Some (range.Calls (record { base = 0; last = 5000 }))
range_of (word ∷ []) = None
range_of (first ∷ second ∷ []) = pair_of first second
range_of (first ∷ second ∷ more ∷ words) = None

-- the window of a range, where a trace has so many calls
abbrev pub window_in : Range → ℕ → Window
window_in (range.Calls window) calls = window
window_in (range.Last count) calls = record { base = calls - count; last = calls }
