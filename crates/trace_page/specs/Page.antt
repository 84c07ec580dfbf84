-- The page of a trace.
use Rattle.std.specs.Prelude.{Bool, List, None, Option, Some, [], false, if◌then◌else◌, is_some, true, ℕ, ◌++◌, ◌+◌, ◌==◌, ◌∷◌}
use Rattle.trace_lines.specs.Entries.{entry_of}
use Rattle.trace_lines.specs.declared.entry.Entry.{Entry}
use Rattle.trace_page.specs.Frame.{head, tail}
use Rattle.trace_page.specs.Scene.{Seen, opening}
use Rattle.trace_page.specs.Shapes.{group_text}
use Rattle.trace_page.specs.Steps.{after_entry, after_finish, after_note, is_call, is_shown}

-- a byte in front of the first of these lines, if there is any
abbrev pub onto_first : ℕ → List (List ℕ) → List (List ℕ)
onto_first b [] = []
onto_first b (l ∷ ls) = (b ∷ l) ∷ ls

-- the lines of a text that have a newline, without it
abbrev pub whole_lines : List ℕ → List (List ℕ)
whole_lines [] = []
whole_lines (b ∷ bs) = if b == 10 then [] ∷ whole_lines bs else onto_first b (whole_lines bs)

-- nothing follows the last newline
abbrev pub is_whole : List ℕ → Bool
is_whole [] = true
is_whole (b ∷ []) = b == 10
is_whole (b ∷ c ∷ bs) = is_whole (c ∷ bs)

-- the first of these that is no line of a trace, where the first has this number; or the one after them, where there
-- is more
abbrev pub bad_from : ℕ → Bool → List (List ℕ) → Option ℕ
bad_from n whole [] = if whole then None else Some n
bad_from n whole (l ∷ ls) = if is_some (entry_of l) then bad_from (n + 1) whole ls else Some n

-- the first of a text
abbrev pub first_bad : List ℕ → Option ℕ
first_bad text = bad_from 1 (is_whole text) (whole_lines text)

-- the first line of a text that is no line of a trace, counted from 1; one without its newline is none, and so is the
-- first of a text that has none
abbrev pub bad_line : List ℕ → Option ℕ
bad_line [] = Some 1
bad_line (b ∷ bs) = first_bad (b ∷ bs)

abbrev pub is_call_by : Option Entry → Bool
is_call_by None = false
is_call_by (Some e) = is_call e

abbrev pub line_calls : List ℕ → ℕ
line_calls l = if is_call_by (entry_of l) then 1 else 0

-- how many of these lines are calls
abbrev pub calls_of : List (List ℕ) → ℕ
calls_of [] = 0
calls_of (l ∷ ls) = line_calls l + calls_of ls

-- what is known after a line
abbrev pub after_entry_by : Option Entry → Seen → Seen
after_entry_by None s = s
after_entry_by (Some e) s = after_entry e s

-- the words of a line are known
abbrev pub after_note_by : Option Entry → List ℕ → Seen → Seen
after_note_by None l s = s
after_note_by (Some e) l s = after_note e l s

unfoldable pub after_line : List ℕ → Seen → Seen
after_line l s = after_entry_by (entry_of l) (after_note_by (entry_of l) l s)

-- after these lines
abbrev pub after_lines : Seen → List (List ℕ) → Seen
after_lines s [] = s
after_lines s (l ∷ ls) = after_lines (after_line l s) ls

-- what is drawn for a line, if it is drawn at all
unfoldable pub group_if_shown : Seen → List ℕ → List ℕ
group_if_shown s l = if is_shown s then group_text s l else []

abbrev pub groups : Seen → List (List ℕ) → List ℕ
groups s [] = []
groups s (l ∷ ls) = group_if_shown (after_line l s) l ++ groups (after_line l s) ls

-- the page of the calls after `base`, up to `last`
abbrev pub page : ℕ → ℕ → List (List ℕ) → List ℕ
page base last lines = head
    ++ (groups (opening base last) lines ++ tail (after_finish (after_lines (opening base last) lines)))
