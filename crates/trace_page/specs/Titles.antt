-- Which lines are titles in the page, and the bytes that a text of the trace brings into it.
use Rattle.std.specs.List.{list_all}
use Rattle.std.specs.Prelude.{Bool, List, [], false, if◌then◌else◌, not, true, ℕ, ◌++◌, ◌==◌, ◌||◌, ◌∷◌, ◌≡◌}
use Rattle.trace_page.specs.Page.{after_line, after_lines}
use Rattle.trace_page.specs.Scene.{Seen, opening}
use Rattle.trace_page.specs.Shapes.{escaped_text}
use Rattle.trace_page.specs.Steps.{is_shown}

-- the title of a group, where there is one (`group_if_shown` in `Page.antt`)
abbrev pub title_lines : Seen → List ℕ → List (List ℕ)
title_lines s l = if is_shown s then l ∷ [] else []

-- the titles of a page's groups, in order
abbrev pub titles : Seen → List (List ℕ) → List (List ℕ)
titles s [] = []
titles s (l ∷ ls) = title_lines (after_line l s) l ++ titles (after_line l s) ls

-- a page from the first call on, after whose last call there is none, has each line as a title, once and in order
abbrev pub LinesAreTitles : ℕ → List (List ℕ) → Type 0
LinesAreTitles last lines = (after_lines (opening 0 last) lines).more ≡ false → titles (opening 0 last) lines ≡ lines

-- a byte that begins and ends nothing
abbrev pub is_plain : ℕ → Bool
is_plain b = not (b == 60 || (b == 62 || (b == 34 || b == 39)))

-- no text of the trace begins or ends an element
abbrev pub TextsArePlain : List ℕ → Type 0
TextsArePlain text = list_all is_plain (escaped_text text) ≡ true
