-- How a remark is written.
use Rattle.std.specs.Fmt.{decimal}
use Rattle.std.specs.Prelude.{ℕ, ◌&&◌, ◌+◌, ◌-◌, nat_le, List, [], ◌∷◌, ◌++◌, length, map, take, Option, Some, None, codes, if◌then◌else◌}
use Rattle.std.specs.List.{flat_map}
use Rattle.script_lines.specs.declared.table.Op.{Op}
use Rattle.script_advice.specs.Forms.{form}
use Rattle.script_advice.specs.Remarks.{Remark, cause_text, severity_text, why_text}
use Rattle.script_advice.specs.declared.texts.Format.{Format}
use Rattle.script_advice.specs.declared.texts.Format.TheVariants as format

-- a text after this one, if there is any
abbrev pub with_label : List ℕ → List ℕ → List ℕ → List ℕ
with_label front [] end = []
with_label front (b ∷ bs) end = front ++ ((b ∷ bs) ++ end)

-- the form of this kind of line after this text, if there is one
abbrev pub labelled_form : List ℕ → Option Op → List ℕ → List ℕ
labelled_form front None end = []
labelled_form front (Some o) end = front ++ (form o ++ end)

-- how many bytes of the line stand before the wrong word
abbrev pub column : Remark → ℕ
column r = length r.text - r.place.left

-- ---- For readers: the line, a caret under the wrong word, and a line for all else.

-- a byte as it is shown: one that isn't printable is a question mark
abbrev pub shown_byte : ℕ → ℕ
shown_byte b = if nat_le 32 b && nat_le b 126 then b else 63

-- the byte under one that is before the wrong word: a space
abbrev pub under : ℕ → ℕ
under b = 32

-- the line, and a caret after so many bytes of the next; nothing, where the line is empty
abbrev pub line_with_caret : List ℕ → ℕ → List ℕ
line_with_caret [] at = []
line_with_caret (b ∷ bs) at = codes "  "
    ++ (map shown_byte (b ∷ bs) ++ (codes "\n  " ++ (map under (take at (b ∷ bs)) ++ codes "^\n")))

-- whether it is an error, the number of its line, and why it is told
unfoldable pub head_text : Remark → List ℕ
head_text r = severity_text r.cause
    ++ (codes " line " ++ (decimal r.line ++ (codes ": " ++ (cause_text r.cause ++ codes "\n"))))

-- what is wrong, what may stand there, and what nearly does
unfoldable pub advice_text : Remark → List ℕ
advice_text r =
    with_label (codes "here: ") (why_text r.place.why) (codes "\n")
    ++ (labelled_form (codes "expected: ") r.form (codes "\n")
    ++ with_label (codes "did you mean: ") r.near (codes "\n"))

abbrev pub plain_text : Remark → List ℕ
plain_text r = head_text r ++ (line_with_caret r.text (column r) ++ advice_text r)

-- ---- For editors: a line each, as compilers write theirs after the name of a file.

-- the number of the line, and the column of its wrong word, counted from 1
unfoldable pub line_place : Remark → List ℕ
line_place r = decimal r.line ++ (codes ":" ++ (decimal (column r + 1) ++ codes ": "))

-- whether it is an error, what is wrong, and why it is told
unfoldable pub line_reason : Remark → List ℕ
line_reason r = severity_text r.cause
    ++ (codes ": " ++ (why_text r.place.why ++ (codes " [" ++ (cause_text r.cause ++ codes "]"))))

-- what may stand there, and what nearly does
unfoldable pub line_advice : Remark → List ℕ
line_advice r =
    labelled_form (codes "; expected: ") r.form (codes "")
    ++ (with_label (codes "; did you mean: ") r.near (codes "") ++ codes "\n")

abbrev pub line_text : Remark → List ℕ
line_text r = line_place r ++ (line_reason r ++ line_advice r)

-- ---- For programs: one object a line. No byte of it has to be escaped.

unfoldable pub json_place : Remark → List ℕ
json_place r = codes "{\"line\":" ++ (decimal r.line ++ (codes ",\"column\":" ++ decimal (column r + 1)))

unfoldable pub json_reason : Remark → List ℕ
json_reason r = codes ",\"severity\":\""
    ++ (severity_text r.cause ++ (codes "\",\"reason\":\"" ++ (cause_text r.cause ++ codes "\"")))

unfoldable pub json_advice : Remark → List ℕ
json_advice r =
    with_label (codes ",\"what\":\"") (why_text r.place.why) (codes "\"")
    ++ (labelled_form (codes ",\"expected\":\"") r.form (codes "\"")
    ++ with_label (codes ",\"suggestion\":\"") r.near (codes "\""))

abbrev pub json_text : Remark → List ℕ
json_text r = json_place r ++ (json_reason r ++ (json_advice r ++ codes "}\n"))

-- ---- All of them.

abbrev pub remark_text : Format → Remark → List ℕ
remark_text format.Plain r = plain_text r
remark_text format.Line r = line_text r
remark_text format.Json r = json_text r

-- so many of them, one after the other
abbrev pub remarks_text : Format → List Remark → List ℕ
remarks_text f remarks = flat_map (λ r. remark_text f r) remarks
