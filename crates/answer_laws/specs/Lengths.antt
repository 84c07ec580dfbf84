-- Answers have room in a letter.
use Rattle.line_server.specs.Tables.{line_answers}
use Rattle.std.specs.List.{list_all}
use Rattle.std.specs.Prelude.{Bool, IsTrue, List, length, nat_le, ℕ}

-- no longer than a text may be, and than the replies that a session and an agent have room for
abbrev pub is_short : List ℕ → Bool
is_short text = nat_le (length text) 240

-- The answers to lines that are short are short.
abbrev pub ShortLinesHaveShortAnswers : Type 0
ShortLinesHaveShortAnswers = (lines : List (List ℕ)) → IsTrue (list_all is_short lines)
    → IsTrue (list_all is_short (line_answers lines))
