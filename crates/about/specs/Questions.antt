-- What the words of a program ask of the program itself.
use Rattle.about.specs.declared.question.Question.{Question}
use Rattle.about.specs.declared.question.Question.TheVariants.{Help, Version}
use Rattle.std.specs.Prelude.{List, None, Option, Some, [], bytes_eq, codes, if◌then◌else◌, ℕ, ◌∷◌}

-- what one word asks
abbrev pub by_word : List ℕ → Option Question
by_word word = if bytes_eq word (codes "--help") then Some Help
    else if bytes_eq word (codes "--version") then Some Version else None

-- what the words ask: nothing, unless there is one alone
abbrev pub question_of : List (List ℕ) → Option Question
question_of [] = None
question_of (word ∷ []) = by_word word
question_of (word ∷ more ∷ words) = None
