-- What a replay writes of a verdict, and how its session ends.
use Rattle.replay.specs.declared.verdict.Verdict.{Verdict}
use Rattle.replay.specs.declared.verdict.Verdict.TheVariants as verdict
use Rattle.script_session.specs.declared.session.SessionEnd.{SessionEnd}
use Rattle.script_session.specs.declared.session.SessionEnd.TheVariants as end
use Rattle.std.specs.Prelude.{Bool, List, None, Option, Some, codes, decimal, if◌then◌else◌, option_map, ℕ, ◌++◌}

-- a word, and then a space and a line, if there is one; empty lines are lines
abbrev pub line_text : List ℕ → Option (List ℕ) → List ℕ
line_text word None = word ++ codes "\n"
line_text word (Some line) = word ++ (codes " " ++ (line ++ codes "\n"))

-- the word of the line that was recorded: whether it has its newline
abbrev pub got_word : Bool → List ℕ
got_word ended = if ended then codes "got" else codes "cut"

-- the bytes are a trace of so many lines
unfoldable pub same_text : ℕ → List ℕ
same_text lines = codes "same " ++ (decimal lines ++ codes "\n")

-- this line is the first that differs; this one was to come there, and this one was recorded
unfoldable pub differs_text : ℕ → Option (List ℕ) → Option (List ℕ) → Bool → List ℕ
differs_text line want got ended =
    codes "differs "
    ++ (decimal line ++ (codes "\n" ++ (line_text (codes "want") want ++ line_text (got_word ended) got)))

-- what is written of a verdict
abbrev pub text_of : Verdict → List ℕ
text_of (verdict.Same lines) = same_text lines
text_of (verdict.Differs line want got ended) =
    differs_text line (option_map (λ v. v.items) want) (option_map (λ v. v.items) got) ended

-- how a session with this verdict ends
abbrev pub end_of : Verdict → SessionEnd
end_of (verdict.Same lines) = end.Same
end_of (verdict.Differs line want got ended) = end.Differs line
