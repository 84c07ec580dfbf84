-- What the lines of the input say: posts of clients, or why they are none.
use Rattle.lwp_live.specs.declared.arrival.Arrival.{Arrival}
use Rattle.lwp_live.specs.declared.arrival.Fault.{Fault}
use Rattle.lwp_live.specs.declared.arrival.Fault.TheVariants as fault
use Rattle.lwp_types.specs.TextFields.{is_printable}
use Rattle.script_lines.specs.Words.{number_at, reach}
use Rattle.script_text.specs.Spelling.{line_cut}
use Rattle.trace_text.specs.Lines.{with_space}
use Rattle.std.specs.List.{fold}
use Rattle.std.specs.Prelude.{Bool, Err, List, None, Ok, Option, Result, Some, [], codes, decimal, drop, if◌then◌else◌, length}
use Rattle.std.specs.Prelude.{min, nat_le, nat_lt, not, slice_index_or, suc, take, zero, ℕ, ◌&&◌, ◌++◌, ◌+◌, ◌-◌, ◌^◌, ◌∷◌}

-- ---- lines

-- a last line that has no end, if there is one
abbrev pub last_line : List ℕ → List (List ℕ)
last_line [] = []
last_line (b ∷ bs) = (b ∷ bs) ∷ []

-- the lines of the input: each ends with a newline, and the last one perhaps with the input
abbrev pub input_lines : List ℕ → List (List ℕ)
input_lines bytes = (line_cut bytes).0 ++ last_line (line_cut bytes).1

-- the first word of a line
abbrev pub word_of : List ℕ → List ℕ
word_of line = take (reach 32 line) line

-- what stands after its first space
abbrev pub rest_of : List ℕ → List ℕ
rest_of line = drop (suc (reach 32 line)) line

-- a number that is one of so many clients
abbrev pub client_at : ℕ → Option ℕ → Option ℕ
client_at clients None = None
client_at clients (Some n) = if nat_lt n clients then Some n else None

-- the client that a word names, where there are so many
abbrev pub client_by : ℕ → List ℕ → Option ℕ
client_by clients word = client_at clients (number_at word)

-- ---- how far the input was read

-- how many lines each client has, how many bytes the script has with them, and how many lines of the input there were
pub record Standing : Type 0 where
  pub counts : List ℕ
  pub size : ℕ
  pub lines : ℕ

-- a post as a line of a script
abbrev pub post_line : Arrival → List ℕ
post_line a = codes "post " ++ (decimal a.client ++ (with_space a.text ++ 10 ∷ []))

-- a client may post one line more, of this text: it has fewer than 20,000, and the script stays short enough
abbrev pub has_room : Standing → Arrival → Bool
has_room s a = nat_lt (slice_index_or s.counts a.client 20000) 20000
    && nat_le (s.size + length (post_line a)) 16777216

-- the text of a client's line: what is wrong with it, first its length, then its bytes, and then the limits
abbrev pub judge_text : Standing → Arrival → Result Arrival Fault
judge_text s a = if nat_lt 240 (length a.text) then Err fault.Length
    else if not (is_printable a.text) then Err fault.Byte
    else if has_room s a then Ok a
    else Err fault.Limit

-- the line of a client, if its first word names one
abbrev pub judge_by : Standing → Option ℕ → List ℕ → Result Arrival Fault
judge_by s None text = Err fault.Client
judge_by s (Some c) text = judge_text s (record { client = c; text = text })

-- a line of the input: a post, or why it is none
abbrev pub judge : Standing → List ℕ → Result Arrival Fault
judge s line = judge_by s (client_by (length s.counts) (word_of line)) (rest_of line)

-- one line more of this client
abbrev pub counted : ℕ → List ℕ → List ℕ
counted c [] = []
counted zero (n ∷ ns) = suc n ∷ ns
counted (suc c) (n ∷ ns) = n ∷ counted c ns

-- a client has posted one line more
abbrev pub after_arrival : Standing → Arrival → Standing
after_arrival s a = record s { counts = counted a.client s.counts; size = s.size + length (post_line a) }

-- one line of the input more was read; they are counted as far as 64 bits can
abbrev pub after_line : Standing → Standing
after_line s = record s { lines = min (s.lines + 1) (2 ^ 64 - 1) }

-- ---- what is said of lines that are no posts

abbrev pub fault_words : Fault → List ℕ
fault_words fault.Client = codes "no such client"
fault_words fault.Length = codes "over 240 bytes"
fault_words fault.Byte = codes "a byte outside 0x20 to 0x7e"
fault_words fault.Limit = codes "beyond a limit of scripts"

-- of the line with this number
abbrev pub complaint : ℕ → Fault → List ℕ
complaint line why = codes "lwplive: line " ++ (decimal line ++ (codes ": " ++ (fault_words why ++ 10 ∷ [])))

-- ---- the whole input

-- what came of the lines so far: the posts, in order, and what was said of the others
pub record Heard : Type 0 where
  pub standing : Standing
  pub posts : List Arrival
  pub said : List ℕ

-- one line more, by what it is
abbrev pub heard_as : Heard → Result Arrival Fault → Heard
heard_as h (Ok a) = record h { standing = after_arrival (after_line h.standing) a; posts = h.posts ++ a ∷ [] }
heard_as h (Err why) = record h {
  standing = after_line h.standing;
  said = h.said ++ complaint (after_line h.standing).lines why;
}

-- one line more
abbrev pub heard_line : Heard → List ℕ → Heard
heard_line h line = heard_as h (judge h.standing line)

-- before the first line
abbrev pub nothing_heard : Standing → Heard
nothing_heard s = record { standing = s; posts = []; said = [] }

-- what comes of these lines
unfoldable pub heard_lines : Standing → List (List ℕ) → Heard
heard_lines s lines = fold heard_line (nothing_heard s) lines

-- the posts of an input
abbrev pub posts_of : Standing → List ℕ → List Arrival
posts_of s bytes = (heard_lines s (input_lines bytes)).posts

-- what is said of the lines of an input that are none
abbrev pub said_of : Standing → List ℕ → List ℕ
said_of s bytes = (heard_lines s (input_lines bytes)).said
