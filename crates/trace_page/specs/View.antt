-- What the program comes to, with all that it meets outside.
use Rattle.lwp_types.specs.Streams.{after_append}
use Rattle.std.specs.Fmt.{decimal}
use Rattle.std.specs.Prelude.{List, None, Option, Some, [], codes, ℕ, ◌++◌, ◌≡◌}
use Rattle.trace_page.specs.Page.{bad_line, calls_of, page, whole_lines}
use Rattle.trace_page.specs.Words.{window_in}
use Rattle.trace_page.specs.declared.showing.ViewEnd.{ViewEnd}
use Rattle.trace_page.specs.declared.showing.ViewEnd.TheVariants as end
use Rattle.trace_page.specs.declared.words.Range.{Range}
use Rattle.trace_page.specs.declared.words.Window.{Window}
use Rattle.streams.specs.Reading.{HasRead, IsReadPart}
use Rattle.streams.specs.Streams.{IsFaultless, IsFaulty, IsQuiet, Stream}
use Rattle.streams.specs.Writing.{AppendsPart}

-- the source was read to its end, and this holds of what it held
abbrev pub Says : Stream → (List ℕ → Type 0) → Type 0
Says source says = IsFaultless source × ((text : List ℕ) × HasRead source.old source.new text × says text)

-- the calls of a trace that are drawn
abbrev pub window_of : Range → List ℕ → Window
window_of range text = window_in range (calls_of (whole_lines text))

-- the page of these
abbrev pub page_of : Range → List ℕ → List ℕ
page_of range text = page (window_of range text).base (window_of range text).last (whole_lines text)

-- the page of a trace was written
abbrev pub IsShown : Range → Stream → List ℕ → Type 0
IsShown range sink text =
    (bad_line text ≡ None)
    × (sink.new ≡ after_append sink.old (page_of range text)) × IsFaultless sink

-- the first bytes of the page were written, and a write failed before the last
abbrev pub IsCut : Range → Stream → List ℕ → Type 0
IsCut range sink text =
    (bad_line text ≡ None)
    × AppendsPart sink.old sink.new (page_of range text) × IsFaulty sink

-- what each end says, where so many calls are asked for; out of memory is the one free answer, and no read or write
-- has failed then
abbrev pub EndSays : Range → Stream → Stream → ViewEnd → Type 0
EndSays range source sink end.Shown = Says source (IsShown range sink)
EndSays range source sink end.Usage = ⊥
EndSays range source sink end.ReadFault = IsFaulty source × IsReadPart source.old source.new × IsQuiet sink
EndSays range source sink end.WriteFault = Says source (IsCut range sink)
EndSays range source sink (end.Line n) = Says source (λ text. bad_line text ≡ Some n) × IsQuiet sink
EndSays range source sink end.NoMemory = IsFaultless source × IsReadPart source.old source.new × IsQuiet sink

-- the words are no command, and nothing was read or written
pub record IsUsage (source sink : Stream) (e : ViewEnd) : Type 0 where
  pub end : e ≡ end.Usage
  pub unread : source.new ≡ source.old
  pub faultless : IsFaultless source
  pub quiet : IsQuiet sink

-- what the program's words come to
abbrev pub ViewSays : Option Range → Stream → Stream → ViewEnd → Type 0
ViewSays None source sink e = IsUsage source sink e
ViewSays (Some range) source sink e = EndSays range source sink e

-- the status of an end
abbrev pub status_of : ViewEnd → ℕ
status_of end.Shown = 0
status_of end.Usage = 100
status_of end.ReadFault = 101
status_of end.WriteFault = 102
status_of (end.Line n) = 103
status_of end.NoMemory = 106

unfoldable pub line_front : List ℕ
line_front = codes "lwpview: trace line "

-- what is said of an end on standard error
abbrev pub fault_text : ViewEnd → List ℕ
fault_text end.Shown = []
fault_text end.Usage = codes "lwpview: usage: [FROM TO | --last N]\n"
fault_text end.ReadFault = codes "lwpview: read fault\n"
fault_text end.WriteFault = codes "lwpview: write fault\n"
fault_text (end.Line n) = line_front ++ (decimal n ++ codes "\n")
fault_text end.NoMemory = codes "lwpview: no memory\n"
