-- The text of what is drawn.
use Rattle.lwp_types.specs.Names.{null_id}
use Rattle.std.specs.Fmt.{decimal}
use Rattle.std.specs.List.{flat_map}
use Rattle.std.specs.Prelude.{Bool, List, [], codes, false, if◌then◌else◌, min, true, ℕ, ◌%◌, ◌*◌, ◌++◌, ◌+◌, ◌-◌, ◌==◌, ◌∷◌}
use Rattle.trace_lines.specs.declared.entry.Gain.{Gain}
use Rattle.trace_lines.specs.declared.entry.Gain.TheVariants as gain
use Rattle.trace_page.specs.Measures.{below_rows, call_width, due_gap, end_row, first_call, first_lane, foot, half_call}
use Rattle.trace_page.specs.Measures.{lane_height, middle, most_calls, most_lanes, outside_row, tick_spot}
use Rattle.trace_page.specs.Scene.{Seen, need_of, place}
use Rattle.trace_page.specs.Waits.{awaited, is_stuck}
use Rattle.trace_page.specs.declared.scene.Kind.{Kind}
use Rattle.trace_page.specs.declared.scene.Kind.TheVariants as kind
use Rattle.trace_page.specs.declared.scene.Lane.{Lane}
use Rattle.trace_page.specs.declared.scene.Moment.{Moment}
use Rattle.trace_page.specs.declared.scene.Need.{Need}
use Rattle.trace_page.specs.declared.scene.Need.TheVariants as need
use Rattle.trace_page.specs.declared.scene.Shape.{Shape}
use Rattle.trace_page.specs.declared.scene.Shape.TheVariants as shape
use Rattle.trace_page.specs.declared.scene.Span.{Span}
use Rattle.trace_page.specs.declared.scene.Way.{Way}
use Rattle.trace_page.specs.declared.scene.Way.TheVariants as way

-- ---- text of the trace

-- a byte that would begin or end something is written by its name
abbrev pub escaped_byte : ℕ → List ℕ
escaped_byte b = if b == 38 then codes "&amp;"
    else if b == 60 then codes "&lt;"
    else if b == 62 then codes "&gt;"
    else if b == 34 then codes "&quot;"
    else if b == 39 then codes "&#39;"
    else b ∷ []

-- a text of the trace, as it stands in the page
abbrev pub escaped_text : List ℕ → List ℕ
escaped_text text = flat_map (λ b. escaped_byte b) text

-- ---- places

unfoldable pub half : Bool → ℕ
half true = half_call
half false = 0

-- where a moment is, from the left
unfoldable pub x_of : Seen → Moment → ℕ
x_of s at = first_call + (call_width * min (at.call - s.base) most_calls + half at.late)

-- where a lane is, from above
unfoldable pub y_of : Seen → ℕ → ℕ
y_of s id = first_lane + lane_height * min (place id s.lanes) most_lanes

-- ---- elements

unfoldable pub use_open : List ℕ
use_open = codes "<use href='"

unfoldable pub sign_open : List ℕ → List ℕ
sign_open name = use_open ++ name

-- an element of this name and class begins
unfoldable pub class_text : List ℕ → List ℕ → List ℕ
class_text name class = codes "<" ++ (name ++ (codes " class='" ++ class))

-- another attribute follows, which is a number
unfoldable pub value_text : List ℕ → ℕ → List ℕ
value_text name n = codes "' " ++ (name ++ (codes "='" ++ decimal n))

-- a path begins here, and goes there
unfoldable pub move_text : ℕ → ℕ → List ℕ
move_text x y = codes "' d='M" ++ (decimal x ++ (codes " " ++ decimal y))

unfoldable pub line_text : ℕ → ℕ → List ℕ
line_text x y = codes "L" ++ (decimal x ++ (codes " " ++ decimal y))

-- the end of an element that has nothing inside
unfoldable pub element_closed : List ℕ
element_closed = codes "'/>"

unfoldable pub label_closed : List ℕ
label_closed = codes "</text>"

-- a sign of the page's head
unfoldable pub use_text : List ℕ → ℕ → ℕ → List ℕ
use_text sign x y = sign_open sign ++ (value_text (codes "x") x ++ (value_text (codes "y") y ++ element_closed))

unfoldable pub rect_text : List ℕ → ℕ → ℕ → ℕ → ℕ → List ℕ
rect_text class x y width height =
    class_text (codes "rect") class
    ++ (value_text (codes "x") x
    ++ (value_text (codes "y") y
    ++ (value_text (codes "width") width ++ (value_text (codes "height") height ++ element_closed))))

unfoldable pub path_text : List ℕ → ℕ → ℕ → ℕ → ℕ → List ℕ
path_text class x y to_x to_y = class_text (codes "path") class
    ++ (move_text x y ++ (line_text to_x to_y ++ element_closed))

-- a label, before its words
unfoldable pub label_text : List ℕ → ℕ → ℕ → List ℕ
label_text class x y = class_text (codes "text") class
    ++ (value_text (codes "x") x ++ (value_text (codes "y") y ++ codes "'>"))

-- ---- shapes

-- each tenth call has a rule down through all lanes
unfoldable pub rule_text : Seen → Moment → List ℕ
rule_text s at = if at.call % 10 == 0 then use_text (codes "#rule") (x_of s at) 0 else []

unfoldable pub tick_text : Seen → ℕ → Moment → List ℕ
tick_text s tid at = use_text (codes "#tick") (x_of s at) (y_of s tid) ++ rule_text s at

-- an answer is a dot, a refusal an exclamation mark, what is caught a hook
unfoldable pub sign_of : Gain → List ℕ
sign_of gain.Refused = codes "#refused"
sign_of gain.Caught = codes "#caught"
sign_of (gain.Value n) = codes "#answer"
sign_of (gain.Thread n) = codes "#answer"
sign_of (gain.Letter n) = codes "#answer"
sign_of gain.Reply = codes "#answer"
sign_of gain.Other = codes "#answer"

unfoldable pub said_text : Seen → ℕ → Moment → List ℕ
said_text s tid at = label_text (codes "said") (x_of s at) (y_of s tid) ++ (escaped_text s.words ++ label_closed)

-- what a call waits for
unfoldable pub wait_class : Need → List ℕ
wait_class need.Reply = codes "reply"
wait_class need.Letter = codes "letter"
wait_class need.Monitor = codes "monitor"
wait_class need.Condition = codes "condition"
wait_class need.Death = codes "death"
wait_class need.Clock = codes "sleep"
wait_class need.Nothing = codes "other"

unfoldable pub wait_text : Seen → Lane → Moment → List ℕ
wait_text s lane to = rect_text (wait_class (need_of lane.verb)) (x_of s lane.since)
    (y_of s lane.id + 4) (x_of s to - x_of s lane.since) 12

-- how far down the bar of a monitor is: below those that were acquired before, of which three show apart
unfoldable pub deep : ℕ → ℕ
deep level = 7 + 13 * min level 3

unfoldable pub tag_text : ℕ → ℕ → ℕ → List ℕ
tag_text x y mon = label_text (codes "tag") x y ++ (codes "m" ++ (decimal mon ++ label_closed))

unfoldable pub held_text : Seen → Span → Moment → List ℕ
held_text s span to =
    rect_text (codes "held") (x_of s span.since) (y_of s span.tid + deep span.level) (x_of s to - x_of s span.since) 12
    ++ tag_text (x_of s span.since + 3) (y_of s span.tid + deep span.level + 10) span.of

unfoldable pub band_text : Seen → List ℕ → ℕ → ℕ → Span → Moment → List ℕ
band_text s class down height span to =
    rect_text class (x_of s span.since) (y_of s span.tid + down) (x_of s to - x_of s span.since) height

unfoldable pub bar_text : Seen → Kind → Span → Moment → List ℕ
bar_text s kind.Life span to = band_text s (codes "life") 9 2 span to
bar_text s kind.Parked span to = band_text s (codes "suspended") 4 6 span to
bar_text s kind.Held span to = held_text s span to
bar_text s kind.Given span to = []

unfoldable pub way_class : Way → List ℕ
way_class way.Letter = codes "sent"
way_class way.Reply = codes "replied"
way_class way.Wake = codes "woken"
way_class way.Also = codes "event"
way_class way.Blocked = codes "blocked"
way_class way.Deadlock = codes "deadlock"

unfoldable pub arrow_text : Seen → Way → ℕ → Moment → ℕ → Moment → List ℕ
arrow_text s way from left to at =
    path_text (way_class way) (x_of s left) (y_of s from + middle) (x_of s at) (y_of s to + middle)

-- a client and the number of its line
unfoldable pub posted_text : ℕ → ℕ → List ℕ
posted_text client seq = decimal client ++ (codes ":" ++ decimal seq)

unfoldable pub posted_label : Seen → ℕ → ℕ → ℕ → Moment → List ℕ
posted_label s client seq nth at =
    label_text (codes "event") (x_of s at) (outside_row nth) ++ (posted_text client seq ++ label_closed)

unfoldable pub event_text : Seen → ℕ → ℕ → ℕ → Bool → ℕ → Moment → List ℕ
event_text s client seq nth told agent at =
    (if told then posted_label s client seq nth at else [])
    ++ path_text (codes "event") (x_of s at) below_rows (x_of s at) (y_of s agent + middle)

-- a trap comes from above
unfoldable pub trap_text : Seen → ℕ → Moment → List ℕ
trap_text s tid at = path_text (codes "woken") (x_of s at) below_rows (x_of s at) (y_of s tid + middle)

-- a tick has its number above, and a rule from there down through all lanes
unfoldable pub clock_label : Seen → ℕ → ℕ → Moment → List ℕ
clock_label s now nth at = label_text (codes "clock") (x_of s at) (outside_row nth) ++ (decimal now ++ label_closed)

unfoldable pub clock_text : Seen → ℕ → ℕ → Bool → Moment → List ℕ
clock_text s now nth told at =
    (if told then clock_label s now nth at else []) ++ use_text (codes "#clock") (x_of s at) tick_spot

unfoldable pub closing_text : Seen → List ℕ → ℕ → Moment → List ℕ
closing_text s line nth at = label_text (codes "end") (x_of s at + due_gap) (end_row nth)
    ++ (escaped_text line ++ label_closed)

-- what it waits for, in words
unfoldable pub wanted_text : Need → List ℕ
wanted_text need.Reply = codes "a reply"
wanted_text need.Letter = codes "a letter"
wanted_text need.Monitor = codes "monitor"
wanted_text need.Condition = codes "condition"
wanted_text need.Death = codes "the death"
wanted_text need.Clock = codes "the clock"
wanted_text need.Nothing = codes "nothing"

-- the letter of what it names
unfoldable pub letter_text : Need → List ℕ
letter_text need.Monitor = codes " m"
letter_text need.Condition = codes " c"
letter_text need.Reply = codes " of t"
letter_text need.Letter = codes " of t"
letter_text need.Death = codes " of t"
letter_text need.Clock = codes " "
letter_text need.Nothing = codes " "

unfoldable pub named_text : Need → ℕ → List ℕ
named_text need target = if target == null_id then [] else letter_text need ++ decimal target

-- who holds a monitor, where somebody does
unfoldable pub held_words : Need → ℕ → List ℕ
held_words need.Monitor by = if by == null_id then [] else codes ", held by t" ++ decimal by
held_words need.Condition by = []
held_words need.Reply by = []
held_words need.Letter by = []
held_words need.Death by = []
held_words need.Clock by = []
held_words need.Nothing by = []

-- what a thread waits for: the kind of it, what the call names, and who has it
unfoldable pub waits_text : Need → ℕ → ℕ → List ℕ
waits_text need target by = codes "waits for " ++ (wanted_text need ++ (named_text need target ++ held_words need by))

-- what a lane waits for
abbrev pub lane_waits : Seen → Lane → List ℕ
lane_waits s lane = waits_text (need_of lane.verb) lane.target (awaited s.spans lane)

-- a thread of a cycle is drawn in red, and no other: a server may wait for a letter when all is told
unfoldable pub due_class : Bool → List ℕ
due_class true = codes "due"
due_class false = codes "idle"

unfoldable pub due_text : Seen → Lane → Moment → List ℕ
due_text s lane at = label_text (due_class (is_stuck lane.id s.hops)) (x_of s at + due_gap) (y_of s lane.id + foot)
    ++ (lane_waits s lane ++ label_closed)

-- a shape of a line
unfoldable pub shape_text : Seen → List ℕ → Shape → List ℕ
shape_text s line (shape.Tick tid at) = tick_text s tid at
shape_text s line (shape.Answer tid g at) = use_text (sign_of g) (x_of s at) (y_of s tid)
shape_text s line (shape.Said tid at) = said_text s tid at
shape_text s line (shape.Wait lane to) = wait_text s lane to
shape_text s line (shape.Bar span to) = bar_text s span.kind span to
shape_text s line (shape.Arrow way from left to at) = arrow_text s way from left to at
shape_text s line (shape.Exit tid at) = use_text (codes "#exit") (x_of s at) (y_of s tid)
shape_text s line (shape.Death tid at) = use_text (codes "#death") (x_of s at) (y_of s tid)
shape_text s line (shape.Event client seq nth told agent at) = event_text s client seq nth told agent at
shape_text s line (shape.Clock now nth told at) = clock_text s now nth told at
shape_text s line (shape.Trap tid at) = trap_text s tid at
shape_text s line (shape.Closing nth at) = closing_text s line nth at
shape_text s line (shape.Due lane at) = due_text s lane at

abbrev pub shapes_text : Seen → List ℕ → List Shape → List ℕ
shapes_text s line shapes = flat_map (λ shape. shape_text s line shape) shapes

-- a line as a title
unfoldable pub title_text : List ℕ → List ℕ
title_text line = codes "<title>" ++ (escaped_text line ++ codes "</title>")

unfoldable pub group_open : List ℕ
group_open = codes "<g>"

unfoldable pub group_closed : List ℕ
group_closed = codes "</g>\n"

-- all that is drawn for a line, with the line as its title
unfoldable pub group_text : Seen → List ℕ → List ℕ
group_text s line = group_open ++ (title_text line ++ (shapes_text s line s.shapes ++ group_closed))
