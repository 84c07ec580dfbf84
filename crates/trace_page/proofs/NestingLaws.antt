-- The elements of a page are closed: what each of its parts makes of a reader.
use Rattle.lwp_types.specs.Names.{null_id}
use Rattle.std.proofs.Common.{Bool, List, [], ap, eqb, false, refl, suc, true, zero, ℕ, ◌%◌, ◌++◌, ◌+◌, ◌∷◌, ◌≡◌}
use Rattle.trace_lines.specs.declared.entry.Gain.{Gain}
use Rattle.trace_lines.specs.declared.entry.Gain.TheVariants as gain
use Rattle.std.specs.Fmt.{decimal}
use Rattle.std.specs.List.{list_all}
use Rattle.std.specs.Prelude.{IsTrue, codes}
use Rattle.trace_page.proofs.Readings.{Brings, Keeps, Plain, both, in_value, keeps_each, keeps_either, none, number, on, text_keeps}
use Rattle.trace_page.proofs.TitleLaws.{texts_are_plain}
use Rattle.trace_page.specs.Frame.{around, beyond, colours, end_text, event_open, event_words, head, head_key, head_style, height_of, hop_front, hop_text}
use Rattle.trace_page.specs.Frame.{height_open, key_marks, key_waits, layout, marks, more_closed, more_open, more_text, name_closed, name_text, name_words}
use Rattle.trace_page.specs.Frame.{names_closed, names_open, names_text, number_text, numbers_closed, numbers_open, numbers_text, page_closed, paper_open}
use Rattle.trace_page.specs.Frame.{patterns, procedure_of, procedure_words, script, sheet_closed, sheet_open, sheet_text, sheet_turned, signs, size_closed}
use Rattle.trace_page.specs.Frame.{size_open, size_text, strip_closed, strip_open, strip_text, stuck_between, stuck_closed, stuck_open, stuck_text}
use Rattle.trace_page.specs.Frame.{tail, tenth, tenths, wait_front, wait_line, waits, ways, width_of}
use Rattle.trace_page.specs.Frame as frame
use Rattle.trace_page.specs.Nesting.{Outside, Quoted, after_byte, at, is_closed, is_nested, read_on}
use Rattle.trace_page.specs.Page.{after_line, after_lines, group_if_shown, groups, page}
use Rattle.trace_page.specs.Scene.{Seen, need_of, opening}
use Rattle.trace_page.specs.Shapes.{arrow_text, band_text, bar_text, class_text, clock_label, clock_text, closing_text, due_class, due_text, element_closed}
use Rattle.trace_page.specs.Shapes.{escaped_text, event_text, group_closed, group_open, group_text, held_text, held_words, label_closed, label_text}
use Rattle.trace_page.specs.Shapes.{lane_waits, letter_text, line_text, move_text, named_text, path_text, posted_label, posted_text, rect_text, rule_text}
use Rattle.trace_page.specs.Shapes.{said_text, shape_text, shapes_text, sign_of, sign_open, tag_text, tick_text, title_text, trap_text, use_open, use_text}
use Rattle.trace_page.specs.Shapes.{value_text, wait_class, wait_text, waits_text, wanted_text, way_class, x_of, y_of}
use Rattle.trace_page.specs.Steps.{after_finish, is_due, is_shown}
use Rattle.trace_page.specs.Titles.{is_plain}
use Rattle.trace_page.specs.Waits.{awaited, each_from, is_stuck}
use Rattle.trace_page.specs.declared.scene.Hop.{Hop}
use Rattle.trace_page.specs.declared.scene.Kind.{Kind}
use Rattle.trace_page.specs.declared.scene.Kind.TheVariants as kind
use Rattle.trace_page.specs.declared.scene.Lane.{Lane}
use Rattle.trace_page.specs.declared.scene.Moment.{Moment}
use Rattle.trace_page.specs.declared.scene.Need.{Need}
use Rattle.trace_page.specs.declared.scene.Need.TheVariants as need
use Rattle.trace_page.specs.declared.scene.Shape.{Shape}
use Rattle.trace_page.specs.declared.scene.Shape.TheVariants as shape
use Rattle.trace_page.specs.declared.scene.Span.{Span}
use Rattle.trace_page.specs.declared.scene.Way.{Way}
use Rattle.trace_page.specs.declared.scene.Way.TheVariants as way

-- ---- the parts of an element that has nothing inside

-- these bytes begin an element of this name, up to a value of its first attribute
record Begins (name bytes : List ℕ) : Type 0 where
  begins : (names : List (List ℕ)) → Brings (at Outside names) bytes (at (Quoted 39) (name ∷ names))

-- these end a value and begin another
record Goes (bytes : List ℕ) : Type 0 where
  goes : (names : List (List ℕ)) → Brings (at (Quoted 39) names) bytes (at (Quoted 39) names)

behind_front : {name front text : List ℕ} → Begins name front → Plain text → Begins name (front ++ text)
behind_front h k = record { begins = λ names. on (h.begins names) (in_value k) }

behind_name : {front text : List ℕ} → Goes front → Plain text → Goes (front ++ text)
behind_name h k = record { goes = λ names. on (h.goes names) (in_value k) }

further : {front back : List ℕ} → Goes front → Goes back → Goes (front ++ back)
further h k = record { goes = λ names. on (h.goes names) (k.goes names) }

sign_begins : {sign : List ℕ} → Plain sign → Begins (codes "use") (sign_open sign)
unfolding after_byte read_on sign_open use_open
sign_begins plain = behind_front {front = codes "<use href='"} (record { begins = λ names. record { so = refl } }) plain

rect_begins : {class : List ℕ} → Plain class → Begins (codes "rect") (class_text (codes "rect") class)
unfolding after_byte read_on class_text
rect_begins plain = behind_front {front = codes "<rect class='"} (record { begins = λ names. record { so = refl } }) plain

path_begins : {class : List ℕ} → Plain class → Begins (codes "path") (class_text (codes "path") class)
unfolding after_byte read_on class_text
path_begins plain = behind_front {front = codes "<path class='"} (record { begins = λ names. record { so = refl } }) plain

label_begins : {class : List ℕ} → Plain class → Begins (codes "text") (class_text (codes "text") class)
unfolding after_byte read_on class_text
label_begins plain = behind_front {front = codes "<text class='"} (record { begins = λ names. record { so = refl } }) plain

x_goes : (x : ℕ) → Goes (value_text (codes "x") x)
unfolding after_byte read_on value_text
x_goes x = behind_name {front = codes "' x='"} (record { goes = λ names. record { so = refl } }) (number x)

y_goes : (y : ℕ) → Goes (value_text (codes "y") y)
unfolding after_byte read_on value_text
y_goes y = behind_name {front = codes "' y='"} (record { goes = λ names. record { so = refl } }) (number y)

width_goes : (width : ℕ) → Goes (value_text (codes "width") width)
unfolding after_byte read_on value_text
width_goes width = behind_name {front = codes "' width='"} (record { goes = λ names. record { so = refl } }) (number width)

height_goes : (height : ℕ) → Goes (value_text (codes "height") height)
unfolding after_byte read_on value_text
height_goes height = behind_name {front = codes "' height='"} (record { goes = λ names. record { so = refl } }) (number height)

digits_go : (n : ℕ) → Goes (decimal n)
digits_go n = record { goes = λ names. in_value (number n) }

move_goes : (x y : ℕ) → Goes (move_text x y)
unfolding after_byte read_on move_text
move_goes x y = further {front = codes "' d='M"} (record { goes = λ names. record { so = refl } })
    (further (digits_go x) (further {front = codes " "} (record { goes = λ names. record { so = refl } }) (digits_go y)))

line_goes : (x y : ℕ) → Goes (line_text x y)
unfolding after_byte read_on line_text
line_goes x y = further {front = codes "L"} (record { goes = λ names. record { so = refl } })
    (further (digits_go x) (further {front = codes " "} (record { goes = λ names. record { so = refl } }) (digits_go y)))

closes : (name : List ℕ) (names : List (List ℕ)) → Brings (at (Quoted 39) (name ∷ names)) element_closed (at Outside names)
unfolding after_byte read_on element_closed
closes name names = record { so = refl }

-- ---- elements

use_keeps : {sign : List ℕ} → Plain sign → (x y : ℕ) → Keeps (use_text sign x y)
unfolding use_text
use_keeps plain x y = record {
  keeps = λ names.
      let inside : List (List ℕ) = codes "use" ∷ names in
      on ((sign_begins plain).begins names) (on ((x_goes x).goes inside) (on ((y_goes y).goes inside) (closes (codes "use") names)));
}

rect_keeps : {class : List ℕ} → Plain class → (x y width height : ℕ) → Keeps (rect_text class x y width height)
unfolding rect_text
rect_keeps plain x y width height = record {
  keeps = λ names.
      let inside : List (List ℕ) = codes "rect" ∷ names in
      on ((rect_begins plain).begins names) (on ((x_goes x).goes inside)
      (on ((y_goes y).goes inside) (on ((width_goes width).goes inside) (on ((height_goes height).goes inside) (closes (codes "rect") names)))));
}

path_keeps : {class : List ℕ} → Plain class → (x y to_x to_y : ℕ) → Keeps (path_text class x y to_x to_y)
unfolding path_text
path_keeps plain x y to_x to_y = record {
  keeps = λ names.
      let inside : List (List ℕ) = codes "path" ∷ names in
      on ((path_begins plain).begins names) (on ((move_goes x y).goes inside) (on ((line_goes to_x to_y).goes inside) (closes (codes "path") names)));
}

-- a label is open after its front
label_opens : {class : List ℕ} → Plain class → (x y : ℕ) (names : List (List ℕ))
    → Brings (at Outside names) (label_text class x y) (at Outside (codes "text" ∷ names))
unfolding after_byte read_on label_text
label_opens plain x y names =
    let inside : List (List ℕ) = codes "text" ∷ names in
    on ((label_begins plain).begins names) (on ((x_goes x).goes inside) (on ((y_goes y).goes inside) (record { so = refl })))

label_closes : (names : List (List ℕ)) → Brings (at Outside (codes "text" ∷ names)) label_closed (at Outside names)
unfolding after_byte read_on label_closed
label_closes names = record { so = refl }

label_keeps : {class words : List ℕ} → Plain class → (x y : ℕ) → Keeps words → Keeps (label_text class x y ++ (words ++ label_closed))
label_keeps plain x y words = record { keeps = λ names. on (label_opens plain x y names) (on (words.keeps (codes "text" ∷ names)) (label_closes names)) }

-- ---- shapes

-- plain words keep a reader
words : (text : List ℕ) → list_all is_plain text ≡ true → Keeps text
words text h = text_keeps (record { plain = h })

line_keeps : (text : List ℕ) → Keeps (escaped_text text)
line_keeps text = text_keeps (record { plain = texts_are_plain text })

number_keeps : (n : ℕ) → Keeps (decimal n)
number_keeps n = text_keeps (number n)

rule_keeps : (s : Seen) (at : Moment) → Keeps (rule_text s at)
unfolding rule_text
rule_keeps s at = keeps_either (eqb (at.call % 10) 0) (use_keeps (record { plain = refl }) (x_of s at) 0) none

tick_keeps : (s : Seen) (tid : ℕ) (at : Moment) → Keeps (tick_text s tid at)
unfolding tick_text
tick_keeps s tid at = both (use_keeps (record { plain = refl }) (x_of s at) (y_of s tid)) (rule_keeps s at)

sign_is_plain : (g : Gain) → Plain (sign_of g)
unfolding sign_of
sign_is_plain gain.Refused = record { plain = refl }
sign_is_plain gain.Caught = record { plain = refl }
sign_is_plain (gain.Value n) = record { plain = refl }
sign_is_plain (gain.Thread n) = record { plain = refl }
sign_is_plain (gain.Letter n) = record { plain = refl }
sign_is_plain gain.Reply = record { plain = refl }
sign_is_plain gain.Other = record { plain = refl }

said_keeps : (s : Seen) (tid : ℕ) (at : Moment) → Keeps (said_text s tid at)
unfolding said_text
said_keeps s tid at = label_keeps (record { plain = refl }) _ _ (line_keeps s.words)

wait_is_plain : (n : Need) → Plain (wait_class n)
unfolding wait_class
wait_is_plain need.Reply = record { plain = refl }
wait_is_plain need.Letter = record { plain = refl }
wait_is_plain need.Monitor = record { plain = refl }
wait_is_plain need.Condition = record { plain = refl }
wait_is_plain need.Death = record { plain = refl }
wait_is_plain need.Clock = record { plain = refl }
wait_is_plain need.Nothing = record { plain = refl }

wait_keeps : (s : Seen) (lane : Lane) (to : Moment) → Keeps (wait_text s lane to)
unfolding wait_text
wait_keeps s lane to = rect_keeps (wait_is_plain (need_of lane.verb)) _ _ _ _

tag_keeps : (x y mon : ℕ) → Keeps (tag_text x y mon)
unfolding tag_text
tag_keeps x y mon = record {
  keeps = λ names.
      on (label_opens (record { plain = refl }) x y names) (on ((words (codes "m") refl).keeps _) (on ((number_keeps mon).keeps _) (label_closes names)));
}

held_keeps : (s : Seen) (span : Span) (to : Moment) → Keeps (held_text s span to)
unfolding held_text
held_keeps s span to = both (rect_keeps (record { plain = refl }) _ _ _ _) (tag_keeps _ _ _)

band_keeps : (s : Seen) {class : List ℕ} → Plain class → (down height : ℕ) (span : Span) (to : Moment) → Keeps (band_text s class down height span to)
unfolding band_text
band_keeps s plain down height span to = rect_keeps plain _ _ _ _

bar_keeps : (s : Seen) (k : Kind) (span : Span) (to : Moment) → Keeps (bar_text s k span to)
unfolding bar_text
bar_keeps s kind.Life span to = band_keeps s (record { plain = refl }) 9 2 span to
bar_keeps s kind.Parked span to = band_keeps s (record { plain = refl }) 4 6 span to
bar_keeps s kind.Held span to = held_keeps s span to
bar_keeps s kind.Given span to = none

way_is_plain : (w : Way) → Plain (way_class w)
unfolding way_class
way_is_plain way.Letter = record { plain = refl }
way_is_plain way.Reply = record { plain = refl }
way_is_plain way.Wake = record { plain = refl }
way_is_plain way.Also = record { plain = refl }
way_is_plain way.Blocked = record { plain = refl }
way_is_plain way.Deadlock = record { plain = refl }

arrow_keeps : (s : Seen) (w : Way) (from : ℕ) (left : Moment) (to : ℕ) (at : Moment) → Keeps (arrow_text s w from left to at)
unfolding arrow_text
arrow_keeps s w from left to at = path_keeps (way_is_plain w) _ _ _ _

posted_keeps : (client seq : ℕ) → Keeps (posted_text client seq)
unfolding posted_text
posted_keeps client seq = both (number_keeps client) (both (words (codes ":") refl) (number_keeps seq))

posted_label_keeps : (s : Seen) (client seq nth : ℕ) (at : Moment) → Keeps (posted_label s client seq nth at)
unfolding posted_label
posted_label_keeps s client seq nth at = label_keeps (record { plain = refl }) _ _ (posted_keeps client seq)

event_keeps : (s : Seen) (client seq nth : ℕ) (told : Bool) (agent : ℕ) (at : Moment) → Keeps (event_text s client seq nth told agent at)
unfolding event_text
event_keeps s client seq nth told agent at =
    both (keeps_either told (posted_label_keeps s client seq nth at) none) (path_keeps (record { plain = refl }) _ _ _ _)

clock_label_keeps : (s : Seen) (now nth : ℕ) (at : Moment) → Keeps (clock_label s now nth at)
unfolding clock_label
clock_label_keeps s now nth at = label_keeps (record { plain = refl }) _ _ (number_keeps now)

clock_keeps : (s : Seen) (now nth : ℕ) (told : Bool) (at : Moment) → Keeps (clock_text s now nth told at)
unfolding clock_text
clock_keeps s now nth told at = both (keeps_either told (clock_label_keeps s now nth at) none) (use_keeps (record { plain = refl }) _ _)

trap_keeps : (s : Seen) (tid : ℕ) (at : Moment) → Keeps (trap_text s tid at)
unfolding trap_text
trap_keeps s tid at = path_keeps (record { plain = refl }) _ _ _ _

closing_keeps : (s : Seen) (line : List ℕ) (nth : ℕ) (at : Moment) → Keeps (closing_text s line nth at)
unfolding closing_text
closing_keeps s line nth at = label_keeps (record { plain = refl }) _ _ (line_keeps line)

wanted_keeps : (n : Need) → Keeps (wanted_text n)
unfolding wanted_text
wanted_keeps need.Reply = text_keeps (record { plain = refl })
wanted_keeps need.Letter = text_keeps (record { plain = refl })
wanted_keeps need.Monitor = text_keeps (record { plain = refl })
wanted_keeps need.Condition = text_keeps (record { plain = refl })
wanted_keeps need.Death = text_keeps (record { plain = refl })
wanted_keeps need.Clock = text_keeps (record { plain = refl })
wanted_keeps need.Nothing = text_keeps (record { plain = refl })

letter_keeps : (n : Need) → Keeps (letter_text n)
unfolding letter_text
letter_keeps need.Reply = text_keeps (record { plain = refl })
letter_keeps need.Letter = text_keeps (record { plain = refl })
letter_keeps need.Monitor = text_keeps (record { plain = refl })
letter_keeps need.Condition = text_keeps (record { plain = refl })
letter_keeps need.Death = text_keeps (record { plain = refl })
letter_keeps need.Clock = text_keeps (record { plain = refl })
letter_keeps need.Nothing = text_keeps (record { plain = refl })

named_keeps : (n : Need) (target : ℕ) → Keeps (named_text n target)
unfolding named_text
named_keeps n target = keeps_either (eqb target null_id) none (both (letter_keeps n) (number_keeps target))

held_words_keep : (n : Need) (by : ℕ) → Keeps (held_words n by)
unfolding held_words
held_words_keep need.Monitor by = keeps_either (eqb by null_id) none (both (words (codes ", held by t") refl) (number_keeps by))
held_words_keep need.Reply by = none
held_words_keep need.Letter by = none
held_words_keep need.Condition by = none
held_words_keep need.Death by = none
held_words_keep need.Clock by = none
held_words_keep need.Nothing by = none

waits_keep : (n : Need) (target by : ℕ) → Keeps (waits_text n target by)
unfolding waits_text
waits_keep n target by = both (words (codes "waits for ") refl) (both (wanted_keeps n) (both (named_keeps n target) (held_words_keep n by)))

lane_waits_keep : (s : Seen) (lane : Lane) → Keeps (lane_waits s lane)
lane_waits_keep s lane = waits_keep (need_of lane.verb) lane.target (awaited s.spans lane)

due_is_plain : (stuck : Bool) → Plain (due_class stuck)
unfolding due_class
due_is_plain true = record { plain = refl }
due_is_plain false = record { plain = refl }

due_keeps : (s : Seen) (lane : Lane) (at : Moment) → Keeps (due_text s lane at)
unfolding due_text
due_keeps s lane at = label_keeps (due_is_plain (is_stuck lane.id s.hops)) _ _ (lane_waits_keep s lane)

shape_keeps : (s : Seen) (line : List ℕ) (x : Shape) → Keeps (shape_text s line x)
unfolding shape_text
shape_keeps s line (shape.Tick tid at) = tick_keeps s tid at
shape_keeps s line (shape.Answer tid g at) = use_keeps (sign_is_plain g) _ _
shape_keeps s line (shape.Said tid at) = said_keeps s tid at
shape_keeps s line (shape.Wait lane to) = wait_keeps s lane to
shape_keeps s line (shape.Bar span to) = bar_keeps s span.kind span to
shape_keeps s line (shape.Arrow way from left to at) = arrow_keeps s way from left to at
shape_keeps s line (shape.Exit tid at) = use_keeps (record { plain = refl }) _ _
shape_keeps s line (shape.Death tid at) = use_keeps (record { plain = refl }) _ _
shape_keeps s line (shape.Event client seq nth told agent at) = event_keeps s client seq nth told agent at
shape_keeps s line (shape.Clock now nth told at) = clock_keeps s now nth told at
shape_keeps s line (shape.Trap tid at) = trap_keeps s tid at
shape_keeps s line (shape.Closing nth at) = closing_keeps s line nth at
shape_keeps s line (shape.Due lane at) = due_keeps s lane at

shapes_keep : (s : Seen) (line : List ℕ) (xs : List Shape) → Keeps (shapes_text s line xs)
shapes_keep s line xs = keeps_each (λ x. shape_text s line x) (shape_keeps s line) xs

-- ---- groups

title_keeps : (line : List ℕ) → Keeps (title_text line)
unfolding after_byte read_on title_text
title_keeps line = record {
  keeps = λ names.
      on {via = at Outside (codes "title" ∷ names)} {xs = codes "<title>"} (record { so = refl })
      (on {ys = codes "</title>"} ((line_keeps line).keeps _) (record { so = refl }));
}

group_opens : (names : List (List ℕ)) → Brings (at Outside names) group_open (at Outside (codes "g" ∷ names))
unfolding after_byte read_on group_open
group_opens names = record { so = refl }

group_closes : (names : List (List ℕ)) → Brings (at Outside (codes "g" ∷ names)) group_closed (at Outside names)
unfolding after_byte read_on group_closed
group_closes names = record { so = refl }

group_keeps : (s : Seen) (line : List ℕ) → Keeps (group_text s line)
unfolding group_text
group_keeps s line = record {
  keeps = λ names. on (group_opens names) (on ((title_keeps line).keeps _) (on ((shapes_keep s line s.shapes).keeps _) (group_closes names)));
}

shown_keeps : (s : Seen) (line : List ℕ) → Keeps (group_if_shown s line)
unfolding group_if_shown
shown_keeps s line = keeps_either (is_shown s) (group_keeps s line) none

groups_keep : (s : Seen) (lines : List (List ℕ)) → Keeps (groups s lines)
groups_keep s [] = none
groups_keep s (l ∷ ls) = both (shown_keeps (after_line l s) l) (groups_keep (after_line l s) ls)

-- ---- around the picture

-- the elements that are open in the page's style, in its body, and where the picture is drawn
abbrev in_style : List (List ℕ)
in_style = codes "style" ∷ codes "head" ∷ codes "html" ∷ []

abbrev in_body : List (List ℕ)
in_body = codes "body" ∷ codes "html" ∷ []

abbrev in_page : List (List ℕ)
in_page = codes "div" ∷ in_body

abbrev in_picture : List (List ℕ)
in_picture = codes "g" ∷ codes "svg" ∷ in_page

opening_brings : Brings (at Outside []) frame.opening (at Outside in_style)
unfolding after_byte read_on frame.opening
opening_brings = record { so = refl }

colours_keep : Keeps colours
unfolding colours
colours_keep = text_keeps (record { plain = refl })

layout_keeps : Keeps layout
unfolding layout
layout_keeps = text_keeps (record { plain = refl })

marks_keep : Keeps marks
unfolding marks
marks_keep = text_keeps (record { plain = refl })

waits_style_keeps : Keeps waits
unfolding waits
waits_style_keeps = text_keeps (record { plain = refl })

ways_bring : Brings (at Outside in_style) ways (at Outside in_body)
unfolding after_byte read_on ways
ways_bring = record { so = refl }

-- the legend, and the definitions in it
abbrev in_key : List (List ℕ)
in_key = codes "svg" ∷ in_body

patterns_bring : Brings (at Outside in_body) patterns (at Outside (codes "defs" ∷ in_key))
unfolding after_byte read_on patterns
patterns_bring = record { so = refl }

signs_bring : Brings (at Outside (codes "defs" ∷ in_key)) signs (at Outside in_key)
unfolding after_byte read_on signs
signs_bring = record { so = refl }

key_waits_bring : Brings (at Outside in_key) key_waits (at Outside in_key)
unfolding after_byte read_on key_waits
key_waits_bring = record { so = refl }

key_marks_bring : Brings (at Outside in_key) key_marks (at Outside in_picture)
unfolding after_byte read_on key_marks
key_marks_bring = record { so = refl }

head_brings : Brings (at Outside []) head (at Outside in_picture)
unfolding head head_style head_key
head_brings =
    on (on opening_brings (on (colours_keep.keeps _) (on (layout_keeps.keeps _) (on (marks_keep.keeps _) (on (waits_style_keeps.keeps _) ways_bring)))))
    (on patterns_bring (on signs_bring (on key_waits_bring key_marks_bring)))

event_open_keeps : Keeps event_open
unfolding event_open
event_open_keeps = text_keeps (record { plain = refl })

event_words_keep : (event : ℕ) → Keeps (event_words event)
unfolding event_words
event_words_keep event = keeps_either (eqb event 0) none (both event_open_keeps (number_keeps event))

procedure_words_keep : (name : List ℕ) → Keeps (procedure_words name)
unfolding procedure_words
procedure_words_keep [] = none
procedure_words_keep (b ∷ bs) = both (words (codes " ") refl) (line_keeps (b ∷ bs))

name_words_keep : (s : Seen) (lane : Lane) → Keeps (name_words s lane)
unfolding name_words
name_words_keep s lane =
    both (words (codes "t") refl) (both (number_keeps lane.id) (both (event_words_keep lane.event) (procedure_words_keep (procedure_of lane.id s.names))))

name_closes : (names : List (List ℕ)) → Brings (at Outside (codes "text" ∷ names)) name_closed (at Outside names)
unfolding after_byte read_on name_closed
name_closes names = record { so = refl }

name_keeps : (s : Seen) (lane : Lane) → Keeps (name_text s lane)
unfolding name_text
name_keeps s lane = record { keeps = λ names. on (label_opens (record { plain = refl }) _ _ names) (on ((name_words_keep s lane).keeps _) (name_closes names)) }

names_open_brings : Brings (at Outside in_picture) names_open (at Outside in_picture)
unfolding after_byte read_on names_open
names_open_brings = record { so = refl }

names_closed_brings : Brings (at Outside in_picture) names_closed (at Outside in_page)
unfolding after_byte read_on names_closed
names_closed_brings = record { so = refl }

names_bring : (s : Seen) → Brings (at Outside in_picture) (names_text s) (at Outside in_page)
unfolding names_text
names_bring s = on names_open_brings (on ((keeps_each (λ lane. name_text s lane) (name_keeps s) s.lanes).keeps _) names_closed_brings)

each_keeps : (f : ℕ → List ℕ) → ((n : ℕ) → Keeps (f n)) → (n count : ℕ) → Keeps (each_from f n count)
each_keeps f h n zero = none
each_keeps f h n (suc count) = both (h n) (each_keeps f h (n + 1) count)

call_number_keeps : (s : Seen) (n : ℕ) → Keeps (number_text s n)
unfolding number_text
call_number_keeps s n = record {
  keeps = λ names. on (label_opens (record { plain = refl }) _ _ names) (on ((number_keeps (tenth s n)).keeps _) (name_closes names));
}

numbers_open_brings : Brings (at Outside in_page) numbers_open (at Outside in_picture)
unfolding after_byte read_on numbers_open
numbers_open_brings = record { so = refl }

numbers_closed_brings : Brings (at Outside in_picture) numbers_closed (at Outside in_body)
unfolding after_byte read_on numbers_closed
numbers_closed_brings = record { so = refl }

numbers_bring : (s : Seen) → Brings (at Outside in_page) (numbers_text s) (at Outside in_body)
unfolding numbers_text
numbers_bring s = on numbers_open_brings (on ((each_keeps (number_text s) (call_number_keeps s) 0 (tenths s)).keeps _) numbers_closed_brings)

-- the strip
strip_opens : (names : List (List ℕ)) → Brings (at Outside names) strip_open (at (Quoted 39) (codes "svg" ∷ names))
unfolding after_byte read_on strip_open
strip_opens names = record { so = refl }

strip_closes : (names : List (List ℕ)) → Brings (at (Quoted 39) (codes "svg" ∷ names)) strip_closed (at Outside names)
unfolding after_byte read_on strip_closed
strip_closes names = record { so = refl }

space_goes : Goes (codes " ")
unfolding after_byte read_on
space_goes = record { goes = λ names. record { so = refl } }

strip_keeps : (s : Seen) → Keeps (strip_text s)
unfolding strip_text
strip_keeps s = record {
  keeps = λ names.
      let inside : List (List ℕ) = codes "svg" ∷ names in
      on (strip_opens names) (on ((digits_go (width_of s)).goes inside)
      (on (space_goes.goes inside) (on ((digits_go (height_of s)).goes inside) (strip_closes names))));
}

-- the sheet
sheet_opens : (names : List (List ℕ)) → Brings (at Outside names) sheet_open (at (Quoted 39) (codes "svg" ∷ names))
unfolding after_byte read_on sheet_open
sheet_opens names = record { so = refl }

sheet_turns : (names : List (List ℕ)) → Brings (at (Quoted 39) (codes "svg" ∷ names)) sheet_turned (at (Quoted 39) (codes "g" ∷ codes "svg" ∷ names))
unfolding after_byte read_on sheet_turned
sheet_turns names = record { so = refl }

sheet_closes : (names : List (List ℕ)) → Brings (at (Quoted 39) (codes "g" ∷ codes "svg" ∷ names)) sheet_closed (at Outside names)
unfolding after_byte read_on sheet_closed
sheet_closes names = record { so = refl }

sheet_keeps : (s : Seen) → Keeps (sheet_text s)
unfolding sheet_text
sheet_keeps s = record {
  keeps = λ names.
      let inside : List (List ℕ) = codes "svg" ∷ names in
      on (sheet_opens names) (on ((digits_go (height_of s)).goes inside) (on (space_goes.goes inside) (on ((digits_go (width_of s + 150)).goes inside)
      (on (sheet_turns names) (on ((digits_go (height_of s)).goes (codes "g" ∷ inside)) (sheet_closes names))))));
}

-- the script
script_keeps : (names : List (List ℕ)) → Brings (at Outside names) script (at Outside names)
unfolding after_byte read_on script
script_keeps names = record { so = refl }

-- the size stands in a style of its own
size_opens : Brings (at Outside in_body) size_open (at Outside (codes "style" ∷ in_body))
unfolding after_byte read_on size_open
size_opens = record { so = refl }

height_open_keeps : Keeps height_open
unfolding height_open
height_open_keeps = text_keeps (record { plain = refl })

paper_open_keeps : Keeps paper_open
unfolding paper_open
paper_open_keeps = text_keeps (record { plain = refl })

size_closes : Brings (at Outside (codes "style" ∷ in_body)) size_closed (at Outside in_body)
unfolding after_byte read_on size_closed
size_closes = record { so = refl }

size_brings : (s : Seen) → Brings (at Outside in_body) (size_text s) (at Outside in_body)
unfolding size_text
size_brings s = on size_opens (on ((number_keeps _).keeps _)
    (on (height_open_keeps.keeps _) (on ((number_keeps _).keeps _) (on (paper_open_keeps.keeps _) (on ((number_keeps _).keeps _) size_closes)))))

more_opens : (names : List (List ℕ)) → Brings (at Outside names) more_open (at Outside (codes "p" ∷ names))
unfolding after_byte read_on more_open
more_opens names = record { so = refl }

more_closes : (names : List (List ℕ)) → Brings (at Outside (codes "p" ∷ names)) more_closed (at Outside names)
unfolding after_byte read_on more_closed
more_closes names = record { so = refl }

more_keeps : (s : Seen) → Keeps (more_text s)
unfolding more_text
more_keeps s = keeps_either s.more (record { keeps = λ names. on (more_opens names) (on ((number_keeps s.last).keeps _) (more_closes names)) }) none

-- what is said at the top
hop_front_keeps : (begins : Bool) → Keeps (hop_front begins)
unfolding after_byte read_on hop_front
hop_front_keeps true = record { keeps = λ names. record { so = refl } }
hop_front_keeps false = text_keeps (record { plain = refl })

hop_keeps : (hop : Hop) → Keeps (hop_text hop)
unfolding hop_text
hop_keeps hop = both (hop_front_keeps hop.begins) (both (number_keeps hop.from) (both (words (codes " waits for t") refl) (number_keeps hop.to)))

wait_front_keeps : Keeps wait_front
unfolding after_byte read_on wait_front
wait_front_keeps = record { keeps = λ names. record { so = refl } }

wait_line_keeps : (s : Seen) (lane : Lane) → Keeps (wait_line s lane)
unfolding wait_line
wait_line_keeps s lane =
    keeps_either (is_due lane) (both wait_front_keeps (both (number_keeps lane.id) (both (words (codes " ") refl) (lane_waits_keep s lane)))) none

stuck_opens : (names : List (List ℕ)) → Brings (at Outside names) stuck_open (at Outside (codes "p" ∷ codes "div" ∷ names))
unfolding after_byte read_on stuck_open
stuck_opens names = record { so = refl }

stuck_goes_on : (names : List (List ℕ)) → Brings (at Outside (codes "p" ∷ codes "div" ∷ names)) stuck_between (at Outside (codes "p" ∷ codes "div" ∷ names))
unfolding after_byte read_on stuck_between
stuck_goes_on names = record { so = refl }

stuck_closes : (names : List (List ℕ)) → Brings (at Outside (codes "p" ∷ codes "div" ∷ names)) stuck_closed (at Outside names)
unfolding after_byte read_on stuck_closed
stuck_closes names = record { so = refl }

stuck_keeps : (s : Seen) → Keeps (stuck_text s)
unfolding stuck_text
stuck_keeps s = keeps_either s.more none (record {
  keeps = λ names.
      let inside : List (List ℕ) = codes "p" ∷ codes "div" ∷ names in
      on (stuck_opens names) (on ((keeps_each (λ hop. hop_text hop) hop_keeps s.hops).keeps inside)
      (on (stuck_goes_on names) (on ((keeps_each (λ lane. wait_line s lane) (wait_line_keeps s) s.lanes).keeps inside) (stuck_closes names))));
})

end_keeps : (s : Seen) → Keeps (end_text s)
unfolding end_text
end_keeps s = record { keeps = λ names. on (group_opens names) (on ((shapes_keep s [] s.shapes).keeps _) (group_closes names)) }

page_closes : Brings (at Outside in_body) page_closed (at Outside [])
unfolding after_byte read_on page_closed
page_closes = record { so = refl }

around_brings : (s : Seen) → Brings (at Outside in_picture) (around s) (at Outside in_body)
unfolding around
around_brings s = on ((end_keeps s).keeps _) (on (names_bring s) (on (numbers_bring s) (size_brings s)))

beyond_brings : (s : Seen) → Brings (at Outside in_body) (beyond s) (at Outside in_body)
unfolding beyond
beyond_brings s = on ((strip_keeps s).keeps _)
    (on ((more_keeps s).keeps _) (on ((stuck_keeps s).keeps _) (on ((sheet_keeps s).keeps _) (script_keeps in_body))))

tail_brings : (s : Seen) → Brings (at Outside in_picture) (tail s) (at Outside [])
unfolding tail
tail_brings s = on (around_brings s) (on (beyond_brings s) page_closes)

page_brings : (base last : ℕ) (lines : List (List ℕ)) → Brings (at Outside []) (page base last lines) (at Outside [])
page_brings base last lines =
    on head_brings (on ((groups_keep (opening base last) lines).keeps _) (tail_brings (after_finish (after_lines (opening base last) lines))))

pub elements_are_closed : (base last : ℕ) (lines : List (List ℕ)) → IsTrue (is_nested (page base last lines))
unfolding is_nested
elements_are_closed base last lines = ap (λ r. is_closed r.place r.names) (page_brings base last lines).so
