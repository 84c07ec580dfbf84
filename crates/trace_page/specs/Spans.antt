-- What goes on, and what ends it.
use Rattle.lwp_types.specs.Names.{null_id}
use Rattle.std.specs.List.{flat_map}
use Rattle.std.specs.Prelude.{Bool, List, [], false, if◌then◌else◌, nat_lt, not, true, ℕ, ◌&&◌, ◌++◌, ◌==◌, ◌||◌, ◌∷◌}
use Rattle.trace_page.specs.Scene.{Seen, one_more}
use Rattle.trace_page.specs.declared.scene.Kind.{Kind}
use Rattle.trace_page.specs.declared.scene.Kind.TheVariants as kind
use Rattle.trace_page.specs.declared.scene.Moment.{Moment}
use Rattle.trace_page.specs.declared.scene.Shape.{Shape}
use Rattle.trace_page.specs.declared.scene.Shape.TheVariants as shape
use Rattle.trace_page.specs.declared.scene.Span.{Span}
use Rattle.trace_page.specs.declared.spans.Change.{Change}
use Rattle.trace_page.specs.declared.spans.Change.TheVariants as change

abbrev pub is_life : Kind → Bool
is_life kind.Life = true
is_life kind.Parked = false
is_life kind.Held = false
is_life kind.Given = false

abbrev pub is_parked : Kind → Bool
is_parked kind.Life = false
is_parked kind.Parked = true
is_parked kind.Held = false
is_parked kind.Given = false

abbrev pub is_held : Kind → Bool
is_held kind.Life = false
is_held kind.Parked = false
is_held kind.Held = true
is_held kind.Given = false

abbrev pub is_given : Kind → Bool
is_given kind.Life = false
is_given kind.Parked = false
is_given kind.Held = false
is_given kind.Given = true

-- a change ends or turns this
abbrev pub touches : Change → Span → Bool
touches (change.Dies t) span = span.tid == t || (is_life span.kind && (span.of == t))
touches (change.Resumes t) span = is_parked span.kind && (span.tid == t)
touches (change.Breaks m) span = is_held span.kind && (span.of == m)
touches (change.Leaves t level) span = is_held span.kind && ((span.tid == t) && (span.level == level))
touches (change.GivesUp t m) span = is_held span.kind && ((span.tid == t) && (span.of == m))
touches (change.Wakes t now) span = is_given span.kind && (span.tid == t)
touches (change.Stays t) span = is_given span.kind && (span.tid == t)
touches change.Ends span = true

-- what is drawn of it: all but a monitor that was given up
abbrev pub is_drawn : Change → Span → Bool
is_drawn c span = touches c span && not (is_given span.kind)

-- what becomes of what is touched
abbrev pub turned_spans : Change → Span → List Span
turned_spans (change.Dies t) span = []
turned_spans (change.Resumes t) span = []
turned_spans (change.Breaks m) span = []
turned_spans (change.Leaves t level) span = []
turned_spans (change.GivesUp t m) span = record span { kind = kind.Given } ∷ []
turned_spans (change.Wakes t now) span = record span { kind = kind.Held; since = now } ∷ []
turned_spans (change.Stays t) span = record span { kind = kind.Held } ∷ []
turned_spans change.Ends span = []

-- what goes on after a change
abbrev pub after : Change → Span → List Span
after c span = if touches c span then turned_spans c span else span ∷ []

-- what is drawn at a change
abbrev pub bar : Change → Moment → Span → List Shape
bar c to span = if is_drawn c span then shape.Bar span to ∷ [] else []

-- what is drawn at a change of all that goes on
abbrev pub bars : Change → Moment → List Span → List Shape
bars c to spans = flat_map (λ span. bar c to span) spans

abbrev pub spans_after : Change → List Span → List Span
spans_after c spans = flat_map (λ span. after c span) spans

-- a change, and what is drawn for it
abbrev pub after_change : Change → Seen → Seen
after_change c s = record s { spans = spans_after c s.spans; shapes = s.shapes ++ bars c s.time s.spans }

-- a monitor that a thread holds or has given up
abbrev pub is_owned : ℕ → Span → Bool
is_owned t span = (is_held span.kind || is_given span.kind) && (span.tid == t)

-- the life of an agent of this event
abbrev pub is_agent : ℕ → Span → Bool
is_agent event span = is_life span.kind && (span.event == event)

-- the first agent of this event that lives
abbrev pub agent_of : ℕ → List Span → ℕ
agent_of event [] = null_id
agent_of event (span ∷ spans) = if is_agent event span then span.tid else agent_of event spans

-- the greater of a level and that of this
abbrev pub greater_level : Bool → ℕ → Span → ℕ
greater_level counts level span = if counts && nat_lt level span.level then span.level else level

-- the greatest level of the monitors of a thread, from this on
abbrev pub top_from : ℕ → ℕ → List Span → ℕ
top_from level t [] = level
top_from level t (span ∷ spans) = top_from (greater_level (is_owned t span) level span) t spans

-- the greatest level at which it holds this monitor
abbrev pub level_from : ℕ → ℕ → ℕ → List Span → ℕ
level_from level t m [] = level
level_from level t m (span ∷ spans) =
    level_from (greater_level (is_owned t span && (span.of == m)) level span) t m spans

-- the monitor that a thread has acquired last
abbrev pub last_from : ℕ → ℕ → ℕ → List Span → ℕ
last_from found t level [] = found
last_from found t level (span ∷ spans) =
    last_from (if is_owned t span && (span.level == level) then span.of else found) t level spans

-- a thread holds a monitor from now on, above those that it holds
abbrev pub next_hold : ℕ → ℕ → Seen → Span
next_hold t m s = record {
  tid = t;
  kind = kind.Held;
  of = m;
  since = s.time;
  level = one_more (top_from 0 t s.spans);
  event = 0;
}
