-- What a line says, taken from left to right.
use Rattle.std.specs.Prelude.{ℕ, Bool, true, false, ◌&&◌, ◌==◌, nat_lt, nat_le, List, [], ◌∷◌, length, take}
use Rattle.std.specs.Prelude.{drop, Option, Some, None, option_map, option_and_then, if◌then◌else◌, codes}
use Rattle.std.specs.Str.{bytes_eq}
use Rattle.lwp_types.specs.TextFields.{is_text}
use Rattle.script_lines.specs.declared.table.Kind.{Kind}
use Rattle.script_lines.specs.declared.table.Kind.TheVariants as kind
use Rattle.script_lines.specs.declared.table.Whom.{Whom}
use Rattle.script_lines.specs.declared.table.Whom.TheVariants as whom
use Rattle.script_lines.specs.Phrase.{Phrase}
use Rattle.script_lines.specs.declared.table.Test.{Test}
use Rattle.script_lines.specs.declared.table.Test.TheVariants as test
use Rattle.lwp_types.specs.declared.call.Flags.{Flags}
use Rattle.lwp_types.specs.declared.call.Mode.{Mode}
use Rattle.lwp_types.specs.declared.call.Mode.TheVariants as mode
use Rattle.lwp_types.specs.declared.call.Func.{Func}
use Rattle.lwp_types.specs.declared.call.Func.TheVariants as func
use Rattle.lwp_types.specs.declared.call.Pattern.{Pattern}
use Rattle.lwp_types.specs.declared.call.Pattern.TheVariants as pattern
use Rattle.trace_text.specs.Lines.{flags_text}
use Rattle.script_lines.specs.Words.{is_name, number_at, reach}
use Rattle.script_lines.specs.Table.{op_at, slots_of, key_length}
use Rattle.script_lines.specs.Line.{blank}

-- flags by three letters that stand or don't
abbrev pub flags_by : Bool → Bool → Bool → Flags
flags_by s n v = record { suspended = s; nolastrites = n; server = v }

-- all flags that there are
abbrev pub all_flags : List Flags
all_flags = flags_by false false false ∷ flags_by true false false ∷ flags_by false true false
    ∷ flags_by true true false ∷ flags_by false false true ∷ flags_by true false true
    ∷ flags_by false true true ∷ flags_by true true true ∷ []

-- the first of these flags that are written so
abbrev pub flags_in : List Flags → List ℕ → Option Flags
flags_in [] w = None
flags_in (f ∷ fs) w = if bytes_eq (flags_text f) w then Some f else flags_in fs w

-- the flags that are written so
unfoldable pub flags_at : List ℕ → Option Flags
flags_at w = flags_in all_flags w

-- `is`, a space and a number
abbrev pub value_at : List ℕ → Option Test
value_at [] = None
value_at (a ∷ []) = None
value_at (a ∷ b ∷ []) = None
value_at (a ∷ b ∷ c ∷ digits) = if a == 105 && b == 115 && c == 32
    then option_map (λ n. test.Value n) (number_at digits)
    else None

-- the test that is written so
abbrev pub test_at : List ℕ → Option Test
test_at w =
    if bytes_eq w (codes "ok") then Some test.Fine
    else if bytes_eq w (codes "err") then Some test.Refused
    else if bytes_eq w (codes "caught") then Some test.Caught
    else value_at w

-- the number, where a text may have so many bytes
abbrev pub within_room : ℕ → Option ℕ
within_room n = if nat_le n 240 then Some n else None

-- the room that is written so
abbrev pub room_at : List ℕ → Option ℕ
room_at w = option_and_then within_room (number_at w)

-- whether to wait and for how many ticks, written so
abbrev pub mode_at : List ℕ → Option Mode
mode_at w = if bytes_eq w (codes "poll") then Some mode.Poll
    else if bytes_eq w (codes "wait") then Some mode.Block
    else option_map (λ ticks. mode.Until ticks) (number_at w)

-- a client that is written so
abbrev pub client_at : List ℕ → Option ℕ
client_at w = option_and_then (λ n. if nat_le n 15 then Some n else None) (number_at w)

-- an event that is written so
abbrev pub event_at : List ℕ → Option ℕ
event_at w = option_and_then (λ n. if nat_le n 31 then Some n else None) (number_at w)

-- an event that an agent may have, written so
abbrev pub agent_event_at : List ℕ → Option ℕ
agent_event_at w = option_and_then (λ n. if nat_le 1 n && nat_le n 31 then Some n else None) (number_at w)

-- a pattern that is written so
abbrev pub pattern_at : List ℕ → Option Pattern
pattern_at w = if bytes_eq w (codes "all") then Some pattern.All else option_map (λ n. pattern.Num n) (number_at w)

-- the function of a handler that is written so
abbrev pub func_at : List ℕ → Option Func
func_at w = if bytes_eq w (codes "-") then Some func.Nothing
    else if bytes_eq w (codes "give") then Some func.Give
    else if bytes_eq w (codes "sum") then Some func.Sum
    else None

-- what a word is that means a thread, and its bytes if it is a name
abbrev pub who_at : List ℕ → Option (Whom × List ℕ)
who_at w =
    if is_name w then Some (whom.Named, w)
    else if bytes_eq w (codes "self") then Some (whom.Me, [])
    else if bytes_eq w (codes "first") then Some (whom.First, [])
    else if bytes_eq w (codes "sender") then Some (whom.Sender, [])
    else if bytes_eq w (codes "none") then Some (whom.Nobody, [])
    else None

-- what a word is that says from whom to receive: `any`, or a word that means a thread
abbrev pub source_at : List ℕ → Option (Whom × List ℕ)
source_at w = if bytes_eq w (codes "any") then Some (whom.Any, []) else who_at w

-- the word, if it is a name
abbrev pub name_in : List ℕ → Option (List ℕ)
name_in w = if is_name w then Some w else None

-- p with a slot of this kind filled by a word
abbrev pub fill_word : Kind → Phrase → List ℕ → Option Phrase
fill_word kind.Thread p w = option_map (λ n. record p { thread = n }) (name_in w)
fill_word kind.Who p w = option_map (λ x. record p { who = x.0; thread = x.1 }) (who_at w)
fill_word kind.Source p w = option_map (λ x. record p { who = x.0; thread = x.1 }) (source_at w)
fill_word kind.Procedure p w = option_map (λ n. record p { procedure = n }) (name_in w)
fill_word kind.Monitor p w = option_map (λ n. record p { monitor = n }) (name_in w)
fill_word kind.Condition p w = option_map (λ n. record p { condition = n }) (name_in w)
fill_word kind.Number p w = option_map (λ n. record p { number = n }) (number_at w)
fill_word kind.Priority p w = option_map (λ n. record p { number = n }) (number_at w)
fill_word kind.Room p w = option_map (λ n. record p { room = n }) (room_at w)
fill_word kind.Client p w = option_map (λ n. record p { client = n }) (client_at w)
fill_word kind.Event p w = option_map (λ n. record p { event = n }) (event_at w)
fill_word kind.Flags p w = option_map (λ f. record p { flags = f }) (flags_at w)
fill_word kind.Mode p w = option_map (λ m. record p { mode = m }) (mode_at w)
fill_word kind.Pattern p w = option_map (λ x. record p { pattern = x }) (pattern_at w)
fill_word kind.Func p w = option_map (λ f. record p { func = f }) (func_at w)
fill_word kind.Test p w = None
fill_word kind.Built p w = None
fill_word kind.Text p w = None

-- p with its text filled by all that is left: a space and then at least one byte, or nothing
abbrev pub fill_text : Phrase → List ℕ → Option (Phrase × List ℕ)
fill_text p [] = Some (record p { text = [] }, [])
fill_text p (b ∷ bs) = if b == 32 && nat_lt 0 (length bs) && is_text bs then Some (record p { text = bs }, []) else None

-- p with its test filled by all that is left after one space
abbrev pub fill_test : Phrase → List ℕ → Option (Phrase × List ℕ)
fill_test p [] = None
fill_test p (b ∷ bs) = if b == 32 then option_map (λ t. (record p { test = t }, [])) (test_at bs) else None

-- the name after one space, if it is one
abbrev pub spaced_name : List ℕ → Option (List ℕ)
spaced_name [] = None
spaced_name (b ∷ bs) = if b == 32 then name_in bs else None

-- the event and the name of a session: two words, with one space between them
abbrev pub session_at : List ℕ → Option (ℕ × List ℕ)
session_at w = option_and_then
    (λ event. option_map (λ name. (event, name)) (spaced_name (drop (reach 32 w) w)))
    (agent_event_at (take (reach 32 w) w))

-- what a built-in procedure is, written so: a store has no event
abbrev pub built_at : List ℕ → Option (ℕ × List ℕ)
built_at w = if bytes_eq w (codes "store") then Some (0, [])
    else if bytes_eq (take 8 w) (codes "session ") then session_at (drop 8 w)
    else None

-- p with what its procedure is filled by all that is left after one space
abbrev pub fill_built : Phrase → List ℕ → Option (Phrase × List ℕ)
fill_built p [] = None
fill_built p (b ∷ bs) = if b == 32 then option_map (λ x. (record p { event = x.0; thread = x.1 }, [])) (built_at bs)
    else None

-- p with a slot filled by the word after one space, and what is left after the word
abbrev pub fill_spaced : Kind → Phrase → List ℕ → Option (Phrase × List ℕ)
fill_spaced k p [] = None
fill_spaced k p (b ∷ bs) = if b == 32
    then option_map (λ q. (q, drop (reach 32 bs) bs)) (fill_word k p (take (reach 32 bs) bs))
    else None

-- p with the next slot filled, and what is left
abbrev pub slot_at : Kind → Phrase → List ℕ → Option (Phrase × List ℕ)
slot_at kind.Text = fill_text
slot_at kind.Test = fill_test
slot_at kind.Built = fill_built
slot_at kind.Thread = fill_spaced kind.Thread
slot_at kind.Who = fill_spaced kind.Who
slot_at kind.Source = fill_spaced kind.Source
slot_at kind.Procedure = fill_spaced kind.Procedure
slot_at kind.Monitor = fill_spaced kind.Monitor
slot_at kind.Condition = fill_spaced kind.Condition
slot_at kind.Number = fill_spaced kind.Number
slot_at kind.Priority = fill_spaced kind.Priority
slot_at kind.Room = fill_spaced kind.Room
slot_at kind.Client = fill_spaced kind.Client
slot_at kind.Event = fill_spaced kind.Event
slot_at kind.Flags = fill_spaced kind.Flags
slot_at kind.Mode = fill_spaced kind.Mode
slot_at kind.Pattern = fill_spaced kind.Pattern
slot_at kind.Func = fill_spaced kind.Func

-- p with all these slots filled, where nothing is left
abbrev pub fill : List Kind → Phrase → List ℕ → Option Phrase
fill [] p [] = Some p
fill [] p (b ∷ bs) = None
fill (k ∷ ks) p rest = option_and_then (λ x. fill ks x.0 x.1) (slot_at k p rest)

-- the bytes up to the first space
abbrev pub first_word : List ℕ → List ℕ
first_word line = take (reach 32 line) line

-- what a line says, if its key is so long
abbrev pub phrase_by_key : ℕ → List ℕ → Option Phrase
phrase_by_key n line = option_and_then (λ o. fill (slots_of o) (blank o) (drop n line)) (op_at (take n line))

-- what a line says, if it is the text of a phrase
unfoldable pub phrase_at : List ℕ → Option Phrase
phrase_at line = phrase_by_key (key_length line) line
