-- What the desk notes of its customers, and what is counted of that. Lists of notes have the newest first.
use Rattle.lwp_types.specs.declared.call.Answer.{Answer}
use Rattle.lwp_types.specs.declared.call.Answer.TheVariants as answer
use Rattle.lwp_types.specs.declared.call.LwpErr.TheVariants as error
use Rattle.queue_model.specs.Desks.{Desk, desk_next, opening, told_end}
use Rattle.queue_model.specs.Stamps.{time_of}
use Rattle.queue_model.specs.Tallies.{bar_of}
use Rattle.queue_model.specs.declared.chance.Chance.{Chance}
use Rattle.queue_model.specs.declared.tally.Tally.{Tally}
use Rattle.std.specs.List.{count_by, range_with_len, sum}
use Rattle.std.specs.Prelude.{List, [], if◌then◌else◌, length, map, min, nat_lt, reverse, ℕ, ◌++◌, ◌-◌, ◌==◌, ◌∷◌, ◌≡◌, ◌≤◌}

pub data Note : Type 0 where
  -- a customer came then, and stays
  Entered : ℕ → Note
  -- a customer came then, and found no room
  Lost : ℕ → Note
  -- one who came at the first time began to be served at the second
  Began : ℕ → ℕ → Note
  -- a service ended then
  Ended : ℕ → Note

-- ---- what a note tells

-- when a customer came
abbrev pub arrivals : Note → List ℕ
arrivals (Entered t) = t ∷ []
arrivals (Lost t) = t ∷ []
arrivals (Began came t) = []
arrivals (Ended t) = []

-- when one came who stays
abbrev pub entries : Note → List ℕ
entries (Entered t) = t ∷ []
entries (Lost t) = []
entries (Began came t) = []
entries (Ended t) = []

-- when one came who found no room
abbrev pub losses : Note → List ℕ
losses (Entered t) = []
losses (Lost t) = t ∷ []
losses (Began came t) = []
losses (Ended t) = []

-- when one came who is served from now on
abbrev pub served : Note → List ℕ
served (Entered t) = []
served (Lost t) = []
served (Began came t) = came ∷ []
served (Ended t) = []

-- how long one waited
abbrev pub waits : Note → List ℕ
waits (Entered t) = []
waits (Lost t) = []
waits (Began came t) = (t - came) ∷ []
waits (Ended t) = []

-- when a service began, and when one ended
abbrev pub begins : Note → List ℕ
begins (Entered t) = []
begins (Lost t) = []
begins (Began came t) = t ∷ []
begins (Ended t) = []

abbrev pub ends : Note → List ℕ
ends (Entered t) = []
ends (Lost t) = []
ends (Began came t) = []
ends (Ended t) = t ∷ []

-- what all notes tell
abbrev pub all_of : (Note → List ℕ) → List Note → List ℕ
all_of times [] = []
all_of times (note ∷ notes) = times note ++ all_of times notes

-- ---- what is counted

-- a number, or the greatest u64
abbrev pub limited : ℕ → ℕ
limited n = min n 18446744073709551615

-- the newest of some times
abbrev pub newest : List ℕ → ℕ
newest [] = 0
newest (t ∷ ts) = t

-- how many of these waits belong to a bar of the histogram
abbrev pub height_of : ℕ → List ℕ → ℕ → ℕ
height_of width times bar = limited (count_by (λ wait. bar_of wait width == bar) times)

-- each number is what the notes tell: how many, or their sum; one that is greater than a u64 may be is the greatest u64
abbrev pub tally_of : ℕ → List Note → Tally
tally_of width notes = record {
  came = limited (length (all_of arrivals notes));
  lost = limited (length (all_of losses notes));
  begun = limited (length (all_of waits notes));
  waited = limited (sum (all_of waits notes));
  begins = limited (sum (all_of begins notes));
  ended = limited (length (all_of ends notes));
  ends = limited (sum (all_of ends notes));
  last = newest (all_of arrivals notes);
  bars = map (height_of width (all_of waits notes)) (range_with_len 0 32);
  width = width;
}

-- ---- what the desk notes

-- a customer comes; these servers are free
abbrev pub noted_come : Desk → List ℕ → List Note → List Note
noted_come desk [] notes =
    (if nat_lt (length desk.waiting) desk.room then Entered desk.next else Lost desk.next) ∷ notes
noted_come desk (server ∷ others) notes = Began desk.next desk.next ∷ Entered desk.next ∷ notes

-- a server tells when its service ended
abbrev pub noted_end : List ℕ → List Note → List Note
noted_end [] notes = notes
noted_end (byte ∷ bytes) notes = Ended (time_of (byte ∷ bytes)) ∷ notes

-- it serves whoever has waited longest of these
abbrev pub noted_offer : Desk → List ℕ → List Note → List Note
noted_offer desk [] notes = notes
noted_offer desk (came ∷ others) notes = Began came desk.now ∷ notes

-- with each answer
abbrev pub noted : Desk → Answer → List Note → List Note
noted desk (answer.Letter from text room) notes =
    noted_offer (told_end text desk) (told_end text desk).waiting (noted_end text notes)
noted desk (answer.Refused error.Timeout) notes = noted_come desk desk.free notes
noted desk _ notes = notes

-- ---- after some answers, the newest first

abbrev pub desk_after : Desk → List Answer → Desk
desk_after desk [] = desk
desk_after desk (got ∷ earlier) = (desk_next (desk_after desk earlier) got).1

abbrev pub notes_after : Desk → List Answer → List Note
notes_after desk [] = []
notes_after desk (got ∷ earlier) = noted (desk_after desk earlier) got (notes_after desk earlier)

-- nobody waits while a server is free
abbrev pub NobodyWaits : List ℕ → List ℕ → Type 0
NobodyWaits [] waiting = Unit {0}
NobodyWaits (server ∷ others) waiting = waiting ≡ []

-- what holds of a desk and its notes
pub record Tells (width room : ℕ) (desk : Desk) (notes : List Note) : Type 0 where
  -- it has counted exactly what it has noted
  pub tally : desk.tally ≡ tally_of width notes
  -- customers are served in the order in which they came: those who stayed are those who were served, and then those who wait
  pub fifo : all_of entries notes ≡ reverse desk.waiting ++ all_of served notes
  pub idle : NobodyWaits desk.free desk.waiting
  pub room_is : desk.room ≡ room
  pub fits : length desk.waiting ≤ room

-- it holds of every desk, whatever it is answered
abbrev pub DesksTell : Type 0
DesksTell = (customers room width : ℕ) (gaps : Chance) (answers : List Answer)
    → Tells width room (desk_after (opening customers gaps room width) answers) (notes_after (opening customers gaps room width) answers)
