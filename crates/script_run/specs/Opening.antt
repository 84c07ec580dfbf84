-- What the inlets and the clients' ends are before a thread is started.
use Rattle.event_gate.specs.Inlet.{Intake}
use Rattle.event_gate.specs.Port.{is_noted}
use Rattle.event_gate.specs.Shelves.{event_of}
use Rattle.script_run.specs.Ends.{HasRoom, posting_of}
use Rattle.script_run.specs.Inlets.{fresh, is_lane}
use Rattle.script_run.specs.Served.{clients_of}
use Rattle.script_run.specs.declared.opening.Seat.{Seat}
use Rattle.std.specs.List.{All, AllPairs, slice_index_or}
use Rattle.std.specs.Prelude.{List, None, Option, Some, eqb, false, length, true, ℕ, ◌+◌, ◌<◌, ◌≡◌}

-- how many lines a client may post
abbrev pub room_of : List ℕ → ℕ → ℕ
room_of rooms c = slice_index_or rooms c 0

-- a client's end is there, with room for so many lines, of the inlet that stands or will stand at this index
abbrev pub IsSeatAt : ℕ → List ℕ → ℕ → ℕ → Option Seat → Type 0
IsSeatAt index place c lines None = ⊥
IsSeatAt index place c lines (Some s) = (s.inlet ≡ index) × HasRoom place c lines (posting_of s.poster)

-- just these clients were seated
pub record AreSeated (rooms : List ℕ) (index : ℕ) (place : List ℕ) (clients : List ℕ)
    (old new : List (Option Seat)) : Type 0 where
  pub size : length new ≡ length old
  pub seated : (c : ℕ) (d : Option Seat) → is_noted c clients ≡ true
      → IsSeatAt index place c (room_of rooms c) (slice_index_or new c d)
  pub kept : (c : ℕ) (d : Option Seat) → is_noted c clients ≡ false → slice_index_or new c d ≡ slice_index_or old c d

-- a client has a seat at an inlet of its event
pub record HasSeat (events : List ℕ) (rooms : List ℕ) (inlets : List Intake) (c : ℕ)
    (seat : Option Seat) : Type 0 where
  pub index : ℕ
  pub inside : index < length inlets
  pub event : (d : Intake) → (slice_index_or inlets index d).event ≡ event_of events c
  pub at : (d : Intake) → IsSeatAt index (slice_index_or inlets index d).place c (room_of rooms c) seat

-- all inlets of events below e are open, and their clients have seats
pub record AreOpen (events : List ℕ) (rooms : List ℕ) (e : ℕ) (inlets : List Intake)
    (seats : List (Option Seat)) : Type 0 where
  pub low : All (λ t. t.event < e) inlets
  pub rise : AllPairs (λ t u. t.event < u.event) inlets
  pub new : All (λ t. t ≡ fresh t.place t.event (clients_of events t.event)) inlets
  pub lanes : All (λ t. is_lane t.place ≡ eqb (length t.noted) 1) inlets
  pub size : length seats ≡ length events
  pub seated : (c : ℕ) (d : Option Seat) → c < length events → event_of events c < e
      → HasSeat events rooms inlets c (slice_index_or seats c d)

-- the clients from n on have seats
abbrev pub HaveSeatsFrom : List ℕ → List ℕ → List Intake → ℕ → List (Option Seat) → Type 0
HaveSeatsFrom events rooms inlets n seats = (k : ℕ) (d : Option Seat) → k < length seats
    → HasSeat events rooms inlets (n + k) (slice_index_or seats k d)
