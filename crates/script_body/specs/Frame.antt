-- A procedure that was begun and hasn't returned.
use Rattle.std.specs.Prelude.{List, [], length, take, ℕ, ◌++◌, ◌-◌, ◌∷◌}

-- its number, the place of its next statement, and for each of its handlers, first to last, the place after it
pub record Frame : Type 0 where
  pub number : ℕ
  pub place : ℕ
  pub handlers : List ℕ

-- a procedure at its start
abbrev pub opening_frame : ℕ → Frame
opening_frame number = record { number = number; place = 0; handlers = [] }

-- a handler was set: the place after it is kept
abbrev pub with_handler : Frame → Frame
with_handler frame = record frame { handlers = frame.handlers ++ frame.place ∷ [] }

-- the last handler was removed, and its place with it
abbrev pub without_handler : Frame → Frame
without_handler frame = record frame { handlers = take (length frame.handlers - 1) frame.handlers }

-- a handler has caught: the frame goes on at its place, and so many are left
abbrev pub with_caught : ℕ → ℕ → Frame → Frame
with_caught mark place frame = record frame { place = place; handlers = take mark frame.handlers }
