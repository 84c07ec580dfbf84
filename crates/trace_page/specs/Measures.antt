-- The measures of the page, in pixels.
use Rattle.std.specs.Prelude.{min, ℕ, ◌%◌, ◌*◌, ◌+◌}

-- ---- from the left

-- where the first call is that is drawn
abbrev pub first_call : ℕ
first_call = 40

-- from a call to the next
abbrev pub call_width : ℕ
call_width = 16

-- from a call to what is drawn after it and before the next
abbrev pub half_call : ℕ
half_call = 8

-- how many calls have columns of their own: 5,000 are drawn at most, and after them come what comes last and whom it waits for
abbrev pub most_calls : ℕ
most_calls = 5003

-- how many tenth calls have their number
abbrev pub most_tenths : ℕ
most_tenths = 501

-- how far right anything is at most
abbrev pub most_right : ℕ
most_right = 80096

-- after the last call, room for the words that tell the end
abbrev pub end_width : ℕ
end_width = 420

-- after the last call, room for the arrows to whom somebody waits for, before the words that tell it
abbrev pub due_gap : ℕ
due_gap = 42

-- the column of the lanes' names
abbrev pub names_width : ℕ
names_width = 150

-- ---- from above

-- where the first lane is: over it stands what comes from the outside
abbrev pub first_lane : ℕ
first_lane = 56

-- from a lane to the next
abbrev pub lane_height : ℕ
lane_height = 68

-- how many lanes stand apart
abbrev pub most_lanes : ℕ
most_lanes = 65535

-- how far down a lane is at most
abbrev pub most_down : ℕ
most_down = 4456436

-- where arrows begin and end in a lane
abbrev pub middle : ℕ
middle = 10

-- where the foot of words is in a lane
abbrev pub foot : ℕ
foot = 14

-- what comes from the outside has its words in three rows, one below the other
abbrev pub outside_row : ℕ → ℕ
outside_row nth = 24 + 11 * (nth % 3)

-- below these rows begin the arrows to the lanes
abbrev pub below_rows : ℕ
below_rows = 48

-- where the spot of a tick is, in the midst below these rows
abbrev pub tick_spot : ℕ
tick_spot = 52

-- the last lines stand one below the other, as far as there is room
abbrev pub end_row : ℕ → ℕ
end_row nth = 14 + 14 * min nth 16
