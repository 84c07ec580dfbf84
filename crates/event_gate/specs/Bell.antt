-- What rings, leavings and parks make of a bell's flag and count.
use Rattle.std.specs.Prelude.{◌+◌, false, min, true}
use Rattle.event_gate.specs.declared.rung.Rung.{Rung}

-- it has not rung, and nobody has left
abbrev pub silent : Rung
silent = record { set = false; gone = 0 }

-- it has rung
abbrev pub after_ring : Rung → Rung
after_ring r = record r { set = true }

-- it has rung, and one poster more has left, once, as far as a u32 counts
abbrev pub after_leave : Rung → Rung
after_leave r = record { set = true; gone = min (r.gone + 1) 4294967295 }

-- its rings are spent, and those that have left have left
abbrev pub after_park : Rung → Rung
after_park r = record r { set = false }
