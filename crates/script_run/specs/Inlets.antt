-- What contracts see of a runner's end that is a lane's or a port's.
use Rattle.event_gate.specs.Inlet.{Intake, port_intake}
use Rattle.event_gate.specs.Port.{is_noted, is_told, of, lines_in_pass}
use Rattle.lanes.specs.Ends.{lane_intake}
use Rattle.script_run.specs.declared.inlet.RunnerEnd.{RunnerEnd}
use Rattle.script_run.specs.declared.inlet.RunnerEnd.TheVariants.{Lane, Port}
use Rattle.std.specs.Prelude.{Bool, List, [], ◌∷◌, eqb, false, length, take, true, ℕ, ◌≡◌}

-- a lane's or a port's end as any runner's end
abbrev pub intake_of : RunnerEnd → Intake
intake_of (Lane lane) = lane_intake lane
intake_of (Port port) = port_intake port

-- of each client whose pass came back, the lines taken are the first that it posted
abbrev pub TakesFirst : Intake → Type 0
TakesFirst t = (c : ℕ) → is_told c t.known ≡ true
    → take (length (of c t.taken)) (lines_in_pass c t.known) ≡ of c t.taken

-- no line was taken of any other client
abbrev pub TakesNone : Intake → Type 0
TakesNone t = (c : ℕ) → is_noted c t.noted ≡ false → of c t.taken ≡ []

-- a new inlet: no line was taken, none was looked for in vain, and no pass came back
abbrev pub fresh : List ℕ → ℕ → List ℕ → Intake
fresh place event clients = record { place = place; event = event; taken = []; finds = 0; noted = clients; known = [] }

-- the place is a lane's: a port's begins with 1, and a lane's with 0
abbrev pub is_lane : List ℕ → Bool
is_lane [] = false
is_lane (a ∷ bs) = eqb a 0
