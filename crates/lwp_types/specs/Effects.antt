-- How many effects there are at most.
use Rattle.std.specs.Prelude.{ℕ}

-- the places of a list of effects: more than any step has
abbrev pub effect_places : ℕ
effect_places = 2048

-- what a death has at most: 255 exit procedures, 1,023 others that wait and go on, and the death itself
abbrev pub most_of_a_death : ℕ
most_of_a_death = 1279

-- what a call has at most: a death, and one answer more
abbrev pub most_of_a_call : ℕ
most_of_a_call = 1280

-- what a step has at most: a call, and the end of the pod
abbrev pub most_of_a_step : ℕ
most_of_a_step = 1281

-- what a delivery to agents has at most: two for each of 256
abbrev pub most_of_a_delivery : ℕ
most_of_a_delivery = 512
