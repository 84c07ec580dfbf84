-- What a function answers.
use Rattle.std.specs.Prelude.{ℕ}

-- it is done
abbrev pub done : ℕ
done = 0

-- memory was refused
abbrev pub no_memory : ℕ
no_memory = 1

-- the handle holds no pod
abbrev pub no_pod : ℕ
no_pod = 2

-- it is nobody's turn
abbrev pub nobody : ℕ
nobody = 3

-- the record means no call
abbrev pub bad_call : ℕ
bad_call = 4

-- the bytes are no text
abbrev pub bad_text : ℕ
bad_text = 5

-- no line of the event can be taken
abbrev pub not_armed : ℕ
not_armed = 6

-- there is no such effect
abbrev pub no_such_effect : ℕ
no_such_effect = 7

-- a number is out of its range
abbrev pub bad_number : ℕ
bad_number = 8

-- a buffer is too small
abbrev pub too_small : ℕ
too_small = 9

-- a line is not that of the recorded trace
abbrev pub differs : ℕ
differs = 10

-- the bytes are no script
abbrev pub bad_script : ℕ
bad_script = 11
