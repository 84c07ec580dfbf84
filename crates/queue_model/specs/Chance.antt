-- Times that are exponentially distributed, by random words.
use Rattle.queue_model.specs.declared.chance.Chance.{Chance}
use Rattle.rand_pcg.specs.Lcg.{increment_of, started}
use Rattle.rand_pcg.specs.Pcg.{multiplier_64, pcg32}
use Rattle.std.specs.Int.{leading_zeros, w32}
use Rattle.std.specs.Prelude.{min, ℕ, ◌%◌, ◌*◌, ◌+◌, ◌-◌, ◌/◌, ◌^◌}

-- times of such a mean, by the seed and the stream
abbrev pub chance_of : ℕ → ℕ → ℕ → Chance
chance_of seed stream mean = record { words = started 64 multiplier_64 seed (increment_of 64 stream); mean = mean }

-- the logarithm of 1 + x to the base 2, nearly, in units of 1/65,536
abbrev pub third_of : ℕ → ℕ
third_of x = 21348 - x * 5561 / 65536

abbrev pub second_of : ℕ → ℕ
second_of x = 44565 - x * third_of x / 65536

abbrev pub first_of : ℕ → ℕ
first_of x = 94308 - x * second_of x / 65536

abbrev pub log_of_one_more : ℕ → ℕ
log_of_one_more x = x * first_of x / 65536

-- what comes after the first one of a word, in units of 1/65,536 of it, where so many zeros come before that
abbrev pub fraction : ℕ → ℕ → ℕ
fraction word zeros = word * 2 ^ (zeros % 32) % 2 ^ 32 % 2147483648 / 32768

-- how often 2 to the 32 is to be halved until it is the word, in units of 1/65,536; an exponential time, where half a time's
-- events have come after one unit
abbrev pub halvings : ℕ → ℕ
halvings word = min (leading_zeros w32 word) 32 * 65536 + (65536 - log_of_one_more (fraction word (leading_zeros w32 word)))

-- the next time: 45,426 is the logarithm of 2, in units of 1/65,536
abbrev pub ticks_drawn : Chance → ℕ
ticks_drawn chance = halvings (pcg32 chance.words).0 * (chance.mean * 45426) / 4294967296

-- the word is used up
abbrev pub after_draw : Chance → Chance
after_draw chance = record chance { words = (pcg32 chance.words).1 }
