-- What is to be made, by three words.
use Rattle.std.specs.Prelude.{ℕ, ◌≤◌, ◌^◌, ◌&&◌, nat_lt, nat_le, List, Option, Some, None, option_map, option_and_then, if◌then◌else◌}
use Rattle.std.specs.Str.{all_ascii_digits}
use Rattle.script_lines.specs.Words.{is_misshapen, value_after, number_at}
use Rattle.lwp_serve.specs.declared.maker.order.Order.{Order}

-- from 1 to 16 clients, and from 1 to 10,000 lines of each
pub record IsAllowed (threads lines : ℕ) : Type 0 where
  pub some_threads : 1 ≤ threads
  pub few_threads : threads ≤ 16
  pub some_lines : 1 ≤ lines
  pub few_lines : lines ≤ 10000

-- the value of digits, where it fits 64 bits
abbrev pub long_value_of : List ℕ → Option ℕ
long_value_of ds = if all_ascii_digits ds && nat_lt (value_after 0 ds) (2 ^ 64) then Some (value_after 0 ds) else None

-- the seed that a word writes in decimal, with no needless zero
abbrev pub seed_at : List ℕ → Option ℕ
seed_at w = if is_misshapen w then None else long_value_of w

-- the number, where it is from 1 to the greatest that there may be
abbrev pub within : ℕ → ℕ → Option ℕ
within most n = if nat_le 1 n && nat_le n most then Some n else None

-- the number from 1 to the greatest that a word writes in decimal, with no needless zero
abbrev pub count_at : ℕ → List ℕ → Option ℕ
count_at most w = option_and_then (within most) (number_at w)

-- a seed, how many clients, and how many lines of each
abbrev pub order : ℕ → ℕ → ℕ → Order
order seed threads lines = record { seed = seed; threads = threads; lines = lines }

-- what three words ask for
abbrev pub order_at : List ℕ → List ℕ → List ℕ → Option Order
order_at seed threads lines =
    option_and_then
    (λ s. option_and_then (λ t. option_map (λ l. order s t l) (count_at 10000 lines)) (count_at 16 threads))
    (seed_at seed)
