-- Whom the threads wait for.
use Rattle.death_cleanup.specs.declared.rows.Awaited.{Awaited}
use Rattle.death_cleanup.specs.declared.rows.Awaited.TheVariants as awaited
use Rattle.death_cleanup.specs.declared.rows.Kind.{Kind}
use Rattle.death_cleanup.specs.declared.rows.Kind.TheVariants as kind
use Rattle.lwp_types.specs.Death.{joins}
use Rattle.lwp_types.specs.Messages.{awaits}
use Rattle.lwp_types.specs.State.{Outcome, State, ThreadRow, for_each, numbers}
use Rattle.lwp_types.specs.Unblock.{nonexist, unblock, zero_answer}
use Rattle.lwp_types.specs.declared.call.Answer.{Answer}
use Rattle.lwp_types.specs.declared.rows.Block.{Block}
use Rattle.std.specs.List.{filter, find}
use Rattle.std.specs.Prelude.{Bool, List, Option, false, option_map, ℕ}

-- who waits so waits for this of t
abbrev pub block_waits : Awaited → ℕ → Block → Bool
block_waits awaited.Death t b = joins t b
block_waits awaited.Letter t b = awaits t b

-- a thread that does
abbrev pub waits_for : Awaited → ℕ → Kind → Bool
waits_for what t (kind.Thread rec) = block_waits what t rec.block
waits_for what t kind.Agent = false

-- the oldest of them
abbrev pub first_waiting : Awaited → ℕ → List (ℕ × Kind) → Option ℕ
first_waiting what t living = option_map (λ live. live.0) (find (λ live. waits_for what t live.1) living)

-- the numbers of all of them, in the order of birth
abbrev pub waiting : Awaited → ℕ → List ThreadRow → List ℕ
waiting what t rows = numbers (filter (λ row. block_waits what t row.block) rows)

-- what they are answered at the end of t
abbrev pub last_answer : Awaited → Answer
last_answer awaited.Death = zero_answer
last_answer awaited.Letter = nonexist

-- all of them go on
abbrev pub after_dismiss : Awaited → ℕ → State → Outcome
after_dismiss what t s = for_each (unblock (last_answer what)) (waiting what t s.threads) s
