use Rattle.agents.proofs.rows.numbers.Given as goal
use Rattle.lwp_types.specs.State.{agent_numbers}
use Rattle.std.proofs.Common.{take, ◌≡◌}

abbrev pub invariant-loop-row : goal.invariant-loop-row
invariant-loop-row l = l.ids ≡ agent_numbers (take l.row-index l.rows)
