-- Other conditions in the same parts.
use Rattle.conditions.specs.ConditionTable.{ConditionTable}
use Rattle.conditions.specs.Machine as conds
use Rattle.death_cleanup.specs.Ties.{InStep}
use Rattle.death_cleanup.specs.View.{state_of}
use Rattle.death_cleanup.specs.declared.parts.Parts.{Parts}
use Rattle.lwp_types.specs.State.{priority_in}
use Rattle.std.proofs.Common.{◌∙◌, ◌≡◌}

-- other conditions, whose waits are ranked, and with as many places
pub InStep-conditions : (parts : Parts) → InStep parts → (t : ConditionTable) → conds.AreRanked (priority_in (state_of parts)) t.waits
    → t.places ≡ parts.conds.places → t.limit ≡ parts.conds.limit → InStep (record parts { conds = t })
InStep-conditions parts step t ranked places limit = record {
  tied = record { known = step.tied.known; waits = step.tied.waits };
  ranked = record { requests = step.ranked.requests; waits = ranked };
  roomy = record { letters = step.roomy.letters; threads = step.roomy.threads; requests = step.roomy.requests; waits = rw places step.roomy.waits };
  monitors = step.monitors;
  conditions = limit ∙ step.conditions;
  noted = step.noted;
}
