-- Changes that touch no thread.
use Rattle.death_cleanup.specs.Ties.{InStep}
use Rattle.death_cleanup.specs.declared.parts.Parts.{Parts}
use Rattle.std.proofs.Common.{Bool, List, ℕ}

-- another order, and other numbers
pub InStep-levels : (parts : Parts) → InStep parts → (order : List ℕ) (maxpri exit : ℕ) (ended : Bool)
    → InStep (record parts { sched = record parts.sched { order = order; maxpri = maxpri }; exit = exit; ended = ended })
InStep-levels parts step order maxpri exit ended = record {
  tied = record { known = step.tied.known; waits = step.tied.waits };
  ranked = record { requests = step.ranked.requests; waits = step.ranked.waits };
  roomy = record { letters = step.roomy.letters; threads = step.roomy.threads; requests = step.roomy.requests; waits = step.roomy.waits };
  monitors = step.monitors;
  conditions = step.conditions;
  noted = step.noted;
}
