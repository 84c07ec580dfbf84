-- More places than before.
use Rattle.death_cleanup.proofs.Notes.{noted-roomier}
use Rattle.death_cleanup.specs.Comes.{CameTo}
use Rattle.death_cleanup.specs.Ties.{InStep, LawfulParts}
use Rattle.death_cleanup.specs.View.{state_of}
use Rattle.death_cleanup.specs.declared.parts.Parts.{Parts}
use Rattle.death_cleanup.specs.declared.rows.Kind.{Kind}
use Rattle.lwp_types.specs.Lawful.{NineParts}
use Rattle.lwp_types.specs.ListLaws.{All-weaker}
use Rattle.lwp_types.specs.State.{State, still}
use Rattle.stale_ids.specs.Register.{AreBorn, AreRising}
use Rattle.std.proofs.Common.{List, None, Option, [], arith, length, refl, subst, ℕ, ◌+◌, ◌<◌, ◌∷◌, ◌≡◌, ◌≤◌}
use Rattle.std.specs.List.{AllByRecursion}

-- the law, where nobody is dying
pub nine : (parts : Parts) → LawfulParts parts → parts.dying ≡ None → NineParts (state_of parts) None
nine parts lawful alone = subst (λ (d : Option ℕ). NineParts (state_of parts) d) alone lawful.nine

-- the parts with so many places
abbrev pub grown : Parts → ℕ → ℕ → ℕ → ℕ → ℕ → ℕ → Parts
grown parts i s m q w n = record parts {
  ids = record parts.ids { places = i };
  sched = record parts.sched { places = s };
  mail = record parts.mail { places = m };
  mons = record parts.mons { places = q };
  conds = record parts.conds { places = w };
  named = record parts.named { places = n };
}

pub InStep-grown : (parts : Parts) → InStep parts → (i s m q w n : ℕ) → parts.sched.places ≤ s → parts.mail.places ≤ m
    → parts.mons.places ≤ q → parts.conds.places ≤ w → parts.named.places ≤ n → InStep (grown parts i s m q w n)
InStep-grown parts step i s m q w n more-s more-m more-q more-w more-n = record {
  tied = record { known = step.tied.known; waits = step.tied.waits };
  ranked = record { requests = step.ranked.requests; waits = step.ranked.waits };
  roomy = record {
    letters = omega (arith, more-m, step.roomy.letters);
    threads = omega (arith, more-s, step.roomy.threads);
    requests = omega (arith, more-q, step.roomy.requests);
    waits = omega (arith, more-w, step.roomy.waits);
  };
  monitors = step.monitors;
  conditions = step.conditions;
  noted = noted-roomier parts.named n parts.ids.live more-n step.noted;
}

pub came_grown : (parts : Parts) → InStep parts → (i s m q w n : ℕ) → parts.sched.places ≤ s → parts.mail.places ≤ m → parts.mons.places ≤ q
    → parts.conds.places ≤ w → parts.named.places ≤ n → CameTo parts (grown parts i s m q w n) [] [] (still (state_of parts))
came_grown parts step i s m q w n more-s more-m more-q more-w more-n = record {
  state = refl;
  effects = refl;
  step = InStep-grown parts step i s m q w n more-s more-m more-q more-w more-n;
  dying = refl;
}

-- each that lives was born, so that no more live than were born
born_from : (low births : ℕ) (living : List (ℕ × Kind)) → low ≤ births → AllByRecursion (λ (p : ℕ × Kind). low ≤ p.0) living
    → AreRising living → AreBorn births living → length living + low ≤ births
born_from low births [] least lows rising born = omega arith
born_from low births (p ∷ living) least lows rising born =
    let later = born_from (p.0 + 1) births living (let less : p.0 < births = born.0 in omega arith)
    (All-weaker (λ (q : ℕ × Kind). p.0 < q.0) (λ (q : ℕ × Kind). p.0 + 1 ≤ q.0) (λ q less. omega arith) living rising.0) rising.1 born.1 in
    let above : low ≤ p.0 = lows.0 in
    omega (arith, later, above)

all_from_zero : (living : List (ℕ × Kind)) → AllByRecursion (λ (p : ℕ × Kind). 0 ≤ p.0) living
all_from_zero [] = tt
all_from_zero (p ∷ living) = (omega arith, all_from_zero living)

pub few_live : (births : ℕ) (living : List (ℕ × Kind)) → AreRising living → AreBorn births living → length living ≤ births
few_live births living rising born = omega (arith, born_from 0 births living (omega arith) (all_from_zero living) rising born)

pub few_agents : (s : State) → NineParts s None → length s.agents ≤ 256
few_agents s was = was.owners.3

-- more places for agents, and for their letters
abbrev pub agents_grown : Parts → ℕ → ℕ → ℕ → Parts
agents_grown parts i a m = record parts {
  ids = record parts.ids { places = i };
  agents = record parts.agents { places = a };
  mail = record parts.mail { places = m };
}

pub came_agents_grown : (parts : Parts) → InStep parts → (i a m : ℕ) → parts.mail.places ≤ m
    → CameTo parts (agents_grown parts i a m) [] [] (still (state_of parts))
came_agents_grown parts step i a m more = record {
  state = refl;
  effects = refl;
  step = record {
    tied = record { known = step.tied.known; waits = step.tied.waits };
    ranked = record { requests = step.ranked.requests; waits = step.ranked.waits };
    roomy = record {
      letters = omega (arith, more, step.roomy.letters);
      threads = step.roomy.threads;
      requests = step.roomy.requests;
      waits = step.roomy.waits;
    };
    monitors = step.monitors;
    conditions = step.conditions;
    noted = step.noted;
  };
  dying = refl;
}
