-- A monitor or a condition is born, or none may be.
use Rattle.conditions.specs.ConditionTable as table
use Rattle.conditions.specs.ConditionTable.{ConditionTable}
use Rattle.death_cleanup.proofs.Locking.{InStep-monitors}
use Rattle.death_cleanup.specs.Ties.{InStep}
use Rattle.death_cleanup.specs.View.{state_of}
use Rattle.death_cleanup.specs.declared.parts.Parts.{Parts}
use Rattle.lwp_calls.proofs.Tables.{InStep-conditions}
use Rattle.lwp_types.specs.Case.{Case, answer_case, refusal_case, unless}
use Rattle.lwp_types.specs.Conditions.{condition_create}
use Rattle.lwp_types.specs.Monitors.{monitor_create}
use Rattle.lwp_types.specs.State.{State, member}
use Rattle.lwp_types.specs.declared.call.Answer.TheVariants as answer
use Rattle.lwp_types.specs.declared.call.LwpErr.TheVariants as error
use Rattle.monitors.proofs.Machine.{births_agree}
use Rattle.monitors.specs.Machine.{birth_case}
use Rattle.monitors.specs.MonitorTable as mon
use Rattle.std.proofs.Common.{Bool, None, Some, [], ap, cond, false, length, refl, sym, true, ℕ, ◌++◌, ◌+◌, ◌∙◌, ◌∷◌, ◌≡◌, ◌||◌}
use Rattle.std.specs.Prelude.{nat_le}

module _ (parts : Parts) (step : InStep parts) where
  abbrev pub with_monitor : Parts
  with_monitor = record parts { mons = mon.after_create parts.mons }

  pub InStep-monitor : InStep with_monitor
  InStep-monitor = by_full (mon.is_full parts.mons)
    where
      by_full : (b : Bool)
          → InStep (record parts {
            mons = cond b parts.mons (record parts.mons { monitors = parts.mons.monitors ++ parts.mons.births ∷ []; births = parts.mons.births + 1 });
          })
      by_full true = step
      by_full false = InStep-monitors parts step
          (record parts.mons { monitors = parts.mons.monitors ++ parts.mons.births ∷ []; births = parts.mons.births + 1 }) step.ranked.requests refl refl

  pub monitor-none : None ≡ mon.newborn parts.mons → monitor_create (state_of parts) ≡ refusal_case (state_of with_monitor) error.NoRoom
  monitor-none none = births_agree parts.mons (state_of parts) step.monitors
      ∙ ap (λ o. birth_case o (state_of parts) (state_of with_monitor)) (sym none)
      ∙ ap (λ (s : State). refusal_case s error.NoRoom) (by_full (mon.is_full parts.mons) none)
    where
      by_full : (b : Bool) → None ≡ cond b None (Some parts.mons.births)
          → state_of parts
          ≡ state_of (record parts {
            mons = cond b parts.mons (record parts.mons { monitors = parts.mons.monitors ++ parts.mons.births ∷ []; births = parts.mons.births + 1 });
          })
      by_full true e = refl
      by_full false e = absurd (cc)

  pub monitor-some : (m : ℕ) → Some m ≡ mon.newborn parts.mons → monitor_create (state_of parts) ≡ answer_case (state_of with_monitor) (answer.Monitor m)
  monitor-some m some = births_agree parts.mons (state_of parts) step.monitors ∙ ap (λ o. birth_case o (state_of parts) (state_of with_monitor)) (sym some)

module _ (parts : Parts) (step : InStep parts) (m : ℕ) where
  pub condition-absent : member m parts.mons.monitors ≡ false → condition_create (state_of parts) m ≡ refusal_case (state_of parts) error.NonExist
  unfolding unless
  condition-absent none = rw none refl

  abbrev pub with_condition : Parts
  with_condition = record parts { conds = table.after_create parts.conds m }

  abbrev one_more : ConditionTable
  one_more = record parts.conds { conditions = parts.conds.conditions ++ record { number = parts.conds.births; mon = m } ∷ []; births = parts.conds.births + 1 }

  pub InStep-condition : InStep with_condition
  InStep-condition = by_full (table.is_full parts.conds)
    where
      by_full : (b : Bool) → InStep (record parts { conds = cond b parts.conds one_more })
      by_full true = step
      by_full false = InStep-conditions parts step one_more step.ranked.waits refl refl

  module _ (live : member m parts.mons.monitors ≡ true) where
    abbrev tried : Bool → Bool → Case
    tried full last = cond full (refusal_case (state_of parts) error.NoRoom)
        (cond last (refusal_case (state_of parts) error.NoRoom) (answer_case (state_of (record parts { conds = one_more })) (answer.Cond parts.conds.births)))

    is-tried : condition_create (state_of parts) m ≡ tried (nat_le 256 (length parts.conds.conditions)) (nat_le parts.conds.limit parts.conds.births)
    unfolding unless
    is-tried = rw (live, step.conditions) refl

    pub condition-none : None ≡ table.newborn parts.conds → condition_create (state_of parts) m ≡ refusal_case (state_of with_condition) error.NoRoom
    condition-none none = is-tried ∙ by_tests (nat_le 256 (length parts.conds.conditions)) (nat_le parts.conds.limit parts.conds.births) none
      where
        by_tests : (full last : Bool) → None ≡ cond (full || last) None (Some parts.conds.births)
            → tried full last ≡ refusal_case (state_of (record parts { conds = cond (full || last) parts.conds one_more })) error.NoRoom
        by_tests true last e = refl
        by_tests false true e = refl
        by_tests false false e = absurd (cc)

    pub condition-some : (n : ℕ) → Some n ≡ table.newborn parts.conds
        → condition_create (state_of parts) m ≡ answer_case (state_of with_condition) (answer.Cond n)
    condition-some n some = is-tried ∙ by_tests (nat_le 256 (length parts.conds.conditions)) (nat_le parts.conds.limit parts.conds.births) some
      where
        by_tests : (full last : Bool) → Some n ≡ cond (full || last) None (Some parts.conds.births)
            → tried full last ≡ answer_case (state_of (record parts { conds = cond (full || last) parts.conds one_more })) (answer.Cond n)
        by_tests true last e = absurd (cc)
        by_tests false true e = absurd (cc)
        by_tests false false e =
            ap (λ k. answer_case (state_of (record parts { conds = one_more })) (answer.Cond k)) (let same : n ≡ parts.conds.births = cc in sym same)
