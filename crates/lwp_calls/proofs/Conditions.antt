-- Calls on conditions, by what they ask first.
use Rattle.lwp_types.specs.Case.{list_case, refusal_case, unless, value_case}
use Rattle.lwp_types.specs.Conditions.{condition_destroy, condition_of, condition_waiters, wait, waits_on, without_condition}
use Rattle.lwp_types.specs.MonitorRelease.{last_lock}
use Rattle.lwp_types.specs.Monitors.{is_waited_in}
use Rattle.lwp_types.specs.State.{State, passes}
use Rattle.lwp_types.specs.declared.call.IdKind.TheVariants as kind
use Rattle.lwp_types.specs.declared.call.LwpErr.TheVariants as error
use Rattle.lwp_types.specs.declared.rows.CondRow.{CondRow}
use Rattle.lwp_types.specs.declared.rows.WaitRow.{WaitRow}
use Rattle.std.proofs.Common.{Bool, List, None, Option, Some, ap, eqb, false, map, not, refl, sym, true, ℕ, ◌∙◌, ◌≡◌}
use Rattle.std.specs.Prelude.{is_none, is_some, option_map}

-- there is the condition, if it has a monitor
pub there : (rows : List CondRow) (c : ℕ) (o : Option ℕ) (b : Bool) → o ≡ option_map (λ (row : CondRow). row.mon) (condition_of rows c)
    → is_some o ≡ b → is_none (condition_of rows c) ≡ not b
there rows c o b e is = by_row (condition_of rows c) (ap is_some (sym e) ∙ is)
  where
    by_row : (p : Option CondRow) → is_some (option_map (λ (row : CondRow). row.mon) p) ≡ b → is_none p ≡ not b
    by_row None h = ap not h
    by_row (Some row) h = ap not h

module _ (s : State) (c : ℕ) where
  pub destroy-absent : is_none (condition_of s.conditions c) ≡ true → condition_destroy s c ≡ refusal_case s error.NonExist
  unfolding unless
  destroy-absent none = rw none refl

  pub destroy-waited : is_none (condition_of s.conditions c) ≡ false → is_waited_in s.waits c ≡ true → condition_destroy s c ≡ refusal_case s error.InUse
  unfolding unless
  destroy-waited live waited = rw (live, waited) refl

  pub destroy-idle : is_none (condition_of s.conditions c) ≡ false → is_waited_in s.waits c ≡ false
      → condition_destroy s c ≡ value_case (record s { conditions = without_condition c s.conditions }) 0
  unfolding unless
  destroy-idle live idle = rw (live, idle) refl

  pub waiters-absent : is_none (condition_of s.conditions c) ≡ true → condition_waiters s c ≡ refusal_case s error.NonExist
  unfolding unless
  waiters-absent none = rw none refl

  pub waiters-live : is_none (condition_of s.conditions c) ≡ false
      → condition_waiters s c ≡ list_case s kind.Thread (map (λ (w : WaitRow). w.tid) (waits_on s.waits c))
  unfolding unless
  waiters-live live = rw live refl

module _ (s : State) (t c : ℕ) where
  pub wait-absent : condition_of s.conditions c ≡ None → wait s t c ≡ refusal_case s error.NonExist
  unfolding unless
  wait-absent none = rw none refl

  pub wait-other : (m : ℕ) → condition_of s.conditions c ≡ Some (record { number = c; mon = m })
      → passes (λ lock. eqb m lock.mon) (last_lock s.locks t) ≡ false → wait s t c ≡ refusal_case s error.NotOwned
  unfolding unless
  wait-other m found other = rw (found, other) refl
