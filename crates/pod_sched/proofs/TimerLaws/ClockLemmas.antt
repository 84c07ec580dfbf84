-- The timers once a leaf is emptied.
use Rattle.lwp_types.specs.State.{passes}
use Rattle.lwp_types.specs.Time.{is_due}
use Rattle.lwp_types.specs.Unblock.{is_timer_of, without_timer}
use Rattle.lwp_types.specs.declared.rows.TimerRow.{TimerRow}
use Rattle.std.proofs.Common.{Bool, List, None, Option, Some, get_or, length, refl, set, true, ℕ, ◌<◌, ◌∙◌, ◌≡◌}
use Rattle.std.proofs.lemmas.Bool.{eqb-true}
use Rattle.pod_sched.proofs.TimerLaws.LeavesLemmas.{first_found, living-emptied, none_found}
use Rattle.pod_sched.specs.Timers.Clock.{Clock, first_due, without_found}
use Rattle.pod_sched.specs.Timers.Leaves.{IsOnce, first_of}
use Rattle.lists.specs.Living.{living}

-- a clock with these timers
abbrev pub timed : ℕ → ℕ → List TimerRow → Clock
timed now places timers = record { timers = timers; now = now; places = places }

passed_none : (p : TimerRow → Bool) (o : Option TimerRow) → passes p o ≡ true → o ≡ None → ⊥
passed_none p None passed none = absurd (cc)
passed_none p (Some row) passed none = absurd (cc)

module _ (leaves : List (Option TimerRow)) (leaf : ℕ) where
  module _ (p : TimerRow → Bool) (is : first_of p leaves ≡ Some leaf) where
    pub leaf_in : leaf < length leaves
    leaf_in = (first_found p leaves leaf is).within

    pub leaf_has : get_or leaves leaf None ≡ None → ⊥
    leaf_has none = passed_none p (get_or leaves leaf None) (first_found p leaves leaf is).passed none

  pub due_row : (now : ℕ) (row : TimerRow) → first_of (is_due now) leaves ≡ Some leaf → get_or leaves leaf None ≡ Some row
      → first_due (living leaves) now ≡ Some row
  due_row now row is here = (first_found (is_due now) leaves leaf is).is_first ∙ here

  pub popped_leaf : IsOnce leaves → (now : ℕ) (row : TimerRow) → first_of (is_due now) leaves ≡ Some leaf
      → get_or leaves leaf None ≡ Some row → living (set leaves leaf None) ≡ without_found (first_due (living leaves) now) (living leaves)
  popped_leaf once now row is here = rw (due_row now row is here) (living-emptied leaves leaf row here (once row.tid))

  pub dropped_leaf : IsOnce leaves → (t : ℕ) → first_of (is_timer_of t) leaves ≡ Some leaf → living (set leaves leaf None) ≡ without_timer t (living leaves)
  dropped_leaf once t is = by_leaf (get_or leaves leaf None) refl (first_found (is_timer_of t) leaves leaf is).passed
    where
      by_leaf : (o : Option TimerRow) → get_or leaves leaf None ≡ o → passes (is_timer_of t) o ≡ true
          → living (set leaves leaf None) ≡ without_timer t (living leaves)
      by_leaf None here passed = absurd (cc)
      by_leaf (Some row) here passed =
          let same : row.tid ≡ t = eqb-true row.tid t passed in
          rw same at (living-emptied leaves leaf row here (once row.tid))

module _ (leaves : List (Option TimerRow)) (now : ℕ) (none : first_of (is_due now) leaves ≡ None) where
  pub none_due : first_due (living leaves) now ≡ None
  none_due = none_found (is_due now) leaves none

  pub popped_none : without_found (first_due (living leaves) now) (living leaves) ≡ living leaves
  popped_none = rw none_due refl
