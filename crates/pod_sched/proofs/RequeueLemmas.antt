-- A thread that goes last, with the row that it has, and one whose row says that it is blocked, or no longer.
use Rattle.pod_sched.specs.Buckets.Order.{Order, after_put_last}
use Rattle.lists.specs.ChainLists.{Lists}
use Rattle.lwp_types.specs.State.{passes}
use Rattle.pod_sched.proofs.HeldLemmas.{IsHeld-back, has_priority, of_thread, thread, view_back}
use Rattle.pod_sched.proofs.OpLemmas.{back_same}
use Rattle.pod_sched.specs.Held.{IsHeld, after_requeue, schedule_of}
use Rattle.pod_sched.specs.Schedule.{Schedule, is_blocked_in, is_eligible, is_eligible_in, knows, thread_of}
use Rattle.pod_sched.specs.Slots.{Changes, row_at}
use Rattle.pod_sched.specs.declared.rows.Known.{Known}
use Rattle.std.proofs.Common.{Bool, List, None, Option, Some, ap, false, is_some, not, refl, sym, true, ℕ, ◌&&◌, ◌∙◌, ◌≡◌}

no_and : (b : Bool) → (b && false) ≡ false
no_and true = refl
no_and false = refl

pub blocked_out : (x : Known) → is_eligible (record x { blocked = true }) ≡ false
blocked_out x = no_and (not x.suspended)

pub held_out : (x : Known) → x.suspended ≡ true → is_eligible (record x { blocked = false }) ≡ false
held_out x held = ap (λ b. not b && true) held

pub free_in : (x : Known) → x.suspended ≡ false → is_eligible (record x { blocked = false }) ≡ true
free_in x free = ap (λ b. not b && true) free

pub blocked_known : (s : Schedule) (t : ℕ) → is_blocked_in s t ≡ true → knows s t ≡ true
blocked_known s t waits = by_case (thread_of s t) waits
  where
    by_case : (o : Option Known) → passes (λ (row : Known). row.blocked) o ≡ true → is_some o ≡ true
    by_case None waits = absurd (cc)
    by_case (Some x) waits = refl

module _ (slots : Lists) (order : Order) (rows : List Known) (slot_of : ℕ → Option ℕ) (map_len room width maxpri places : ℕ)
    (held : IsHeld slots order rows slot_of map_len room width maxpri places) (t slot : ℕ) (at : slot_of t ≡ Some slot) where
  stays : Changes (row_at rows) (row_at rows) slot (row_at rows slot)
  stays = record { here = refl; others = λ s is_slot differs. refl }

  pub IsHeld-requeued : is_eligible_in (schedule_of slots order rows maxpri places) t ≡ true
      → IsHeld slots (after_put_last order slot (row_at rows slot).prio) rows slot_of map_len room width maxpri places
  IsHeld-requeued runs =
      IsHeld-back slots order rows slot_of map_len room width maxpri places held t slot at rows refl (row_at rows slot) stays
      (of_thread slots order rows slot_of map_len room width maxpri places held t slot at)
      (has_priority slots order rows slot_of map_len room width maxpri places held t slot at)
      (sym (ap (passes is_eligible) (thread slots order rows slot_of map_len room width maxpri places held t slot at)) ∙ runs)

  pub view_requeued : schedule_of slots (after_put_last order slot (row_at rows slot).prio) rows maxpri places
      ≡ after_requeue (schedule_of slots order rows maxpri places) t
  view_requeued =
      view_back slots order rows slot_of map_len room width maxpri places held t slot at rows refl (row_at rows slot) stays
      (of_thread slots order rows slot_of map_len room width maxpri places held t slot at)
      ∙ back_same (schedule_of slots order rows maxpri places) t (row_at rows slot) held.ordered
      (thread slots order rows slot_of map_len room width maxpri places held t slot at)
