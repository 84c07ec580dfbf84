-- Where nobody is dying, the scheduler and the machine's state agree on every thread.
use Rattle.death_cleanup.proofs.Looks.{shows, waits}
use Rattle.death_cleanup.specs.Ties.{IsTied}
use Rattle.death_cleanup.specs.View.{state_of}
use Rattle.death_cleanup.specs.declared.parts.Parts.{Parts}
use Rattle.lwp_types.specs.Choice.{better_by, choice, is_eligible, is_eligible_in}
use Rattle.lwp_types.specs.Lawful.{is_same_option}
use Rattle.lwp_types.specs.State.{ThreadRow, is_not_blocked, is_thread, passes, priority_in, thread_of}
use Rattle.pod_sched.specs.Schedule as sched
use Rattle.pod_sched.specs.Schedule.{newcomer}
use Rattle.pod_sched.specs.declared.rows.Known.{Known}
use Rattle.std.proofs.Common.{Bool, List, None, Option, Some, [], ap, cond, false, not, refl, sym, true, ℕ, ◌&&◌, ◌∙◌, ◌∷◌, ◌≡◌}
use Rattle.std.specs.List.{find, fold}
use Rattle.std.specs.Prelude.{is_some, option_map, unwrap_or, ◌==◌}

and_true : (b : Bool) → (b && true) ≡ b
and_true true = refl
and_true false = refl

not_not : (b : Bool) → not (not b) ≡ b
not_not true = refl
not_not false = refl

module _ (parts : Parts) (tied : IsTied parts) (alone : parts.dying ≡ None) where
  -- who is known is a thread
  pub known-same : (t : ℕ) → sched.knows parts.sched t ≡ is_thread (state_of parts) t
  known-same t = tied.known t ∙ ap (λ o. is_thread (state_of parts) t && not (is_same_option o t)) alone ∙ and_true (is_thread (state_of parts) t)

  pub priority-same : (t : ℕ) → priority_in (state_of parts) t ≡ sched.priority_in parts.sched t
  priority-same t = by_rows (thread_of (state_of parts) t) (sched.thread_of parts.sched t) (known-same t)
      (λ row e. (shows parts.last_prio t parts.sched.threads parts.ids.live row e).1)
    where
      by_rows : (o : Option ThreadRow) (k : Option Known) → is_some k ≡ is_some o
          → ((row : ThreadRow) → o ≡ Some row → row.priority ≡ (unwrap_or k (newcomer t parts.last_prio false)).prio)
          → unwrap_or (option_map (λ (row : ThreadRow). row.priority) o) 0 ≡ unwrap_or (option_map (λ (row : Known). row.prio) k) 0
      by_rows None None same shown = refl
      by_rows (Some row) (Some k) same shown = shown row refl
      by_rows None (Some k) same shown = absurd (cc)
      by_rows (Some row) None same shown = absurd (cc)

  pub eligible-same : (t : ℕ) → is_eligible_in (state_of parts) t ≡ sched.is_eligible_in parts.sched t
  eligible-same t = by_rows (thread_of (state_of parts) t) (sched.thread_of parts.sched t) (known-same t) (tied.waits t)
      (λ row e. (shows parts.last_prio t parts.sched.threads parts.ids.live row e).0)
    where
      by_rows : (o : Option ThreadRow) (k : Option Known) → is_some k ≡ is_some o → passes (λ (row : Known). row.blocked) k ≡ passes waits o
          → ((row : ThreadRow) → o ≡ Some row → row.suspended ≡ (unwrap_or k (newcomer t parts.last_prio false)).suspended)
          → passes is_eligible o ≡ passes sched.is_eligible k
      by_rows None None same blocked shown = refl
      by_rows (Some row) (Some k) same blocked shown =
          ap (λ b. not b && is_not_blocked row.block) (shown row refl)
          ∙ ap (λ b. not k.suspended && b) (sym (not_not (is_not_blocked row.block)) ∙ ap not (sym blocked))
      by_rows None (Some k) same blocked shown = absurd (cc)
      by_rows (Some row) None same blocked shown = absurd (cc)

  pub choice-same : choice (state_of parts) ≡ sched.choice parts.sched
  choice-same = fold-same None parts.sched.order
    where
      better-same : (best : Option ℕ) (x : ℕ) → better_by (priority_in (state_of parts)) best x ≡ better_by (sched.prio_in parts.sched.threads) best x
      better-same None x = refl
      better-same (Some y) x = rw (priority-same x, priority-same y) refl

      fold-same : (best : Option ℕ) (xs : List ℕ)
          → fold (better_by (priority_in (state_of parts))) best xs ≡ fold (better_by (sched.prio_in parts.sched.threads)) best xs
      fold-same best [] = refl
      fold-same best (x ∷ xs) = ap (λ b. fold (better_by (priority_in (state_of parts))) b xs) (better-same best x)
          ∙ fold-same (better_by (sched.prio_in parts.sched.threads) best x) xs

  -- the first of a priority
  pub first-same : (p : ℕ) (xs : List ℕ) → find (λ t. priority_in (state_of parts) t == p) xs ≡ find (λ t. sched.priority_in parts.sched t == p) xs
  first-same p [] = refl
  first-same p (x ∷ xs) = ap (λ n. cond (n == p) (Some x) (find (λ t. priority_in (state_of parts) t == p) xs)) (priority-same x)
      ∙ ap (λ o. cond (sched.priority_in parts.sched x == p) (Some x) o) (first-same p xs)
