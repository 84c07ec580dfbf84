-- The calls on monitors keep the nine parts.
use Rattle.lwp_types.specs.Choice.{is_eligible}
use Rattle.lwp_types.specs.Counts.{is_depth}
use Rattle.lwp_types.specs.Lawful.{NineParts}
use Rattle.lwp_types.specs.Monitors.{after_request, cond_enter, depth_in, enter, enter_case, is_owned_by_other, monitor_break, monitor_create}
use Rattle.lwp_types.specs.Monitors.{monitor_destroy, monitor_exit, monitor_waiters, with_depth, with_entry}
use Rattle.lwp_types.specs.MonitorRelease.{is_lock, is_owned_by, lock_of, release}
use Rattle.lwp_types.specs.State.{State, ThreadRow, is_not_blocked, is_thread, member, passes, still, thread_of}
use Rattle.lwp_types.specs.Case.{silent_case}
use Rattle.lwp_types.specs.declared.rows.Lock.{Lock}
use Rattle.pod_laws.proofs.Checks.{unless_keeps}
use Rattle.pod_laws.proofs.Elements.{all_found, true_of}
use Rattle.pod_laws.proofs.LetterMoves.{not_apart}
use Rattle.pod_laws.proofs.LockMoves.{NineParts-deepened, NineParts-released, NineParts-requested, NineParts-taken}
use Rattle.pod_laws.proofs.MonitorMoves.{NineParts-monitor_gone, NineParts-monitor_made}
use Rattle.pod_laws.proofs.ThreadCalls.{not_some}
use Rattle.std.proofs.Common.{Bool, None, Option, Some, ap, arith, cond, false, length, not, refl, sym, true, ℕ, ◌&&◌, ◌+◌, ◌-◌, ◌∙◌, ◌≡◌, ◌≤◌}
use Rattle.std.proofs.lemmas.Bool.{and_from, and_parts, le-leb, leb-false, leb-true}
use Rattle.std.specs.Prelude.{is_some, nat_le}

-- a depth between the bounds
pub depth_is : (n : ℕ) → 1 ≤ n → n ≤ 65535 → is_depth n ≡ true
depth_is n low high = and_from _ _ (le-leb 1 n low) (le-leb n 65535 high)

pub none_from : {X : Type 0} (o : Option X) → is_some o ≡ false → o ≡ None
none_from None e = refl
none_from (Some x) e = absurd (cc)

module _ (s : State) (d : Option ℕ) (was : NineParts s d) where
  -- the depth of a lock
  pub lock_depth : (m : ℕ) (lock : Lock) → lock_of s.locks m ≡ Some lock → is_depth lock.depth ≡ true
  lock_depth m lock found = (and_parts _ _
      (and_parts _ _ (all_found (is_lock m) (λ l. member l.mon s.monitors && (is_thread s l.owner && is_depth l.depth)) s.locks lock was.locks.1 found)).1).1

  pub monitor_create_keeps : NineParts (monitor_create s).after d
  monitor_create_keeps = unless_keeps (λ s. NineParts s d) s _ _ was (λ passed. NineParts-monitor_made s d was (leb-false 256 (length s.monitors) passed.0))

  pub monitor_destroy_keeps : (m : ℕ) → NineParts (monitor_destroy s m).after d
  monitor_destroy_keeps m =
      unless_keeps (λ s. NineParts s d) s _ _ was (λ passed. NineParts-monitor_gone s d was m (none_from (lock_of s.locks m) passed.1.0) passed.1.1.0)

  -- these two are exit calls too

  pub monitor_exit_keeps : (t m : ℕ) → NineParts (monitor_exit s t m).after d
  monitor_exit_keeps t m = unless_keeps (λ s. NineParts s d) s _ _ was
      (λ passed. by_depth (nat_le (depth_in s.locks m) 1) refl (by_lock (lock_of s.locks m) refl (true_of _ passed.1.0)))
    where
      by_lock : (o : Option Lock) → lock_of s.locks m ≡ o → passes (is_owned_by t) o ≡ true → depth_in s.locks m ≤ 65535
      by_lock None e h = absurd (cc)
      by_lock (Some lock) e h = rw e (leb-true lock.depth 65535 (and_parts _ _ (lock_depth m lock e)).1)

      by_depth : (b : Bool) → nat_le (depth_in s.locks m) 1 ≡ b → depth_in s.locks m ≤ 65535
          → NineParts (cond b (release m s) (still (record s { locks = with_depth m (depth_in s.locks m - 1) s.locks }))).after d
      by_depth true e most = NineParts-released s d was m
      by_depth false e most =
          let deep : 1 + 1 ≤ depth_in s.locks m = omega (arith, leb-false (depth_in s.locks m) 1 e) in
          NineParts-deepened s d was m (depth_in s.locks m - 1) (depth_is (depth_in s.locks m - 1) (omega arith) (omega arith))

  pub monitor_break_keeps : (m : ℕ) → NineParts (monitor_break s m).after d
  monitor_break_keeps m = unless_keeps (λ s. NineParts s d) s _ _ was (λ passed. NineParts-released s d was m)

  pub monitor_waiters_keeps : (m : ℕ) → NineParts (monitor_waiters s m).after d
  monitor_waiters_keeps m = unless_keeps (λ s. NineParts s d) s _ _ was (λ passed. was)

module _ (s : State) (was : NineParts s None) (t : ℕ) (x : ThreadRow) (known : thread_of s t ≡ Some x) (eligible : is_eligible x ≡ true) where
  free : is_not_blocked x.block ≡ true
  free = (and_parts (not x.suspended) (is_not_blocked x.block) eligible).1

  entered_keeps : (m : ℕ) → member m s.monitors ≡ true
      → passes (λ lock. is_owned_by t lock && nat_le 65535 lock.depth) (lock_of s.locks m) ≡ false → is_owned_by_other s.locks t m ≡ false
      → NineParts (enter_case s t m).after None
  entered_keeps m monitor shallow mine = by_lock (lock_of s.locks m) refl shallow mine
    where
      by_lock : (o : Option Lock) → lock_of s.locks m ≡ o → passes (λ lock. is_owned_by t lock && nat_le 65535 lock.depth) o ≡ false
          → passes (λ lock. not (is_owned_by t lock)) o ≡ false → NineParts (record s { locks = with_entry t m o s.locks }) None
      by_lock None e shallow mine =
          NineParts-taken s None was t x known (not_apart x.block free).waits (record { mon = m; owner = t; depth = 1 }) refl e monitor (ap is_some known) refl
      by_lock (Some lock) e shallow mine =
          let few : nat_le 65535 lock.depth ≡ false = sym (ap (λ b. b && nat_le 65535 lock.depth) (true_of _ mine)) ∙ shallow in
          NineParts-deepened s None was m (lock.depth + 1) (depth_is (lock.depth + 1) (omega arith) (omega (arith, leb-false 65535 lock.depth few)))

  pub enter_keeps : (m : ℕ) → NineParts (enter s t m).after None
  enter_keeps m = unless_keeps (λ s. NineParts s None) s _ _ was (λ passed. by_owner (is_owned_by_other s.locks t m) refl (true_of _ passed.0) passed.1.0)
    where
      by_owner : (b : Bool) → is_owned_by_other s.locks t m ≡ b → member m s.monitors ≡ true
          → passes (λ lock. is_owned_by t lock && nat_le 65535 lock.depth) (lock_of s.locks m) ≡ false
          → NineParts (cond b (silent_case (still (after_request s t m))) (enter_case s t m)).after None
      by_owner true e monitor shallow = NineParts-requested s None was t x known (λ e. not_some t e) free m monitor e
      by_owner false e monitor shallow = entered_keeps m monitor shallow e

  pub cond_enter_keeps : (m : ℕ) → NineParts (cond_enter s t m).after None
  cond_enter_keeps m = unless_keeps (λ s. NineParts s None) s _ _ was (λ passed. entered_keeps m (true_of _ passed.0) passed.1.1.0 passed.1.0)
