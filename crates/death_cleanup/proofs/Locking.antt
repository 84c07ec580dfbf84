-- Monitors that become free, and the threads that hold them next.
use Rattle.death_cleanup.specs.Ties.{InStep, LawfulParts}
use Rattle.death_cleanup.specs.View.{state_of}
use Rattle.death_cleanup.specs.declared.parts.Parts.{Parts}
use Rattle.lwp_types.specs.Case.{refusal_case, unless, with_zero}
use Rattle.lwp_types.specs.Monitors.{after_exit, depth_in, is_owner, monitor_break, monitor_exit, with_depth}
use Rattle.lwp_types.specs.MonitorRelease.{lock_of, next_owner, release}
use Rattle.lwp_types.specs.State.{State, is_blocked_in, is_not_blocked, member, passes, priority_in}
use Rattle.lwp_types.specs.declared.rows.Lock.{Lock}
use Rattle.lwp_types.specs.declared.call.LwpErr.TheVariants as error
use Rattle.monitors.proofs.Machine.{leaves_agree, next_agrees, ranked_exited, ranked_released, releases_agree}
use Rattle.monitors.specs.Machine.{AreRanked, with_owner}
use Rattle.monitors.specs.MonitorTable as mon
use Rattle.monitors.specs.MonitorTable.{MonitorTable}
use Rattle.monitors.specs.declared.requests.EntryRequest.{EntryRequest}
use Rattle.pod_laws.proofs.LockMoves.{next, requester}
use Rattle.std.proofs.Common.{Bool, List, None, Option, Some, ap, cond, false, not, refl, sym, true, ℕ, ◌-◌, ◌∙◌, ◌≡◌}
use Rattle.std.specs.Prelude.{IfSome, IsTrue, is_none, is_some, option_map}

module _ (parts : Parts) (step : InStep parts) where
  -- other monitors, whose requests are ranked, and with as many places
  pub InStep-monitors : (t : MonitorTable) → AreRanked (priority_in (state_of parts)) t.requests → t.places ≡ parts.mons.places
      → t.limit ≡ parts.mons.limit → InStep (record parts { mons = t })
  InStep-monitors t ranked places limit = record {
    tied = record { known = step.tied.known; waits = step.tied.waits };
    ranked = record { requests = ranked; waits = step.ranked.waits };
    roomy = record { letters = step.roomy.letters; threads = step.roomy.threads; requests = rw places step.roomy.requests; waits = step.roomy.waits };
    monitors = limit ∙ step.monitors;
    conditions = step.conditions;
    noted = step.noted;
  }

  granted-places : (t : MonitorTable) (o : Option EntryRequest) → ((mon.with_grant t o).places ≡ t.places) × ((mon.with_grant t o).limit ≡ t.limit)
  granted-places t None = (refl, refl)
  granted-places t (Some r) = (refl, refl)

  pub InStep-released : (m : ℕ) → InStep (record parts { mons = mon.after_release parts.mons m })
  InStep-released m =
      let same = granted-places (mon.after_give_up parts.mons m) (mon.next_request parts.mons m) in
      InStep-monitors (mon.after_release parts.mons m) (ranked_released (priority_in (state_of parts)) parts.mons step.ranked.requests m) same.0 same.1

  pub InStep-exited : (m : ℕ) → InStep (record parts { mons = mon.after_exit parts.mons m })
  InStep-exited m = InStep-monitors (mon.after_exit parts.mons m)
      (ranked_exited (priority_in (state_of parts)) parts.mons step.ranked.requests m) (by_test (mon.is_outermost parts.mons m)).0
      (by_test (mon.is_outermost parts.mons m)).1
    where
      by_test : (b : Bool)
          → ((cond b (mon.after_release parts.mons m) (record parts.mons { locks = with_depth m (depth_in parts.mons.locks m - 1) parts.mons.locks })).places
          ≡ parts.mons.places)
          × ((cond b (mon.after_release parts.mons m) (record parts.mons { locks = with_depth m (depth_in parts.mons.locks m - 1) parts.mons.locks })).limit
          ≡ parts.mons.limit)
      by_test true = granted-places (mon.after_give_up parts.mons m) (mon.next_request parts.mons m)
      by_test false = (refl, refl)

  -- what the machine makes of it
  pub released-is : (m : ℕ) (o : Option ℕ) → o ≡ mon.next_owner parts.mons m
      → release m (state_of parts) ≡ with_owner o (state_of (record parts { mons = mon.after_release parts.mons m }))
  released-is m o e = releases_agree parts.mons (state_of parts) step.ranked.requests m
      ∙ ap (λ u. with_owner u (state_of (record parts { mons = mon.after_release parts.mons m }))) (sym e)

  pub exited-is : (m : ℕ) (o : Option ℕ) → o ≡ mon.owner_after parts.mons m
      → after_exit m (state_of parts) ≡ with_owner o (state_of (record parts { mons = mon.after_exit parts.mons m }))
  exited-is m o e = leaves_agree parts.mons (state_of parts) step.ranked.requests m
      ∙ ap (λ u. with_owner u (state_of (record parts { mons = mon.after_exit parts.mons m }))) (sym e)

module _ (parts : Parts) (lawful : LawfulParts parts) where
  -- who is next waits
  next-waits : (m : ℕ) (r : EntryRequest) → mon.next_request parts.mons m ≡ Some r → is_blocked_in (state_of parts) r.tid ≡ true
  next-waits m r h =
      let e : next_owner (state_of parts) m
      ≡ Some (mon.machine_row r) = next_agrees parts.mons (state_of parts) lawful.step.ranked.requests m ∙ ap (option_map mon.machine_row) h in
      let who = requester (state_of parts) parts.dying lawful.nine (mon.machine_row r)
      (next (state_of parts) parts.dying lawful.nine m (mon.machine_row r) e).some in
      ap (passes (λ row. not (is_not_blocked row.block))) who.known ∙ ap (λ b. not (is_not_blocked b)) who.enters

  pub owner-waits : (m : ℕ) (o : Option ℕ) → o ≡ mon.next_owner parts.mons m → IfSome o (λ u. IsTrue (is_blocked_in (state_of parts) u))
  owner-waits m o e = rw e (by_request (mon.next_request parts.mons m) refl)
    where
      by_request : (r : Option EntryRequest) → mon.next_request parts.mons m ≡ r
          → IfSome (option_map (λ (q : EntryRequest). q.tid) r) (λ u. IsTrue (is_blocked_in (state_of parts) u))
      by_request None h = tt
      by_request (Some r) h = next-waits m r h

  pub leaver-waits : (m : ℕ) (o : Option ℕ) → o ≡ mon.owner_after parts.mons m → IfSome o (λ u. IsTrue (is_blocked_in (state_of parts) u))
  leaver-waits m o e = rw e (by_test (mon.is_outermost parts.mons m))
    where
      by_test : (b : Bool) → IfSome (cond b (mon.next_owner parts.mons m) None) (λ u. IsTrue (is_blocked_in (state_of parts) u))
      by_test true = owner-waits m (mon.next_owner parts.mons m) refl
      by_test false = tt

-- who has no owner is free
pub free-is : (locks : List Lock) (m : ℕ) (o : Option ℕ) (b : Bool) → o ≡ option_map (λ (lock : Lock). lock.owner) (lock_of locks m)
    → is_some o ≡ b → is_none (lock_of locks m) ≡ not b
free-is locks m o b owner is = by_lock (lock_of locks m) (ap is_some (sym owner) ∙ is)
  where
    by_lock : (l : Option Lock) → is_some (option_map (λ (lock : Lock). lock.owner) l) ≡ b → is_none l ≡ not b
    by_lock None e = ap not e
    by_lock (Some lock) e = ap not e

-- the calls, by what they ask first

module _ (s : State) (t m : ℕ) where
  pub exit-absent : member m s.monitors ≡ false → monitor_exit s t m ≡ refusal_case s error.NonExist
  unfolding unless
  exit-absent none = rw none refl

  pub exit-other : member m s.monitors ≡ true → is_owner s.locks t m ≡ false → monitor_exit s t m ≡ refusal_case s error.InvalidArg
  unfolding unless
  exit-other live other = rw (live, other) refl

  pub exit-own : member m s.monitors ≡ true → is_owner s.locks t m ≡ true → monitor_exit s t m ≡ with_zero (after_exit m s)
  unfolding unless
  exit-own live own = rw (live, own) refl

module _ (s : State) (m : ℕ) where
  pub break-absent : member m s.monitors ≡ false → monitor_break s m ≡ refusal_case s error.NonExist
  unfolding unless
  break-absent none = rw none refl

  pub break-free : member m s.monitors ≡ true → is_none (lock_of s.locks m) ≡ true → monitor_break s m ≡ refusal_case s error.NotOwned
  unfolding unless
  break-free live free = rw (live, free) refl

  pub break-held : member m s.monitors ≡ true → is_none (lock_of s.locks m) ≡ false → monitor_break s m ≡ with_zero (release m s)
  unfolding unless
  break-held live held = rw (live, held) refl
