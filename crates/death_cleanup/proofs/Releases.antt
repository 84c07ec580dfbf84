-- A dying thread leaves its monitors.
use Rattle.death_cleanup.proofs.Draining.{Draining, done, fewer, first_room, goes_on}
use Rattle.death_cleanup.proofs.Fronts.{Front, found_first, found_none}
use Rattle.death_cleanup.specs.Comes.{CameTo}
use Rattle.death_cleanup.specs.Ties.{LawfulParts}
use Rattle.death_cleanup.specs.View.{state_of}
use Rattle.death_cleanup.specs.declared.parts.Parts.{Parts}
use Rattle.lwp_types.specs.CountLaws.{count-cons, count-reverse, count_not_found, one}
use Rattle.lwp_types.specs.Death.{release_all}
use Rattle.lwp_types.specs.Lawful.{NineParts}
use Rattle.lwp_types.specs.MonitorRelease.{is_lock, is_owned_by, last_lock, lock_of, release}
use Rattle.lwp_types.specs.State.{State, times_in}
use Rattle.lwp_types.specs.declared.call.Effect.{Effect}
use Rattle.lwp_types.specs.declared.rows.Lock.{Lock}
use Rattle.pod_laws.proofs.DeathLoops.{owned, release_first}
use Rattle.pod_laws.proofs.Drains.{keys_times}
use Rattle.std.proofs.Common.{List, None, Option, Some, ap, arith, eqb, false, length, refl, reverse, ℕ, ◌<◌, ◌∙◌, ◌≡◌, ◌≤◌}
use Rattle.std.proofs.lemmas.Bool.{eq-eqb}
use Rattle.std.specs.List.{count_by}
use Rattle.std.specs.Prelude.{is_none, option_map}

module _ (t : ℕ) where
  abbrev pub list : State → List ℕ
  list s = owned s.locks t

  abbrev pub Keeps : State → Type 0
  Keeps s = NineParts s (Some t)

  abbrev last : List Lock → Option ℕ
  last locks = option_map (λ (lock : Lock). lock.mon) (last_lock locks t)

  module _ (start : Parts) (before : List Effect) (parts : Parts) (after : List Effect) (dying : start.dying ≡ Some t)
      (h : Draining Keeps list release 1 start before parts after) where
    pub lock_lawful : LawfulParts parts
    lock_lawful = record { nine = rw (h.dying ∙ dying) h.keeps; step = h.step }

    module _ (m : ℕ) (found : last parts.mons.locks ≡ Some m) where
      front : Front (list (state_of parts)) m
      front = found_first (λ (lock : Lock). lock.mon) (is_owned_by t) (reverse parts.mons.locks) m found

      pub lock_held : is_none (lock_of parts.mons.locks m) ≡ false
      lock_held = by_lock (lock_of parts.mons.locks m) refl
        where
          some : 1 ≤ count_by (is_lock m) parts.mons.locks
          some = omega (
            arith,
            ap (λ ns. times_in ns m) front.is,
            count-cons (λ n. eqb n m) m front.rest,
            ap one (eq-eqb m m refl),
            keys_times (λ (lock : Lock). lock.mon) (is_owned_by t) m (reverse parts.mons.locks),
            count-reverse (is_lock m) parts.mons.locks,
          )

          by_lock : (o : Option Lock) → lock_of parts.mons.locks m ≡ o → is_none o ≡ false
          by_lock None e = absurd (omega (arith, some, count_not_found (is_lock m) parts.mons.locks e))
          by_lock (Some lock) e = refl

      pub lock_room : length after < 2048
      lock_room = omega (arith, first_room Keeps list release (release_first t) 1 start before parts after h m front.rest front.is)

      module _ (new : Parts) (now : List Effect) (came : CameTo parts new after now (release m (state_of parts))) where
        pub lock_fewer : length (list (state_of new)) < length (list (state_of parts))
        lock_fewer = fewer Keeps list release (release_first t) 1 start before parts after h m front.rest front.is new now came

        pub lock_on : Draining Keeps list release 1 start before new now
        lock_on = goes_on Keeps list release (release_first t) 1 start before parts after h m front.rest front.is new now came

    pub locks_over : last parts.mons.locks ≡ None → CameTo start parts before after (release_all t (state_of start))
    locks_over none = done Keeps list release (release_first t) 1 start before parts after h
        (found_none (λ (lock : Lock). lock.mon) (is_owned_by t) (reverse parts.mons.locks) none)
