-- Each call keeps the invariant of the fields of `Monitors`, and has room for the lock that it adds.
use Rattle.lwp_types.specs.CountLaws.{any_counted, count-failed, count-filter-le, count-map, count-push, count-reverse, count_any, count_found}
use Rattle.lwp_types.specs.CountLaws.{count_found_by, count_not_found, find_none, length-failed, one, times-without_other}
use Rattle.lwp_types.specs.FirstLaws.{best_passes}
use Rattle.lwp_types.specs.MonitorRelease.{is_lock, is_owned_by, last_lock, lock_of, locks_on, without_lock}
use Rattle.lwp_types.specs.Monitors.{lock_with_depth, with_depth}
use Rattle.lwp_types.specs.State.{times_in}
use Rattle.lwp_types.specs.declared.rows.Lock.{Lock}
use Rattle.monitors.proofs.LiveLaws.{All-without, AreRising-push, AreRising-without, born-push}
use Rattle.monitors.proofs.Room.{length-locks-le, length-locks-lt}
use Rattle.monitors.specs.Kept.{IsKept}
use Rattle.monitors.specs.MonitorTable.{MonitorTable, after_destroy, after_give_up, is_free, is_live, next_request, with_grant}
use Rattle.monitors.specs.declared.requests.EntryRequest.{EntryRequest}
use Rattle.std.proofs.Common.{List, None, Option, Some, [], ap, arith, eqb, false, inl, inr, is_none, length}
use Rattle.std.proofs.Common.{refl, reverse, sym, true, ℕ, ◌++◌, ◌+◌, ◌<◌, ◌∙◌, ◌∷◌, ◌≡◌, ◌≤◌}
use Rattle.std.proofs.lemmas.Bool.{cases_eq, eq-eqb, eqb-true, ne_eqb}
use Rattle.std.proofs.lemmas.List.{length_push}
use Rattle.std.specs.Prelude.{option_map}

-- a lock that is there, or that isn't

none_there : {A : Type 0} (o : Option A) → is_none o ≡ true → o ≡ None
none_there None e = refl
none_there (Some x) e = absurd (cc)

module _ (s : MonitorTable) (m : ℕ) where
  pub held_free : is_free s m ≡ true → locks_on s.locks m ≡ 0
  held_free free = count_not_found (is_lock m) s.locks (none_there (lock_of s.locks m) free)

  pub held_not_free : is_free s m ≡ false → 1 ≤ locks_on s.locks m
  held_not_free taken = by_lock (lock_of s.locks m) refl taken
    where
      by_lock : (o : Option Lock) → lock_of s.locks m ≡ o → is_none o ≡ false → 1 ≤ locks_on s.locks m
      by_lock None e none = absurd (cc)
      by_lock (Some lock) e none = count_found (is_lock m) s.locks lock e

  -- the monitor that a thread acquired last is held
  pub held-last : (t : ℕ) → option_map (λ (lock : Lock). lock.mon) (last_lock s.locks t) ≡ Some m → is_free s m ≡ false
  held-last t last = by_last (last_lock s.locks t) refl last
    where
      by_lock : (o : Option Lock) → lock_of s.locks m ≡ o → 1 ≤ locks_on s.locks m → is_none o ≡ false
      by_lock None e some = absurd (omega (arith, some, count_not_found (is_lock m) s.locks e))
      by_lock (Some lock) e some = refl

      by_last : (o : Option Lock) → last_lock s.locks t ≡ o → option_map (λ (lock : Lock). lock.mon) o ≡ Some m → is_free s m ≡ false
      by_last None e its = absurd (cc)
      by_last (Some lock) e its =
          let here = count_found_by (is_owned_by t) (is_lock m) (reverse s.locks) lock e (eq-eqb lock.mon m (cc)) in
          by_lock (lock_of s.locks m) refl (omega (arith, here, count-reverse (is_lock m) s.locks))

module _ {s : MonitorTable} {lock_room : ℕ} (was : IsKept s lock_room) where
  -- the same locks of the same monitors, whatever requests wait
  pub kept_requests : (rs : List EntryRequest) → IsKept (record s { requests = rs }) lock_room
  kept_requests rs = record { held_once = was.held_once; held_live = was.held_live; locks_fit = was.locks_fit; rising = was.rising; born = was.born }

  kept_locks : (locks : List Lock) → ((m : ℕ) → locks_on locks m ≤ 1) → ((m : ℕ) → locks_on locks m ≤ times_in s.monitors m)
      → IsKept (record s { locks = locks }) lock_room
  kept_locks locks once live = record { held_once = once; held_live = live; locks_fit = was.locks_fit; rising = was.rising; born = was.born }

  pub length-kept_locks : length s.locks ≤ length s.monitors
  length-kept_locks = length-locks-le s.locks s.monitors was.held_once was.held_live

  -- a held monitor is live
  pub is_live-held : (m : ℕ) → is_free s m ≡ false → is_live s m ≡ true
  is_live-held m taken = any_counted (λ k. eqb k m) s.monitors (omega (arith, held_not_free s m taken, was.held_live m))

  pub IsKept-created : (births room : ℕ) → s.births < births → length s.monitors + 1 ≤ room
      → IsKept (record s { monitors = s.monitors ++ s.births ∷ []; births = births }) room
  IsKept-created births room later more = record {
    held_once = was.held_once;
    held_live = λ m. omega (arith, was.held_live m, count-push (λ k. eqb k m) s.monitors s.births);
    locks_fit = omega (arith, more, length_push s.monitors s.births);
    rising = AreRising-push s.monitors s.births was.rising was.born;
    born = born-push s.monitors s.births births was.born later;
  }

  pub IsKept-roomier : (room : ℕ) → length s.monitors ≤ room → IsKept s room
  IsKept-roomier room more = record { held_once = was.held_once; held_live = was.held_live; locks_fit = more; rising = was.rising; born = was.born }

  pub IsKept-destroyed : (m : ℕ) → is_free s m ≡ true → IsKept (after_destroy s m) lock_room
  IsKept-destroyed m free = record {
    held_once = was.held_once;
    held_live = λ k. elim (cases_eq k m) [
      | inl same ↦ omega (arith, ap (λ n. locks_on s.locks n) same, held_free s m free)
      | inr differs ↦ omega (arith, was.held_live k, times-without_other m k s.monitors differs)
    ];
    locks_fit = omega (arith, was.locks_fit, length-failed (λ k. eqb k m) s.monitors);
    rising = AreRising-without m s.monitors was.rising;
    born = All-without (λ k. k < s.births) m s.monitors was.born;
  }

  pub IsKept-freed : (m : ℕ) → IsKept (after_give_up s m) lock_room
  IsKept-freed m = kept_locks (without_lock m s.locks) (λ k. omega (arith, was.held_once k, fewer k)) (λ k. omega (arith, was.held_live k, fewer k))
    where
      fewer : (k : ℕ) → locks_on (without_lock m s.locks) k ≤ locks_on s.locks k
      fewer k = count-filter-le (is_lock k) _ s.locks

  -- after it is freed nobody holds it
  pub is_free-freed : (m : ℕ) → is_free (after_give_up s m) m ≡ true
  is_free-freed m = ap is_none (find_none (is_lock m) (without_lock m s.locks) (count-failed (is_lock m) s.locks))

  pub IsKept-deepened : (m depth : ℕ) → IsKept (record s { locks = with_depth m depth s.locks }) lock_room
  IsKept-deepened m depth =
      kept_locks (with_depth m depth s.locks) (λ k. omega (arith, was.held_once k, as_many k)) (λ k. omega (arith, was.held_live k, as_many k))
    where
      as_many : (k : ℕ) → locks_on (with_depth m depth s.locks) k ≡ locks_on s.locks k
      as_many k = count-map (is_lock k) (lock_with_depth m depth) s.locks

  module _ (m : ℕ) (live : is_live s m ≡ true) (free : is_free s m ≡ true) where
    -- there is room for the lock of a live monitor that is free
    pub room_free : length s.locks < lock_room
    room_free = omega
        (arith, was.locks_fit, length-locks-lt s.locks s.monitors was.held_once was.held_live m (held_free s m free) (count_any (λ k. eqb k m) s.monitors live))

    pub IsKept-taken : (lock : Lock) → lock.mon ≡ m → IsKept (record s { locks = s.locks ++ lock ∷ [] }) lock_room
    IsKept-taken lock its = kept_locks (s.locks ++ lock ∷ []) (λ k. omega (arith, once k)) (λ k. omega (arith, alive k))
      where
        more : (k : ℕ) → locks_on (s.locks ++ lock ∷ []) k ≡ locks_on s.locks k + one (is_lock k lock)
        more k = count-push (is_lock k) s.locks lock

        here : (k : ℕ) → k ≡ m → locks_on (s.locks ++ lock ∷ []) k ≡ 1
        here k same = omega (arith, more k, ap (λ n. locks_on s.locks n) same, held_free s m free, ap one (eq-eqb lock.mon k (its ∙ sym same)))

        elsewhere : (k : ℕ) → (k ≡ m → ⊥) → locks_on (s.locks ++ lock ∷ []) k ≡ locks_on s.locks k
        elsewhere k differs = omega (arith, more k, ap one (ne_eqb lock.mon k (λ same. differs (sym same ∙ its))))

        once : (k : ℕ) → locks_on (s.locks ++ lock ∷ []) k ≤ 1
        once k = elim (cases_eq k m) [
          | inl same ↦ omega (arith, here k same)
          | inr differs ↦ omega (arith, elsewhere k differs, was.held_once k)
        ]

        alive : (k : ℕ) → locks_on (s.locks ++ lock ∷ []) k ≤ times_in s.monitors k
        alive k = elim (cases_eq k m) [
          | inl same ↦ omega (arith, here k same, count_any (λ n. eqb n m) s.monitors live, ap (λ n. times_in s.monitors n) same)
          | inr differs ↦ omega (arith, elsewhere k differs, was.held_live k)
        ]

    pub IsKept-granted : (r : EntryRequest) → next_request s m ≡ Some r → IsKept (with_grant s (Some r)) lock_room
    IsKept-granted r next =
        let its : r.mon ≡ m = eqb-true r.mon m (best_passes (λ r. r.prio) (λ r. eqb r.mon m) s.requests r next) in
        let taken = IsKept-taken (record { mon = r.mon; owner = r.tid; depth = r.depth }) its in
        record { held_once = taken.held_once; held_live = taken.held_live; locks_fit = was.locks_fit; rising = was.rising; born = was.born }
