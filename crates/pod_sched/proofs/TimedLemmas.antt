-- What `Sched` keeps of its clock: each timer is of a known thread, which has no other.
use Rattle.lwp_types.specs.CountLaws.{count-cons, count-filter, count-filter-le, count-map, count-push, count_agree, count_found, count_never, count_none, one}
use Rattle.lwp_types.specs.Counts.{timers_of}
use Rattle.lwp_types.specs.State.{passes}
use Rattle.lwp_types.specs.Unblock.{is_timer_of, without_timer}
use Rattle.lwp_types.specs.declared.rows.TimerRow.{TimerRow}
use Rattle.pod_sched.specs.Clock.{IsTimed}
use Rattle.pod_sched.specs.Timers.Clock.{Clock, after_drop, after_pass, after_pop, after_reserve, after_set, after_tick, first_due, without_found}
use Rattle.pod_sched.specs.Schedule as sched
use Rattle.pod_sched.specs.Schedule.{Schedule, is_of, without_row}
use Rattle.pod_sched.specs.declared.rows.Known.{Known}
use Rattle.std.proofs.Common.{Bool, Err, List, None, Ok, Option, Result, Some, [], ap, arith, count_by, eqb, false, inl, inr}
use Rattle.std.proofs.Common.{length, map, max, not, refl, sym, true, ℕ, ◌&&◌, ◌++◌, ◌+◌, ◌∙◌, ◌∷◌, ◌≡◌, ◌≢◌, ◌≤◌}
use Rattle.std.proofs.lemmas.Bool.{cases_eq, eq-eqb, ne_eqb}
use Rattle.std.proofs.lemmas.List.{length_push}
use Rattle.std.proofs.lemmas.List.Sums.{length-filter}
use Rattle.std.specs.List.{filter, find, list_any}
use Rattle.std.specs.Result.{OnErr, OnOk}

-- the elements of one key are gone, and all others stay
module _ {X : Type 0} (key : X → ℕ) (t : ℕ) where
  none_left : (xs : List X) → count_by (λ x. eqb (key x) t) (filter (λ x. not (eqb (key x) t)) xs) ≡ 0
  none_left xs = count-filter (λ x. eqb (key x) t) (λ x. not (eqb (key x) t)) xs
      ∙ count_never (λ x. not (eqb (key x) t) && eqb (key x) t) (λ x. apart (eqb (key x) t)) xs
    where
      apart : (b : Bool) → (not b && b) ≡ false
      apart true = refl
      apart false = refl

  others_left : (u : ℕ) → t ≢ u → (xs : List X) → count_by (λ x. eqb (key x) u) (filter (λ x. not (eqb (key x) t)) xs) ≡ count_by (λ x. eqb (key x) u) xs
  others_left u away xs = count-filter (λ x. eqb (key x) u) (λ x. not (eqb (key x) t)) xs
      ∙ count_agree (λ x. not (eqb (key x) t) && eqb (key x) u) (λ x. eqb (key x) u) other xs
    where
      other : (x : X) → (not (eqb (key x) t) && eqb (key x) u) ≡ eqb (key x) u
      other x = elim (cases_eq (key x) t) [
        | inl e ↦ rw (eq-eqb (key x) t e, ne_eqb (key x) u (λ f. away (sym e ∙ f))) refl
        | inr far ↦ rw (ne_eqb (key x) t far) refl
      ]

-- who passes and who doesn't
both : {X : Type 0} (p : X → Bool) (xs : List X) → count_by p xs + count_by (λ x. not (p x)) xs ≡ length xs
both p [] = refl
both p (x ∷ xs) = omega (arith, count-cons p x xs, count-cons (λ x. not (p x)) x xs, halves (p x), both p xs)
  where
    halves : (b : Bool) → one b + one (not b) ≡ 1
    halves true = refl
    halves false = refl

-- no more timers than threads
pub few_timers : (rows : List Known) (xs : List TimerRow) → ((t : ℕ) → timers_of xs t ≤ count_by (is_of t) rows)
    → ((t : ℕ) → count_by (is_of t) rows ≤ 1) → length xs ≤ length rows
few_timers [] [] owned once = omega arith
few_timers [] (x ∷ xs) owned once = absurd (omega (arith, owned x.tid, count-cons (is_timer_of x.tid) x xs, ap one (eq-eqb x.tid x.tid refl)))
few_timers (row ∷ rows) xs owned once = omega (
  arith,
  few_timers rows (without_timer row.tid xs) owned_rest (λ t. omega (arith, once t, count-cons (is_of t) row rows)),
  length-filter (λ x. not (is_timer_of row.tid x)) xs,
  both (is_timer_of row.tid) xs,
  owned row.tid,
  once row.tid,
)
  where
    owned_rest : (t : ℕ) → timers_of (without_timer row.tid xs) t ≤ count_by (is_of t) rows
    owned_rest t = elim (cases_eq row.tid t) [
      | inl e ↦ omega (arith, none_left (λ (x : TimerRow). x.tid) row.tid xs, ap (timers_of (without_timer row.tid xs)) e)
      | inr away
          ↦ omega (arith, others_left (λ (x : TimerRow). x.tid) row.tid t away xs, owned t, count-cons (is_of t) row rows, ap one (ne_eqb row.tid t away))
    ]

-- a thread that is known to be blocked is known
pub blocked_counted : (threads : List Known) (t : ℕ) → passes (λ row. row.blocked) (find (is_of t) threads) ≡ true → 1 ≤ count_by (is_of t) threads
blocked_counted threads t blocked = by_row (find (is_of t) threads) refl blocked
  where
    by_row : (o : Option Known) → find (is_of t) threads ≡ o → passes (λ row. row.blocked) o ≡ true → 1 ≤ count_by (is_of t) threads
    by_row None e h = absurd (cc)
    by_row (Some row) e h = count_found (is_of t) threads row e

module _ {threads : List Known} {c : Clock} {places : ℕ} (was : IsTimed threads c places) where
  -- the rows change, and are of the same threads
  pub IsTimed-mapped : (g : Known → Known) → ((row : Known) → (g row).tid ≡ row.tid) → IsTimed (map g threads) c places
  IsTimed-mapped g keeps = record {
    owned = λ t. omega
        (arith, was.owned t, count-map (is_of t) g threads, count_agree (λ row. is_of t (g row)) (is_of t) (λ row. ap (λ n. eqb n t) (keeps row)) threads);
    roomy = was.roomy;
  }

  pub IsTimed-admitted : (row : Known) → IsTimed (threads ++ row ∷ []) c places
  IsTimed-admitted row = record { owned = λ t. omega (arith, was.owned t, count-push (is_of t) threads row); roomy = was.roomy }

  pub IsTimed-dropped : (t : ℕ) → IsTimed threads (after_drop c t) places
  IsTimed-dropped t = record {
    owned = λ u. omega (arith, was.owned u, count-filter-le (is_timer_of u) (λ row. not (is_timer_of t row)) c.timers);
    roomy = was.roomy;
  }

  pub IsTimed-left : (t : ℕ) → IsTimed (without_row t threads) (after_drop c t) places
  IsTimed-left t = record {
    owned = λ u. elim (cases_eq t u) [
      | inl e ↦ omega (arith, none_left (λ (x : TimerRow). x.tid) t c.timers, ap (timers_of (without_timer t c.timers)) e)
      | inr away ↦ omega (arith, others_left (λ (x : TimerRow). x.tid) t u away c.timers, others_left (λ (row : Known). row.tid) t u away threads, was.owned u)
    ];
    roomy = was.roomy;
  }

  pub IsTimed-ticked : IsTimed threads (after_tick c) places
  IsTimed-ticked = record { owned = was.owned; roomy = was.roomy }

  pub IsTimed-passed : (n : ℕ) → IsTimed threads (after_pass c n) places
  IsTimed-passed n = record { owned = was.owned; roomy = was.roomy }

  pub IsTimed-found : (o : Option TimerRow) → IsTimed threads (record c { timers = without_found o c.timers }) places
  IsTimed-found None = was
  IsTimed-found (Some row) = IsTimed-dropped row.tid

  pub IsTimed-popped : IsTimed threads (after_pop c) places
  IsTimed-popped = IsTimed-found (first_due c.timers c.now)

  -- more places
  pub IsTimed-roomier : (n : ℕ) → IsTimed threads (after_reserve c n) places
  IsTimed-roomier n = record { owned = was.owned; roomy = omega (arith, was.roomy) }

  pub IsTimed-reserved : (n : ℕ) → IsTimed threads (after_reserve c n) (max places n)
  IsTimed-reserved n = record { owned = was.owned; roomy = omega (arith, was.roomy) }

  -- a known thread that has no timer gets one
  pub IsTimed-set : (t due : ℕ) → 1 ≤ count_by (is_of t) threads → list_any (is_timer_of t) c.timers ≡ false → IsTimed threads (after_set c t due) places
  IsTimed-set t due known none = record {
    owned = λ u. elim (cases_eq t u) [
      | inl e
          ↦ omega (
            arith,
            count-push (is_timer_of u) c.timers (record { tid = t; due = due }),
            ap one (eq-eqb t u e),
            count_none (is_timer_of t) c.timers none,
            ap (timers_of c.timers) e,
            known,
            ap (λ n. count_by (is_of n) threads) e,
          )
      | inr away ↦ omega (arith, was.owned u, count-push (is_timer_of u) c.timers (record { tid = t; due = due }), ap one (ne_eqb t u away))
    ];
    roomy = was.roomy;
  }

  -- and there is a place for it
  pub set_fits : (t due : ℕ) → 1 ≤ count_by (is_of t) threads → list_any (is_timer_of t) c.timers ≡ false
      → ((t : ℕ) → count_by (is_of t) threads ≤ 1) → length threads ≤ places → length c.timers + 1 ≤ c.places
  set_fits t due known none once few = omega (
    arith,
    few_timers threads (after_set c t due).timers (IsTimed-set t due known none).owned once,
    length_push c.timers (record { tid = t; due = due }),
    few,
    was.roomy,
  )

  -- more places, or no memory for them
  pub IsTimed-either : (n : ℕ) (T E : Type 0) (r : Result T E) (old new : Schedule) → OnOk r (new ≡ sched.after_reserve old n)
      → OnErr r (new ≡ old) → old.threads ≡ threads → old.places ≡ places → IsTimed new.threads (after_reserve c n) new.places
  IsTimed-either n T E (Ok x) old new ok err rows room = rw (ok, rows, room) (IsTimed-reserved n)
  IsTimed-either n T E (Err e) old new ok err rows room = rw (err, rows, room) (IsTimed-roomier n)
