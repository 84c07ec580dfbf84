-- The calls on conditions keep the nine parts.
use Rattle.lwp_types.specs.Case.{Check, is_no_thread}
use Rattle.lwp_types.specs.Choice.{best_by}
use Rattle.lwp_types.specs.CountLaws.{count-append, count-cons, count-filter, count-filter-le}
use Rattle.lwp_types.specs.Counts.{is_depth, is_waited_well, waits_by}
use Rattle.lwp_types.specs.First.{IsFirstBest}
use Rattle.lwp_types.specs.FirstLaws.{finds_best}
use Rattle.lwp_types.specs.Lawful.{NineParts}
use Rattle.lwp_types.specs.MonitorRelease.{last_lock}
use Rattle.lwp_types.specs.State.{State, is_empty, member, passes, priority_in}
use Rattle.lwp_types.specs.Conditions.{after_wake_all, broadcast, cond_send, condition_create, condition_destroy, condition_of, condition_waiters}
use Rattle.lwp_types.specs.Conditions.{is_condition, is_lock_of, notify, wait_of, waits_on, waking}
use Rattle.lwp_types.specs.declared.rows.CondRow.{CondRow}
use Rattle.lwp_types.specs.declared.rows.WaitRow.{WaitRow}
use Rattle.lwp_types.specs.declared.call.LwpErr.TheVariants as error
use Rattle.pod_laws.proofs.Balances.{count_le}
use Rattle.pod_laws.proofs.Checks.{unless_keeps}
use Rattle.pod_laws.proofs.ConditionMoves.{NineParts-condition_gone, NineParts-condition_made}
use Rattle.pod_laws.proofs.Elements.{all_at, all_filter, all_found, all_weaker, true_of}
use Rattle.pod_laws.proofs.Waking.{NineParts-waked_all, Waking, last_owner}
use Rattle.std.proofs.Common.{List, MatchOption, None, Option, Some, [], ap, arith, count_by, eqb, length, refl, sym, true, ℕ, ◌&&◌, ◌∙◌, ◌∷◌, ◌≡◌, ◌≤◌}
use Rattle.std.proofs.lemmas.Bool.{and_from, and_parts, leb-false}
use Rattle.std.specs.List.{list_all}
use Rattle.std.specs.Prelude.{option_to_list}

-- the waits of a list are among those on the condition, and their depths are those that there are
pub record Among (s : State) (c : ℕ) (ws : List WaitRow) : Type 0 where
  pub few : (v : ℕ) → count_by (λ (w : WaitRow). eqb w.tid v) ws ≤ waits_by s v c
  pub deep : list_all (λ (w : WaitRow). is_depth w.depth) ws ≡ true

module _ (s : State) (d : Option ℕ) (was : NineParts s d) where
  depths : list_all (λ (w : WaitRow). is_depth w.depth) s.waits ≡ true
  depths = all_weaker (is_waited_well s) (λ (w : WaitRow). is_depth w.depth) (λ w h. (and_parts _ _ h).1) s.waits was.locks.3

  pub all_among : (c : ℕ) → Among s c (waits_on s.waits c)
  all_among c = record {
    few = λ v. omega (
      arith,
      count-filter (λ (w : WaitRow). eqb w.tid v) (λ (w : WaitRow). eqb w.cond c) s.waits,
      count_le (λ (w : WaitRow). eqb w.cond c && eqb w.tid v) (λ (w : WaitRow). eqb w.tid v && eqb w.cond c) (λ w h.
          let both = and_parts (eqb w.cond c) (eqb w.tid v) h in
          and_from (eqb w.tid v) (eqb w.cond c) both.1 both.0) s.waits,
    );
    deep = all_filter _ _ (λ (w : WaitRow). eqb w.cond c) (λ w kept h. h) s.waits depths;
  }

  pub best_among : (c : ℕ) → Among s c (option_to_list (best_by (λ (w : WaitRow). priority_in s w.tid) (waits_on s.waits c)))
  best_among c = by_best (best_by (λ (w : WaitRow). priority_in s w.tid) (waits_on s.waits c))
      (finds_best (λ (w : WaitRow). priority_in s w.tid) (waits_on s.waits c))
    where
      by_best : (o : Option WaitRow)
          → MatchOption o (waits_on s.waits c ≡ []) (IsFirstBest (λ (w : WaitRow). priority_in s w.tid) (waits_on s.waits c)) → Among s c (option_to_list o)
      by_best None best = record { few = λ v. omega arith; deep = refl }
      by_best (Some w) best = record {
        few = λ v. omega (
          arith,
          (all_among c).few v,
          ap (count_by (λ (q : WaitRow). eqb q.tid v)) best.splits,
          count-append (λ (q : WaitRow). eqb q.tid v) best.before (w ∷ best.after),
          count-cons (λ (q : WaitRow). eqb q.tid v) w best.after,
          count-cons (λ (q : WaitRow). eqb q.tid v) w [],
        );
        deep = and_from (is_depth w.depth) true
            (all_at (λ (q : WaitRow). is_depth q.depth) best.before w best.after
            (ap (list_all (λ (q : WaitRow). is_depth q.depth)) (sym best.splits) ∙ (all_among c).deep))
            refl;
      }

  one_among : (c to : ℕ) → Among s c (wait_of s.waits c to)
  one_among c to = record {
    few = λ v. omega (arith, (all_among c).few v, count-filter-le (λ (w : WaitRow). eqb w.tid v) (λ (w : WaitRow). eqb w.tid to) (waits_on s.waits c));
    deep = all_filter _ _ (λ (w : WaitRow). eqb w.tid to) (λ w kept h. h) (waits_on s.waits c) (all_among c).deep;
  }

  -- a condition that is there, of the monitor that t acquired last
  pub waking_begins : (t c : ℕ) (ws : List WaitRow) → Among s c ws → (row : CondRow) → condition_of s.conditions c ≡ Some row
      → passes (λ lock. is_lock_of lock (Some row)) (last_lock s.locks t) ≡ true → Waking d t c row ws s
  waking_begins t c ws among row e last = record {
    nine = was;
    owns = last_owner s d was t row.mon last;
    monitor = all_found (is_condition c) (λ (r : CondRow). member r.mon s.monitors) s.conditions row was.owners.0 e;
    condition = e;
    wait = among.few;
    deep = among.deep;
  }

  waking_keeps : (t c : ℕ) (more : List Check) (ws : List WaitRow) → Among s c ws → NineParts (waking s t c more ws).after d
  waking_keeps t c more ws among = unless_keeps (λ s. NineParts s d) s _ _ was (λ passed. by_row (condition_of s.conditions c) refl (true_of _ passed.1.0))
    where
      by_row : (o : Option CondRow) → condition_of s.conditions c ≡ o → passes (λ lock. is_lock_of lock o) (last_lock s.locks t) ≡ true
          → NineParts (after_wake_all o ws s) d
      by_row None e last = was
      by_row (Some row) e last = NineParts-waked_all d t c row ws s (waking_begins t c ws among row e last)

  pub notify_keeps : (t c : ℕ) → NineParts (notify s t c).after d
  notify_keeps t c = waking_keeps t c _ _ (best_among c)

  pub broadcast_keeps : (t c : ℕ) → NineParts (broadcast s t c).after d
  broadcast_keeps t c = waking_keeps t c _ _ (all_among c)

  pub cond_send_keeps : (t c to : ℕ) → NineParts (cond_send s t c to).after d
  cond_send_keeps t c to = waking_keeps t c (is_no_thread s to ∷ (is_empty (wait_of s.waits c to), error.NoWait) ∷ []) _ (one_among c to)

  pub condition_create_keeps : (m : ℕ) → NineParts (condition_create s m).after d
  condition_create_keeps m = unless_keeps (λ s. NineParts s d) s _ _ was
      (λ passed. NineParts-condition_made s d was m (true_of _ passed.0) (leb-false 256 (length s.conditions) passed.1.0))

  pub condition_destroy_keeps : (c : ℕ) → NineParts (condition_destroy s c).after d
  condition_destroy_keeps c = unless_keeps (λ s. NineParts s d) s _ _ was (λ passed. NineParts-condition_gone s d was c passed.1.0)

  pub condition_waiters_keeps : (c : ℕ) → NineParts (condition_waiters s c).after d
  condition_waiters_keeps c = unless_keeps (λ s. NineParts s d) s _ _ was (λ passed. was)
