-- Signals of conditions: who is woken, and what the machine makes of it.
use Rattle.conditions.proofs.Machine as conds
use Rattle.lwp_types.proofs.Ranks.{All-filter}
use Rattle.conditions.specs.ConditionTable as cond
use Rattle.conditions.specs.ConditionTable.{is_on, is_wait_of}
use Rattle.conditions.specs.declared.waits.WaitRec.{WaitRec}
use Rattle.death_cleanup.proofs.Asking.{IsWaitedOnce-lawful, Signalling, Signalling-next, signalled-is}
use Rattle.death_cleanup.specs.Moves.{after_signal}
use Rattle.death_cleanup.specs.Ties.{InStep, LawfulParts}
use Rattle.death_cleanup.specs.View.{state_of}
use Rattle.death_cleanup.specs.declared.parts.Parts.{Parts}
use Rattle.lwp_types.specs.Case.{Check, is_no_thread, refusal_case, unless, value_case}
use Rattle.lwp_types.specs.CountLaws.{count-filter-le}
use Rattle.lwp_types.specs.Choice.{best_by}
use Rattle.lwp_types.specs.First.{IsFirstBest}
use Rattle.lwp_types.specs.FirstLaws.{finds_best}
use Rattle.lwp_types.specs.MonitorRelease.{last_lock}
use Rattle.lwp_types.specs.State.{State, is_empty, is_thread, passes, priority_in}
use Rattle.lwp_types.specs.Conditions as machine
use Rattle.lwp_types.specs.Conditions.{after_wake, cond_send, condition_of, is_condition, notify, waking}
use Rattle.lwp_types.specs.declared.call.LwpErr.TheVariants as error
use Rattle.lwp_types.specs.declared.rows.CondRow.{CondRow}
use Rattle.lwp_types.specs.declared.rows.WaitRow.{WaitRow}
use Rattle.pod_laws.proofs.Elements.{all_filter, find_passes}
use Rattle.pod_laws.proofs.ConditionCalls.{Among, all_among, best_among, waking_begins}
use Rattle.std.proofs.Common.{Bool, List, None, Option, Some, [], ap, arith, eqb, false, length, map, refl, sym, true, ℕ, ◌&&◌, ◌++◌, ◌<◌, ◌∙◌, ◌∷◌, ◌≡◌}
use Rattle.std.proofs.lemmas.Bool.{eqb-true}
use Rattle.std.specs.List.{AllByRecursion, find, fold}
use Rattle.std.specs.Prelude as prelude
use Rattle.std.specs.Prelude.{option_map, option_to_list}

-- a live condition, by its monitor
pub row-is : (rows : List CondRow) (c m : ℕ) → option_map (λ (row : CondRow). row.mon) (condition_of rows c) ≡ Some m
    → condition_of rows c ≡ Some (record { number = c; mon = m })
row-is rows c m its = by_row (condition_of rows c) refl its
  where
    by_row : (o : Option CondRow) → condition_of rows c ≡ o → option_map (λ (row : CondRow). row.mon) o ≡ Some m
        → condition_of rows c ≡ Some (record { number = c; mon = m })
    by_row None e h = absurd (cc)
    by_row (Some row) e h =
        let numbered : row.number ≡ c = eqb-true row.number c (find_passes (is_condition c) rows row e) in
        let of : row.mon ≡ m = cc in
        e ∙ ap (λ n. Some (record { number = n; mon = row.mon })) numbered ∙ ap (λ k. Some (record { number = c; mon = k })) of

pub row-none : (rows : List CondRow) (c : ℕ) → option_map (λ (row : CondRow). row.mon) (condition_of rows c) ≡ None → condition_of rows c ≡ None
row-none rows c its = by_row (condition_of rows c) its
  where
    by_row : (o : Option CondRow) → option_map (λ (row : CondRow). row.mon) o ≡ None → o ≡ None
    by_row None h = refl
    by_row (Some row) h = absurd (cc)

-- a call that wakes, by what it asks first
module _ (s : State) (t c : ℕ) (more : List Check) (ws : List WaitRow) where
  pub waking-absent : condition_of s.conditions c ≡ None → waking s t c more ws ≡ refusal_case s error.NonExist
  unfolding unless
  waking-absent none = rw none refl

  module _ (m : ℕ) (found : condition_of s.conditions c ≡ Some (record { number = c; mon = m })) where
    pub waking-other : passes (λ lock. eqb m lock.mon) (last_lock s.locks t) ≡ false → waking s t c more ws ≡ refusal_case s error.NotOwned
    unfolding unless
    waking-other other = rw (found, other) refl

    pub waking-made : passes (λ lock. eqb m lock.mon) (last_lock s.locks t) ≡ true
        → waking s t c more ws ≡ unless s more (value_case (fold (λ now w. after_wake m w now) s ws) 0)
    unfolding unless
    waking-made last = rw (found, last) refl

mapped : (o : Option WaitRec) → option_to_list (option_map cond.machine_row o) ≡ map cond.machine_row (option_to_list o)
mapped None = refl
mapped (Some w) = refl

-- who is notified is who is notified there
pub notified-is : (parts : Parts) (step : InStep parts) (c : ℕ) (o : Option WaitRec) → o ≡ cond.next_notified parts.conds c
    → option_to_list (best_by (λ (w : WaitRow). priority_in (state_of parts) w.tid) (machine.waits_on (state_of parts).waits c))
    ≡ map cond.machine_row (option_to_list o)
notified-is parts step c o e = ap option_to_list (conds.next_agrees parts.conds (state_of parts) step.ranked.waits c ∙ ap (option_map cond.machine_row) (sym e))
    ∙ mapped o

All-at : {A : Type 0} (P : A → Type 0) (before : List A) (x : A) (after : List A) → AllByRecursion P (before ++ x ∷ after) → P x
All-at P [] x after all = all.0
All-at P (y ∷ before) x after all = All-at P before x after all.1

pub best-ranked : (parts : Parts) (step : InStep parts) (c : ℕ) (w : WaitRec) → Some w ≡ cond.next_notified parts.conds c
    → w.prio ≡ priority_in (state_of parts) w.tid
best-ranked parts step c w e =
    let best : IsFirstBest (λ (v : WaitRec). v.prio) (cond.waits_on parts.conds c) w =
    rw (sym e) at (finds_best (λ (v : WaitRec). v.prio) (cond.waits_on parts.conds c)) in
    All-at (λ (v : WaitRec). v.prio ≡ priority_in (state_of parts) v.tid) best.before w best.after
    (rw best.splits at (All-filter (λ (v : WaitRec). v.prio ≡ priority_in (state_of parts) v.tid) (is_on c) parts.conds.waits step.ranked.waits))

All-found : {A : Type 0} (P : A → Type 0) (test : A → Bool) (xs : List A) (x : A) → AllByRecursion P xs → find test xs ≡ Some x → P x
All-found P test [] x all is = absurd (cc)
All-found P test (y ∷ ys) x all is = by_test (test y) is (All-found P test ys x all.1)
  where
    by_test : (b : Bool) → prelude.cond b (Some y) (find test ys) ≡ Some x → (find test ys ≡ Some x → P x) → P x
    by_test true here rest =
        let same : y ≡ x = cc in
        rw (← same) all.0
    by_test false later rest = rest later

pub one-ranked : (parts : Parts) (step : InStep parts) (c u : ℕ) (w : WaitRec) → Some w ≡ cond.wait_of parts.conds c u
    → w.prio ≡ priority_in (state_of parts) w.tid
one-ranked parts step c u w e =
    All-found (λ (v : WaitRec). v.prio ≡ priority_in (state_of parts) v.tid) (λ v. is_on c v && is_wait_of u v) parts.conds.waits w step.ranked.waits (sym e)

module _ (parts : Parts) (lawful : LawfulParts parts) (t c m : ℕ) (found : condition_of parts.conds.conditions c ≡ Some (record { number = c; mon = m }))
    (last : passes (λ lock. eqb m lock.mon) (last_lock parts.mons.locks t) ≡ true) where
  begins : (ws : List WaitRec) → Among (state_of parts) c (map cond.machine_row ws) → Signalling t c m ws parts
  begins ws among = record {
    waking = waking_begins (state_of parts) parts.dying lawful.nine t c (map cond.machine_row ws) among (record { number = c; mon = m }) found last;
    step = lawful.step;
  }

  pub begins-best : (o : Option WaitRec) → o ≡ cond.next_notified parts.conds c → Signalling t c m (option_to_list o) parts
  begins-best o e = begins (option_to_list o) (rw (notified-is parts lawful.step c o e) at (best_among (state_of parts) parts.dying lawful.nine c))

  pub begins-all : Signalling t c m (cond.waits_on parts.conds c) parts
  begins-all = begins (cond.waits_on parts.conds c)
      (rw (conds.waits_agree parts.conds (state_of parts) c) at (all_among (state_of parts) parts.dying lawful.nine c))

  -- nobody is notified, or one is
  pub notify-none : None ≡ cond.next_notified parts.conds c → notify (state_of parts) t c ≡ value_case (state_of parts) 0
  unfolding unless
  notify-none e = waking-made (state_of parts) t c [] _ m found last
      ∙ ap (λ ws. value_case (fold (λ now w. after_wake m w now) (state_of parts) ws) 0) (notified-is parts lawful.step c None e)

  pub notify-one : (w : WaitRec) → Some w ≡ cond.next_notified parts.conds c → notify (state_of parts) t c ≡ value_case (state_of (after_signal parts m w)) 0
  unfolding unless
  notify-one w e = waking-made (state_of parts) t c [] _ m found last
      ∙ ap (λ ws. value_case (fold (λ now w. after_wake m w now) (state_of parts) ws) 0) (notified-is parts lawful.step c (Some w) e)
      ∙ ap (λ s. value_case s 0) (sym (signalled-is parts t c m w [] (begins-best (Some w) e)))

  -- one thread is woken
  module _ (u : ℕ) where
    abbrev asks : List Check
    asks = is_no_thread (state_of parts) u ∷ (is_empty (machine.wait_of (state_of parts).waits c u), error.NoWait) ∷ []

    sent-is : (o : Option WaitRec) → o ≡ cond.wait_of parts.conds c u → machine.wait_of (state_of parts).waits c u ≡ map cond.machine_row (option_to_list o)
    sent-is o e = conds.wait_of_agrees parts.conds (state_of parts) c u (IsWaitedOnce-lawful parts lawful.nine c)
        ∙ ap (λ p. option_to_list (option_map cond.machine_row p)) (sym e) ∙ mapped o

    one-among : Among (state_of parts) c (machine.wait_of (state_of parts).waits c u)
    one-among =
        let all = all_among (state_of parts) parts.dying lawful.nine c in
        record {
          few = λ v. omega
              (arith, all.few v, count-filter-le (λ (w : WaitRow). eqb w.tid v) (λ (w : WaitRow). eqb w.tid u) (machine.waits_on (state_of parts).waits c));
          deep = all_filter _ _ (λ (w : WaitRow). eqb w.tid u) (λ w kept h. h) (machine.waits_on (state_of parts).waits c) all.deep;
        }

    pub begins-one : (w : WaitRec) → Some w ≡ cond.wait_of parts.conds c u → Signalling t c m (w ∷ []) parts
    begins-one w e = begins (w ∷ []) (rw (sent-is (Some w) e) at one-among)

    pub sent-absent : is_thread (state_of parts) u ≡ false → cond_send (state_of parts) t c u ≡ refusal_case (state_of parts) error.NonExist
    unfolding unless
    sent-absent none = waking-made (state_of parts) t c asks (machine.wait_of (state_of parts).waits c u) m found last ∙ rw none refl

    pub sent-none : is_thread (state_of parts) u ≡ true → None ≡ cond.wait_of parts.conds c u
        → cond_send (state_of parts) t c u ≡ refusal_case (state_of parts) error.NoWait
    unfolding unless
    sent-none lives e = waking-made (state_of parts) t c asks (machine.wait_of (state_of parts).waits c u) m found last ∙ rw (lives, sent-is None e) refl

    pub sent-one : (w : WaitRec) → is_thread (state_of parts) u ≡ true → Some w ≡ cond.wait_of parts.conds c u
        → cond_send (state_of parts) t c u ≡ value_case (state_of (after_signal parts m w)) 0
    unfolding unless
    sent-one w lives e = waking-made (state_of parts) t c asks (machine.wait_of (state_of parts).waits c u) m found last
        ∙ rw (lives, sent-is (Some w) e) (ap (λ s. value_case s 0) (sym (signalled-is parts t c m w [] (begins-one w e))))

-- ---- all are woken

-- those who wait still are to be woken, and who was woken was
pub record Broadcasting (c m : ℕ) (start parts : Parts) : Type 0 where
  pub caller : ℕ
  pub left : Signalling caller c m (cond.waits_on parts.conds c) parts
  pub dying : parts.dying ≡ start.dying
  pub state : fold (λ now w. after_wake m w now) (state_of parts) (map cond.machine_row (cond.waits_on parts.conds c))
      ≡ fold (λ now w. after_wake m w now) (state_of start) (map cond.machine_row (cond.waits_on start.conds c))

module _ (c m : ℕ) (start parts : Parts) (h : Broadcasting c m start parts) where
  module _ (w : WaitRec) (first : cond.first_wait parts.conds c ≡ Some w) where
    parted : cond.waits_on parts.conds c ≡ w ∷ cond.waits_on (cond.after_wake parts.conds (Some w)) c
    parted = conds.first_is_woken parts.conds c (IsWaitedOnce-lawful parts h.left.waking.nine c) w first

    pub now : Signalling h.caller c m (w ∷ cond.waits_on (cond.after_wake parts.conds (Some w)) c) parts
    now = rw parted at h.left

    pub first-ranked : w.prio ≡ priority_in (state_of parts) w.tid
    first-ranked =
        let all = rw parted at (All-filter (λ (v : WaitRec). v.prio ≡ priority_in (state_of parts) v.tid) (is_on c) parts.conds.waits
        h.left.step.ranked.waits) in
        all.0

    pub fewer-wait : length (cond.waits_on (cond.after_wake parts.conds (Some w)) c) < length (cond.waits_on parts.conds c)
    fewer-wait = omega (arith, ap length parted)

    pub Broadcasting-next : Broadcasting c m start (after_signal parts m w)
    Broadcasting-next = record {
      caller = h.caller;
      left = Signalling-next parts h.caller c m w (cond.waits_on (cond.after_wake parts.conds (Some w)) c) now first-ranked;
      dying = h.dying;
      state = ap (λ s. fold (λ now w. after_wake m w now) s (map cond.machine_row (cond.waits_on (cond.after_wake parts.conds (Some w)) c)))
          (signalled-is parts h.caller c m w (cond.waits_on (cond.after_wake parts.conds (Some w)) c) now)
          ∙ ap (λ ws. fold (λ now w. after_wake m w now) (state_of parts) (map cond.machine_row ws)) (sym parted) ∙ h.state;
    }

  -- nobody waits any more
  pub all-woken : cond.first_wait parts.conds c ≡ None
      → fold (λ now w. after_wake m w now) (state_of start) (machine.waits_on (state_of start).waits c) ≡ state_of parts
  all-woken none =
      ap (fold (λ now w. after_wake m w now) (state_of start)) (conds.waits_agree start.conds (state_of start) c) ∙ sym h.state
      ∙ ap (λ ws. fold (λ now w. after_wake m w now) (state_of parts) (map cond.machine_row ws)) (conds.none_is_woken parts.conds c none)
