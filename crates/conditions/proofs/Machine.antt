-- The conditions are the machine's.
use Rattle.lwp_types.proofs.Ranks.{All-filter, best-map, map-filter}
use Rattle.conditions.specs.ConditionTable as table
use Rattle.conditions.specs.ConditionTable.{ConditionTable, is_on, is_wait_of, machine_row}
use Rattle.conditions.specs.Machine.{AllAreWoken, AreRanked, FirstIsWoken, ForgettingAgrees, HasWaitsAgrees, IsWaitedOnce, NextAgrees}
use Rattle.conditions.specs.Machine.{NoneIsWoken, RanksLast, RequeuesAgree, WaitOfAgrees, WaitedAgrees, WaitersAgree, WaitingAgrees}
use Rattle.conditions.specs.Machine.{WaitsAgree, WakingAgrees, first_and, with_conditions, woken_by}
use Rattle.conditions.specs.declared.waits.WaitRec.{WaitRec}
use Rattle.lwp_types.specs.Choice.{best_by}
use Rattle.lwp_types.specs.CountLaws.{count-cons, count-filter-le, one}
use Rattle.lwp_types.specs.ListLaws.{All-push, All-weaker}
use Rattle.lwp_types.specs.Monitors as locks
use Rattle.lwp_types.specs.State.{priority_in}
use Rattle.lwp_types.specs.Conditions as machine
use Rattle.lwp_types.specs.declared.rows.CondRow.{CondRow}
use Rattle.lwp_types.specs.declared.rows.WaitRow.{WaitRow}
use Rattle.std.proofs.Common.{Bool, List, None, Option, Some, [], ap, arith, cond, count_by, eqb, false, inl, inr}
use Rattle.std.proofs.Common.{length, map, not, refl, sym, true, ℕ, ◌&&◌, ◌+◌, ◌∙◌, ◌∷◌, ◌≡◌, ◌≢◌, ◌≤◌, ◌||◌}
use Rattle.std.proofs.lemmas.Bool.{cases_eq, eq-eqb, ne_eqb}
use Rattle.std.proofs.lemmas.List.{map-append}
use Rattle.std.specs.List.{filter, find, list_any}
use Rattle.std.specs.Prelude.{option_map, option_to_list, suc, zero}

any-row : (ws : List WaitRec) (c : ℕ) → locks.is_waited_in (map machine_row ws) c ≡ table.is_waited_in ws c
any-row [] c = refl
any-row (w ∷ ws) c = ap (λ b. eqb w.cond c || b) (any-row ws c)

pub waited_agrees : WaitedAgrees
waited_agrees t s c = any-row t.waits c

pub has_waits_agrees : HasWaitsAgrees
has_waits_agrees t s m = by_rows t.conditions
  where
    by_rows : (rows : List CondRow)
        → list_any (λ row. locks.is_of_monitor m row && locks.is_waited_in (map machine_row t.waits) row.number) rows
        ≡ list_any (λ row. locks.is_of_monitor m row && table.is_waited_in t.waits row.number) rows
    by_rows [] = refl
    by_rows (row ∷ rows) = rw (any-row t.waits row.number) (ap (λ b. (locks.is_of_monitor m row && table.is_waited_in t.waits row.number) || b) (by_rows rows))

pub waits_agree : WaitsAgree
waits_agree t s c = map-filter machine_row (λ w. eqb w.cond c) t.waits

tids-map : (ws : List WaitRec) → map (λ (w : WaitRow). w.tid) (map machine_row ws) ≡ map (λ (w : WaitRec). w.tid) ws
tids-map [] = refl
tids-map (w ∷ ws) = ap (λ ns. w.tid ∷ ns) (tids-map ws)

pub waiters_agree : WaitersAgree
waiters_agree t s c = ap (map (λ (w : WaitRow). w.tid)) (waits_agree t s c) ∙ tids-map (table.waits_on t c)

pub next_agrees : NextAgrees
next_agrees t s ranked c =
    ap (best_by (λ (w : WaitRow). priority_in s w.tid)) (waits_agree t s c)
    ∙ best-map machine_row (λ w. w.prio) (λ w. priority_in s w.tid) (table.waits_on t c) (All-filter _ (is_on c) t.waits ranked)

-- the wait of a thread

filter-none : {A : Type 0} (p : A → Bool) (xs : List A) → count_by p xs ≡ 0 → filter p xs ≡ []
filter-none p [] none = refl
filter-none p (x ∷ xs) none = by_test (p x) refl (filter-none p xs)
  where
    by_test : (b : Bool) → p x ≡ b → (count_by p xs ≡ 0 → filter p xs ≡ []) → cond b (x ∷ filter p xs) (filter p xs) ≡ []
    by_test true e rest = absurd (omega (arith, none, count-cons p x xs, ap one e))
    by_test false e rest = rest (omega (arith, none, count-cons p x xs))

-- where at most one passes, the first is all that do
filter-first : {A : Type 0} (p : A → Bool) (xs : List A) → count_by p xs ≤ 1 → filter p xs ≡ option_to_list (find p xs)
filter-first p [] few = refl
filter-first p (x ∷ xs) few = by_test (p x) refl (filter-first p xs) (filter-none p xs)
  where
    by_test : (b : Bool) → p x ≡ b → (count_by p xs ≤ 1 → filter p xs ≡ option_to_list (find p xs)) → (count_by p xs ≡ 0 → filter p xs ≡ [])
        → cond b (x ∷ filter p xs) (filter p xs) ≡ option_to_list (cond b (Some x) (find p xs))
    by_test true e rest none = ap (λ ys. x ∷ ys) (none (omega (arith, few, count-cons p x xs, ap one e)))
    by_test false e rest none = rest (omega (arith, few, count-cons p x xs))

filter-filter : {A : Type 0} (p q : A → Bool) (xs : List A) → filter p (filter q xs) ≡ filter (λ x. q x && p x) xs
filter-filter p q [] = refl
filter-filter p q (x ∷ xs) = by_tests (q x) (p x) (filter-filter p q xs)
  where
    by_tests : (b c : Bool) → filter p (filter q xs) ≡ filter (λ x. q x && p x) xs
        → filter p (cond b (x ∷ filter q xs) (filter q xs)) ≡ cond (b && p x) (x ∷ filter (λ x. q x && p x) xs) (filter (λ x. q x && p x) xs)
    by_tests true c rest = ap (λ ys. cond (p x) (x ∷ ys) ys) rest
    by_tests false c rest = rest

option-map : {A B : Type 0} (f : A → B) (o : Option A) → map f (option_to_list o) ≡ option_to_list (option_map f o)
option-map f None = refl
option-map f (Some x) = refl

pub wait_of_agrees : WaitOfAgrees
wait_of_agrees t s c u once =
    ap (filter (λ (w : WaitRow). eqb w.tid u)) (waits_agree t s c)
    ∙ map-filter machine_row (λ w. eqb w.tid u) (table.waits_on t c)
    ∙ ap (map machine_row) (filter-filter (is_wait_of u) (is_on c) t.waits ∙ filter-first (λ w. is_on c w && is_wait_of u w) t.waits (once u))
    ∙ option-map machine_row (table.wait_of t c u)

-- changes

pub without-row : (u : ℕ) (ws : List WaitRec) → map machine_row (table.without_wait u ws) ≡ machine.without_wait u (map machine_row ws)
without-row u ws = sym (map-filter machine_row _ ws)

pub forgetting_agrees : ForgettingAgrees
forgetting_agrees t s u = ap (λ ws. record (with_conditions t s) { waits = ws }) (without-row u t.waits)

pub waking_agrees : WakingAgrees
waking_agrees t s w = forgetting_agrees t s w.tid

pub waiting_agrees : WaitingAgrees
waiting_agrees t s w = ap (λ ws. record (with_conditions t s) { waits = ws }) (map-append machine_row t.waits (w ∷ []))

requeued-row : (u p : ℕ) (ws : List WaitRec) → map machine_row (table.with_priority u p ws) ≡ map machine_row ws
requeued-row u p [] = refl
requeued-row u p (w ∷ ws) = ap (λ vs. machine_row w ∷ vs) (requeued-row u p ws)

pub requeues_agree : RequeuesAgree
requeues_agree t s u p = ap (λ ws. record (with_conditions t s) { waits = ws }) (requeued-row u p t.waits)

-- broadcasts

-- the waits on c of all threads but u, where u has none on c
others-on : (c u : ℕ) (ws : List WaitRec) → count_by (λ w. is_on c w && is_wait_of u w) ws ≡ 0
    → filter (is_on c) (table.without_wait u ws) ≡ filter (is_on c) ws
others-on c u [] none = refl
others-on c u (w ∷ ws) none = by_tests (is_on c w) (is_wait_of u w) refl refl (others-on c u ws)
  where
    by_tests : (b d : Bool) → is_on c w ≡ b → is_wait_of u w ≡ d
        → (count_by (λ w. is_on c w && is_wait_of u w) ws ≡ 0 → filter (is_on c) (table.without_wait u ws) ≡ filter (is_on c) ws)
        → filter (is_on c) (cond (not d) (w ∷ table.without_wait u ws) (table.without_wait u ws)) ≡ cond b (w ∷ filter (is_on c) ws) (filter (is_on c) ws)
    by_tests true true e f rest = absurd (omega (arith, none, count-cons (λ w. is_on c w && is_wait_of u w) w ws, both))
      where
        both : one (is_on c w && is_wait_of u w) ≡ 1
        both = rw (e, f) refl
    by_tests true false e f rest = rw e (ap (λ vs. w ∷ vs) (rest (fewer)))
      where
        fewer : count_by (λ w. is_on c w && is_wait_of u w) ws ≡ 0
        fewer = omega (arith, none, count-cons (λ w. is_on c w && is_wait_of u w) w ws)
    by_tests false true e f rest = rest (omega (arith, none, count-cons (λ w. is_on c w && is_wait_of u w) w ws))
    by_tests false false e f rest = rw e (rest (omega (arith, none, count-cons (λ w. is_on c w && is_wait_of u w) w ws)))

first-on : (c : ℕ) (w : WaitRec) (ws : List WaitRec) → ((u : ℕ) → count_by (λ w. is_on c w && is_wait_of u w) ws ≤ 1) → find (is_on c) ws ≡ Some w
    → filter (is_on c) ws ≡ w ∷ filter (is_on c) (table.without_wait w.tid ws)
first-on c w [] once found = absurd (cc)
first-on c w (v ∷ ws) once found = by_test (is_on c v) refl found (first-on c w ws)
  where
    counted : (u : ℕ)
        → count_by (λ w. is_on c w && is_wait_of u w) (v ∷ ws) ≡ one (is_on c v && is_wait_of u v) + count_by (λ w. is_on c w && is_wait_of u w) ws
    counted u = count-cons (λ w. is_on c w && is_wait_of u w) v ws

    by_test : (b : Bool) → is_on c v ≡ b → cond b (Some v) (find (is_on c) ws) ≡ Some w
        → (((u : ℕ) → count_by (λ w. is_on c w && is_wait_of u w) ws ≤ 1) → find (is_on c) ws ≡ Some w
        → filter (is_on c) ws ≡ w ∷ filter (is_on c) (table.without_wait w.tid ws))
        → cond b (v ∷ filter (is_on c) ws) (filter (is_on c) ws)
        ≡ w ∷ filter (is_on c) (cond (not (is_wait_of w.tid v)) (v ∷ table.without_wait w.tid ws) (table.without_wait w.tid ws))
    by_test true e is rest =
        let same : v ≡ w = cc in
        rw (← same) (rw (eq-eqb v.tid v.tid refl) (ap (λ vs. v ∷ vs) (sym (others-on c v.tid ws none))))
      where
        its : one (is_on c v && is_wait_of v.tid v) ≡ 1
        its = rw (e, eq-eqb v.tid v.tid refl) refl

        none : count_by (λ w. is_on c w && is_wait_of v.tid w) ws ≡ 0
        none = omega (arith, once v.tid, counted v.tid, its)
    by_test false e is rest = rest (λ u. omega (arith, once u, counted u)) is ∙ ap (λ vs. w ∷ vs) (by_other (is_wait_of w.tid v))
      where
        by_other : (d : Bool)
            → filter (is_on c) (table.without_wait w.tid ws) ≡ filter (is_on c) (cond (not d) (v ∷ table.without_wait w.tid ws) (table.without_wait w.tid ws))
        by_other true = refl
        by_other false = rw e refl

pub first_is_woken : FirstIsWoken
first_is_woken t c once w first = first-on c w t.waits once first

none-on : (c : ℕ) (ws : List WaitRec) → find (is_on c) ws ≡ None → filter (is_on c) ws ≡ []
none-on c [] none = refl
none-on c (w ∷ ws) none = by_test (is_on c w) none (none-on c ws)
  where
    by_test : (b : Bool) → cond b (Some w) (find (is_on c) ws) ≡ None → (find (is_on c) ws ≡ None → filter (is_on c) ws ≡ [])
        → cond b (w ∷ filter (is_on c) ws) (filter (is_on c) ws) ≡ []
    by_test true is rest = absurd (cc)
    by_test false is rest = rest is

pub none_is_woken : NoneIsWoken
none_is_woken t c none = none-on c t.waits none

pub once_woken : (t : ConditionTable) (c : ℕ) → IsWaitedOnce t c → (o : Option WaitRec) → IsWaitedOnce (table.after_wake t o) c
once_woken t c once None u = once u
once_woken t c once (Some w) u = omega (arith, once u, count-filter-le (λ w. is_on c w && is_wait_of u w) (λ v. not (is_wait_of w.tid v)) t.waits)

pub all_are_woken : AllAreWoken
all_are_woken t c zero once few = sym (nobody (table.waits_on t c) few)
  where
    nobody : (ws : List WaitRec) → length ws ≤ 0 → ws ≡ []
    nobody [] few = refl
    nobody (w ∷ ws) few = absurd (omega arith)
all_are_woken t c (suc n) once few = by_first (table.first_wait t c) refl (λ after. all_are_woken after c n)
  where
    by_first : (o : Option WaitRec) → table.first_wait t c ≡ o
        → ((after : ConditionTable) → IsWaitedOnce after c → length (table.waits_on after c) ≤ n → woken_by n after c ≡ table.waits_on after c)
        → first_and o (woken_by n (table.after_wake t o) c) ≡ table.waits_on t c
    by_first None first rest = sym (none_is_woken t c first)
    by_first (Some w) first rest = ap (λ ws. w ∷ ws) (rest (table.after_wake t (Some w)) (once_woken t c once (Some w)) fewer)
        ∙ sym (first_is_woken t c once w first)
      where
        fewer : length (table.waits_on (table.after_wake t (Some w)) c) ≤ n
        fewer = omega (arith, few, ap length (first_is_woken t c once w first))

-- ranks

ranked-requeued : (before after : ℕ → ℕ) (u p : ℕ) → after u ≡ p → ((v : ℕ) → v ≢ u → after v ≡ before v) → (ws : List WaitRec)
    → AreRanked before ws → AreRanked after (table.with_priority u p ws)
ranked-requeued before after u p its others [] all = tt
ranked-requeued before after u p its others (w ∷ ws) all = (here, ranked-requeued before after u p its others ws all.1)
  where
    here : cond (eqb w.tid u) p w.prio ≡ after w.tid
    here = elim (cases_eq w.tid u) [
      | inl e ↦ rw (eq-eqb w.tid u e, e) (sym its)
      | inr away ↦ rw (ne_eqb w.tid u away) (all.0 ∙ sym (others w.tid away))
    ]

module _ (priority : ℕ → ℕ) (t : ConditionTable) (ranked : AreRanked priority t.waits) where
  pub ranked_forgotten : (u : ℕ) → AreRanked priority (table.after_forget t u).waits
  ranked_forgotten u = All-filter _ _ t.waits ranked

  pub ranked_waited : (w : WaitRec) → w.prio ≡ priority w.tid → AreRanked priority (table.after_wait t w).waits
  ranked_waited w its = All-push _ t.waits w ranked its

pub ranked_same : (before after : ℕ → ℕ) (t : ConditionTable) → AreRanked before t.waits → ((v : ℕ) → after v ≡ before v) → AreRanked after t.waits
ranked_same before after t ranked same = All-weaker _ _ (λ w e. e ∙ sym (same w.tid)) t.waits ranked

pub ranked_requeued : (before after : ℕ → ℕ) (t : ConditionTable) (u p : ℕ) → AreRanked before t.waits → after u ≡ p
    → ((v : ℕ) → v ≢ u → after v ≡ before v) → AreRanked after (table.after_requeue t u p).waits
ranked_requeued before after t u p ranked its others = ranked-requeued before after u p its others t.waits ranked

pub ranks_last : RanksLast
ranks_last = record {
  forgotten = ranked_forgotten;
  waited = ranked_waited;
  requeued = ranked_requeued;
  same = ranked_same;
}
