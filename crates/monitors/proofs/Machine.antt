-- The monitors are the machine's.
use Rattle.lwp_types.specs.Case.{Case, answer_case, refusal_case, unless}
use Rattle.lwp_types.specs.Choice.{best_by}
use Rattle.lwp_types.specs.ListLaws.{All-push, All-weaker}
use Rattle.lwp_types.specs.Monitors as machine
use Rattle.lwp_types.specs.MonitorRelease as machine_release
use Rattle.lwp_types.specs.MonitorRelease.{grant, next_owner, release}
use Rattle.lwp_types.specs.State.{State, priority_in, still}
use Rattle.lwp_types.specs.Unblock.{after_block, unblock, zero_answer}
use Rattle.lwp_types.specs.declared.rows.Request.{Request}
use Rattle.lwp_types.proofs.Ranks.{All-filter, best-map, map-filter}
use Rattle.monitors.specs.Machine.{AreRanked, BirthsAgree, EntriesAgree, ForgettingAgrees, LeavesAgree, NextAgrees, RanksLast, ReleasesAgree}
use Rattle.monitors.specs.Machine.{RequestsAgree, RequeuesAgree, WaitersAgree, WaitsAgree, birth_case, with_monitors, with_owner}
use Rattle.monitors.specs.MonitorTable as table
use Rattle.monitors.specs.MonitorTable.{MonitorTable, machine_row}
use Rattle.monitors.specs.declared.requests.EntryRequest.{EntryRequest}
use Rattle.std.proofs.Common.{Bool, List, None, Option, Some, [], ap, cond, eqb, false, inl, inr, length}
use Rattle.std.proofs.Common.{map, refl, sym, true, ℕ, ◌++◌, ◌+◌, ◌-◌, ◌∙◌, ◌∷◌, ◌≡◌, ◌≢◌, ◌||◌}
use Rattle.std.proofs.lemmas.Bool.{cases_eq, eq-eqb, ne_eqb}
use Rattle.std.proofs.lemmas.List.{map-append}
use Rattle.std.specs.Prelude.{nat_le, option_map}
use Rattle.lwp_types.specs.declared.call.Answer.TheVariants as answer
use Rattle.lwp_types.specs.declared.call.LwpErr.TheVariants as error
use Rattle.lwp_types.specs.declared.rows.Block.TheVariants as block

pub requests_agree : RequestsAgree
requests_agree t s m = map-filter machine_row (λ r. eqb r.mon m) t.requests

pub next_agrees : NextAgrees
next_agrees t s ranked m =
    ap (best_by (λ (r : Request). priority_in s r.tid)) (requests_agree t s m)
    ∙ best-map machine_row (λ r. r.prio) (λ r. priority_in s r.tid) (table.requests_of t m) (All-filter _ (λ r. eqb r.mon m) t.requests ranked)

tids-map : (rs : List EntryRequest) → map (λ (r : Request). r.tid) (map machine_row rs) ≡ map (λ (r : EntryRequest). r.tid) rs
tids-map [] = refl
tids-map (r ∷ rs) = ap (λ ns. r.tid ∷ ns) (tids-map rs)

pub waiters_agree : WaitersAgree
waiters_agree t s m = ap (map (λ (r : Request). r.tid)) (requests_agree t s m) ∙ tids-map (table.requests_of t m)

-- whether one may be born, and what becomes of that
abbrev tried : MonitorTable → State → Bool → Bool → Case
tried t s full last = cond full (refusal_case (with_monitors t s) error.NoRoom) (cond last (refusal_case (with_monitors t s) error.NoRoom)
    (answer_case (record (with_monitors t s) { monitors = t.monitors ++ t.births ∷ []; monitor_births = t.births + 1 }) (answer.Monitor t.births)))

pub births_agree : BirthsAgree
unfolding unless
births_agree t s same = ap (λ n. tried t s (nat_le 256 (length t.monitors)) (nat_le n t.births)) (sym same)
    ∙ by_tests (nat_le 256 (length t.monitors)) (nat_le t.limit t.births)
  where
    by_tests : (full last : Bool)
        → tried t s full last
        ≡ birth_case (cond (full || last) None (Some t.births)) (with_monitors t s) (with_monitors (cond (full || last) t
        (record t { monitors = t.monitors ++ t.births ∷ []; births = t.births + 1 })) s)
    by_tests true last = refl
    by_tests false true = refl
    by_tests false false = refl

pub entries_agree : EntriesAgree
entries_agree t s u m = refl

pub waits_agree : WaitsAgree
waits_agree t s u m p = ap (λ rs. after_block (record (with_monitors t s) { requests = rs }) u (block.Entering m))
    (sym (map-append machine_row t.requests (record { mon = m; tid = u; prio = p; depth = 1 } ∷ [])))

without-row : (t : MonitorTable) (u : ℕ) → map machine_row (table.without_request u t.requests) ≡ machine_release.without_request u (map machine_row t.requests)
without-row t u = sym (map-filter machine_row _ t.requests)

pub forgetting_agrees : ForgettingAgrees
forgetting_agrees t s u = ap (λ rs. record (with_monitors t s) { requests = rs }) (without-row t u)

pub releases_agree : ReleasesAgree
releases_agree t s ranked m = ap (λ o. grant o (with_monitors (table.after_give_up t m) s)) (next_agrees t s ranked m) ∙ by_next (table.next_request t m)
  where
    by_next : (o : Option EntryRequest)
        → grant (option_map machine_row o) (with_monitors (table.after_give_up t m) s)
        ≡ with_owner (option_map (λ (r : EntryRequest). r.tid) o) (with_monitors (table.with_grant (table.after_give_up t m) o) s)
    by_next None = refl
    by_next (Some r) =
        ap (λ rs. unblock zero_answer r.tid (record (with_monitors (table.with_grant (table.after_give_up t m) (Some r)) s) { requests = rs }))
        (sym (without-row t r.tid))

pub leaves_agree : LeavesAgree
leaves_agree t s ranked m = by_test (table.is_outermost t m)
  where
    deeper : MonitorTable
    deeper = record t { locks = machine.with_depth m (machine.depth_in t.locks m - 1) t.locks }

    by_test : (b : Bool)
        → cond b (release m (with_monitors t s)) (still (with_monitors deeper s))
        ≡ with_owner (cond b (table.next_owner t m) None) (with_monitors (cond b (table.after_release t m) deeper) s)
    by_test true = releases_agree t s ranked m
    by_test false = refl

requeued-row : (u p : ℕ) (rs : List EntryRequest) → map machine_row (table.with_priority u p rs) ≡ map machine_row rs
requeued-row u p [] = refl
requeued-row u p (r ∷ rs) = ap (λ qs. machine_row r ∷ qs) (requeued-row u p rs)

pub requeues_agree : RequeuesAgree
requeues_agree t s u p = ap (λ rs. record (with_monitors t s) { requests = rs }) (requeued-row u p t.requests)

-- ranks

ranked-requeued : (before after : ℕ → ℕ) (u p : ℕ) → after u ≡ p → ((v : ℕ) → v ≢ u → after v ≡ before v) → (rs : List EntryRequest)
    → AreRanked before rs → AreRanked after (table.with_priority u p rs)
ranked-requeued before after u p its others [] all = tt
ranked-requeued before after u p its others (r ∷ rs) all = (here, ranked-requeued before after u p its others rs all.1)
  where
    here : cond (eqb r.tid u) p r.prio ≡ after r.tid
    here = elim (cases_eq r.tid u) [
      | inl e ↦ rw (eq-eqb r.tid u e, e) (sym its)
      | inr away ↦ rw (ne_eqb r.tid u away) (all.0 ∙ sym (others r.tid away))
    ]

module _ (priority : ℕ → ℕ) (t : MonitorTable) (ranked : AreRanked priority t.requests) where
  pub ranked_forgotten : (u : ℕ) → AreRanked priority (table.after_forget t u).requests
  ranked_forgotten u = All-filter _ _ t.requests ranked

  pub ranked_released : (m : ℕ) → AreRanked priority (table.after_release t m).requests
  ranked_released m = by_next (table.next_request t m)
    where
      by_next : (o : Option EntryRequest) → AreRanked priority (table.with_grant (table.after_give_up t m) o).requests
      by_next None = ranked
      by_next (Some r) = ranked_forgotten r.tid

  pub ranked_exited : (m : ℕ) → AreRanked priority (table.after_exit t m).requests
  ranked_exited m = by_test (table.is_outermost t m)
    where
      by_test : (b : Bool)
          → AreRanked priority (cond b (table.after_release t m) (record t { locks = machine.with_depth m (machine.depth_in t.locks m - 1) t.locks })).requests
      by_test true = ranked_released m
      by_test false = ranked

  pub ranked_requested : (r : EntryRequest) → r.prio ≡ priority r.tid → AreRanked priority (table.after_request t r).requests
  ranked_requested r its = All-push _ t.requests r ranked its

pub ranked_same : (before after : ℕ → ℕ) (t : MonitorTable) → AreRanked before t.requests → ((v : ℕ) → after v ≡ before v) → AreRanked after t.requests
ranked_same before after t ranked same = All-weaker _ _ (λ r e. e ∙ sym (same r.tid)) t.requests ranked

pub ranked_requeued : (before after : ℕ → ℕ) (t : MonitorTable) (u p : ℕ) → AreRanked before t.requests → after u ≡ p
    → ((v : ℕ) → v ≢ u → after v ≡ before v) → AreRanked after (table.after_requeue t u p).requests
ranked_requeued before after t u p ranked its others = ranked-requeued before after u p its others t.requests ranked

pub ranks_last : RanksLast
ranks_last = record {
  forgotten = ranked_forgotten;
  released = ranked_released;
  exited = ranked_exited;
  requested = ranked_requested;
  requeued = ranked_requeued;
  same = ranked_same;
}
