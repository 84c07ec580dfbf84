-- A thread is suspended, and a thread has another priority.
use Rattle.death_cleanup.specs.Ties.{InStep}
use Rattle.death_cleanup.specs.View.{state_of}
use Rattle.death_cleanup.specs.declared.parts.Parts.{Parts}
use Rattle.conditions.specs.ConditionTable as cv
use Rattle.conditions.specs.declared.waits.WaitRec.{WaitRec}
use Rattle.lwp_calls.proofs.Agree.{eligible-same, known-same, priority-same}
use Rattle.lwp_calls.proofs.Changes.{InStep-moved, IsRoomy-moved, IsTied-moved, find-row, priority_of, rows-changed}
use Rattle.monitors.specs.MonitorTable as mon
use Rattle.monitors.specs.declared.requests.EntryRequest.{EntryRequest}
use Rattle.lwp_types.specs.State as machine
use Rattle.lwp_types.specs.State.{ThreadRow, is_number}
use Rattle.lwp_types.specs.Threads as threads
use Rattle.pod_sched.specs.Schedule as sched
use Rattle.pod_sched.specs.declared.rows.Known.{Known}
use Rattle.std.proofs.Common.{Bool, List, None, Option, Some, [], ap, cond, eqb, false, inl, inr, map, refl, sym, true, ℕ, ◌∙◌, ◌∷◌, ◌≡◌}
use Rattle.std.proofs.lemmas.Bool.{cases_eq, ne_eqb}
use Rattle.std.specs.List.{AllByRecursion, find}
use Rattle.std.specs.Prelude.{is_some, option_map, unwrap_or}

abbrev known_suspended : Bool → Known → Known
known_suspended c k = record k { suspended = cond c true k.suspended }

abbrev row_suspended : Bool → ThreadRow → ThreadRow
row_suspended c row = record row { suspended = cond c true row.suspended }

module _ (parts : Parts) (t : ℕ) where
  rows-suspended : sched.knows parts.sched t ≡ true
      → (state_of (record parts { sched = sched.after_suspend parts.sched t })).threads ≡ machine.with_suspension t true (state_of parts).threads
  rows-suspended known = rows-changed parts.last_prio t known_suspended row_suspended (λ c k. refl) (λ k. refl) (λ c k n rec. refl)
      parts.sched.threads known parts.ids.live

  pub suspended-is : sched.knows parts.sched t ≡ true
      → threads.after_suspend (state_of parts) t ≡ state_of (record parts { sched = sched.after_suspend parts.sched t })
  suspended-is known = rw (rows-suspended known) refl

  pub InStep-suspended : InStep parts → sched.knows parts.sched t ≡ true → InStep (record parts { sched = sched.after_suspend parts.sched t })
  InStep-suspended step known = InStep-moved parts t known_suspended row_suspended (λ c k. refl) (λ c row. refl) step
      (machine.without t parts.sched.order) (rows-suspended known) (λ c k. refl) (λ c row. refl) (λ c row. refl)

module _ (t p : ℕ) where
  abbrev known_ranked : Bool → Known → Known
  known_ranked c k = record k { prio = cond c p k.prio }

  abbrev row_ranked : Bool → ThreadRow → ThreadRow
  row_ranked c row = record row { priority = cond c p row.priority }

  -- the machine's requests and waits don't show a priority
  requests-shown : (rs : List EntryRequest) → map mon.machine_row (mon.with_priority t p rs) ≡ map mon.machine_row rs
  requests-shown [] = refl
  requests-shown (r ∷ rs) = ap (λ ms. mon.machine_row r ∷ ms) (requests-shown rs)

  waits-shown : (ws : List WaitRec) → map cv.machine_row (cv.with_priority t p ws) ≡ map cv.machine_row ws
  waits-shown [] = refl
  waits-shown (w ∷ ws) = ap (λ ms. cv.machine_row w ∷ ms) (waits-shown ws)

  -- all that had their threads' priorities have them again
  requests-ranked : (was now : ℕ → ℕ) → ((u : ℕ) → now u ≡ cond (eqb u t) p (was u)) → (rs : List EntryRequest)
      → AllByRecursion (λ (r : EntryRequest). r.prio ≡ was r.tid) rs → AllByRecursion (λ (r : EntryRequest). r.prio ≡ now r.tid) (mon.with_priority t p rs)
  requests-ranked was now is [] all = tt
  requests-ranked was now is (r ∷ rs) all = (ap (λ n. cond (eqb r.tid t) p n) all.0 ∙ sym (is r.tid), requests-ranked was now is rs all.1)

  waits-ranked : (was now : ℕ → ℕ) → ((u : ℕ) → now u ≡ cond (eqb u t) p (was u)) → (ws : List WaitRec)
      → AllByRecursion (λ (w : WaitRec). w.prio ≡ was w.tid) ws → AllByRecursion (λ (w : WaitRec). w.prio ≡ now w.tid) (cv.with_priority t p ws)
  waits-ranked was now is [] all = tt
  waits-ranked was now is (w ∷ ws) all = (ap (λ n. cond (eqb w.tid t) p n) all.0 ∙ sym (is w.tid), waits-ranked was now is ws all.1)

  module _ (parts : Parts) where
    -- the parts once t has priority p
    abbrev pub prioritized : Parts
    prioritized = record parts {
      sched = sched.after_set_priority parts.sched t p;
      mons = mon.after_requeue parts.mons t p;
      conds = cv.after_requeue parts.conds t p;
    }

    rows-ranked : sched.knows parts.sched t ≡ true → (state_of prioritized).threads ≡ machine.with_priority t p (state_of parts).threads
    rows-ranked known = rows-changed parts.last_prio t known_ranked row_ranked (λ c k. refl) (λ k. refl) (λ c k n rec. refl)
        parts.sched.threads known parts.ids.live

    module _ (step : InStep parts) (alone : parts.dying ≡ None) (known : sched.knows parts.sched t ≡ true) where
      pub prioritized-is : threads.after_set_priority (state_of parts) t p ≡ state_of prioritized
      prioritized-is = rw (
        rows-ranked known,
        requests-shown parts.mons.requests,
        waits-shown parts.conds.waits,
        eligible-same parts step.tied alone t,
        priority-same parts step.tied alone t,
      )
          refl

      ranks : (u : ℕ) → machine.priority_in (state_of prioritized) u ≡ cond (eqb u t) p (machine.priority_in (state_of parts) u)
      ranks u = ap (λ rows. priority_of parts t known_ranked row_ranked (λ c k. refl) (λ c row. refl) (find (is_number u) rows)) (rows-ranked known)
          ∙ ap (priority_of parts t known_ranked row_ranked (λ c k. refl) (λ c row. refl)) (find-row t row_ranked (λ c row. refl) u (state_of parts).threads)
          ∙ by_row (machine.thread_of (state_of parts) u) (sym (known-same parts step.tied alone u))
        where
          by_row : (o : Option ThreadRow) → is_some o ≡ sched.knows parts.sched u
              → unwrap_or (option_map (λ (row : ThreadRow). row.priority) (option_map (row_ranked (eqb u t)) o)) 0
              ≡ cond (eqb u t) p (unwrap_or (option_map (λ (row : ThreadRow). row.priority) o) 0)
          by_row (Some row) is = refl
          by_row None is = elim (cases_eq u t) [
            | inl e ↦ absurd (let no : false ≡ true = is ∙ ap (sched.knows parts.sched) e ∙ known in cc)
            | inr away ↦ rw (ne_eqb u t away) refl
          ]

      pub InStep-prioritized : InStep prioritized
      InStep-prioritized =
          let order : List ℕ = (sched.after_set_priority parts.sched t p).order in
          let tied = IsTied-moved parts t known_ranked row_ranked (λ c k. refl) (λ c row. refl) step order (rows-ranked known) (λ c k. refl) (λ c row. refl) in
          let roomy = IsRoomy-moved parts t known_ranked row_ranked (λ c k. refl) (λ c row. refl) step order (rows-ranked known)
          (λ c k. refl) (λ c row. refl) in
          record {
            tied = record { known = tied.known; waits = tied.waits };
            ranked = record {
              requests = requests-ranked (machine.priority_in (state_of parts)) (machine.priority_in (state_of prioritized)) ranks
                  parts.mons.requests step.ranked.requests;
              waits = waits-ranked (machine.priority_in (state_of parts)) (machine.priority_in (state_of prioritized)) ranks
                  parts.conds.waits step.ranked.waits;
            };
            roomy = record { letters = roomy.letters; threads = roomy.threads; requests = roomy.requests; waits = roomy.waits };
            monitors = step.monitors;
            conditions = step.conditions;
            noted = step.noted;
          }
