-- A thread is resumed, and the exit status set.
use Rattle.death_cleanup.proofs.Looks.{same-some, suspended-same}
use Rattle.death_cleanup.specs.Ties.{InStep}
use Rattle.death_cleanup.specs.View.{known_of, row_of, row_onto, rows_of, state_of}
use Rattle.death_cleanup.specs.declared.parts.Parts.{Parts}
use Rattle.death_cleanup.specs.declared.rows.Kind.{Kind}
use Rattle.death_cleanup.specs.declared.rows.Kind.TheVariants as kind
use Rattle.death_cleanup.specs.declared.rows.ThreadRec.{ThreadRec}
use Rattle.lwp_types.specs.Case.{refusal_case, unless, value_case}
use Rattle.lwp_types.specs.Lawful.{is_same_option}
use Rattle.lwp_types.specs.State as machine
use Rattle.lwp_types.specs.State.{State, ThreadRow, is_not_blocked, is_number, is_thread, passes}
use Rattle.lwp_types.specs.Threads.{after_resume, resume, set_exit}
use Rattle.lwp_types.specs.declared.call.LwpErr.TheVariants as error
use Rattle.monitors.proofs.Machine as mons
use Rattle.conditions.proofs.Machine as conds
use Rattle.pod_sched.specs.Schedule as sched
use Rattle.pod_sched.specs.Schedule.{newcomer}
use Rattle.pod_sched.specs.declared.rows.Known.{Known}
use Rattle.std.proofs.Common.{Bool, List, None, Option, Some, [], ap, arith, cond, eqb, false, inl, inr}
use Rattle.std.proofs.Common.{length, not, refl, sym, true, ℕ, ◌&&◌, ◌∙◌, ◌∷◌, ◌≡◌, ◌<◌, ◌≤◌}
use Rattle.std.proofs.lemmas.Bool.{cases_eq, eq-eqb, le-ltb, lt-ltb, ne_eqb}
use Rattle.std.specs.List.{find}
use Rattle.std.specs.Prelude.{is_some, option_map, unwrap_or}

find-suspended : (t u : ℕ) (b : Bool) (known : List Known)
    → find (sched.is_of u) (sched.with_suspension t b known) ≡ option_map (sched.row_with_suspension t b) (find (sched.is_of u) known)
find-suspended t u b [] = refl
find-suspended t u b (row ∷ known) = by_test (find-suspended t u b known) (sched.is_of u row)
  where
    by_test : find (sched.is_of u) (sched.with_suspension t b known) ≡ option_map (sched.row_with_suspension t b) (find (sched.is_of u) known) → (c : Bool)
        → cond c (Some (sched.row_with_suspension t b row)) (find (sched.is_of u) (sched.with_suspension t b known))
        ≡ option_map (sched.row_with_suspension t b) (cond c (Some row) (find (sched.is_of u) known))
    by_test rest true = refl
    by_test rest false = rest

find-row : (t u : ℕ) (b : Bool) (rows : List ThreadRow)
    → find (is_number u) (machine.with_suspension t b rows) ≡ option_map (machine.row_with_suspension t b) (find (is_number u) rows)
find-row t u b [] = refl
find-row t u b (row ∷ rows) = by_test (find-row t u b rows) (is_number u row)
  where
    by_test : find (is_number u) (machine.with_suspension t b rows) ≡ option_map (machine.row_with_suspension t b) (find (is_number u) rows) → (c : Bool)
        → cond c (Some (machine.row_with_suspension t b row)) (find (is_number u) (machine.with_suspension t b rows))
        ≡ option_map (machine.row_with_suspension t b) (cond c (Some row) (find (is_number u) rows))
    by_test rest true = refl
    by_test rest false = rest

rows-length : (t : ℕ) (b : Bool) (rows : List ThreadRow) → length (machine.with_suspension t b rows) ≡ length rows
rows-length t b [] = refl
rows-length t b (row ∷ rows) = omega (arith, rows-length t b rows)

module _ (p t : ℕ) where
  -- the row of a thread, where any is resumed
  row-resumed : (known : List Known) (n : ℕ) (rec : ThreadRec)
      → row_of (known_of p (sched.with_suspension t false known) n) n rec ≡ machine.row_with_suspension t false (row_of (known_of p known n) n rec)
  row-resumed known n rec = ap (λ o. row_of (unwrap_or o (newcomer n p false)) n rec) (find-suspended t n false known)
      ∙ by_found (find (sched.is_of n) known) refl
    where
      by_found : (o : Option Known) → find (sched.is_of n) known ≡ o
          → row_of (unwrap_or (option_map (sched.row_with_suspension t false) o) (newcomer n p false)) n rec
          ≡ machine.row_with_suspension t false (row_of (unwrap_or o (newcomer n p false)) n rec)
      by_found None e = by_test (eqb n t)
        where
          by_test : (c : Bool) → row_of (newcomer n p false) n rec ≡ record (row_of (newcomer n p false) n rec) { suspended = cond c false false }
          by_test true = refl
          by_test false = refl
      by_found (Some row) e = ap (λ m. row_of (record row { suspended = cond (eqb m t) false row.suspended }) n rec) (found-of known e)
        where
          found-of : (known : List Known) → find (sched.is_of n) known ≡ Some row → row.tid ≡ n
          found-of [] h = absurd (cc)
          found-of (k ∷ known) h = elim (cases_eq k.tid n) [
            | inl same ↦
                let here : Some k ≡ Some row = (rw (eq-eqb k.tid n same) at h) in
                let its : k ≡ row = cc in
                ap (λ (r : Known). r.tid) (sym its) ∙ same
            | inr away ↦ found-of known (rw (ne_eqb k.tid n away) at h)
          ]

  rows-resumed : (known : List Known) (living : List (ℕ × Kind))
      → rows_of p (sched.with_suspension t false known) living ≡ machine.with_suspension t false (rows_of p known living)
  rows-resumed known [] = refl
  rows-resumed known (live ∷ living) = by_kind live.0 live.1 (rows-resumed known living)
    where
      by_kind : (n : ℕ) (k : Kind) → rows_of p (sched.with_suspension t false known) living ≡ machine.with_suspension t false (rows_of p known living)
          → row_onto (known_of p (sched.with_suspension t false known) n) n k (rows_of p (sched.with_suspension t false known) living)
          ≡ machine.with_suspension t false (row_onto (known_of p known n) n k (rows_of p known living))
      by_kind n kind.Agent rest = rest
      by_kind n (kind.Thread rec) rest = ap (λ row. row ∷ rows_of p (sched.with_suspension t false known) living) (row-resumed known n rec)
          ∙ ap (λ rows. machine.row_with_suspension t false (row_of (known_of p known n) n rec) ∷ rows) rest

-- whom nobody knows is resumed in vain
unknown-same : (t : ℕ) (known : List Known) → find (sched.is_of t) known ≡ None → sched.with_suspension t false known ≡ known
unknown-same t [] h = refl
unknown-same t (row ∷ known) h = elim (cases_eq row.tid t) [
  | inl e ↦ absurd (let no : Some row ≡ None = (rw (eq-eqb row.tid t e) at h) in cc)
  | inr away ↦ rw (ne_eqb row.tid t away) (ap (λ rows. row ∷ rows) (unknown-same t known (rw (ne_eqb row.tid t away) at h)))
]

pub resumed-unknown : (s : sched.Schedule) (t : ℕ) → sched.knows s t ≡ false → sched.after_resume s t ≡ s
resumed-unknown s t unknown = by_found (find (sched.is_of t) s.threads) refl unknown
  where
    by_found : (o : Option Known) → find (sched.is_of t) s.threads ≡ o → is_some o ≡ false → sched.after_resume s t ≡ s
    by_found None e h = rw (e, unknown-same t s.threads e) refl
    by_found (Some row) e h = absurd (cc)

module _ (parts : Parts) (t : ℕ) where
  abbrev pub resumed-parts : Parts
  resumed-parts = record parts { sched = sched.after_resume parts.sched t }

  threads-are : (state_of resumed-parts).threads ≡ machine.with_suspension t false (state_of parts).threads
  threads-are = rows-resumed parts.last_prio t parts.sched.threads parts.ids.live

  found : (u : ℕ) → machine.thread_of (state_of resumed-parts) u ≡ option_map (machine.row_with_suspension t false) (machine.thread_of (state_of parts) u)
  found u = ap (find (is_number u)) threads-are ∙ find-row t u false (state_of parts).threads

  priority-same : (u : ℕ) → machine.priority_in (state_of resumed-parts) u ≡ machine.priority_in (state_of parts) u
  priority-same u = ap prio (found u) ∙ same (machine.thread_of (state_of parts) u)
    where
      prio : Option ThreadRow → ℕ
      prio o = unwrap_or (option_map (λ (row : ThreadRow). row.priority) o) 0

      same : (o : Option ThreadRow)
          → unwrap_or (option_map (λ (row : ThreadRow). row.priority) (option_map (machine.row_with_suspension t false) o)) 0
          ≡ unwrap_or (option_map (λ (row : ThreadRow). row.priority) o) 0
      same None = refl
      same (Some row) = refl

  module _ (step : InStep parts) where
    pub InStep-resumed : InStep resumed-parts
    InStep-resumed = record {
      tied = record {
        known = λ u. ap is_some (find-suspended t u false parts.sched.threads)
            ∙ same-some (sched.row_with_suspension t false) (find (sched.is_of u) parts.sched.threads) ∙ step.tied.known u
            ∙ ap (λ b. b && not (is_same_option parts.dying u))
            (sym (ap is_some (found u) ∙ same-some (machine.row_with_suspension t false) (machine.thread_of (state_of parts) u)));
        waits = λ u. ap (passes (λ (row : Known). row.blocked)) (find-suspended t u false parts.sched.threads)
            ∙ blocked (find (sched.is_of u) parts.sched.threads) ∙ step.tied.waits u
            ∙ sym (ap (passes (λ (row : ThreadRow). not (is_not_blocked row.block))) (found u) ∙ waiting (machine.thread_of (state_of parts) u));
      };
      ranked = record {
        requests = mons.ranked_same (machine.priority_in (state_of parts)) (machine.priority_in (state_of resumed-parts)) parts.mons
            step.ranked.requests priority-same;
        waits = conds.ranked_same (machine.priority_in (state_of parts)) (machine.priority_in (state_of resumed-parts)) parts.conds
            step.ranked.waits priority-same;
      };
      roomy =
          let same : length (state_of resumed-parts).threads
          ≡ length (state_of parts).threads = ap length threads-are ∙ rows-length t false (state_of parts).threads in
          record {
            letters = omega (arith, same, step.roomy.letters);
            threads = omega (arith, same, step.roomy.threads);
            requests = omega (arith, same, step.roomy.requests);
            waits = omega (arith, same, step.roomy.waits);
          };
      monitors = step.monitors;
      conditions = step.conditions;
      noted = step.noted;
    }
      where
        blocked : (o : Option Known)
            → passes (λ (row : Known). row.blocked) (option_map (sched.row_with_suspension t false) o) ≡ passes (λ (row : Known). row.blocked) o
        blocked None = refl
        blocked (Some row) = refl

        waiting : (o : Option ThreadRow)
            → passes (λ (row : ThreadRow). not (is_not_blocked row.block)) (option_map (machine.row_with_suspension t false) o)
            ≡ passes (λ (row : ThreadRow). not (is_not_blocked row.block)) o
        waiting None = refl
        waiting (Some row) = refl

    resumed-is : is_thread (state_of parts) t ≡ true → after_resume (state_of parts) t ≡ state_of resumed-parts
    resumed-is lives = rw (threads-are, suspended-same parts t lives, sym (step.tied.waits t)) refl

    pub resume-is : is_thread (state_of parts) t ≡ true → resume (state_of parts) t ≡ value_case (state_of resumed-parts) 0
    unfolding unless
    resume-is lives = rw lives (ap (λ s. value_case s 0) (resumed-is lives))

    pub resume-vain : is_thread (state_of parts) t ≡ true → sched.knows parts.sched t ≡ false → resume (state_of parts) t ≡ value_case (state_of parts) 0
    resume-vain lives unknown = resume-is lives ∙ ap (λ s. value_case (state_of (record parts { sched = s })) 0) (resumed-unknown parts.sched t unknown)

pub resume-absent : (s : State) (t : ℕ) → is_thread s t ≡ false → resume s t ≡ refusal_case s error.NonExist
unfolding unless
resume-absent s t none = rw none refl

-- the exit status

pub exit-high : (s : State) (code : ℕ) → 99 < code → set_exit s code ≡ refusal_case s error.InvalidArg
unfolding unless
exit-high s code high = rw (lt-ltb 99 code high) refl

pub exit-low : (s : State) (code : ℕ) → code ≤ 99 → set_exit s code ≡ value_case (record s { status = code }) 0
unfolding unless
exit-low s code low = rw (le-ltb 99 code low) refl

-- another status keeps the invariant between the parts
pub InStep-exit : (parts : Parts) (code : ℕ) → InStep parts → InStep (record parts { exit = code })
InStep-exit parts code step = record {
  tied = record { known = step.tied.known; waits = step.tied.waits };
  ranked = record { requests = step.ranked.requests; waits = step.ranked.waits };
  roomy = record { letters = step.roomy.letters; threads = step.roomy.threads; requests = step.roomy.requests; waits = step.roomy.waits };
  monitors = step.monitors;
  conditions = step.conditions;
  noted = step.noted;
}
