-- A dying thread leaves the scheduler first; its priority is noted.
use Rattle.death_cleanup.proofs.Notes.{noted-block}
use Rattle.conditions.specs.ConditionTable as cond_table
use Rattle.death_cleanup.proofs.Looks.{find-row, row-unblocked, same-some, waits}
use Rattle.death_cleanup.specs.Moves.{after_withdraw, pair_with_block, kind_with_block}
use Rattle.death_cleanup.specs.Ties.{InStep, IsTied}
use Rattle.death_cleanup.specs.View.{known_of, row_of, row_onto, rows_of, state_of}
use Rattle.death_cleanup.specs.declared.rows.Kind.{Kind}
use Rattle.death_cleanup.specs.declared.rows.Kind.TheVariants as kind
use Rattle.death_cleanup.specs.declared.rows.ThreadRec.{ThreadRec}
use Rattle.death_cleanup.specs.declared.parts.Parts.{Parts}
use Rattle.lwp_types.specs.Death.{withdraw}
use Rattle.lwp_types.specs.Lawful.{is_same_option}
use Rattle.lwp_types.specs.State as machine
use Rattle.lwp_types.specs.State.{State, is_thread, passes, row_with_suspension, ThreadRow, is_number, with_block, with_suspension}
use Rattle.lwp_types.specs.declared.rows.Block.TheVariants as block
use Rattle.lwp_types.specs.MonitorRelease as release
use Rattle.lwp_types.specs.Conditions as machine_waits
use Rattle.monitors.specs.MonitorTable as mon_table
use Rattle.monitors.specs.declared.requests.EntryRequest.{EntryRequest}
use Rattle.conditions.specs.declared.waits.WaitRec.{WaitRec}
use Rattle.pod_sched.specs.Schedule as sched
use Rattle.pod_sched.specs.Schedule.{newcomer}
use Rattle.pod_sched.specs.declared.rows.Known.{Known}
use Rattle.std.proofs.Common.{Bool, List, None, Option, Some, [], ap, arith, cond, eqb, false, inl}
use Rattle.std.proofs.Common.{inr, length, map, not, refl, ◌&&◌, sym, true, ℕ, ◌∙◌, ◌∷◌, ◌≡◌}
use Rattle.std.proofs.lemmas.Bool.{cases_eq, eq-eqb, eqb-true, ne_eqb}
use Rattle.std.specs.List.{AllByRecursion, filter, find}
use Rattle.std.proofs.lemmas.List.{length-map}
use Rattle.std.specs.Prelude.{is_some, option_map, unwrap_or}

find-without : (t u : ℕ) (known : List Known) → find (sched.is_of u) (sched.without_row t known) ≡ cond (eqb u t) None (find (sched.is_of u) known)
find-without t u [] = none (eqb u t)
  where
    none : (c : Bool) → None ≡ cond c None (find (sched.is_of u) [])
    none true = refl
    none false = refl
find-without t u (row ∷ known) = elim (cases_eq row.tid t) [
  | inl e ↦ rw (eq-eqb row.tid t e) (gone (find-without t u known) e)
  | inr away ↦ rw (ne_eqb row.tid t away) (stays (find-without t u known) away)
]
  where
    gone : find (sched.is_of u) (sched.without_row t known) ≡ cond (eqb u t) None (find (sched.is_of u) known) → row.tid ≡ t
        → find (sched.is_of u) (sched.without_row t known) ≡ cond (eqb u t) None (cond (sched.is_of u row) (Some row) (find (sched.is_of u) known))
    gone rest e = elim (cases_eq row.tid u) [
      | inl same ↦ rest ∙ rw (eq-eqb u t (sym same ∙ e)) refl
      | inr other ↦ rw (ne_eqb row.tid u other) rest
    ]

    stays : find (sched.is_of u) (sched.without_row t known) ≡ cond (eqb u t) None (find (sched.is_of u) known) → (row.tid ≡ t → ⊥)
        → cond (sched.is_of u row) (Some row) (find (sched.is_of u) (sched.without_row t known))
        ≡ cond (eqb u t) None (cond (sched.is_of u row) (Some row) (find (sched.is_of u) known))
    stays rest away = elim (cases_eq row.tid u) [
      | inl same ↦ rw (eq-eqb row.tid u same, ne_eqb u t (λ e. away (same ∙ e))) refl
      | inr other ↦ rw (ne_eqb row.tid u other) rest
    ]

module _ (p t : ℕ) (known : List Known) where
  -- the priority that is noted
  abbrev noted : ℕ
  noted = sched.prio_in known t

  abbrev after : List Known
  after = sched.without_row t known

  -- the row of one whom the scheduler knew
  row-withdrawn : (n : ℕ) (rec : ThreadRec) (c : Bool) → eqb n t ≡ c → is_some (find (sched.is_of n) known) ≡ true
      → row_of (known_of noted after n) n (record rec { block = cond c block.Not rec.block })
      ≡ record (row_of (known_of p known n) n rec) { block = cond c block.Not rec.block; suspended = cond c false (known_of p known n).suspended }
  row-withdrawn n rec true e is =
      let same : n ≡ t = eqb-true n t e in
      ap (λ o. row_of (unwrap_or o (newcomer n noted false)) n (record rec { block = block.Not }))
      (find-without t n known ∙ ap (λ c. cond c None (find (sched.is_of n) known)) e)
      ∙ ap (λ q. record (row_of (newcomer n q false) n rec) { block = block.Not }) (ap (sched.prio_in known) (sym same) ∙ prio (find (sched.is_of n) known) is)
    where
      prio : (o : Option Known) → is_some o ≡ true → unwrap_or (option_map (λ (row : Known). row.prio) o) 0 ≡ (unwrap_or o (newcomer n p false)).prio
      prio None h = absurd (cc)
      prio (Some row) h = refl
  row-withdrawn n rec false e is =
      ap (λ o. row_of (unwrap_or o (newcomer n noted false)) n rec) (find-without t n known ∙ ap (λ c. cond c None (find (sched.is_of n) known)) e)
      ∙ found (find (sched.is_of n) known) is
    where
      found : (o : Option Known) → is_some o ≡ true → row_of (unwrap_or o (newcomer n noted false)) n rec ≡ row_of (unwrap_or o (newcomer n p false)) n rec
      found None h = absurd (cc)
      found (Some row) h = refl

  -- all rows, where the scheduler knew every thread
  pub rows-withdrawn : (living : List (ℕ × Kind))
      → ((u : ℕ) → is_some (find (is_number u) (rows_of p known living)) ≡ true → is_some (find (sched.is_of u) known) ≡ true)
      → rows_of noted after (map (pair_with_block t block.Not) living) ≡ with_suspension t false (with_block t block.Not (rows_of p known living))
  rows-withdrawn [] all = refl
  rows-withdrawn (live ∷ living) all = by_kind live.0 live.1 all (rows-withdrawn living)
    where
      by_kind : (n : ℕ) (k : Kind)
          → ((u : ℕ) → is_some (find (is_number u) (row_onto (known_of p known n) n k (rows_of p known living))) ≡ true
          → is_some (find (sched.is_of u) known) ≡ true)
          → (((u : ℕ) → is_some (find (is_number u) (rows_of p known living)) ≡ true → is_some (find (sched.is_of u) known) ≡ true)
          → rows_of noted after (map (pair_with_block t block.Not) living) ≡ with_suspension t false (with_block t block.Not (rows_of p known living)))
          → row_onto (known_of noted after n) n (cond (eqb n t) (kind_with_block block.Not k) k)
          (rows_of noted after (map (pair_with_block t block.Not) living))
          ≡ with_suspension t false (with_block t block.Not (row_onto (known_of p known n) n k (rows_of p known living)))
      by_kind n kind.Agent all rest = by_test (eqb n t)
        where
          by_test : (c : Bool)
              → row_onto (known_of noted after n) n (cond c kind.Agent kind.Agent) (rows_of noted after (map (pair_with_block t block.Not) living))
              ≡ with_suspension t false (with_block t block.Not (rows_of p known living))
          by_test true = rest all
          by_test false = rest all
      by_kind n (kind.Thread rec) all rest = by_test (eqb n t) refl
        where
          others : rows_of noted after (map (pair_with_block t block.Not) living) ≡ with_suspension t false (with_block t block.Not (rows_of p known living))
          others = rest (λ u is. all u (more u (eqb n u) is))
            where
              more : (u : ℕ) (c : Bool) → is_some (find (is_number u) (rows_of p known living)) ≡ true
                  → is_some (cond c (Some (row_of (known_of p known n) n rec)) (find (is_number u) (rows_of p known living))) ≡ true
              more u true is = refl
              more u false is = is

          here : is_some (find (sched.is_of n) known) ≡ true
          here = all n (rw (eq-eqb n n refl) refl)

          by_test : (c : Bool) → eqb n t ≡ c
              → row_onto (known_of noted after n) n (cond c (kind.Thread (record rec { block = block.Not })) (kind.Thread rec))
              (rows_of noted after (map (pair_with_block t block.Not) living))
              ≡ record (row_of (known_of p known n) n rec) { block = cond c block.Not rec.block; suspended = cond c false (known_of p known n).suspended }
              ∷ with_suspension t false (with_block t block.Not (rows_of p known living))
          by_test true e = ap (λ row. row ∷ rows_of noted after (map (pair_with_block t block.Not) living)) (row-withdrawn n rec true e here)
              ∙ ap (λ rows. record (row_of (known_of p known n) n rec) { block = block.Not; suspended = false } ∷ rows) others
          by_test false e = ap (λ row. row ∷ rows_of noted after (map (pair_with_block t block.Not) living)) (row-withdrawn n rec false e here)
              ∙ ap (λ rows. row_of (known_of p known n) n rec ∷ rows) others

requests-forgotten : (t : ℕ) (rs : List EntryRequest)
    → map mon_table.machine_row (mon_table.without_request t rs) ≡ release.without_request t (map mon_table.machine_row rs)
requests-forgotten t [] = refl
requests-forgotten t (r ∷ rs) = by_test (requests-forgotten t rs) (eqb r.tid t)
  where
    by_test : map mon_table.machine_row (mon_table.without_request t rs) ≡ release.without_request t (map mon_table.machine_row rs)
        → (c : Bool)
        → map mon_table.machine_row (cond (not c) (r ∷ mon_table.without_request t rs) (mon_table.without_request t rs))
        ≡ cond (not c) (mon_table.machine_row r ∷ release.without_request t (map mon_table.machine_row rs))
        (release.without_request t (map mon_table.machine_row rs))
    by_test rest true = rest
    by_test rest false = ap (λ xs. mon_table.machine_row r ∷ xs) rest

waits-forgotten : (t : ℕ) (ws : List WaitRec)
    → map cond_table.machine_row (cond_table.without_wait t ws) ≡ machine_waits.without_wait t (map cond_table.machine_row ws)
waits-forgotten t [] = refl
waits-forgotten t (w ∷ ws) = by_test (waits-forgotten t ws) (eqb w.tid t)
  where
    by_test : map cond_table.machine_row (cond_table.without_wait t ws) ≡ machine_waits.without_wait t (map cond_table.machine_row ws)
        → (c : Bool)
        → map cond_table.machine_row (cond (not c) (w ∷ cond_table.without_wait t ws) (cond_table.without_wait t ws))
        ≡ cond (not c) (cond_table.machine_row w ∷ machine_waits.without_wait t (map cond_table.machine_row ws))
        (machine_waits.without_wait t (map cond_table.machine_row ws))
    by_test rest true = rest
    by_test rest false = ap (λ xs. cond_table.machine_row w ∷ xs) rest

find-suspension : (t u : ℕ) (b : Bool) (rows : List ThreadRow)
    → find (is_number u) (with_suspension t b rows) ≡ option_map (row_with_suspension t b) (find (is_number u) rows)
find-suspension t u b [] = refl
find-suspension t u b (row ∷ rows) = by_test (find-suspension t u b rows) (is_number u row)
  where
    by_test : find (is_number u) (with_suspension t b rows) ≡ option_map (row_with_suspension t b) (find (is_number u) rows) → (c : Bool)
        → cond c (Some (row_with_suspension t b row)) (find (is_number u) (with_suspension t b rows))
        ≡ option_map (row_with_suspension t b) (cond c (Some row) (find (is_number u) rows))
    by_test rest true = refl
    by_test rest false = rest

-- of those that a filter keeps
kept_all : {X : Type 0} (P Q : X → Type 0) (keep : X → Bool) → ((x : X) → P x → Q x) → (xs : List X) → AllByRecursion P xs → AllByRecursion Q (filter keep xs)
kept_all P Q keep weaker [] all = tt
kept_all P Q keep weaker (x ∷ xs) all = by_test (keep x) (kept_all P Q keep weaker xs all.1)
  where
    by_test : (c : Bool) → AllByRecursion Q (filter keep xs) → AllByRecursion Q (cond c (x ∷ filter keep xs) (filter keep xs))
    by_test true rest = (weaker x all.0, rest)
    by_test false rest = rest

module _ (parts : Parts) (t : ℕ) (tied : IsTied parts) (alone : parts.dying ≡ None) where
  known-all : (u : ℕ) → is_thread (state_of parts) u ≡ sched.knows parts.sched u
  known-all u = sym (tied.known u ∙ ap (λ d. is_thread (state_of parts) u && not (is_same_option d u)) alone ∙ plain (is_thread (state_of parts) u))
    where
      plain : (b : Bool) → (b && true) ≡ b
      plain true = refl
      plain false = refl

  pub is-known : is_thread (state_of parts) t ≡ true → sched.knows parts.sched t ≡ true
  is-known is = sym (known-all t) ∙ is

  rows : rows_of (sched.priority_in parts.sched t) (sched.without_row t parts.sched.threads) (map (pair_with_block t block.Not) parts.ids.live)
      ≡ with_suspension t false (with_block t block.Not (state_of parts).threads)
  rows = rows-withdrawn parts.last_prio t parts.sched.threads parts.ids.live (λ u is. sym (known-all u) ∙ is)

  pub withdrawn-is : state_of (after_withdraw parts t) ≡ (withdraw t (state_of parts)).after
  withdrawn-is = rw (rows, requests-forgotten t parts.mons.requests, waits-forgotten t parts.conds.waits) refl

  pub IsTied-withdrawn : IsTied (after_withdraw parts t)
  IsTied-withdrawn = record {
    known = λ u. ap is_some (find-without t u parts.sched.threads) ∙ knows u (find (sched.is_of u) parts.sched.threads)
        ∙ ap (λ b. b && not (eqb t u)) (sym (known-all u) ∙ sym (lives u));
    waits = λ u. ap (passes (λ (row : Known). row.blocked)) (find-without t u parts.sched.threads)
        ∙ blocked (eqb u t) (find (sched.is_of u) parts.sched.threads) ∙ ap (λ b. not (eqb u t) && b) (tied.waits u) ∙ sym (waiting u);
  }
    where
      lives : (u : ℕ) → is_thread (state_of (after_withdraw parts t)) u ≡ is_thread (state_of parts) u
      lives u = ap (λ rs. is_some (find (is_number u) rs)) rows
          ∙ ap is_some (find-suspension t u false (with_block t block.Not (state_of parts).threads))
          ∙ same-some (row_with_suspension t false) (find (is_number u) (with_block t block.Not (state_of parts).threads))
          ∙ ap is_some (find-row t u block.Not (state_of parts).threads) ∙ same-some _ (find (is_number u) (state_of parts).threads)

      knows : (u : ℕ) (o : Option Known) → is_some (cond (eqb u t) None o) ≡ (is_some o && not (eqb t u))
      knows u o = elim (cases_eq u t) [
        | inl e ↦ rw (eq-eqb u t e, eq-eqb t u (sym e)) (none o)
        | inr away ↦ rw (ne_eqb u t away, ne_eqb t u (λ e. away (sym e))) (some o)
      ]
        where
          none : (o : Option Known) → false ≡ (is_some o && false)
          none None = refl
          none (Some row) = refl

          some : (o : Option Known) → is_some o ≡ (is_some o && true)
          some None = refl
          some (Some row) = refl

      blocked : (c : Bool) (o : Option Known) → passes (λ (row : Known). row.blocked) (cond c None o) ≡ (not c && passes (λ (row : Known). row.blocked) o)
      blocked true o = refl
      blocked false o = refl

      same : (o : Option ThreadRow) → passes waits (option_map (row_with_suspension t false) o) ≡ passes waits o
      same None = refl
      same (Some row) = refl

      waiting : (u : ℕ)
          → passes waits (find (is_number u) (state_of (after_withdraw parts t)).threads)
          ≡ (not (eqb u t) && passes waits (find (is_number u) (state_of parts).threads))
      waiting u = ap (λ rs. passes waits (find (is_number u) rs)) rows
          ∙ ap (passes waits) (find-suspension t u false (with_block t block.Not (state_of parts).threads))
          ∙ same (find (is_number u) (with_block t block.Not (state_of parts).threads)) ∙ row-unblocked t u (state_of parts).threads

  abbrev priority : Option ThreadRow → ℕ
  priority o = unwrap_or (option_map (λ (row : ThreadRow). row.priority) o) 0

  priority-same : (u : ℕ) → machine.priority_in (state_of (after_withdraw parts t)) u ≡ machine.priority_in (state_of parts) u
  priority-same u = ap (λ rs. priority (find (is_number u) rs)) rows
      ∙ ap priority (find-suspension t u false (with_block t block.Not (state_of parts).threads))
      ∙ suspended (find (is_number u) (with_block t block.Not (state_of parts).threads))
      ∙ ap priority (find-row t u block.Not (state_of parts).threads) ∙ unblocked (find (is_number u) (state_of parts).threads)
    where
      suspended : (o : Option ThreadRow) → priority (option_map (row_with_suspension t false) o) ≡ priority o
      suspended None = refl
      suspended (Some row) = refl

      unblocked : (o : Option ThreadRow) → priority (option_map (machine.row_with_block t block.Not) o) ≡ priority o
      unblocked None = refl
      unblocked (Some row) = refl

  length-same : length (state_of (after_withdraw parts t)).threads ≡ length (state_of parts).threads
  length-same = ap length rows ∙ length-map (with_block t block.Not (state_of parts).threads) (row_with_suspension t false)
      ∙ length-map (state_of parts).threads (machine.row_with_block t block.Not)

  pub InStep-withdrawn : InStep parts → InStep (after_withdraw parts t)
  InStep-withdrawn step = record {
    tied = IsTied-withdrawn;
    ranked = record {
      requests = kept_all (λ (r : EntryRequest). r.prio ≡ machine.priority_in (state_of parts) r.tid)
          (λ r. r.prio ≡ machine.priority_in (state_of (after_withdraw parts t)) r.tid) (λ r. not (mon_table.is_request_of t r))
          (λ r e. e ∙ sym (priority-same r.tid)) parts.mons.requests step.ranked.requests;
      waits = kept_all (λ (w : WaitRec). w.prio ≡ machine.priority_in (state_of parts) w.tid)
          (λ w. w.prio ≡ machine.priority_in (state_of (after_withdraw parts t)) w.tid) (λ w. not (cond_table.is_wait_of t w))
          (λ w e. e ∙ sym (priority-same w.tid)) parts.conds.waits step.ranked.waits;
    };
    roomy = record {
      letters = omega (arith, length-same, step.roomy.letters);
      threads = omega (arith, length-same, step.roomy.threads);
      requests = omega (arith, length-same, step.roomy.requests);
      waits = omega (arith, length-same, step.roomy.waits);
    };
    monitors = step.monitors;
    conditions = step.conditions;
    noted = noted-block parts.named t block.Not refl parts.ids.live step.noted;
  }
