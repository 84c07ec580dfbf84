-- A dying thread is gone.
use Rattle.death_cleanup.proofs.Notes.{noted-removed}
use Rattle.death_cleanup.specs.Moves.{after_bury}
use Rattle.death_cleanup.specs.Ties.{InStep, IsTied}
use Rattle.death_cleanup.specs.View.{known_of, row_onto, rows_of, state_of}
use Rattle.death_cleanup.specs.declared.parts.Parts.{Parts}
use Rattle.death_cleanup.specs.declared.rows.Kind.{Kind}
use Rattle.death_cleanup.specs.declared.rows.Kind.TheVariants as kind
use Rattle.lwp_types.specs.Death.{bury}
use Rattle.lwp_types.specs.Lawful.{is_same_option}
use Rattle.lwp_types.specs.State.{State, ThreadRow, is_not_blocked, is_number, is_thread, passes}
use Rattle.pod_sched.specs.Schedule as sched
use Rattle.pod_sched.specs.declared.rows.Known.{Known}
use Rattle.stale_ids.specs.Register as register
use Rattle.std.proofs.Common.{Bool, List, None, Option, Some, [], ap, arith, cond, eqb, false, inl, inr}
use Rattle.std.proofs.Common.{length, map, not, refl, sym, true, ℕ, ◌&&◌, ◌||◌, ◌≤◌, ◌∙◌, ◌∷◌, ◌≡◌}
use Rattle.std.proofs.lemmas.Bool.{cases_eq, eq-eqb, ne_eqb}
use Rattle.conditions.specs.ConditionTable as cond_table
use Rattle.conditions.specs.declared.waits.WaitRec.{WaitRec}
use Rattle.monitors.specs.MonitorTable as mon_table
use Rattle.monitors.specs.declared.requests.EntryRequest.{EntryRequest}
use Rattle.lwp_types.specs.CountLaws.{count-cons, one}
use Rattle.lwp_types.specs.Lawful.{NineParts}
use Rattle.lwp_types.specs.State as machine
use Rattle.pod_laws.proofs.DeathEnds.{Forgotten, NineParts-bury}
use Rattle.pod_laws.proofs.Deaths.{dying_living}
use Rattle.pod_laws.proofs.Elements.{false_of, find_filter_none}
use Rattle.pod_laws.proofs.Gone.{unnamed}
use Rattle.pod_laws.specs.Laws.{Unnamed}
use Rattle.std.specs.List.{AllByRecursion, count_by, filter, find}
use Rattle.std.specs.Prelude.{is_some, option_map, unwrap_or}

abbrev others : ℕ → List ThreadRow → List ThreadRow
others t rows = filter (λ row. not (is_number t row)) rows

-- one pair less in the registry is one row less
pub rows-removed : (p t : ℕ) (known : List Known) (living : List (ℕ × Kind)) → rows_of p known (register.without t living) ≡ others t (rows_of p known living)
rows-removed p t known [] = refl
rows-removed p t known (live ∷ living) = by_kind live.0 live.1 (rows-removed p t known living)
  where
    by_kind : (n : ℕ) (k : Kind) → rows_of p known (register.without t living) ≡ others t (rows_of p known living)
        → rows_of p known (cond (not (eqb n t)) ((n, k) ∷ register.without t living) (register.without t living))
        ≡ others t (row_onto (known_of p known n) n k (rows_of p known living))
    by_kind n kind.Agent rest = by_test (eqb n t)
      where
        by_test : (c : Bool)
            → rows_of p known (cond (not c) ((n, kind.Agent) ∷ register.without t living) (register.without t living)) ≡ others t (rows_of p known living)
        by_test true = rest
        by_test false = rest
    by_kind n (kind.Thread rec) rest = elim (cases_eq n t) [
      | inl e ↦ rw (eq-eqb n t e) rest
      | inr away ↦ rw (ne_eqb n t away) (ap (λ rows. row_onto (known_of p known n) n (kind.Thread rec) rows) rest)
    ]

-- who is found among the others
find-others : (t u : ℕ) (rows : List ThreadRow) → find (is_number u) (others t rows) ≡ cond (eqb u t) None (find (is_number u) rows)
find-others t u [] = none (eqb u t)
  where
    none : (c : Bool) → None ≡ cond c None (find (is_number u) [])
    none true = refl
    none false = refl
find-others t u (row ∷ rows) = elim (cases_eq row.number t) [
  | inl e ↦ rw (eq-eqb row.number t e) (gone (find-others t u rows) e)
  | inr away ↦ rw (ne_eqb row.number t away) (stays (find-others t u rows) away)
]
  where
    gone : find (is_number u) (others t rows) ≡ cond (eqb u t) None (find (is_number u) rows) → row.number ≡ t
        → find (is_number u) (others t rows) ≡ cond (eqb u t) None (cond (is_number u row) (Some row) (find (is_number u) rows))
    gone rest e = elim (cases_eq row.number u) [
      | inl same ↦ rest ∙ rw (eq-eqb u t (sym same ∙ e)) refl
      | inr other ↦ rw (ne_eqb row.number u other) rest
    ]

    stays : find (is_number u) (others t rows) ≡ cond (eqb u t) None (find (is_number u) rows) → (row.number ≡ t → ⊥)
        → cond (is_number u row) (Some row) (find (is_number u) (others t rows))
        ≡ cond (eqb u t) None (cond (is_number u row) (Some row) (find (is_number u) rows))
    stays rest away = elim (cases_eq row.number u) [
      | inl same ↦ rw (eq-eqb row.number u same, ne_eqb u t (λ e. away (same ∙ e))) refl
      | inr other ↦ rw (ne_eqb row.number u other) rest
    ]

pub buried-is : (parts : Parts) (t : ℕ) → state_of (after_bury parts t) ≡ (bury t (state_of parts)).after
buried-is parts t = ap (λ rows. record (state_of parts) { threads = rows }) (rows-removed parts.last_prio t parts.sched.threads parts.ids.live)

pub IsTied-buried : (parts : Parts) (t : ℕ) → IsTied parts → parts.dying ≡ Some t → IsTied (after_bury parts t)
IsTied-buried parts t tied dying = record {
  known = λ u. tied.known u ∙ ap (λ d. is_thread (state_of parts) u && not (is_same_option d u)) dying
      ∙ here u (find (is_number u) (state_of parts).threads) ∙ sym (ap (λ o. is_some o && true) (after u));
  waits = λ u. tied.waits u ∙ waiting u ∙ sym (ap (passes (λ (row : ThreadRow). not (is_not_blocked row.block))) (after u));
}
  where
    after : (u : ℕ) → find (is_number u) (state_of (after_bury parts t)).threads ≡ cond (eqb u t) None (find (is_number u) (state_of parts).threads)
    after u = ap (find (is_number u)) (rows-removed parts.last_prio t parts.sched.threads parts.ids.live) ∙ find-others t u (state_of parts).threads

    here : (u : ℕ) (o : Option ThreadRow) → (is_some o && not (eqb t u)) ≡ (is_some (cond (eqb u t) None o) && true)
    here u o = elim (cases_eq u t) [
      | inl e ↦ rw (eq-eqb u t e, eq-eqb t u (sym e)) (none o)
      | inr away ↦ rw (ne_eqb u t away, ne_eqb t u (λ e. away (sym e))) refl
    ]
      where
        none : (o : Option ThreadRow) → (is_some o && false) ≡ false
        none None = refl
        none (Some row) = refl

    -- the scheduler doesn't know the dying thread, so it has it not as blocked
    waiting : (u : ℕ)
        → passes (λ (row : ThreadRow). not (is_not_blocked row.block)) (find (is_number u) (state_of parts).threads)
        ≡ passes (λ (row : ThreadRow). not (is_not_blocked row.block)) (cond (eqb u t) None (find (is_number u) (state_of parts).threads))
    waiting u = elim (cases_eq u t) [
      | inl e
          ↦ rw (eq-eqb u t e) (sym (tied.waits u)
          ∙ unknown (find (sched.is_of u) parts.sched.threads) (tied.known u
          ∙ ap (λ d. is_thread (state_of parts) u && not (is_same_option d u)) dying ∙ rw (eq-eqb t u (sym e)) (none (is_thread (state_of parts) u))))
      | inr away ↦ rw (ne_eqb u t away) refl
    ]
      where
        none : (b : Bool) → (b && false) ≡ false
        none true = refl
        none false = refl

        unknown : (o : Option Known) → is_some o ≡ false → passes (λ (row : Known). row.blocked) o ≡ false
        unknown None h = refl
        unknown (Some row) h = absurd (cc)

-- of those that aren't counted
uncounted_all : {X : Type 0} {Y : Type 0} (f : X → Y) (p : Y → Bool) (P Q : X → Type 0) → ((x : X) → p (f x) ≡ false → P x → Q x)
    → (xs : List X) → count_by p (map f xs) ≡ 0 → AllByRecursion P xs → AllByRecursion Q xs
uncounted_all f p P Q weaker [] none all = tt
uncounted_all f p P Q weaker (x ∷ xs) none all = by_test (p (f x)) refl (λ later. uncounted_all f p P Q weaker xs later all.1)
  where
    by_test : (c : Bool) → p (f x) ≡ c → (count_by p (map f xs) ≡ 0 → AllByRecursion Q xs) → Q x × AllByRecursion Q xs
    by_test true e rest = absurd (omega (arith, none, count-cons p (f x) (map f xs), ap one e))
    by_test false e rest = (weaker x e all.0, rest (omega (arith, none, count-cons p (f x) (map f xs), ap one e)))

others-fewer : (t : ℕ) (rows : List ThreadRow) → length (others t rows) ≤ length rows
others-fewer t [] = omega arith
others-fewer t (row ∷ rows) = by_test (is_number t row) (others-fewer t rows)
  where
    by_test : (c : Bool) → length (others t rows) ≤ length rows → length (cond (not c) (row ∷ others t rows) (others t rows)) ≤ length (row ∷ rows)
    by_test true rest = omega arith
    by_test false rest = omega arith

module _ (parts : Parts) (t : ℕ) (forgotten : Forgotten (state_of parts) t) where
  abbrev buried_state : State
  buried_state = (bury t (state_of parts)).after

  -- nothing names the dead
  nobody : Unnamed buried_state t
  nobody =
      let who = dying_living (state_of parts) t forgotten.nine in
      let nine : NineParts buried_state None = NineParts-bury (state_of parts) t who.row who.known forgotten in
      let no_thread : is_thread buried_state t
      ≡ false = ap is_some (find_filter_none (is_number t) (λ row. not (is_number t row)) (λ row e. ap not e) (state_of parts).threads) in
      let no_agent : machine.is_agent buried_state t
      ≡ false = false_of _ (ap (λ o. not (is_some o && machine.is_agent buried_state t)) (sym who.known) ∙ forgotten.nine.numbers.2 t) in
      unnamed buried_state nine t (ap (λ b. b || machine.is_agent buried_state t) no_thread ∙ no_agent)

  priority-other : (u : ℕ) → eqb u t ≡ false → machine.priority_in (state_of parts) u ≡ machine.priority_in (state_of (after_bury parts t)) u
  priority-other u away = sym (ap (λ o. unwrap_or (option_map (λ (row : ThreadRow). row.priority) o) 0)
      (ap (find (is_number u)) (rows-removed parts.last_prio t parts.sched.threads parts.ids.live)
      ∙ find-others t u (state_of parts).threads ∙ ap (λ c. cond c None (find (is_number u) (state_of parts).threads)) away))

  fewer : length (state_of (after_bury parts t)).threads ≤ length (state_of parts).threads
  fewer = omega (arith, ap length (rows-removed parts.last_prio t parts.sched.threads parts.ids.live), others-fewer t (state_of parts).threads)

  pub InStep-buried : InStep parts → parts.dying ≡ Some t → InStep (after_bury parts t)
  InStep-buried step dying = record {
    tied = IsTied-buried parts t step.tied dying;
    ranked = record {
      requests = uncounted_all mon_table.machine_row (λ r. eqb r.tid t)
          (λ (r : EntryRequest). r.prio ≡ machine.priority_in (state_of parts) r.tid)
          (λ r. r.prio ≡ machine.priority_in (state_of (after_bury parts t)) r.tid) (λ r away e. e ∙ priority-other r.tid away)
          parts.mons.requests nobody.requests step.ranked.requests;
      waits = uncounted_all cond_table.machine_row (λ w. eqb w.tid t) (λ (w : WaitRec). w.prio ≡ machine.priority_in (state_of parts) w.tid)
          (λ w. w.prio ≡ machine.priority_in (state_of (after_bury parts t)) w.tid) (λ w away e. e ∙ priority-other w.tid away)
          parts.conds.waits nobody.waits step.ranked.waits;
    };
    roomy = record {
      letters = omega (arith, fewer, step.roomy.letters);
      threads = omega (arith, fewer, step.roomy.threads);
      requests = omega (arith, fewer, step.roomy.requests);
      waits = omega (arith, fewer, step.roomy.waits);
    };
    monitors = step.monitors;
    conditions = step.conditions;
    noted = noted-removed parts.named t parts.ids.live step.noted;
  }
