-- A change of one thread's row, as the scheduler has it and as the machine has it.
use Rattle.conditions.specs.declared.waits.WaitRec.{WaitRec}
use Rattle.death_cleanup.proofs.Looks.{waits}
use Rattle.death_cleanup.specs.Ties.{InStep, IsRoomy, IsTied}
use Rattle.death_cleanup.specs.View.{known_of, row_of, row_onto, rows_of, state_of}
use Rattle.death_cleanup.specs.declared.parts.Parts.{Parts}
use Rattle.death_cleanup.specs.declared.rows.Kind.{Kind}
use Rattle.death_cleanup.specs.declared.rows.Kind.TheVariants as kind
use Rattle.death_cleanup.specs.declared.rows.ThreadRec.{ThreadRec}
use Rattle.lwp_types.specs.Lawful.{is_same_option}
use Rattle.lwp_types.specs.ListLaws.{All-weaker}
use Rattle.lwp_types.specs.State.{ThreadRow, is_blocked_in, is_not_blocked, is_number, is_thread, passes, priority_in, thread_of}
use Rattle.monitors.specs.declared.requests.EntryRequest.{EntryRequest}
use Rattle.pod_sched.specs.Schedule as sched
use Rattle.pod_sched.specs.Schedule.{newcomer}
use Rattle.pod_sched.specs.declared.rows.Known.{Known}
use Rattle.std.proofs.Common.{Bool, List, None, Option, Some, [], ap, arith, cond, eqb, false, inl}
use Rattle.std.proofs.Common.{inr, length, map, not, refl, sym, true, ℕ, ◌&&◌, ◌∙◌, ◌∷◌, ◌≡◌}
use Rattle.std.proofs.lemmas.Bool.{cases_eq, eq-eqb, ne_eqb}
use Rattle.std.specs.List.{find}
use Rattle.std.specs.Prelude.{is_some, option_map, unwrap_or}

pub same-some : {A : Type 0} (f : A → A) (o : Option A) → is_some (option_map f o) ≡ is_some o
same-some f None = refl
same-some f (Some x) = refl

-- the thread's row is found changed, and any other as it was
pub find-known : (t : ℕ) (f : Bool → Known → Known) → ((c : Bool) (k : Known) → (f c k).tid ≡ k.tid)
    → (u : ℕ) (known : List Known) → find (sched.is_of u) (map (λ k. f (eqb k.tid t) k) known) ≡ option_map (f (eqb u t)) (find (sched.is_of u) known)
find-known t f tid u [] = refl
find-known t f tid u (k ∷ known) =
    ap (λ n. cond (eqb n u) (Some (f (eqb k.tid t) k)) (find (sched.is_of u) (map (λ k. f (eqb k.tid t) k) known))) (tid (eqb k.tid t) k)
    ∙ elim (cases_eq k.tid u) [
      | inl e ↦ rw (eq-eqb k.tid u e) (ap (λ n. Some (f (eqb n t) k)) e)
      | inr away ↦ rw (ne_eqb k.tid u away) (find-known t f tid u known)
    ]

pub find-row : (t : ℕ) (h : Bool → ThreadRow → ThreadRow) → ((c : Bool) (row : ThreadRow) → (h c row).number ≡ row.number)
    → (u : ℕ) (rows : List ThreadRow) → find (is_number u) (map (λ row. h (eqb row.number t) row) rows) ≡ option_map (h (eqb u t)) (find (is_number u) rows)
find-row t h number u [] = refl
find-row t h number u (row ∷ rows) =
    ap (λ n. cond (eqb n u) (Some (h (eqb row.number t) row)) (find (is_number u) (map (λ row. h (eqb row.number t) row) rows))) (number (eqb row.number t) row)
    ∙ elim (cases_eq row.number u) [
      | inl e ↦ rw (eq-eqb row.number u e) (ap (λ n. Some (h (eqb n t) row)) e)
      | inr away ↦ rw (ne_eqb row.number u away) (find-row t h number u rows)
    ]

-- a change that the machine's rows make too
module _ (p t : ℕ) (f : Bool → Known → Known) (h : Bool → ThreadRow → ThreadRow)
    (tid : (c : Bool) (k : Known) → (f c k).tid ≡ k.tid) (other : (k : Known) → f false k ≡ k)
    (fits : (c : Bool) (k : Known) (n : ℕ) (rec : ThreadRec) → row_of (f c k) n rec ≡ h c (row_of k n rec)) where
  -- the thread is known, so that who isn't known is another
  known-changed : (known : List Known) → is_some (find (sched.is_of t) known) ≡ true → (n : ℕ)
      → known_of p (map (λ k. f (eqb k.tid t) k) known) n ≡ f (eqb n t) (known_of p known n)
  known-changed known is n = ap (λ o. unwrap_or o (newcomer n p false)) (find-known t f tid n known) ∙ by_found (find (sched.is_of n) known) refl
    where
      by_found : (o : Option Known) → find (sched.is_of n) known ≡ o
          → unwrap_or (option_map (f (eqb n t)) o) (newcomer n p false) ≡ f (eqb n t) (unwrap_or o (newcomer n p false))
      by_found (Some k) e = refl
      by_found None e = elim (cases_eq n t) [
        | inl same ↦ absurd (let no : false ≡ true = (rw (sym same, e) at is) in cc)
        | inr away ↦ rw (ne_eqb n t away) (sym (other (newcomer n p false)))
      ]

  pub rows-changed : (known : List Known) → is_some (find (sched.is_of t) known) ≡ true → (living : List (ℕ × Kind))
      → rows_of p (map (λ k. f (eqb k.tid t) k) known) living ≡ map (λ row. h (eqb row.number t) row) (rows_of p known living)
  rows-changed known is [] = refl
  rows-changed known is (live ∷ living) = by_kind live.0 live.1 (rows-changed known is living)
    where
      by_kind : (n : ℕ) (k : Kind) → rows_of p (map (λ k. f (eqb k.tid t) k) known) living ≡ map (λ row. h (eqb row.number t) row) (rows_of p known living)
          → row_onto (known_of p (map (λ k. f (eqb k.tid t) k) known) n) n k (rows_of p (map (λ k. f (eqb k.tid t) k) known) living)
          ≡ map (λ row. h (eqb row.number t) row) (row_onto (known_of p known n) n k (rows_of p known living))
      by_kind n kind.Agent rest = rest
      by_kind n (kind.Thread rec) rest = rw (rest, known-changed known is n, fits (eqb n t) (known_of p known n) n rec) refl

-- the change keeps the invariant between the parts, where it leaves numbers, blocks and priorities
module _ (parts : Parts) (t : ℕ) (f : Bool → Known → Known) (h : Bool → ThreadRow → ThreadRow)
    (tid : (c : Bool) (k : Known) → (f c k).tid ≡ k.tid) (number : (c : Bool) (row : ThreadRow) → (h c row).number ≡ row.number) where
  abbrev known' : List Known
  known' = map (λ k. f (eqb k.tid t) k) parts.sched.threads

  abbrev rows' : List ThreadRow
  rows' = map (λ row. h (eqb row.number t) row) (state_of parts).threads

  -- who is known is as many as before
  pub knows-changed : (u : ℕ) → is_some (find (sched.is_of u) known') ≡ sched.knows parts.sched u
  knows-changed u = ap is_some (find-known t f tid u parts.sched.threads) ∙ same-some (f (eqb u t)) (find (sched.is_of u) parts.sched.threads)

  pub thread-changed : (u : ℕ) → is_some (find (is_number u) rows') ≡ is_thread (state_of parts) u
  thread-changed u = ap is_some (find-row t h number u (state_of parts).threads) ∙ same-some (h (eqb u t)) (thread_of (state_of parts) u)

  -- who waits
  pub blocked-changed : ((c : Bool) (k : Known) → (f c k).blocked ≡ k.blocked) → (u : ℕ)
      → passes (λ (k : Known). k.blocked) (find (sched.is_of u) known') ≡ sched.is_blocked_in parts.sched u
  blocked-changed blocked u = ap (passes (λ (k : Known). k.blocked)) (find-known t f tid u parts.sched.threads)
      ∙ by_found (find (sched.is_of u) parts.sched.threads)
    where
      by_found : (o : Option Known) → passes (λ (k : Known). k.blocked) (option_map (f (eqb u t)) o) ≡ passes (λ (k : Known). k.blocked) o
      by_found None = refl
      by_found (Some k) = blocked (eqb u t) k

  pub waits-changed : ((c : Bool) (row : ThreadRow) → (h c row).block ≡ row.block) → (u : ℕ)
      → passes waits (find (is_number u) rows') ≡ is_blocked_in (state_of parts) u
  waits-changed block u = ap (passes waits) (find-row t h number u (state_of parts).threads) ∙ by_found (thread_of (state_of parts) u)
    where
      by_found : (o : Option ThreadRow) → passes waits (option_map (h (eqb u t)) o) ≡ passes waits o
      by_found None = refl
      by_found (Some row) = ap (λ b. not (is_not_blocked b)) (block (eqb u t) row)

  abbrev pub priority_of : Option ThreadRow → ℕ
  priority_of o = unwrap_or (option_map (λ (row : ThreadRow). row.priority) o) 0

  pub priority-changed : ((c : Bool) (row : ThreadRow) → (h c row).priority ≡ row.priority) → (u : ℕ)
      → priority_of (find (is_number u) rows') ≡ priority_in (state_of parts) u
  priority-changed priority u = ap priority_of (find-row t h number u (state_of parts).threads) ∙ by_found (thread_of (state_of parts) u)
    where
      by_found : (o : Option ThreadRow) → priority_of (option_map (h (eqb u t)) o) ≡ priority_of o
      by_found None = refl
      by_found (Some row) = priority (eqb u t) row

  rows-length : (rows : List ThreadRow) → length (map (λ row. h (eqb row.number t) row) rows) ≡ length rows
  rows-length [] = refl
  rows-length (row ∷ rows) = omega (arith, rows-length rows)

  -- the parts with this list of the scheduler, and any order
  abbrev pub moved : List ℕ → Parts
  moved order = record parts { sched = record parts.sched { threads = known'; order = order } }

  module _ (step : InStep parts) (order : List ℕ) (same : (state_of (moved order)).threads ≡ rows')
      (blocked : (c : Bool) (k : Known) → (f c k).blocked ≡ k.blocked) (block : (c : Bool) (row : ThreadRow) → (h c row).block ≡ row.block) where
    pub IsTied-moved : IsTied (moved order)
    IsTied-moved = record {
      known = λ u. knows-changed u ∙ step.tied.known u
          ∙ ap (λ b. b && not (is_same_option parts.dying u)) (sym (ap (λ rows. is_some (find (is_number u) rows)) same ∙ thread-changed u));
      waits = λ u. blocked-changed blocked u ∙ step.tied.waits u ∙ sym (ap (λ rows. passes waits (find (is_number u) rows)) same ∙ waits-changed block u);
    }

    pub IsRoomy-moved : IsRoomy (moved order)
    IsRoomy-moved =
        let as_many : length (state_of (moved order)).threads ≡ length (state_of parts).threads = ap length same ∙ rows-length (state_of parts).threads in
        record {
          letters = omega (arith, as_many, step.roomy.letters);
          threads = omega (arith, as_many, step.roomy.threads);
          requests = omega (arith, as_many, step.roomy.requests);
          waits = omega (arith, as_many, step.roomy.waits);
        }

    pub InStep-moved : ((c : Bool) (row : ThreadRow) → (h c row).priority ≡ row.priority) → InStep (moved order)
    InStep-moved priority =
        let ranks : (u : ℕ)
        → priority_in (state_of (moved order)) u
        ≡ priority_in (state_of parts) u = λ u. ap (λ rows. priority_of (find (is_number u) rows)) same ∙ priority-changed priority u in
        record {
          tied = IsTied-moved;
          ranked = record {
            requests = All-weaker (λ (r : EntryRequest). r.prio ≡ priority_in (state_of parts) r.tid)
                (λ r. r.prio ≡ priority_in (state_of (moved order)) r.tid) (λ r e. e ∙ sym (ranks r.tid)) parts.mons.requests step.ranked.requests;
            waits = All-weaker (λ (w : WaitRec). w.prio ≡ priority_in (state_of parts) w.tid)
                (λ w. w.prio ≡ priority_in (state_of (moved order)) w.tid) (λ w e. e ∙ sym (ranks w.tid)) parts.conds.waits step.ranked.waits;
          };
          roomy = IsRoomy-moved;
          monitors = step.monitors;
          conditions = step.conditions;
          noted = step.noted;
        }
