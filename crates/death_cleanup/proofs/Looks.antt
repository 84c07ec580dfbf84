-- What each part's change comes to in the machine's state.
use Rattle.death_cleanup.specs.Moves.{after_wake, pair_with_block, kind_with_block}
use Rattle.death_cleanup.specs.Ties.{IsRanked, IsRoomy, IsTied}
use Rattle.death_cleanup.specs.View.{known_of, row_of, row_onto, rows_of, state_of}
use Rattle.death_cleanup.specs.declared.parts.Parts.{Parts}
use Rattle.death_cleanup.specs.declared.rows.Kind.{Kind}
use Rattle.death_cleanup.specs.declared.rows.Kind.TheVariants as kind
use Rattle.death_cleanup.specs.declared.rows.ThreadRec.{ThreadRec}
use Rattle.lwp_types.specs.Lawful.{is_same_option}
use Rattle.lwp_types.specs.State as machine
use Rattle.lwp_types.specs.State.{ThreadRow, is_number, is_not_blocked, passes}
use Rattle.lwp_types.specs.Unblock as machine_unblock
use Rattle.lwp_types.specs.declared.rows.Block.{Block}
use Rattle.lwp_types.specs.declared.rows.Block.TheVariants as block
use Rattle.lwp_types.specs.ListLaws.{All-weaker}
use Rattle.monitors.specs.declared.requests.EntryRequest.{EntryRequest}
use Rattle.conditions.specs.declared.waits.WaitRec.{WaitRec}
use Rattle.pod_sched.specs.Schedule as sched
use Rattle.pod_sched.specs.Schedule.{newcomer}
use Rattle.pod_sched.specs.declared.rows.Known.{Known}
use Rattle.std.proofs.Common.{Bool, List, None, Option, Some, [], ap, arith, cond, eqb, false, inl, inr}
use Rattle.std.proofs.Common.{length, map, not, refl, sym, true, ℕ, ◌&&◌, ◌<◌, ◌∙◌, ◌∷◌, ◌≡◌}
use Rattle.std.proofs.lemmas.Bool.{cases_eq, eq-eqb, ne_eqb}
use Rattle.stale_ids.specs.Register.{AreRising, value_of}
use Rattle.std.specs.List.{AllByRecursion, find}
use Rattle.std.specs.Prelude.{is_some, option_map, unwrap_or}

-- the scheduler's list

find-known : (t u : ℕ) (b : Bool) (known : List Known)
    → find (sched.is_of u) (sched.with_block t b known) ≡ option_map (sched.row_with_block t b) (find (sched.is_of u) known)
find-known t u b [] = refl
find-known t u b (row ∷ known) = by_test (find-known t u b known) (sched.is_of u row)
  where
    by_test : find (sched.is_of u) (sched.with_block t b known) ≡ option_map (sched.row_with_block t b) (find (sched.is_of u) known) → (c : Bool)
        → cond c (Some (sched.row_with_block t b row)) (find (sched.is_of u) (sched.with_block t b known))
        ≡ option_map (sched.row_with_block t b) (cond c (Some row) (find (sched.is_of u) known))
    by_test rest true = refl
    by_test rest false = rest

-- who is unblocked isn't blocked, and the others are as they were
known-unblocked : (t u : ℕ) (known : List Known)
    → passes (λ (row : Known). row.blocked) (find (sched.is_of u) (sched.with_block t false known))
    ≡ (not (eqb u t) && passes (λ (row : Known). row.blocked) (find (sched.is_of u) known))
known-unblocked t u [] = none (eqb u t)
  where
    none : (c : Bool) → false ≡ (not c && false)
    none true = refl
    none false = refl
known-unblocked t u (row ∷ known) = elim (cases_eq row.tid u) [
  | inl e ↦ rw (eq-eqb row.tid u e, e) (here (eqb u t))
  | inr away ↦ rw (ne_eqb row.tid u away) (known-unblocked t u known)
]
  where
    here : (c : Bool) → cond c false row.blocked ≡ (not c && row.blocked)
    here true = refl
    here false = refl

-- the machine's list

pub find-row : (t u : ℕ) (b : Block) (rows : List ThreadRow)
    → find (is_number u) (machine.with_block t b rows) ≡ option_map (machine.row_with_block t b) (find (is_number u) rows)
find-row t u b [] = refl
find-row t u b (row ∷ rows) = by_test (find-row t u b rows) (is_number u row)
  where
    by_test : find (is_number u) (machine.with_block t b rows) ≡ option_map (machine.row_with_block t b) (find (is_number u) rows) → (c : Bool)
        → cond c (Some (machine.row_with_block t b row)) (find (is_number u) (machine.with_block t b rows))
        ≡ option_map (machine.row_with_block t b) (cond c (Some row) (find (is_number u) rows))
    by_test rest true = refl
    by_test rest false = rest

abbrev pub waits : ThreadRow → Bool
waits row = not (is_not_blocked row.block)

pub row-unblocked : (t u : ℕ) (rows : List ThreadRow)
    → passes waits (find (is_number u) (machine.with_block t block.Not rows)) ≡ (not (eqb u t) && passes waits (find (is_number u) rows))
row-unblocked t u [] = none (eqb u t)
  where
    none : (c : Bool) → false ≡ (not c && false)
    none true = refl
    none false = refl
row-unblocked t u (row ∷ rows) = elim (cases_eq row.number u) [
  | inl e ↦ rw (eq-eqb row.number u e, e) (here (eqb u t))
  | inr away ↦ rw (ne_eqb row.number u away) (row-unblocked t u rows)
]
  where
    here : (c : Bool) → not (is_not_blocked (cond c block.Not row.block)) ≡ (not c && waits row)
    here true = refl
    here false = refl

pub same-some : {A : Type 0} (f : A → A) (o : Option A) → is_some (option_map f o) ≡ is_some o
same-some f None = refl
same-some f (Some x) = refl

module _ (p : ℕ) where
  -- a row doesn't show whether the scheduler has the thread as blocked
  row-same : (t u : ℕ) (b : Bool) (known : List Known) (rec : ThreadRec)
      → row_of (known_of p (sched.with_block t b known) u) u rec ≡ row_of (known_of p known u) u rec
  row-same t u b known rec = ap (λ o. row_of (unwrap_or o (newcomer u p false)) u rec) (find-known t u b known) ∙ by_found (find (sched.is_of u) known)
    where
      by_found : (o : Option Known)
          → row_of (unwrap_or (option_map (sched.row_with_block t b) o) (newcomer u p false)) u rec ≡ row_of (unwrap_or o (newcomer u p false)) u rec
      by_found None = refl
      by_found (Some row) = refl

  -- another block in the registry, and whatever the scheduler has
  pub rows-block : (t : ℕ) (w : Block) (b : Bool) (known : List Known) (living : List (ℕ × Kind))
      → rows_of p (sched.with_block t b known) (map (pair_with_block t w) living) ≡ machine.with_block t w (rows_of p known living)
  rows-block t w b known [] = refl
  rows-block t w b known (live ∷ living) = by_kind live.0 live.1 (rows-block t w b known living)
    where
      by_kind : (n : ℕ) (k : Kind) → rows_of p (sched.with_block t b known) (map (pair_with_block t w) living) ≡ machine.with_block t w (rows_of p known living)
          → row_onto (known_of p (sched.with_block t b known) n) n (cond (eqb n t) (kind_with_block w k) k)
          (rows_of p (sched.with_block t b known) (map (pair_with_block t w) living))
          ≡ machine.with_block t w (row_onto (known_of p known n) n k (rows_of p known living))
      by_kind n kind.Agent rest = by_test (eqb n t)
        where
          by_test : (c : Bool)
              → row_onto (known_of p (sched.with_block t b known) n) n (cond c kind.Agent kind.Agent)
              (rows_of p (sched.with_block t b known) (map (pair_with_block t w) living))
              ≡ machine.with_block t w (rows_of p known living)
          by_test true = rest
          by_test false = rest
      by_kind n (kind.Thread rec) rest = by_test (eqb n t)
        where
          by_test : (c : Bool)
              → row_onto (known_of p (sched.with_block t b known) n) n (cond c (kind.Thread (record rec { block = w })) (kind.Thread rec))
              (rows_of p (sched.with_block t b known) (map (pair_with_block t w) living))
              ≡ record (row_of (known_of p known n) n rec) { block = cond c w rec.block } ∷ machine.with_block t w (rows_of p known living)
          by_test true = ap (λ row. row ∷ rows_of p (sched.with_block t b known) (map (pair_with_block t w) living))
              (row-same t n b known (record rec { block = w }))
              ∙ ap (λ rows. row_of (known_of p known n) n (record rec { block = w }) ∷ rows) rest
          by_test false = ap (λ row. row ∷ rows_of p (sched.with_block t b known) (map (pair_with_block t w) living)) (row-same t n b known rec)
              ∙ ap (λ rows. row_of (known_of p known n) n rec ∷ rows) rest

  -- a row of the state shows what the scheduler has
  pub shows : (t : ℕ) (known : List Known) (living : List (ℕ × Kind)) (row : ThreadRow) → find (is_number t) (rows_of p known living) ≡ Some row
      → (row.suspended ≡ (known_of p known t).suspended) × (row.priority ≡ (known_of p known t).prio)
  shows t known [] row found = absurd (cc)
  shows t known (live ∷ living) row found = by_kind live.0 live.1 found (shows t known living row)
    where
      by_kind : (n : ℕ) (k : Kind) → find (is_number t) (row_onto (known_of p known n) n k (rows_of p known living)) ≡ Some row
          → (find (is_number t) (rows_of p known living) ≡ Some row
          → (row.suspended ≡ (known_of p known t).suspended) × (row.priority ≡ (known_of p known t).prio))
          → (row.suspended ≡ (known_of p known t).suspended) × (row.priority ≡ (known_of p known t).prio)
      by_kind n kind.Agent found rest = rest found
      by_kind n (kind.Thread rec) found rest = elim (cases_eq n t) [
        | inl e ↦
            let here : Some (row_of (known_of p known n) n rec) ≡ Some row = rw (eq-eqb n t e) at found in
            let same : row_of (known_of p known n) n rec ≡ row = cc in (
              sym (ap (λ (r : ThreadRow). r.suspended) same) ∙ ap (λ m. (known_of p known m).suspended) e,
              sym (ap (λ (r : ThreadRow). r.priority) same) ∙ ap (λ m. (known_of p known m).prio) e,
            )
        | inr away ↦ rest (rw (ne_eqb n t away) at found)
      ]

-- the two agree whether a thread is suspended
pub suspended-same : (parts : Parts) (t : ℕ) → machine.is_thread (state_of parts) t ≡ true
    → machine.is_suspended_in (state_of parts) t ≡ sched.is_suspended_in parts.sched t
suspended-same parts t is = by_row (machine.thread_of (state_of parts) t) refl
  where
    noted : (o : Option Known) → (unwrap_or o (newcomer t parts.last_prio false)).suspended ≡ passes (λ (row : Known). row.suspended) o
    noted None = refl
    noted (Some row) = refl

    by_row : (o : Option ThreadRow) → machine.thread_of (state_of parts) t ≡ o
        → machine.is_suspended_in (state_of parts) t ≡ sched.is_suspended_in parts.sched t
    by_row None e =
        let no : false ≡ true = rw e at is in
        absurd (cc)
    by_row (Some row) e = ap (λ o. passes (λ (r : ThreadRow). r.suspended) o) e
        ∙ (shows parts.last_prio t parts.sched.threads parts.ids.live row e).0 ∙ noted (find (sched.is_of t) parts.sched.threads)

-- who waits is a thread
pub waiter-lives : (parts : Parts) (t : ℕ) → machine.is_blocked_in (state_of parts) t ≡ true → machine.is_thread (state_of parts) t ≡ true
waiter-lives parts t is = by_row (machine.thread_of (state_of parts) t) is
  where
    by_row : (o : Option ThreadRow) → passes waits o ≡ true → is_some o ≡ true
    by_row None h = h
    by_row (Some row) h = refl

-- a thread goes on: the state, and what ties the parts
pub waked-is : (parts : Parts) (t : ℕ) → machine.is_blocked_in (state_of parts) t ≡ true
    → state_of (after_wake parts t) ≡ machine_unblock.after_unblock (state_of parts) t
waked-is parts t is =
    rw (rows-block parts.last_prio t block.Not false parts.sched.threads parts.ids.live, suspended-same parts t (waiter-lives parts t is)) refl

pub IsTied-waked : (parts : Parts) → IsTied parts → (t : ℕ) → IsTied (after_wake parts t)
IsTied-waked parts tied t = record {
  known = λ u. ap is_some (find-known t u false parts.sched.threads)
      ∙ same-some (sched.row_with_block t false) (find (sched.is_of u) parts.sched.threads) ∙ tied.known u
      ∙ ap (λ b. b && not (is_same_option parts.dying u))
      (sym (ap (λ rows. is_some (find (is_number u) rows)) (rows-block parts.last_prio t block.Not false parts.sched.threads parts.ids.live)
      ∙ ap is_some (find-row t u block.Not (state_of parts).threads)
      ∙ same-some (machine.row_with_block t block.Not) (find (is_number u) (state_of parts).threads)));
  waits = λ u. known-unblocked t u parts.sched.threads ∙ ap (λ b. not (eqb u t) && b) (tied.waits u)
      ∙ sym (ap (λ rows. passes waits (find (is_number u) rows)) (rows-block parts.last_prio t block.Not false parts.sched.threads parts.ids.live)
      ∙ row-unblocked t u (state_of parts).threads);
}

rows-length : (t : ℕ) (b : Block) (rows : List ThreadRow) → length (machine.with_block t b rows) ≡ length rows
rows-length t b [] = refl
rows-length t b (row ∷ rows) = omega (arith, rows-length t b rows)

priority-same : (parts : Parts) (t u : ℕ) → machine.priority_in (state_of (after_wake parts t)) u ≡ machine.priority_in (state_of parts) u
priority-same parts t u = ap (λ rows. prio (find (is_number u) rows)) (rows-block parts.last_prio t block.Not false parts.sched.threads parts.ids.live)
    ∙ ap prio (find-row t u block.Not (state_of parts).threads) ∙ same (find (is_number u) (state_of parts).threads)
  where
    prio : Option ThreadRow → ℕ
    prio o = unwrap_or (option_map (λ (row : ThreadRow). row.priority) o) 0

    same : (o : Option ThreadRow)
        → unwrap_or (option_map (λ (row : ThreadRow). row.priority) (option_map (machine.row_with_block t block.Not) o)) 0
        ≡ unwrap_or (option_map (λ (row : ThreadRow). row.priority) o) 0
    same None = refl
    same (Some row) = refl

pub IsRanked-waked : (parts : Parts) (t : ℕ) → IsRanked parts → IsRanked (after_wake parts t)
IsRanked-waked parts t ranked = record {
  requests = All-weaker (λ (r : EntryRequest). r.prio ≡ machine.priority_in (state_of parts) r.tid)
      (λ r. r.prio ≡ machine.priority_in (state_of (after_wake parts t)) r.tid) (λ r e. e ∙ sym (priority-same parts t r.tid))
      parts.mons.requests ranked.requests;
  waits = All-weaker (λ (w : WaitRec). w.prio ≡ machine.priority_in (state_of parts) w.tid)
      (λ w. w.prio ≡ machine.priority_in (state_of (after_wake parts t)) w.tid) (λ w e. e ∙ sym (priority-same parts t w.tid)) parts.conds.waits ranked.waits;
}

pub IsRoomy-waked : (parts : Parts) (t : ℕ) → IsRoomy parts → IsRoomy (after_wake parts t)
IsRoomy-waked parts t roomy =
    let same : length (state_of (after_wake parts t)).threads
    ≡ length (state_of parts).threads = ap length (rows-block parts.last_prio t block.Not false parts.sched.threads parts.ids.live)
    ∙ rows-length t block.Not (state_of parts).threads in
    record {
      letters = omega (arith, same, roomy.letters);
      threads = omega (arith, same, roomy.threads);
      requests = omega (arith, same, roomy.requests);
      waits = omega (arith, same, roomy.waits);
    }

-- who is found under a number

module _ (p : ℕ) (known : List Known) (t : ℕ) where
  -- nobody later has an earlier number
  rows-later : (living : List (ℕ × Kind)) → AllByRecursion (λ (q : ℕ × Kind). t < q.0) living → find (is_number t) (rows_of p known living) ≡ None
  rows-later [] h = refl
  rows-later (live ∷ living) h = by_kind live.0 live.1 h.0 (rows-later living h.1)
    where
      by_kind : (n : ℕ) (k : Kind) → t < n → find (is_number t) (rows_of p known living) ≡ None
          → find (is_number t) (row_onto (known_of p known n) n k (rows_of p known living)) ≡ None
      by_kind n kind.Agent less rest = rest
      by_kind n (kind.Thread rec) less rest = rw (ne_eqb n t (λ e. omega (arith, less, e))) rest

  -- the row of a number is that of the thread that lives under it
  abbrev pub row_under : Option Kind → Option ThreadRow
  row_under None = None
  row_under (Some (kind.Thread rec)) = Some (row_of (known_of p known t) t rec)
  row_under (Some kind.Agent) = None

  pub rows-under : (living : List (ℕ × Kind)) → AreRising living → find (is_number t) (rows_of p known living) ≡ row_under (value_of t living)
  rows-under [] h = refl
  rows-under (live ∷ living) h = by_kind live.0 live.1 h.0 (rows-under living h.1)
    where
      by_kind : (n : ℕ) (k : Kind) → AllByRecursion (λ (q : ℕ × Kind). n < q.0) living
          → find (is_number t) (rows_of p known living) ≡ row_under (value_of t living)
          → find (is_number t) (row_onto (known_of p known n) n k (rows_of p known living))
          ≡ row_under (option_map (λ (q : ℕ × Kind). q.1) (cond (eqb n t) (Some (n, k)) (find (λ (q : ℕ × Kind). eqb q.0 t) living)))
      by_kind n kind.Agent later rest = elim (cases_eq n t) [
        | inl e ↦ rw (eq-eqb n t e) (rows-later living (rw e at later))
        | inr away ↦ rw (ne_eqb n t away) rest
      ]
      by_kind n (kind.Thread rec) later rest = elim (cases_eq n t) [
        | inl e ↦ rw (eq-eqb n t e) (ap (λ m. Some (row_of (known_of p known m) m rec)) e)
        | inr away ↦ rw (ne_eqb n t away) rest
      ]

pub thread-under : (parts : Parts) (t : ℕ) (o : Option Kind) → AreRising parts.ids.live → value_of t parts.ids.live ≡ o
    → machine.is_thread (state_of parts) t ≡ is_some (row_under parts.last_prio parts.sched.threads t o)
thread-under parts t o rising e = ap is_some (rows-under parts.last_prio parts.sched.threads t parts.ids.live rising)
    ∙ ap (λ k. is_some (row_under parts.last_prio parts.sched.threads t k)) e
