-- Threads that are woken by a signal of their condition.
use Rattle.death_cleanup.proofs.Notes.{noted-block}
use Rattle.conditions.proofs.Machine as conds
use Rattle.conditions.specs.ConditionTable as cond
use Rattle.conditions.specs.ConditionTable.{ConditionTable, is_on, is_wait_of}
use Rattle.conditions.specs.Machine.{IsWaitedOnce}
use Rattle.conditions.specs.declared.waits.WaitRec.{WaitRec}
use Rattle.death_cleanup.proofs.Crowds.{Stand, a_place, none_there, nowhere}
use Rattle.death_cleanup.proofs.Looks.{find-row, same-some, waits}
use Rattle.death_cleanup.specs.Moves.{MayAsk, after_signal, pair_with_block, kind_with_block}
use Rattle.death_cleanup.specs.Ties.{InStep}
use Rattle.death_cleanup.specs.View.{known_of, row_of, row_onto, rows_of, state_of}
use Rattle.death_cleanup.specs.declared.parts.Parts.{Parts}
use Rattle.death_cleanup.specs.declared.rows.Kind.{Kind}
use Rattle.death_cleanup.specs.declared.rows.Kind.TheVariants as kind
use Rattle.lwp_types.specs.CountLaws.{count-cons, count_and-le, count_not_found, one, one-le}
use Rattle.lwp_types.specs.Counts.{is_depth, is_entering, is_waiting, waits_by}
use Rattle.lwp_types.specs.Lawful.{NineParts, is_same_option}
use Rattle.lwp_types.specs.Monitors.{is_owned_by_other}
use Rattle.lwp_types.specs.State as machine
use Rattle.lwp_types.specs.State.{State, ThreadRow, is_not_blocked, is_number, member, passes}
use Rattle.lwp_types.specs.Conditions.{after_wake}
use Rattle.lwp_types.specs.declared.rows.Block.{Block}
use Rattle.lwp_types.specs.declared.rows.Block.TheVariants as block
use Rattle.lwp_types.specs.declared.rows.CondRow.{CondRow}
use Rattle.lwp_types.specs.declared.rows.Request.{Request}
use Rattle.lwp_types.specs.declared.rows.WaitRow.{WaitRow}
use Rattle.monitors.proofs.Machine as mons
use Rattle.monitors.specs.MonitorTable as mon
use Rattle.monitors.specs.declared.requests.EntryRequest.{EntryRequest}
use Rattle.pod_laws.proofs.Elements.{all_at}
use Rattle.pod_laws.proofs.LockMoves.{requester_enters, waiter_waits}
use Rattle.pod_laws.proofs.Waking.{Waiter, Waking, first_waits, waiter, waking_next}
use Rattle.pod_sched.specs.declared.rows.Known.{Known}
use Rattle.std.proofs.Common.{Bool, List, None, Option, Some, [], ap, arith, count_by, eqb, false, inl, inr}
use Rattle.std.proofs.Common.{leb, length, map, not, refl, sym, true, ℕ, ◌&&◌, ◌∙◌, ◌∷◌, ◌≡◌, ◌≤◌, ◌||◌}
use Rattle.std.proofs.lemmas.Bool.{and_parts, cases_eq, eq-eqb, leb-true, ne_eqb}
use Rattle.std.proofs.lemmas.List.{length-map, map-append}
use Rattle.std.specs.List.{find}
use Rattle.std.specs.Prelude as prelude
use Rattle.std.specs.Prelude.{is_some, option_map, unwrap_or}

-- another block in the registry is another block in the state
rows-reblocked : (p t : ℕ) (b : Block) (known : List Known) (living : List (ℕ × Kind))
    → rows_of p known (map (pair_with_block t b) living) ≡ machine.with_block t b (rows_of p known living)
rows-reblocked p t b known [] = refl
rows-reblocked p t b known (live ∷ living) = by_kind live.0 live.1 (rows-reblocked p t b known living)
  where
    by_kind : (n : ℕ) (k : Kind) → rows_of p known (map (pair_with_block t b) living) ≡ machine.with_block t b (rows_of p known living)
        → row_onto (known_of p known n) n (prelude.cond (eqb n t) (kind_with_block b k) k) (rows_of p known (map (pair_with_block t b) living))
        ≡ machine.with_block t b (row_onto (known_of p known n) n k (rows_of p known living))
    by_kind n kind.Agent rest = by_test (eqb n t)
      where
        by_test : (c : Bool)
            → row_onto (known_of p known n) n (prelude.cond c kind.Agent kind.Agent) (rows_of p known (map (pair_with_block t b) living))
            ≡ machine.with_block t b (rows_of p known living)
        by_test true = rest
        by_test false = rest
    by_kind n (kind.Thread rec) rest = by_test (eqb n t)
      where
        by_test : (c : Bool)
            → row_onto (known_of p known n) n (prelude.cond c (kind.Thread (record rec { block = b })) (kind.Thread rec))
            (rows_of p known (map (pair_with_block t b) living))
            ≡ record (row_of (known_of p known n) n rec) { block = prelude.cond c b rec.block } ∷ machine.with_block t b (rows_of p known living)
        by_test true = ap (λ rows. row_of (known_of p known n) n (record rec { block = b }) ∷ rows) rest
        by_test false = ap (λ rows. row_of (known_of p known n) n rec ∷ rows) rest

rows-length : (t : ℕ) (b : Block) (rows : List ThreadRow) → length (machine.with_block t b rows) ≡ length rows
rows-length t b [] = refl
rows-length t b (row ∷ rows) = omega (arith, rows-length t b rows)

-- who waits for something else still waits
still-waits : (t u : ℕ) (b : Block) → not (is_not_blocked b) ≡ true → (rows : List ThreadRow)
    → passes waits (find (is_number u) (machine.with_block t b rows))
    ≡ ((eqb u t && is_some (find (is_number u) rows)) || passes waits (find (is_number u) rows))
still-waits t u b idle [] = none (eqb u t)
  where
    none : (c : Bool) → false ≡ ((c && false) || false)
    none true = refl
    none false = refl
still-waits t u b idle (row ∷ rows) = elim (cases_eq row.number u) [
  | inl e ↦ rw (eq-eqb row.number u e, e) (here (eqb u t))
  | inr away ↦ rw (ne_eqb row.number u away) (still-waits t u b idle rows)
]
  where
    here : (c : Bool) → not (is_not_blocked (prelude.cond c b row.block)) ≡ ((c && true) || waits row)
    here true = idle
    here false = refl

module _ (parts : Parts) (t : ℕ) (b : Block) (idle : not (is_not_blocked b) ≡ true) (waiting : machine.is_blocked_in (state_of parts) t ≡ true) where
  rows : List ThreadRow
  rows = (state_of parts).threads

  pub blocked-same : (u : ℕ) → passes waits (find (is_number u) (machine.with_block t b (state_of parts).threads)) ≡ machine.is_blocked_in (state_of parts) u
  blocked-same u = still-waits t u b idle (state_of parts).threads ∙ elim (cases_eq u t) [
    | inl e
        ↦ or-true (eqb u t && is_some (find (is_number u) (state_of parts).threads)) (machine.is_blocked_in (state_of parts) u)
        (ap (machine.is_blocked_in (state_of parts)) e ∙ waiting)
    | inr away ↦ rw (ne_eqb u t away) refl
  ]
    where
      or-true : (a c : Bool) → c ≡ true → (a || c) ≡ c
      or-true true c e = sym e
      or-true false c e = refl

priority-same : (t u : ℕ) (b : Block) (rows : List ThreadRow)
    → unwrap_or (option_map (λ (row : ThreadRow). row.priority) (find (is_number u) (machine.with_block t b rows))) 0
    ≡ unwrap_or (option_map (λ (row : ThreadRow). row.priority) (find (is_number u) rows)) 0
priority-same t u b rows = ap (λ o. unwrap_or (option_map (λ (row : ThreadRow). row.priority) o) 0) (find-row t u b rows) ∙ same (find (is_number u) rows)
  where
    same : (o : Option ThreadRow)
        → unwrap_or (option_map (λ (row : ThreadRow). row.priority) (option_map (machine.row_with_block t b) o)) 0
        ≡ unwrap_or (option_map (λ (row : ThreadRow). row.priority) o) 0
    same None = refl
    same (Some row) = refl

-- who waits to enter, and what

abbrev pub is_to_enter : Block → Bool
is_to_enter (block.Entering m) = true
is_to_enter _ = false

abbrev pub goal_of : Block → ℕ
goal_of (block.Entering m) = m
goal_of _ = 0

entering-is : (k : ℕ) (b : Block) → is_entering k b ≡ (is_to_enter b && eqb (goal_of b) k)
entering-is k block.Not = refl
entering-is k (block.Joining u) = refl
entering-is k block.Sending = refl
entering-is k (block.Receiving from) = refl
entering-is k (block.Entering m) = refl
entering-is k (block.Waiting c) = refl
entering-is k block.Sleeping = refl

-- a thread that waits to enter stands among the requests, once
pub requests_stand : (s : State) (d : Option ℕ) → NineParts s d → Stand (λ (r : Request). r.tid) (λ r. r.mon) is_to_enter goal_of s.threads s.requests
requests_stand s d was = record { here = λ t k. by_row t k (machine.thread_of s t) refl }
  where
    by_row : (t k : ℕ) (o : Option ThreadRow) → machine.thread_of s t ≡ o
        → count_by (λ (r : Request). eqb r.tid t && eqb r.mon k) s.requests
        ≤ one (passes (λ (row : ThreadRow). is_to_enter row.block && eqb (goal_of row.block) k) (machine.thread_of s t))
    by_row t k None e =
        omega (arith, was.blocks.2 t k, count_and-le (is_number t) (λ row. is_entering k row.block) s.threads, count_not_found (is_number t) s.threads e)
    by_row t k (Some row) e = rw e (omega (arith, requester_enters s d was t row e k, ap one (entering-is k row.block)))

-- the waits on a condition are of different threads
waits-once : (s : State) (d : Option ℕ) → NineParts s d → (t c : ℕ) → waits_by s t c ≤ 1
waits-once s d was t c = by_row (machine.thread_of s t) refl
  where
    by_row : (o : Option ThreadRow) → machine.thread_of s t ≡ o → waits_by s t c ≤ 1
    by_row None e =
        omega (arith, was.blocks.3 t c, count_and-le (is_number t) (λ row. is_waiting c row.block) s.threads, count_not_found (is_number t) s.threads e)
    by_row (Some x) e = omega (arith, waiter_waits s d was t x e c, one-le (is_waiting c x.block))

pub IsWaitedOnce-lawful : (parts : Parts) → NineParts (state_of parts) parts.dying → (c : ℕ) → IsWaitedOnce parts.conds c
IsWaitedOnce-lawful parts nine c u = omega (arith, waits-once (state_of parts) parts.dying nine u c, counted parts.conds.waits)
  where
    swap : (a b : Bool) → one (a && b) ≡ one (b && a)
    swap true true = refl
    swap true false = refl
    swap false true = refl
    swap false false = refl

    counted : (ws : List WaitRec)
        → count_by (λ w. is_on c w && is_wait_of u w) ws ≡ count_by (λ (w : WaitRow). eqb w.tid u && eqb w.cond c) (map cond.machine_row ws)
    counted [] = refl
    counted (w ∷ ws) = omega (
      arith,
      counted ws,
      swap (eqb w.cond c) (eqb w.tid u),
      count-cons (λ w. is_on c w && is_wait_of u w) w ws,
      count-cons (λ (w : WaitRow). eqb w.tid u && eqb w.cond c) (cond.machine_row w) (map cond.machine_row ws),
    )

-- ---- one is woken

-- all of these wait on condition c of monitor m, which t acquired last
pub record Signalling (t c m : ℕ) (ws : List WaitRec) (parts : Parts) : Type 0 where
  pub waking : Waking parts.dying t c (record { number = c; mon = m }) (map cond.machine_row ws) (state_of parts)
  pub step : InStep parts

module _ (parts : Parts) (t c m : ℕ) (w : WaitRec) (ws : List WaitRec) (h : Signalling t c m (w ∷ ws) parts) where
  abbrev row : CondRow
  row = record { number = c; mon = m }

  after : Waking parts.dying t c row (map cond.machine_row ws) (after_wake m (cond.machine_row w) (state_of parts))
  after = waking_next parts.dying t c row (cond.machine_row w) (map cond.machine_row ws) (state_of parts) h.waking

  who : Waiter (state_of parts) w.tid c
  who = waiter (state_of parts) parts.dying h.waking.nine w.tid c
      (first_waits parts.dying t c row (cond.machine_row w) (map cond.machine_row ws) (state_of parts) h.waking)

  waiting : machine.is_blocked_in (state_of parts) w.tid ≡ true
  waiting = ap (passes waits) who.known ∙ ap (λ b. not (is_not_blocked b)) who.waits

  -- it can wait to enter
  pub may-ask : MayAsk parts.mons m w
  may-ask = record {
    held = (and_parts (is_owned_by_other parts.mons.locks w.tid m) (is_depth w.depth) fine.1).0;
    nowhere = none_there (mon.is_request_of w.tid) parts.mons.requests (counted parts.mons.requests
        ∙ nowhere (λ (r : Request). r.tid) (λ r. r.mon) is_to_enter goal_of (state_of parts).threads (state_of parts).requests stand w.tid
        who.row who.known out);
    least = leb-true 1 w.depth deep.0;
    most = leb-true w.depth 65535 deep.1;
    room = omega (
      arith,
      h.step.roomy.requests,
      length-map parts.mons.requests mon.machine_row,
      a_place (λ (r : Request). r.tid) (λ r. r.mon) is_to_enter goal_of (state_of parts).threads (state_of parts).requests stand w.tid who.row who.known out,
    );
  }
    where
      stand : Stand (λ (r : Request). r.tid) (λ r. r.mon) is_to_enter goal_of (state_of parts).threads (state_of parts).requests
      stand = requests_stand (state_of parts) parts.dying h.waking.nine

      out : is_to_enter who.row.block ≡ false
      out = ap is_to_enter who.waits

      fine : (member m parts.mons.monitors ≡ true) × ((is_owned_by_other parts.mons.locks w.tid m && is_depth w.depth) ≡ true)
      fine = and_parts _ _ (all_at (λ (q : Request). member q.mon parts.mons.monitors
          && (is_owned_by_other parts.mons.locks q.tid q.mon && is_depth q.depth)) (state_of parts).requests
          (record { mon = m; tid = w.tid; depth = w.depth }) [] after.nine.locks.2)

      deep : (leb 1 w.depth ≡ true) × (leb w.depth 65535 ≡ true)
      deep = and_parts (leb 1 w.depth) (leb w.depth 65535) (and_parts (is_owned_by_other parts.mons.locks w.tid m) (is_depth w.depth) fine.1).1

      counted : (rs : List EntryRequest) → count_by (mon.is_request_of w.tid) rs ≡ count_by (λ (r : Request). eqb r.tid w.tid) (map mon.machine_row rs)
      counted [] = refl
      counted (r ∷ rs) = omega (
        arith,
        counted rs,
        count-cons (mon.is_request_of w.tid) r rs,
        count-cons (λ (r : Request). eqb r.tid w.tid) (mon.machine_row r) (map mon.machine_row rs),
      )

  threads-are : (state_of (after_signal parts m w)).threads ≡ machine.with_block w.tid (block.Entering m) (state_of parts).threads
  threads-are = rows-reblocked parts.last_prio w.tid (block.Entering m) parts.sched.threads parts.ids.live

  -- what the machine makes of it
  pub signalled-is : state_of (after_signal parts m w) ≡ after_wake m (cond.machine_row w) (state_of parts)
  signalled-is = rw (
    threads-are,
    map-append mon.machine_row parts.mons.requests (record { mon = m; tid = w.tid; prio = w.prio; depth = w.depth } ∷ []),
    conds.without-row w.tid parts.conds.waits,
  ) refl

  same-priority : (u : ℕ) → machine.priority_in (state_of (after_signal parts m w)) u ≡ machine.priority_in (state_of parts) u
  same-priority u = ap (λ rows. unwrap_or (option_map (λ (row : ThreadRow). row.priority) (find (is_number u) rows)) 0) threads-are
      ∙ priority-same w.tid u (block.Entering m) (state_of parts).threads

  module _ (ranked : w.prio ≡ machine.priority_in (state_of parts) w.tid) where
    pub InStep-signalled : InStep (after_signal parts m w)
    InStep-signalled = record {
      tied = record {
        known = λ u. h.step.tied.known u
            ∙ ap (λ b. b && not (is_same_option parts.dying u)) (sym (ap (λ rows. is_some (find (is_number u) rows)) threads-are
            ∙ ap is_some (find-row w.tid u (block.Entering m) (state_of parts).threads)
            ∙ same-some (machine.row_with_block w.tid (block.Entering m)) (find (is_number u) (state_of parts).threads)));
        waits = λ u. h.step.tied.waits u
            ∙ sym (ap (λ rows. passes waits (find (is_number u) rows)) threads-are ∙ blocked-same parts w.tid (block.Entering m) refl waiting u);
      };
      ranked = record {
        requests = mons.ranked_same (machine.priority_in (state_of parts)) (machine.priority_in (state_of (after_signal parts m w)))
            (mon.after_request parts.mons asks)
            (mons.ranked_requested (machine.priority_in (state_of parts)) parts.mons h.step.ranked.requests asks ranked) same-priority;
        waits = conds.ranked_same (machine.priority_in (state_of parts)) (machine.priority_in (state_of (after_signal parts m w)))
            (cond.after_wake parts.conds (Some w))
            (conds.ranked_forgotten (machine.priority_in (state_of parts)) parts.conds h.step.ranked.waits w.tid) same-priority;
      };
      roomy =
          let same : length (state_of (after_signal parts m w)).threads
          ≡ length (state_of parts).threads = ap length threads-are ∙ rows-length w.tid (block.Entering m) (state_of parts).threads in
          record {
            letters = omega (arith, same, h.step.roomy.letters);
            threads = omega (arith, same, h.step.roomy.threads);
            requests = omega (arith, same, h.step.roomy.requests);
            waits = omega (arith, same, h.step.roomy.waits);
          };
      monitors = h.step.monitors;
      conditions = h.step.conditions;
      noted = noted-block parts.named w.tid (block.Entering m) refl parts.ids.live h.step.noted;
    }
      where
        asks : EntryRequest
        asks = record { mon = m; tid = w.tid; prio = w.prio; depth = w.depth }

    pub Signalling-next : Signalling t c m ws (after_signal parts m w)
    Signalling-next = record { waking = rw signalled-is after; step = InStep-signalled }
