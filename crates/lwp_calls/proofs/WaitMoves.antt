-- Wait: the caller's monitor is released first, and the caller waits then. It comes to the same as the other way round.
use Rattle.conditions.proofs.Machine.{ranked_waited}
use Rattle.conditions.specs.ConditionTable as table
use Rattle.conditions.specs.declared.waits.WaitRec.{WaitRec}
use Rattle.death_cleanup.proofs.Crowds.{Stand, a_place, none_there, nowhere}
use Rattle.death_cleanup.specs.Comes.{CameTo}
use Rattle.death_cleanup.specs.Ties.{InStep, LawfulParts}
use Rattle.death_cleanup.specs.View.{state_of}
use Rattle.death_cleanup.specs.declared.parts.Parts.{Parts}
use Rattle.lwp_calls.proofs.Entering.{free_row}
use Rattle.lwp_calls.proofs.Tables.{InStep-conditions}
use Rattle.lwp_calls.specs.Comes.{ComesTo}
use Rattle.lwp_types.specs.Case.{silent_case, unless}
use Rattle.lwp_types.specs.Choice.{is_eligible, is_eligible_in}
use Rattle.lwp_types.specs.CountLaws.{count-cons, count-reverse, count_and-le, count_found_and, count_found_by, count_not_found, one}
use Rattle.lwp_types.specs.Counts.{is_waiting, requests_by}
use Rattle.lwp_types.specs.Lawful.{NineParts}
use Rattle.lwp_types.specs.Monitors.{depth_in}
use Rattle.lwp_types.specs.MonitorRelease.{grant, is_lock, is_owned_by, last_lock, lock_of, locks_on, next_owner, release, without_lock}
use Rattle.lwp_types.specs.State.{Outcome, State, ThreadRow, row_with_block, is_not_blocked, is_number}
use Rattle.lwp_types.specs.State.{member, passes, priority_in, still, thread_of, with_block}
use Rattle.lwp_types.specs.Unblock.{after_block, zero_answer}
use Rattle.lwp_types.specs.Conditions.{after_wait, condition_of, is_condition, wait}
use Rattle.lwp_types.specs.declared.call.Effect.{Effect}
use Rattle.lwp_types.specs.declared.call.Effect.TheVariants as effect
use Rattle.lwp_types.specs.declared.rows.Block.{Block}
use Rattle.lwp_types.specs.declared.rows.Block.TheVariants as block
use Rattle.lwp_types.specs.declared.rows.CondRow.{CondRow}
use Rattle.lwp_types.specs.declared.rows.Lock.{Lock}
use Rattle.lwp_types.specs.declared.rows.Request.{Request}
use Rattle.lwp_types.specs.declared.rows.WaitRow.{WaitRow}
use Rattle.pod_laws.proofs.Elements.{all_found}
use Rattle.pod_laws.proofs.LetterMoves.{not_apart}
use Rattle.pod_laws.proofs.LockMoves.{next, requester_enters, waiter_waits}
use Rattle.pod_laws.proofs.Rows.{find_rowed}
use Rattle.pod_laws.proofs.WaitMove.{grant_still, next_still, priority_still, waits_now}
use Rattle.std.proofs.Common.{Bool, List, None, Option, Some, [], ap, arith, cond, count_by, eqb, false, length}
use Rattle.std.proofs.Common.{map, not, refl, reverse, sym, true, ℕ, ◌&&◌, ◌++◌, ◌<◌, ◌∙◌, ◌∷◌, ◌≡◌, ◌≢◌, ◌≤◌}
use Rattle.std.proofs.lemmas.Bool.{and_from, and_parts, eq-eqb, eqb-true}
use Rattle.std.proofs.lemmas.List.{length-map, map-append}
use Rattle.std.specs.List.{find}
use Rattle.std.specs.Prelude.{is_none, is_some, option_map, unwrap_or}

-- who may run still may where somebody goes on
eligible_still : (s : State) (u v : ℕ) → is_eligible_in s v ≡ true → passes is_eligible (find (is_number v) (with_block u block.Not s.threads)) ≡ true
eligible_still s u v may = ap (passes is_eligible) (find_rowed (row_with_block u block.Not) (λ row. refl) s.threads v) ∙ by_row (thread_of s v) may
  where
    by_row : (o : Option ThreadRow) → passes is_eligible o ≡ true → passes is_eligible (option_map (row_with_block u block.Not) o) ≡ true
    by_row None h = h
    by_row (Some row) h = by_test (is_number u row)
      where
        by_test : (b : Bool) → (not row.suspended && is_not_blocked (cond b block.Not row.block)) ≡ true
        by_test true = and_from _ _ (and_parts (not row.suspended) (is_not_blocked row.block) h).0 refl
        by_test false = h

-- a release, and then the caller waits
abbrev pub released_waits : ℕ → WaitRow → State → Outcome
released_waits m w s = record { after = waits_now w.cond w (release m s).after; effects = (release m s).effects }

later : (w : WaitRow) (s : State) (m : ℕ) → ((r : Request) → next_owner s m ≡ Some r → w.tid ≢ r.tid) → release m (waits_now w.cond w s) ≡ released_waits m w s
later w s m differs = ap (λ o. grant o (waits_now w.cond w dropped)) (next_still w.cond w s m) ∙ by_next (next_owner s m) refl
  where
    dropped : State
    dropped = record s { locks = without_lock m s.locks }

    told : ℕ → State → Outcome
    told u after = record { after = after; effects = effect.Answered u zero_answer ∷ [] }

    by_next : (o : Option Request) → next_owner s m ≡ o
        → grant o (waits_now w.cond w dropped) ≡ record { after = waits_now w.cond w (grant o dropped).after; effects = (grant o dropped).effects }
    by_next None e = refl
    by_next (Some r) e = ap (told r.tid) (grant_still w.cond w dropped r (differs r e))

-- what a release leaves
module _ (s : State) (m : ℕ) where
  abbrev dropped : State
  dropped = record s { locks = without_lock m s.locks }

  kept : (P : State → Type 0) → P dropped → ((r : Request) → P (grant (Some r) dropped).after) → P (release m s).after
  kept P none some = by_next (next_owner s m)
    where
      by_next : (o : Option Request) → P (grant o dropped).after
      by_next None = none
      by_next (Some r) = some r

  conditions-kept : (release m s).after.conditions ≡ s.conditions
  conditions-kept = kept (λ now. now.conditions ≡ s.conditions) refl (λ r. refl)

  waits-kept : (release m s).after.waits ≡ s.waits
  waits-kept = kept (λ now. now.waits ≡ s.waits) refl (λ r. refl)

  count-kept : length (release m s).after.threads ≡ length s.threads
  count-kept = kept (λ now. length now.threads ≡ length s.threads) refl (λ r. length-map s.threads (row_with_block r.tid block.Not))

  priority-kept : (v : ℕ) → priority_in (release m s).after v ≡ priority_in s v
  priority-kept v = kept (λ now. priority_in now v ≡ priority_in s v) refl (λ r. priority_still s r.tid block.Not v)

  may-kept : (t : ℕ) → is_eligible_in s t ≡ true → is_eligible_in (release m s).after t ≡ true
  may-kept t may = kept (λ now. is_eligible_in now t ≡ true) may (λ r. eligible_still s r.tid t may)

-- who waits on a condition, and on which

abbrev is_to_wait : Block → Bool
is_to_wait (block.Waiting c) = true
is_to_wait _ = false

abbrev spot_of : Block → ℕ
spot_of (block.Waiting c) = c
spot_of _ = 0

waiting-is : (k : ℕ) (b : Block) → is_waiting k b ≡ (is_to_wait b && eqb (spot_of b) k)
waiting-is k block.Not = refl
waiting-is k (block.Joining u) = refl
waiting-is k block.Sending = refl
waiting-is k (block.Receiving from) = refl
waiting-is k (block.Entering m) = refl
waiting-is k (block.Waiting c) = refl
waiting-is k block.Sleeping = refl

waits_not : (b : Block) → is_not_blocked b ≡ true → is_to_wait b ≡ false
waits_not block.Not e = refl
waits_not (block.Joining u) e = refl
waits_not block.Sending e = refl
waits_not (block.Receiving from) e = refl
waits_not (block.Entering m) e = refl
waits_not (block.Waiting c) e = absurd (let no : false ≡ true = e in cc)
waits_not block.Sleeping e = refl

waits_stand : (s : State) (d : Option ℕ) → NineParts s d → Stand (λ (w : WaitRow). w.tid) (λ w. w.cond) is_to_wait spot_of s.threads s.waits
waits_stand s d was = record { here = λ t k. by_row t k (thread_of s t) refl }
  where
    by_row : (t k : ℕ) (o : Option ThreadRow) → thread_of s t ≡ o
        → count_by (λ (w : WaitRow). eqb w.tid t && eqb w.cond k) s.waits
        ≤ one (passes (λ (row : ThreadRow). is_to_wait row.block && eqb (spot_of row.block) k) (thread_of s t))
    by_row t k None e =
        omega (arith, was.blocks.3 t k, count_and-le (is_number t) (λ row. is_waiting k row.block) s.threads, count_not_found (is_number t) s.threads e)
    by_row t k (Some row) e = rw e (omega (arith, waiter_waits s d was t row e k, ap one (waiting-is k row.block)))

-- the lock that was acquired last, where it is that of m
record Held (o : Option Lock) (m : ℕ) : Type 0 where
  lock : Lock
  is : o ≡ Some lock
  here : lock.mon ≡ m

held : (o : Option Lock) (m : ℕ) → passes (λ lock. eqb m lock.mon) o ≡ true → Held o m
held None m e = absurd (let no : false ≡ true = e in cc)
held (Some lock) m e = record { lock = lock; is = refl; here = sym (eqb-true m lock.mon e) }

-- the depth of a monitor is that of the lock
depth-last : (locks : List Lock) (t m : ℕ) (lock : Lock) → locks_on locks m ≤ 1 → last_lock locks t ≡ Some lock → lock.mon ≡ m → depth_in locks m ≡ lock.depth
depth-last locks t m lock once found here = by_found (lock_of locks m) refl
  where
    counted : 1 ≤ count_by (λ l. is_lock m l && eqb l.depth lock.depth) locks
    counted = omega (
      arith,
      count_found_by (is_owned_by t) (λ l. is_lock m l && eqb l.depth lock.depth) (reverse locks) lock found
          (and_from _ _ (eq-eqb lock.mon m here) (eq-eqb lock.depth lock.depth refl)),
      count-reverse (λ l. is_lock m l && eqb l.depth lock.depth) locks,
    )

    by_test : (l : Lock) (b : Bool) → eqb l.depth lock.depth ≡ b → 1 ≤ one b → l.depth ≡ lock.depth
    by_test l true e some = eqb-true l.depth lock.depth e
    by_test l false e some = absurd (omega (arith, some))

    by_found : (o : Option Lock) → lock_of locks m ≡ o → depth_in locks m ≡ lock.depth
    by_found None e = absurd (omega (arith, counted, count_and-le (is_lock m) (λ l. eqb l.depth lock.depth) locks, count_not_found (is_lock m) locks e))
    by_found (Some l) e = ap (λ o. unwrap_or (option_map (λ (k : Lock). k.depth) o) 0) e
        ∙ by_test l (eqb l.depth lock.depth) refl (omega (arith, counted, count_found_and (is_lock m) (λ k. eqb k.depth lock.depth) locks l e once))

-- a condition's monitor lives, and one that is owned is held
pub monitor-lives : (parts : Parts) → LawfulParts parts → (c m : ℕ)
    → condition_of parts.conds.conditions c ≡ Some (record { number = c; mon = m }) → member m parts.mons.monitors ≡ true
monitor-lives parts lawful c m found = all_found (is_condition c) (λ (row : CondRow). member row.mon parts.mons.monitors)
    parts.conds.conditions (record { number = c; mon = m }) lawful.nine.owners.0 found

pub held-of : (t : ℕ) (o : Option Lock) → passes (is_owned_by t) o ≡ true → is_none o ≡ false
held-of t None e = absurd (let no : false ≡ true = e in cc)
held-of t (Some lock) e = refl

module _ (parts mid : Parts) (before told : List Effect) (lawful : LawfulParts parts) (t m : ℕ) (may : is_eligible_in (state_of parts) t ≡ true)
    (came : CameTo parts mid before told (release m (state_of parts))) where
  open free_row (state_of parts) t may use {row, known, free}

  waits-same : map table.machine_row mid.conds.waits ≡ map table.machine_row parts.conds.waits
  waits-same = ap (λ (s : State). s.waits) came.state ∙ waits-kept (state_of parts) m

  stand : Stand (λ (w : WaitRow). w.tid) (λ w. w.cond) is_to_wait spot_of (state_of parts).threads (state_of parts).waits
  stand = waits_stand (state_of parts) parts.dying lawful.nine

  pub still-live : (c : ℕ) → condition_of parts.conds.conditions c ≡ Some (record { number = c; mon = m }) → table.is_live mid.conds c ≡ true
  still-live c found = ap (λ rows. is_some (condition_of rows c)) (ap (λ (s : State). s.conditions) came.state ∙ conditions-kept (state_of parts) m)
      ∙ ap is_some found

  -- the caller waits nowhere, and there is a place for it
  counted : (ws : List WaitRec) → count_by (table.is_wait_of t) ws ≡ count_by (λ (w : WaitRow). eqb w.tid t) (map table.machine_row ws)
  counted [] = refl
  counted (w ∷ ws) = omega
      (arith, counted ws, count-cons (table.is_wait_of t) w ws, count-cons (λ (w : WaitRow). eqb w.tid t) (table.machine_row w) (map table.machine_row ws))

  pub waits_nowhere : table.is_waiting mid.conds t ≡ false
  waits_nowhere = none_there (table.is_wait_of t) mid.conds.waits
      (counted mid.conds.waits ∙ ap (count_by (λ (w : WaitRow). eqb w.tid t)) waits-same
      ∙ nowhere (λ (w : WaitRow). w.tid) (λ w. w.cond) is_to_wait spot_of (state_of parts).threads (state_of parts).waits stand t row
      known (waits_not row.block free))

  pub waits_room : length mid.conds.waits < mid.conds.places
  waits_room = omega (
    arith,
    came.step.roomy.waits,
    ap (λ (s : State). length s.threads) came.state,
    count-kept (state_of parts) m,
    length-map mid.conds.waits table.machine_row,
    ap length waits-same,
    a_place (λ (w : WaitRow). w.tid) (λ w. w.cond) is_to_wait spot_of (state_of parts).threads (state_of parts).waits stand t row known
        (waits_not row.block free),
  )

  -- who enters next is another
  differs : (r : Request) → next_owner (state_of parts) m ≡ Some r → t ≢ r.tid
  differs r e same = absurd (omega (
    arith,
    (next (state_of parts) parts.dying lawful.nine m r e).some,
    ap (λ n. requests_by (state_of parts) n r.mon) same,
    requester_enters (state_of parts) parts.dying lawful.nine t row known r.mon,
    ap one ((not_apart row.block free).enters r.mon),
  ))

  module _ (c prio depth : ℕ) where
    abbrev pub then_waits : Parts
    then_waits = record mid { conds = table.after_wait mid.conds (record { cond = c; tid = t; prio = prio; depth = depth }) }

    pub InStep-then : prio ≡ priority_in (state_of parts) t → InStep then_waits
    InStep-then ranked = InStep-conditions mid came.step (table.after_wait mid.conds (record { cond = c; tid = t; prio = prio; depth = depth }))
        (ranked_waited (priority_in (state_of mid)) mid.conds came.step.ranked.waits (record { cond = c; tid = t; prio = prio; depth = depth }) (ranked
        ∙ sym (ap (λ (s : State). priority_in s t) came.state ∙ priority-kept (state_of parts) m t)))
        refl refl

    pub may-then : is_eligible_in (state_of then_waits) t ≡ true
    may-then = ap (λ (s : State). is_eligible_in s t) came.state ∙ may-kept (state_of parts) m t may

    module _ (found : condition_of parts.conds.conditions c ≡ Some (record { number = c; mon = m }))
        (last : passes (λ lock. eqb m lock.mon) (last_lock parts.mons.locks t) ≡ true) (deep : depth ≡ depth_in parts.mons.locks m) where
      made : wait (state_of parts) t c ≡ silent_case (after_wait t c (last_lock parts.mons.locks t) (state_of parts))
      unfolding unless
      made = rw (found, last) refl

      abbrev its : WaitRow
      its = record { cond = c; tid = t; depth = depth }

      made-is : wait (state_of parts) t c ≡ silent_case (released_waits m its (state_of parts))
      made-is =
          let h = held (last_lock parts.mons.locks t) m last in
          made
          ∙ ap (λ o. silent_case (after_wait t c o (state_of parts))) h.is
          ∙ ap (λ k. silent_case (release k (waits_now c (record { cond = c; tid = t; depth = h.lock.depth }) (state_of parts)))) h.here
          ∙ ap (λ d. silent_case (release m (waits_now c (record { cond = c; tid = t; depth = d }) (state_of parts))))
          (sym (deep ∙ depth-last parts.mons.locks t m h.lock (lawful.nine.locks.0 m) h.is h.here))
          ∙ ap silent_case (later its (state_of parts) m differs)

      state-then : state_of then_waits ≡ record (release m (state_of parts)).after { waits = (release m (state_of parts)).after.waits ++ its ∷ [] }
      state-then =
          ap (λ ws. record (state_of mid) { waits = ws })
          (map-append table.machine_row mid.conds.waits (record { cond = c; tid = t; prio = prio; depth = depth } ∷ []))
          ∙ ap (λ (s : State). record s { waits = s.waits ++ its ∷ [] }) came.state

      pub wait-comes : (new : Parts) → CameTo then_waits new [] [] (still (after_block (state_of then_waits) t (block.Waiting c)))
          → ComesTo parts new before told (wait (state_of parts) t c) None
      wait-comes new comes = rw made-is (record {
        came = record {
          state = comes.state ∙ ap (λ (s : State). after_block s t (block.Waiting c)) state-then;
          effects = came.effects;
          step = comes.step;
          dying = comes.dying ∙ came.dying;
        };
        own = refl;
      })
