-- Who enters a monitor, and who waits for one.
use Rattle.death_cleanup.proofs.Asking.{goal_of, is_to_enter, requests_stand}
use Rattle.death_cleanup.proofs.Crowds.{Stand, a_place, none_there, nowhere}
use Rattle.death_cleanup.specs.Ties.{LawfulParts}
use Rattle.death_cleanup.specs.View.{state_of}
use Rattle.death_cleanup.specs.declared.parts.Parts.{Parts}
use Rattle.lwp_types.specs.Case.{refusal_case, silent_case, unless, value_case}
use Rattle.lwp_types.specs.Choice.{is_eligible, is_eligible_in}
use Rattle.lwp_types.specs.CountLaws.{count-cons}
use Rattle.lwp_types.specs.Counts.{is_depth}
use Rattle.lwp_types.specs.Monitors.{after_monitor_destroy, after_request, cond_enter, depth_in, enter, enter_case}
use Rattle.lwp_types.specs.Monitors.{has_waits, is_deepest, is_owned_by_other, monitor_destroy}
use Rattle.lwp_types.specs.MonitorRelease.{is_owned_by, lock_of}
use Rattle.lwp_types.specs.State.{State, ThreadRow, is_not_blocked, member, passes, still, thread_of}
use Rattle.lwp_types.specs.declared.call.LwpErr.TheVariants as error
use Rattle.lwp_types.specs.declared.rows.Block.{Block}
use Rattle.lwp_types.specs.declared.rows.Block.TheVariants as block
use Rattle.lwp_types.specs.declared.rows.Lock.{Lock}
use Rattle.lwp_types.specs.declared.rows.Request.{Request}
use Rattle.monitors.specs.MonitorTable as mon
use Rattle.monitors.specs.declared.requests.EntryRequest.{EntryRequest}
use Rattle.std.proofs.Common.{Bool, List, None, Option, Some, [], ap, arith, count_by, eqb, false, length}
use Rattle.std.proofs.Common.{map, not, refl, sym, true, ℕ, ◌&&◌, ◌<◌, ◌∙◌, ◌∷◌, ◌≡◌, ◌||◌}
use Rattle.std.proofs.lemmas.Bool.{and_parts, eqb-true}
use Rattle.std.proofs.lemmas.List.{length-map}
use Rattle.std.specs.List.{list_all, list_any}
use Rattle.std.specs.Prelude.{is_some, nat_le, option_map, unwrap_or}

-- the row of one that may run
pub record Free (s : State) (t : ℕ) : Type 0 where
  pub row : ThreadRow
  pub known : thread_of s t ≡ Some row
  pub free : is_not_blocked row.block ≡ true

pub free_row : (s : State) (t : ℕ) → is_eligible_in s t ≡ true → Free s t
free_row s t may = by_row (thread_of s t) refl may
  where
    by_row : (o : Option ThreadRow) → thread_of s t ≡ o → passes is_eligible o ≡ true → Free s t
    by_row None e h = absurd (let no : false ≡ true = h in cc)
    by_row (Some row) e h = record { row = row; known = e; free = (and_parts (not row.suspended) (is_not_blocked row.block) h).1 }

enters_not : (b : Block) → is_not_blocked b ≡ true → is_to_enter b ≡ false
enters_not block.Not e = refl
enters_not (block.Joining u) e = refl
enters_not block.Sending e = refl
enters_not (block.Receiving from) e = refl
enters_not (block.Entering m) e = absurd (let no : false ≡ true = e in cc)
enters_not (block.Waiting c) e = refl
enters_not block.Sleeping e = refl

module _ (parts : Parts) (lawful : LawfulParts parts) (t : ℕ) (may : is_eligible_in (state_of parts) t ≡ true) where
  open free_row (state_of parts) t may use {row, known, free}

  stand : Stand (λ (r : Request). r.tid) (λ r. r.mon) is_to_enter goal_of (state_of parts).threads (state_of parts).requests
  stand = requests_stand (state_of parts) parts.dying lawful.nine

  counted : (rs : List EntryRequest) → count_by (mon.is_request_of t) rs ≡ count_by (λ (r : Request). eqb r.tid t) (map mon.machine_row rs)
  counted [] = refl
  counted (r ∷ rs) =
      omega (arith, counted rs, count-cons (mon.is_request_of t) r rs, count-cons (λ (r : Request). eqb r.tid t) (mon.machine_row r) (map mon.machine_row rs))

  -- one that may run has no request, and there is a place for one
  pub asks_nowhere : mon.has_request parts.mons t ≡ false
  asks_nowhere = none_there (mon.is_request_of t) parts.mons.requests (counted parts.mons.requests
      ∙ nowhere (λ (r : Request). r.tid) (λ r. r.mon) is_to_enter goal_of (state_of parts).threads (state_of parts).requests stand t row
      known (enters_not row.block free))

  pub asks_room : length parts.mons.requests < parts.mons.places
  asks_room =
      omega (
        arith,
        lawful.step.roomy.requests,
        length-map parts.mons.requests mon.machine_row,
        a_place (λ (r : Request). r.tid) (λ r. r.mon) is_to_enter goal_of (state_of parts).threads (state_of parts).requests stand t row
            known (enters_not row.block free),
      )

-- who is asked for is held
unwanted-in : (locks : List Lock) (m : ℕ) → lock_of locks m ≡ None → (rs : List EntryRequest) → (members : List ℕ)
    → list_all (λ (r : Request). member r.mon members && (is_owned_by_other locks r.tid r.mon && is_depth r.depth)) (map mon.machine_row rs) ≡ true
    → list_any (λ (r : EntryRequest). eqb r.mon m) rs ≡ false
unwanted-in locks m none [] members all = refl
unwanted-in locks m none (r ∷ rs) members all =
    let now = and_parts (member r.mon members && (is_owned_by_other locks r.tid r.mon && is_depth r.depth)) _ all in
    by_test (eqb r.mon m) refl (and_parts _ _ (and_parts (member r.mon members) _ now.0).1).0 (unwanted-in locks m none rs members now.1)
  where
    by_test : (b : Bool) → eqb r.mon m ≡ b → is_owned_by_other locks r.tid r.mon ≡ true
        → list_any (λ (r : EntryRequest). eqb r.mon m) rs ≡ false → (b || list_any (λ (r : EntryRequest). eqb r.mon m) rs) ≡ false
    by_test true e other rest = absurd
        (let no : false ≡ true = ap (λ o. passes (λ lock. not (is_owned_by r.tid lock)) o) (sym none ∙ ap (lock_of locks) (sym (eqb-true r.mon m e))) ∙ other in
        cc)
    by_test false e other rest = rest

pub unwanted : (parts : Parts) → LawfulParts parts → (m : ℕ) → lock_of parts.mons.locks m ≡ None → mon.is_unwanted parts.mons m ≡ true
unwanted parts lawful m none = ap not (unwanted-in parts.mons.locks m none parts.mons.requests parts.mons.monitors lawful.nine.locks.2)

-- an owner that there isn't
pub lock-none : (o : Option Lock) → option_map (λ (lock : Lock). lock.owner) o ≡ None → o ≡ None
lock-none None e = refl
lock-none (Some lock) e = absurd (cc)

pub lock-some : (o : Option Lock) (b : Bool) (p : Option ℕ) → p ≡ option_map (λ (lock : Lock). lock.owner) o → is_some p ≡ b → is_some o ≡ b
lock-some o b p e is = by_lock o (ap is_some (sym e) ∙ is)
  where
    by_lock : (o : Option Lock) → is_some (option_map (λ (lock : Lock). lock.owner) o) ≡ b → is_some o ≡ b
    by_lock None h = h
    by_lock (Some lock) h = h

pub lock-gone : (o : Option Lock) → is_some o ≡ false → o ≡ None
lock-gone None e = refl
lock-gone (Some lock) e = absurd (cc)

-- one that needn't wait is in as deep as the monitor's owner
pub deepest-is : (s : State) (t m : ℕ) → is_owned_by_other s.locks t m ≡ false → (is_deepest s t m).0 ≡ nat_le 65535 (depth_in s.locks m)
deepest-is s t m own = by_lock (lock_of s.locks m) own
  where
    own_lock : (b d : Bool) → not b ≡ false → (b && d) ≡ d
    own_lock true d e = refl
    own_lock false d e = absurd (cc)

    by_lock : (o : Option Lock) → passes (λ lock. not (is_owned_by t lock)) o ≡ false
        → passes (λ lock. is_owned_by t lock && nat_le 65535 lock.depth) o ≡ nat_le 65535 (unwrap_or (option_map (λ (lock : Lock). lock.depth) o) 0)
    by_lock None e = refl
    by_lock (Some lock) e = own_lock (is_owned_by t lock) (nat_le 65535 lock.depth) e

-- one that has to wait isn't in
pub deepest-other : (s : State) (t m : ℕ) → is_owned_by_other s.locks t m ≡ true → (is_deepest s t m).0 ≡ false
deepest-other s t m other = by_lock (lock_of s.locks m) other
  where
    other_lock : (b d : Bool) → not b ≡ true → (b && d) ≡ false
    other_lock true d e = absurd (cc)
    other_lock false d e = refl

    by_lock : (o : Option Lock) → passes (λ lock. not (is_owned_by t lock)) o ≡ true → passes (λ lock. is_owned_by t lock && nat_le 65535 lock.depth) o ≡ false
    by_lock None e = refl
    by_lock (Some lock) e = other_lock (is_owned_by t lock) (nat_le 65535 lock.depth) e

-- the calls, by what they ask first

module _ (s : State) (t m : ℕ) where
  pub enter-absent : member m s.monitors ≡ false → enter s t m ≡ refusal_case s error.NonExist
  unfolding unless
  enter-absent none = rw none refl

  pub enter-own : member m s.monitors ≡ true → is_owned_by_other s.locks t m ≡ false → enter s t m ≡ unless s (is_deepest s t m ∷ []) (enter_case s t m)
  unfolding unless
  enter-own live own = rw (live, own) refl

  pub enter-other : member m s.monitors ≡ true → is_owned_by_other s.locks t m ≡ true → enter s t m ≡ silent_case (still (after_request s t m))
  unfolding unless
  enter-other live other = rw (live, deepest-other s t m other, other) refl

  pub cond-absent : member m s.monitors ≡ false → cond_enter s t m ≡ refusal_case s error.NonExist
  unfolding unless
  cond-absent none = rw none refl

  pub cond-other : member m s.monitors ≡ true → is_owned_by_other s.locks t m ≡ true → cond_enter s t m ≡ refusal_case s error.InUse
  unfolding unless
  cond-other live other = rw (live, other) refl

  pub cond-own : member m s.monitors ≡ true → is_owned_by_other s.locks t m ≡ false → cond_enter s t m ≡ unless s (is_deepest s t m ∷ []) (enter_case s t m)
  unfolding unless
  cond-own live own = rw (live, own) refl

  pub in-deep : (is_deepest s t m).0 ≡ true → unless s (is_deepest s t m ∷ []) (enter_case s t m) ≡ refusal_case s error.NoRoom
  unfolding unless
  in-deep deep = rw deep refl

  pub in-once : (is_deepest s t m).0 ≡ false → unless s (is_deepest s t m ∷ []) (enter_case s t m) ≡ enter_case s t m
  unfolding unless
  in-once fits = rw fits refl

module _ (s : State) (m : ℕ) where
  pub destroy-absent : member m s.monitors ≡ false → monitor_destroy s m ≡ refusal_case s error.NonExist
  unfolding unless
  destroy-absent none = rw none refl

  pub destroy-held : member m s.monitors ≡ true → is_some (lock_of s.locks m) ≡ true → monitor_destroy s m ≡ refusal_case s error.InUse
  unfolding unless
  destroy-held live held = rw (live, held) refl

  pub destroy-waited : member m s.monitors ≡ true → is_some (lock_of s.locks m) ≡ false → has_waits s m ≡ true
      → monitor_destroy s m ≡ refusal_case s error.InUse
  unfolding unless
  destroy-waited live free waits = rw (live, free, waits) refl

  pub destroy-idle : member m s.monitors ≡ true → is_some (lock_of s.locks m) ≡ false → has_waits s m ≡ false
      → monitor_destroy s m ≡ value_case (after_monitor_destroy s m) 0
  unfolding unless
  destroy-idle live free none = rw (live, free, none) refl
