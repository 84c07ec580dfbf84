-- The birth of a thread, and of an agent.
use Rattle.death_cleanup.proofs.Notes.{noted-born, threads-rows}
use Rattle.conditions.specs.ConditionTable as cv
use Rattle.conditions.specs.declared.waits.WaitRec.{WaitRec}
use Rattle.death_cleanup.proofs.Looks.{waits}
use Rattle.death_cleanup.specs.Comes.{CameTo}
use Rattle.death_cleanup.specs.Ties.{InStep, LawfulParts}
use Rattle.death_cleanup.specs.View.{known_of, row_of, row_onto, rows_of, state_of}
use Rattle.death_cleanup.specs.declared.parts.Parts.{Parts}
use Rattle.death_cleanup.specs.declared.rows.Kind.{Kind}
use Rattle.death_cleanup.specs.declared.rows.Kind.TheVariants as kind
use Rattle.death_cleanup.specs.declared.rows.ThreadRec.{ThreadRec}
use Rattle.exc_stack.specs.Stack.{one_frame}
use Rattle.lwp_calls.proofs.Agree.{known-same}
use Rattle.lwp_calls.proofs.Places.{nine}
use Rattle.lwp_calls.specs.Asks.{HasPlaces}
use Rattle.lwp_types.specs.CountLaws.{count-cons, one}
use Rattle.lwp_types.specs.Lawful.{is_same_option}
use Rattle.lwp_types.specs.State.{ThreadRow, is_id, is_number, is_thread, passes, priority_in, still}
use Rattle.lwp_types.specs.Threads.{after_create, new_thread}
use Rattle.lwp_types.specs.declared.call.Flags.{Flags}
use Rattle.lwp_types.specs.declared.rows.Block.TheVariants as block
use Rattle.monitors.specs.MonitorTable as mon
use Rattle.monitors.specs.declared.requests.EntryRequest.{EntryRequest}
use Rattle.pod_laws.proofs.Births.{agent_unborn, thread_unborn}
use Rattle.pod_laws.proofs.Elements.{find_push_new, find_push_other}
use Rattle.pod_laws.proofs.Gone.{unnamed}
use Rattle.pod_sched.specs.Schedule as sched
use Rattle.pod_sched.specs.Schedule.{newcomer}
use Rattle.pod_sched.specs.declared.rows.Known.{Known}
use Rattle.stale_ids.specs.Register.{AreBorn, after_insert}
use Rattle.std.proofs.Common.{Bool, List, None, Option, Some, [], ap, arith, cond, count_by, eqb, false, length, length-append}
use Rattle.std.proofs.Common.{map, not, refl, sym, true, ℕ, ◌&&◌, ◌+◌, ◌++◌, ◌<◌, ◌∙◌, ◌∷◌, ◌≡◌, ◌≢◌, ◌||◌}
use Rattle.std.proofs.lemmas.Bool.{eq-eqb, ne_eqb}
use Rattle.std.specs.List.{AllByRecursion, find}
use Rattle.std.specs.Prelude.{is_some, option_map, unwrap_or}

-- one more at the end

some_push : {A : Type 0} (f : A → Bool) (xs : List A) (x : A) → is_some (find f (xs ++ x ∷ [])) ≡ (is_some (find f xs) || f x)
some_push f [] x = by_test (f x)
  where
    by_test : (b : Bool) → is_some (cond b (Some x) None) ≡ (false || b)
    by_test true = refl
    by_test false = refl
some_push f (y ∷ ys) x = by_test (f y) (some_push f ys x)
  where
    by_test : (b : Bool) → is_some (find f (ys ++ x ∷ [])) ≡ (is_some (find f ys) || f x)
        → is_some (cond b (Some y) (find f (ys ++ x ∷ []))) ≡ (is_some (cond b (Some y) (find f ys)) || f x)
    by_test true rest = refl
    by_test false rest = rest

-- where the new one doesn't pass, nothing has changed
passes_push : {A : Type 0} (test f : A → Bool) (xs : List A) (x : A) → test x ≡ false → passes test (find f (xs ++ x ∷ [])) ≡ passes test (find f xs)
passes_push test f [] x fails = by_test (f x)
  where
    by_test : (b : Bool) → passes test (cond b (Some x) None) ≡ false
    by_test true = fails
    by_test false = refl
passes_push test f (y ∷ ys) x fails = by_test (f y) (passes_push test f ys x fails)
  where
    by_test : (b : Bool) → passes test (find f (ys ++ x ∷ [])) ≡ passes test (find f ys)
        → passes test (cond b (Some y) (find f (ys ++ x ∷ []))) ≡ passes test (cond b (Some y) (find f ys))
    by_test true rest = refl
    by_test false rest = rest

-- a list of which none has this key
requests-other : (n : ℕ) (was now : ℕ → ℕ) → ((u : ℕ) → n ≢ u → now u ≡ was u) → (rs : List EntryRequest)
    → count_by (λ r. eqb r.tid n) (map mon.machine_row rs) ≡ 0
    → AllByRecursion (λ (r : EntryRequest). r.prio ≡ was r.tid) rs → AllByRecursion (λ (r : EntryRequest). r.prio ≡ now r.tid) rs
requests-other n was now same [] none all = tt
requests-other n was now same (r ∷ rs) none all = (
  all.0 ∙ sym (same r.tid away),
  requests-other n was now same rs (omega (arith, none, count-cons (λ q. eqb q.tid n) (mon.machine_row r) (map mon.machine_row rs))) all.1,
)
  where
    away : n ≢ r.tid
    away e = absurd (omega (arith, none, count-cons (λ q. eqb q.tid n) (mon.machine_row r) (map mon.machine_row rs), ap one (eq-eqb r.tid n (sym e))))

waits-other : (n : ℕ) (was now : ℕ → ℕ) → ((u : ℕ) → n ≢ u → now u ≡ was u) → (ws : List WaitRec) → count_by (λ w. eqb w.tid n) (map cv.machine_row ws) ≡ 0
    → AllByRecursion (λ (w : WaitRec). w.prio ≡ was w.tid) ws → AllByRecursion (λ (w : WaitRec). w.prio ≡ now w.tid) ws
waits-other n was now same [] none all = tt
waits-other n was now same (w ∷ ws) none all = (
  all.0 ∙ sym (same w.tid away),
  waits-other n was now same ws (omega (arith, none, count-cons (λ q. eqb q.tid n) (cv.machine_row w) (map cv.machine_row ws))) all.1,
)
  where
    away : n ≢ w.tid
    away e = absurd (omega (arith, none, count-cons (λ q. eqb q.tid n) (cv.machine_row w) (map cv.machine_row ws), ap one (eq-eqb w.tid n (sym e))))

module _ (p : ℕ) (known : List Known) (n prio : ℕ) (begins : Bool) (unknown : find (sched.is_of n) known ≡ None) where
  known-push : (u : ℕ) → n ≢ u → known_of p (known ++ newcomer n prio begins ∷ []) u ≡ known_of p known u
  known-push u away = ap (λ o. unwrap_or o (newcomer u p false)) (find_push_other (sched.is_of u) known (newcomer n prio begins) (ne_eqb n u away))

  known-new : known_of p (known ++ newcomer n prio begins ∷ []) n ≡ newcomer n prio begins
  known-new = ap (λ o. unwrap_or o (newcomer n p false)) (find_push_new (sched.is_of n) known (newcomer n prio begins) (eq-eqb n n refl) unknown)

  pub rows-born : (rec : ThreadRec) (living : List (ℕ × Kind)) → AreBorn n living
      → rows_of p (known ++ newcomer n prio begins ∷ []) (living ++ (n, kind.Thread rec) ∷ [])
      ≡ rows_of p known living ++ row_of (newcomer n prio begins) n rec ∷ []
  rows-born rec [] below = ap (λ k. row_of k n rec ∷ []) known-new
  rows-born rec (live ∷ living) below = by_kind live.0 live.1 below.0 (rows-born rec living below.1)
    where
      by_kind : (u : ℕ) (k : Kind) → u < n
          → rows_of p (known ++ newcomer n prio begins ∷ []) (living ++ (n, kind.Thread rec) ∷ [])
          ≡ rows_of p known living ++ row_of (newcomer n prio begins) n rec ∷ []
          → row_onto (known_of p (known ++ newcomer n prio begins ∷ []) u) u k
          (rows_of p (known ++ newcomer n prio begins ∷ []) (living ++ (n, kind.Thread rec) ∷ []))
          ≡ row_onto (known_of p known u) u k (rows_of p known living) ++ row_of (newcomer n prio begins) n rec ∷ []
      by_kind u kind.Agent less rest = rest
      by_kind u (kind.Thread other) less rest = rw (known-push u (λ e. omega (arith, less, e)), rest) refl

-- an agent has no row
pub rows-agent : (p n : ℕ) (known : List Known) (living : List (ℕ × Kind)) → rows_of p known (living ++ (n, kind.Agent) ∷ []) ≡ rows_of p known living
rows-agent p n known [] = refl
rows-agent p n known (live ∷ living) = by_kind live.0 live.1 (rows-agent p n known living)
  where
    by_kind : (u : ℕ) (k : Kind) → rows_of p known (living ++ (n, kind.Agent) ∷ []) ≡ rows_of p known living
        → row_onto (known_of p known u) u k (rows_of p known (living ++ (n, kind.Agent) ∷ [])) ≡ row_onto (known_of p known u) u k (rows_of p known living)
    by_kind u kind.Agent rest = rest
    by_kind u (kind.Thread rec) rest = ap (λ rows. row_of (known_of p known u) u rec ∷ rows) rest

module _ (parts : Parts) (lawful : LawfulParts parts) (alone : parts.dying ≡ None) where
  abbrev n : ℕ
  n = parts.ids.births

  abbrev rows : List ThreadRow
  rows = (state_of parts).threads

  no_row : find (is_number n) rows ≡ None
  no_row = thread_unborn (state_of parts) (nine parts lawful alone)

  -- the next number names nobody
  pub unknown : sched.knows parts.sched n ≡ false
  unknown = known-same parts lawful.step.tied alone n ∙ ap is_some no_row

  unknown-row : find (sched.is_of n) parts.sched.threads ≡ None
  unknown-row = by_found (find (sched.is_of n) parts.sched.threads) unknown
    where
      by_found : (o : Option Known) → is_some o ≡ false → o ≡ None
      by_found None h = refl
      by_found (Some k) h = absurd (cc)

  pub nobody : is_id (state_of parts) n ≡ false
  nobody = rw (ap is_some no_row, ap is_some (agent_unborn (state_of parts) (nine parts lawful alone))) refl

  module _ (prio : ℕ) (flags : Flags) where
    abbrev rec : ThreadRec
    rec = record { flags = flags; block = block.Not; stack = one_frame }

    -- the parts once a thread has begun
    abbrev pub begun : Parts
    begun = record parts { ids = after_insert parts.ids (kind.Thread rec); sched = sched.after_admit parts.sched n prio flags.suspended }

    module _ (below : AreBorn n parts.ids.live) where
      same : (state_of begun).threads ≡ rows ++ new_thread n prio flags ∷ []
      same = rows-born parts.last_prio parts.sched.threads n prio flags.suspended unknown-row rec parts.ids.live below

      pub begun-is : state_of begun ≡ after_create (state_of parts) prio flags
      begun-is = rw same refl

      knows-born : (u : ℕ) → sched.knows begun.sched u ≡ (sched.knows parts.sched u || eqb n u)
      knows-born u = some_push (sched.is_of u) parts.sched.threads (newcomer n prio flags.suspended)

      thread-born : (u : ℕ) → is_thread (state_of begun) u ≡ (is_thread (state_of parts) u || eqb n u)
      thread-born u = ap (λ rs. is_some (find (is_number u) rs)) same ∙ some_push (is_number u) rows (new_thread n prio flags)

      priority-other : (u : ℕ) → n ≢ u → priority_in (state_of begun) u ≡ priority_in (state_of parts) u
      priority-other u away = ap (λ rs. unwrap_or (option_map (λ (row : ThreadRow). row.priority) (find (is_number u) rs)) 0) same
          ∙ ap (λ o. unwrap_or (option_map (λ (row : ThreadRow). row.priority) o) 0)
          (find_push_other (is_number u) rows (new_thread n prio flags) (ne_eqb n u away))

      no_dying : (b : Bool) (u : ℕ) → b ≡ (b && not (is_same_option parts.dying u))
      no_dying b u = rw alone (by_test b)
        where
          by_test : (c : Bool) → c ≡ (c && true)
          by_test true = refl
          by_test false = refl

      module _ (places : HasPlaces parts) where
        longer : length (state_of begun).threads ≡ length rows + 1
        longer = omega (arith, ap length same, length-append rows (new_thread n prio flags ∷ []))

        pub InStep-begun : InStep begun
        InStep-begun = record {
          tied = record {
            known = λ u. knows-born u ∙ ap (λ b. b || eqb n u) (known-same parts lawful.step.tied alone u) ∙ sym (thread-born u)
                ∙ no_dying (is_thread (state_of begun) u) u;
            waits = λ u. passes_push (λ (k : Known). k.blocked) (sched.is_of u) parts.sched.threads (newcomer n prio flags.suspended) refl
                ∙ lawful.step.tied.waits u
                ∙ sym (ap (λ rs. passes waits (find (is_number u) rs)) same ∙ passes_push waits (is_number u) rows (new_thread n prio flags) refl);
          };
          ranked = record {
            requests = requests-other n (priority_in (state_of parts)) (priority_in (state_of begun)) priority-other parts.mons.requests
                (unnamed (state_of parts) (nine parts lawful alone) n nobody).requests lawful.step.ranked.requests;
            waits = waits-other n (priority_in (state_of parts)) (priority_in (state_of begun)) priority-other parts.conds.waits
                (unnamed (state_of parts) (nine parts lawful alone) n nobody).waits lawful.step.ranked.waits;
          };
          roomy = record {
            letters = omega (arith, longer, places.letters);
            threads = omega (arith, longer, places.threads);
            requests = omega (arith, longer, places.requests);
            waits = omega (arith, longer, places.waits);
          };
          monitors = lawful.step.monitors;
          conditions = lawful.step.conditions;
          noted = noted-born parts.named n (kind.Thread rec) refl parts.ids.live lawful.step.noted
              (omega (arith, places.names, threads-rows parts.last_prio parts.sched.threads parts.ids.live));
        }

        pub came_begun : CameTo parts begun [] [] (still (after_create (state_of parts) prio flags))
        came_begun = record { state = begun-is; effects = refl; step = InStep-begun; dying = refl }
