-- A thread begins to wait.
use Rattle.death_cleanup.proofs.Looks.{rows-block, waits}
use Rattle.death_cleanup.specs.Moves.{pair_with_block}
use Rattle.death_cleanup.specs.Named.{IsNoteOf, NameNote}
use Rattle.death_cleanup.specs.Ties.{InStep}
use Rattle.death_cleanup.specs.View.{state_of}
use Rattle.death_cleanup.specs.declared.parts.Parts.{Parts}
use Rattle.lwp_calls.proofs.Agree.{known-same}
use Rattle.lwp_calls.proofs.Changes as change
use Rattle.lwp_types.specs.Choice.{is_eligible, is_eligible_in}
use Rattle.lwp_types.specs.Lawful.{is_same_option}
use Rattle.lwp_types.specs.ListLaws.{All-weaker}
use Rattle.lwp_types.specs.State as machine
use Rattle.lwp_types.specs.State.{ThreadRow, is_not_blocked, is_number, is_thread, passes, priority_in, thread_of}
use Rattle.lwp_types.specs.Unblock as machine_unblock
use Rattle.lwp_types.specs.declared.rows.Block.{Block}
use Rattle.monitors.specs.declared.requests.EntryRequest.{EntryRequest}
use Rattle.conditions.specs.declared.waits.WaitRec.{WaitRec}
use Rattle.pod_sched.specs.Schedule as sched
use Rattle.pod_sched.specs.declared.rows.Known.{Known}
use Rattle.std.proofs.Common.{Bool, List, None, Option, Some, [], ap, arith, cond, eqb, false, length, map, not, refl, sym, true, ℕ, ◌&&◌, ◌∙◌, ◌∷◌, ◌≡◌}
use Rattle.std.specs.List.{find}
use Rattle.std.specs.Prelude.{is_some, option_map}

-- who may run is there
pub lives : (s : machine.State) (t : ℕ) → is_eligible_in s t ≡ true → is_thread s t ≡ true
lives s t h = by_found (thread_of s t) h
  where
    by_found : (o : Option ThreadRow) → passes is_eligible o ≡ true → is_some o ≡ true
    by_found None h = absurd (let no : false ≡ true = h in cc)
    by_found (Some row) h = refl

-- its row
pub record Running (s : machine.State) (t : ℕ) : Type 0 where
  pub row : ThreadRow
  pub known : thread_of s t ≡ Some row
  pub runs : is_eligible row ≡ true

pub running : (s : machine.State) (t : ℕ) → is_eligible_in s t ≡ true → Running s t
running s t h = by_found (thread_of s t) refl h
  where
    by_found : (o : Option ThreadRow) → thread_of s t ≡ o → passes is_eligible o ≡ true → Running s t
    by_found None e h = absurd (let no : false ≡ true = h in cc)
    by_found (Some row) e h = record { row = row; known = e; runs = h }

pub as_many : (t : ℕ) (why : Block) (rs : List ThreadRow) → length (machine.with_block t why rs) ≡ length rs
as_many t why [] = refl
as_many t why (row ∷ rs) = omega (arith, as_many t why rs)

-- the parts once thread t waits
abbrev pub waiting : Parts → ℕ → Block → Parts
waiting parts t why = record parts {
  ids = record parts.ids { live = map (pair_with_block t why) parts.ids.live };
  sched = sched.after_block parts.sched t;
}

module _ (parts : Parts) (t : ℕ) (why : Block) where
  abbrev rows : List ThreadRow
  rows = (state_of parts).threads

  same : (state_of (waiting parts t why)).threads ≡ machine.with_block t why rows
  same = rows-block parts.last_prio t why true parts.sched.threads parts.ids.live

  pub waiting-is : state_of (waiting parts t why) ≡ machine_unblock.after_block (state_of parts) t why
  waiting-is = rw same refl

  abbrev f : Bool → Known → Known
  f c k = record k { blocked = cond c true k.blocked }

  abbrev h : Bool → ThreadRow → ThreadRow
  h c row = record row { block = cond c why row.block }

  module _ (step : InStep parts) (alone : parts.dying ≡ None) (waits_for : is_not_blocked why ≡ false) where
    -- the one who waits now is known as such, and of the others nothing has changed
    waits-same : (u : ℕ) (k : Option Known) (o : Option ThreadRow) → is_some k ≡ is_some o → passes (λ (r : Known). r.blocked) k ≡ passes waits o
        → passes (λ (r : Known). r.blocked) (option_map (f (eqb u t)) k) ≡ passes waits (option_map (h (eqb u t)) o)
    waits-same u None None is as_before = refl
    waits-same u (Some k) (Some row) is as_before = by_test (eqb u t)
      where
        by_test : (c : Bool) → cond c true k.blocked ≡ not (is_not_blocked (cond c why row.block))
        by_test true = sym (ap not waits_for)
        by_test false = as_before
    waits-same u None (Some row) is as_before = absurd (cc)
    waits-same u (Some k) None is as_before = absurd (cc)

    priority-kept : (u : ℕ) → priority_in (state_of (waiting parts t why)) u ≡ priority_in (state_of parts) u
    priority-kept u = ap (λ rs. change.priority_of parts t f h (λ c k. refl) (λ c row. refl) (find (is_number u) rs)) same
        ∙ change.priority-changed parts t f h (λ c k. refl) (λ c row. refl) (λ c row. refl) u

    -- a thread that waits by name then is in this note
    pub InStep-waiting : (named : NameNote) → IsNoteOf named (map (pair_with_block t why) parts.ids.live)
        → InStep (record (waiting parts t why) { named = named })
    InStep-waiting named noted =
        let count : length (state_of (waiting parts t why)).threads ≡ length rows = ap length same ∙ as_many t why rows in
        record {
          tied = record {
            known = λ u. change.knows-changed parts t f h (λ c k. refl) (λ c row. refl) u ∙ step.tied.known u
                ∙ ap (λ b. b && not (is_same_option parts.dying u))
                (sym (ap (λ rs. is_some (find (is_number u) rs)) same ∙ change.thread-changed parts t f h (λ c k. refl) (λ c row. refl) u));
            waits = λ u. ap (passes (λ (r : Known). r.blocked)) (change.find-known t f (λ c k. refl) u parts.sched.threads)
                ∙ waits-same u (find (sched.is_of u) parts.sched.threads) (thread_of (state_of parts) u)
                (known-same parts step.tied alone u) (step.tied.waits u)
                ∙ sym (ap (λ rs. passes waits (find (is_number u) rs)) same ∙ ap (passes waits) (change.find-row t h (λ c row. refl) u rows));
          };
          ranked = record {
            requests = All-weaker (λ (r : EntryRequest). r.prio ≡ priority_in (state_of parts) r.tid)
                (λ r. r.prio ≡ priority_in (state_of (waiting parts t why)) r.tid) (λ r e. e ∙ sym (priority-kept r.tid))
                parts.mons.requests step.ranked.requests;
            waits = All-weaker (λ (w : WaitRec). w.prio ≡ priority_in (state_of parts) w.tid)
                (λ w. w.prio ≡ priority_in (state_of (waiting parts t why)) w.tid) (λ w e. e ∙ sym (priority-kept w.tid)) parts.conds.waits step.ranked.waits;
          };
          roomy = record {
            letters = omega (arith, count, step.roomy.letters);
            threads = omega (arith, count, step.roomy.threads);
            requests = omega (arith, count, step.roomy.requests);
            waits = omega (arith, count, step.roomy.waits);
          };
          monitors = step.monitors;
          conditions = step.conditions;
          noted = noted;
        }
