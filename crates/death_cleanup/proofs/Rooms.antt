-- No more waits go on than threads live.
use Rattle.death_cleanup.proofs.Crowds.{Stand, fits, once}
use Rattle.death_cleanup.proofs.Looks.{row_under, rows-under}
use Rattle.death_cleanup.proofs.Notes.{named-by, threads-rows}
use Rattle.death_cleanup.specs.Named.{AreOrdered, IsBefore, block_name, is_on, is_wait, run_number, run_of, threads_in}
use Rattle.death_cleanup.specs.View.{rows_of}
use Rattle.death_cleanup.specs.Waits.{waits_for}
use Rattle.death_cleanup.specs.declared.rows.Awaited.{Awaited}
use Rattle.death_cleanup.specs.declared.rows.Kind.{Kind}
use Rattle.death_cleanup.specs.declared.rows.Kind.TheVariants as kind
use Rattle.death_cleanup.specs.declared.rows.NamedWait.{NamedWait}
use Rattle.lwp_types.specs.CountLaws.{count-cons, one}
use Rattle.lwp_types.specs.State.{ThreadRow, is_number, passes}
use Rattle.lwp_types.specs.declared.rows.Block.{Block}
use Rattle.stale_ids.specs.Register.{AreRising, value_of}
use Rattle.std.proofs.Common.{Bool, List, None, Option, Some, [], ap, arith, cond, count_by, eqb}
use Rattle.std.proofs.Common.{false, length, refl, sym, true, ℕ, ◌&&◌, ◌<◌, ◌∙◌, ◌∷◌, ◌≡◌, ◌≤◌}
use Rattle.std.proofs.lemmas.Bool.{and_parts, eq-eqb, eqb-true}
use Rattle.std.proofs.lemmas.List.Sums.{count_by-le-length}
use Rattle.std.specs.List.{AllByRecursion, filter, find, list_all}
use Rattle.std.specs.Prelude.{is_some, option_map, unwrap_or}

-- a thread waits by name, and in the run of this number
abbrev by_name : Block → Bool
by_name b = is_some (block_name b)

abbrev run_in : Block → ℕ
run_in b = unwrap_or (option_map (λ (name : Awaited × ℕ). run_number name.0 name.1) (block_name b)) 0

abbrev waits_in : ℕ → ThreadRow → Bool
waits_in r row = by_name row.block && eqb (run_in row.block) r

-- the wait of thread n in a run is noted once at most
none-later : (r n : ℕ) (w : NamedWait) (ws : List NamedWait) → is_wait r n w ≡ true → AllByRecursion (IsBefore w) ws → count_by (is_wait r n) ws ≡ 0
none-later r n w [] is all = refl
none-later r n w (v ∷ ws) is all = omega (arith, count-cons (is_wait r n) v ws, by_test (is_wait r n v) refl, none-later r n w ws is all.1)
  where
    by_test : (c : Bool) → is_wait r n v ≡ c → one (is_wait r n v) ≡ 0
    by_test false e = ap one e
    by_test true e =
        let own = and_parts (eqb w.tid n) (eqb (run_of w) r) is in
        let other = and_parts (eqb v.tid n) (eqb (run_of v) r) e in
        let tid : w.tid ≡ n = eqb-true w.tid n own.0 in
        let other-tid : v.tid ≡ n = eqb-true v.tid n other.0 in
        let same : run_of w ≡ run_of v = eqb-true (run_of w) r own.1 ∙ sym (eqb-true (run_of v) r other.1) in
        let less : w.tid < v.tid = all.0.tid same in
        absurd (omega (arith, less, tid, other-tid))

all-on : (p : NamedWait → Bool) (ws : List NamedWait) → list_all p (filter p ws) ≡ true
all-on p [] = refl
all-on p (w ∷ ws) = by_test (p w) refl (all-on p ws)
  where
    by_test : (c : Bool) → p w ≡ c → list_all p (filter p ws) ≡ true → list_all p (cond c (w ∷ filter p ws) (filter p ws)) ≡ true
    by_test true e rest = rw (e, rest) refl
    by_test false e rest = rest

module _ (living : List (ℕ × Kind)) (rising : AreRising living) where
  abbrev rows : List ThreadRow
  rows = rows_of 0 [] living

  -- whose wait goes on waits in its run
  on-row : (w : NamedWait) → is_on living w ≡ true → passes (waits_in (run_of w)) (find (is_number w.tid) rows) ≡ true
  on-row w on = ap (passes (waits_in (run_of w))) (rows-under 0 [] w.tid living rising) ∙ by_value (value_of w.tid living) on
    where
      by_value : (o : Option Kind) → passes (waits_for w.what w.of) o ≡ true → passes (waits_in (run_of w)) (row_under 0 [] w.tid o) ≡ true
      by_value None h = absurd (let no : false ≡ true = h in cc)
      by_value (Some kind.Agent) h = absurd (let no : false ≡ true = h in cc)
      by_value (Some (kind.Thread rec)) h =
          let named : block_name rec.block ≡ Some (w.what, w.of) = named-by w.what w.of (kind.Thread rec) h in
          rw named (eq-eqb (run_of w) (run_of w) refl)

  at-most : (ws : List NamedWait) → AreOrdered ws → list_all (is_on living) ws ≡ true → (n r : ℕ)
      → count_by (is_wait r n) ws ≤ one (passes (waits_in r) (find (is_number n) rows))
  at-most [] ordered all n r = omega arith
  at-most (w ∷ ws) ordered all n r = by_test (is_wait r n w) refl (at-most ws ordered.1 parts.1 n r)
    where
      parts : (is_on living w ≡ true) × (list_all (is_on living) ws ≡ true)
      parts = and_parts (is_on living w) (list_all (is_on living) ws) all

      by_test : (c : Bool) → is_wait r n w ≡ c → count_by (is_wait r n) ws ≤ one (passes (waits_in r) (find (is_number n) rows))
          → count_by (is_wait r n) (w ∷ ws) ≤ one (passes (waits_in r) (find (is_number n) rows))
      by_test false e rest = omega (arith, count-cons (is_wait r n) w ws, ap one e, rest)
      by_test true e rest =
          let both = and_parts (eqb w.tid n) (eqb (run_of w) r) e in
          let here : passes (waits_in r) (find (is_number n) rows)
          ≡ true = (rw (eqb-true w.tid n both.0, eqb-true (run_of w) r both.1) at (on-row w parts.0)) in
          omega (arith, count-cons (is_wait r n) w ws, ap one e, none-later r n w ws e ordered.0, ap one here)

  -- what is left of a note, once those that wait no longer are gone
  pub pruned-fits : (ws : List NamedWait) → AreOrdered (filter (is_on living) ws) → length (filter (is_on living) ws) ≤ threads_in living
  pruned-fits ws ordered =
      let left : List NamedWait = filter (is_on living) ws in
      let stand : Stand (λ (w : NamedWait). w.tid) run_of by_name run_in rows left =
      record { here = λ n r. at-most left ordered (all-on (is_on living) ws) n r } in
      omega (
        arith,
        fits (λ (w : NamedWait). w.tid) run_of by_name run_in rows left (once (λ (w : NamedWait). w.tid) run_of by_name run_in rows left stand),
        count_by-le-length (λ (row : ThreadRow). by_name row.block) rows,
        threads-rows 0 [] living,
      )
