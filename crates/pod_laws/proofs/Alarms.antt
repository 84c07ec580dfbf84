-- A tick answers each thread whose timer is due, once.
use Rattle.lwp_types.specs.CountLaws.{count-cons, one}
use Rattle.lwp_types.specs.State.{State, ThreadRow, and_then, row_with_block, for_each, is_number, passes, times_in, with_block}
use Rattle.lwp_types.specs.Time.{after_tick, due_threads, is_asleep_in, is_due, is_sleeping, time_out}
use Rattle.lwp_types.specs.Unblock.{after_unblock, timeout_answer, zero_answer}
use Rattle.lwp_types.specs.declared.rows.Block.{Block}
use Rattle.lwp_types.specs.declared.rows.TimerRow.{TimerRow}
use Rattle.lwp_types.specs.declared.call.Effect.TheVariants as effect
use Rattle.lwp_types.specs.declared.rows.Block.TheVariants as block
use Rattle.pod_laws.proofs.Drains.{drains, keys_times}
use Rattle.pod_laws.proofs.Ticks.{Before, time_out_first, timers_once}
use Rattle.pod_laws.specs.Timers.{TicksAnswerTheDue, due_answer}
use Rattle.std.proofs.Common.{Bool, List, None, Some, [], ap, arith, cond, eqb, false, map, refl, sym, true, ℕ, ◌+◌, ◌∙◌, ◌∷◌, ◌≡◌, ◌≢◌, ◌≤◌}
use Rattle.std.proofs.lemmas.Bool.{eq-eqb, eqb-true, ne_eqb}
use Rattle.std.specs.List.{find}

-- another thread's row is as it was
row_kept : (t u : ℕ) → u ≢ t → (b : Block) (rows : List ThreadRow) → find (is_number u) (with_block t b rows) ≡ find (is_number u) rows
row_kept t u away b [] = refl
row_kept t u away b (row ∷ rows) = by_test (is_number u row) refl (row_kept t u away b rows)
  where
    by_test : (c : Bool) → is_number u row ≡ c → find (is_number u) (with_block t b rows) ≡ find (is_number u) rows
        → cond c (Some (row_with_block t b row)) (find (is_number u) (with_block t b rows)) ≡ cond c (Some row) (find (is_number u) rows)
    by_test true e rest = rw (ne_eqb row.number t (λ same. away (sym (eqb-true row.number u e) ∙ same))) refl
    by_test false e rest = rest

module _ (start : State) where
  -- midway in a tick, each thread whose timer is still due waits as it did before
  record Midway (s : State) : Type 0 where
    before : Before start.now s
    waits : (t : ℕ) → 1 ≤ times_in (due_threads s) t → is_asleep_in s t ≡ is_asleep_in start t

  midway_first : (t : ℕ) (ts : List ℕ) (s : State) → Midway s → due_threads s ≡ t ∷ ts → Midway (time_out t s).after × (due_threads (time_out t s).after ≡ ts)
  midway_first t ts s was listed =
      let next = time_out_first start.now t ts s was.before listed in
      (record { before = next.0; waits = λ u some. kept u (omega (arith, some, ap (λ ks. times_in ks u) next.1)) }, next.1)
    where
      kept : (u : ℕ) → 1 ≤ times_in ts u → is_asleep_in (after_unblock s t) u ≡ is_asleep_in start u
      kept u some =
          ap (passes (λ (row : ThreadRow). is_sleeping row.block)) (row_kept t u away block.Not s.threads)
          ∙ was.waits u (omega (arith, some, ap (λ ks. times_in ks u) listed, count-cons (λ k. eqb k u) t ts))
        where
          away : u ≢ t
          away same = absurd (omega (
            arith,
            some,
            ap (λ k. times_in ts k) same,
            ap (λ ks. times_in ks t) listed,
            count-cons (λ k. eqb k t) t ts,
            ap one (eq-eqb t t refl),
            keys_times (λ (row : TimerRow). row.tid) (is_due s.now) t s.timers,
            timers_once (record s { now = start.now }) None was.before.nine t,
          ))

  all_told : (ts : List ℕ) (s : State) → Midway s → due_threads s ≡ ts → (for_each time_out ts s).effects ≡ map (due_answer start) ts
  unfolding for_each and_then
  all_told [] s was listed = refl
  all_told (t ∷ ts) s was listed =
      let next = midway_first t ts s was listed in
      let same = was.waits t (omega (arith, ap (λ ks. times_in ks t) listed, count-cons (λ k. eqb k t) t ts, ap one (eq-eqb t t refl))) in
      ap (λ b. effect.Answered t (cond b zero_answer timeout_answer) ∷ (for_each time_out ts (time_out t s).after).effects) same
      ∙ ap (λ es. due_answer start t ∷ es) (all_told ts (time_out t s).after next.0 next.1)

pub ticks_answer_the_due : TicksAnswerTheDue
unfolding and_then
ticks_answer_the_due s was = record {
  told = ap (λ es. effect.Ticked (s.now + 1) ∷ es)
      (all_told s (due_threads (after_tick s)) (after_tick s) (record { before = record { nine = was.nine }; waits = λ t some. refl }) refl);
  once = λ t. omega (arith, keys_times (λ (row : TimerRow). row.tid) (is_due (s.now + 1)) t s.timers, timers_once s None was.nine t);
  gone = (drains (Before s.now) due_threads time_out (time_out_first s.now) (due_threads (after_tick s)) (after_tick s) (record { nine = was.nine }) refl).1;
}
