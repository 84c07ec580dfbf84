-- The timers, where the block of one thread changes: they stay, its own goes, or it gets one.
use Rattle.lwp_types.specs.CountLaws.{count-filter, count-push, count_agree, count_found_and, count_never, one}
use Rattle.lwp_types.specs.Counts.{is_ahead, is_timed, timers_of}
use Rattle.lwp_types.specs.Lawful.{NineParts}
use Rattle.lwp_types.specs.State.{State, ThreadRow, is_not_blocked, is_number, thread_of}
use Rattle.lwp_types.specs.Time.{is_sleeping}
use Rattle.lwp_types.specs.Unblock.{is_timer_of, timer_for, without_timer}
use Rattle.lwp_types.specs.declared.rows.Block.{Block}
use Rattle.lwp_types.specs.declared.rows.TimerRow.{TimerRow}
use Rattle.lwp_types.specs.declared.rows.Block.TheVariants as block
use Rattle.pod_laws.proofs.Elements.{all_filter, all_push}
use Rattle.pod_laws.proofs.Rowed.{TimedParts, once_threads}
use Rattle.std.proofs.Common.{Bool, List, Option, Some, [], ap, arith, eqb, false, inl, inr, not, refl, sym, true, ℕ, ◌&&◌, ◌++◌, ◌+◌, ◌∙◌, ◌∷◌, ◌≡◌, ◌≢◌, ◌≤◌}
use Rattle.std.proofs.lemmas.Bool.{cases_eq, eq-eqb, lt-ltb, ne_eqb}

-- who waits for nothing has no timer
pub free_untimed : (b : Block) → is_not_blocked b ≡ true → is_timed b ≡ false
free_untimed block.Not e = refl
free_untimed (block.Joining u) e = absurd (cc)
free_untimed block.Sending e = absurd (cc)
free_untimed (block.Receiving from) e = absurd (cc)
free_untimed (block.Entering m) e = absurd (cc)
free_untimed (block.Waiting c) e = absurd (cc)
free_untimed block.Sleeping e = absurd (cc)

-- nor does who doesn't sleep need one
pub untimed_wakes : (b : Block) → is_timed b ≡ false → is_sleeping b ≡ false
untimed_wakes block.Not e = refl
untimed_wakes (block.Joining u) e = refl
untimed_wakes block.Sending e = refl
untimed_wakes (block.Receiving from) e = refl
untimed_wakes (block.Entering m) e = refl
untimed_wakes (block.Waiting c) e = refl
untimed_wakes block.Sleeping e = absurd (cc)

pub free_wakes : (b : Block) → is_not_blocked b ≡ true → is_sleeping b ≡ false
free_wakes b e = untimed_wakes b (free_untimed b e)

-- the timers of u are gone, and those of others stay
pub dropped_own : (u : ℕ) (rows : List TimerRow) → timers_of (without_timer u rows) u ≡ 0
dropped_own u rows = count-filter (is_timer_of u) (λ row. not (is_timer_of u row)) rows
    ∙ count_never (λ row. not (is_timer_of u row) && is_timer_of u row) (λ row. apart (is_timer_of u row)) rows
  where
    apart : (b : Bool) → (not b && b) ≡ false
    apart true = refl
    apart false = refl

pub dropped_others : (u t : ℕ) → u ≢ t → (rows : List TimerRow) → timers_of (without_timer u rows) t ≡ timers_of rows t
dropped_others u t away rows = count-filter (is_timer_of t) (λ row. not (is_timer_of u row)) rows
    ∙ count_agree (λ row. not (is_timer_of u row) && is_timer_of t row) (is_timer_of t) others rows
  where
    others : (row : TimerRow) → (not (is_timer_of u row) && is_timer_of t row) ≡ is_timer_of t row
    others row = elim (cases_eq row.tid u) [
      | inl e ↦ rw (eq-eqb row.tid u e, ne_eqb row.tid t (λ f. away (sym e ∙ f))) refl
      | inr far ↦ rw (ne_eqb row.tid u far) refl
    ]

module _ (s : State) (d : Option ℕ) (was : NineParts s d) (u : ℕ) (x : ThreadRow) (known : thread_of s u ≡ Some x) where
  most_known : timers_of s.timers u ≤ one (is_timed x.block)
  most_known = omega (arith, was.blocks.4.0 u, count_found_and (is_number u) (λ row. is_timed row.block) s.threads x known (once_threads s d was u))

  least_known : one (is_sleeping x.block) ≤ timers_of s.timers u
  least_known = omega (arith, was.blocks.4.1 u, count_found_and (is_number u) (λ row. is_sleeping row.block) s.threads x known (once_threads s d was u))

  module _ (b : Block) where
    -- its block stays
    pub timers_still : b ≡ x.block → TimedParts s u b s.timers
    timers_still same = record {
      others = λ t away. refl;
      most = omega (arith, most_known, ap (λ c. one (is_timed c)) same);
      least = omega (arith, least_known, ap (λ c. one (is_sleeping c)) same);
      ahead = was.blocks.4.2;
    }

    -- it had no timer, and needs none
    pub timers_apart : is_timed x.block ≡ false → is_sleeping b ≡ false → TimedParts s u b s.timers
    timers_apart none wakes = record {
      others = λ t away. refl;
      most = omega (arith, most_known, ap one none);
      least = omega (arith, ap one wakes);
      ahead = was.blocks.4.2;
    }

    -- its timer goes
    pub timers_dropped : is_sleeping b ≡ false → TimedParts s u b (without_timer u s.timers)
    timers_dropped wakes = record {
      others = λ t away. dropped_others u t away s.timers;
      most = omega (arith, dropped_own u s.timers);
      least = omega (arith, ap one wakes);
      ahead = all_filter (is_ahead s.now) (is_ahead s.now) (λ row. not (is_timer_of u row)) (λ row kept h. h) s.timers was.blocks.4.2;
    }

    -- it had none, and gets one
    pub timers_set : is_timed x.block ≡ false → is_timed b ≡ true → (ticks : ℕ) → 1 ≤ ticks → TimedParts s u b (s.timers ++ timer_for s u ticks ∷ [])
    timers_set none timed ticks some = record {
      others = λ t away. omega (arith, count-push (is_timer_of t) s.timers (timer_for s u ticks), ap one (ne_eqb u t away));
      most = omega (arith, count-push (is_timer_of u) s.timers (timer_for s u ticks), most_known, ap one none, ap one timed, one-le (eqb u u));
      least = omega (arith, count-push (is_timer_of u) s.timers (timer_for s u ticks), ap one (eq-eqb u u refl), one-le (is_sleeping b));
      ahead = all_push (is_ahead s.now) s.timers (timer_for s u ticks) was.blocks.4.2 (lt-ltb s.now (s.now + ticks) (omega (arith, some)));
    }
      where
        one-le : (b : Bool) → one b ≤ 1
        one-le true = omega arith
        one-le false = omega arith
