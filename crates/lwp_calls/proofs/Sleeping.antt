-- A thread that waits has a timer from now on.
use Rattle.death_cleanup.proofs.Looks.{find-row}
use Rattle.death_cleanup.specs.Comes.{CameTo}
use Rattle.death_cleanup.specs.Ties.{InStep}
use Rattle.death_cleanup.specs.View.{state_of}
use Rattle.death_cleanup.specs.declared.parts.Parts.{Parts}
use Rattle.lwp_types.specs.CountLaws.{count_any, count_found_and, one}
use Rattle.lwp_types.specs.Counts.{is_timed}
use Rattle.lwp_types.specs.Lawful.{NineParts}
use Rattle.lwp_types.specs.State.{State, ThreadRow, row_with_block, is_blocked_in, is_not_blocked, is_number, passes, still, thread_of}
use Rattle.lwp_types.specs.Unblock.{after_block, after_block_for, is_timer_of}
use Rattle.lwp_types.specs.declared.rows.Block.{Block}
use Rattle.pod_laws.proofs.Rowed.{once_threads}
use Rattle.pod_laws.proofs.Rows.{number_known}
use Rattle.pod_laws.proofs.Timers.{free_untimed}
use Rattle.pod_sched.specs.Schedule as sched
use Rattle.std.proofs.Common.{Bool, cond, None, Some, [], ap, arith, false, not, refl, true, ℕ, ◌++◌, ◌+◌, ◌∙◌, ◌∷◌, ◌≡◌}
use Rattle.std.proofs.lemmas.Bool.{eq-eqb}
use Rattle.std.specs.List.{list_any}
use Rattle.std.specs.Prelude.{option_map}

-- a timer changes nothing that the parts agree on
InStep-timed : (parts : Parts) (t due : ℕ) → InStep parts → InStep (record parts { sched = sched.after_set_timer parts.sched t due })
InStep-timed parts t due step = record {
  tied = record { known = step.tied.known; waits = step.tied.waits };
  ranked = record { requests = step.ranked.requests; waits = step.ranked.waits };
  roomy = record { letters = step.roomy.letters; threads = step.roomy.threads; requests = step.roomy.requests; waits = step.roomy.waits };
  monitors = step.monitors;
  conditions = step.conditions;
  noted = step.noted;
}

module _ (s : State) (t : ℕ) (row : ThreadRow) (known : thread_of s t ≡ Some row) where
  -- who has just begun to wait waits
  pub blocked_now : (why : Block) → is_not_blocked why ≡ false → is_blocked_in (after_block s t why) t ≡ true
  blocked_now why waits =
      ap (passes (λ (r : ThreadRow). not (is_not_blocked r.block))) (find-row t t why s.threads ∙ ap (option_map (row_with_block t why)) known)
      ∙ here (is_number t row) (eq-eqb row.number t (number_known s.threads t row known))
    where
      here : (b : Bool) → b ≡ true → not (is_not_blocked (cond b why row.block)) ≡ true
      here true e = ap not waits
      here false e = absurd (cc)

  -- and had no timer before
  pub untimed : NineParts s None → is_not_blocked row.block ≡ true → list_any (is_timer_of t) s.timers ≡ false
  untimed was free = by_test (list_any (is_timer_of t) s.timers) refl
    where
      by_test : (b : Bool) → list_any (is_timer_of t) s.timers ≡ b → b ≡ false
      by_test true e = absurd (omega (
        arith,
        count_any (is_timer_of t) s.timers e,
        was.blocks.4.0 t,
        count_found_and (is_number t) (λ row. is_timed row.block) s.threads row known (once_threads s None was t),
        ap one (free_untimed row.block free),
      ))
      by_test false e = refl

-- the timer is set, and the thread waits for no more than so many ticks
module _ (old mid new : Parts) (t : ℕ) (why : Block) (ticks due : ℕ) (came : CameTo old mid [] [] (still (after_block (state_of old) t why))) where
  pub came_timed : new ≡ record mid { sched = sched.after_set_timer mid.sched t due } → due ≡ (state_of old).now + ticks
      → CameTo old new [] [] (still (after_block_for (state_of old) t why ticks))
  came_timed is later = rw is (record {
    state = ap (λ (s : State). record s { timers = s.timers ++ record { tid = t; due = due } ∷ [] }) came.state
        ∙ ap (λ n. record (after_block (state_of old) t why) { timers = (state_of old).timers ++ record { tid = t; due = n } ∷ [] }) later;
    effects = refl;
    step = InStep-timed mid t due came.step;
    dying = came.dying;
  })
