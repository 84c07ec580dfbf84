-- A tick of the parts: one after the other, the threads whose timers are due go on.
use Rattle.death_cleanup.proofs.Costs.{Spends, spends_drain, spends_unblock, sum-most}
use Rattle.death_cleanup.proofs.Draining.{Draining, came_then, done, fewer, first_room, goes_on, starts}
use Rattle.death_cleanup.proofs.Fronts.{Front, found_first, found_none}
use Rattle.death_cleanup.proofs.Looks.{row_under, rows-under}
use Rattle.death_cleanup.specs.Comes.{CameTo}
use Rattle.death_cleanup.specs.Ties.{InStep}
use Rattle.death_cleanup.specs.View.{state_of}
use Rattle.death_cleanup.specs.declared.parts.Parts.{Parts}
use Rattle.death_cleanup.specs.declared.rows.Kind.{Kind}
use Rattle.lwp_types.specs.CountLaws.{count-cons, one}
use Rattle.lwp_types.specs.Counts.{is_timed, timers_of}
use Rattle.lwp_types.specs.Lawful.{NineParts}
use Rattle.lwp_types.specs.State.{State, ThreadRow, for_each, is_blocked_in, is_not_blocked, passes, times_in}
use Rattle.lwp_types.specs.Time.{after_tick, due_threads, is_asleep_in, is_due, is_sleeping, tick, time_out}
use Rattle.lwp_types.specs.Unblock.{after_unblock, is_timer_of, timeout_answer, without_timer, zero_answer}
use Rattle.lwp_types.specs.declared.call.Effect.{Effect}
use Rattle.lwp_types.specs.declared.call.Effect.TheVariants as effect
use Rattle.lwp_types.specs.declared.rows.Block.{Block}
use Rattle.lwp_types.specs.declared.rows.Block.TheVariants as block
use Rattle.lwp_types.specs.declared.rows.TimerRow.{TimerRow}
use Rattle.pod_laws.proofs.Drains.{keys_times}
use Rattle.pod_laws.proofs.Ticks.{Before, TimedRow, time_out_first, timed_row}
use Rattle.pod_sched.specs.Schedule as sched
use Rattle.pod_sched.specs.Schedule.{Schedule, first_due, without_found}
use Rattle.stale_ids.specs.Register.{AreRising, value_of}
use Rattle.std.proofs.Common.{Bool, List, None, Option, Some, [], ap, arith, cond, eqb, false, length}
use Rattle.std.proofs.Common.{length-append, not, refl, true, ℕ, ◌++◌, ◌+◌, ◌<◌, ◌∙◌, ◌∷◌, ◌≡◌, ◌≤◌}
use Rattle.std.proofs.lemmas.Bool.{eq-eqb}
use Rattle.std.specs.Prelude.{option_map}

-- whether a thread sleeps is asked of who lives under its number
pub asleep-under : (parts : Parts) (t : ℕ) (o : Option Kind) → AreRising parts.ids.live → value_of t parts.ids.live ≡ o
    → is_asleep_in (state_of parts) t ≡ passes (λ (row : ThreadRow). is_sleeping row.block) (row_under parts.last_prio parts.sched.threads t o)
asleep-under parts t o rising e = ap (passes (λ (row : ThreadRow). is_sleeping row.block))
    (rows-under parts.last_prio parts.sched.threads t parts.ids.live rising ∙ ap (row_under parts.last_prio parts.sched.threads t) e)

-- the thread of a timer waits

timed_waits : (b : Block) → is_timed b ≡ true → is_not_blocked b ≡ false
timed_waits block.Not e = absurd (cc)
timed_waits (block.Joining u) e = absurd (cc)
timed_waits block.Sending e = absurd (cc)
timed_waits (block.Receiving from) e = refl
timed_waits (block.Entering m) e = absurd (cc)
timed_waits (block.Waiting c) e = absurd (cc)
timed_waits block.Sleeping e = refl

due_row : (n t : ℕ) (ts : List ℕ) (s : State) → Before n s → due_threads s ≡ t ∷ ts → TimedRow (record s { now = n }) t
due_row n t ts s was listed = timed_row (record s { now = n }) None was.nine t some
  where
    some : 1 ≤ timers_of s.timers t
    some = omega (
      arith,
      ap (λ ns. times_in ns t) listed,
      count-cons (λ k. eqb k t) t ts,
      ap one (eq-eqb t t refl),
      keys_times (λ (row : TimerRow). row.tid) (is_due s.now) t s.timers,
    )

-- each answer is paid by a thread that waits no more
spends_time_out : (n t : ℕ) (ts : List ℕ) (s : State) → Before n s → due_threads s ≡ t ∷ ts → Spends 0 s (time_out t s)
spends_time_out n t ts s was listed =
    let who = due_row n t ts s was listed in
    record { few = (spends_unblock (record s { now = n }) None was.nine t who.row who.known (timed_waits who.row.block who.timed) (cond (is_asleep_in s t) zero_answer timeout_answer)).few }

few_due : (n : ℕ) (s : State) → Before n s → length (for_each time_out (due_threads s) s).effects ≤ 1024
few_due n s was = omega (
  arith,
  (spends_drain (Before n) due_threads time_out (time_out_first n) (spends_time_out n) (due_threads s) s was refl).few,
  sum-most s.threads,
  was.nine.numbers.3.0,
)

-- a timer that is gone can be taken out once more
twice_out : (t : ℕ) (rows : List TimerRow) → without_timer t (without_timer t rows) ≡ without_timer t rows
twice_out t [] = refl
twice_out t (row ∷ rows) = by_test (is_timer_of t row) refl (twice_out t rows)
  where
    by_test : (b : Bool) → is_timer_of t row ≡ b → without_timer t (without_timer t rows) ≡ without_timer t rows
        → without_timer t (cond (not b) (row ∷ without_timer t rows) (without_timer t rows)) ≡ cond (not b) (row ∷ without_timer t rows) (without_timer t rows)
    by_test true e rest = rest
    by_test false e rest = rw e (ap (λ later. row ∷ later) rest)

abbrev first : List TimerRow → ℕ → Option ℕ
first rows now = option_map (λ (row : TimerRow). row.tid) (first_due rows now)

popped-some : (rows : List TimerRow) (now t : ℕ) → first rows now ≡ Some t → without_found (first_due rows now) rows ≡ without_timer t rows
popped-some rows now t h = by_found (first_due rows now) h
  where
    by_found : (o : Option TimerRow) → option_map (λ (row : TimerRow). row.tid) o ≡ Some t → without_found o rows ≡ without_timer t rows
    by_found None h = absurd (cc)
    by_found (Some row) h = let same : row.tid ≡ t = (let e : Some row.tid ≡ Some t = h in cc) in ap (λ x. without_timer x rows) same

popped-none : (rows : List TimerRow) (now : ℕ) → first rows now ≡ None → without_found (first_due rows now) rows ≡ rows
popped-none rows now h = by_found (first_due rows now) h
  where
    by_found : (o : Option TimerRow) → option_map (λ (row : TimerRow). row.tid) o ≡ None → without_found o rows ≡ rows
    by_found None h = refl
    by_found (Some row) h = absurd (cc)

-- other timers, and another time, change nothing that the parts agree on
pub InStep-clock : (parts : Parts) (timers : List TimerRow) (now : ℕ) → InStep parts
    → InStep (record parts { sched = record parts.sched { timers = timers; now = now } })
InStep-clock parts timers now step = record {
  tied = record { known = step.tied.known; waits = step.tied.waits };
  ranked = record { requests = step.ranked.requests; waits = step.ranked.waits };
  roomy = record { letters = step.roomy.letters; threads = step.roomy.threads; requests = step.roomy.requests; waits = step.roomy.waits };
  monitors = step.monitors;
  conditions = step.conditions;
  noted = step.noted;
}

module _ (start : Parts) (before : List Effect) where
  -- the parts once the clock has ticked, and what is told of that
  abbrev begun : Parts
  begun = record start { sched = sched.after_tick start.sched }

  abbrev tells : List Effect
  tells = before ++ effect.Ticked (start.sched.now + 1) ∷ []

  -- what is done and what is still to do are the whole tick
  abbrev pub Ticking : Parts → List Effect → Type 0
  Ticking parts after = Draining (Before start.sched.now) due_threads time_out 0 begun tells parts after

  pub tick_starts : NineParts (state_of start) None → InStep start → before ≡ [] → Ticking begun tells
  tick_starts nine step none = starts (Before start.sched.now) due_threads time_out 0 begun tells (record { nine = nine })
      (InStep-clock start start.sched.timers (start.sched.now + 1) step)
      (omega (
        arith,
        few_due start.sched.now (state_of begun) (record { nine = nine }),
        length-append before (effect.Ticked (start.sched.now + 1) ∷ []),
        ap length none,
      ))

  module _ (parts : Parts) (after : List Effect) (h : Ticking parts after) where
    -- the parts without the timer that was found
    abbrev pub lighter : Parts
    lighter = record parts { sched = sched.after_pop parts.sched }

    pub lighter_step : InStep lighter
    lighter_step = InStep-clock parts (sched.after_pop parts.sched).timers parts.sched.now h.step

    module _ (x : ℕ) (found : first parts.sched.timers parts.sched.now ≡ Some x) where
      front : Front (due_threads (state_of parts)) x
      front = found_first (λ (row : TimerRow). row.tid) (is_due parts.sched.now) parts.sched.timers x found

      pub due_waits : is_blocked_in (state_of lighter) x ≡ true
      due_waits =
          let who = due_row start.sched.now x front.rest (state_of parts) h.keeps front.is in
          ap (λ o. passes (λ (row : ThreadRow). not (is_not_blocked row.block)) o) who.known ∙ ap not (timed_waits who.row.block who.timed)

      pub due_room : length after < 2048
      due_room = omega (
        arith,
        first_room (Before start.sched.now) due_threads time_out (time_out_first start.sched.now) 0 begun tells parts after h x front.rest front.is,
      )

      module _ (new : Parts) (now : List Effect) (woken : CameTo lighter new after now (time_out x (state_of lighter))) where
        came : CameTo parts new after now (time_out x (state_of parts))
        came = record {
          state = woken.state
              ∙ ap (λ rows. record (after_unblock (state_of parts) x) { timers = without_timer x rows })
              (popped-some parts.sched.timers parts.sched.now x found)
              ∙ ap (λ rows. record (after_unblock (state_of parts) x) { timers = rows }) (twice_out x parts.sched.timers);
          effects = woken.effects;
          step = woken.step;
          dying = woken.dying;
        }

        pub due_fewer : length (due_threads (state_of new)) < length (due_threads (state_of parts))
        due_fewer = fewer (Before start.sched.now) due_threads time_out (time_out_first start.sched.now) 0 begun tells parts after h x
            front.rest front.is new now came

        pub due_on : Ticking new now
        due_on = goes_on (Before start.sched.now) due_threads time_out (time_out_first start.sched.now) 0 begun tells parts after h x
            front.rest front.is new now came

    pub due_over : InStep start → first parts.sched.timers parts.sched.now ≡ None → CameTo start lighter before after (tick (state_of start))
    due_over step none =
        let all = done (Before start.sched.now) due_threads time_out (time_out_first start.sched.now) 0 begun tells parts after h
        (found_none (λ (row : TimerRow). row.tid) (is_due parts.sched.now) parts.sched.timers none) in
        let whole = came_then start begun parts before tells after
        (record { after = after_tick (state_of start); effects = effect.Ticked (start.sched.now + 1) ∷ [] })
        (λ now. for_each time_out (due_threads now) now)
        (record { state = refl; effects = refl; step = InStep-clock start start.sched.timers (start.sched.now + 1) step; dying = refl }) all in
        record {
          state = ap (λ rows. record (state_of parts) { timers = rows }) (popped-none parts.sched.timers parts.sched.now none) ∙ whole.state;
          effects = whole.effects;
          step = lighter_step;
          dying = whole.dying;
        }
