-- Ticks in virtual time: those before the first timer falls due are one move of the clock.
use Rattle.lwp_types.specs.Agents.{deliver}
use Rattle.lwp_types.specs.Choice.{choice}
use Rattle.lwp_types.specs.Counts.{is_ahead}
use Rattle.lwp_types.specs.Lawful.{Lawful}
use Rattle.lwp_types.specs.State.{Outcome, State, and_then, for_each}
use Rattle.lwp_types.specs.Time.{after_tick, due_threads, is_due, may_tick, tick, time_out}
use Rattle.lwp_types.specs.declared.call.Effect.{Effect}
use Rattle.lwp_types.specs.declared.call.Effect.TheVariants as effect
use Rattle.lwp_types.specs.declared.rows.TimerRow.{TimerRow}
use Rattle.pod_events.specs.Events.{EventOutcome, EventState, after_pass_on, after_take_trap, has_turn, is_takeable, is_trapped, may_trap, take_event}
use Rattle.pod_events.specs.Machine.{current_of}
use Rattle.pod_events.specs.Ticks.{after_ticks, next_due}
use Rattle.pod_runner.specs.Session.{Live, after_settle, take_move}
use Rattle.pod_runner.specs.Virtual.{caught_up, is_tick_due, jumped, last_tick, ticked, ticked_for, ticks_left}
use Rattle.std.proofs.Common.{Bool, List, None, Option, Some, [], ap, arith, cond, false, min, not, refl}
use Rattle.std.proofs.Common.{suc, sym, true, zero, ℕ, ◌&&◌, ◌++◌, ◌+◌, ◌-◌, ◌<◌, ◌∙◌, ◌∷◌, ◌≡◌, ◌≤◌}
use Rattle.std.proofs.lemmas.Bool.{le-leb, leb-true, lt-leb, lt-ltb, ltb-true}
use Rattle.std.specs.List.{filter, fold, list_all}
use Rattle.std.specs.Prelude.{is_none, is_some, map, nat_le, nat_lt}

-- ---- the first timer

least_low : (n : ℕ) (rows : List TimerRow) → fold (λ m row. min m row.due) n rows ≤ n
least_low n [] = omega arith
least_low n (row ∷ rows) = omega (arith, least_low (min n row.due) rows)

-- before it, none is due
none_due : (n now : ℕ) (rows : List TimerRow) → now < fold (λ m row. min m row.due) n rows → filter (is_due now) rows ≡ []
none_due n now [] early = refl
none_due n now (row ∷ rows) early =
    let less : now < row.due = omega (arith, early, least_low (min n row.due) rows) in
    rw (lt-leb row.due now less) (none_due (min n row.due) now rows early)

-- where all are still to fall due, so is the first
all_later : (n now : ℕ) (rows : List TimerRow) → now < n → list_all (is_ahead now) rows ≡ true → now < fold (λ m row. min m row.due) n rows
all_later n now [] early ahead = early
all_later n now (row ∷ rows) early ahead = by_head (λ more. all_later (min n row.due) now rows more) (nat_lt now row.due) refl ahead
  where
    by_head : (now < min n row.due → list_all (is_ahead now) rows ≡ true → now < fold (λ m row. min m row.due) (min n row.due) rows)
        → (b : Bool) → nat_lt now row.due ≡ b → (b && list_all (is_ahead now) rows) ≡ true → now < fold (λ m row. min m row.due) (min n row.due) rows
    by_head later true e h = later (omega (arith, early, ltb-true now row.due e)) h
    by_head later false e h = absurd (cc)

pub next_later : (s : State) → Lawful s None → s.now < 18446744073709551615 → s.now < next_due s
next_later s was early = all_later 18446744073709551615 s.now s.timers early was.nine.blocks.4.2

-- ---- one tick

-- whose turn it is is asked of who may run
pub no_current : (s : State) → is_none (current_of s) ≡ not (has_turn s)
no_current s = by_end s.ended refl (choice s) refl
  where
    by_end : (b : Bool) → s.ended ≡ b → (o : Option ℕ) → choice s ≡ o → is_none (current_of s) ≡ not (has_turn s)
    by_end true e o f = rw e refl
    by_end false e None f = rw (e, f) refl
    by_end false e (Some t) f = rw (e, f) refl

-- a pod in which nobody may run, whose clock isn't trapped and can tick, for a timer that falls due before it stops
pub record IsIdle {B : Type 0} (live : Live B) : Type 0 where
  pub nobody : has_turn live.pod.state ≡ false
  pub free : is_trapped live.pod.trapped 0 ≡ false
  pub goes_on : live.pod.state.ended ≡ false
  pub clock : live.pod.state.now < 4294967295
  pub due : next_due live.pod.state ≤ 4294967295

-- what the test is made of
tested : (a t e c d x : Bool) → (not a && (cond t x (not e && c) && d)) ≡ true → (t ≡ true → x ≡ true → a ≡ true)
    → (a ≡ false) × (t ≡ false) × (e ≡ false) × (c ≡ true) × (d ≡ true)
tested false false false true true x h apart = (refl, refl, refl, refl, refl)
tested true t e c d x h apart = absurd (cc)
tested false true e c d true h apart = absurd (let bad = apart refl refl in cc)
tested false true e c d false h apart = absurd (cc)
tested false false true c d x h apart = absurd (cc)
tested false false false false d x h apart = absurd (cc)
tested false false false true false x h apart = absurd (cc)

made_test : (a t e c d x : Bool) → a ≡ false → t ≡ false → e ≡ false → c ≡ true → d ≡ true → (not a && (cond t x (not e && c) && d)) ≡ true
made_test a t e c d x f g h i j = rw (f, g, h, i, j) refl

made_takeable : (t e c x : Bool) → t ≡ false → e ≡ false → c ≡ true → cond t x (not e && c) ≡ true
made_takeable t e c x g h i = rw (g, h, i) refl

second : (p q : Bool) → (p && q) ≡ true → q ≡ true
second true q h = h
second false q h = absurd (cc)

pub idle-due : {B : Type 0} (live : Live B) → is_tick_due live ≡ true → IsIdle live
idle-due live h =
    let parts = tested (has_turn live.pod.state) (is_trapped live.pod.trapped 0) live.pod.state.ended (may_tick live.pod.state)
    (nat_le (next_due live.pod.state) last_tick) (may_trap live.pod) h (λ on may. second (is_none live.pod.pending) (has_turn live.pod.state) may) in
    record {
      nobody = parts.0;
      free = parts.1;
      goes_on = parts.2;
      clock = ltb-true live.pod.state.now 4294967295 parts.3;
      due = leb-true (next_due live.pod.state) 4294967295 parts.4;
    }

pub due-idle : {B : Type 0} (live : Live B) → IsIdle live → is_tick_due live ≡ true
due-idle live idle = made_test (has_turn live.pod.state) (is_trapped live.pod.trapped 0) live.pod.state.ended (may_tick live.pod.state)
    (nat_le (next_due live.pod.state) last_tick) (may_trap live.pod)
    idle.nobody idle.free idle.goes_on (lt-ltb live.pod.state.now 4294967295 idle.clock) (le-leb (next_due live.pod.state) 4294967295 idle.due)

pub takeable-idle : {B : Type 0} (live : Live B) → IsIdle live → is_takeable live.pod 0 ≡ true
takeable-idle live idle = made_takeable (is_trapped live.pod.trapped 0) live.pod.state.ended (may_tick live.pod.state) (may_trap live.pod)
    idle.free idle.goes_on (lt-ltb live.pod.state.now 4294967295 idle.clock)

-- of a clock that isn't trapped, a line is a tick
taken-tick : (es : EventState) (text : List ℕ) → is_trapped es.trapped 0 ≡ false → take_event es 0 text ≡ after_pass_on es (tick es.state)
unfolding take_event deliver
taken-tick es text free = rw free refl

each_still : (ts : List ℕ) (s : State) → (for_each time_out ts s).after.now ≡ s.now
unfolding for_each and_then
each_still [] s = refl
each_still (t ∷ ts) s = each_still ts (time_out t s).after

tick_now : (s : State) → (tick s).after.now ≡ s.now + 1
unfolding and_then
tick_now s = each_still (due_threads (after_tick s)) (after_tick s)

-- before the first timer falls due, it moves the clock and nothing else
tick_quiet : (s : State) → s.now + 1 < next_due s → tick s ≡ record { after = after_ticks 1 s; effects = effect.Ticked (s.now + 1) ∷ [] }
unfolding and_then for_each
tick_quiet s early = rw (none_due 18446744073709551615 (s.now + 1) s.timers early) refl

-- the clock is so many ticks further on
abbrev pub passed : {B : Type 0} → ℕ → Live B → Live B
passed n live = record live { pod = record live.pod { state = after_ticks n live.pod.state } }

module _ {B : Type 0} (bodies : List B) (calls : ℕ) where
  ticked_now : (live : Live B) → is_trapped live.pod.trapped 0 ≡ false → (ticked bodies calls live).pod.state.now ≡ live.pod.state.now + 1
  unfolding take_move
  ticked_now live free = ap (λ (out : EventOutcome). out.after.state.now) (taken-tick live.pod [] free) ∙ tick_now live.pod.state

  ticked_quiet : (live : Live B) → is_trapped live.pod.trapped 0 ≡ false → live.pod.state.now + 1 < next_due live.pod.state
      → ticked bodies calls live ≡ passed 1 live
  unfolding take_move
  ticked_quiet live free early =
      let out : take_event live.pod 0 []
      ≡ after_pass_on live.pod (record { after = after_ticks 1 live.pod.state; effects = effect.Ticked (live.pod.state.now + 1) ∷ [] }) =
      taken-tick live.pod [] free
      ∙ ap (after_pass_on live.pod) (tick_quiet live.pod.state early) in
      ap (λ (out : EventOutcome). record live { pod = out.after; rows = after_settle bodies None out.effects live.rows }) out

  -- as long as no tick is due, none is made
  pub ticks_over : (k : ℕ) (live : Live B) → is_tick_due live ≡ false → ticked_for bodies calls k live ≡ live
  unfolding ticked_for
  ticks_over zero live over = refl
  ticks_over (suc k) live over = rw over refl

  ticks_on : (k : ℕ) (live : Live B) → is_tick_due live ≡ true → ticked_for bodies calls (suc k) live ≡ ticked_for bodies calls k (ticked bodies calls live)
  unfolding ticked_for
  ticks_on k live due = rw due refl

  pub passed-idle : (j : ℕ) (live : Live B) → IsIdle live → live.pod.state.now + j < next_due live.pod.state → IsIdle (passed j live)
  passed-idle j live idle early = record {
    nobody = idle.nobody;
    free = idle.free;
    goes_on = idle.goes_on;
    clock = omega (arith, early, idle.due);
    due = idle.due;
  }

  passed-zero : (live : Live B) → passed 0 live ≡ live
  passed-zero live = let same : live.pod.state.now + 0 ≡ live.pod.state.now = omega arith in
      ap (λ n. record live { pod = record live.pod { state = record live.pod.state { now = n } } }) same

  passed-suc : (j : ℕ) (live : Live B) → passed j (passed 1 live) ≡ passed (suc j) live
  passed-suc j live = let same : live.pod.state.now + 1 + j ≡ live.pod.state.now + suc j = omega arith in
      ap (λ n. record live { pod = record live.pod { state = record live.pod.state { now = n } } }) same

  -- so many ticks before the first timer falls due are one move
  jumps : (j k : ℕ) (live : Live B) → IsIdle live → live.pod.state.now + j < next_due live.pod.state
      → ticked_for bodies calls (j + k) live ≡ ticked_for bodies calls k (passed j live)
  jumps zero k live idle early =
      let same : 0 + k ≡ k = omega arith in
      ap (λ n. ticked_for bodies calls n live) same ∙ ap (ticked_for bodies calls k) (sym (passed-zero live))
  jumps (suc j) k live idle early =
      let one : live.pod.state.now + 1 < next_due live.pod.state = omega (arith, early) in
      let same : suc j + k ≡ suc (j + k) = omega arith in
      ap (λ n. ticked_for bodies calls n live) same ∙ ticks_on (j + k) live (due-idle live idle)
      ∙ ap (ticked_for bodies calls (j + k)) (ticked_quiet live idle.free one)
      ∙ jumps j k (passed 1 live) (passed-idle 1 live idle one) (omega (arith, early)) ∙ ap (ticked_for bodies calls k) (passed-suc j live)

  -- so the clock may go right before the first timer falls due
  pub on-jump : (live : Live B) → IsIdle live → live.pod.state.now < next_due live.pod.state
      → caught_up bodies calls live ≡ caught_up bodies calls (jumped live)
  on-jump live idle early =
      let j = next_due live.pod.state - live.pod.state.now - 1 in
      let all : ticks_left live ≡ j + (4294967295 - (live.pod.state.now + j)) = omega (arith, early, idle.due) in
      ap (λ n. ticked_for bodies calls n live) all ∙ jumps j (4294967295 - (live.pod.state.now + j)) live idle (omega (arith, early))

  pub on-tick : (live : Live B) → IsIdle live → caught_up bodies calls live ≡ caught_up bodies calls (ticked bodies calls live)
  on-tick live idle =
      let one : ticks_left live ≡ suc (4294967295 - (live.pod.state.now + 1)) = omega (arith, idle.clock) in
      ap (λ n. ticked_for bodies calls n live) one ∙ ticks_on (4294967295 - (live.pod.state.now + 1)) live (due-idle live idle)
      ∙ ap (λ now. ticked_for bodies calls (4294967295 - now) (ticked bodies calls live)) (sym (ticked_now live idle.free))

  pub jumped-idle : (live : Live B) → IsIdle live → live.pod.state.now < next_due live.pod.state → IsIdle (jumped live)
  jumped-idle live idle early = passed-idle (next_due live.pod.state - live.pod.state.now - 1) live idle (omega (arith, early))

  -- a round: up to the first timer, and that tick
  pub on-round : (live : Live B) → IsIdle live → live.pod.state.now < next_due live.pod.state
      → caught_up bodies calls live ≡ caught_up bodies calls (ticked bodies calls (jumped live))
  on-round live idle early = on-jump live idle early ∙ on-tick (jumped live) (jumped-idle live idle early)

  -- the clock has fewer ticks left
  pub round-later : (live : Live B) → IsIdle live → live.pod.state.now < next_due live.pod.state
      → ticks_left (ticked bodies calls (jumped live)) < ticks_left live
  round-later live idle early = omega (arith, ticked_now (jumped live) idle.free, early, idle.due, idle.clock)
