-- Where a run stands tells whether it is over, and a round does nothing then.
use Rattle.std.proofs.Common.{◌≡◌, ◌≤◌, Bool, Err, List, None, Ok, Option, Result, Some, ap, arith, cond, false, refl, sym, true, ℕ}
use Rattle.std.proofs.lemmas.Bool.Decides.{nat_tests}
use Rattle.std.specs.Prelude.{nat_le, nat_lt}
use Rattle.event_gate.specs.Shelves.{Shelves}
use Rattle.lwp_types.specs.Choice.{choice}
use Rattle.lwp_types.specs.Poll.{Next}
use Rattle.pod_events.specs.Events.{EventState}
use Rattle.pod_runner.specs.Does.{Does}
use Rattle.pod_runner.specs.Due.{IsDefined}
use Rattle.pod_runner.specs.Eager.{Plan, Planned, after_advance, boundary, one_call, plan_over, round}
use Rattle.pod_runner.specs.Over.{halt_if, is_wanted, over}
use Rattle.pod_runner.specs.Phase.{phase_by, phase_of}
use Rattle.pod_runner.specs.Run.{Played, phase_now, plan_now, planned_of, setting_of}
use Rattle.pod_runner.specs.declared.phase.Phase.TheVariants as phase
use Rattle.pod_runner.specs.declared.phase.RunErr.{RunErr}
use Rattle.pod_runner.proofs.Eagers.{call-grows}
use Rattle.pod_runner.proofs.Ends.{turn-round}
use Rattle.pod_runner.proofs.Rounds.{does-by, does-nothing, does-part, does-turn, does-turn-call, ran-answer, stream}
use Rattle.trace_text.specs.declared.ends.Halt.{Halt}
use Rattle.trace_text.specs.declared.ends.Halt.TheVariants as halts
use Rattle.streams.specs.Streams.{Stream}

-- a pod that has ended with a status is over with it
pub over-ended : (s : EventState) (turns calls status : ℕ) (left : Shelves) → phase_of s.state turns calls ≡ phase.Ended status
    → over turns s calls left ≡ Some (halts.Ended status)
over-ended s turns calls status left h = by_end s.state.ended (choice s.state) h
  where
    by_count : (a : Bool) → cond a phase.Turn phase.Spent ≡ phase.Ended status → ⊥
    by_count true h = cc
    by_count false h = cc

    by_end : (b : Bool) (o : Option ℕ) → cond b (phase.Ended s.state.status) (phase_by turns calls o) ≡ phase.Ended status
        → cond b (Some (halts.Ended s.state.status)) (halt_if turns calls (is_wanted s left) o) ≡ Some (halts.Ended status)
    by_end true o h = cc
    by_end false None h = absurd (cc)
    by_end false (Some t) h = absurd (by_count (nat_lt calls turns) h)

-- where all calls that are allowed were made, it is over as well
pub over-spent : (s : EventState) (turns calls : ℕ) (left : Shelves) → phase_of s.state turns calls ≡ phase.Spent → over turns s calls left ≡ Some halts.Spent
over-spent s turns calls left h = by_end s.state.ended (choice s.state) h
  where
    by_count : (a b : Bool) → nat_lt calls turns ≡ a → nat_le turns calls ≡ b → cond a phase.Turn phase.Spent ≡ phase.Spent
        → cond b (Some halts.Spent) None ≡ Some halts.Spent
    by_count true b isa isb h = absurd (cc)
    by_count false true isa isb h = refl
    by_count false false isa isb h = absurd (grind (arith, nat_tests))

    by_end : (b : Bool) (o : Option ℕ) → cond b (phase.Ended s.state.status) (phase_by turns calls o) ≡ phase.Spent
        → cond b (Some (halts.Ended s.state.status)) (halt_if turns calls (is_wanted s left) o) ≡ Some halts.Spent
    by_end true o h = absurd (cc)
    by_end false None h = absurd (cc)
    by_end false (Some t) h = by_count (nat_lt calls turns) (nat_le turns calls) refl refl h

module _ {B P : Type 0} (next : Next B) (bodies : P → List B) (procs : P → List (List ℕ)) where
  -- where it is over, nothing is done
  pub does-over : {T : Type 0} (w : Option (List ℕ)) (f : ℕ) (run : Played P) (stock : Shelves) (x : T) (halt : Halt)
      → run.failed ≡ false → IsDefined (setting_of next bodies run) run.takes run.calls → run.calls ≤ run.turns
      → plan_over (planned_of next bodies run) (plan_now next bodies run stock) ≡ Some halt
      → Does next bodies procs (stream w w f f) (λ planned plan. round planned plan) run run stock stock (Ok x)
  does-over w f run stock x halt sound made room is =
      does-by next bodies procs (stream w w f f) (λ planned plan. plan) (λ planned plan. round planned plan) run run stock stock (Ok x)
      (sym (ap (λ (o : Option Halt). elim o as (λ _. Plan B)
      [ None ↦ after_advance (planned_of next bodies run) (plan_now next bodies run stock) | Some halt ↦ plan_now next bodies run stock ]) is))
      (does-nothing next bodies procs w f run stock x sound made room)

  -- where taking a line fails, so does the round, and no call is made
  pub does-turn-lines : {T U : Type 0} (s : Stream) (old new : Played P) (stock left : Shelves) (e : RunErr) → phase_now next bodies old ≡ phase.Turn
      → Does {T = T} next bodies procs s (λ planned plan. boundary planned plan) old new stock left (Err e)
      → Does {T = U} next bodies procs s (λ planned plan. round planned plan) old new stock left (Err e)
  does-turn-lines s old new stock left e due p =
      does-by next bodies procs s (λ planned plan. one_call planned (boundary planned plan)) (λ planned plan. round planned plan) old new stock left (Err e)
      (sym (turn-round (planned_of next bodies old) (plan_now next bodies old stock) due))
      (does-part next bodies procs _ _ s (λ planned plan. boundary planned plan) (λ planned plan. one_call planned plan) old new stock left e
      (call-grows (planned_of next bodies old) (boundary (planned_of next bodies old) (plan_now next bodies old stock))) p)

  -- lines are taken, and then a call is made, or fails
  pub does-turn-then : (a b c : Option (List ℕ)) (i j k : ℕ) (old mid new : Played P) (stock left : Shelves) (x : Unit {0}) (r : Result (Unit {0}) RunErr)
      → phase_now next bodies old ≡ phase.Turn
      → Does next bodies procs (stream a b i j) (λ planned plan. boundary planned plan) old mid stock left (Ok x)
      → Does next bodies procs (stream b c j k) (λ planned plan. one_call planned plan) mid new left left r
      → Does next bodies procs (stream a c i k) (λ planned plan. round planned plan) old new stock left r
  does-turn-then a b c i j k old mid new stock left x (Ok y) due p q = does-turn next bodies procs a b c i j k old mid new stock left x y y due p q
  does-turn-then a b c i j k old mid new stock left x (Err e) due p q = does-turn-call next bodies procs a b c i j k old mid new stock left x e due p q

  -- an answer may be of another type
  pub does-other : {T U : Type 0} (s : Stream) (by : Planned B → Plan B → Plan B) (old new : Played P) (stock left : Shelves) (x : T) (y : U)
      → Does next bodies procs s by old new stock left (Ok x) → Does next bodies procs s by old new stock left (Ok y)
  does-other s by old new stock left x y h = record { ran = ran-answer next bodies procs s old new x y h.ran; comes = h.comes; part = tt }
