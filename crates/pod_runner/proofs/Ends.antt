-- Where a run stands, and whether its session is over.
use Rattle.std.proofs.Common.{◌≡◌, ◌≢◌, ◌≤◌, ℕ, ◌+◌, Bool, true, false, cond, None, Some, ap, ◌∙◌, refl, sym, length, inl, inr, arith}
use Rattle.std.specs.Prelude.{Option, is_some, nat_le, nat_lt, ◌⊎◌}
use Rattle.std.proofs.lemmas.Bool.Decides.{nat_tests}
use Rattle.event_gate.specs.Shelves.{Shelves}
use Rattle.lwp_types.specs.Choice.{choice}
use Rattle.pod_events.specs.Events.{EventState}
use Rattle.pod_runner.specs.Eager.{Plan, Planned, after_advance, boundary, one_call, plan_over, round, pod_of}
use Rattle.pod_runner.specs.Over.{halt_if, is_wanted, over}
use Rattle.pod_runner.specs.Phase.{phase_by, phase_of}
use Rattle.pod_runner.specs.declared.phase.Phase.TheVariants as phase
use Rattle.trace_text.specs.declared.ends.Halt.{Halt}
use Rattle.trace_text.specs.declared.ends.Halt.TheVariants as halts
use Rattle.pod_runner.proofs.Eagers.{boundary-or}

-- in phase Turn a session isn't over, and somebody may run
turn-both : (s : EventState) (turns calls : ℕ) (left : Shelves) → phase_of s.state turns calls ≡ phase.Turn
    → (over turns s calls left ≡ None) × (is_some (choice s.state) ≡ true)
turn-both s turns calls left h = by_end s.state.ended (choice s.state) h
  where
    by_count : (a b : Bool) → nat_lt calls turns ≡ a → nat_le turns calls ≡ b → cond a phase.Turn phase.Spent ≡ phase.Turn
        → cond b (Some halts.Spent) None ≡ None
    by_count false b isa isb h = absurd (cc)
    by_count true false isa isb h = refl
    by_count true true isa isb h = absurd (grind (arith, nat_tests))

    by_end : (b : Bool) (o : Option ℕ) → cond b (phase.Ended s.state.status) (phase_by turns calls o) ≡ phase.Turn
        → (cond b (Some (halts.Ended s.state.status)) (halt_if turns calls (is_wanted s left) o) ≡ None) × (is_some o ≡ true)
    by_end true o h = absurd (cc)
    by_end false None h = absurd (cc)
    by_end false (Some t) h = (by_count (nat_lt calls turns) (nat_le turns calls) refl refl h, refl)

pub over-turn : (s : EventState) (turns calls : ℕ) (left : Shelves) → phase_of s.state turns calls ≡ phase.Turn → over turns s calls left ≡ None
over-turn s turns calls left h = (turn-both s turns calls left h).0

-- in phase Idle nobody may run, and it is over unless a line can be taken
idle-both : (s : EventState) (turns calls : ℕ) (left : Shelves) → phase_of s.state turns calls ≡ phase.Idle
    → (over turns s calls left ≡ cond (is_wanted s left) None (Some halts.Stuck)) × (is_some (choice s.state) ≡ false)
idle-both s turns calls left h = by_end s.state.ended (choice s.state) h
  where
    by_count : (a : Bool) → cond a phase.Turn phase.Spent ≡ phase.Idle → ⊥
    by_count true h = cc
    by_count false h = cc

    by_end : (b : Bool) (o : Option ℕ) → cond b (phase.Ended s.state.status) (phase_by turns calls o) ≡ phase.Idle
        → (cond b (Some (halts.Ended s.state.status)) (halt_if turns calls (is_wanted s left) o) ≡ cond (is_wanted s left) None (Some halts.Stuck))
        × (is_some o ≡ false)
    by_end true o h = absurd (cc)
    by_end false None h = (refl, refl)
    by_end false (Some t) h = absurd (by_count (nat_lt calls turns) h)

module _ {B : Type 0} (planned : Planned B) (plan : Plan B) where
  abbrev round_by : Option Halt → Plan B
  round_by o = elim o as (λ _. Plan B) [ None ↦ after_advance planned plan | Some halt ↦ plan ]

  abbrev advanced_by : Bool → Plan B
  advanced_by b = elim b as (λ _. Plan B) [ true ↦ one_call planned (boundary planned plan) | false ↦ boundary planned plan ]

  pub turn-round : phase_of (pod_of plan).state planned.turns plan.calls ≡ phase.Turn → round planned plan ≡ one_call planned (boundary planned plan)
  turn-round h = let t = turn-both (pod_of plan) planned.turns plan.calls plan.left h in ap round_by t.0 ∙ ap advanced_by t.1

  module _ (idle : phase_of (pod_of plan).state planned.turns plan.calls ≡ phase.Idle) where
    pub idle-advanced : after_advance planned plan ≡ boundary planned plan
    idle-advanced = ap advanced_by (idle-both (pod_of plan) planned.turns plan.calls plan.left idle).1

    idle-over : (b : Bool) → is_wanted (pod_of plan) plan.left ≡ b → plan_over planned plan ≡ cond b None (Some halts.Stuck)
    idle-over b is = (idle-both (pod_of plan) planned.turns plan.calls plan.left idle).0 ∙ ap (λ (b : Bool). cond b None (Some halts.Stuck)) is

    abbrev Serves : Type 0
    Serves = ((boundary planned plan ≡ plan) × (is_wanted (pod_of plan) plan.left ≡ false))
        ⊎ ((length plan.takes + 1 ≤ length (boundary planned plan).takes) × (is_wanted (pod_of plan) plan.left ≡ true))

    pub idle-round : round planned plan ≡ boundary planned plan
    idle-round = by (boundary-or planned plan)
      where
        by : Serves → round planned plan ≡ boundary planned plan
        by (inl w) = ap round_by (idle-over false w.1) ∙ sym w.0
        by (inr w) = ap round_by (idle-over true w.1) ∙ idle-advanced

    pub idle-stuck : length (boundary planned plan).takes ≡ length plan.takes → plan_over planned plan ≡ Some halts.Stuck
    idle-stuck n = by (boundary-or planned plan)
      where
        by : Serves → plan_over planned plan ≡ Some halts.Stuck
        by (inl w) = idle-over false w.1
        by (inr w) = absurd (omega (arith, n, w.0))

    pub idle-on : length (boundary planned plan).takes ≢ length plan.takes → plan_over planned plan ≡ None
    idle-on n = by (boundary-or planned plan)
      where
        by : Serves → plan_over planned plan ≡ None
        by (inl w) = absurd (n (ap (λ (p : Plan B). length p.takes) w.0))
        by (inr w) = idle-over true w.1
