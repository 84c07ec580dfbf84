-- The row of 1,024 threads. It has no lines to take, so its session is one of calls alone, which takes fewer steps to compute.
use Rattle.event_gate.specs.Shelves.{first_left, full}
use Rattle.line_server.specs.Sessions.{session_next}
use Rattle.line_server.specs.Stores.{store_next}
use Rattle.script_body.specs.declared.thread_body.ThreadBody.{ThreadBody}
use Rattle.script_body.specs.Stocked.{stock_of}
use Rattle.lwp_serve.specs.Plan.Planned.{calls_of, halt_of, plan_of, planned_of, takes_of, trace_of}
use Rattle.lwp_types.specs.Agents.{deliver}
use Rattle.lwp_types.specs.Case.{unless}
use Rattle.lwp_types.specs.State.{and_then, for_each, in_order}
use Rattle.lwp_types.specs.Step.{step, step_by}
use Rattle.lwp_types.specs.declared.call.Line.{Line}
use Rattle.pod_events.specs.Events.{is_takeable, take_event}
use Rattle.pod_events.specs.Step.{event_step, event_step_by}
use Rattle.pod_runner.specs.Eager.{Plan, Planned, after_advance, after_offer, after_offer_by, has_choice}
use Rattle.pod_runner.specs.Eager.{one_call, opening_plan, plan_over, plan_whole, pod_of, to_the_end}
use Rattle.pod_runner.specs.Over.{events}
use Rattle.pod_runner.specs.Session.{call_move, move, take_move}
use Rattle.pod_runner.specs.Trace.{trace}
use Rattle.script_body.specs.ScriptBody.{script_next}
use Rattle.script_text.specs.Script.{proc_names}
use Rattle.trace_text.specs.declared.ends.Halt.{Halt}
use Rattle.std.proofs.Common.{Bool, List, None, Option, Some, [], ap, false, fold, map, refl, suc, true, zero, ℕ, ◌+◌, ◌∙◌, ◌∷◌, ◌≡◌}
use Rattle.std.specs.Fmt.{digits}
use Rattle.std.specs.List.{range_with_len}
use Rattle.worked_rows.specs.Limits.{a_thousand_and_twenty_four_threads}
use Rattle.worked_rows.specs.Words.{Row}

-- ---- calls alone

abbrev called_on : Planned ThreadBody → Plan ThreadBody → Plan ThreadBody
called_on planned plan = elim (has_choice plan) [ true ↦ one_call planned plan | false ↦ plan ]

unfoldable pub only_calls : Planned ThreadBody → ℕ → Plan ThreadBody → Plan ThreadBody
only_calls planned zero plan = plan
only_calls planned (suc n) plan = elim (plan_over planned plan) [ None ↦ only_calls planned n (called_on planned plan) | Some halt ↦ plan ]

-- no event has a line left
abbrev IsBare : Plan ThreadBody → Type 0
IsBare plan = (e : ℕ) → first_left plan.left e ≡ None

nothing-offered : (planned : Planned ThreadBody) (e : ℕ) (plan : Plan ThreadBody) → IsBare plan → after_offer planned e plan ≡ plan
nothing-offered planned e plan bare = by (is_takeable (pod_of plan) e) (first_left plan.left e) (bare e)
  where
    by : (b : Bool) (o : Option Line) → o ≡ None → elim b [ true ↦ after_offer_by planned e plan o | false ↦ plan ] ≡ plan
    by true None h = refl
    by true (Some line) h = absurd (cc h)
    by false o h = refl

nothing-taken : (planned : Planned ThreadBody) (es : List ℕ) (plan : Plan ThreadBody) → IsBare plan → fold (λ now e. after_offer planned e now) plan es ≡ plan
nothing-taken planned [] plan bare = refl
nothing-taken planned (e ∷ es) plan bare = ap (λ p. fold (λ now e. after_offer planned e now) p es) (nothing-offered planned e plan bare)
    ∙ nothing-taken planned es plan bare

one-on : (planned : Planned ThreadBody) (plan : Plan ThreadBody) → IsBare plan → after_advance planned plan ≡ called_on planned plan
one-on planned plan bare =
    ap (λ (p : Plan ThreadBody). elim (has_choice plan) [ true ↦ one_call planned p | false ↦ p ]) (nothing-taken planned events plan bare)

bare-on : (planned : Planned ThreadBody) (plan : Plan ThreadBody) → IsBare plan → IsBare (called_on planned plan)
bare-on planned plan bare = by (has_choice plan)
  where
    by : (b : Bool) → IsBare (elim b [ true ↦ one_call planned plan | false ↦ plan ])
    by true = bare
    by false = bare

pub calls-are : (planned : Planned ThreadBody) (n : ℕ) (plan : Plan ThreadBody) → IsBare plan → to_the_end planned n plan ≡ only_calls planned n plan
unfolding to_the_end only_calls
calls-are planned zero plan bare = refl
calls-are planned (suc n) plan bare =
    by (plan_over planned plan) (ap (to_the_end planned n) (one-on planned plan bare)
    ∙ calls-are planned n (called_on planned plan) (bare-on planned plan bare))
  where
    by : (o : Option Halt) → to_the_end planned n (after_advance planned plan) ≡ only_calls planned n (called_on planned plan)
        → ◌≡◌ {A = Plan ThreadBody} (elim o [ None ↦ to_the_end planned n (after_advance planned plan) | Some halt ↦ plan ])
        (elim o [ None ↦ only_calls planned n (called_on planned plan) | Some halt ↦ plan ])
    by None more = more
    by (Some halt) more = refl

-- where nobody posts, no event has a line
pub none-left : (clients : List ℕ) (a n e : ℕ) → first_left (map (full clients []) (range_with_len a n)) e ≡ None
none-left clients a zero e = refl
none-left clients a (suc n) zero = refl
none-left clients a (suc n) (suc e) = none-left clients (a + 1) n e

-- ---- the row

abbrev many : Row
many = a_thousand_and_twenty_four_threads

abbrev its_planned : Planned ThreadBody
its_planned = planned_of many.script many.turns

abbrev its_plan : Plan ThreadBody
its_plan = only_calls its_planned 1024 (opening_plan its_planned (stock_of many.script))

its_calls_alone : plan_of many.script many.turns ≡ its_plan
unfolding plan_whole
its_calls_alone = calls-are its_planned 1024 (opening_plan its_planned (stock_of many.script)) (none-left [] 0 256)

its_text : trace (proc_names many.script) [] its_planned its_plan ≡ many.trace
unfolding only_calls move call_move take_move script_next session_next store_next event_step event_step_by take_event step step_by deliver
    unless and_then in_order for_each digits
its_text = refl

pub its_trace : trace_of many.script many.turns ≡ many.trace
unfolding trace_of
its_trace = ap (trace (proc_names many.script) [] its_planned) its_calls_alone ∙ its_text

its_end : plan_over its_planned its_plan ≡ Some many.halt
unfolding only_calls move call_move take_move script_next session_next store_next event_step event_step_by take_event step step_by deliver
    unless and_then in_order for_each digits
its_end = refl

pub its_halt : halt_of many.script many.turns ≡ Some many.halt
unfolding halt_of
its_halt = ap (plan_over its_planned) its_calls_alone ∙ its_end

its_number : its_plan.calls ≡ many.calls
unfolding only_calls move call_move take_move script_next session_next store_next event_step event_step_by take_event step step_by deliver
    unless and_then in_order for_each digits
its_number = refl

pub its_calls : calls_of many.script many.turns ≡ many.calls
unfolding calls_of
its_calls = ap (λ (p : Plan ThreadBody). p.calls) its_calls_alone ∙ its_number

its_lines : its_plan.takes ≡ many.takes
unfolding only_calls move call_move take_move script_next session_next store_next event_step event_step_by take_event step step_by deliver
    unless and_then in_order for_each digits
its_lines = refl

pub its_takes : takes_of many.script many.turns ≡ many.takes
unfolding takes_of
its_takes = ap (λ (p : Plan ThreadBody). p.takes) its_calls_alone ∙ its_lines
