-- The row of 256 agents, computed as that of 1,024 threads is.
use Rattle.line_server.specs.Sessions.{session_next}
use Rattle.line_server.specs.Stores.{store_next}
use Rattle.lwp_types.specs.Agents.{deliver}
use Rattle.lwp_types.specs.Case.{unless}
use Rattle.lwp_types.specs.State.{and_then, for_each, in_order}
use Rattle.lwp_types.specs.Step.{step, step_by}
use Rattle.pod_events.specs.Events.{take_event}
use Rattle.pod_events.specs.Step.{event_step, event_step_by}
use Rattle.pod_runner.specs.Eager.{Plan, Planned, opening_plan, plan_over, plan_whole}
use Rattle.pod_runner.specs.Session.{call_move, move, take_move}
use Rattle.pod_runner.specs.Trace.{trace}
use Rattle.script_body.specs.ScriptBody.{script_next}
use Rattle.script_body.specs.Stocked.{stock_of}
use Rattle.lwp_serve.specs.Plan.Planned.{calls_of, halt_of, plan_of, planned_of, takes_of, trace_of}
use Rattle.script_body.specs.declared.thread_body.ThreadBody.{ThreadBody}
use Rattle.script_text.specs.Script.{proc_names}
use Rattle.std.proofs.Common.{Some, [], ap, refl, ◌∙◌, ◌≡◌}
use Rattle.std.specs.Fmt.{digits}
use Rattle.worked_rows.proofs.ManyThreads.{calls-are, none-left, only_calls}
use Rattle.worked_rows.specs.Limits.{agents_full}
use Rattle.worked_rows.specs.Words.{Row}

abbrev many : Row
many = agents_full

abbrev its_planned : Planned ThreadBody
its_planned = planned_of many.script many.turns

abbrev its_plan : Plan ThreadBody
its_plan = only_calls its_planned 257 (opening_plan its_planned (stock_of many.script))

its_calls_alone : plan_of many.script many.turns ≡ its_plan
unfolding plan_whole
its_calls_alone = calls-are its_planned 257 (opening_plan its_planned (stock_of many.script)) (none-left [] 0 256)

its_text : trace (proc_names many.script) [] its_planned its_plan ≡ many.trace
unfolding only_calls move call_move take_move script_next session_next store_next event_step event_step_by take_event step step_by deliver
    unless and_then in_order for_each digits
its_text = refl

pub its_trace : trace_of many.script many.turns ≡ many.trace
unfolding trace_of
its_trace = ap (trace (proc_names many.script) [] its_planned) its_calls_alone ∙ its_text

its_end : plan_over its_planned its_plan ≡ Some many.halt
unfolding only_calls move call_move take_move script_next session_next store_next event_step event_step_by take_event step step_by deliver
    unless and_then in_order for_each digits
its_end = refl

pub its_halt : halt_of many.script many.turns ≡ Some many.halt
unfolding halt_of
its_halt = ap (plan_over its_planned) its_calls_alone ∙ its_end

its_number : its_plan.calls ≡ many.calls
unfolding only_calls move call_move take_move script_next session_next store_next event_step event_step_by take_event step step_by deliver
    unless and_then in_order for_each digits
its_number = refl

pub its_calls : calls_of many.script many.turns ≡ many.calls
unfolding calls_of
its_calls = ap (λ (p : Plan ThreadBody). p.calls) its_calls_alone ∙ its_number

its_lines : its_plan.takes ≡ many.takes
unfolding only_calls move call_move take_move script_next session_next store_next event_step event_step_by take_event step step_by deliver
    unless and_then in_order for_each digits
its_lines = refl

pub its_takes : takes_of many.script many.turns ≡ many.takes
unfolding takes_of
its_takes = ap (λ (p : Plan ThreadBody). p.takes) its_calls_alone ∙ its_lines
