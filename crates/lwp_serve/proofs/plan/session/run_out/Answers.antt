use Rattle.std.proofs.Common.{Err, rules, ◌∙◌, ap}
use Rattle.lwp_serve.proofs.Planning.PlanLaws.{broken-last, broken-of, came, finished, part-all, part-last, part-of, stopped-of, whole-of}
use Rattle.script_session.proofs.RunLaws.{on_err, told-before}
use Rattle.pod_runner.proofs.Appends.{cut_base, part_base, writes_base}
use Rattle.pod_runner.proofs.Rounds.{stream, tells-broke, tells-part, tells-wrote}
use Rattle.pod_runner.specs.Run.{trace_before, trace_of}
use Rattle.pod_runner.specs.Trace.{left_counts_from}
use Rattle.script_body.specs.Bodies.{bodies_of, body_next}
use Rattle.script_text.specs.Script.{proc_names}
use Rattle.trace_text.specs.Lines.{end_text}
use Rattle.trace_text.specs.declared.ends.Halt.{Halt}
use Rattle.lwp_serve.proofs.plan.session.run_out.Goals as goal

pub returns-in_err-halt-clause-part : goal.returns-in_err-halt-clause-part
returns-in_err-halt-clause-part g c =
    let opening = c.requires.opening in
    let so_far = came c.args.script.now c.args.turns c.args.played.now c.run.new.run c.args.gate.now c.run.new.gate opening
    c.requires.stocked c.run.ensures.does.ran.same c.run.ensures.begun c.run.ensures.does.ran.made in
    on_err c.from_residual.result _ (part-of c.args.script.now c.args.turns c.run.new.run c.run.new.gate (g.K.Sink.written c.args.sink.now)
    (g.K.Sink.written c.run.new.sink) so_far c.requires.posted
    (part_base (tells-part {T = Halt} (stream (g.K.Sink.written c.args.sink.now) (g.K.Sink.written c.run.new.sink) (g.K.Sink.faults c.args.sink.now)
    (g.K.Sink.faults c.run.new.sink))
    (trace_of body_next bodies_of proc_names c.args.played.now) (trace_before body_next bodies_of proc_names c.run.new.run)
    (trace_of body_next bodies_of proc_names c.run.new.run) (Err _) c.in_err-halt.ensures.does.ran.told)
    (g.K.Sink.written c.args.sink.now) (told-before c.args.script.now c.args.turns c.args.played.now (g.K.Sink.written c.args.sink.now) opening)))

pub returns-in_err-halt-clause-stopped : goal.returns-in_err-halt-clause-stopped
returns-in_err-halt-clause-stopped g c =
    let opening = c.requires.opening in
    let so_far = came c.args.script.now c.args.turns c.args.played.now c.run.new.run c.args.gate.now c.run.new.gate opening
    c.requires.stocked c.run.ensures.does.ran.same c.run.ensures.begun c.run.ensures.does.ran.made in
    λ is. stopped-of c.args.script.now c.args.turns c.run.new.run c.run.new.gate (g.K.Sink.written c.args.sink.now) (g.K.Sink.written c.run.new.sink) so_far
    (writes_base (tells-wrote (stream (g.K.Sink.written c.args.sink.now) (g.K.Sink.written c.run.new.sink) (g.K.Sink.faults c.args.sink.now)
    (g.K.Sink.faults c.run.new.sink))
    (trace_of body_next bodies_of proc_names c.args.played.now) (trace_before body_next bodies_of proc_names c.run.new.run)
    (trace_of body_next bodies_of proc_names c.run.new.run) c.run.result c.run.ensures.does.ran.told (search rules)).0
    (g.K.Sink.written c.args.sink.now) (told-before c.args.script.now c.args.turns c.args.played.now (g.K.Sink.written c.args.sink.now) opening))

pub returns-in_err-halt-clause-broken : goal.returns-in_err-halt-clause-broken
returns-in_err-halt-clause-broken g c =
    let opening = c.requires.opening in
    let so_far = came c.args.script.now c.args.turns c.args.played.now c.run.new.run c.args.gate.now c.run.new.gate opening
    c.requires.stocked c.run.ensures.does.ran.same c.run.ensures.begun c.run.ensures.does.ran.made in
    λ is. broken-of c.args.script.now c.args.turns c.run.new.run c.run.new.gate (g.K.Sink.written c.args.sink.now) (g.K.Sink.written c.run.new.sink) so_far
    (cut_base (tells-broke (stream (g.K.Sink.written c.args.sink.now) (g.K.Sink.written c.run.new.sink) (g.K.Sink.faults c.args.sink.now)
    (g.K.Sink.faults c.run.new.sink))
    (trace_of body_next bodies_of proc_names c.args.played.now) (trace_before body_next bodies_of proc_names c.run.new.run)
    (trace_of body_next bodies_of proc_names c.run.new.run) c.run.result c.run.ensures.does.ran.told (search rules)).0
    (g.K.Sink.written c.args.sink.now) (told-before c.args.script.now c.args.turns c.args.played.now (g.K.Sink.written c.args.sink.now) opening))

pub returns-in_err-left-clause-part : goal.returns-in_err-left-clause-part
returns-in_err-left-clause-part g c =
    let opening = c.requires.opening in
    let so_far = came c.args.script.now c.args.turns c.args.played.now c.run.new.run c.args.gate.now c.run.new.gate opening
    c.requires.stocked c.run.ensures.does.ran.same c.run.ensures.begun c.run.ensures.does.ran.made in
    on_err c.from_residual-in_err-left.result _ (part-all c.args.script.now c.args.turns c.run.new.run c.run.new.gate
    (g.K.Sink.written c.args.sink.now) (g.K.Sink.written c.run.new.sink) so_far c.requires.posted
    (writes_base c.in_ok-halt.ensures.does.ran.told.0 (g.K.Sink.written c.args.sink.now)
    (told-before c.args.script.now c.args.turns c.args.played.now (g.K.Sink.written c.args.sink.now) opening)))

pub returns-in_err-left-clause-stopped : goal.returns-in_err-left-clause-stopped
returns-in_err-left-clause-stopped g c =
    let opening = c.requires.opening in
    let so_far = came c.args.script.now c.args.turns c.args.played.now c.run.new.run c.args.gate.now c.run.new.gate opening
    c.requires.stocked c.run.ensures.does.ran.same c.run.ensures.begun c.run.ensures.does.ran.made in
    λ is. stopped-of c.args.script.now c.args.turns c.run.new.run c.run.new.gate (g.K.Sink.written c.args.sink.now) (g.K.Sink.written c.run.new.sink) so_far
    (writes_base c.in_ok-halt.ensures.does.ran.told.0 (g.K.Sink.written c.args.sink.now)
    (told-before c.args.script.now c.args.turns c.args.played.now (g.K.Sink.written c.args.sink.now) opening))

pub returns-in_err-tail-clause-part : goal.returns-in_err-tail-clause-part
returns-in_err-tail-clause-part g c =
    let opening = c.requires.opening in
    let so_far = came c.args.script.now c.args.turns c.args.played.now c.run.new.run c.args.gate.now c.run.new.gate opening
    c.requires.stocked c.run.ensures.does.ran.same c.run.ensures.begun c.run.ensures.does.ran.made in
    on_err c.from_residual-in_err-tail.result _ (part-all c.args.script.now c.args.turns c.run.new.run c.run.new.gate
    (g.K.Sink.written c.args.sink.now) (g.K.Sink.written c.run.new.sink) so_far c.requires.posted
    (writes_base c.in_ok-halt.ensures.does.ran.told.0 (g.K.Sink.written c.args.sink.now)
    (told-before c.args.script.now c.args.turns c.args.played.now (g.K.Sink.written c.args.sink.now) opening)))

pub returns-in_err-tail-clause-stopped : goal.returns-in_err-tail-clause-stopped
returns-in_err-tail-clause-stopped g c =
    let opening = c.requires.opening in
    let so_far = came c.args.script.now c.args.turns c.args.played.now c.run.new.run c.args.gate.now c.run.new.gate opening
    c.requires.stocked c.run.ensures.does.ran.same c.run.ensures.begun c.run.ensures.does.ran.made in
    λ is. stopped-of c.args.script.now c.args.turns c.run.new.run c.run.new.gate (g.K.Sink.written c.args.sink.now) (g.K.Sink.written c.run.new.sink) so_far
    (writes_base c.in_ok-halt.ensures.does.ran.told.0 (g.K.Sink.written c.args.sink.now)
    (told-before c.args.script.now c.args.turns c.args.played.now (g.K.Sink.written c.args.sink.now) opening))

pub returns-in-Ok-clause-whole : goal.returns-in-Ok-clause-whole
returns-in-Ok-clause-whole g c =
    let opening = c.requires.opening in
    let so_far = came c.args.script.now c.args.turns c.args.played.now c.run.new.run c.args.gate.now c.run.new.gate opening
    c.requires.stocked c.run.ensures.does.ran.same c.run.ensures.begun c.run.ensures.does.ran.made in
    let over = finished c.args.script.now c.args.turns c.args.played.now c.run.new.run c.args.gate.now c.run.new.gate c.in_ok-halt.halt
    so_far opening c.requires.stocked c.in_ok-halt.ensures.eager c.in_ok-halt.ensures.ends in
    let last = c.deref-2.ensures.value ∙ c.in_ok-tail.ensures
    ∙ ap (λ left. end_text c.args.turns left c.in_ok-halt.halt)
    (c.deref.ensures.value ∙ c.in_ok-left.ensures ∙ ap (λ clients. left_counts_from 0 clients c.run.new.gate) c.as_slice.ensures) in
    whole-of c.args.script.now c.args.turns c.run.new.run c.run.new.gate c.in_ok-halt.halt (g.K.Sink.written c.args.sink.now)
    (g.K.Sink.written c.run.new.sink) (g.K.Sink.written c.write_all.new.sink) c.deref-2.result.now over c.requires.posted
    (writes_base c.in_ok-halt.ensures.does.ran.told.0 (g.K.Sink.written c.args.sink.now)
    (told-before c.args.script.now c.args.turns c.args.played.now (g.K.Sink.written c.args.sink.now) opening))
    last c.in-Ok.ensures.ok

pub returns-clause-part : goal.returns-clause-part
returns-clause-part g c =
    let opening = c.requires.opening in
    let so_far = came c.args.script.now c.args.turns c.args.played.now c.run.new.run c.args.gate.now c.run.new.gate opening
    c.requires.stocked c.run.ensures.does.ran.same c.run.ensures.begun c.run.ensures.does.ran.made in
    let over = finished c.args.script.now c.args.turns c.args.played.now c.run.new.run c.args.gate.now c.run.new.gate c.in_ok-halt.halt
    so_far opening c.requires.stocked c.in_ok-halt.ensures.eager c.in_ok-halt.ensures.ends in
    let last = c.deref-2.ensures.value ∙ c.in_ok-tail.ensures
    ∙ ap (λ left. end_text c.args.turns left c.in_ok-halt.halt)
    (c.deref.ensures.value ∙ c.in_ok-left.ensures ∙ ap (λ clients. left_counts_from 0 clients c.run.new.gate) c.as_slice.ensures) in
    part-last c.args.script.now c.args.turns c.run.new.run c.run.new.gate c.in_ok-halt.halt (g.K.Sink.written c.args.sink.now)
    (g.K.Sink.written c.run.new.sink) (g.K.Sink.written c.write_all.new.sink) c.deref-2.result.now over c.requires.posted
    (writes_base c.in_ok-halt.ensures.does.ran.told.0 (g.K.Sink.written c.args.sink.now)
    (told-before c.args.script.now c.args.turns c.args.played.now (g.K.Sink.written c.args.sink.now) opening))
    last c.in-Err.ensures.err

pub returns-clause-broken : goal.returns-clause-broken
returns-clause-broken g c =
    let opening = c.requires.opening in
    let so_far = came c.args.script.now c.args.turns c.args.played.now c.run.new.run c.args.gate.now c.run.new.gate opening
    c.requires.stocked c.run.ensures.does.ran.same c.run.ensures.begun c.run.ensures.does.ran.made in
    let over = finished c.args.script.now c.args.turns c.args.played.now c.run.new.run c.args.gate.now c.run.new.gate c.in_ok-halt.halt
    so_far opening c.requires.stocked c.in_ok-halt.ensures.eager c.in_ok-halt.ensures.ends in
    let last = c.deref-2.ensures.value ∙ c.in_ok-tail.ensures
    ∙ ap (λ left. end_text c.args.turns left c.in_ok-halt.halt)
    (c.deref.ensures.value ∙ c.in_ok-left.ensures ∙ ap (λ clients. left_counts_from 0 clients c.run.new.gate) c.as_slice.ensures) in
    λ is. broken-last c.args.script.now c.args.turns c.run.new.run c.run.new.gate c.in_ok-halt.halt (g.K.Sink.written c.args.sink.now)
    (g.K.Sink.written c.run.new.sink) (g.K.Sink.written c.write_all.new.sink) c.deref-2.result.now over
    (writes_base c.in_ok-halt.ensures.does.ran.told.0 (g.K.Sink.written c.args.sink.now)
    (told-before c.args.script.now c.args.turns c.args.played.now (g.K.Sink.written c.args.sink.now) opening))
    last c.in-Err.ensures.err
