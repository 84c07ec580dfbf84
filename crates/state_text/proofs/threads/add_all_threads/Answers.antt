use Rattle.snapshots.specs.Copies.{row_in, state_in}
use Rattle.snapshots.specs.declared.pod.ThreadCopy.{ThreadCopy}
use Rattle.state_text.specs.Text.{belongings, thread_line, thread_lines}
use Rattle.std.proofs.Common.{ap, append_assoc, get_or, sym, ◌++◌, ◌∙◌, ◌≡◌}
use Rattle.std.proofs.lemmas.List.Folds.{flat_map-map}
use Rattle.trace_text.proofs.Loops.{no_more, one_more}
use Rattle.state_text.proofs.threads.add_all_threads.Goals as goal

pub loop-row-preserved : goal.loop-row-preserved
loop-row-preserved c =
    let s = state_in c.args.pod.now.state in
    let procs = c.args.cast.now.procs.now in
    let notes = c.args.cast.now.notes.now in
    let rows = c.args.pod.now.state.threads in
    let same : c.as_slice-row-items.result.now ≡ rows = c.as_slice-row-items.ensures in
    let d = c.row-item.result in
    one_more (λ (x : ThreadCopy). thread_lines procs notes s (row_in x)) c.loop-row.out.items _ rows c.loop-row.row-index
    c.loop-row.invariant c.add_belongings.new.out.items d (rw same at c.loop-row-test.true)
    (c.in_ok-add_belongings.ensures ∙ ap (λ o. o ++ belongings s (row_in d)) c.in_ok-add_thread.ensures
    ∙ append_assoc c.loop-row.out.items (thread_line procs notes s (row_in d)) (belongings s (row_in d))
    ∙ ap (λ x. c.loop-row.out.items ++ thread_lines procs notes s (row_in x)) (c.row-item.is ∙ ap (λ ls. get_or ls c.loop-row.row-index d) same))

pub returns : goal.returns
returns c =
    let s = state_in c.args.pod.now.state in
    let procs = c.args.cast.now.procs.now in
    let notes = c.args.cast.now.notes.now in
    let rows = c.args.pod.now.state.threads in
    let same : c.as_slice-row-items.result.now ≡ rows = c.as_slice-row-items.ensures in
    no_more (λ (x : ThreadCopy). thread_lines procs notes s (row_in x)) c.loop-row.out.items _ rows c.loop-row.row-index
    c.loop-row.invariant (rw same at c.loop-row-test.false)
    ∙ ap (λ l. c.args.out.now.items ++ l) (sym (flat_map-map (thread_lines procs notes s) row_in rows))
