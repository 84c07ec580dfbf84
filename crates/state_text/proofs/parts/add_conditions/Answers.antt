use Rattle.snapshots.specs.Copies.{state_in}
use Rattle.state_text.specs.Text.{condition_lines}
use Rattle.std.proofs.Common.{ap, get_or, ◌++◌, ◌∙◌, ◌≡◌}
use Rattle.trace_text.proofs.Loops.{no_more, one_more}
use Rattle.state_text.proofs.parts.add_conditions.Goals as goal

pub loop-row-preserved : goal.loop-row-preserved
loop-row-preserved c =
    let rows = c.args.pod.now.state.conditions in
    let line = condition_lines (state_in c.args.pod.now.state) in
    let same : c.as_slice-row-items.result.now ≡ rows = c.as_slice-row-items.ensures in
    one_more line c.loop-row.out.items _ rows c.loop-row.row-index c.loop-row.invariant c.add_condition.new.out.items c.row-item.result
    (rw same at c.loop-row-test.true)
    (c.in_ok-add_condition.ensures
    ∙ ap (λ x. c.loop-row.out.items ++ line x) (c.row-item.is ∙ ap (λ ls. get_or ls c.loop-row.row-index c.row-item.result) same))

pub returns : goal.returns
returns c =
    let rows = c.args.pod.now.state.conditions in
    let same : c.as_slice-row-items.result.now ≡ rows = c.as_slice-row-items.ensures in
    no_more (condition_lines (state_in c.args.pod.now.state)) c.loop-row.out.items _ rows c.loop-row.row-index c.loop-row.invariant
    (rw same at c.loop-row-test.false)
