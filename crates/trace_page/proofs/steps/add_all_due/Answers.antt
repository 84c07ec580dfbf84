use Rattle.std.proofs.Common.{append-nil, append_assoc, sym, ◌++◌, ◌∙◌}
use Rattle.std.proofs.lemmas.List.{at_drop_all, at_drop_more}
use Rattle.trace_page.proofs.steps.add_all_due.Goals as goal
use Rattle.trace_page.specs.Steps.{all_due}

pub loop-lane-preserved : goal.loop-lane-preserved
loop-lane-preserved c = rw c.in_ok-add_due.ensures (append_assoc c.loop-lane.out.items _ _
    ∙ (sym (at_drop_more (λ l. c.loop-lane.out.items ++ all_due c.args.lanes.now c.args.spans.now c.args.at l) c.args.lanes.now
    c.loop-lane.lane-index _ c.loop-lane-test.true)
    ∙ c.loop-lane.invariant))

pub returns : goal.returns
returns c = sym (append-nil c.loop-lane.out.items)
    ∙ (sym (at_drop_all (λ l. c.loop-lane.out.items ++ all_due c.args.lanes.now c.args.spans.now c.args.at l) c.args.lanes.now
    c.loop-lane.lane-index c.loop-lane-test.false)
    ∙ c.loop-lane.invariant)
