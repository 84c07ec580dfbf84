use Rattle.std.proofs.Common.{ap, ◌∙◌, ◌≡◌}
use Rattle.trace_text.proofs.Loops.{no_more, one_more}
use Rattle.trace_page.proofs.scene.Scene.add_all_waits.Goals as goal
use Rattle.trace_page.specs.Scene.{Seen}
use Rattle.trace_page.specs.Frame.{wait_line}

pub loop-lane-preserved : goal.loop-lane-preserved
loop-lane-preserved c =
    let same : c.as_slice-lane-items.result.now ≡ c.args.self.now.lanes = c.as_slice-lane-items.ensures.value ∙ ap (λ (s : Seen). s.lanes) c.self.view_is in
    one_more (wait_line c.args.self.now) c.loop-lane.out.items _ c.args.self.now.lanes c.loop-lane.lane-index c.loop-lane.invariant
    c.add_wait_line.new.out.items _ (rw same at c.loop-lane-test.true) (rw same at c.in_ok-add_wait_line.ensures)

pub returns : goal.returns
returns c =
    let same : c.as_slice-lane-items.result.now ≡ c.args.self.now.lanes = c.as_slice-lane-items.ensures.value ∙ ap (λ (s : Seen). s.lanes) c.self.view_is in
    no_more (wait_line c.args.self.now) c.loop-lane.out.items _ c.args.self.now.lanes c.loop-lane.lane-index c.loop-lane.invariant
    (rw same at c.loop-lane-test.false)
