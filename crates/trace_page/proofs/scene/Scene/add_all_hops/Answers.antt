use Rattle.std.proofs.Common.{ap, ◌∙◌, ◌≡◌}
use Rattle.trace_text.proofs.Loops.{no_more, one_more}
use Rattle.trace_page.proofs.scene.Scene.add_all_hops.Goals as goal
use Rattle.trace_page.specs.Scene.{Seen}
use Rattle.trace_page.specs.Frame.{hop_text}

pub loop-hop-preserved : goal.loop-hop-preserved
loop-hop-preserved c =
    let same : c.as_slice-hop-items.result.now ≡ c.args.self.now.hops = c.as_slice-hop-items.ensures.value ∙ ap (λ (s : Seen). s.hops) c.self.view_is in
    one_more hop_text c.loop-hop.out.items _ c.args.self.now.hops c.loop-hop.hop-index c.loop-hop.invariant c.add_hop.new.out.items _
    (rw same at c.loop-hop-test.true) (rw same at c.in_ok-add_hop.ensures)

pub returns : goal.returns
returns c =
    let same : c.as_slice-hop-items.result.now ≡ c.args.self.now.hops = c.as_slice-hop-items.ensures.value ∙ ap (λ (s : Seen). s.hops) c.self.view_is in
    no_more hop_text c.loop-hop.out.items _ c.args.self.now.hops c.loop-hop.hop-index c.loop-hop.invariant (rw same at c.loop-hop-test.false)
