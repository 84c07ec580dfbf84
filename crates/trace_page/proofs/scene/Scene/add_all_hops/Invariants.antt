use Rattle.std.proofs.Common.{◌≡◌, ◌++◌, drop}
use Rattle.std.specs.List.{flat_map}
use Rattle.trace_page.specs.Frame.{hop_text}
use Rattle.trace_page.proofs.scene.Scene.add_all_hops.Given as goal

abbrev pub invariant-loop-hop : goal.invariant-loop-hop
invariant-loop-hop l = l.out.items ++ flat_map (λ hop. hop_text hop) (drop l.hop-index l.self.hops)
    ≡ l.initial.out.items ++ flat_map (λ hop. hop_text hop) l.self.hops
