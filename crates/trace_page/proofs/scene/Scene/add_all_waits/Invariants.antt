use Rattle.std.proofs.Common.{◌≡◌, ◌++◌, drop}
use Rattle.std.specs.List.{flat_map}
use Rattle.trace_page.specs.Frame.{wait_line}
use Rattle.trace_page.proofs.scene.Scene.add_all_waits.Given as goal

abbrev pub invariant-loop-lane : goal.invariant-loop-lane
invariant-loop-lane l = l.out.items ++ flat_map (λ lane. wait_line l.self lane) (drop l.lane-index l.self.lanes)
    ≡ l.initial.out.items ++ flat_map (λ lane. wait_line l.self lane) l.self.lanes
