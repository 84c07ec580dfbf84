use Rattle.std.proofs.Common.{◌≡◌, ◌++◌, drop}
use Rattle.std.specs.List.{flat_map}
use Rattle.trace_page.specs.Frame.{name_text}
use Rattle.trace_page.proofs.scene.Scene.add_all_names.Given as goal

abbrev pub invariant-loop-lane : goal.invariant-loop-lane
invariant-loop-lane l = l.out.items ++ flat_map (λ lane. name_text l.self lane) (drop l.lane-index l.self.lanes)
    ≡ l.initial.out.items ++ flat_map (λ lane. name_text l.self lane) l.self.lanes
