use Rattle.lwp_explore.specs.FoundText.{listed_line}
use Rattle.lwp_explore.specs.Sessions.{world_of}
use Rattle.std.proofs.Common.{drop, ◌++◌, ◌≡◌}
use Rattle.std.specs.List.{flat_map}
use Rattle.lwp_explore.proofs.ends.add_lines.Given as goal

abbrev pub invariant-loop-place : goal.invariant-loop-place
invariant-loop-place l = l.out.items ++ flat_map (listed_line (world_of l.machine.script) l.rows) (drop l.place l.kinds)
    ≡ l.initial.out.items ++ flat_map (listed_line (world_of l.machine.script) l.rows) l.kinds
